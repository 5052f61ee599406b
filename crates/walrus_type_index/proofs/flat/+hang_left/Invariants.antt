use Rattle.walrus_type_index.proofs.flat.+hang_left.Given as goal

abbrev pub decreases-hang_left : goal.decreases-hang_left
decreases-hang_left l = l.fuel
