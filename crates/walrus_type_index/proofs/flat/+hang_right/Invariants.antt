use Rattle.walrus_type_index.proofs.flat.+hang_right.Given as goal

abbrev pub decreases-hang_right : goal.decreases-hang_right
decreases-hang_right l = l.fuel
