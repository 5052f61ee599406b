use Rattle.walrus_type_index.proofs.flat.+unmarked.Given as goal

abbrev pub decreases-unmarked : goal.decreases-unmarked
decreases-unmarked l = l.fuel
