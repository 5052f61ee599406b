use Rattle.walrus_type_index.proofs.flat.+split.Given as goal

abbrev pub decreases-split : goal.decreases-split
decreases-split l = l.fuel
