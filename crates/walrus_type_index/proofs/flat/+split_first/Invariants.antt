use Rattle.walrus_type_index.proofs.flat.+split_first.Given as goal

abbrev pub decreases-split_first : goal.decreases-split_first
decreases-split_first l = l.fuel
