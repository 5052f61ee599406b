use Rattle.walrus_type_index.proofs.flat.+take.Given as goal

abbrev pub decreases-take : goal.decreases-take
decreases-take l = l.fuel
