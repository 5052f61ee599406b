use Rattle.walrus_type_index.proofs.flat.+put.Given as goal

abbrev pub decreases-put : goal.decreases-put
decreases-put l = l.fuel
