use Rattle.walrus_refusals.specs.Written.{MayName}
use Rattle.walrus_refusals.proofs.GroupedLemmas.{FirstAre}
use Rattle.walrus_refusals.proofs.grouped.may_name_all.Given as goal

abbrev pub invariant-loop-name : goal.invariant-loop-name
invariant-loop-name l = FirstAre (MayName l.types l.id) l.names l.name-index
