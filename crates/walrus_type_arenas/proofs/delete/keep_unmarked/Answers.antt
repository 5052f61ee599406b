use Rattle.std.proofs.Common.{rules}
use Rattle.std.proofs.lemmas.Fn.{filter_same}
use Rattle.walrus_type_arenas.proofs.delete.keep_unmarked.Goals as goal

pub returns-clause-members : goal.returns-clause-members
returns-clause-members c = filter_same _ _ _ (λ x b f' k. search rules) _ _ c.retain.ensures.filtered
