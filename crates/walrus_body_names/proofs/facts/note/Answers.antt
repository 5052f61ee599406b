use Rattle.std.proofs.Common.{subst, List, ℕ, ◌++◌}
use Rattle.walrus_body_names.specs.Names.{HaveSame, local_in}
use Rattle.walrus_body_names.proofs.facts.note.Goals as goal

pub returns-then-is_told-clause-told : goal.returns-then-is_told-clause-told
returns-then-is_told-clause-told c = subst (λ (z : List ℕ). HaveSame z (z ++ local_in c.args.instr.now)) c.as_slice.ensures.value c.if-is_told.ensures.told
