use Rattle.std.specs.Prelude.{ℕ, is_some}
use Rattle.std.proofs.Common.{◌∙◌, sym}
use Rattle.walrus_sections.specs.Sections.{boxed_at}
use Rattle.walrus_emit_customs.specs.Told.{has_boxed}
use Rattle.walrus_emit.proofs.ToldLemmas.{any_here}
use Rattle.walrus_emit.proofs.whole.has_own.Goals as goal

pub returns-then-is_own : goal.returns-then-is_own
returns-then-is_own g c =
    any_here (λ (id : ℕ). is_some (boxed_at c.args.input.now.customs id)) c.loop-id.id-iterator c.next.new.self c.in-Some.id (has_boxed c.args.input.now.customs) c.in-Some.ensures.steps
    (sym c.is_own.ensures ∙ c.if-is_own.true) c.loop-id.invariant.rest
