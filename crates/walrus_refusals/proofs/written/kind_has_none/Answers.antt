use Rattle.std.proofs.Common.{◌∙◌, Decides, IfOk, List, sym, ap, subst}
use Rattle.walrus_instr.specs.declared.seq.InstrSeq.{InstrSeq}
use Rattle.walrus_builder.specs.Functions.{seqs_of}
use Rattle.walrus_used.specs.walrus_module.walrus_module_items.declared.function.FunctionKind.{FunctionKind}
use Rattle.walrus_refusals.specs.Written.{BodyHasNone, KindHasNone}
use Rattle.walrus_refusals.proofs.written.kind_has_none.Goals as goal

pub returns-in-Local : goal.returns-in-Local
returns-in-Local c =
    subst (λ (k : FunctionKind). IfOk c.body_has_none.result (λ ok. Decides ok (KindHasNone k))) (sym c.in-Local.is)
    (subst (λ (b : List InstrSeq). IfOk c.body_has_none.result (λ ok. Decides ok (BodyHasNone b))) (c.seqs.ensures ∙ ap seqs_of c.builder.ensures) c.body_has_none.ensures)
