use Rattle.std.proofs.Common.{◌∙◌, List, sym, ap, subst}
use Rattle.std.specs.Prelude.{OnOk}
use Rattle.walrus_instr.specs.declared.seq.InstrSeq.{InstrSeq}
use Rattle.walrus_references.specs.walrus_builder.Functions.{seqs_of}
use Rattle.walrus_references.specs.walrus_module_items.declared.function.FunctionKind.{FunctionKind}
use Rattle.walrus_marks.specs.Chains.{Meets}
use Rattle.walrus_references.specs.References.{BodyNames, KindNames}
use Rattle.walrus_used.proofs.module_names.meet_kind.Goals as goal

pub returns-in-Local : goal.returns-in-Local
returns-in-Local c =
    subst (λ (k : FunctionKind). OnOk c.meet_body.result (Meets (KindNames k) c.args.marks.now c.meet_body.new.marks)) (sym c.in-Local.is)
    (subst (λ (b : List InstrSeq). OnOk c.meet_body.result (Meets (BodyNames b) c.args.marks.now c.meet_body.new.marks)) (c.seqs.ensures ∙ ap seqs_of c.builder.ensures) c.meet_body.ensures)
