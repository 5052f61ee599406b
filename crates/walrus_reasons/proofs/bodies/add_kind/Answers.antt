use Rattle.std.proofs.Common.{◌∙◌, List, sym, ap, subst}
use Rattle.std.specs.Prelude.{OnOk}
use Rattle.walrus_instr.specs.declared.seq.InstrSeq.{InstrSeq}
use Rattle.walrus_used.specs.walrus_references.walrus_builder.Functions.{seqs_of}
use Rattle.walrus_used.specs.walrus_module_items.declared.function.FunctionKind.{FunctionKind}
use Rattle.walrus_used.specs.walrus_references.References.{BodyNames, KindNames}
use Rattle.walrus_reasons.specs.Added.{Adds}
use Rattle.walrus_reasons.proofs.bodies.add_kind.Goals as goal

pub returns-in-Local : goal.returns-in-Local
returns-in-Local c =
    subst (λ (k : FunctionKind). OnOk c.add_body.result (Adds (KindNames k) c.args.named.now.items c.add_body.new.named.items)) (sym c.in-Local.is)
    (subst (λ (b : List InstrSeq). OnOk c.add_body.result (Adds (BodyNames b) c.args.named.now.items c.add_body.new.named.items)) (c.seqs.ensures ∙ ap seqs_of c.builder.ensures) c.add_body.ensures)
