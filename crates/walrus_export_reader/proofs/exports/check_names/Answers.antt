use Rattle.std.proofs.Common.{arith, subst, sym}
use Rattle.std.specs.Prelude.{Err}
use Rattle.walrus_section_values.specs.walrus_section_reader.declared.fault.Fault.{Fault}
use Rattle.walrus_export_reader.specs.Repeats.{names_of}
use Rattle.walrus_export_reader.specs.Verdicts.{Checks}
use Rattle.walrus_export_reader.proofs.Judged.{names_new, name_twice}
use Rattle.walrus_export_reader.proofs.exports.check_names.Goals as goal

pub returns-then-first-len-clause-names : goal.returns-then-first-len-clause-names
returns-then-first-len-clause-names c =
    subst (λ (e : Fault). Checks (names_of c.args.sections.now.exports.items) c.args.from c.args.places.now (Err e)) (sym c.new.ensures)
    (name_twice c.args.sections.now.exports.items c.as_slice.result.now c.args.from c.in_ok-first.first c.len.result c.args.places.now c.as_slice.ensures.value c.in_ok-first.ensures c.requires
    (omega (arith, c.len.ensures, c.args.sections.now.exports.ok.0)) c.if-first-len.true)

pub returns-clause-names : goal.returns-clause-names
returns-clause-names c =
    names_new c.args.sections.now.exports.items c.as_slice.result.now c.args.from c.in_ok-first.first c.len.result c.args.places.now c.as_slice.ensures.value c.in_ok-first.ensures c.requires
    (omega (arith, c.len.ensures, c.args.sections.now.exports.ok.0)) c.if-first-len.false
