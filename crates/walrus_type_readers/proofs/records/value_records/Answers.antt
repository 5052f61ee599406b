use Rattle.std.proofs.Common.{◌∙◌, List, Some, sym, ap}
use Rattle.walrus_forms.specs.Records.{value_of as value_told}
use Rattle.walrus_known_sections.specs.wasm_sections.wasm_grammar.TypeWords.{value_of}
use Rattle.walrus_forms.specs.declared.value.ValType.{ValType}
use Rattle.walrus_type_readers.proofs.ToldLemmas.{told_more, told_not, told_plain}
use Rattle.walrus_type_readers.proofs.records.value_records.Goals as goal

pub returns-in_default : goal.returns-in_default
returns-in_default c = sym (told_not value_of _ _ c.ty-item.result c.loop-ty-test.true (ap value_of (sym c.ty-item.is) ∙ sym c.in_default.ensures))

pub loop-ty-preserved : goal.loop-ty-preserved
loop-ty-preserved c = told_more value_of value_told _ _ c.ty-item.result c.in-Some.record _ _ c.loop-ty-test.true c.ty-item.is c.in-Some.ensures c.loop-ty.invariant c.in_ok-push.ensures.items

pub returns-then-not-has_ref : goal.returns-then-not-has_ref
returns-then-not-has_ref c = ap (λ (types : List ValType). Some types) c.in_ok-records.ensures ∙ told_plain c.args.types.now cc
