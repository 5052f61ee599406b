use Rattle.std.proofs.Common.{◌≡◌, map, take, Some}
use Rattle.walrus_forms.specs.Records.{value_of as value_told}
use Rattle.walrus_known_sections.specs.wasm_sections.wasm_grammar.TypeWords.{value_of}
use Rattle.walrus_known_sections.specs.wasm_sections.TypeNames.{told_all}
use Rattle.walrus_type_readers.proofs.records.value_records.Given as goal

abbrev pub invariant-loop-ty : goal.invariant-loop-ty
invariant-loop-ty l = told_all value_of (take l.ty-index l.types) ≡ Some (map value_told l.records.items)
