-- What is due for types is the type section of the groups.
use Rattle.std.specs.Prelude.{List, map}
use Rattle.wasm_features.specs.declared.WasmFeatures.{WasmFeatures}
use Rattle.wasm_sections.specs.Sections.{TypeSection}
use Rattle.wasm_module_bytes.specs.Due.{group_from}
use Rattle.wasm_canonical.specs.Due.{section_if}
use Rattle.walrus_forms.specs.Records.{TypeGroup}
use Rattle.walrus_emit_due.specs.Types.{type_section}
use Rattle.walrus_due_laws.specs.Spelled.{SpelledAs, spelled}

abbrev pub TypesAreSpelled : Type 0
TypesAreSpelled = (features : WasmFeatures) (groups : List TypeGroup) → SpelledAs (type_section groups) (spelled features (section_if TypeSection (map group_from groups)))
