-- The custom sections of a file, as they were read.
use Rattle.std.specs.Prelude.{◌≡◌, List, map, Option, Some}
use Rattle.walrus_known_sections.specs.Items.{custom_of}
use Rattle.walrus_known_sections.specs.declared.items.Custom.{Custom}
use Rattle.wasm_body_grammar.specs.wasm_grammar.Modules.{Custom as Read, Module}

-- slots that are all filled
abbrev pub customs_of : List Custom → List (Option Read)
customs_of customs = map (λ c. Some (custom_of c)) customs

-- they are those of the module
abbrev pub AreCustoms : Module → List Custom → Type 0
AreCustoms m customs = m.customs ≡ customs_of customs
