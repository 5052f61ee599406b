-- The payload of the section `producers` (WebAssembly tool conventions), and the entry of this tool.
use Rattle.std.specs.Prelude.{ℕ, ◌≡◌, List, [], ◌∷◌, Option, Some, None, if◌then◌else◌}
use Rattle.std.specs.List.{flat_map}
use Rattle.std.proofs.Common.{ap}
pub use Rattle.wasm_producers.specs.Entries.{Value, Field, with_value, with_entry}
use Rattle.wasm_formats.specs.Formats.{Format}
use Rattle.wasm_formats.specs.Joined.{after, built}
use Rattle.wasm_formats.specs.Lists.{vec}
use Rattle.wasm_body_grammar.specs.wasm_grammar.Modules.{Custom, Module}
use Rattle.wasm_name_payloads.specs.Keepers.{Keeper, one}
use Rattle.wasm_name_payloads.specs.Names.{text, counted, same_name}

-- ---- reading: a vec of fields, of which whole ones before the first fault are kept

abbrev pub value_of : List ℕ × List ℕ → Value
value_of p = record { name = p.0; version = p.1 }

pub value_once : (x y : List ℕ × List ℕ) → value_of x ≡ value_of y → x ≡ y
value_once x y e = ap (λ (v : Value). (v.name, v.version)) e

abbrev pub value : Format Value
value = built (after text (λ _. text)) value_of value_once

abbrev pub field_of : List ℕ × List Value → Field
field_of p = record { name = p.0; values = p.1 }

pub field_once : (x y : List ℕ × List Value) → field_of x ≡ field_of y → x ≡ y
field_once x y e = ap (λ (f : Field). (f.name, f.values)) e

abbrev pub field : Format Field
field = built (after text (λ _. vec (λ (s : Unit {0}) _. s) (λ _. value) tt)) field_of field_once

abbrev pub fields : Keeper Field
fields = counted (one field)

abbrev pub producers_in : List ℕ → List Field
producers_in bytes = (fields.keeps bytes).items

-- p, r, o, d, u, c, e, r, s
abbrev pub section_name : List ℕ
section_name = 0x70 ∷ 0x72 ∷ 0x6f ∷ 0x64 ∷ 0x75 ∷ 0x63 ∷ 0x65 ∷ 0x72 ∷ 0x73 ∷ []

abbrev pub producers_if : Option Custom → List Field
producers_if None = []
producers_if (Some c) = if same_name c.name section_name then producers_in c.bytes else []

-- several sections append
abbrev pub producers_of : Module → List Field
producers_of m = flat_map producers_if m.customs

-- ---- the entry of this tool

-- `processed-by`, `walrus`, `0.28.0`
abbrev pub processed_by : List ℕ
processed_by = 0x70 ∷ 0x72 ∷ 0x6f ∷ 0x63 ∷ 0x65 ∷ 0x73 ∷ 0x73 ∷ 0x65 ∷ 0x64 ∷ 0x2d ∷ 0x62 ∷ 0x79 ∷ []

abbrev pub walrus : List ℕ
walrus = 0x77 ∷ 0x61 ∷ 0x6c ∷ 0x72 ∷ 0x75 ∷ 0x73 ∷ []

abbrev pub version : List ℕ
version = 0x30 ∷ 0x2e ∷ 0x32 ∷ 0x38 ∷ 0x2e ∷ 0x30 ∷ []

abbrev pub processed : List Field → List Field
processed fields = with_entry processed_by walrus version fields
