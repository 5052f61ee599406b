-- Files with sections `name` and `producers`: the modules with the names and the producers that these say, in place of the sections.
use Rattle.std.specs.Prelude.{ℕ, ◌≡◌, List, [], ◌∷◌, map}
use Rattle.wasm_grammar.specs.Modules.{Module}
use Rattle.wasm_name_payloads.specs.Names.{section_name}
use Rattle.wasm_name_payloads.specs.Producers.{section_name as producers_name}
use Rattle.wasm_name_payloads.specs.Written.{payload_bytes, producers_bytes}
use Rattle.wasm_named_modules.specs.Modules.{with_payloads}
use Rattle.wasm_module_rows.specs.Named.{bare, files, just_a, just_b, local_x, one_local}
use Rattle.wasm_module_rows.specs.Read.{custom, simple}

-- ---- payloads: names of a function and of the module, as they are written; names out of order, one given twice, and as they are written
abbrev pub written_m_and_b : List ℕ
written_m_and_b = 0x00 ∷ 0x02 ∷ 0x01 ∷ 0x6d ∷ 0x01 ∷ 0x04 ∷ 0x01 ∷ 0x00 ∷ 0x01 ∷ 0x62 ∷ []

abbrev pub b_a_c : List ℕ
b_a_c = 0x01 ∷ 0x0a ∷ 0x03 ∷ 0x01 ∷ 0x01 ∷ 0x62 ∷ 0x00 ∷ 0x01 ∷ 0x61 ∷ 0x01 ∷ 0x01 ∷ 0x63 ∷ []

abbrev pub written_a_c : List ℕ
written_a_c = 0x01 ∷ 0x07 ∷ 0x02 ∷ 0x00 ∷ 0x01 ∷ 0x61 ∷ 0x01 ∷ 0x01 ∷ 0x63 ∷ []

-- ---- a field; the same, and one that is cut; the fields of both
abbrev pub field_a : List ℕ
field_a = 0x01 ∷ 0x01 ∷ 0x61 ∷ 0x01 ∷ 0x01 ∷ 0x62 ∷ 0x01 ∷ 0x63 ∷ []

abbrev pub cut_field : List ℕ
cut_field = 0x02 ∷ 0x01 ∷ 0x61 ∷ 0x01 ∷ 0x01 ∷ 0x62 ∷ 0x01 ∷ 0x63 ∷ 0x01 ∷ 0x61 ∷ 0x01 ∷ 0x01 ∷ []

abbrev pub twice_a : List ℕ
twice_a = 0x02 ∷ 0x01 ∷ 0x61 ∷ 0x01 ∷ 0x01 ∷ 0x62 ∷ 0x01 ∷ 0x63 ∷ 0x01 ∷ 0x61 ∷ 0x01 ∷ 0x01 ∷ 0x62 ∷ 0x01 ∷ 0x63 ∷ []

-- two functions, names and producers in two sections each, and another section between them
abbrev pub mixed : Module
mixed = record (simple 0 (bare ∷ bare ∷ [])) { customs = custom producers_name field_a ∷ custom section_name b_a_c ∷ custom (0x78 ∷ []) (0x2a ∷ []) ∷ custom section_name [] ∷ custom producers_name cut_field ∷ [] }

abbrev pub with_names : List Module
with_names = mixed ∷ map (λ r. r.1) files

abbrev pub bare_ones : List Module
bare_ones = simple 0 (bare ∷ []) ∷ simple 0 (bare ∷ []) ∷ simple 0 (bare ∷ []) ∷ simple 0 (bare ∷ []) ∷ simple 0 (bare ∷ []) ∷ simple 0 (bare ∷ []) ∷ []

pub record ModulesAreNamed : Type 0 where
  -- the modules without these sections
  pub items : map (λ m. (with_payloads m).items) with_names ≡ (record (simple 0 (bare ∷ bare ∷ [])) { customs = custom (0x78 ∷ []) (0x2a ∷ []) ∷ [] }) ∷ simple 0 (one_local ∷ []) ∷ bare_ones
  -- the last names, as they are written
  pub names : map (λ m. payload_bytes (with_payloads m).names) with_names ≡ written_a_c ∷ local_x ∷ just_a ∷ just_a ∷ [] ∷ [] ∷ just_b ∷ written_m_and_b ∷ []
  pub producers : producers_bytes (with_payloads mixed).producers ≡ twice_a
