-- Limits of sections: one more than a list may have is refused, and what there is room for isn't.
use Rattle.std.specs.Prelude.{ℕ, ◌<◌, ◌≤◌, ◌≡◌, nat_le, Bool, true, false, List, [], ◌∷◌, length, map, Some, None, refl}
use Rattle.std.specs.List.{list_any}
use Rattle.std.proofs.Common.{inl, inr}
use Rattle.std.proofs.lemmas.Bool.{lt-ltb, le-ltb}
use Rattle.wasm_features.specs.declared.WasmFeatures.{WasmFeatures}
use Rattle.wasm_modules.specs.wasm_types.declared.subtype.SubType.{SubType}
use Rattle.wasm_formats.specs.declared.fault.Space.{Space}
use Rattle.wasm_formats.specs.declared.fault.Space.TheVariants as spaces
use Rattle.wasm_formats.specs.declared.fault.Limited.{Limited}
use Rattle.wasm_formats.specs.declared.fault.Limited.TheVariants as limits
use Rattle.wasm_formats.specs.Stops.{Limit, stop}
use Rattle.wasm_formats.specs.Formats.{Format, Stands}
use Rattle.wasm_formats.specs.Joined.{after}
use Rattle.wasm_file_formats.specs.Rooms.{if_room}
use Rattle.wasm_modules.specs.wasm_body_grammar.wasm_grammar.Exprs.{expr}
use Rattle.wasm_modules.specs.wasm_body_grammar.wasm_grammar.States.{State, count_of, most, limited, known, function_type, has_room, room_test}
use Rattle.wasm_modules.specs.wasm_sections.TypeNames.{sub_names, kind_of}
use Rattle.wasm_modules.specs.wasm_sections.TypeSection.{is_told, sub_test}
use Rattle.wasm_modules.specs.wasm_sections.Entities.{ImportEntry, import_test, function_entry, tag_type, tag_entry, global_type, global_entry}
use Rattle.wasm_modules.specs.wasm_sections.Exports.{has_name, name_test}
use Rattle.wasm_modules.specs.wasm_sections.Segments.{element_flags, element_form, element_entry, data_flags, data_form, data_entry}

-- a value stands at the front of the bytes, and meets its rules
abbrev pub StandsThere : {A : Type 0} → Format A → List ℕ → Type 0
StandsThere {A} f bytes = (x : A) × (later : List ℕ) × Stands f.spells f.rules bytes later x

pub record LimitsHold : Type 0 where
  pub numbers : map most (spaces.Type ∷ spaces.Function ∷ spaces.Table ∷ spaces.Memory ∷ spaces.Tag ∷ spaces.Global ∷ spaces.Element ∷ spaces.Data ∷ [])
      ≡ 1000000 ∷ 1000000 ∷ 100 ∷ 100 ∷ 1000000 ∷ 1000000 ∷ 100000 ∷ 100000 ∷ []
  pub room : (s : State) (space : Space) → count_of s.filled space < most space → room_test s space ≡ None
  pub none : (s : State) (space : Space) → most space ≤ count_of s.filled space → room_test s space ≡ Some (Limit (limited space))
  -- types whose names are there and that are told, imports, and exports whose names are new
  pub types : (end n : ℕ) (ty : SubType) → list_any (λ name. nat_le end name) (sub_names ty) ≡ false → is_told (kind_of ty) ≡ true → 1000000 ≤ n → sub_test end n ty ≡ Some (Limit limits.Types)
  pub imports : (s : State) (x : ImportEntry) → 1000000 ≤ length s.filled.imports → import_test s x ≡ Some (Limit limits.Imports)
  pub exports : (s : State) (name : List ℕ) → list_any (has_name name) s.filled.exports ≡ false → 1000000 ≤ length s.filled.exports → name_test s name ≡ Some (Limit limits.Exports)
  -- what stands there whole is refused at its first byte
  pub functions : (s : State) (bytes : List ℕ) → StandsThere (function_type s) bytes → 1000000 ≤ length s.filled.functions → (function_entry s).stops bytes (stop (Limit limits.Functions) (length bytes))
  pub tags : (s : State) (bytes : List ℕ) → StandsThere (tag_type s) bytes → 1000000 ≤ length s.filled.tags → (tag_entry s).stops bytes (stop (Limit limits.Tags) (length bytes))
  pub globals : (features : WasmFeatures) (s : State) (bytes : List ℕ) → StandsThere (after (global_type features s) (λ _. expr features (known s))) bytes → 1000000 ≤ length s.filled.globals
      → (global_entry features s).stops bytes (stop (Limit limits.Globals) (length bytes))
  pub elements : (features : WasmFeatures) (s : State) (bytes : List ℕ) → StandsThere (after (element_flags s) (λ flags. element_form features s flags)) bytes → 100000 ≤ length s.filled.elements
      → (element_entry features s).stops bytes (stop (Limit limits.Elements) (length bytes))
  pub segments : (features : WasmFeatures) (s : State) (bytes : List ℕ) → StandsThere (after (data_flags s) (λ flags. data_form features s flags)) bytes → 100000 ≤ length s.filled.segments
      → (data_entry features s).stops bytes (stop (Limit limits.Data) (length bytes))

-- ---- proofs

full_stops : {A : Type 0} (room : Bool) (of : Limited) (f : Format A) (bytes : List ℕ) → room ≡ false → StandsThere f bytes → (if_room room of f).stops bytes (stop (Limit of) (length bytes))
full_stops true of f bytes e h = absurd cc
full_stops false of f bytes e h = inr (inl (h.0, h.1, h.2, tt), refl)

pub limits_hold : LimitsHold
limits_hold = record {
  numbers = refl;
  room = λ s space lt. rw (lt-ltb (count_of s.filled space) (most space) lt) refl;
  none = λ s space le. rw (le-ltb (count_of s.filled space) (most space) le) refl;
  types = λ end n ty names told le. rw (names, told, le-ltb n 1000000 le) refl;
  imports = λ s x le. rw (le-ltb (length s.filled.imports) 1000000 le) refl;
  exports = λ s name new le. rw (new, le-ltb (length s.filled.exports) 1000000 le) refl;
  functions = λ s bytes h le. inr (h.0, h.1, h.2, (Limit limits.Functions, rw (le-ltb (length s.filled.functions) 1000000 le) refl, refl));
  tags = λ s bytes h le. full_stops (has_room s spaces.Tag) limits.Tags (tag_type s) bytes (le-ltb (length s.filled.tags) 1000000 le) h;
  globals = λ features s bytes h le.
      full_stops (has_room s spaces.Global) limits.Globals (after (global_type features s) (λ _. expr features (known s))) bytes (le-ltb (length s.filled.globals) 1000000 le) h;
  elements = λ features s bytes h le.
      full_stops (has_room s spaces.Element) limits.Elements (after (element_flags s) (λ flags. element_form features s flags)) bytes (le-ltb (length s.filled.elements) 100000 le) h;
  segments = λ features s bytes h le.
      full_stops (has_room s spaces.Data) limits.Data (after (data_flags s) (λ flags. data_form features s flags)) bytes (le-ltb (length s.filled.segments) 100000 le) h;
}
