-- Custom sections (Core Specification, binary format: custom section).
use Rattle.std.specs.Prelude.{ℕ, ◌||◌, ◌&&◌, Bool, true, false, not, List, [], ◌∷◌, ◌++◌, length, Option, Some, None, nat_eq, if◌then◌else◌, string_bytes}
use Rattle.std.specs.List.{flat_map, starts_with}
use Rattle.std.specs.Str.{bytes_eq}
use Rattle.wasm_formats.specs.declared.fault.Limited.TheVariants.{String}
use Rattle.walrus_arena.specs.Arena.{Arena, ids, item_at}
use Rattle.walrus_errors.specs.declared.error.ModuleError.TheVariants.{SectionRefused}
use Rattle.walrus_sections.specs.Sections.{name_in}
use Rattle.walrus_sections.specs.declared.section.Section.{Section}
use Rattle.walrus_sections.specs.declared.section.Section.TheVariants.{Raw, Boxed}
use Rattle.walrus_emit_parts.specs.Due.{Due, lacking, limited, section, text, written}

-- a name, of as many bytes as a reader takes, and contents
abbrev pub named : (name contents : List ℕ) → Due
named name contents = limited 100000 (length name) String (text name) ++ written contents

abbrev pub custom : (name contents : List ℕ) → Due
custom name contents = section 0 (named name contents)

-- a section of a program's own, which may refuse to say what is in it
abbrev pub told : (name : List ℕ) → Option (List ℕ) → Due
told name None = lacking SectionRefused
told name (Some contents) = custom name contents

-- "dylink" and "dylink.0", which a dynamic linker looks for in front of all standard sections (WebAssembly tool conventions)
abbrev pub is_first : List ℕ → Bool
is_first name = bytes_eq name (0x64 ∷ 0x79 ∷ 0x6c ∷ 0x69 ∷ 0x6e ∷ 0x6b ∷ []) || bytes_eq name (0x64 ∷ 0x79 ∷ 0x6c ∷ 0x69 ∷ 0x6e ∷ 0x6b ∷ 0x2e ∷ 0x30 ∷ [])

-- ".debug": what places in code as it was can't follow it
abbrev pub is_skipped : List ℕ → Bool
is_skipped name = starts_with nat_eq name (0x2e ∷ 0x64 ∷ 0x65 ∷ 0x62 ∷ 0x75 ∷ 0x67 ∷ [])

-- it is written among those that stand first, or among the others
abbrev pub stands : (first : Bool) → (name : List ℕ) → Bool
stands true name = is_first name
stands false name = not (is_first name) && not (is_skipped name)

abbrev pub stands_at : {B : Type 0} → (B → List ℕ) → Bool → Option (Section B) → Bool
stands_at names first None = false
stands_at names first (Some s) = stands first (name_in names s)

module _ {B : Type 0} (names : B → List ℕ) (contents : B → Option (List ℕ)) where
  abbrev pub section_due : Section B → Due
  section_due (Raw s) = custom (string_bytes s.name) s.bytes.items
  section_due (Boxed b) = told (names b) (contents b)

  -- of one id
  abbrev pub any_due : Option (Section B) → Due
  any_due None = []
  any_due (Some s) = section_due s

  abbrev pub standing_due : Bool → Option (Section B) → Due
  standing_due first section = if stands_at names first section then any_due section else []

  -- those that stand first, or the others, by rising id
  abbrev pub customs : Bool → Arena (Section B) → Due
  customs first a = flat_map (λ id. standing_due first (item_at a id)) (ids a)
