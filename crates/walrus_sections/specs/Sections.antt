-- Custom sections under ids, as contracts see them: a finite map from live ids to raw or boxed ones.
use Rattle.std.specs.Prelude.{◌≡◌, ℕ, Bool, false, List, [], ◌∷◌, ◌++◌, Option, Some, None, IsSome, slice_set, string_bytes}
use Rattle.std.specs.Option.{option_and_then}
use Rattle.std.specs.Str.{bytes_eq}
use Rattle.walrus_arena.specs.Arena.{Arena, item_at}
use Rattle.walrus_roots.specs.declared.item.Item.{Item}
use Rattle.walrus_customs.specs.declared.customs.RawCustomSection.{RawCustomSection}
use Rattle.walrus_sections.specs.declared.section.Section.{Section}
use Rattle.walrus_sections.specs.declared.section.Section.TheVariants.{Raw, Boxed}

-- some items, and others behind them; none where one of the two refused
abbrev pub behind : Option (List Item) → Option (List Item) → Option (List Item)
behind None later = None
behind (Some items) None = None
behind (Some items) (Some later) = Some (items ++ later)

-- the slots, where the one of this id is dead
abbrev pub without : {T : Type 0} → Option ℕ → List (Option T) → List (Option T)
without None slots = slots
without (Some id) slots = slice_set slots id None

module _ {B : Type 0} where
  abbrev pub raw_of : Section B → Option RawCustomSection
  raw_of (Raw section) = Some section
  raw_of (Boxed section) = None

  abbrev pub boxed_of : Section B → Option B
  boxed_of (Raw section) = None
  boxed_of (Boxed section) = Some section

  abbrev pub IsBoxed : Section B → Type 0
  IsBoxed section = IsSome (boxed_of section)

  -- the raw section of a live id, if it is one
  abbrev pub raw_at : Arena (Section B) → ℕ → Option RawCustomSection
  raw_at sections id = option_and_then raw_of (item_at sections id)

  -- the boxed section of a live id, if it is one
  abbrev pub boxed_at : Arena (Section B) → ℕ → Option B
  boxed_at sections id = option_and_then boxed_of (item_at sections id)

  -- the section is a raw one of this name
  abbrev pub is_raw_named : List ℕ → Section B → Bool
  is_raw_named name (Raw section) = bytes_eq (string_bytes section.name) name
  is_raw_named name (Boxed section) = false

  -- its name, where boxed ones have these
  abbrev pub name_in : (B → List ℕ) → Section B → List ℕ
  name_in names (Raw section) = string_bytes section.name
  name_in names (Boxed section) = names section

  module _ (roots : B → Option (List Item)) where
    -- the items that it keeps, where boxed ones keep these: a raw one keeps none
    abbrev pub pushed_by : Section B → Option (List Item)
    pushed_by (Raw section) = Some []
    pushed_by (Boxed section) = roots section

    -- the items that these sections keep, those of each behind those of the sections before it; none where one refuses
    abbrev pub pushed : List (ℕ × Section B) → Option (List Item)
    pushed [] = Some []
    pushed (entry ∷ entries) = behind (pushed_by entry.1) (pushed entries)

-- the raw section has this name and these bytes
pub record IsRaw (name bytes : List ℕ) (section : RawCustomSection) : Type 0 where
  pub named : string_bytes section.name ≡ name
  pub holds : section.bytes.items ≡ bytes

-- such a section is added
abbrev pub AddsRaw : {B : Type 0} → List ℕ → List ℕ → List (Option (Section B)) → List (Option (Section B)) → Type 0
AddsRaw name bytes old new = (section : RawCustomSection) × IsRaw name bytes section × (new ≡ old ++ Some (Raw section) ∷ [])
