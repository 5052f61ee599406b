-- Which types of a type section stand for which, and what it means that ids carry this.
use Rattle.std.specs.Prelude.{◌≡◌, ◌↔◌, ◌<◌, ◌⊎◌, ℕ, Bool, true, false, not, ◌&&◌, ◌==◌, List, [], ◌∷◌, ◌++◌, length, map, Some, None}
use Rattle.std.specs.List.{slice_get}
use Rattle.walrus_type_arenas.specs.walrus_type_index.walrus_items.walrus_forms.Kinds.{Kind}
use Rattle.walrus_type_arenas.specs.walrus_type_index.walrus_items.walrus_forms.Records.{TypeGroup}
use Rattle.walrus_type_arenas.specs.walrus_type_index.walrus_items.walrus_forms.Renaming.{at, renamed_kind}
use Rattle.walrus_type_arenas.specs.Table.{type_at, names_itself}
use Rattle.walrus_types.specs.Parsing.{Parsed, parsed, unparsed, AreBelow}

-- a type of a section: whether it is single, so that it stands in no written group, and its kind
pub record Entry : Type 0 where
  pub single : Bool
  pub kind : Kind

abbrev pub is_single : TypeGroup → Bool
is_single group = not group.marked && length group.kinds == 1

-- the types of a section, by index
abbrev pub entries_of : List TypeGroup → List Entry
entries_of [] = []
entries_of (group ∷ groups) = map (λ kind. record { single = is_single group; kind = kind }) group.kinds ++ entries_of groups

-- type i equals the earlier type j, which stands for itself: they have one form, finality and
-- supertype, each name replaced by what it stands for, and neither names itself
pub record IsEqual (entries : List Entry) (same : List ℕ) (i j : ℕ) : Type 0 where
  pub earlier : j < i
  pub itself : at same j ≡ j
  pub a : Entry
  pub b : Entry
  pub at_i : slice_get entries i ≡ Some a
  pub at_j : slice_get entries j ≡ Some b
  pub kinds : renamed_kind (at same) a.kind ≡ renamed_kind (at same) b.kind
  pub apart_i : names_itself i a.kind ≡ false
  pub apart_j : names_itself j b.kind ≡ false

-- type i stands for the latest type that it equals, or else for itself
abbrev pub StandsFor : List Entry → List ℕ → ℕ → ℕ → Type 0
StandsFor entries same i k =
    (IsEqual entries same i k × ((j : ℕ) → k < j → IsEqual entries same i j → ⊥)) ⊎ ((k ≡ i) × ((j : ℕ) → IsEqual entries same i j → ⊥))

-- `same` has for each type the one that it stands for. Members of groups stand for themselves.
pub record IsSame (entries : List Entry) (same : List ℕ) : Type 0 where
  pub sized : length same ≡ length entries
  pub grouped : (i : ℕ) (e : Entry) → slice_get entries i ≡ Some e → e.single ≡ false → at same i ≡ i
  pub single : (i : ℕ) (e : Entry) → slice_get entries i ≡ Some e → e.single ≡ true → StandsFor entries same i (at same i)

-- types have one id exactly where they stand for one type, and each id has a live type of the kind that
-- was written, with ids for indices
pub record CarriesSame (entries : List Entry) (p : Parsed) : Type 0 where
  pub same : List ℕ
  pub is_same : IsSame entries same
  pub sized : length p.ids ≡ length entries
  pub one : (i j : ℕ) → i < length entries → j < length entries → (at p.ids i ≡ at p.ids j) ↔ (at same i ≡ at same j)
  pub kinds : (i : ℕ) (e : Entry) → slice_get entries i ≡ Some e
      → type_at p.table (at p.ids i) ≡ Some (record { id = at p.ids i; kind = renamed_kind (at p.ids) e.kind; name = None })

-- what is parsed into a new table carries what stands for what
abbrev pub ParsingCarriesSame : Type 0
ParsingCarriesSame = (groups : List TypeGroup) → AreBelow 0 groups
    → CarriesSame (entries_of groups) (parsed groups (unparsed (record { types = []; groups = [] })))

-- what stands for what is determined: two lists that say it agree
abbrev pub SameIsOne : Type 0
SameIsOne = (groups : List TypeGroup) → AreBelow 0 groups → (same other : List ℕ) → IsSame (entries_of groups) same → IsSame (entries_of groups) other
    → (i : ℕ) → i < length (entries_of groups) → at same i ≡ at other i
