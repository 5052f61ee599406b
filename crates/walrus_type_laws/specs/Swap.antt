-- Neighbouring single types that name no type may change places: what is written stays the same.
use Rattle.std.specs.Prelude.{◌≡◌, ℕ, ◌+◌, ◌<◌, false, All, List, [], ◌∷◌, ◌++◌, ◌==◌, length, map, Option, if◌then◌else◌}
use Rattle.walrus_forms.specs.declared.record.GroupRecord.{GroupRecord}
use Rattle.walrus_forms.specs.Kinds.{Kind, kind_names}
use Rattle.walrus_forms.specs.Records.{TypeGroup, type_group}
use Rattle.walrus_types.specs.Parsing.{AreBelow}
use Rattle.walrus_types.specs.Mergers.{entries_of}
use Rattle.walrus_types.specs.Emission.{IsEmission}
use Rattle.walrus_type_laws.specs.Rounds.{read, index_map, renamed_types}

-- the group of a single type of this kind
abbrev pub single : Kind → TypeGroup
single kind = record { marked = false; kinds = kind ∷ [] }

-- none of a section's types is an entry type
abbrev pub HaveNoEntries : List TypeGroup → Type 0
HaveNoEntries groups = All (λ group. All (λ kind. kind.entry ≡ false) group.kinds) groups

-- what records describe is no entry type
abbrev pub RecordsHaveNoEntries : Type 0
RecordsHaveNoEntries = (section : List GroupRecord) → HaveNoEntries (map type_group section)

-- the number of types in a section
abbrev pub type_count : List TypeGroup → ℕ
type_count groups = length (entries_of groups)

-- the index of a type after the types n and n + 1 changed places
abbrev pub swapped : ℕ → ℕ → ℕ
swapped n i = if i == n then n + 1 else if i == n + 1 then n else i

-- two sections, where type i of the first is type `turn i` of the second: what is emitted after the one
-- was read is what is emitted after the other was, with each type at the same index
abbrev pub AreEmittedAlike : (ℕ → ℕ) → List TypeGroup → List TypeGroup → Type 0
AreEmittedAlike turn first second = (out other : List TypeGroup) (indices places : List (Option ℕ))
    → IsEmission (read first).table out indices → IsEmission (read second).table other places
    → (other ≡ out) × ((i : ℕ) → i < type_count first → index_map second places (turn i) ≡ index_map first indices i)

-- two neighbouring single types that name no type may change places, if the names of them change too
abbrev pub SwapChangesNothing : Type 0
SwapChangesNothing = (before after : List TypeGroup) (a b : Kind) → kind_names a ≡ [] → kind_names b ≡ []
    → HaveNoEntries (before ++ single a ∷ single b ∷ after) → AreBelow 0 (before ++ single a ∷ single b ∷ after)
    → AreEmittedAlike (swapped (type_count before))
    (before ++ single a ∷ single b ∷ after)
    (before ++ single b ∷ single a ∷ map (renamed_types (swapped (type_count before))) after)
