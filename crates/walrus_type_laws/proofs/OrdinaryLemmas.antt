-- What records describe and what tables are written as is as files have it.
use Rattle.std.proofs.Common.{◌≡◌, ℕ, suc, Bool, true, false, All, List, [], ◌∷◌, length, map, Option, Some, None, is_some, refl, sym, ap, subst, arith}
use Rattle.std.specs.List.{slice_get, list_any, filter_map, cons_option}
use Rattle.std.proofs.lemmas.Bool.{false≢true}
use Rattle.std.proofs.lemmas.List.Elements.{All-nil, All-cons}
use Rattle.walrus_forms.specs.declared.record.TypeRecord.{TypeRecord}
use Rattle.walrus_forms.specs.Kinds.{Kind}
use Rattle.walrus_forms.specs.Records.{TypeGroup, type_group, record_kind}
use Rattle.walrus_forms.specs.Renaming.{renamed_kind}
use Rattle.walrus_types.specs.Items.{Group}
use Rattle.walrus_types.specs.Table.{Table}
use Rattle.walrus_types.specs.Merged.{UnmarkedAreSingle}
use Rattle.walrus_types.specs.Emission.{written_kind, is_written, index_at, described_group, IsEmission}
use Rattle.walrus_types.proofs.OnceLemmas.{reordered, written_place}
use Rattle.walrus_types.proofs.Places.{map_at}
use Rattle.walrus_type_laws.proofs.Written.{written_item}
use Rattle.walrus_type_laws.specs.Ordinary.{IsOrdinary, AreOrdinary, IsSingleUnmarked, RecordsAreOrdinary, EmittedAreOrdinary}

each : {X : Type 0} (P : X → Type 0) (xs : List X) → ((i : ℕ) (x : X) → slice_get xs i ≡ Some x → P x) → All P xs
each P [] all = All-nil P
each P (x ∷ xs) all = All-cons P x xs (all 0 x refl) (each P xs (λ i y is. all (suc i) y is))

record_plain : (types : List TypeRecord) → All (λ kind. kind.entry ≡ false) (map record_kind types)
record_plain types = each (λ (k : Kind). k.entry ≡ false) (map record_kind types) (λ i kind is. let m = map_at record_kind types i kind is in ap (λ (k : Kind). k.entry) (sym m.2))

pub records-law : RecordsAreOrdinary
records-law [] = All-nil IsOrdinary
records-law (r ∷ section) = All-cons IsOrdinary (type_group r) (map type_group section) (record_plain r.types.items) (records-law section)

-- the kinds of types that are written
plain_more : (t : Table) (r : ℕ → ℕ) (id : ℕ) (o : Option Kind) (kinds : List Kind) → written_kind t id ≡ o → All (λ kind. kind.entry ≡ false) (map (renamed_kind r) kinds)
    → All (λ kind. kind.entry ≡ false) (map (renamed_kind r) (cons_option o kinds))
plain_more t r id None kinds is all = all
plain_more t r id (Some k) kinds is all = All-cons (λ (x : Kind). x.entry ≡ false) (renamed_kind r k) (map (renamed_kind r) kinds) (written_item t id k is).3 all

written_plain : (t : Table) (r : ℕ → ℕ) (ids : List ℕ) → All (λ kind. kind.entry ≡ false) (map (renamed_kind r) (filter_map (written_kind t) ids))
written_plain t r [] = All-nil (λ (k : Kind). k.entry ≡ false)
written_plain t r (id ∷ ids) = plain_more t r id (written_kind t id) (filter_map (written_kind t) ids) refl (written_plain t r ids)

-- of one type that is written there is one kind
one_written : (t : Table) (r : ℕ → ℕ) (ids : List ℕ) → length ids ≡ 1 → list_any (is_written t) ids ≡ true → length (map (renamed_kind r) (filter_map (written_kind t) ids)) ≡ 1
one_written t r [] one any = absurd (omega (arith, one))
one_written t r (id ∷ []) one any = elim (written_kind t id) as (λ o. list_any (λ (b : Bool). b) (is_some o ∷ []) ≡ true → length (map (renamed_kind r) (cons_option o [])) ≡ 1) [
  | None ↦ λ h. absurd (false≢true h)
  | Some k ↦ λ h. refl
] any
one_written t r (id ∷ other ∷ ids) one any = absurd (omega (arith, one))

pub emitted_single : (t : Table) (out : List TypeGroup) (indices : List (Option ℕ)) → IsEmission t out indices → UnmarkedAreSingle t → All IsSingleUnmarked out
emitted_single t out indices emission single =
    let r : ℕ → ℕ = index_at indices in
    let gs : List Group = emission.groups in
    let re = reordered t gs emission.arranged.in_order in
    subst (All IsSingleUnmarked) (sym emission.described)
    (each IsSingleUnmarked (map (described_group t r) gs) (λ p d is.
    let m = map_at (described_group t r) gs p d is in
    let group : Group = m.0 in
    let turn = re.back p group m.1 in
    let place = written_place t turn.0 group turn.2 in
    subst IsSingleUnmarked m.2 (λ unmarked. one_written t r group.types (single place.0 group place.1 unmarked) place.2)))

emitted_plain : (t : Table) (out : List TypeGroup) (indices : List (Option ℕ)) → IsEmission t out indices → AreOrdinary out
emitted_plain t out indices emission =
    let r : ℕ → ℕ = index_at indices in
    subst AreOrdinary (sym emission.described)
    (each IsOrdinary (map (described_group t r) emission.groups) (λ p d is.
    let m = map_at (described_group t r) emission.groups p d is in
    subst IsOrdinary m.2 (written_plain t r (m.0).types)))

pub emitted-law : EmittedAreOrdinary
emitted-law t out indices emission = (emitted_plain t out indices emission, emitted_single t out indices emission)
