-- Lemmas: kinds that no type has are new, each once.
use Rattle.std.specs.Prelude.{ℕ, zero, suc, ◌≡◌, ◌⊎◌, Bool, true, false, not, List, [], ◌∷◌, ◌++◌, length, filter, Option, Some, None, slice_get, slice_index_or, refl, if◌then◌else◌, ◌+◌, map}
use Rattle.std.specs.List.{AllByRecursion}
use Rattle.std.specs.Option.{option_map}
use Rattle.std.proofs.Common.{ap, sym, ◌∙◌, subst, cond, inl, inr, arith}
use Rattle.std.proofs.lemmas.List.{length-append}
use Rattle.walrus_forms.specs.Kinds.{Kind, function_kind}
use Rattle.walrus_forms.specs.Records.{TypeGroup}
use Rattle.walrus_forms.specs.Renaming.{KindBelow}
use Rattle.walrus_forms.specs.Same.{SameKindIsEquality, same_kind}
use Rattle.walrus_types.specs.Mergers.{ParsingCarriesSame}
use Rattle.walrus_types.specs.Table.{latest_in, type_at}
use Rattle.walrus_types.specs.walrus_items.Items.{Item}
use Rattle.walrus_types.specs.walrus_items.walrus_arena.Arena.{entries_from}
use Rattle.wasm_normal_modules.proofs.Reading.{bring_no_types, read_modules_meet}
use Rattle.wasm_normal_modules.proofs.Slots.{slot_sent}
use Rattle.wasm_normal_modules.specs.wasm_ruled_renamed.wasm_ruled_normal.wasm_ruled_modules.Rules.{GroupsBelow}
use Rattle.wasm_merged_modules.proofs.Behind.{wider}
use Rattle.wasm_merged_modules.proofs.Merged.{kept_are, somes_at}
use Rattle.wasm_merged_modules.specs.Merged.{AreNew, IsMissing, MergedFilesAreRuled, MergedModulesAreRuled, MissingKindsAreNew, NewKindsStandBehind, UnfoundKindsAreMissing, kept_of, kinds_of, merged_types, once, single}

some_item : (a b : Item) → (let some : Item → Option Item = λ i. Some i in some a ≡ some b) → a ≡ b
some_item a b e = cc

-- ---- some of a list

module _ (P : Kind → Type 0) (keep : Kind → Bool) where
  all_some : (kinds : List Kind) → AllByRecursion P kinds → AllByRecursion P (filter keep kinds)
  all_some [] h = tt
  all_some (k ∷ kinds) h = by (keep k) (all_some kinds h.1)
    where
      by : (b : Bool) → AllByRecursion P (filter keep kinds) → AllByRecursion P (cond b (k ∷ filter keep kinds) (filter keep kinds))
      by true later = (h.0, later)
      by false later = later

  all_kept : ((k : Kind) → keep k ≡ true → P k) → (kinds : List Kind) → AllByRecursion P (filter keep kinds)
  all_kept h [] = tt
  all_kept h (k ∷ kinds) = by (keep k) refl (all_kept h kinds)
    where
      by : (b : Bool) → keep k ≡ b → AllByRecursion P (filter keep kinds) → AllByRecursion P (cond b (k ∷ filter keep kinds) (filter keep kinds))
      by true e later = (h k e, later)
      by false e later = later

-- no kind stands twice
abbrev AreApart : List Kind → Type 0
AreApart [] = Unit {0}
AreApart (k ∷ kinds) = AllByRecursion (λ (other : Kind). k ≡ other → ⊥) kinds × AreApart kinds

apart_some : (keep : Kind → Bool) (kinds : List Kind) → AreApart kinds → AreApart (filter keep kinds)
apart_some keep [] h = tt
apart_some keep (k ∷ kinds) h = by (keep k) (apart_some keep kinds h.1)
  where
    by : (b : Bool) → AreApart (filter keep kinds) → AreApart (cond b (k ∷ filter keep kinds) (filter keep kinds))
    by true later = (all_some (λ (other : Kind). k ≡ other → ⊥) keep kinds h.0, later)
    by false later = later

other_kind : SameKindIsEquality → (k other : Kind) → not (same_kind k other) ≡ true → k ≡ other → ⊥
other_kind is k other e same =
    let one : same_kind k other ≡ true = (is k other).1 same in
    let wrong : false ≡ true = sym (ap not one) ∙ e in absurd cc

once_apart : SameKindIsEquality → (kinds : List Kind) → AreApart (once kinds)
once_apart is [] = tt
once_apart is (k ∷ kinds) =
    (all_kept (λ (other : Kind). k ≡ other → ⊥) (λ other. not (same_kind k other)) (other_kind is k) (once kinds), apart_some (λ other. not (same_kind k other)) (once kinds) (once_apart is kinds))

all_once : (P : Kind → Type 0) (kinds : List Kind) → AllByRecursion P kinds → AllByRecursion P (once kinds)
all_once P [] h = tt
all_once P (k ∷ kinds) h = (h.0, all_some P (λ other. not (same_kind k other)) (once kinds) (all_once P kinds h.1))

-- ---- new ones

-- it names types that are there, and none of these is one of it
abbrev IsOther : List Kind → Kind → Type 0
IsOther there kind = KindBelow (length there) kind × ((n : ℕ) → slice_get there n ≡ Some kind → ⊥)

some_is : (a b : Kind) → (let some : Kind → Option Kind = λ k. Some k in some a ≡ some b) → a ≡ b
some_is a b e = cc

get_cases : (xs : List Kind) (k : Kind) (n : ℕ) (other : Kind) → slice_get (xs ++ k ∷ []) n ≡ Some other → (slice_get xs n ≡ Some other) ⊎ (k ≡ other)
get_cases [] k zero other e = inr (some_is k other e)
get_cases [] k (suc n) other e = absurd cc
get_cases (x ∷ xs) k zero other e = inl e
get_cases (x ∷ xs) k (suc n) other e = get_cases xs k n other e

others_still : (there : List Kind) (k : Kind) (kinds : List Kind) → AllByRecursion (λ (other : Kind). k ≡ other → ⊥) kinds → AllByRecursion (IsOther there) kinds → AllByRecursion (IsOther (there ++ k ∷ [])) kinds
others_still there k [] apart h = tt
others_still there k (other ∷ kinds) apart h =
    let mine = h.0 in (
      (
        subst (λ (n : ℕ). KindBelow n other) (sym (length-append there (k ∷ []))) (wider other (length there) mine.0).0,
        λ n e. elim (get_cases there k n other e) as (λ _. ⊥) [
          | inl old ↦ mine.1 n old
          | inr same ↦ apart.0 same
        ],
      ),
      others_still there k kinds apart.1 h.1,
    )

all_new : (kinds there : List Kind) → AreApart kinds → AllByRecursion (IsOther there) kinds → AreNew there kinds
all_new [] there apart h = tt
all_new (k ∷ kinds) there apart h = let mine = h.0 in (mine.0, mine.1, all_new kinds (there ++ k ∷ []) apart.1 (others_still there k kinds apart.0 h.1))

-- ---- kinds that no type of the table has

module _ (carries : ParsingCarriesSame) (groups : List TypeGroup) (below : GroupsBelow 0 groups) where
  item_of : (o : Option Item) (kind : Kind) → option_map (λ (i : Item). i.kind) o ≡ Some kind → (item : Item) × (o ≡ Some item) × (item.kind ≡ kind)
  item_of None kind e = absurd cc
  item_of (Some item) kind e = (item, refl, some_is item.kind kind e)

  is_other : (kind : Kind) → IsMissing groups kind → IsOther (kinds_of (kept_of groups)) kind
  is_other kind h = (
    h.0,
    λ n e. (let item = item_of (type_at (merged_types groups).table n) kind
        (sym (slot_sent (λ (i : Item). i.kind) (merged_types groups).table.types n)
        ∙ ap (λ (l : List (Option Kind)). slice_index_or l n None) (kept_are carries groups below).seen_are ∙ somes_at (kinds_of (kept_of groups)) n ∙ e) in h.1 n item.0 item.1 item.2),
  )

  all_other : (kinds : List Kind) → AllByRecursion (IsMissing groups) kinds → AllByRecursion (IsOther (kinds_of (kept_of groups))) kinds
  all_other [] h = tt
  all_other (k ∷ kinds) h = (is_other k h.0, all_other kinds h.1)

pub missing_new : ParsingCarriesSame → SameKindIsEquality → MissingKindsAreNew
missing_new carries is groups kinds below h =
    all_new (once kinds) (kinds_of (kept_of groups)) (once_apart is kinds) (all_once (IsOther (kinds_of (kept_of groups))) kinds (all_other carries groups below kinds h))

-- ---- where a search finds none, none passes

module _ (test : ℕ × Item → Bool) where
  some_stays : (es : List (ℕ × Item)) (found : ℕ) → latest_in test (Some found) es ≡ None → ⊥
  some_stays [] found e = absurd cc
  some_stays (x ∷ es) found e = by (test x) (some_stays es x.0) (some_stays es found) e
    where
      by : (b : Bool) → (latest_in test (Some x.0) es ≡ None → ⊥) → (latest_in test (Some found) es ≡ None → ⊥) → latest_in test (if b then Some x.0 else Some found) es ≡ None → ⊥
      by true first old e = first e
      by false first old e = old e

  none_passes : (slots : List (Option Item)) (id : ℕ) (found : Option ℕ) → latest_in test found (entries_from id slots) ≡ None → (n : ℕ) (item : Item) → slice_index_or slots n None ≡ Some item → test (id + n, item) ≡ true → ⊥
  none_passes [] id found e n item at passes = absurd cc
  none_passes (None ∷ slots) id found e zero item at passes = absurd cc
  none_passes (None ∷ slots) id found e (suc n) item at passes =
      none_passes slots (id + 1) found e n item at (ap (λ (k : ℕ). test (k, item)) (let same : (id + 1) + n ≡ id + suc n = omega arith in same) ∙ passes)
  none_passes (Some x ∷ slots) id found e zero item at passes =
      let here : test (id, x) ≡ true =
      ap (λ (i : Item). test (id, i)) (some_item x item at) ∙ ap (λ (k : ℕ). test (k, item)) (let same : id ≡ id + 0 = omega arith in same) ∙ passes in
      some_stays (entries_from (id + 1) slots) id (ap (λ (b : Bool). latest_in test (if b then Some id else found) (entries_from (id + 1) slots)) (sym here) ∙ e)
  none_passes (Some x ∷ slots) id found e (suc n) item at passes =
      none_passes slots (id + 1) (if test (id, x) then Some id else found) e n item at (ap (λ (k : ℕ). test (k, item)) (let same : (id + 1) + n ≡ id + suc n = omega arith in same) ∙ passes)

pub unfound_missing : SameKindIsEquality → UnfoundKindsAreMissing
unfound_missing is groups params results below e =
    (below, λ id item at same. none_passes (λ (e : ℕ × Item). same_kind e.1.kind (function_kind params results)) (merged_types groups).table.types 0 None e id item at ((is item.kind (function_kind params results)).1 same))

-- ---- files

pub files_merged : NewKindsStandBehind → MissingKindsAreNew → MergedModulesAreRuled → MergedFilesAreRuled
files_merged behind missing merged place features bytes m kinds reads absent =
    let rules = read_modules_meet features bytes m reads in
    merged place features true (map single (once kinds)) m (bring_no_types features bytes m reads) rules (behind features true m (once kinds) rules.groups (missing m.groups kinds rules.groups absent))
