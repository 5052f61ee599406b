-- Lemmas: types that a table is given name none past their own groups.
use Rattle.std.specs.Prelude.{ℕ, zero, suc, ◌≡◌, ◌⊎◌, ◌+◌, ◌<◌, ◌≤◌, Bool, List, [], ◌∷◌, ◌++◌, length, Contains, Option, Some, None, slice_index_or, refl}
use Rattle.std.specs.List.{range_with_len}
use Rattle.std.proofs.Common.{ap, sym, ◌∙◌, subst, inl, inr, arith}
use Rattle.std.proofs.lemmas.Bool.{cases_lt}
use Rattle.walrus_forms.specs.Kinds.{Kind, kind_names}
use Rattle.walrus_parse_laws.proofs.ListLemmas.{AllOf, some_is}
use Rattle.walrus_pass_laws.specs.walrus_refusals.Written.{MayName}
use Rattle.walrus_types.specs.Groups.{group_slot, new_items}
use Rattle.walrus_types.specs.Items.{Group, Item}
use Rattle.walrus_types.specs.Parsing.{with_group}
use Rattle.walrus_types.specs.Table.{Table, next_id, type_at}

-- ---- lists

pub all_up : {A : Type 0} (P Q : A → Type 0) → ((x : A) → P x → Q x) → (xs : List A) → AllOf P xs → AllOf Q xs
all_up P Q up [] h = tt
all_up P Q up (x ∷ xs) h = (up x h.0, all_up P Q up xs h.1)

pub all_left : {A : Type 0} (P : A → Type 0) (xs ys : List A) → AllOf P (xs ++ ys) → AllOf P xs
all_left P [] ys h = tt
all_left P (x ∷ xs) ys h = (h.0, all_left P xs ys h.1)

pub all_right : {A : Type 0} (P : A → Type 0) (xs ys : List A) → AllOf P (xs ++ ys) → AllOf P ys
all_right P [] ys h = h
all_right P (x ∷ xs) ys h = all_right P xs ys h.1

-- ---- what types name

-- what each type of a table names is so of its id
abbrev pub Named : (ℕ → ℕ → Type 0) → Table → Type 0
Named P t = (id : ℕ) (x : Item) → type_at t id ≡ Some x → AllOf (P id) (kind_names x.kind)

-- what a kind names is so
abbrev pub NamesSo : (ℕ → Type 0) → Kind → Type 0
NamesSo P kind = AllOf P (kind_names kind)

group_stays : (gs more : List (Option Group)) (place : ℕ) (g : Group) → slice_index_or gs place None ≡ Some g → slice_index_or (gs ++ more) place None ≡ Some g
group_stays [] more place g e = absurd cc
group_stays (x ∷ gs) more zero g e = e
group_stays (x ∷ gs) more (suc place) g e = group_stays gs more place g e

-- more groups behind those before
may_on : (t u : Table) (more : List (Option Group)) → u.groups ≡ t.groups ++ more → (id name : ℕ) → MayName t id name → MayName u id name
may_on t u more groups id name may =
    elim may as (λ _. MayName u id name) [
      | inl le ↦ inl le
      | inr one ↦ inr (
        one.0,
        record {
          place = one.1.place;
          live = ap (λ (gs : List (Option Group)). slice_index_or gs one.1.place None) groups ∙ group_stays t.groups more one.1.place one.0 one.1.live;
          listed = one.1.listed;
        },
        one.2,
      )
    ]

-- ---- types behind those before

module _ (P : Kind → Type 0) where
  new_kind : (first : ℕ) (kinds : List Kind) (id : ℕ) (x : Item) → AllOf P kinds → slice_index_or (new_items first kinds) id None ≡ Some x → (id < length kinds) × P x.kind
  new_kind first [] id x h e = absurd cc
  new_kind first (kind ∷ kinds) zero x h e =
      let same = some_is (let y : Item = record { id = first; kind = kind; name = None } in y) x e in
      (omega arith, subst P (ap (λ (y : Item). y.kind) same) h.0)
  new_kind first (kind ∷ kinds) (suc id) x h e =
      let more = new_kind (first + 1) kinds id x h.1 e in
      ((let lt = more.0 in omega (arith, lt)), more.1)

  new_or_old : (slots : List (Option Item)) (first : ℕ) (kinds : List Kind) (id : ℕ) (x : Item) → AllOf P kinds → slice_index_or (slots ++ new_items first kinds) id None ≡ Some x
      → (slice_index_or slots id None ≡ Some x) ⊎ ((length slots ≤ id) × ((id < length slots + length kinds) × P x.kind))
  new_or_old [] first kinds id x h e =
      let new = new_kind first kinds id x h e in
      inr (omega arith, ((let lt = new.0 in omega (arith, lt)), new.1))
  new_or_old (s ∷ slots) first kinds zero x h e = inl e
  new_or_old (s ∷ slots) first kinds (suc id) x h e =
      elim (new_or_old slots first kinds id x h e) as (λ _. (slice_index_or slots id None ≡ Some x) ⊎ ((length (s ∷ slots) ≤ suc id) × ((suc id < length (s ∷ slots) + length kinds) × P x.kind))) [
        | inl was ↦ inl was
        | inr new ↦ inr ((let le = new.0 in omega (arith, le)), ((let lt = new.1.0 in omega (arith, lt)), new.1.1))
      ]

-- a name is low, and may be named by each type that is added
abbrev pub NewName : (ℕ → Type 0) → ℕ → ℕ → Table → ℕ → Type 0
NewName Low first count u name = Low name × ((id : ℕ) → first ≤ id → id < first + count → MayName u id name)

-- a table with more types and groups
pub more_named : (Low High : ℕ → Type 0) → ((name : ℕ) → Low name → High name) → (first : ℕ) (kinds : List Kind) (more : List (Option Group)) (t u : Table)
    → u.types ≡ t.types ++ new_items first kinds → u.groups ≡ t.groups ++ more → AllOf (NamesSo (NewName High (next_id t) (length kinds) u)) kinds
    → Named (λ id name. Low name × MayName t id name) t → Named (λ id name. High name × MayName u id name) u
more_named Low High up first kinds more t u types groups new names id x there =
    elim (new_or_old (NamesSo (NewName High (next_id t) (length kinds) u)) t.types first kinds id x new (ap (λ (l : List (Option Item)). slice_index_or l id None) (sym types) ∙ there))
    as (λ _. AllOf (λ name. High name × MayName u id name) (kind_names x.kind)) [
      | inl was ↦ all_up (λ name. Low name × MayName t id name) (λ name. High name × MayName u id name) (λ name h. (up name h.0, may_on t u more groups id name h.1)) (kind_names x.kind) (names id x was)
      | inr is ↦ all_up (NewName High (next_id t) (length kinds) u) (λ name. High name × MayName u id name) (λ name h. (h.0, h.1 id is.0 is.1.0)) (kind_names x.kind) is.1.1
    ]

-- ---- a group

range_has : (first count id : ℕ) → first ≤ id → id < first + count → Contains (range_with_len first count) id
range_has first zero id le lt = absurd (omega (arith, le, lt))
range_has first (suc count) id le lt =
    elim (cases_lt first id) as (λ _. Contains (range_with_len first (suc count)) id) [
      | inl less ↦
          let more = range_has (first + 1) count id (omega (arith, less)) (omega (arith, lt)) in
          (suc more.0, (let in_it = more.1 in omega (arith, in_it)), more.2)
      | inr ge ↦ (0, omega arith, omega (arith, le, ge))
    ]

group_there : (explicit : Bool) (gs : List (Option Group)) (first count : ℕ) → 0 < count
    → slice_index_or (gs ++ group_slot explicit (range_with_len first count)) (length gs) None ≡ Some (record { explicit = explicit; types = range_with_len first count })
group_there explicit [] first zero lt = absurd (omega (arith, lt))
group_there explicit [] first (suc count) lt = refl
group_there explicit (g ∷ gs) first count lt = group_there explicit gs first count lt

module _ (explicit : Bool) (kinds : List Kind) (t : Table) where
  in_group : (id name : ℕ) → next_id t ≤ id → id < next_id t + length kinds → name < next_id t + length kinds → MayName (with_group explicit kinds t) id name
  in_group id name le lt below =
      elim (cases_lt id name) as (λ _. MayName (with_group explicit kinds t) id name) [
        | inl later ↦ inr (
          record { explicit = explicit; types = range_with_len (next_id t) (length kinds) },
          record {
            place = length t.groups;
            live = group_there explicit t.groups (next_id t) (length kinds) (omega (arith, le, lt));
            listed = range_has (next_id t) (length kinds) id le lt;
          },
          range_has (next_id t) (length kinds) name (omega (arith, le, later)) below,
        )
        | inr before ↦ inl before
      ]

  -- a group whose types name none past its end
  pub group_named : ((name : ℕ) → name < next_id t → name < next_id t + length kinds) → AllOf (NamesSo (λ name. name < next_id t + length kinds)) kinds
      → Named (λ id name. (name < next_id t) × MayName t id name) t → Named (λ id name. (name < next_id t + length kinds) × MayName (with_group explicit kinds t) id name) (with_group explicit kinds t)
  group_named up below =
      more_named (λ name. name < next_id t) (λ name. name < next_id t + length kinds) up (next_id t) kinds (group_slot explicit (range_with_len (next_id t) (length kinds))) t (with_group explicit kinds t) refl refl
      (all_up (NamesSo (λ name. name < next_id t + length kinds)) (NamesSo (NewName (λ name. name < next_id t + length kinds) (next_id t) (length kinds) (with_group explicit kinds t)))
      (λ kind names. all_up (λ name. name < next_id t + length kinds) (NewName (λ name. name < next_id t + length kinds) (next_id t) (length kinds) (with_group explicit kinds t))
      (λ name lt. (lt, λ id le less. in_group id name le less lt)) (kind_names kind) names) kinds below)
