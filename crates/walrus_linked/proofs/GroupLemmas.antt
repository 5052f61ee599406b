-- Types that are added: the members of explicit groups are types that live, as before.
use Rattle.std.proofs.Common.{◌≡◌, ◌∙◌, ◌⊎◌, ℕ, zero, suc, ◌+◌, ◌<◌, ◌≤◌, Bool, true, false, List, [], ◌∷◌, ◌++◌, length, Option, Some, None, IsSome, Contains, slice_index_or, if◌then◌else◌, refl, sym, ap, subst, inl, inr, arith}
use Rattle.std.specs.Prelude.{MatchOption}
use Rattle.std.specs.List.{range_with_len}
use Rattle.std.proofs.lemmas.List.{append-nil}
use Rattle.std.proofs.lemmas.List.Elements.{Contains-append_right}
use Rattle.walrus_forms.specs.Kinds.{Kind}
use Rattle.walrus_items.specs.Items.{Item, Group}
use Rattle.walrus_module.specs.walrus_types.Groups.{AddsGroup, group_slot, new_items}
use Rattle.walrus_module.specs.walrus_types.Table.{Table, type_at, next_id, equal_type, Adds, Merges}
use Rattle.walrus_module.specs.Items.{written, written_type}
use Rattle.walrus_linked.specs.Linked.{GroupsAreWritten}
use Rattle.walrus_linked.proofs.SlotLemmas.{at_push}

-- ---- types that stay

pub written_on : (o p : Option Item) → ((x : Item) → o ≡ Some x → p ≡ Some x) → IsSome (written o) → IsSome (written p)
written_on None p on h = absurd cc
written_on (Some x) p on h = let W : Option Item → Type 0 = λ v. IsSome (written v) in subst W (sym (on x refl)) h

written_some : (o : Option Item) (x : Item) → o ≡ Some x → x.kind.entry ≡ false → IsSome (written o)
written_some o x e plain =
    let W : Option Item → Type 0 = λ v. IsSome (written v) in
    let G : Bool → Type 0 = λ b. IsSome (if b then None else Some x) in
    subst W (sym e) (subst G (sym plain) refl)

left_there : (slots more : List (Option Item)) (id : ℕ) (x : Item) → slice_index_or slots id None ≡ Some x → slice_index_or (slots ++ more) id None ≡ Some x
left_there [] more id x e = absurd cc
left_there (s ∷ slots) more zero x e = e
left_there (s ∷ slots) more (suc id) x e = left_there slots more id x e

-- ---- a group among others

slot_at : (slots : List (Option Group)) (explicit : Bool) (ids : List ℕ) (place : ℕ) (group : Group) → slice_index_or (slots ++ group_slot explicit ids) place None ≡ Some group
    → (slice_index_or slots place None ≡ Some group) ⊎ ((group.explicit ≡ explicit) × (group.types ≡ ids))
slot_at slots explicit [] place group e = inl (ap (λ (gs : List (Option Group)). slice_index_or gs place None) (sym (append-nil slots)) ∙ e)
slot_at slots explicit (id ∷ ids) place group e =
    elim (at_push slots (record { explicit = explicit; types = id ∷ ids }) group place e) as (λ _. (slice_index_or slots place None ≡ Some group) ⊎ ((group.explicit ≡ explicit) × (group.types ≡ id ∷ ids))) [
      | inl was ↦ inl was
      | inr is ↦ inr (ap (λ (g : Group). g.explicit) is.1, ap (λ (g : Group). g.types) is.1)
    ]

range_in : (a n k : ℕ) → Contains (range_with_len a n) k → (a ≤ k) × (k < a + n)
range_in a zero k (i, less, at) = absurd (omega (arith, less))
range_in a (suc n) k (zero, less, at) = let e : a ≡ k = at in (omega (arith, e), omega (arith, e))
range_in a (suc n) k (suc i, less, at) = let h = range_in (a + 1) n k (i, omega (arith, less), at) in (omega (arith, h.0), omega (arith, h.1))

-- a new type is of one of the kinds
new_there : (k first : ℕ) (slots : List (Option Item)) (kinds : List Kind) → length slots ≤ k → k < length slots + length kinds
    → (x : Item) × (slice_index_or (slots ++ new_items first kinds) k None ≡ Some x) × Contains kinds x.kind
new_there zero first [] [] le less = absurd (omega (arith, less))
new_there (suc k) first [] [] le less = absurd (omega (arith, less))
new_there zero first [] (kind ∷ kinds) le less = (record { id = first; kind = kind; name = None }, refl, (0, omega arith, refl))
new_there (suc k) first [] (kind ∷ kinds) le less =
    let h = new_there k (first + 1) [] kinds (omega arith) (omega (arith, less)) in
    (h.0, h.1, Contains-append_right (kind ∷ []) kinds h.0.kind h.2)
new_there zero first (s ∷ slots) kinds le less = absurd (omega (arith, le))
new_there (suc k) first (s ∷ slots) kinds le less = new_there k first slots kinds (omega (arith, le)) (omega (arith, less))

-- ---- tables

module _ (explicit : Bool) (kinds : List Kind) (old new : Table) (a : AddsGroup explicit kinds old new) (plain : explicit ≡ true → (kind : Kind) → Contains kinds kind → kind.entry ≡ false) where
  types_are : (id : ℕ) → type_at new id ≡ slice_index_or (old.types ++ new_items (next_id old) kinds) id None
  types_are id = ap (λ (ts : List (Option Item)). slice_index_or ts id None) a.types

  -- a group that is added is of new types, and if it is explicit of no entry types
  pub group_written : GroupsAreWritten old → GroupsAreWritten new
  group_written before place group at marked id has =
      elim (slot_at old.groups explicit (range_with_len (next_id old) (length kinds)) place group (ap (λ (gs : List (Option Group)). slice_index_or gs place None) (sym a.groups) ∙ at)) as (λ _. IsSome (written_type new id)) [
        | inl was ↦ written_on (type_at old id) (type_at new id) (λ x e. types_are id ∙ left_there old.types (new_items (next_id old) kinds) id x e) (before place group was marked id has)
        | inr is ↦
            let C : List ℕ → Type 0 = λ ids. Contains ids id in
            let within = range_in (next_id old) (length kinds) id (subst C is.1 has) in
            let x = new_there id (next_id old) old.types kinds within.0 within.1 in
            written_some (type_at new id) x.0 (types_are id ∙ x.1) (plain (sym is.0 ∙ marked) x.0.kind x.2)
      ]

-- a type that is added, if there is none that is equal, stands in no explicit group
pub merged_written : (kind : Kind) (id : ℕ) (old new : Table) → Merges kind id old new → GroupsAreWritten old → GroupsAreWritten new
merged_written kind id old new merges before = go (equal_type kind old) merges
  where
    go : (o : Option ℕ) → MatchOption o (Adds kind id old new) (λ found. (id ≡ found) × (new ≡ old)) → GroupsAreWritten new
    go (Some found) e = let G : Table → Type 0 = λ t. GroupsAreWritten t in subst G (sym e.1) before
    go None a = λ place group at marked k has.
        elim (at_push old.groups (record { explicit = false; types = id ∷ [] }) group place (ap (λ (gs : List (Option Group)). slice_index_or gs place None) (sym a.groups) ∙ at)) as (λ _. IsSome (written_type new k)) [
          | inl was ↦ written_on (type_at old k) (type_at new k) (λ x e. ap (λ (ts : List (Option Item)). slice_index_or ts k None) a.types ∙ left_there old.types (Some (record { id = id; kind = kind; name = None }) ∷ []) k x e)
              (before place group was marked k has)
          | inr is ↦ let bad : false ≡ true = sym (ap (λ (g : Group). g.explicit) is.1) ∙ marked in absurd cc
        ]
