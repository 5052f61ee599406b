-- What is found in slots of which one is emptied, or has another item.
use Rattle.std.proofs.Common.{◌≡◌, ◌∙◌, ◌⊎◌, ℕ, zero, suc, List, [], ◌∷◌, Contains, Option, Some, None, IsSome, slice_index_or, slice_set, refl, sym, ap, subst, inl, inr, arith}
use Rattle.std.specs.Option.{option_and_then}
use Rattle.std.proofs.lemmas.Bool.{cases_eq}
use Rattle.std.proofs.lemmas.List.{get_or-set_same}
use Rattle.std.proofs.lemmas.List.Elements.{Contains-append_right}
use Rattle.walrus_arena.proofs.ArenaLemmas.{live-within, at-other, at-deleted}
use Rattle.walrus_types.specs.Items.{Item as TypeItem}
use Rattle.walrus_types.specs.Table.{clear_all}
use Rattle.walrus_linked.proofs.SlotLemmas.{and_then_some, some_of, is_some_at}

abbrev at_id : {T : Type 0} → List (Option T) → ℕ → Option T
at_id slots id = slice_index_or slots id None

module _ {T : Type 0} (a b : List (Option T)) (k : ℕ) (is : b ≡ slice_set a k None) where
  -- another item is where it was
  pub other : (id : ℕ) → (id ≡ k → ⊥) → at_id b id ≡ at_id a id
  other id apart = ap (λ (ss : List (Option T)). at_id ss id) is ∙ at-other a None k id apart

  -- what is there was there, and is another
  pub still : (id : ℕ) (x : T) → at_id b id ≡ Some x → (at_id a id ≡ Some x) × (id ≡ k → ⊥)
  still id x h = at-deleted a k id x (sym (ap (λ (ss : List (Option T)). at_id ss id) is) ∙ h)

  pub says_at : (says : T → Option ℕ) (id i : ℕ) → option_and_then says (at_id b id) ≡ Some i → option_and_then says (at_id a id) ≡ Some i
  says_at says id i h = let o = and_then_some says (at_id b id) i h in ap (option_and_then says) (still id o.0 o.1).0 ∙ o.2

  pub says_kept : (says : T → Option ℕ) (id i : ℕ) → (id ≡ k → ⊥) → option_and_then says (at_id a id) ≡ Some i → option_and_then says (at_id b id) ≡ Some i
  says_kept says id i apart h = ap (option_and_then says) (other id apart) ∙ h

  pub live_at : (id : ℕ) → IsSome (at_id b id) → IsSome (at_id a id) × (id ≡ k → ⊥)
  live_at id h = let o = some_of (at_id b id) h in let s = still id o.0 o.1 in (is_some_at (at_id a id) o.0 s.0, s.1)

  pub live_kept : (id : ℕ) → (id ≡ k → ⊥) → IsSome (at_id a id) → IsSome (at_id b id)
  live_kept id apart h = let o = some_of (at_id a id) h in is_some_at (at_id b id) o.0 (other id apart ∙ o.1)

  pub holds_at : (N : Option T → Type 0) (id : ℕ) → IsSome (at_id b id) → N (at_id b id) → N (at_id a id)
  holds_at N id h has = let o = some_of (at_id b id) h in subst N (o.1 ∙ sym (still id o.0 o.1).0) has

module _ {T : Type 0} (a b : List (Option T)) (k : ℕ) (old new : T) (at : at_id a k ≡ Some old) (is : b ≡ slice_set a k (Some new)) where
  pub besides : (id : ℕ) → (id ≡ k → ⊥) → at_id b id ≡ at_id a id
  besides id apart = ap (λ (ss : List (Option T)). at_id ss id) is ∙ at-other a (Some new) k id apart

  pub this : (id : ℕ) → id ≡ k → at_id b id ≡ Some new
  this id e = ap (at_id b) e ∙ ap (λ (ss : List (Option T)). at_id ss k) is ∙ get_or-set_same a k (Some new) None (live-within a k old at)

  -- the new item says what the old one said
  pub says_same : (says : T → Option ℕ) → says new ≡ says old → (id : ℕ) → option_and_then says (at_id b id) ≡ option_and_then says (at_id a id)
  says_same says same id = elim (cases_eq id k) as (λ _. option_and_then says (at_id b id) ≡ option_and_then says (at_id a id)) [
    | inl e ↦ ap (option_and_then says) (this id e) ∙ same ∙ sym (ap (option_and_then says) (ap (at_id a) e ∙ at))
    | inr e ↦ ap (option_and_then says) (besides id e)
  ]

  pub set_live : (id : ℕ) → IsSome (at_id a id) → IsSome (at_id b id)
  set_live id h = elim (cases_eq id k) as (λ _. IsSome (at_id b id)) [
    | inl e ↦ is_some_at (at_id b id) new (this id e)
    | inr e ↦ let o = some_of (at_id a id) h in is_some_at (at_id b id) o.0 (besides id e ∙ o.1)
  ]

  -- what holds of an item held of it before, or holds of the new one
  pub set_holds : (N : Option T → Type 0) (id : ℕ) → IsSome (at_id b id) → N (at_id b id) → (IsSome (at_id a id) × N (at_id a id)) ⊎ N (Some new)
  set_holds N id h has = elim (cases_eq id k) as (λ _. (IsSome (at_id a id) × N (at_id a id)) ⊎ N (Some new)) [
    | inl e ↦ inr (subst N (this id e) has)
    | inr e ↦ let o = some_of (at_id b id) h in inl (is_some_at (at_id a id) o.0 (sym (besides id e) ∙ o.1), subst N (besides id e) has)
  ]

  -- what holds of each old item and of the new one holds of each
  pub set_at : (P : T → Type 0) → P new → (id : ℕ) (x : T) → (at_id a id ≡ Some x → P x) → at_id b id ≡ Some x → P x
  set_at P holds id x before h = elim (cases_eq id k) as (λ _. P x) [
    | inl e ↦ let both : Some new ≡ Some x = sym (this id e) ∙ h in let same : new ≡ x = cc in subst P same holds
    | inr e ↦ before (sym (besides id e) ∙ h)
  ]

none_at : (id : ℕ) → Contains [] id → ⊥
none_at id (k, less, at) = omega (arith, less)

-- an item of types of which several were deleted was there before, and is none of them
pub still_all : (ids : List ℕ) (types : List (Option TypeItem)) (id : ℕ) (x : TypeItem) → at_id (clear_all ids types) id ≡ Some x → (at_id types id ≡ Some x) × (Contains ids id → ⊥)
still_all [] types id x h = (h, λ has. none_at id has)
still_all (k ∷ ids) types id x h =
    let rest = still_all ids (slice_set types k None) id x h in
    let first = still types (slice_set types k None) k refl id x rest.0 in
    (first.0, λ has. by_place first.1 rest.1 has)
  where
    by_place : (id ≡ k → ⊥) → (Contains ids id → ⊥) → Contains (k ∷ ids) id → ⊥
    by_place apart behind (zero, less, at) = apart (sym at)
    by_place apart behind (suc j, less, at) = behind (j, omega (arith, less), at)

-- another one is where it was
pub other_all : (ids : List ℕ) (types : List (Option TypeItem)) (id : ℕ) → (Contains ids id → ⊥) → at_id (clear_all ids types) id ≡ at_id types id
other_all [] types id besides = refl
other_all (k ∷ ids) types id besides =
    other_all ids (slice_set types k None) id (λ has. besides (Contains-append_right (k ∷ []) ids id has)) ∙ other types (slice_set types k None) k refl id (λ e. besides (0, omega arith, sym e))
