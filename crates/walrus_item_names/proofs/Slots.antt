-- Slots of which one item gets a name.
use Rattle.std.proofs.Common.{◌≡◌, ◌∙◌, ℕ, zero, suc, List, [], ◌∷◌, map, Option, Some, None, slice_index_or, slice_set, slice_get, if◌then◌else◌, refl, sym, ap, inl, inr, subst}
use Rattle.std.specs.Option.{option_map}
use Rattle.std.proofs.lemmas.Bool.{cases_eq, eq-eqb, ne_eqb}
use Rattle.std.proofs.lemmas.List.{get_or-set_same, get_or-set_other, map-set}
use Rattle.std.proofs.lemmas.Iterator.Adapters.{option_map_id}
use Rattle.std.proofs.Math.Seq.{map-set_same}
use Rattle.walrus_arena.proofs.ArenaLemmas.{live-within}
use Rattle.walrus_arena.specs.Arena.{Arena, item_at, with_item}
use Rattle.walrus_item_names.specs.Called.{renamed, IsCalled}

renamed_this : (id : ℕ) (name : List ℕ) (other : ℕ) → id ≡ other → renamed id name other ≡ (λ _. Some name)
renamed_this id name other e = λ i found. if eq-eqb id other e i then Some name else found

renamed_not : (id : ℕ) (name : List ℕ) (other : ℕ) → (id ≡ other → ⊥) → renamed id name other ≡ (λ found. found)
renamed_not id name other apart = λ i found. if ne_eqb id other apart i then Some name else found

not_this : (id : ℕ) (name : List ℕ) (other : ℕ) (o : Option (Option (List ℕ))) → (id ≡ other → ⊥) → o ≡ option_map (renamed id name other) o
not_this id name other o apart = sym (ap (λ (f : Option (List ℕ) → Option (List ℕ)). option_map f o) (renamed_not id name other apart) ∙ option_map_id o)

module _ {T : Type 0} (called : T → Option (List ℕ)) (id : ℕ) (name : List ℕ) (slots : List (Option T)) where
  -- there is no item
  pub names_stay : slice_index_or slots id None ≡ None → (other : ℕ)
      → option_map called (slice_index_or slots other None) ≡ option_map (renamed id name other) (option_map called (slice_index_or slots other None))
  names_stay dead other = elim (cases_eq id other)
      as (λ _. option_map called (slice_index_or slots other None) ≡ option_map (renamed id name other) (option_map called (slice_index_or slots other None))) [
        | inl e ↦ let none : slice_index_or slots other None ≡ None = ap (λ (k : ℕ). slice_index_or slots k None) (sym e) ∙ dead in rw none refl
        | inr apart ↦ not_this id name other (option_map called (slice_index_or slots other None)) apart
      ]

  -- the item is exchanged for one of this name
  pub names_set : (x y : T) → slice_index_or slots id None ≡ Some x → called y ≡ Some name → (other : ℕ)
      → option_map called (slice_index_or (slice_set slots id (Some y)) other None) ≡ option_map (renamed id name other) (option_map called (slice_index_or slots other None))
  names_set x y live is other = elim (cases_eq id other)
      as (λ _. option_map called (slice_index_or (slice_set slots id (Some y)) other None) ≡ option_map (renamed id name other) (option_map called (slice_index_or slots other None))) [
        | inl e ↦ subst (λ (k : ℕ). option_map called (slice_index_or (slice_set slots id (Some y)) k None) ≡ option_map (renamed id name k) (option_map called (slice_index_or slots k None))) e here
        | inr apart ↦
            ap (option_map called) (get_or-set_other slots id other (Some y) None (λ (e : other ≡ id). apart (sym e)))
            ∙ not_this id name other (option_map called (slice_index_or slots other None)) apart
      ]
    where
      here : option_map called (slice_index_or (slice_set slots id (Some y)) id None) ≡ option_map (renamed id name id) (option_map called (slice_index_or slots id None))
      here =
          ap (option_map called) (get_or-set_same slots id (Some y) None (live-within slots id x live))
          ∙ ap (λ (f : Option (List ℕ)). Some f) (is ∙ sym (ap (λ (f : Option (List ℕ) → Option (List ℕ)). f (called x)) (renamed_this id name id refl)))
          ∙ sym (ap (λ (o : Option T). option_map (renamed id name id) (option_map called o)) live)

module _ {T : Type 0} (bare : T → T) (id : ℕ) (slots : List (Option T)) where
  -- and is the same but for it
  pub bare_set : (x y : T) → slice_index_or slots id None ≡ Some x → bare y ≡ bare x → map (option_map bare) (slice_set slots id (Some y)) ≡ map (option_map bare) slots
  bare_set x y live same =
      map-set_same (option_map bare) slots id (Some y) None (ap (λ (z : T). Some z) same ∙ sym (ap (option_map bare) live))

-- the same of lists without empty slots
some_at : {T : Type 0} (xs : List T) (i : ℕ) → slice_index_or (map (λ x. Some x) xs) i None ≡ slice_get xs i
some_at [] zero = refl
some_at [] (suc i) = refl
some_at (x ∷ xs) zero = refl
some_at (x ∷ xs) (suc i) = some_at xs i

module _ {T : Type 0} (called : T → Option (List ℕ)) (id : ℕ) (name : List ℕ) (xs : List T) where
  abbrev Given : List T → Type 0
  Given ys = (other : ℕ) → option_map called (slice_get ys other) ≡ option_map (renamed id name other) (option_map called (slice_get xs other))

  pub list_stays : slice_get xs id ≡ None → Given xs
  list_stays dead other =
      let at = some_at xs other in
      subst (λ (o : Option T). option_map called o ≡ option_map (renamed id name other) (option_map called o)) at
      (names_stay called id name (map (λ x. Some x) xs) (some_at xs id ∙ dead) other)

  pub list_set : (x y : T) → slice_get xs id ≡ Some x → called y ≡ Some name → Given (slice_set xs id y)
  list_set x y live is other =
      sym (ap (option_map called) (ap (λ (l : List (Option T)). slice_index_or l other None) (sym (map-set (λ (z : T). Some z) xs id y)) ∙ some_at (slice_set xs id y) other))
      ∙ names_set called id name (map (λ x. Some x) xs) x y (some_at xs id ∙ live) is other
      ∙ ap (λ (o : Option T). option_map (renamed id name other) (option_map called o)) (some_at xs other)

pub list_bare : {T : Type 0} (bare : T → T) (id : ℕ) (xs : List T) (x y : T) → slice_get xs id ≡ Some x → bare y ≡ bare x → map bare (slice_set xs id y) ≡ map bare xs
list_bare bare zero [] x y live same = refl
list_bare bare (suc id) [] x y live same = refl
list_bare bare zero (z ∷ xs) x y live same = let is : z ≡ x = cc in rw (same, is) refl
list_bare {T} bare (suc id) (z ∷ xs) x y live same = ap (λ (l : List T). bare z ∷ l) (list_bare bare id xs x y live same)

-- ---- the item of a collection

pub item_called : {T : Type 0} (called : T → Option (List ℕ)) (bare : T → T) (id place : ℕ) (name : List ℕ) (a : Arena T) (x y : T) → place ≡ id → item_at a place ≡ Some x → called y ≡ Some name
    → bare y ≡ bare x → IsCalled called bare id name a (with_item a place y)
item_called {T} called bare id place name a x y e live is same = subst (λ (k : ℕ). IsCalled called bare k name a (with_item a place y)) e (record {
  names = names_set called place name a.slots x y live is;
  same = ap (λ (slots : List (Option T)). let b : Arena T = record a { slots = slots } in b) (bare_set bare place a.slots x y live same);
})
