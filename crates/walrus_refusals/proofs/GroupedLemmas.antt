-- Members of one group, told by the type with which it begins.
use Rattle.std.proofs.Common.{◌≡◌, ◌∙◌, ◌<◌, ◌+◌, ◌≤◌, ℕ, zero, suc, Bool, true, false, List, [], ◌∷◌, map, length, get_or, Option, Some, None, Contains, refl, sym, ap, subst, inl, inr, arith}
use Rattle.std.specs.Prelude.{Decides, MatchOption}
use Rattle.std.specs.Option.{option_map}
use Rattle.std.proofs.lemmas.List.{get_or_default}
use Rattle.std.proofs.lemmas.Bool.{cases_eq, eq-eqb, eqb-true, false≢true}
use Rattle.walrus_items.specs.Items.{Group}
use Rattle.walrus_types.specs.Table.{Table, type_at, group_at, HasMember}
use Rattle.walrus_types.specs.TypeLaws.{AreGrouped}
use Rattle.walrus_used.proofs.LooksLemmas.{none_in, first_in}
use Rattle.walrus_refusals.specs.Grouped.{begin_alike, are_one}
use Rattle.walrus_refusals.specs.Written.{AreInOneGroup}

at_mapped : {A B : Type 0} (f : A → B) (xs : List A) (k : ℕ) (d : A) → get_or (map f xs) k (f d) ≡ f (get_or xs k d)
at_mapped f [] k d = refl
at_mapped f (x ∷ xs) zero d = refl
at_mapped f (x ∷ xs) (suc k) d = at_mapped f xs k d

sized_mapped : {A B : Type 0} (f : A → B) (xs : List A) → length (map f xs) ≡ length xs
sized_mapped f [] = refl
sized_mapped f (x ∷ xs) = ap suc (sized_mapped f xs)

-- what stands in a list stands in what is made of it, one by one
pub in_mapped : {A B : Type 0} (f : A → B) (xs : List A) (x : A) → Contains xs x → Contains (map f xs) (f x)
in_mapped f xs x c = (c.0, omega (arith, c.1, sized_mapped f xs), at_mapped f xs c.0 x ∙ ap f c.2)

-- ---- two lists that begin alike
begun_by : (ids others : List ℕ) → begin_alike ids others ≡ true → (a : ℕ) × Contains ids a × Contains others a
begun_by [] others e = absurd (false≢true e)
begun_by (a ∷ ids) [] e = absurd (false≢true e)
begun_by (a ∷ ids) (b ∷ others) e = (a, first_in a ids, subst (λ k. Contains (b ∷ others) k) (sym (eqb-true a b e)) (first_in b others))

alike_itself : (ids : List ℕ) (a : ℕ) → Contains ids a → begin_alike ids ids ≡ true
alike_itself [] a c = absurd (none_in a c)
alike_itself (b ∷ ids) a c = eq-eqb b b refl

same_some : {A : Type 0} (o : Option A) (x y : A) → o ≡ Some x → o ≡ Some y → x ≡ y
same_some o x y p q = (let one : Some x ≡ Some y = sym p ∙ q in cc)

module _ (t : Table) (grouped : AreGrouped t) where
  -- groups with a member in common are one
  one_group : (id : ℕ) (g h : Group) (p q : ℕ) → group_at t p ≡ Some g → Contains g.types id → group_at t q ≡ Some h → Contains h.types id → g ≡ h
  one_group id g h p q at c at' c' =
      let place = grouped.one id p q g h at c at' c' in
      same_some (group_at t q) g h (subst (λ k. group_at t k ≡ Some g) place at) at'

  dead_member : (id : ℕ) (g : Group) → HasMember t id g → type_at t id ≡ None → ⊥
  dead_member id g has dead = (let live = grouped.live has.place g has.live id has.listed in let no : None ≡ Some live.0 = sym dead ∙ live.1 in absurd cc)

  module _ (id name : ℕ) where
    member : (g : Group) → HasMember t id g → Contains g.types name → HasMember t name g
    member g has c = record { place = has.place; live = has.live; listed = c }

    none_here : type_at t id ≡ None → Decides false (AreInOneGroup t id name)
    none_here dead = (λ e. absurd (false≢true e), λ i. absurd (dead_member id i.0 i.1 dead))

    none_there : type_at t name ≡ None → Decides false (AreInOneGroup t id name)
    none_there dead = (λ e. absurd (false≢true e), λ i. absurd (dead_member name i.0 (member i.0 i.1 i.2) dead))

    module _ (g h : Group) (has : HasMember t id g) (other : HasMember t name h) where
      there : begin_alike g.types h.types ≡ true → AreInOneGroup t id name
      there so =
          let begun = begun_by g.types h.types so in
          let same : g ≡ h = one_group begun.0 g h has.place other.place has.live begun.1 other.live begun.2 in
          (g, has, subst (λ (k : Group). Contains k.types name) (sym same) other.listed)

      so_if : (k : Group) → g ≡ k → h ≡ k → HasMember t id k → begin_alike g.types h.types ≡ true
      so_if k e f in_it = rw e (rw f (alike_itself k.types id in_it.listed))

      so_there : AreInOneGroup t id name → begin_alike g.types h.types ≡ true
      so_there i =
          let too = member i.0 i.1 i.2 in
          so_if i.0 (one_group id g i.0 has.place i.1.place has.live has.listed i.1.live i.1.listed) (one_group name h i.0 other.place too.place other.live other.listed too.live too.listed) i.1

      told : (b : Bool) → b ≡ begin_alike g.types h.types → Decides b (AreInOneGroup t id name)
      told b is = (λ e. there (sym is ∙ e), λ i. is ∙ so_there i)

    -- what is told of the groups of both, where they have one
    pub decided : {X : Type 0} (f : X → Group) (a b : Option X) → MatchOption a (type_at t id ≡ None) (λ g. HasMember t id (f g)) → MatchOption b (type_at t name ≡ None) (λ h. HasMember t name (f h))
        → (r : Bool) → r ≡ are_one (option_map f a) (option_map f b) → Decides r (AreInOneGroup t id name)
    decided f None b dead other r is = subst (λ r. Decides r (AreInOneGroup t id name)) (sym is) (none_here dead)
    decided f (Some g) None has dead r is = subst (λ r. Decides r (AreInOneGroup t id name)) (sym is) (none_there dead)
    decided f (Some g) (Some h) has other r is = told (f g) (f h) has other r is

-- ---- what holds of the first of a list
module _ (P : ℕ → Type 0) (xs : List ℕ) where
  abbrev pub FirstAre : ℕ → Type 0
  FirstAre n = (k x : ℕ) → k < n → get_or xs k x ≡ x → P x

  pub more_are : (n x : ℕ) → n < length xs → x ≡ get_or xs n x → P x → FirstAre n → FirstAre (n + 1)
  more_are n x here is p before k y below at = elim (cases_eq k n) as (λ _. P y) [
    | inl e ↦ subst P (is ∙ get_or_default xs n x y here ∙ ap (λ j. get_or xs j y) (sym e) ∙ at) p
    | inr other ↦ before k y (omega (arith, below, other)) at
  ]

  pub all_are : (n : ℕ) → length xs ≤ n → FirstAre n → (x : ℕ) → Contains xs x → P x
  all_are n end before x c = before c.0 x (omega (arith, c.1, end)) c.2

  pub one_isnt : (n x : ℕ) → n < length xs → x ≡ get_or xs n x → (P x → ⊥) → Decides false ((y : ℕ) → Contains xs y → P y)
  one_isnt n x here is fails = (λ e. absurd (false≢true e), λ all. absurd (fails (all x (n, here, sym is))))
