-- Trees whose nodes stand in one list: what stands where, and what a change elsewhere leaves.
use Rattle.std.proofs.Common.{◌≡◌, ◌∙◌, ℕ, suc, ◌+◌, ◌≤◌, ◌==◌, ◌||◌, Bool, true, false, cond, List, [], ◌∷◌, ◌++◌, Option, Some, None, ◌⊎◌, inl, inr, refl, sym, ap, subst, arith, eq-eqb}
use Rattle.std.proofs.lemmas.Bool.{cases_Bool, false≢true, eqb-true}
use Rattle.walrus_type_index.specs.Places.{Hashed}
use Rattle.walrus_type_index.specs.Ordered.{has}
use Rattle.walrus_type_index.specs.Flat.{Link, Stands, none, node, hashed_of, count, Keeps, Wrote, Joins}

abbrev pub Slots : Type 0
Slots = ℕ → Option Link

-- counting
pub count-append : (id : ℕ) (xs ys : List Hashed) → count id (xs ++ ys) ≡ count id xs + count id ys
count-append id [] ys = omega arith
count-append id (x ∷ xs) ys = let more = count-append id xs ys in omega arith

one-step : (b : Bool) (n : ℕ) → b ≡ true → cond b 1 0 + n ≡ suc n
one-step true n e = omega arith
one-step false n e = absurd (false≢true e)

none-step : (b : Bool) (n : ℕ) → b ≡ false → cond b 1 0 + n ≡ n
none-step true n e = absurd (false≢true (sym e))
none-step false n e = omega arith

pub count-here : (id : ℕ) (x : Hashed) (xs : List Hashed) → x.id ≡ id → count id (x ∷ xs) ≡ suc (count id xs)
count-here id x xs e = one-step (x.id == id) (count id xs) (eq-eqb x.id id e)

pub count-other : (id : ℕ) (x : Hashed) (xs : List Hashed) → (x.id ≡ id → ⊥) → count id (x ∷ xs) ≡ count id xs
count-other id x xs e = elim (cases_Bool (x.id == id)) as (λ _. count id (x ∷ xs) ≡ count id xs) [
  | inl same ↦ absurd (e (eqb-true x.id id same))
  | inr other ↦ none-step (x.id == id) (count id xs) other
]

pub same-or : (a b : ℕ) → (a ≡ b) ⊎ (a ≡ b → ⊥)
same-or a b = elim (cases_Bool (a == b)) as (λ _. (a ≡ b) ⊎ (a ≡ b → ⊥)) [
  | inl same ↦ inl (eqb-true a b same)
  | inr other ↦ inr (λ e. false≢true (sym other ∙ eq-eqb a b e))
]

-- around one of them
pub count-mid : (id : ℕ) (l : List Hashed) (x : Hashed) (r : List Hashed) → count id (l ++ x ∷ r) ≡ count id l + count id (x ∷ []) + count id r
count-mid id l x r = let a = count-append id l (x ∷ r) in omega arith

-- an id that isn't in
pub has-out : (id : ℕ) (xs : List Hashed) → has id xs ≡ false → count id xs ≡ 0
has-out id [] e = refl
has-out id (x ∷ xs) e = elim (cases_Bool (x.id == id)) as (λ _. count id (x ∷ xs) ≡ 0) [
  | inl same ↦ absurd (false≢true (sym e ∙ ap (λ (b : Bool). b || has id xs) same))
  | inr other ↦ count-other id x xs (λ f. false≢true (sym other ∙ eq-eqb x.id id f)) ∙ has-out id xs (ap (λ (b : Bool). b || has id xs) (sym other) ∙ e)
]

-- what stands there
pub some-none : {A : Type 0} (o : Option A) (x : A) → o ≡ None → o ≡ Some x → ⊥
some-none o x e f = absurd cc

pub nothing : (at : Slots) (top : ℕ) (xs : List Hashed) → Stands at top xs → at top ≡ None → xs ≡ []
nothing at top xs (none _ _ _ e is) gone = is
nothing at top xs (node _ _ n l r e left right is) gone = absurd (some-none (at top) n gone e)

pub record Sides (at : Slots) (top : ℕ) (n : Link) (xs : List Hashed) : Type 0 where
  pub before : List Hashed
  pub behind : List Hashed
  pub left : Stands at n.left before
  pub right : Stands at n.right behind
  pub are : xs ≡ before ++ hashed_of top n ∷ behind

pub sides : (at : Slots) (top : ℕ) (n : Link) (xs : List Hashed) → Stands at top xs → at top ≡ Some n → Sides at top n xs
sides at top n xs (none _ _ _ e is) found = absurd (some-none (at top) n e found)
sides at top n xs (node _ _ m l r e left right is) found =
    let same : m ≡ n = let f : Some m ≡ Some n = sym e ∙ found in cc in
    subst (λ (k : Link). Sides at top k xs) same (record { before = l; behind = r; left = left; right = right; are = is })

-- What stands still stands, where its nodes are as they were.
pub still : (old new : Slots) (top : ℕ) (xs : List Hashed) → Stands old top xs → ((id : ℕ) → 1 ≤ count id xs → new id ≡ old id) → ((id : ℕ) → old id ≡ None → new id ≡ None) → Stands new top xs
still old new top xs (none _ _ end e is) same empty = none top xs end (empty top e) is
still old new top xs (node _ _ n l r e left right is) same empty =
    let x = hashed_of top n in
    let within : (id : ℕ) → count id xs ≡ count id l + count id (x ∷ []) + count id r = λ id. ap (count id) is ∙ count-mid id l x r in
    let here : count top (x ∷ []) ≡ 1 = count-here top x [] refl in
    node top xs n l r (same top (let w = within top in omega (arith, w, here)) ∙ e)
    (still old new n.left l left (λ id h. same id (let w = within id in omega (arith, w, h))) empty)
    (still old new n.right r right (λ id h. same id (let w = within id in omega (arith, w, h))) empty)
    is

-- two lists without a common id
abbrev pub Apart : List Hashed → List Hashed → Type 0
Apart xs ys = (id : ℕ) → count id xs + count id ys ≤ 1

pub beside : (old new : Slots) (touched : List Hashed) (top : ℕ) (xs : List Hashed) → Keeps old new touched → Stands old top xs → Apart touched xs → Stands new top xs
beside old new touched top xs keeps stands apart = still old new top xs stands (λ id h. keeps.apart id (let a = apart id in omega (arith, a, h))) keeps.empty

-- so does a node
pub node_beside : (old new : Slots) (touched : List Hashed) (top : ℕ) (n : Link) → Keeps old new touched → old top ≡ Some n → count top touched ≡ 0 → new top ≡ Some n
node_beside old new touched top n keeps found out = keeps.apart top out ∙ found

-- changes one behind the other
pub keeps-then : (a b c : Slots) (xs ys zs : List Hashed) → Keeps a b xs → Keeps b c ys → ((id : ℕ) → count id xs ≤ count id zs) → ((id : ℕ) → count id ys ≤ count id zs) → Keeps a c zs
keeps-then a b c xs ys zs first second within also = record {
  apart = λ id e. second.apart id (let h = also id in omega (arith, h, e)) ∙ first.apart id (let h = within id in omega (arith, h, e));
  empty = λ id e. second.empty id (first.empty id e);
}

pub keeps-more : (a b : Slots) (xs zs : List Hashed) → Keeps a b xs → ((id : ℕ) → count id xs ≤ count id zs) → Keeps a b zs
keeps-more a b xs zs keeps within = record { apart = λ id e. keeps.apart id (let h = within id in omega (arith, h, e)); empty = keeps.empty }

pub one-keeps : (a b : Slots) (x : Hashed) → ((id : ℕ) → (id ≡ x.id → ⊥) → b id ≡ a id) → (a x.id ≡ None → b x.id ≡ None) → Keeps a b (x ∷ [])
one-keeps a b x apart empty =
    let here : count x.id (x ∷ []) ≡ 1 = count-here x.id x [] refl in
    record {
      apart = λ id e. elim (same-or id x.id) as (λ _. b id ≡ a id) [
        | inl same ↦ let h : count x.id (x ∷ []) ≡ 0 = ap (λ (k : ℕ). count k (x ∷ [])) (sym same) ∙ e in let c : ⊥ = omega (arith, h, here) in absurd c
        | inr other ↦ apart id other
      ];
      empty = λ id e. elim (same-or id x.id) as (λ _. b id ≡ None) [
        | inl same ↦ ap b same ∙ empty (ap a (sym same) ∙ e)
        | inr other ↦ apart id other ∙ e
      ];
    }

pub wrote-keeps : (a b : Slots) (top left right : ℕ) (n : Link) → Wrote a b top left right → Keeps a b (hashed_of top n ∷ [])
wrote-keeps a b top left right n wrote = one-keeps a b (hashed_of top n) wrote.apart wrote.empty

-- the node over its sides
pub linked : (a b : Slots) (left top right : ℕ) → Wrote a b top left right → Joins a b left top right top
linked a b left top right wrote n l r found before behind once =
    let x = hashed_of top n in
    let keeps = wrote-keeps a b top left right n wrote in
    let sum : (id : ℕ) → count id (l ++ x ∷ r) ≡ count id l + count id (x ∷ []) + count id r = λ id. count-mid id l x r in
    let m : Link = record { hash = n.hash; left = left; right = right } in
    record {
      stands = node top (l ++ x ∷ r) m l r (wrote.here n found)
          (beside a b (x ∷ []) left l keeps before (λ id. let s = sum id in let o = once id in omega (arith, s, o)))
          (beside a b (x ∷ []) right r keeps behind (λ id. let s = sum id in let o = once id in omega (arith, s, o)))
          refl;
      keeps = keeps-more a b (x ∷ []) (l ++ x ∷ r) keeps (λ id. let s = sum id in omega (arith, s));
      within = λ id. omega arith;
    }

-- a hash and an id make one
pub hashed-is : (x : Hashed) (id : ℕ) (n : Link) → x.hash ≡ n.hash → x.id ≡ id → x ≡ hashed_of id n
hashed-is x id n e f =
    let both : ℕ → ℕ → Hashed = λ h i. record { hash = h; id = i } in
    ap (λ (h : ℕ). both h x.id) e ∙ ap (λ (i : ℕ). both n.hash i) f
