-- Trees whose nodes stand in one list: those that pass a test, and those that fail it.
use Rattle.std.proofs.Common.{◌≡◌, ℕ, suc, ◌+◌, ◌≤◌, Bool, true, false, List, [], ◌∷◌, ◌++◌, length, filter, Some, inl, inr, refl, sym, subst, arith}
use Rattle.std.proofs.lemmas.Bool.{cases_Bool}
use Rattle.walrus_type_index.specs.Places.{Hashed}
use Rattle.walrus_type_index.specs.Flat.{Link, Stands, hashed_of, count, IsOnce, Keeps, Becomes, Joins, Merges, Filters}
use Rattle.walrus_type_index.proofs.TreeLemmas.{kept-mid, gone-mid}
use Rattle.walrus_type_index.proofs.FlatLemmas.{Slots, count-here, count-append, count-mid, sides, beside, node_beside, keeps-then}
use Rattle.walrus_type_index.proofs.FlatJoins.{once-left, once-right}
use Rattle.walrus_type_index.proofs.FlatEdits.{short-left, short-right}

pub filter-short : (p : Hashed → Bool) (xs : List Hashed) → length (filter p xs) ≤ length xs
filter-short p [] = omega arith
filter-short p (x ∷ xs) = elim (cases_Bool (p x)) as (λ _. length (filter p (x ∷ xs)) ≤ length (x ∷ xs)) [
  | inl hit ↦ rw hit (let h = filter-short p xs in omega (arith, h))
  | inr no_it ↦ rw no_it (let h = filter-short p xs in omega (arith, h))
]

-- both sides of a node changed, one after the other
pub record Sided (a c : Slots) (top : ℕ) (n : Link) (l r : List Hashed) (left right : ℕ) (xs ys : List Hashed) : Type 0 where
  pub found : c top ≡ Some n
  pub left_stands : Stands c left xs
  pub right_stands : Stands c right ys
  pub keeps : Keeps a c (l ++ hashed_of top n ∷ r)
  pub within : (id : ℕ) → count id (xs ++ hashed_of top n ∷ ys) ≤ count id (l ++ hashed_of top n ∷ r)
  pub within_both : (id : ℕ) → count id (xs ++ ys) ≤ count id (l ++ hashed_of top n ∷ r)

pub sided : (a b c : Slots) (top : ℕ) (n : Link) (l r : List Hashed) (left right : ℕ) (xs ys : List Hashed) → a top ≡ Some n → IsOnce (l ++ hashed_of top n ∷ r) → Becomes a b l left xs → Becomes b c r right ys
    → Sided a c top n l r left right xs ys
sided a b c top n l r left right xs ys found once first second =
    let x = hashed_of top n in
    let all : (id : ℕ) → count id (l ++ x ∷ r) ≡ count id l + count id (x ∷ []) + count id r = λ id. count-mid id l x r in
    let new : (id : ℕ) → count id (xs ++ x ∷ ys) ≡ count id xs + count id (x ∷ []) + count id ys = λ id. count-mid id xs x ys in
    let here : count top (x ∷ []) ≡ 1 = count-here top x [] refl in
    let out : count top l ≡ 0 = let s = all top in let o = once top in omega (arith, s, o, here) in
    let also : count top r ≡ 0 = let s = all top in let o = once top in omega (arith, s, o, here) in
    record {
      found = node_beside b c r top n second.keeps (node_beside a b l top n first.keeps found out) also;
      left_stands = beside b c r left xs second.keeps first.stands (λ id. let s = all id in let o = once id in let w = first.within id in omega (arith, s, o, w));
      right_stands = second.stands;
      keeps = keeps-then a b c l r (l ++ x ∷ r) first.keeps second.keeps (λ id. let s = all id in omega (arith, s)) (λ id. let s = all id in omega (arith, s));
      within = λ id. let s = all id in let t = new id in let v = first.within id in let w = second.within id in omega (arith, s, t, v, w);
      within_both = λ id. let s = all id in let t = count-append id xs ys in let v = first.within id in let w = second.within id in omega (arith, s, t, v, w);
    }

-- the node stays
pub filters_on : (p : Hashed → Bool) (a b c d : Slots) (top less fuel : ℕ) (n : Link) (left right result : ℕ) → a top ≡ Some n → suc less ≡ fuel → p (hashed_of top n) ≡ true
    → Filters p a b n.left less left → Filters p b c n.right less right → Joins c d left top right result → Filters p a d top fuel result
filters_on p a b c d top less fuel n left right result found e passes first second joins xs stands once short =
    let x = hashed_of top n in
    let it = sides a top n xs stands found in
    let P : List Hashed → Type 0 = λ zs. IsOnce zs in
    let once_now : IsOnce (it.before ++ x ∷ it.behind) = subst P it.are once in
    let L : List Hashed → Type 0 = λ zs. length zs ≤ fuel in
    let all : (id : ℕ) → count id (it.before ++ x ∷ it.behind) ≡ count id it.before + count id (x ∷ []) + count id it.behind = λ id. count-mid id it.before x it.behind in
    let f = first it.before it.left (once-left it.before x it.behind once_now) (short-left it.before x it.behind less fuel (subst L it.are short) e) in
    let there = beside a b it.before n.right it.behind f.keeps it.right (λ id. let s = all id in let o = once_now id in omega (arith, s, o)) in
    let g = second it.behind there (once-right it.before x it.behind once_now) (short-right it.before x it.behind less fuel (subst L it.are short) e) in
    let both = sided a b c top n it.before it.behind left right (filter p it.before) (filter p it.behind) found once_now f g in
    let last = joins n (filter p it.before) (filter p it.behind) both.found both.left_stands both.right_stands (λ id. let w = both.within id in let o = once_now id in omega (arith, w, o)) in
    let done : Becomes a d (it.before ++ x ∷ it.behind) result (filter p it.before ++ x ∷ filter p it.behind) = record {
      stands = last.stands;
      keeps = keeps-then a c d (it.before ++ x ∷ it.behind) (filter p it.before ++ x ∷ filter p it.behind) (it.before ++ x ∷ it.behind) both.keeps last.keeps (λ id. omega arith) both.within;
      within = both.within;
    } in
    let Q : List Hashed → Type 0 = λ zs. Becomes a d (it.before ++ x ∷ it.behind) result zs in
    let R : List Hashed → Type 0 = λ zs. Becomes a d zs result (filter p zs) in
    subst R (sym it.are) (subst Q (sym (kept-mid p it.before x it.behind passes)) done)

-- the node goes
pub filters_off : (p : Hashed → Bool) (a b c d : Slots) (top less fuel : ℕ) (n : Link) (left right result : ℕ) → a top ≡ Some n → suc less ≡ fuel → p (hashed_of top n) ≡ false
    → Filters p a b n.left less left → Filters p b c n.right less right → Merges c d left right fuel result → Filters p a d top fuel result
filters_off p a b c d top less fuel n left right result found e fails first second merges xs stands once short =
    let x = hashed_of top n in
    let it = sides a top n xs stands found in
    let P : List Hashed → Type 0 = λ zs. IsOnce zs in
    let once_now : IsOnce (it.before ++ x ∷ it.behind) = subst P it.are once in
    let L : List Hashed → Type 0 = λ zs. length zs ≤ fuel in
    let short_right = short-right it.before x it.behind less fuel (subst L it.are short) e in
    let all : (id : ℕ) → count id (it.before ++ x ∷ it.behind) ≡ count id it.before + count id (x ∷ []) + count id it.behind = λ id. count-mid id it.before x it.behind in
    let f = first it.before it.left (once-left it.before x it.behind once_now) (short-left it.before x it.behind less fuel (subst L it.are short) e) in
    let there = beside a b it.before n.right it.behind f.keeps it.right (λ id. let s = all id in let o = once_now id in omega (arith, s, o)) in
    let g = second it.behind there (once-right it.before x it.behind once_now) short_right in
    let both = sided a b c top n it.before it.behind left right (filter p it.before) (filter p it.behind) found once_now f g in
    let last = merges (filter p it.before) (filter p it.behind) both.left_stands both.right_stands (λ id. let w = both.within_both id in let o = once_now id in omega (arith, w, o))
    (let h = filter-short p it.behind in omega (arith, h, short_right, e)) in
    let done : Becomes a d (it.before ++ x ∷ it.behind) result (filter p it.before ++ filter p it.behind) = record {
      stands = last.stands;
      keeps = keeps-then a c d (it.before ++ x ∷ it.behind) (filter p it.before ++ filter p it.behind) (it.before ++ x ∷ it.behind) both.keeps last.keeps (λ id. omega arith) both.within_both;
      within = both.within_both;
    } in
    let Q : List Hashed → Type 0 = λ zs. Becomes a d (it.before ++ x ∷ it.behind) result zs in
    let R : List Hashed → Type 0 = λ zs. Becomes a d zs result (filter p zs) in
    subst R (sym it.are) (subst Q (sym (gone-mid p it.before x it.behind fails)) done)
