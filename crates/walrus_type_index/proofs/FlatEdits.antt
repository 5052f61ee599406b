-- Trees whose nodes stand in one list: joining two, putting in and taking out.
use Rattle.std.proofs.Common.{◌≡◌, ◌∙◌, ℕ, suc, ◌+◌, ◌≤◌, Bool, true, false, not, List, [], ◌∷◌, ◌++◌, length, filter, find, Option, Some, None, IsSome, is_some, Less, Greater, Equal, refl, sym, ap, subst, arith, length-append}
use Rattle.std.proofs.lemmas.Bool.{false≢true}
use Rattle.walrus_items.specs.walrus_forms.Kinds.{Kind}
use Rattle.walrus_type_index.specs.Places.{Hashed, hashed_cmp, is_before, is_tied, put_in}
use Rattle.walrus_type_index.specs.Flat.{Link, Stands, none, node, hashed_of, count, IsOnce, Becomes, Joins, Merges, Firsts, Begins, Puts, Takes, Meets}
use Rattle.walrus_type_index.proofs.TreeLemmas.{Sorted, sorted-front, sorted-back, put-left, put-right, take-left, take-right, take-here}
use Rattle.walrus_type_index.proofs.FlatLemmas.{Slots, count-here, count-append, count-mid, nothing, sides, beside, node_beside, keeps-then, keeps-more, one-keeps}
use Rattle.walrus_type_index.proofs.FlatJoins.{left_after, left_joined, right_joined, becomes-more, once-left, once-right}

-- how long the sides are
pub short-left : (l : List Hashed) (x : Hashed) (r : List Hashed) (less fuel : ℕ) → length (l ++ x ∷ r) ≤ fuel → suc less ≡ fuel → length l ≤ less
short-left l x r less fuel short e = let s = length-append l (x ∷ r) in omega (arith, s, short, e)

pub short-right : (l : List Hashed) (x : Hashed) (r : List Hashed) (less fuel : ℕ) → length (l ++ x ∷ r) ≤ fuel → suc less ≡ fuel → length r ≤ less
short-right l x r less fuel short e = let s = length-append l (x ∷ r) in omega (arith, s, short, e)

-- the first of a tree
pub first_under : (a b c : Slots) (top less fuel : ℕ) (n k : Link) (first rest result : ℕ) → a top ≡ Some n → a n.left ≡ Some k → suc less ≡ fuel → Firsts a b n.left less first rest
    → Joins b c rest top n.right result → Firsts a c top fuel first result
first_under a b c top less fuel n k first rest result found there e firsts joins m xs also stands once short =
    let x = hashed_of top n in
    let it = sides a top n xs stands found in
    let whole = it.before ++ x ∷ it.behind in
    let P : List Hashed → Type 0 = λ zs. IsOnce zs in
    let once_now : IsOnce whole = subst P it.are once in
    let L : List Hashed → Type 0 = λ zs. length zs ≤ fuel in
    let f = firsts k it.before there it.left (once-left it.before x it.behind once_now) (short-left it.before x it.behind less fuel (subst L it.are short) e) in
    let h = hashed_of first f.n in
    let sum : (id : ℕ) → count id it.before ≡ count id (h ∷ f.behind) = λ id. ap (count id) f.are in
    let change : Becomes a b it.before rest f.behind = record {
      stands = f.stands;
      keeps = f.keeps;
      within = λ id. let s = sum id in omega (arith, s);
    } in
    let all = left_joined a b c it.before f.behind it.behind n rest top n.right result found it.right once_now change joins in
    let last = left_after a b c it.before f.behind it.behind n rest top n.right result found it.right once_now change joins in
    let are : xs ≡ h ∷ (f.behind ++ x ∷ it.behind) = it.are ∙ ap (λ (zs : List Hashed). zs ++ x ∷ it.behind) f.are in
    let out : count first (f.behind ++ x ∷ it.behind) ≡ 0 =
    let o = once first in let s = ap (count first) are in let t = count-here first h (f.behind ++ x ∷ it.behind) refl in omega (arith, o, s, t) in
    record {
      n = f.n;
      behind = f.behind ++ x ∷ it.behind;
      found = node_beside b c (f.behind ++ x ∷ it.behind) first f.n last.keeps f.found out;
      are = are;
      stands = all.stands;
      keeps = keeps-more a c whole xs all.keeps (λ id. let s = ap (count id) it.are in omega (arith, s));
    }

-- two trees in one
pub merged : (a b c : Slots) (left right fuel : ℕ) (n : Link) (first rest result : ℕ) → a right ≡ Some n → Firsts a b right fuel first rest → Joins b c left first rest result
    → Merges a c left right fuel result
merged a b c left right fuel n first rest result found firsts joins before behind stands_left stands_right once short =
    let sum : (id : ℕ) → count id (before ++ behind) ≡ count id before + count id behind = λ id. count-append id before behind in
    let f = firsts n behind found stands_right (λ id. let s = sum id in let o = once id in omega (arith, s, o)) short in
    let h = hashed_of first f.n in
    let there = beside a b behind left before f.keeps stands_left (λ id. let s = sum id in let o = once id in omega (arith, s, o)) in
    let P : List Hashed → Type 0 = λ zs. IsOnce (before ++ zs) in
    let last = joins f.n before f.behind f.found there f.stands (subst P f.are once) in
    let Q : List Hashed → Type 0 = λ zs. Becomes b c (before ++ zs) result (before ++ zs) in
    let all = subst Q (sym f.are) last in
    record {
      stands = all.stands;
      keeps = keeps-then a b c behind (before ++ behind) (before ++ behind) f.keeps all.keeps (λ id. let s = sum id in omega (arith, s)) (λ id. omega arith);
      within = all.within;
    }

-- putting in
not-none : {A : Type 0} (o : Option A) → IsSome o → o ≡ None → ⊥
not-none None e f = false≢true e
not-none (Some x) e f = absurd cc

pub puts_none : (ks : List (Option Kind)) (a b : Slots) (top : ℕ) (x : Hashed) (fuel : ℕ) → a top ≡ None → Begins a b x → Puts ks a b top x fuel x.id
puts_none ks a b top x fuel gone begins xs stands once sorted there bare short =
    let empty : xs ≡ [] = nothing a top xs stands gone in
    let link : Link = record { hash = x.hash; left = 4294967295; right = 4294967295 } in
    let end : b 4294967295 ≡ None = begins.apart 4294967295 (λ e. not-none (a x.id) there (ap a (sym e) ∙ bare)) ∙ bare in
    let leaf : Stands b 4294967295 [] = none 4294967295 [] refl end refl in
    let P : List Hashed → Type 0 = λ zs. Becomes a b (x ∷ zs) x.id (put_in (is_before ks x) x zs) in
    subst P (sym empty) (record {
      stands = node x.id (x ∷ []) link [] [] (begins.here there) leaf leaf refl;
      keeps = one-keeps a b x begins.apart begins.empty;
      within = λ id. omega arith;
    })

count-cons : (id : ℕ) (x : Hashed) (xs : List Hashed) → count id (x ∷ xs) ≡ count id (x ∷ []) + count id xs
count-cons id x xs = omega arith

pub puts_left : (ks : List (Option Kind)) (a b c : Slots) (top less fuel : ℕ) (x : Hashed) (n : Link) (side result : ℕ) → a top ≡ Some n → is_before ks x (hashed_of top n) ≡ true → suc less ≡ fuel
    → Puts ks a b n.left x less side → Joins b c side top n.right result → Puts ks a c top x fuel result
puts_left ks a b c top less fuel x n side result found hit e puts joins xs stands once sorted there bare short =
    let y = hashed_of top n in
    let it = sides a top n xs stands found in
    let P : List Hashed → Type 0 = λ zs. IsOnce (x ∷ zs) in
    let once_now : IsOnce (x ∷ (it.before ++ y ∷ it.behind)) = subst P it.are once in
    let L : List Hashed → Type 0 = λ zs. length zs ≤ fuel in
    let sorted_now = subst (Sorted ks) it.are sorted in
    let change = puts it.before it.left (once-left (x ∷ it.before) y it.behind once_now) (sorted-front (hashed_cmp ks) it.before (y ∷ it.behind) sorted_now) there bare
    (short-left it.before y it.behind less fuel (subst L it.are short) e) in
    let all = left_joined a b c (x ∷ it.before) (put_in (is_before ks x) x it.before) it.behind n side top n.right result found it.right once_now change joins in
    let Q : List Hashed → Type 0 = λ zs. Becomes a c (x ∷ (it.before ++ y ∷ it.behind)) result zs in
    let R : List Hashed → Type 0 = λ zs. Becomes a c (x ∷ zs) result (put_in (is_before ks x) x zs) in
    subst R (sym it.are) (subst Q (sym (put-left (is_before ks x) x it.before y it.behind hit)) all)

pub puts_right : (ks : List (Option Kind)) (a b c : Slots) (top less fuel : ℕ) (x : Hashed) (n : Link) (side result : ℕ) → a top ≡ Some n → is_before ks x (hashed_of top n) ≡ false → suc less ≡ fuel
    → Puts ks a b n.right x less side → Joins b c n.left top side result → Puts ks a c top x fuel result
puts_right ks a b c top less fuel x n side result found past e puts joins xs stands once sorted there bare short =
    let y = hashed_of top n in
    let it = sides a top n xs stands found in
    let P : List Hashed → Type 0 = λ zs. IsOnce (x ∷ zs) in
    let once_now : IsOnce (x ∷ (it.before ++ y ∷ it.behind)) = subst P it.are once in
    let L : List Hashed → Type 0 = λ zs. length zs ≤ fuel in
    let sorted_now = subst (Sorted ks) it.are sorted in
    let moved : (id : ℕ) → count id (it.before ++ y ∷ x ∷ it.behind) ≡ count id (x ∷ (it.before ++ y ∷ it.behind)) =
    λ id.
    let s = count-mid id it.before y (x ∷ it.behind) in
    let t = count-mid id it.before y it.behind in
    let u = count-cons id x it.behind in
    let v = count-cons id x (it.before ++ y ∷ it.behind) in
    omega (arith, s, t, u, v) in
    let once_moved : IsOnce (it.before ++ y ∷ x ∷ it.behind) = λ id. let m = moved id in let o = once_now id in omega (arith, m, o) in
    let change = puts it.behind it.right (once-right it.before y (x ∷ it.behind) once_moved) (sorted-back (hashed_cmp ks) it.before y it.behind sorted_now) there bare
    (short-right it.before y it.behind less fuel (subst L it.are short) e) in
    let all = right_joined a b c it.before (x ∷ it.behind) (put_in (is_before ks x) x it.behind) n n.left top side result found it.left once_moved change joins in
    let more = becomes-more a c (it.before ++ y ∷ x ∷ it.behind) (x ∷ (it.before ++ y ∷ it.behind)) result (it.before ++ y ∷ put_in (is_before ks x) x it.behind) all
    (λ id. let m = moved id in omega (arith, m)) in
    let Q : List Hashed → Type 0 = λ zs. Becomes a c (x ∷ (it.before ++ y ∷ it.behind)) result zs in
    let R : List Hashed → Type 0 = λ zs. Becomes a c (x ∷ zs) result (put_in (is_before ks x) x zs) in
    subst R (sym it.are) (subst Q (sym (put-right ks x it.before y it.behind sorted_now past)) more)

-- taking out
pub takes_left : (ks : List (Option Kind)) (a b c : Slots) (top less fuel : ℕ) (x : Hashed) (n : Link) (rest result : ℕ) → a top ≡ Some n → hashed_cmp ks x (hashed_of top n) ≡ Less → suc less ≡ fuel
    → Takes ks a b n.left x less rest → Joins b c rest top n.right result → Takes ks a c top x fuel result
takes_left ks a b c top less fuel x n rest result found way e takes joins xs stands once sorted short =
    let y = hashed_of top n in
    let it = sides a top n xs stands found in
    let P : List Hashed → Type 0 = λ zs. IsOnce zs in
    let once_now : IsOnce (it.before ++ y ∷ it.behind) = subst P it.are once in
    let L : List Hashed → Type 0 = λ zs. length zs ≤ fuel in
    let stay : Hashed → Bool = λ z. not (is_tied ks x z) in
    let sorted_now = subst (Sorted ks) it.are sorted in
    let change = takes it.before it.left (once-left it.before y it.behind once_now) (sorted-front (hashed_cmp ks) it.before (y ∷ it.behind) sorted_now)
    (short-left it.before y it.behind less fuel (subst L it.are short) e) in
    let all = left_joined a b c it.before (filter stay it.before) it.behind n rest top n.right result found it.right once_now change joins in
    let Q : List Hashed → Type 0 = λ zs. Becomes a c (it.before ++ y ∷ it.behind) result zs in
    let R : List Hashed → Type 0 = λ zs. Becomes a c zs result (filter stay zs) in
    subst R (sym it.are) (subst Q (sym (take-left ks x it.before y it.behind sorted_now way).rest) all)

pub takes_right : (ks : List (Option Kind)) (a b c : Slots) (top less fuel : ℕ) (x : Hashed) (n : Link) (rest result : ℕ) → a top ≡ Some n → hashed_cmp ks x (hashed_of top n) ≡ Greater → suc less ≡ fuel
    → Takes ks a b n.right x less rest → Joins b c n.left top rest result → Takes ks a c top x fuel result
takes_right ks a b c top less fuel x n rest result found way e takes joins xs stands once sorted short =
    let y = hashed_of top n in
    let it = sides a top n xs stands found in
    let P : List Hashed → Type 0 = λ zs. IsOnce zs in
    let once_now : IsOnce (it.before ++ y ∷ it.behind) = subst P it.are once in
    let L : List Hashed → Type 0 = λ zs. length zs ≤ fuel in
    let stay : Hashed → Bool = λ z. not (is_tied ks x z) in
    let sorted_now = subst (Sorted ks) it.are sorted in
    let change = takes it.behind it.right (once-right it.before y it.behind once_now) (sorted-back (hashed_cmp ks) it.before y it.behind sorted_now)
    (short-right it.before y it.behind less fuel (subst L it.are short) e) in
    let all = right_joined a b c it.before it.behind (filter stay it.behind) n n.left top rest result found it.left once_now change joins in
    let Q : List Hashed → Type 0 = λ zs. Becomes a c (it.before ++ y ∷ it.behind) result zs in
    let R : List Hashed → Type 0 = λ zs. Becomes a c zs result (filter stay zs) in
    subst R (sym it.are) (subst Q (sym (take-right ks x it.before y it.behind sorted_now way).rest) all)

pub takes_here : (ks : List (Option Kind)) (a b : Slots) (top fuel : ℕ) (x : Hashed) (n : Link) (result : ℕ) → a top ≡ Some n → hashed_cmp ks x (hashed_of top n) ≡ Equal
    → Merges a b n.left n.right fuel result → Takes ks a b top x fuel result
takes_here ks a b top fuel x n result found way merges xs stands once sorted short =
    let y = hashed_of top n in
    let it = sides a top n xs stands found in
    let P : List Hashed → Type 0 = λ zs. IsOnce zs in
    let once_now : IsOnce (it.before ++ y ∷ it.behind) = subst P it.are once in
    let stay : Hashed → Bool = λ z. not (is_tied ks x z) in
    let sum : (id : ℕ) → count id (it.before ++ it.behind) ≤ count id (it.before ++ y ∷ it.behind) =
    λ id. let s = count-append id it.before it.behind in let t = count-mid id it.before y it.behind in omega (arith, s, t) in
    let all = merges it.before it.behind it.left it.right (λ id. let s = sum id in let o = once_now id in omega (arith, s, o))
    (let s = length-append it.before (y ∷ it.behind) in let t = ap (λ (zs : List Hashed). length zs) it.are in omega (arith, s, t, short)) in
    let more = becomes-more a b (it.before ++ it.behind) (it.before ++ y ∷ it.behind) result (it.before ++ it.behind) all sum in
    let Q : List Hashed → Type 0 = λ zs. Becomes a b (it.before ++ y ∷ it.behind) result zs in
    let R : List Hashed → Type 0 = λ zs. Becomes a b zs result (filter stay zs) in
    subst R (sym it.are) (subst Q (sym (take-here ks x it.before y it.behind (subst (Sorted ks) it.are sorted) way).rest) more)

-- whether it was met
pub meets_left : (ks : List (Option Kind)) (a : Slots) (top less fuel : ℕ) (x : Hashed) (n : Link) (met : Bool) → a top ≡ Some n → hashed_cmp ks x (hashed_of top n) ≡ Less → suc less ≡ fuel
    → Meets ks a n.left x less met → Meets ks a top x fuel met
meets_left ks a top less fuel x n met found way e meets xs stands sorted short =
    let y = hashed_of top n in
    let it = sides a top n xs stands found in
    let L : List Hashed → Type 0 = λ zs. length zs ≤ fuel in
    let sorted_now = subst (Sorted ks) it.are sorted in
    let under = meets it.before it.left (sorted-front (hashed_cmp ks) it.before (y ∷ it.behind) sorted_now) (short-left it.before y it.behind less fuel (subst L it.are short) e) in
    under ∙ ap (λ (o : Option Hashed). is_some o) (sym (take-left ks x it.before y it.behind sorted_now way).found) ∙ ap (λ (zs : List Hashed). is_some (find (is_tied ks x) zs)) (sym it.are)

pub meets_right : (ks : List (Option Kind)) (a : Slots) (top less fuel : ℕ) (x : Hashed) (n : Link) (met : Bool) → a top ≡ Some n → hashed_cmp ks x (hashed_of top n) ≡ Greater → suc less ≡ fuel
    → Meets ks a n.right x less met → Meets ks a top x fuel met
meets_right ks a top less fuel x n met found way e meets xs stands sorted short =
    let y = hashed_of top n in
    let it = sides a top n xs stands found in
    let L : List Hashed → Type 0 = λ zs. length zs ≤ fuel in
    let sorted_now = subst (Sorted ks) it.are sorted in
    let under = meets it.behind it.right (sorted-back (hashed_cmp ks) it.before y it.behind sorted_now) (short-right it.before y it.behind less fuel (subst L it.are short) e) in
    under ∙ ap (λ (o : Option Hashed). is_some o) (sym (take-right ks x it.before y it.behind sorted_now way).found) ∙ ap (λ (zs : List Hashed). is_some (find (is_tied ks x) zs)) (sym it.are)

pub meets_here : (ks : List (Option Kind)) (a : Slots) (top fuel : ℕ) (x : Hashed) (n : Link) → a top ≡ Some n → hashed_cmp ks x (hashed_of top n) ≡ Equal → Meets ks a top x fuel true
meets_here ks a top fuel x n found way xs stands sorted short =
    let y = hashed_of top n in
    let it = sides a top n xs stands found in
    ap (λ (o : Option Hashed). is_some o) (sym (take-here ks x it.before y it.behind (subst (Sorted ks) it.are sorted) way).found) ∙ ap (λ (zs : List Hashed). is_some (find (is_tied ks x) zs)) (sym it.are)
