-- Trees whose nodes stand in one list: one becomes two.
use Rattle.std.proofs.Common.{◌≡◌, ℕ, suc, ◌+◌, ◌≤◌, Bool, true, false, not, List, [], ◌∷◌, ◌++◌, length, filter, Some, refl, sym, ap, subst, arith}
use Rattle.walrus_type_index.specs.Places.{Hashed}
use Rattle.walrus_type_index.specs.Flat.{Link, Stands, hashed_of, count, IsOnce, Keeps, Parts, Joins, Merges, Splits}
use Rattle.walrus_type_index.proofs.TreeLemmas.{kept-mid, gone-mid}
use Rattle.walrus_type_index.proofs.FlatLemmas.{Slots, count-here, count-append, count-mid, sides, beside, node_beside, keeps-then}
use Rattle.walrus_type_index.proofs.FlatJoins.{once-left, once-right}
use Rattle.walrus_type_index.proofs.FlatEdits.{short-left, short-right}
use Rattle.walrus_type_index.proofs.FlatFilters.{filter-short}

-- both sides of a node are two trees each
pub record Quarters (a c : Slots) (top : ℕ) (n : Link) (l r : List Hashed) (first second third fourth : ℕ) (ps qs ss ts : List Hashed) : Type 0 where
  pub found : c top ≡ Some n
  pub first_stands : Stands c first ps
  pub second_stands : Stands c second qs
  pub third_stands : Stands c third ss
  pub fourth_stands : Stands c fourth ts
  pub keeps : Keeps a c (l ++ hashed_of top n ∷ r)
  pub within : (id : ℕ) → count id ps + count id qs + count id (hashed_of top n ∷ []) + count id ss + count id ts ≤ count id (l ++ hashed_of top n ∷ r)

pub quarters : (a b c : Slots) (top : ℕ) (n : Link) (l r : List Hashed) (first second third fourth : ℕ) (p q s t : List Hashed) → a top ≡ Some n → IsOnce (l ++ hashed_of top n ∷ r)
    → Parts a b l first second p q → Parts b c r third fourth s t → Quarters a c top n l r first second third fourth p q s t
quarters a b c top n l r first second third fourth p q s t found once left right =
    let x = hashed_of top n in
    let all : (id : ℕ) → count id (l ++ x ∷ r) ≡ count id l + count id (x ∷ []) + count id r = λ id. count-mid id l x r in
    let here : count top (x ∷ []) ≡ 1 = count-here top x [] refl in
    let out : count top l ≡ 0 = let h = all top in let o = once top in omega (arith, h, o, here) in
    let also : count top r ≡ 0 = let h = all top in let o = once top in omega (arith, h, o, here) in
    record {
      found = node_beside b c r top n right.keeps (node_beside a b l top n left.keeps found out) also;
      first_stands = beside b c r first p right.keeps left.first_stands (λ id. let h = all id in let o = once id in let w = left.within id in omega (arith, h, o, w));
      second_stands = beside b c r second q right.keeps left.second_stands (λ id. let h = all id in let o = once id in let w = left.within id in omega (arith, h, o, w));
      third_stands = right.first_stands;
      fourth_stands = right.second_stands;
      keeps = keeps-then a b c l r (l ++ x ∷ r) left.keeps right.keeps (λ id. let h = all id in omega (arith, h)) (λ id. let h = all id in omega (arith, h));
      within = λ id. let h = all id in let v = left.within id in let w = right.within id in omega (arith, h, v, w);
    }

-- the sides of a node, each split
pub record Halved (p : Hashed → Bool) (a c : Slots) (top fuel : ℕ) (n : Link) (first second third fourth : ℕ) (xs : List Hashed) : Type 0 where
  pub before : List Hashed
  pub behind : List Hashed
  pub are : xs ≡ before ++ hashed_of top n ∷ behind
  pub once : IsOnce (before ++ hashed_of top n ∷ behind)
  pub short : length behind ≤ fuel
  pub parts : Quarters a c top n before behind first second third fourth (filter (λ x. not (p x)) before) (filter p before) (filter (λ x. not (p x)) behind) (filter p behind)

pub halved : (p : Hashed → Bool) (a b c : Slots) (top less fuel : ℕ) (n : Link) (first second third fourth : ℕ) (xs : List Hashed) → a top ≡ Some n → suc less ≡ fuel
    → Splits p a b n.left less first second → Splits p b c n.right less third fourth → Stands a top xs → IsOnce xs → length xs ≤ fuel → Halved p a c top fuel n first second third fourth xs
halved p a b c top less fuel n first second third fourth xs found e left right stands once short =
    let x = hashed_of top n in
    let it = sides a top n xs stands found in
    let P : List Hashed → Type 0 = λ zs. IsOnce zs in
    let once_now : IsOnce (it.before ++ x ∷ it.behind) = subst P it.are once in
    let L : List Hashed → Type 0 = λ zs. length zs ≤ fuel in
    let short_right = short-right it.before x it.behind less fuel (subst L it.are short) e in
    let all : (id : ℕ) → count id (it.before ++ x ∷ it.behind) ≡ count id it.before + count id (x ∷ []) + count id it.behind = λ id. count-mid id it.before x it.behind in
    let f = left it.before it.left (once-left it.before x it.behind once_now) (short-left it.before x it.behind less fuel (subst L it.are short) e) in
    let there = beside a b it.before n.right it.behind f.keeps it.right (λ id. let s = all id in let o = once_now id in omega (arith, s, o)) in
    let g = right it.behind there (once-right it.before x it.behind once_now) short_right in
    let no : Hashed → Bool = λ z. not (p z) in
    record {
      before = it.before;
      behind = it.behind;
      are = it.are;
      once = once_now;
      short = omega (arith, short_right, e);
      parts = quarters a b c top n it.before it.behind first second third fourth (filter no it.before) (filter p it.before) (filter no it.behind) (filter p it.behind) found once_now f g;
    }

-- the node passes
pub splits_on : (p : Hashed → Bool) (a b c d e : Slots) (top less fuel : ℕ) (n : Link) (first second third fourth early late : ℕ) → a top ≡ Some n → suc less ≡ fuel → p (hashed_of top n) ≡ true
    → Splits p a b n.left less first second → Splits p b c n.right less third fourth → Merges c d first third fuel early → Joins d e second top fourth late → Splits p a e top fuel early late
splits_on p a b c d e top less fuel n first second third fourth early late found step passes left right merges joins xs stands once short =
    let x = hashed_of top n in
    let it = halved p a b c top less fuel n first second third fourth xs found step left right stands once short in
    let q = it.parts in
    let no : Hashed → Bool = λ z. not (p z) in
    let us = filter no it.before ++ filter no it.behind in
    let vs = filter p it.before ++ x ∷ filter p it.behind in
    let sum : (id : ℕ) → count id us ≡ count id (filter no it.before) + count id (filter no it.behind) = λ id. count-append id (filter no it.before) (filter no it.behind) in
    let more : (id : ℕ) → count id vs ≡ count id (filter p it.before) + count id (x ∷ []) + count id (filter p it.behind) = λ id. count-mid id (filter p it.before) x (filter p it.behind) in
    let here : count top (x ∷ []) ≡ 1 = count-here top x [] refl in
    let both : (id : ℕ) → count id us + count id vs ≤ count id (it.before ++ x ∷ it.behind) = λ id. let s = sum id in let m = more id in let w = q.within id in omega (arith, s, m, w) in
    let m = merges (filter no it.before) (filter no it.behind) q.first_stands q.third_stands (λ id. let w = both id in let o = it.once id in omega (arith, w, o))
    (let h = filter-short no it.behind in let k = it.short in omega (arith, h, k)) in
    let j = joins n (filter p it.before) (filter p it.behind)
    (node_beside c d us top n m.keeps q.found (let w = both top in let o = it.once top in let k = more top in omega (arith, w, o, k, here)))
    (beside c d us second (filter p it.before) m.keeps q.second_stands (λ id. let w = both id in let o = it.once id in let k = more id in omega (arith, w, o, k)))
    (beside c d us fourth (filter p it.behind) m.keeps q.fourth_stands (λ id. let w = both id in let o = it.once id in let k = more id in omega (arith, w, o, k)))
    (λ id. let w = both id in let o = it.once id in omega (arith, w, o)) in
    let whole = it.before ++ x ∷ it.behind in
    let done : Parts a e whole early late us vs = record {
      first_stands = beside d e vs early us j.keeps m.stands (λ id. let w = both id in let o = it.once id in omega (arith, w, o));
      second_stands = j.stands;
      keeps = keeps-then a d e whole vs whole (keeps-then a c d whole us whole q.keeps m.keeps (λ id. omega arith) (λ id. let w = both id in omega (arith, w))) j.keeps
          (λ id. omega arith) (λ id. let w = both id in omega (arith, w));
      within = both;
    } in
    let Q : List Hashed → Type 0 = λ zs. Parts a e whole early late zs vs in
    let R : List Hashed → Type 0 = λ zs. Parts a e whole early late (filter no whole) zs in
    let T : List Hashed → Type 0 = λ zs. Parts a e zs early late (filter no zs) (filter p zs) in
    subst T (sym it.are) (subst R (sym (kept-mid p it.before x it.behind passes)) (subst Q (sym (gone-mid no it.before x it.behind (ap not passes))) done))

-- it fails
pub splits_off : (p : Hashed → Bool) (a b c d e : Slots) (top less fuel : ℕ) (n : Link) (first second third fourth early late : ℕ) → a top ≡ Some n → suc less ≡ fuel → p (hashed_of top n) ≡ false
    → Splits p a b n.left less first second → Splits p b c n.right less third fourth → Joins c d first top third early → Merges d e second fourth fuel late → Splits p a e top fuel early late
splits_off p a b c d e top less fuel n first second third fourth early late found step fails left right joins merges xs stands once short =
    let x = hashed_of top n in
    let it = halved p a b c top less fuel n first second third fourth xs found step left right stands once short in
    let q = it.parts in
    let no : Hashed → Bool = λ z. not (p z) in
    let us = filter no it.before ++ x ∷ filter no it.behind in
    let vs = filter p it.before ++ filter p it.behind in
    let sum : (id : ℕ) → count id us ≡ count id (filter no it.before) + count id (x ∷ []) + count id (filter no it.behind) = λ id. count-mid id (filter no it.before) x (filter no it.behind) in
    let more : (id : ℕ) → count id vs ≡ count id (filter p it.before) + count id (filter p it.behind) = λ id. count-append id (filter p it.before) (filter p it.behind) in
    let both : (id : ℕ) → count id us + count id vs ≤ count id (it.before ++ x ∷ it.behind) = λ id. let s = sum id in let m = more id in let w = q.within id in omega (arith, s, m, w) in
    let j = joins n (filter no it.before) (filter no it.behind) q.found q.first_stands q.third_stands (λ id. let w = both id in let o = it.once id in omega (arith, w, o)) in
    let m = merges (filter p it.before) (filter p it.behind)
    (beside c d us second (filter p it.before) j.keeps q.second_stands (λ id. let w = both id in let o = it.once id in let k = more id in omega (arith, w, o, k)))
    (beside c d us fourth (filter p it.behind) j.keeps q.fourth_stands (λ id. let w = both id in let o = it.once id in let k = more id in omega (arith, w, o, k)))
    (λ id. let w = both id in let o = it.once id in omega (arith, w, o))
    (let h = filter-short p it.behind in let k = it.short in omega (arith, h, k)) in
    let whole = it.before ++ x ∷ it.behind in
    let done : Parts a e whole early late us vs = record {
      first_stands = beside d e vs early us m.keeps j.stands (λ id. let w = both id in let o = it.once id in omega (arith, w, o));
      second_stands = m.stands;
      keeps = keeps-then a d e whole vs whole (keeps-then a c d whole us whole q.keeps j.keeps (λ id. omega arith) (λ id. let w = both id in omega (arith, w))) m.keeps
          (λ id. omega arith) (λ id. let w = both id in omega (arith, w));
      within = both;
    } in
    let Q : List Hashed → Type 0 = λ zs. Parts a e whole early late zs vs in
    let R : List Hashed → Type 0 = λ zs. Parts a e whole early late (filter no whole) zs in
    let T : List Hashed → Type 0 = λ zs. Parts a e zs early late (filter no zs) (filter p zs) in
    subst T (sym it.are) (subst R (sym (gone-mid p it.before x it.behind fails)) (subst Q (sym (kept-mid no it.before x it.behind (ap not fails))) done))
