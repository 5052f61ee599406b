-- Trees whose nodes stand in one list: a side changes, and the node is joined with it again.
use Rattle.std.proofs.Common.{◌≡◌, ◌∙◌, ℕ, ◌+◌, ◌≤◌, List, [], ◌∷◌, ◌++◌, Some, refl, sym, ap, subst, arith, append_assoc}
use Rattle.walrus_type_index.specs.Places.{Hashed}
use Rattle.walrus_type_index.specs.Flat.{Link, Stands, hashed_of, count, IsOnce, Becomes, Turns, Joins}
use Rattle.walrus_type_index.proofs.FlatLemmas.{Slots, count-here, count-mid, sides, beside, node_beside, keeps-then, keeps-more}

-- the last step alone
pub left_after : (a b c : Slots) (touched now behind : List Hashed) (n : Link) (side top right result : ℕ) → a top ≡ Some n → Stands a right behind
    → IsOnce (touched ++ hashed_of top n ∷ behind) → Becomes a b touched side now → Joins b c side top right result
    → Becomes b c (now ++ hashed_of top n ∷ behind) result (now ++ hashed_of top n ∷ behind)
left_after a b c us l r n side top right result found stands once change joins =
    let x = hashed_of top n in
    let all : (id : ℕ) → count id (us ++ x ∷ r) ≡ count id us + count id (x ∷ []) + count id r = λ id. count-mid id us x r in
    let new : (id : ℕ) → count id (l ++ x ∷ r) ≡ count id l + count id (x ∷ []) + count id r = λ id. count-mid id l x r in
    let out : count top us ≡ 0 = let s = all top in let o = once top in let h = count-here top x [] refl in omega (arith, s, o, h) in
    joins n l r (node_beside a b us top n change.keeps found out) change.stands
    (beside a b us right r change.keeps stands (λ id. let s = all id in let o = once id in omega (arith, s, o)))
    (λ id. let s = all id in let t = new id in let w = change.within id in let o = once id in omega (arith, s, t, w, o))

pub left_joined : (a b c : Slots) (touched now behind : List Hashed) (n : Link) (side top right result : ℕ) → a top ≡ Some n → Stands a right behind
    → IsOnce (touched ++ hashed_of top n ∷ behind) → Becomes a b touched side now → Joins b c side top right result
    → Becomes a c (touched ++ hashed_of top n ∷ behind) result (now ++ hashed_of top n ∷ behind)
left_joined a b c us l r n side top right result found stands once change joins =
    let x = hashed_of top n in
    let all : (id : ℕ) → count id (us ++ x ∷ r) ≡ count id us + count id (x ∷ []) + count id r = λ id. count-mid id us x r in
    let new : (id : ℕ) → count id (l ++ x ∷ r) ≡ count id l + count id (x ∷ []) + count id r = λ id. count-mid id l x r in
    let up : (id : ℕ) → count id (l ++ x ∷ r) ≤ count id (us ++ x ∷ r) = λ id. let s = all id in let t = new id in let w = change.within id in omega (arith, s, t, w) in
    let last = left_after a b c us l r n side top right result found stands once change joins in
    record {
      stands = last.stands;
      keeps = keeps-then a b c us (l ++ x ∷ r) (us ++ x ∷ r) change.keeps last.keeps (λ id. let s = all id in omega (arith, s)) up;
      within = up;
    }

pub right_joined : (a b c : Slots) (before touched now : List Hashed) (n : Link) (left top side result : ℕ) → a top ≡ Some n → Stands a left before
    → IsOnce (before ++ hashed_of top n ∷ touched) → Becomes a b touched side now → Joins b c left top side result
    → Becomes a c (before ++ hashed_of top n ∷ touched) result (before ++ hashed_of top n ∷ now)
right_joined a b c l us r n left top side result found stands once change joins =
    let x = hashed_of top n in
    let all : (id : ℕ) → count id (l ++ x ∷ us) ≡ count id l + count id (x ∷ []) + count id us = λ id. count-mid id l x us in
    let new : (id : ℕ) → count id (l ++ x ∷ r) ≡ count id l + count id (x ∷ []) + count id r = λ id. count-mid id l x r in
    let up : (id : ℕ) → count id (l ++ x ∷ r) ≤ count id (l ++ x ∷ us) = λ id. let s = all id in let t = new id in let w = change.within id in omega (arith, s, t, w) in
    let out : count top us ≡ 0 = let s = all top in let o = once top in let h = count-here top x [] refl in omega (arith, s, o, h) in
    let last = joins n l r (node_beside a b us top n change.keeps found out)
    (beside a b us left l change.keeps stands (λ id. let s = all id in let o = once id in omega (arith, s, o))) change.stands
    (λ id. let u = up id in let o = once id in omega (arith, u, o)) in
    record {
      stands = last.stands;
      keeps = keeps-then a b c us (l ++ x ∷ r) (l ++ x ∷ us) change.keeps last.keeps (λ id. let s = all id in omega (arith, s)) up;
      within = up;
    }

-- the same said of more
pub becomes-more : (a b : Slots) (xs zs : List Hashed) (top : ℕ) (ys : List Hashed) → Becomes a b xs top ys → ((id : ℕ) → count id xs ≤ count id zs) → Becomes a b zs top ys
becomes-more a b xs zs top ys change more = record {
  stands = change.stands;
  keeps = keeps-more a b xs zs change.keeps more;
  within = λ id. let w = change.within id in let m = more id in omega (arith, w, m);
}

pub once-left : (l : List Hashed) (x : Hashed) (r : List Hashed) → IsOnce (l ++ x ∷ r) → IsOnce l
once-left l x r once id = let o = once id in let s = count-mid id l x r in omega (arith, o, s)

pub once-right : (l : List Hashed) (x : Hashed) (r : List Hashed) → IsOnce (l ++ x ∷ r) → IsOnce r
once-right l x r once id = let o = once id in let s = count-mid id l x r in omega (arith, o, s)

-- a node comes under the right edge of the left side
pub hung_right : (a b c : Slots) (s : Link) (left top right side result : ℕ) → a left ≡ Some s → Joins a b s.right top right side → Joins b c s.left left side result
    → Joins a c left top right result
hung_right a b c s left top right side result there first second n before behind found stands_left stands_right once =
    let x = hashed_of top n in
    let y = hashed_of left s in
    let it = sides a left s before stands_left there in
    let mid = it.behind ++ x ∷ behind in
    let whole : before ++ x ∷ behind ≡ it.before ++ y ∷ mid = ap (λ (zs : List Hashed). zs ++ x ∷ behind) it.are ∙ append_assoc it.before (y ∷ it.behind) (x ∷ behind) in
    let P : List Hashed → Type 0 = λ zs. IsOnce zs in
    let once_now : IsOnce (it.before ++ y ∷ mid) = subst P whole once in
    let under = first n it.behind behind found it.right stands_right (once-right it.before y mid once_now) in
    let all = right_joined a b c it.before mid mid s s.left left side result there it.left once_now under second in
    let Q : List Hashed → Type 0 = λ zs. Becomes a c zs result zs in
    subst Q (sym whole) all

-- a node comes under the left edge of the right side
pub hung_left : (a b c : Slots) (s : Link) (left top right side result : ℕ) → a right ≡ Some s → Joins a b left top s.left side → Joins b c side right s.right result
    → Joins a c left top right result
hung_left a b c s left top right side result there first second n before behind found stands_left stands_right once =
    let x = hashed_of top n in
    let y = hashed_of right s in
    let it = sides a right s behind stands_right there in
    let mid = before ++ x ∷ it.before in
    let whole : before ++ x ∷ behind ≡ mid ++ y ∷ it.behind =
    ap (λ (zs : List Hashed). before ++ x ∷ zs) it.are ∙ sym (append_assoc before (x ∷ it.before) (y ∷ it.behind)) in
    let P : List Hashed → Type 0 = λ zs. IsOnce zs in
    let once_now : IsOnce (mid ++ y ∷ it.behind) = subst P whole once in
    let under = first n before it.before found stands_left it.left (once-left mid y it.behind once_now) in
    let all = left_joined a b c mid mid it.behind s side right s.right result there it.right once_now under second in
    let Q : List Hashed → Type 0 = λ zs. Becomes a c zs result zs in
    subst Q (sym whole) all

-- turning
pub over_left : (a b c : Slots) (left top right side result : ℕ) → Turns a b left side → Joins b c side top right result → Joins a c left top right result
over_left a b c left top right side result turns joins n before behind found stands_left stands_right once =
    left_joined a b c before before behind n side top right result found stands_right once (turns before stands_left (once-left before (hashed_of top n) behind once)) joins

pub over_right : (a b c : Slots) (left top right side result : ℕ) → Turns a b right side → Joins b c left top side result → Joins a c left top right result
over_right a b c left top right side result turns joins n before behind found stands_left stands_right once =
    right_joined a b c before behind behind n left top side result found stands_left once (turns behind stands_right (once-right before (hashed_of top n) behind once)) joins
