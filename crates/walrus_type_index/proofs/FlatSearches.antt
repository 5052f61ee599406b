-- Trees whose nodes stand in one list: looking.
use Rattle.std.proofs.Common.{arith, [], refl, ◌≡◌, ◌∙◌, ℕ, suc, ◌≤◌, Bool, true, false, not, List, ◌∷◌, length, Option, Some, None, sym, ap, subst}
use Rattle.std.specs.Ordering.{is_gt}
use Rattle.walrus_items.specs.walrus_forms.Kinds.{Kind}
use Rattle.walrus_type_index.specs.Places.{Hashed, hashed_cmp, wanted_cmp, is_upto, last_at}
use Rattle.walrus_type_index.specs.Flat.{Link, hashed_of, Finds}
use Rattle.walrus_type_index.proofs.TreeLemmas.{Sorted, sorted-front, sorted-back, last-left, last-right}
use Rattle.walrus_type_index.proofs.FlatLemmas.{Slots, nothing, sides}
use Rattle.walrus_type_index.proofs.FlatEdits.{short-left, short-right}

pub finds_none : (ks : List (Option Kind)) (at : Slots) (top hash : ℕ) (kind : Kind) (own : Bool) (found : Option Hashed) (fuel : ℕ) → at top ≡ None → Finds ks at top hash kind own found fuel found
finds_none ks at top hash kind own found fuel gone xs stands sorted short = ap (λ (zs : List Hashed). last_at (is_upto ks hash kind own) found zs) (sym (nothing at top xs stands gone))

pub finds_left : (ks : List (Option Kind)) (at : Slots) (top hash : ℕ) (kind : Kind) (own : Bool) (found : Option Hashed) (less fuel : ℕ) (n : Link) (result : Option Hashed) → at top ≡ Some n
    → is_gt (wanted_cmp ks hash kind own (hashed_of top n)) ≡ true → suc less ≡ fuel → Finds ks at n.left hash kind own found less result → Finds ks at top hash kind own found fuel result
finds_left ks at top hash kind own found less fuel n result there past e finds xs stands sorted short =
    let y = hashed_of top n in
    let it = sides at top n xs stands there in
    let L : List Hashed → Type 0 = λ zs. length zs ≤ fuel in
    let sorted_now = subst (Sorted ks) it.are sorted in
    finds it.before it.left (sorted-front (hashed_cmp ks) it.before (y ∷ it.behind) sorted_now) (short-left it.before y it.behind less fuel (subst L it.are short) e)
    ∙ sym (last-left ks hash kind own it.before y it.behind found sorted_now past)
    ∙ ap (λ (zs : List Hashed). last_at (is_upto ks hash kind own) found zs) (sym it.are)

pub finds_right : (ks : List (Option Kind)) (at : Slots) (top hash : ℕ) (kind : Kind) (own : Bool) (found : Option Hashed) (less fuel : ℕ) (n : Link) (result : Option Hashed) → at top ≡ Some n
    → is_gt (wanted_cmp ks hash kind own (hashed_of top n)) ≡ false → suc less ≡ fuel → Finds ks at n.right hash kind own (Some (hashed_of top n)) less result → Finds ks at top hash kind own found fuel result
finds_right ks at top hash kind own found less fuel n result there upto e finds xs stands sorted short =
    let y = hashed_of top n in
    let it = sides at top n xs stands there in
    let L : List Hashed → Type 0 = λ zs. length zs ≤ fuel in
    let sorted_now = subst (Sorted ks) it.are sorted in
    finds it.behind it.right (sorted-back (hashed_cmp ks) it.before y it.behind sorted_now) (short-right it.before y it.behind less fuel (subst L it.are short) e)
    ∙ sym (last-right (is_upto ks hash kind own) it.before y it.behind found (ap not upto))
    ∙ ap (λ (zs : List Hashed). last_at (is_upto ks hash kind own) found zs) (sym it.are)

-- with no fuel, none is left
pub finds_spent : (ks : List (Option Kind)) (at : Slots) (top hash : ℕ) (kind : Kind) (own : Bool) (found : Option Hashed) (fuel : ℕ) → fuel ≡ 0 → Finds ks at top hash kind own found fuel found
finds_spent ks at top hash kind own found fuel e [] stands sorted short = refl
finds_spent ks at top hash kind own found fuel e (x ∷ xs) stands sorted short = let no : ⊥ = omega (arith, e, short) in absurd no
