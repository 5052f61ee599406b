-- Flags as vectors of vectors.
use Rattle.std.proofs.Common.{◌≡◌, ℕ, zero, suc, ◌+◌, ◌<◌, Bool, true, false, not, cond, List, [], ◌∷◌, length, get_or, map, refl, sym, ap, ◌∙◌, arith}
use Rattle.std.proofs.Math.ListN.{set}
use Rattle.std.proofs.lemmas.List.{get_or-map, length-map, map-append, map-set}
use Rattle.std.proofs.lemmas.List.Sums.{sum_by_push, sum_by-set}
use Rattle.std.proofs.lemmas.List.Folds.{sum_by-replicate}
use Rattle.std.specs.Prelude.{replicate, ◌++◌}
use Rattle.walrus_marks.specs.Marks.{left_in, left_out}

-- a flag that isn't set is there
pub new_below : (flags : List Bool) (n : ℕ) → not (get_or flags n true) ≡ true → n < length flags
new_below [] n e = absurd cc
new_below (x ∷ flags) zero e = omega arith
new_below (x ∷ flags) (suc n) e = let h = new_below flags n e in omega arith

-- whether a flag is set, and whether there is one that isn't
pub told_apart : (flags : List Bool) (n : ℕ) (b : Bool) → n < length flags → not (get_or flags n true) ≡ b → get_or flags n false ≡ not b
told_apart [] n b below e = absurd (omega arith)
told_apart (true ∷ fs) zero true below e = absurd cc
told_apart (true ∷ fs) zero false below e = refl
told_apart (false ∷ fs) zero true below e = refl
told_apart (false ∷ fs) zero false below e = absurd cc
told_apart (x ∷ fs) (suc n) b below e = told_apart fs n b (omega arith) e

pub one_flag_less : (flags : List Bool) (i : ℕ) → i < length flags → get_or flags i false ≡ false → left_in (set flags i true) + 1 ≡ left_in flags
one_flag_less flags i below h =
    let moved = sum_by-set (λ (b : Bool). cond (not b) 1 0) flags i true false below in
    let one : (let a : ℕ = 1 in cond (not (get_or flags i false)) a 0 ≡ a) = ap (λ (b : Bool). cond (not b) 1 0) h in
    omega (arith, moved, one)

-- one more flag among vectors leaves one less
pub room_left : {V : Type 0} (items : V → List Bool) (vs : List V) (k n : ℕ) (v w : V) → k < length vs → v ≡ get_or vs k v → not (get_or (items v) n true) ≡ true → items w ≡ set (items v) n true
    → left_out (map items (set vs k w)) + 1 ≡ left_out (map items vs)
room_left items vs k n v w below is new to =
    let fits = new_below (items v) n new in
    let here : get_or (map items vs) k [] ≡ items v = get_or-map items vs k v [] below ∙ ap items (sym is) in
    let less = one_flag_less (items v) n fits (told_apart (items v) n true fits new) in
    let moved = sum_by-set left_in (map items vs) k (items w) [] (omega (arith, below, length-map vs items)) in
    let same : left_out (map items (set vs k w)) ≡ left_out (set (map items vs) k (items w)) = ap left_out (map-set items vs k w) in
    omega (arith, less, moved, same, ap left_in here, ap left_in to)

-- one element, read twice
pub same_items : {V : Type 0} (items : V → List Bool) (vs : List V) (k : ℕ) (v w : V) → k < length vs → v ≡ get_or vs k v → w ≡ get_or vs k w → items v ≡ items w
same_items items vs k v w below p q = ap items p ∙ sym (get_or-map items vs k v [] below) ∙ get_or-map items vs k w [] below ∙ ap items (sym q)

-- the same, where the element was read before
pub left_after : {V : Type 0} (items : V → List Bool) (vs : List V) (k n : ℕ) (flags : List Bool) (a b w : V) (r : Bool) → k < length vs → a ≡ get_or vs k a → flags ≡ items a → b ≡ get_or vs k b
    → r ≡ not (get_or flags n true) → r ≡ true → items w ≡ set (items b) n true → left_out (map items (set vs k w)) + 1 ≡ left_out (map items vs)
left_after items vs k n flags a b w r below is_a flags_are is_b read new to =
    room_left items vs k n b w below is_b (ap (λ fs. not (get_or fs n true)) (sym (flags_are ∙ same_items items vs k a b below is_a is_b)) ∙ sym read ∙ new) to

left_unset : (n : ℕ) → left_in (replicate n false) ≡ n
left_unset n = (let h = sum_by-replicate (λ (b : Bool). cond (not b) 1 0) n false in omega (arith, h))

-- one more space, none of which is met
pub left_push : (lists : List (List Bool)) (n : ℕ) → left_out (lists ++ replicate n false ∷ []) ≡ left_out lists + n
left_push lists n = sum_by_push left_in lists (replicate n false) ∙ ap (λ k. left_out lists + k) (left_unset n)

-- the same among vectors
pub left_pushed : {V : Type 0} (items : V → List Bool) (vs : List V) (v : V) (n a b : ℕ) → items v ≡ replicate n false → left_out (map items vs) ≡ a → b ≡ a + n → left_out (map items (vs ++ v ∷ [])) ≡ b
left_pushed items vs v n a b is was more =
    ap left_out (map-append items vs (v ∷ []) ∙ ap (λ (fs : List Bool). map items vs ++ fs ∷ []) is) ∙ left_push (map items vs) n ∙ ap (λ k. k + n) was ∙ sym more
