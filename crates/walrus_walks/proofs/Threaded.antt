-- Lists that are changed item by item.
use Rattle.std.proofs.Common.{ℕ, zero, suc, ◌+◌, ◌<◌, ◌≡◌, List, [], ◌∷◌, ◌++◌, length, take, drop, get_or, refl, sym, ap, subst, arith, ◌∙◌, add-one, drop-cons}
use Rattle.std.specs.Prelude.{slice_set}
use Rattle.std.specs.Vec.{with_items}
use Rattle.std.specs.declared.alloc.Global.{Global}
use Rattle.std.specs.declared.vec.Vec.{Vec}
use Rattle.std.proofs.lemmas.List.{append-nil, drop_all, with_items_is}
use Rattle.walrus_walks.specs.Changes.{Threads, ThreadsIn}

-- after a write at an index: what is past it, and what is up to it
set_drop : {A : Type 0} (xs : List A) (i : ℕ) (y : A) → drop (suc i) (slice_set xs i y) ≡ drop (suc i) xs
set_drop [] i y = refl
set_drop (x ∷ xs) zero y = refl
set_drop (x ∷ xs) (suc i) y = set_drop xs i y

set_take : {A : Type 0} (xs : List A) (i : ℕ) (y : A) (ys : List A) → i < length xs → take (suc i) (slice_set xs i y) ++ ys ≡ take i xs ++ y ∷ ys
set_take [] i y ys l = absurd (omega arith)
set_take (x ∷ xs) zero y ys l = refl
set_take {A} (x ∷ xs) (suc i) y ys l = ap (λ (zs : List A). x ∷ zs) (set_take xs i y ys (omega arith))

take_all : {A : Type 0} (xs : List A) → take (length xs) xs ≡ xs
take_all [] = refl
take_all {A} (x ∷ xs) = ap (λ (zs : List A). x ∷ zs) (take_all xs)

module _ {V A : Type 0} (R : V → A → V → A → Type 0) (v : V) (xs : List A) where
  -- whatever is made of the items from an index on, it is made of all of them
  abbrev pub Continues : V → List A → ℕ → Type 0
  Continues u zs i = (last : V) (ys : List A) → Threads R u (drop i zs) last ys → Threads R v xs last (take i zs ++ ys)

  pub threads_turn : (u w : V) (zs : List A) (i : ℕ) (d y : A) → i < length zs → R u (get_or zs i d) w y → Continues u zs i → Continues w (slice_set zs i y) (i + 1)
  threads_turn u w zs i d y l r h last ys t =
      let F : List A → Type 0 = λ rest. Threads R w rest last ys in
      let tail : Threads R w (drop (suc i) zs) last ys = subst F (ap (λ (n : ℕ). drop n (slice_set zs i y)) (add-one i) ∙ set_drop zs i y) t in
      let G : List A → Type 0 = λ rest. Threads R u rest last (y ∷ ys) in
      let H : List A → Type 0 = λ all. Threads R v xs last all in
      let here = h last (y ∷ ys) (subst G (sym (drop-cons zs i d l)) (w, r, tail)) in
      subst H (sym (ap (λ (n : ℕ). take n (slice_set zs i y) ++ ys) (add-one i) ∙ set_take zs i y ys l)) here

  pub threads_end : (u : V) (zs : List A) (i : ℕ) → i ≡ length zs → Continues u zs i → Threads R v xs u zs
  threads_end u zs i e h =
      let F : List A → Type 0 = λ rest. Threads R u rest u [] in
      let G : List A → Type 0 = λ all. Threads R v xs u all in
      let none : Threads R u (drop i zs) u [] = subst F (sym (drop_all i zs (omega (arith, e)))) (λ _. u) in
      subst G (append-nil (take i zs) ∙ ap (λ (n : ℕ). take n zs) e ∙ take_all zs) (h u [] none)

-- items that were lent by a vec, and written back to it
pub threads_written : {V A : Type 0} (R : V → A → V → A → Type 0) (v w : V) (xs : Vec A Global) (lent ys : List A) → lent ≡ xs.items → length ys ≡ length lent → Threads R v lent w ys → ThreadsIn R v xs w (with_items xs ys)
threads_written {V} {A} R v w xs lent ys e l h =
    let F : List A → Type 0 = λ zs. Threads R v zs w ys in
    let G : List A → Type 0 = λ zs. Threads R v xs.items w zs in
    let size : length ys ≡ xs.len = omega (arith, l, ap length e, xs.ok.0) in
    subst G (sym (with_items_is xs ys size)) (subst F e h)
