-- Steps taken over lists of events.
use Rattle.std.proofs.Common.{List, [], ◌∷◌, ◌++◌, ◌≡◌, ℕ, ◌+◌, ◌<◌, length, drop, get_or, subst, sym, add-one, drop-cons}
use Rattle.std.specs.List.{FoldsTo}
use Rattle.walrus_walks.specs.Events.{Event, events_of}

-- steps over a list, then over a further one
pub folds_append : {P A : Type 0} (R : P → A → P → Type 0) (p : P) (xs : List A) (u : P) (ys : List A) (q : P) → FoldsTo R p xs u → FoldsTo R u ys q → FoldsTo R p (xs ++ ys) q
folds_append {P} R p [] u ys q e h = let F : P → Type 0 = λ v. FoldsTo R v ys q in subst F (sym e) h
folds_append R p (x ∷ xs) u ys q s h = (s.0, s.1, folds_append R s.0 xs u ys q s.2 h)

-- one more step
pub folds_snoc : {P A : Type 0} (R : P → A → P → Type 0) (p : P) (xs : List A) (u : P) (y : A) (q : P) → FoldsTo R p xs u → R u y q → FoldsTo R p (xs ++ y ∷ []) q
folds_snoc R p xs u y q s h = folds_append R p xs u (y ∷ []) q s (q, h, λ _. q)

-- what is told of the rest of a list, from an item on
pub events_drop : {A : Type 0} (f : A → List Event) (xs : List A) (i : ℕ) (x : A) → i < length xs → x ≡ get_or xs i x → events_of f (drop i xs) ≡ f x ++ events_of f (drop (i + 1) xs)
events_drop f xs i x h e = rw (add-one, drop-cons xs i x, ← e)
