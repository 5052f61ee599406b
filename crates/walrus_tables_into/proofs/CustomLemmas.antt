-- Items of which some are left out, as they fill slots one after another.
use Rattle.std.specs.Prelude.{ℕ, zero, suc, ◌+◌, ◌≡◌, ◌<◌, List, [], ◌∷◌, ◌++◌, length, take, Option, Some, None, Result, Err, OnErr, slice_index_or, refl}
use Rattle.std.specs.List.{flat_map}
use Rattle.std.proofs.Common.{ap, sym, ◌∙◌, subst, arith}
use Rattle.std.proofs.lemmas.List.{append_assoc, length-append, take_more}
use Rattle.std.proofs.lemmas.Grind.{flat_map-append}
use Rattle.walrus_sections_into.specs.Slots.{Become, Filled, FilledInPart}

module _ {X Y : Type 0} (R : ℕ → X → Y → Type 0) where
  become_both : (xs ys : List X) (zs bs : List (Option Y)) (n m : ℕ) → m ≡ n + length zs → Become R xs zs n → Become R ys bs m → Become R (xs ++ ys) (zs ++ bs) n
  become_both [] ys [] bs n m is first second = subst (λ (k : ℕ). Become R ys bs k) (omega (arith, is)) second
  become_both [] ys (a ∷ zs) bs n m is first second = absurd first
  become_both (x ∷ xs) ys [] bs n m is first second = absurd first
  become_both (x ∷ xs) ys (None ∷ zs) bs n m is first second = absurd first
  become_both (x ∷ xs) ys (Some a ∷ zs) bs n m is first second = (first.0, become_both xs ys zs bs (suc n) m (omega (arith, is)) first.1 second)

  filled_both : (xs ys : List X) (old mid new : List (Option Y)) → Filled R xs old mid → Filled R ys mid new → Filled R (xs ++ ys) old new
  filled_both xs ys old mid new first second = record {
    more = first.more ++ second.more;
    behind = second.behind ∙ ap (λ (l : List (Option Y)). l ++ second.more) first.behind ∙ append_assoc old first.more second.more;
    become = become_both xs ys first.more second.more (length old) (length mid) (ap length first.behind ∙ length-append old first.more) first.become second.become;
  }

  -- what one more item leaves comes behind
  pub left_on : (f : X → List X) (xs : List X) (i : ℕ) (other now : X) (old mid new : List (Option Y)) → now ≡ slice_index_or xs i other → i < length xs
      → Filled R (flat_map f (take i xs)) old mid → Filled R (f now) mid new → Filled R (flat_map f (take (i + 1) xs)) old new
  left_on f xs i other now old mid new is lt so more =
      let joined : flat_map f (take (i + 1) xs) ≡ flat_map f (take i xs) ++ f now =
      ap (flat_map f) (take_more xs i other lt) ∙ flat_map-append f (take i xs) (slice_index_or xs i other ∷ []) ∙ ap (λ (l : List X). flat_map f (take i xs) ++ l) (one (slice_index_or xs i other)) ∙ ap (λ (x : X). flat_map f (take i xs) ++ f x) (sym is) in
      subst (λ (l : List X). Filled R l old new) (sym joined) (filled_both (flat_map f (take i xs)) (f now) old mid new so more)
    where
      nothing : (l : List X) → l ++ [] ≡ l
      nothing [] = refl
      nothing (x ∷ l) = ap (λ (r : List X). x ∷ r) (nothing l)

      one : (x : X) → flat_map f (x ∷ []) ≡ f x
      one x = nothing (f x)

  -- the first items leave what stands first
  front : (f : X → List X) (xs : List X) (i : ℕ) → (n : ℕ) × (take n (flat_map f xs) ≡ flat_map f (take i xs))
  front f xs zero = (0, refl)
  front f [] (suc i) = (0, refl)
  front f (x ∷ xs) (suc i) =
      let behind = front f xs i in
      (length (f x) + behind.0, past (f x) (flat_map f xs) behind.0 ∙ ap (λ (l : List X). f x ++ l) behind.1)
    where
      past : (l m : List X) (n : ℕ) → take (length l + n) (l ++ m) ≡ l ++ take n m
      past [] m n = let same : length {A = X} [] + n ≡ n = omega arith in ap (λ (k : ℕ). take k m) same
      past (y ∷ l) m n = let same : length (y ∷ l) + n ≡ suc (length l + n) = omega arith in ap (λ (k : ℕ). take k (y ∷ (l ++ m))) same ∙ ap (λ (r : List X). y ∷ r) (past l m n)

  -- a loop ends at an item that is refused
  pub left_so_far : {T E : Type 0} (f : X → List X) (xs : List X) (i : ℕ) (old mid new : List (Option Y)) (result : Result T E) (d : E) → result ≡ Err d → new ≡ mid
      → Filled R (flat_map f (take i xs)) old mid → OnErr result (FilledInPart R (flat_map f xs) old new)
  left_so_far f xs i old mid new result d refused same so =
      let n = front f xs i in
      rw (refused, same) (n.0, subst (λ (l : List X). Filled R l old mid) (sym n.1) so)
