-- Lists that begin with numbers that follow each other.
use Rattle.std.proofs.Common.{◌≡◌, ◌∙◌, ◌+◌, ◌-◌, ◌<◌, ◌≤◌, ℕ, zero, suc, List, [], ◌∷◌, ◌++◌, length, take, slice_get, Some, refl, ap, sym, arith, append-nil}
use Rattle.walrus_index_maps.specs.Runs.{run_from}

pub run_length : (first n : ℕ) (xs : List ℕ) → length (run_from first n ++ xs) ≡ n + length xs
run_length first zero xs = omega arith
run_length first (suc n) xs = omega (arith, run_length (suc first) n xs)

-- the next one goes on with it
pub run_next : (first n id : ℕ) → first + n ≡ id → run_from first n ++ id ∷ [] ≡ run_from first (suc n)
run_next first zero id e = ap (λ (k : ℕ). k ∷ []) (omega (arith, e))
run_next first (suc n) id e = ap (λ (l : List ℕ). first ∷ l) (run_next (suc first) n id (omega (arith, e)))

pub in_run : (first n i : ℕ) (xs : List ℕ) → i < n → slice_get (run_from first n ++ xs) i ≡ Some (first + i)
in_run first zero i xs l = absurd (omega (arith, l))
in_run first (suc n) zero xs l = ap (λ (k : ℕ). Some k) (omega (arith))
in_run first (suc n) (suc i) xs l = in_run (suc first) n i xs (omega (arith, l)) ∙ ap (λ (k : ℕ). Some k) (omega (arith))

pub past_run : (first n i : ℕ) (xs : List ℕ) → n ≤ i → slice_get (run_from first n ++ xs) i ≡ slice_get xs (i - n)
past_run first zero i xs l = ap (slice_get xs) (omega arith)
past_run first (suc n) zero xs l = absurd (omega (arith, l))
past_run first (suc n) (suc i) xs l = past_run (suc first) n i xs (omega (arith, l)) ∙ ap (slice_get xs) (omega arith)

-- behind it stands nothing, and the next one goes on with it
pub run_pushed : (first n id : ℕ) (xs : List ℕ) → length xs ≡ 0 → first + n ≡ id → run_from first (n + 1) ++ xs ≡ (run_from first n ++ xs) ++ id ∷ []
run_pushed first n id [] l e =
    let more : n + 1 ≡ suc n = omega arith in
    rw (more, append-nil (run_from first (suc n)), append-nil (run_from first n)) (sym (run_next first n id e))
run_pushed first n id (x ∷ xs) l e = absurd (omega (arith, l))

pub rest_pushed : (first n id : ℕ) (xs : List ℕ) → run_from first n ++ (xs ++ id ∷ []) ≡ (run_from first n ++ xs) ++ id ∷ []
rest_pushed first zero id xs = refl
rest_pushed first (suc n) id xs = ap (λ (l : List ℕ). first ∷ l) (rest_pushed (suc first) n id xs)

-- cut back within it, or behind it
pub run_cut : (first n count : ℕ) (xs : List ℕ) → count ≤ n → run_from first count ≡ take count (run_from first n ++ xs)
run_cut first n zero xs l = refl
run_cut first zero (suc count) xs l = absurd (omega (arith, l))
run_cut first (suc n) (suc count) xs l = ap (λ (k : List ℕ). first ∷ k) (run_cut (suc first) n count xs (omega (arith, l)))

pub rest_cut : (first n count : ℕ) (xs : List ℕ) → n ≤ count → run_from first n ++ take (count - n) xs ≡ take count (run_from first n ++ xs)
rest_cut first zero count xs l = ap (λ (k : ℕ). take k xs) (omega arith)
rest_cut first (suc n) zero xs l = absurd (omega (arith, l))
rest_cut first (suc n) (suc count) xs l =
    ap (λ (k : ℕ). first ∷ (run_from (suc first) n ++ take k xs)) (omega arith) ∙ ap (λ (k : List ℕ). first ∷ k) (rest_cut (suc first) n count xs (omega (arith, l)))
