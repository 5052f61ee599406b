-- Lemmas: slots whose items are sent elsewhere.
use Rattle.std.specs.Prelude.{ℕ, zero, suc, ◌≡◌, ◌<◌, List, [], ◌∷◌, length, map, Option, Some, None, slice_get, slice_index_or, refl}
use Rattle.std.specs.Option.{option_map}
use Rattle.std.proofs.Common.{arith}
use Rattle.wasm_ruled_renamed.specs.wasm_ruled_normal.wasm_ruled_modules.wasm_module_rules.Linked.{Each}

pub each_sent : {A B : Type 0} (P : A → Type 0) (Q : B → Type 0) (f : A → B) → ((x : A) → P x → Q (f x)) → (xs : List (Option A)) → Each P xs → Each Q (map (option_map f) xs)
each_sent P Q f h [] k = tt
each_sent P Q f h (None ∷ xs) k = each_sent P Q f h xs k
each_sent P Q f h (Some x ∷ xs) k = (h x k.0, each_sent P Q f h xs k.1)

pub each_both : {A : Type 0} (P Q : A → Type 0) (xs : List (Option A)) → Each P xs → Each Q xs → Each (λ x. P x × Q x) xs
each_both P Q [] h k = tt
each_both P Q (None ∷ xs) h k = each_both P Q xs h k
each_both P Q (Some x ∷ xs) h k = ((h.0, k.0), each_both P Q xs h.1 k.1)

pub slot_sent : {A B : Type 0} (f : A → B) (xs : List (Option A)) (n : ℕ) → slice_index_or (map (option_map f) xs) n None ≡ option_map f (slice_index_or xs n None)
slot_sent f [] n = refl
slot_sent f (x ∷ xs) zero = refl
slot_sent f (x ∷ xs) (suc n) = slot_sent f xs n

pub get_some : {A : Type 0} (xs : List A) (n : ℕ) → n < length xs → (x : A) × (slice_get xs n ≡ Some x)
get_some [] n lt = absurd (omega (arith, lt))
get_some (x ∷ xs) zero lt = (x, refl)
get_some (x ∷ xs) (suc n) lt = get_some xs n (omega (arith, lt))
