-- What is left of a list of value types tells what all of it does.
use Rattle.std.proofs.Common.{◌≡◌, ◌<◌, ◌≤◌, ◌+◌, ℕ, List, [], length, drop, slice_index_or, Option, ap, sym, ◌∙◌}
use Rattle.std.proofs.lemmas.List.{drop_all, drop_more}
use Rattle.wasm_ref_types.specs.declared.value.ValType.{ValType}
use Rattle.walrus_pairing.specs.Looks.{Or, ◌>>=◌}
use Rattle.walrus_pairing.specs.Types.{named_value, named}

-- behind one more, whether that one is known or not
pub one_more : (types : ℕ → Option ℕ) (xs : List ValType) (i : ℕ) (d : ValType) (r : Or (Unit {0})) → i < length xs
    → named types (drop i xs) ≡ named types xs → r ≡ named_value types (slice_index_or xs i d)
    → (r >>= λ _. named types (drop (i + 1) xs)) ≡ named types xs
one_more types xs i d r below h e =
    ap (λ (x : Or (Unit {0})). x >>= λ _. named types (drop (i + 1) xs)) e ∙ ap (λ (l : List ValType). named types l) (sym (drop_more xs i d below)) ∙ h

-- behind all
pub none_left : (types : ℕ → Option ℕ) (xs : List ValType) (i : ℕ) → length xs ≤ i → named types (drop i xs) ≡ named types xs
    → named types [] ≡ named types xs
none_left types xs i past h = ap (λ (l : List ValType). named types l) (sym (drop_all i xs past)) ∙ h
