-- Bytes are written one behind another.
use Rattle.std.proofs.Common.{◌≡◌, ◌<◌, ◌≤◌, ◌+◌, ℕ, List, [], ◌∷◌, ◌++◌, length, take, slice_index_or, Result, Ok, Err, MatchResult, sym, ap, ◌∙◌}
use Rattle.std.proofs.lemmas.List.{append-nil, append_assoc, flat_map_more, take_all, take_more}
use Rattle.std.specs.List.{flat_map}
use Rattle.std.specs.declared.alloc.AllocError.{AllocError}
use Rattle.wasm_operators.specs.Items.{Item}
use Rattle.walrus_operators.specs.wasm_operators.declared.op_code.OpCode.{OpCode}
use Rattle.wasm_operators.specs.Bytes.{code_bytes, item_bytes}
use Rattle.walrus_operators.specs.Appended.{Keeps, Appends, AppendsItems, with_items}
use Rattle.wasm_operators.proofs.Keeps.{keeps_on}
pub use Rattle.wasm_operators.proofs.Appends.{nothing, appends_on}

pub with_items_is : (out : List ℕ) (items : List Item) → with_items out items ≡ out ++ flat_map item_bytes items
with_items_is out [] = sym (append-nil out)
with_items_is out (x ∷ items) = with_items_is (out ++ item_bytes x) items ∙ append_assoc out (item_bytes x) (flat_map item_bytes items)

-- items behind a code
pub operator_is : (old mid new : List ℕ) (code : OpCode) (items : List Item) (result : Result (Unit {0}) AllocError)
    → mid ≡ old ++ code_bytes code → AppendsItems items mid new result → Appends (code_bytes code ++ flat_map item_bytes items) old new result
operator_is old mid new code items (Ok x) e h = appends_on old mid new (code_bytes code) (flat_map item_bytes items) (Ok x) e (h ∙ with_items_is mid items)
operator_is old mid new code items (Err x) e h = keeps_on old mid new (code_bytes code) e h

-- two items, whose bytes were written by one call
pub both_written : (old new a b : List ℕ) (result : Result (Unit {0}) AllocError) → Appends (a ++ b) old new result
    → MatchResult result (λ _. new ≡ (old ++ a) ++ b) (λ _. Keeps old new)
both_written old new a b (Ok x) h = h ∙ sym (append_assoc old a b)
both_written old new a b (Err x) h = h

-- or by two
pub then_written : (old mid new a b : List ℕ) (result : Result (Unit {0}) AllocError) → mid ≡ old ++ a → Appends b mid new result
    → MatchResult result (λ _. new ≡ (old ++ a) ++ b) (λ _. Keeps old new)
then_written old mid new a b (Ok x) e h = h ∙ ap (λ (l : List ℕ). l ++ b) e
then_written old mid new a b (Err x) e h = keeps_on old mid new a e h

-- behind a list's size: no item yet, one more, and all
pub list_begins : (old new size : List ℕ) → new ≡ old ++ size → new ≡ old ++ (size ++ [])
list_begins old new size e = e ∙ ap (λ (l : List ℕ). old ++ l) (sym (append-nil size))

pub list_goes_on : {A : Type 0} (f : A → List ℕ) (old mid new size : List ℕ) (xs : List A) (i : ℕ) (d : A) → i < length xs
    → mid ≡ old ++ (size ++ flat_map f (take i xs)) → new ≡ mid ++ f (slice_index_or xs i d) → new ≡ old ++ (size ++ flat_map f (take (i + 1) xs))
list_goes_on {A} f old mid new size xs i d below e h =
    h ∙ ap (λ (l : List ℕ). l ++ f (slice_index_or xs i d)) e ∙ append_assoc old (size ++ flat_map f (take i xs)) (f (slice_index_or xs i d))
    ∙ ap (λ (l : List ℕ). old ++ l) (flat_map_more f size (take i xs) (slice_index_or xs i d) ∙ ap (λ (l : List A). size ++ flat_map f l) (sym (take_more xs i d below)))

pub list_ends : {A : Type 0} (f : A → List ℕ) (old new size : List ℕ) (xs : List A) (i : ℕ) → length xs ≤ i → new ≡ old ++ (size ++ flat_map f (take i xs))
    → new ≡ old ++ (size ++ flat_map f xs)
list_ends {A} f old new size xs i past e = e ∙ ap (λ (l : List A). old ++ (size ++ flat_map f l)) (take_all i xs past)
