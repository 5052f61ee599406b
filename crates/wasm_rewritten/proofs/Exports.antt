-- Lemmas: a rising list of all numbers that have a slot picks each slot.
use Rattle.std.specs.Prelude.{ℕ, zero, suc, ◌≡◌, ◌<◌, ◌≤◌, ◌+◌, List, [], ◌∷◌, ◌++◌, length, map, Option, Some, None, IsSome, slice_get, slice_index_or, refl}
use Rattle.std.specs.List.{AllByRecursion}
use Rattle.std.specs.Option.{option_map}
use Rattle.std.proofs.Common.{ap, sym, ◌∙◌, subst, arith, inl, inr}
use Rattle.std.proofs.lemmas.List.{append_assoc, length-append}
use Rattle.wasm_grammar.specs.Modules.{Export, Module}
use Rattle.wasm_import_links.specs.Full.{IsFull, ReadModulesAreFull}
use Rattle.wasm_part.specs.Part.{renumbered_export}
use Rattle.wasm_part.specs.Closed.{Rise}
use Rattle.wasm_part.specs.Kept.{AreFilled}
use Rattle.wasm_part.proofs.Picked.{slot_there}
use Rattle.wasm_rewritten.specs.Exports.{ExportsStay}
use Rattle.wasm_rewritten.proofs.LocalsNamed.{Among, among}

abbrev Rises : List ℕ → Type 0
Rises [] = Unit {0}
Rises (n ∷ ns) = AllByRecursion (λ (m : ℕ). n < m) ns × Rises ns

each_one : (P : ℕ → Type 0) (ns : List ℕ) → ((j m : ℕ) → slice_get ns j ≡ Some m → P m) → AllByRecursion P ns
each_one P [] h = tt
each_one P (n ∷ ns) h = (h zero n refl, each_one P ns (λ j m e. h (suc j) m e))

rises : (ns : List ℕ) → Rise ns → Rises ns
rises [] h = tt
rises (n ∷ ns) h = (each_one (λ (m : ℕ). n < m) ns (λ j m e. h zero (suc j) n m (omega arith) refl e), rises ns (λ i j k m lt e f. h (suc i) (suc j) k m (omega (arith, lt)) e f))

all_among : (P : ℕ → Type 0) (ns : List ℕ) (m : ℕ) → AllByRecursion P ns → Among m ns → P m
all_among P [] m h i = absurd i
all_among P (n ∷ ns) m h (inl e) = subst P e h.0
all_among P (n ∷ ns) m h (inr i) = all_among P ns m h.1 i

all_later : (P Q : ℕ → Type 0) (ns : List ℕ) → ((m : ℕ) → P m → Q m) → AllByRecursion P ns → AllByRecursion Q ns
all_later P Q [] f h = tt
all_later P Q (n ∷ ns) f h = (f n h.0, all_later P Q ns f h.1)

first_is : (n a : ℕ) (ns : List ℕ) → a ≤ n → AllByRecursion (λ (m : ℕ). n < m) ns → Among a (n ∷ ns) → n ≡ a
first_is n a ns le all (inl e) = e
first_is n a ns le all (inr i) = let lt = all_among (λ (m : ℕ). n < m) ns a all i in absurd (omega (arith, le, lt))

seam_slot : {A : Type 0} (front : List (Option A)) (x : Option A) (xs : List (Option A)) → slice_index_or (front ++ x ∷ xs) (length front) None ≡ x
seam_slot [] x xs = refl
seam_slot (y ∷ front) x xs = seam_slot front x xs

all_picked : {A B : Type 0} (g : Option A → B) (zs xs front : List (Option A)) (ns : List ℕ) → zs ≡ front ++ xs → Rises ns → AllByRecursion (λ (n : ℕ). length front ≤ n) ns
    → AllByRecursion (λ (n : ℕ). n < length zs) ns → ((m : ℕ) → length front ≤ m → m < length zs → Among m ns) → map (λ n. g (slice_index_or zs n None)) ns ≡ map g xs
all_picked g zs [] front [] is r low high has = refl
all_picked {A} g zs [] front (n ∷ ns) is r low high has =
    let many : length zs ≡ length front + 0 = ap (λ (l : List (Option A)). length l) is ∙ length-append front [] in
    let le = low.0 in let lt = high.0 in absurd (omega (arith, le, lt, many))
all_picked {A} g zs (x ∷ xs) front [] is r low high has =
    let many : length zs ≡ length front + suc (length xs) = ap (λ (l : List (Option A)). length l) is ∙ length-append front (x ∷ xs) in
    absurd (has (length front) (omega arith) (omega (arith, many)))
all_picked {A} g zs (x ∷ xs) front (n ∷ ns) is r low high has =
    let many : length zs ≡ length front + suc (length xs) = ap (λ (l : List (Option A)). length l) is ∙ length-append front (x ∷ xs) in
    let here : n ≡ length front = first_is n (length front) ns low.0 r.0 (has (length front) (omega arith) (omega (arith, many))) in
    let at : slice_index_or zs n None ≡ x = ap (λ (i : ℕ). slice_index_or zs i None) here ∙ ap (λ (l : List (Option A)). slice_index_or l (length front) None) is ∙ seam_slot front x xs in
    let longer : length (front ++ x ∷ []) ≡ length front + 1 = length-append front (x ∷ []) in
    let behind : AllByRecursion (λ (n : ℕ). length (front ++ x ∷ []) ≤ n) ns = all_later (λ (m : ℕ). n < m) (λ (m : ℕ). length (front ++ x ∷ []) ≤ m) ns (λ m lt. omega (arith, here, longer, lt)) r.0 in
    let rest = all_picked g zs xs (front ++ x ∷ []) ns (is ∙ sym (append_assoc front (x ∷ []) xs)) r.1 behind high.1 (λ m le lt. later m (omega (arith, le, longer, here)) (has m (omega (arith, le, longer)) lt)) in
    λ i. g (at i) ∷ rest i
  where
    later : (m : ℕ) → n < m → Among m (n ∷ ns) → Among m ns
    later m lt (inl e) = absurd (omega (arith, lt, e))
    later m lt (inr i) = i

below : {A : Type 0} (ns : List ℕ) (xs : List (Option A)) → AreFilled ns xs → AllByRecursion (λ (n : ℕ). n < length xs) ns
below [] xs h = tt
below {A} (n ∷ ns) xs h = (go (slice_index_or xs n None) refl h.0, below ns xs h.1)
  where
    go : (o : Option A) → slice_index_or xs n None ≡ o → IsSome o → n < length xs
    go None e some = absurd cc
    go (Some x) e some = slot_there xs n x e

filled_at : {A : Type 0} (xs : List (Option A)) (n : ℕ) → IsFull xs → n < length xs → (x : A) × (slice_index_or xs n None ≡ Some x)
filled_at [] n h lt = absurd (omega (arith, lt))
filled_at (None ∷ xs) n h lt = absurd h
filled_at (Some x ∷ xs) zero h lt = (x, refl)
filled_at (Some x ∷ xs) (suc n) h lt = filled_at xs n h (omega (arith, lt))

zero_low : (ns : List ℕ) → AllByRecursion (λ (n : ℕ). 0 ≤ n) ns
zero_low [] = tt
zero_low (n ∷ ns) = (omega arith, zero_low ns)

pub exports_stay : ReadModulesAreFull → ExportsStay
exports_stay full place keep features bytes file n t p reads stands =
    let kept = stands.writes.kept in
    let there = full features bytes file reads in
    let all = all_picked (λ (o : Option Export). option_map (renumbered_export p.renames) o) file.exports file.exports [] p.exports refl (rises p.exports stands.writes.exports) (zero_low p.exports)
    (below p.exports file.exports kept.there.exports) (λ m le lt. let x = filled_at file.exports m there.exports lt in among p.exports m (kept.exports m x.0 x.1)) in
    (ap (λ (k : Module). k.exports) stands.whole ∙ all, ap (λ (k : Module). k.imports) stands.whole, stands.ordered.imports)
