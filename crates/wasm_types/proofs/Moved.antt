-- The same bytes at another offset give the same groups, their places moved.
use Rattle.std.proofs.Common.{true, ◌≡◌, ◌≤◌, ◌+◌, ◌-◌, ℕ, zero, suc, List, [], ◌∷◌, map, length, drop, Option, Some, None, Result, Ok, Err, refl, sym, ap, subst, ◌∙◌, arith}
use Rattle.std.specs.Prelude.{All, zip}
use Rattle.std.proofs.lemmas.List.Elements.{All-head, All-tail}
use Rattle.wasm_features.specs.declared.WasmFeatures.{WasmFeatures}
use Rattle.wasm_reader.specs.declared.error.Error.{Error}
use Rattle.wasm_reader.specs.Cursor.{Cursor, rest, end_of, IsWithin}
use Rattle.wasm_reader.specs.Reading.{Reading}
use Rattle.wasm_reader.specs.Items.{ReadsUnlessMemory}
use Rattle.wasm_reader.specs.Laws.{IsMoved, SparesMemory}
use Rattle.wasm_reader.proofs.Moved.{offsets_move_by}
use Rattle.wasm_types.specs.declared.subtype.SubType.{SubType}
use Rattle.wasm_types.specs.Groups.{Group}
use Rattle.wasm_types.specs.Readings.{Listed, group_at}
use Rattle.wasm_types.specs.Placed.{Placed, placed_at, placed_member, placed, listed}
use Rattle.wasm_types.specs.Section.{Section, ReadsGroup, GivesAt, ending, left_behind}
use Rattle.wasm_types.specs.Moving.{IsAway, MovedOutcome, OffsetsOfGroupsMove, GivesInMemory, MovedGiven, OffsetsOfSectionsMove}

heads : {A : Type 0} (x y : A) (xs ys : List A) → x ∷ xs ≡ y ∷ ys → x ≡ y
heads x y xs ys e = cc

tails : {A : Type 0} (x y : A) (xs ys : List A) → x ∷ xs ≡ y ∷ ys → xs ≡ ys
tails x y xs ys e = cc

lefts : {A : Type 0} (m n : ℕ) (a b : A) → (let pair : ℕ × A = (m, a) in pair ≡ (n, b)) → m ≡ n
lefts m n a b e = ap (λ p. p.0) e

-- as many bytes left before an end that is k further on: a place k further on
module _ (k end end' : ℕ) (further : end' ≡ end + k) where
  moved_offsets : (xs ys : List ℕ) (ts us : List SubType) → length xs ≡ length ts → length ys ≡ length us
      → All (λ offset. offset ≤ end) xs → All (λ offset. offset ≤ end') ys
      → map (placed_member end) (zip xs ts) ≡ map (placed_member end') (zip ys us)
      → ys ≡ map (λ offset. offset + k) xs
  moved_offsets [] [] ts us p q w v e = refl
  moved_offsets [] (y ∷ ys) [] (u ∷ us) p q w v e = cc
  moved_offsets [] (y ∷ ys) [] [] p q w v e = cc
  moved_offsets [] (y ∷ ys) (t ∷ ts) us p q w v e = cc
  moved_offsets (x ∷ xs) ys [] us p q w v e = cc
  moved_offsets (x ∷ xs) [] (t ∷ ts) us p q w v e = cc
  moved_offsets (x ∷ xs) (y ∷ ys) (t ∷ ts) [] p q w v e = cc
  moved_offsets (x ∷ xs) (y ∷ ys) (t ∷ ts) (u ∷ us) p q w v e =
      let first = heads (placed_member end (x, t)) (placed_member end' (y, u)) (map (placed_member end) (zip xs ts)) (map (placed_member end') (zip ys us)) e in
      let later = tails (placed_member end (x, t)) (placed_member end' (y, u)) (map (placed_member end) (zip xs ts)) (map (placed_member end') (zip ys us)) e in
      let left : end - x ≡ end' - y = lefts (end - x) (end' - y) t u first in
      let here : x ≤ end = All-head (λ offset. offset ≤ end) x xs w in
      let there : y ≤ end' = All-head (λ offset. offset ≤ end') y ys v in
      let is : y ≡ x + k = omega arith in
      let less : length xs ≡ length ts = omega (arith, p) in
      let less' : length ys ≡ length us = omega (arith, q) in
      let others = moved_offsets xs ys ts us less less' (All-tail (λ offset. offset ≤ end) x xs w) (All-tail (λ offset. offset ≤ end') y ys v) later in
      ap (λ (n : ℕ). n ∷ ys) is ∙ ap (λ (l : List ℕ). (x + k) ∷ l) others

oks : {A : Type 0} (x y : A × List ℕ) → (let done : A × List ℕ → Reading A = λ v. Ok v in done x ≡ done y) → x ≡ y
oks x y e = cc

further_end : (k : ℕ) (here there : Cursor) → IsMoved k here there → end_of there ≡ end_of here + k
further_end k here there moved = let a = moved.start in let b = ap length moved.bytes in omega arith

same_rest : (k : ℕ) (here there : Cursor) → IsMoved k here there → rest there ≡ rest here
same_rest k here there moved = ap (λ (n : ℕ). drop n there.window.bytes) moved.position ∙ ap (λ (l : List ℕ). drop here.position l) moved.bytes

module _ (k : ℕ) (old new old' new' : Cursor) (away : IsAway k old old') (within : IsWithin old) where
  same_placed : (g h : Group) → ReadsGroup old new (Ok g) → ReadsGroup old' new' (Ok h) → placed (end_of old) g ≡ placed (end_of old') h
  same_placed g h p q =
      let read : placed_at old.window.features (rest old) ≡ Ok (placed (end_of old) g, rest new) = p.places.value in
      let again : placed_at old'.window.features (rest old') ≡ Ok (placed (end_of old') h, rest new') = q.places.value in
      let same : placed_at old'.window.features (rest old') ≡ placed_at old.window.features (rest old) =
      ap (λ (f : WasmFeatures). placed_at f (rest old')) away.features ∙ ap (λ (l : List ℕ). placed_at old.window.features l) (same_rest k old old' away.moved) in
      ap (λ (r : Placed × List ℕ). r.0) (oks (placed (end_of old) g, rest new) (placed (end_of old') h, rest new') (sym read ∙ sym same ∙ again))

  read_there : (outcome : Result Group Error) → ReadsGroup old' new' outcome → ReadsUnlessMemory (group_at old.window.features) listed old' new' outcome
  read_there outcome q = subst (λ (f : WasmFeatures). ReadsUnlessMemory (group_at f) listed old' new' outcome) away.features q.reads

  moved_group : (outcome outcome' : Result Group Error) → SparesMemory new outcome → SparesMemory new' outcome'
      → ReadsGroup old new outcome → ReadsGroup old' new' outcome' → MovedOutcome k outcome outcome'
  moved_group (Ok g) (Ok h) s t p q =
      let is = offsets_move_by true listed (group_at old.window.features) k old new old' new' (Ok g) (Ok h) away.moved within s t p.reads (read_there (Ok h) q) in
      let members = ap (λ (x : Placed). x.members) (same_placed g h p q) in
      record {
        explicit = ap (λ (l : Listed). l.explicit) is.0;
        types = ap (λ (l : Listed). l.types) is.0;
        offsets = moved_offsets k (end_of old) (end_of old') (further_end k old old' away.moved) g.offsets h.offsets g.types h.types p.paired q.paired p.within q.within members;
      }
  moved_group (Err e) (Err f) s t p q = offsets_move_by true listed (group_at old.window.features) k old new old' new' (Err e) (Err f) away.moved within s t p.reads (read_there (Err f) q)
  moved_group (Ok g) (Err f) s t p q = offsets_move_by true listed (group_at old.window.features) k old new old' new' (Ok g) (Err f) away.moved within s t p.reads (read_there (Err f) q)
  moved_group (Err e) (Ok h) s t p q = offsets_move_by true listed (group_at old.window.features) k old new old' new' (Err e) (Ok h) away.moved within s t p.reads (read_there (Ok h) q)

pub groups_move : OffsetsOfGroupsMove
groups_move k old new old' new' outcome outcome' away within s t p q = moved_group k old new old' new' away within outcome outcome' s t p q

same_left : (k count : ℕ) (outcome outcome' : Result Group Error) → MovedOutcome k outcome outcome' → left_behind outcome' count ≡ left_behind outcome count
same_left k count (Ok g) (Ok h) moved = refl
same_left k count (Err e) (Err f) moved = refl
same_left k count (Ok g) (Err f) moved = absurd moved
same_left k count (Err e) (Ok h) moved = absurd moved

module _ (k : ℕ) (old new old' new' : Section) (away : IsAway k old.cursor old'.cursor) (within : IsWithin old.cursor) where
  moved_ending : (bytes : List ℕ) (given given' : Option (Result Group Error)) → given ≡ ending old.cursor bytes → given' ≡ ending old'.cursor bytes → MovedGiven k given given'
  moved_ending [] given given' is is' = rw (is, is') tt
  moved_ending (b ∷ bytes) given given' is is' = rw (is, is') (refl, let a = away.moved.start in let p = away.moved.position in omega arith)

  moved_at : (remaining : Option ℕ) (given given' : Option (Result Group Error)) → GivesInMemory new given → GivesInMemory new' given'
      → GivesAt old.cursor remaining given new → GivesAt old'.cursor remaining given' new' → MovedGiven k given given' × (new'.remaining ≡ new.remaining)
  moved_at None given given' s t p q = (rw (p.0, q.0) tt, ap (λ (x : Section). x.remaining) q.1 ∙ sym (ap (λ (x : Section). x.remaining) p.1))
  moved_at (Some zero) given given' s t p q = (
    moved_ending (rest old.cursor) given given' p.0 (q.0 ∙ ap (λ (l : List ℕ). ending old'.cursor l) (same_rest k old.cursor old'.cursor away.moved)),
    ap (λ (x : Section). x.remaining) q.1 ∙ sym (ap (λ (x : Section). x.remaining) p.1),
  )
  moved_at (Some (suc count)) given given' s t (outcome, is, reads, left) (outcome', is', reads', left') =
      let spared = subst (GivesInMemory new) is s in
      let spared' = subst (GivesInMemory new') is' t in
      let moved = moved_group k old.cursor new.cursor old'.cursor new'.cursor away within outcome outcome' spared spared' reads reads' in
      (rw (is, is') moved, left' ∙ same_left k count outcome outcome' moved ∙ sym left)

pub sections_move : OffsetsOfSectionsMove
sections_move k old new old' new' given given' away same within s t p q =
    moved_at k old new old' new' away within old.remaining given given' s t p (subst (λ (r : Option ℕ). GivesAt old'.cursor r given' new') same q)
