-- The loop over a vec's items.
use Rattle.std.proofs.Common.{ℕ, ◌≡◌, ◌+◌, ◌-◌, ◌<◌, ◌≤◌, Bool, true, false, List, [], ◌∷◌, ◌++◌, map, Ok, Err, refl, sym, ◌∙◌, ap, arith, suc, inr}
use Rattle.std.proofs.lemmas.List.{map_push, append-nil, append_assoc}
use Rattle.wasm_reader.specs.declared.error.Error.{Error}
use Rattle.wasm_reader.specs.Cursor.{Cursor, rest, end_of, Forward}
use Rattle.wasm_reader.specs.Reading.{Reading, ◌>>=◌, plain}
use Rattle.wasm_reader.specs.Items.{FailsAs, WantsMemory, ReadsUnlessMemory, ReadsBy, items_at, passed_at}
use Rattle.wasm_reader.specs.Unless.{fails_then, fails_as}

-- these items before those that are read
abbrev pub behind : {A : Type 0} → List A → Reading (List A) → Reading (List A)
behind items read = read >>= λ x. Ok (items ++ x.0, x.1)

-- after `i` of `count` items
pub record Repeats {A X : Type 0} (item : List ℕ → Reading A) (seen : X → A) (start now : Cursor) (count i : ℕ) (items : List X) : Type 0 where
  pub so_far : behind (map seen items) (items_at item (count - i) (rest now)) ≡ items_at item count (rest start)
  pub moves : Forward start now

pub goes_on : (a b c : Cursor) → Forward a b → Forward b c → Forward a c
goes_on a b c p q = record { window = q.window ∙ p.window; forward = omega (arith, p.forward, q.forward); within = λ w. q.within (p.within w) }

behind_none : {A : Type 0} (read : Reading (List A)) → behind [] read ≡ read
behind_none (Ok x) = refl
behind_none (Err f) = refl

pub begins : {A X : Type 0} (item : List ℕ → Reading A) (seen : X → A) (start : Cursor) (count : ℕ) → Repeats item seen start start count 0 []
begins item seen start count = record {
  so_far = let whole : count - 0 ≡ count = omega arith in rw whole (behind_none (items_at item count (rest start)));
  moves = record { window = refl; forward = omega arith; within = λ w. w };
}

-- one more item
next_is : {A : Type 0} (item : List ℕ → Reading A) (count i : ℕ) (bytes : List ℕ) → i < count
    → items_at item (count - i) bytes ≡ (item bytes >>= λ first. items_at item (count - (i + 1)) first.1 >>= λ later. Ok (first.0 ∷ later.0, later.1))
unfolding items_at
next_is item count i bytes below = let step : count - i ≡ suc (count - (i + 1)) = omega arith in rw step refl

behind_one : {A : Type 0} (items : List A) (first : A) (read : Reading (List A)) → behind items (read >>= λ later. Ok (first ∷ later.0, later.1)) ≡ behind (items ++ first ∷ []) read
behind_one items first (Ok x) = rw (append_assoc items (first ∷ []) x.0) refl
behind_one items first (Err f) = refl

-- what fails, fails behind other items
behind_fails : {A B : Type 0} (items : List A) (now : Cursor) (e : Error) (first : Reading B) (next : B × List ℕ → Reading (List A)) → FailsAs now e first → FailsAs now e (behind items (first >>= next))
behind_fails items now e first next h = fails_then now e (first >>= next) (λ x. Ok (items ++ x.0, x.1)) (fails_then now e first next h)

module _ {A X : Type 0} (item : List ℕ → Reading A) (seen : X → A) (start now new : Cursor) (count i : ℕ) (items : List X) (so : Repeats item seen start now count i items) (below : i < count) where
  step : behind (map seen items) (item (rest now) >>= λ first. items_at item (count - (i + 1)) first.1 >>= λ later. Ok (first.0 ∷ later.0, later.1)) ≡ items_at item count (rest start)
  step = ap (λ r. behind (map seen items) r) (sym (next_is item count i (rest now) below)) ∙ so.so_far

  -- an item was read
  pub more : (x : X) → ReadsUnlessMemory item seen now new (Ok x) → Repeats item seen start new count (i + 1) (items ++ x ∷ [])
  more x p = record {
    so_far = rw (map_push seen items x) (sym (behind_one (map seen items) (seen x) (items_at item (count - (i + 1)) (rest new)))
        ∙ (rw p.value at step));
    moves = goes_on start now new so.moves p.moves;
  }

  -- an item fails
  pub stops : {V : Type 0} (view : V → List A) (e : Error) → ReadsUnlessMemory item seen now new (Err e) → ReadsUnlessMemory (items_at item count) view start new (Err e)
  stops view e p = record {
    value = fails_as new e _ _ step (behind_fails (map seen items) new e (item (rest now)) _ p.value);
    place = p.place;
    moves = goes_on start now new so.moves p.moves;
  }

  -- memory is refused behind an item
  pub starves : {V : Type 0} (view : V → List A) (e : Error) → Forward now new → WantsMemory new e → e.offset ≤ end_of new → ReadsUnlessMemory (items_at item count) view start new (Err e)
  starves view e moves wants place = record { value = inr wants; place = place; moves = goes_on start now new so.moves moves }

-- all were read
pub ends : {A X V : Type 0} (item : List ℕ → Reading A) (seen : X → A) (view : V → List A) (start now : Cursor) (count i : ℕ) (items : List X) (v : V)
    → Repeats item seen start now count i items → count ≤ i → view v ≡ map seen items → ReadsUnlessMemory (items_at item count) view start now (Ok v)
unfolding items_at
ends item seen view start now count i items v so above same = record {
  value = let none : count - i ≡ 0 = omega arith in let whole = append-nil (map seen items) in sym so.so_far ∙ rw (none, same, whole) refl;
  place = tt;
  moves = so.moves;
}

-- ---- items that are let go

-- after `i` of `count` items
pub record Passes {A : Type 0} (item : List ℕ → Reading A) (start now : Cursor) (count i : ℕ) : Type 0 where
  pub so_far : passed_at item (count - i) (rest now) ≡ passed_at item count (rest start)
  pub moves : Forward start now

pub passes_none : {A : Type 0} (item : List ℕ → Reading A) (start : Cursor) (count : ℕ) → Passes item start start count 0
passes_none item start count = record {
  so_far = let whole : count - 0 ≡ count = omega arith in rw whole refl;
  moves = record { window = refl; forward = omega arith; within = λ w. w };
}

passes_next : {A : Type 0} (item : List ℕ → Reading A) (count i : ℕ) (bytes : List ℕ) → i < count → passed_at item (count - i) bytes ≡ (item bytes >>= λ first. passed_at item (count - (i + 1)) first.1)
unfolding passed_at
passes_next item count i bytes below = let step : count - i ≡ suc (count - (i + 1)) = omega arith in rw step refl

module _ {A X : Type 0} (item : List ℕ → Reading A) (seen : X → A) (start now new : Cursor) (count i : ℕ) (so : Passes item start now count i) (below : i < count) where
  pass_step : (item (rest now) >>= λ first. passed_at item (count - (i + 1)) first.1) ≡ passed_at item count (rest start)
  pass_step = sym (passes_next item count i (rest now) below) ∙ so.so_far

  -- an item was read
  pub passes_more : (takes : Bool) (x : X) → ReadsBy takes item seen now new (Ok x) → Passes item start new count (i + 1)
  passes_more true x p = record { so_far = rw p.value at pass_step; moves = goes_on start now new so.moves p.moves }
  passes_more false x p = record { so_far = rw p.value at pass_step; moves = goes_on start now new so.moves p.moves }

  -- an item fails
  pub passes_stops : (takes : Bool) (e : Error) → ReadsBy takes item seen now new (Err e) → ReadsBy takes (passed_at item count) (plain {X = Unit {0}}) start new (Err e)
  passes_stops true e p = record {
    value = fails_as new e _ _ pass_step (fails_then new e (item (rest now)) _ p.value);
    place = p.place;
    moves = goes_on start now new so.moves p.moves;
  }
  passes_stops false e p = record {
    value = sym pass_step ∙ rw p.value refl;
    place = p.place;
    moves = goes_on start now new so.moves p.moves;
  }

module _ {A : Type 0} (item : List ℕ → Reading A) (start now : Cursor) (count i : ℕ) (so : Passes item start now count i) (above : count ≤ i) where
  passed_all : passed_at item count (rest start) ≡ Ok (tt, rest now)
  unfolding passed_at
  passed_all = let none : count - i ≡ 0 = omega arith in sym (rw none at so.so_far)

  -- all were read
  pub passes_ends : (takes : Bool) → ReadsBy takes (passed_at item count) (plain {X = Unit {0}}) start now (Ok tt)
  passes_ends true = record { value = passed_all; place = tt; moves = so.moves }
  passes_ends false = record { value = passed_all; place = tt; moves = so.moves }
