-- Lemmas: loops over entries and over values that are collected.
use Rattle.std.specs.Prelude.{ℕ, zero, suc, ◌+◌, ◌-◌, ◌<◌, ◌≤◌, ◌≡◌, List, [], ◌∷◌, ◌++◌, length, map, Result, Ok, Err, refl}
use Rattle.std.proofs.Common.{ap, sym, ◌∙◌, subst, arith, inl, inr}
use Rattle.std.proofs.lemmas.List.{append_assoc, append-nil}
use Rattle.wasm_features.specs.declared.WasmFeatures.{WasmFeatures}
use Rattle.wasm_reader.specs.Cursor.{Window, Cursor, rest, end_of, Forward}
use Rattle.wasm_formats.specs.Stops.{Count, Stop, stop, Parsing, ◌>>=◌}
use Rattle.wasm_formats.specs.Formats.{Format}
use Rattle.wasm_formats.specs.Lists.{parse_entries}
use Rattle.walrus_section_reader.specs.declared.fault.Fault.{Fault}
use Rattle.walrus_section_reader.specs.Parses.{stop_of, answer, ParsesExactly, FailsAs, Answers, Parses, ParsesWhole}
use Rattle.walrus_section_reader.specs.Steps.{put_in, entries_by, all_by}

pub joined : (a b c : Cursor) → Forward a b → Forward b c → Forward a c
joined a b c one two = record { window = two.window ∙ one.window; forward = omega (arith, one.forward, two.forward); within = λ w. two.within (one.within w) }

-- a window keeps its end
pub same_end : (old new : Cursor) → Forward old new → end_of old ≡ end_of new
same_end old new moves = ap (λ (w : Window). w.start + length w.bytes) (sym moves.window)

-- a fault is told of alike over windows of one end
pub fails_at : {A : Type 0} (now later : Cursor) (e : Fault) (r : Result A Stop) → end_of now ≡ end_of later → FailsAs now e r → FailsAs later e r
fails_at now later e r same (inl h) = inl (subst (λ (n : ℕ). r ≡ Err (stop (stop_of now e).trouble (n - e.offset))) same h)
fails_at now later e r same (inr h) = inr h

-- what fails, fails whatever follows
pub fails_then : {A B : Type 0} (now : Cursor) (e : Fault) (first : Result A Stop) (next : A → Result B Stop) → FailsAs now e first → FailsAs now e (first >>= next)
fails_then now e first next (inl h) = inl (rw h refl)
fails_then now e first next (inr h) = inr h

-- what equals what fails
pub fails_as : {A : Type 0} (now : Cursor) (e : Fault) (first second : Result A Stop) → first ≡ second → FailsAs now e first → FailsAs now e second
fails_as now e first second same h = rw (← same) h

-- a parsing in other words
pub same_parse : {S X : Type 0} (p q : List ℕ → Parsing S) (view : X → S) (old new : Cursor) (result : Result X Fault) → ((b : List ℕ) → p b ≡ q b) → Parses p view old new result → Parses q view old new result
same_parse {S} p q view old new result same h = let all : p ≡ q = λ i b. same b i in subst (λ (f : List ℕ → Parsing S). Parses f view old new result) all h

-- a call that takes no memory
pub unless_memory : {S X : Type 0} (p : List ℕ → Parsing S) (view : X → S) (old new : Cursor) (result : Result X Fault) → ParsesExactly p view old new result → Parses p view old new result
unless_memory p view old new (Ok x) h = record { value = h.value; place = h.place; moves = h.moves }
unless_memory p view old new (Err e) h = record { value = inl h.value; place = h.place; moves = h.moves }

-- one call, and another behind it
pub then_parses : {A S X Y : Type 0} (p : List ℕ → Parsing A) (q : A × List ℕ → Parsing S) (v : Y → A) (view : X → S) (old mid new : Cursor) (y : Y) (result : Result X Fault)
    → Parses p v old mid (Ok y) → Parses (λ b. q (v y, b)) view mid new result → Parses (λ b. p b >>= q) view old new result
then_parses {A} {S} {X} p q v view old mid new y result one two = record {
  value = go result (p (rest old)) one.value two.value;
  place = two.place;
  moves = joined old mid new one.moves two.moves;
}
  where
    go : (result : Result X Fault) (r : Parsing A) → r ≡ Ok (v y, rest mid) → Answers view new result (q (v y, rest mid)) → Answers view new result (r >>= q)
    go (Ok x) r e h = rw e h
    go (Err f) r e h = fails_as new f _ _ (rw e refl) h

-- ---- entries that are put into a state

-- after `i` of `count` entries
pub record Repeats {S : Type 0} (step : S → List ℕ → Parsing S) (first now : S) (start here : Cursor) (count i : ℕ) : Type 0 where
  pub so_far : entries_by step (count - i) now (rest here) ≡ entries_by step count first (rest start)
  pub moves : Forward start here

next_is : {S : Type 0} (step : S → List ℕ → Parsing S) (count i : ℕ) (s : S) (bytes : List ℕ) → i < count → entries_by step (count - i) s bytes ≡ (step s bytes >>= λ x. entries_by step (count - (i + 1)) x.0 x.1)
unfolding entries_by
next_is step count i s bytes below = let one : count - i ≡ suc (count - (i + 1)) = omega arith in rw one refl

module _ {S X : Type 0} (step : WasmFeatures → S → List ℕ → Parsing S) (first now : S) (start here new : Cursor) (count i : ℕ) where
  pub goes_on : (after : S) (x : X) → Repeats (step start.window.features) first now start here count i → i < count → Parses (step here.window.features now) (λ (_ : X). after) here new (Ok x)
      → Repeats (step start.window.features) first after start new count (i + 1)
  goes_on after x so below p = record {
    so_far =
        let read = subst (λ (w : Window). Parses (step w.features now) (λ (_ : X). after) here new (Ok x)) so.moves.window p in
        sym (next_is (step start.window.features) count i now (rest here) below ∙ rw read.value refl) ∙ so.so_far;
    moves = joined start here new so.moves p.moves;
  }

  pub misses : {Y : Type 0} (view : X → S) (other : Y → S) (e : Fault) → Repeats (step start.window.features) first now start here count i → i < count
      → Parses (step here.window.features now) view here new (Err e) → Parses (entries_by (step start.window.features) count first) other start new (Err e)
  misses view other e so below p = record {
    value =
        let read = subst (λ (w : Window). Parses (step w.features now) view here new (Err e)) so.moves.window p in
        fails_as new e _ _ (sym (next_is (step start.window.features) count i now (rest here) below) ∙ so.so_far) (fails_then new e _ _ read.value);
    place = p.place;
    moves = joined start here new so.moves p.moves;
  }

pub ends : {S X : Type 0} (step : S → List ℕ → Parsing S) (first now : S) (start here : Cursor) (count i : ℕ) (x : X)
    → Repeats step first now start here count i → count ≤ i → Parses (entries_by step count first) (λ (_ : X). now) start here (Ok x)
unfolding entries_by
ends step first now start here count i x so above = record {
  value = let none : count - i ≡ 0 = omega arith in sym so.so_far ∙ rw none refl;
  place = tt;
  moves = so.moves;
}

-- ---- values that are collected, at a state that stays

-- so many values of one format
abbrev pub listed_at : {A : Type 0} → Format A → ℕ → List ℕ → Parsing (List A)
listed_at f count bytes = parse_entries (λ (u : Unit {0}) (_ : _). u) (λ _. f) count tt bytes

-- after `i` of `count` values
pub record Collects {A : Type 0} (f : Format A) (start here : Cursor) (count i : ℕ) (items : List A) : Type 0 where
  pub so_far : (listed_at f (count - i) (rest here) >>= put_in (λ xs. items ++ xs)) ≡ listed_at f count (rest start)
  pub moves : Forward start here

one_is : {A : Type 0} (f : Format A) (count i : ℕ) (bytes : List ℕ) → i < count → listed_at f (count - i) bytes ≡ (f.parse bytes >>= λ x. listed_at f (count - (i + 1)) x.1 >>= put_in (λ xs. x.0 ∷ xs))
one_is f count i bytes below = let one : count - i ≡ suc (count - (i + 1)) = omega arith in rw one refl

put_over : {A : Type 0} (items : List A) (x : A) (r : Parsing (List A)) → ((r >>= put_in (λ xs. x ∷ xs)) >>= put_in (λ xs. items ++ xs)) ≡ (r >>= put_in (λ xs. (items ++ x ∷ []) ++ xs))
put_over items x (Ok xs) = rw (append_assoc items (x ∷ []) xs.0) refl
put_over items x (Err e) = refl

put_none : {A : Type 0} (r : Parsing (List A)) → (r >>= put_in (λ xs. [] ++ xs)) ≡ r
put_none (Ok xs) = refl
put_none (Err e) = refl

pub collects_none : {A : Type 0} (f : Format A) (start : Cursor) (count : ℕ) → Collects f start start count 0 []
collects_none f start count = record {
  so_far = let all : count - 0 ≡ count = omega arith in rw all (put_none (listed_at f count (rest start)));
  moves = record { window = refl; forward = omega arith; within = λ w. w };
}

pub collects : {A X : Type 0} (f : Format A) (view : X → A) (start here new : Cursor) (count i : ℕ) (items : List A) (x : X)
    → Collects f start here count i items → i < count → Parses f.parse view here new (Ok x) → Collects f start new count (i + 1) (items ++ view x ∷ [])
collects f view start here new count i items x so below p = record {
  so_far = sym (put_over items (view x) (listed_at f (count - (i + 1)) (rest new))) ∙ sym (ap (λ z. z >>= put_in (λ xs. items ++ xs)) (one_is f count i (rest here) below ∙ rw p.value refl)) ∙ so.so_far;
  moves = joined start here new so.moves p.moves;
}

pub collects_not : {A X Y : Type 0} (f : Format A) (start here new : Cursor) (count i : ℕ) (items : List A) (view : X → A) (other : Y → List A) (e : Fault)
    → Collects f start here count i items → i < count → Parses f.parse view here new (Err e) → Parses (listed_at f count) other start new (Err e)
collects_not f start here new count i items view other e so below p = record {
  value = fails_as new e _ _ (ap (λ z. z >>= put_in (λ xs. items ++ xs)) (sym (one_is f count i (rest here) below)) ∙ so.so_far) (fails_then new e _ _ (fails_then new e _ _ p.value));
  place = p.place;
  moves = joined start here new so.moves p.moves;
}

pub collected : {A X : Type 0} (f : Format A) (start here : Cursor) (count i : ℕ) (items : List A) (view : X → List A) (x : X)
    → Collects f start here count i items → count ≤ i → view x ≡ items → Parses (listed_at f count) view start here (Ok x)
collected f start here count i items view x so above same = record {
  value = let none : count - i ≡ 0 = omega arith in sym so.so_far ∙ rw (none, same, append-nil items) refl;
  place = tt;
  moves = so.moves;
}
