-- Lemmas: entries up to a byte that closes them, collected by a loop; codes of operators take bytes.
use Rattle.std.specs.Prelude.{ℕ, zero, suc, ◌+◌, ◌-◌, ◌<◌, ◌≤◌, ◌≡◌, ◌==◌, ◌&&◌, nat_le, Bool, true, false, List, [], ◌∷◌, ◌++◌, length, drop, Result, Ok, Err, ◌⊎◌, if◌then◌else◌, refl}
use Rattle.std.proofs.Common.{ap, sym, ◌∙◌, subst, arith, inl, inr, length-drop}
use Rattle.std.proofs.lemmas.Bool.{eq-eqb}
use Rattle.std.proofs.lemmas.List.{append_assoc, append-nil}
use Rattle.wasm_reader.specs.Cursor.{Window, Cursor, rest, end_of, Forward, TakesByte}
use Rattle.wasm_reader.specs.Laws.{StaysWithin}
use Rattle.wasm_reader.specs.Reading.{Reading, Reads, plain}
use Rattle.wasm_reader.specs.Numbers.{unsigned_at}
use Rattle.wasm_reader.specs.Finals.{unsigned_final}
use Rattle.wasm_operators.specs.Readings.{mapped}
use Rattle.wasm_operators.specs.declared.op_code.OpCode.{OpCode}
use Rattle.wasm_operators.specs.Operators.{is_prefix, op_code, code_at}
use Rattle.wasm_grammar.specs.wasm_formats.Stops.{Count, Stop, stop, can_end, Parsing, ◌>>=◌}
use Rattle.wasm_grammar.specs.wasm_formats.Formats.{Format}
use Rattle.wasm_grammar.specs.wasm_formats.Led.{IsOther, not_there}
use Rattle.wasm_grammar.specs.wasm_formats.Parts.{nothing}
use Rattle.wasm_grammar.specs.wasm_formats.Until.{until, turn, parse_until, last_or}
use Rattle.walrus_section_reader.specs.declared.fault.Fault.{Fault}
use Rattle.walrus_section_reader.specs.Parses.{FailsAs, Parses}
use Rattle.walrus_section_reader.specs.Steps.{put_in}
use Rattle.walrus_section_reader.specs.Repeats.{joined, fails_then, fails_as}

-- what is left never grows
pub rest_falls : (old new : Cursor) → Forward old new → length (rest new) ≤ length (rest old)
rest_falls old new moves =
    let size : length new.window.bytes ≡ length old.window.bytes = ap (λ (w : Window). length w.bytes) moves.window in
    omega (arith, length-drop old.position old.window.bytes, length-drop new.position new.window.bytes, size, moves.forward)

mapped_within : {A B : Type 0} (f : A → B) (n : ℕ) (r : Reading A) (y : B) (later : List ℕ) → StaysWithin n r → mapped f r ≡ Ok (y, later) → length later ≤ n
mapped_within {A} {B} f n (Ok x) y later h e = subst (λ (l : List ℕ). length l ≤ n) (rest_is (f x.0) y x.1 later e) h
  where
    rest_is : (a b : B) (k l : List ℕ) → (let done : B × List ℕ → Reading B = λ z. Ok z in done (a, k) ≡ done (b, l)) → k ≡ l
    rest_is a b k l e = let pair : B × List ℕ → B × List ℕ = λ z. z in let same : pair (a, k) ≡ pair (b, l) = cc in ap (λ (z : B × List ℕ). z.1) same
mapped_within f n (Err d) y later h e = absurd cc

code_is : (a b : OpCode) (k l : List ℕ) → (let done : OpCode × List ℕ → Reading OpCode = λ z. Ok z in done (a, k) ≡ done (b, l)) → k ≡ l
code_is a b k l e = let pair : OpCode × List ℕ → OpCode × List ℕ = λ z. z in let same : pair (a, k) ≡ pair (b, l) = cc in ap (λ (z : OpCode × List ℕ). z.1) same

code_go : (c : Bool) (b : ℕ) (bytes later : List ℕ) (code : OpCode) → (if c then mapped (op_code b) (unsigned_at 32 bytes) else Ok (op_code 0 b, bytes)) ≡ Ok (code, later) → length later < suc (length bytes)
code_go true b bytes later code e = let le = mapped_within (op_code b) (length bytes) (unsigned_at 32 bytes) code later ((unsigned_final 32).within bytes) e in omega (arith, le)
code_go false b bytes later code e = let same = ap length (code_is (op_code 0 b) code bytes later e) in omega (arith, same)

-- a code takes a byte at least
pub code_takes : (bytes later : List ℕ) (code : OpCode) → code_at bytes ≡ Ok (code, later) → length later < length bytes
unfolding code_at
code_takes [] later code e = absurd cc
code_takes (b ∷ bytes) later code e = code_go (is_prefix b) b bytes later code e

pub code_shorter : (old new : Cursor) (code : OpCode) → Reads code_at (plain {X = OpCode}) old new (Ok code) → length (rest new) < length (rest old)
code_shorter old new code h = code_takes (rest old) (rest new) code h.value

module _ {A : Type 0} (b : ℕ) (entry : Format A) (apart : (later : List ℕ) (x : A) → entry.spells (b ∷ later) x → ⊥) (some : (x : A) → entry.spells [] x → ⊥)
    (wants : (s : Stop) → entry.parse [] ≡ Err s → can_end s.trouble ≡ true) (start : Cursor) where
  -- these entries were read, and the closing byte wasn't met
  pub record Goes (here : Cursor) (items : List A) : Type 0 where
    pub fuel : ℕ
    pub enough : length (rest here) < fuel
    pub so_far : (parse_until b entry apart some wants fuel (rest here) >>= put_in (λ xs. items ++ xs)) ≡ (until b entry apart some wants).parse (rest start)
    pub moves : Forward start here

  none_put : (r : Parsing (List A)) → (r >>= put_in (λ xs. [] ++ xs)) ≡ r
  none_put (Ok xs) = refl
  none_put (Err e) = refl

  pub goes_none : Goes start []
  goes_none = record {
    fuel = suc (length (rest start));
    enough = omega arith;
    so_far = none_put (parse_until b entry apart some wants (suc (length (rest start))) (rest start));
    moves = record { window = refl; forward = omega arith; within = λ w. w };
  }

  turn_is : (bytes : List ℕ) → IsOther b bytes → (turn b entry apart some wants).parse bytes ≡ (entry.parse bytes >>= λ x. Ok (inr x.0, x.1))
  turn_is bytes other = not_there b (nothing tt) entry apart some bytes other

  round : (fuel n : ℕ) (bytes : List ℕ) → n < fuel → IsOther b bytes
      → (k : ℕ) × (fuel ≡ suc k) × (parse_until b entry apart some wants fuel bytes ≡ (entry.parse bytes >>= λ x. parse_until b entry apart some wants k x.1 >>= λ xs. Ok (x.0 ∷ xs.0, xs.1)))
  round zero n bytes lt other = absurd (omega (arith, lt))
  round (suc k) n bytes lt other = (k, refl, rw (turn_is bytes other) (go (entry.parse bytes)))
    where
      go : (r : Parsing A) → ((r >>= λ x. Ok (inr x.0, x.1)) >>= last_or b entry apart some wants (parse_until b entry apart some wants k)) ≡ (r >>= λ x. parse_until b entry apart some wants k x.1 >>= λ xs. Ok (x.0 ∷ xs.0, xs.1))
      go (Ok x) = refl
      go (Err e) = refl

  put_over : (items : List A) (x : A) (r : Parsing (List A)) → ((r >>= λ xs. Ok (x ∷ xs.0, xs.1)) >>= put_in (λ xs. items ++ xs)) ≡ (r >>= put_in (λ xs. (items ++ x ∷ []) ++ xs))
  put_over items x (Ok xs) = rw (append_assoc items (x ∷ []) xs.0) refl
  put_over items x (Err e) = refl

  pub goes_on : {X : Type 0} (view : X → A) (here new : Cursor) (items : List A) (x : X) → Goes here items → IsOther b (rest here) → Parses entry.parse view here new (Ok x)
      → length (rest new) < length (rest here) → Goes new (items ++ view x ∷ [])
  goes_on view here new items x so other p takes =
      let r = round so.fuel (length (rest here)) (rest here) so.enough other in
      let size : so.fuel ≡ suc r.0 = r.1 in
      record {
        fuel = r.0;
        enough = omega (arith, so.enough, size, takes);
        so_far = sym (put_over items (view x) (parse_until b entry apart some wants r.0 (rest new)))
            ∙ sym (ap (λ (z : Parsing (List A)). z >>= put_in (λ xs. items ++ xs)) (r.2 ∙ rw p.value refl)) ∙ so.so_far;
        moves = joined start here new so.moves p.moves;
      }

  pub goes_wrong : {X Y : Type 0} (view : X → A) (other_view : Y → List A) (here new : Cursor) (items : List A) (e : Fault) → Goes here items → IsOther b (rest here)
      → Parses entry.parse view here new (Err e) → Parses (until b entry apart some wants).parse other_view start new (Err e)
  goes_wrong view other_view here new items e so other p =
      let r = round so.fuel (length (rest here)) (rest here) so.enough other in
      record {
        value = fails_as new e _ _ (ap (λ (z : Parsing (List A)). z >>= put_in (λ xs. items ++ xs)) (sym r.2) ∙ so.so_far) (fails_then new e _ _ (fails_then new e _ _ p.value));
        place = p.place;
        moves = joined start here new so.moves p.moves;
      }

  closes : (fuel n : ℕ) (later : List ℕ) → n < fuel → parse_until b entry apart some wants fuel (b ∷ later) ≡ Ok ([], later)
  closes zero n later lt = absurd (omega (arith, lt))
  closes (suc k) n later lt = rw (eq-eqb b b refl) refl

  pub goes_to : {Y : Type 0} (view : Y → List A) (here new : Cursor) (items : List A) (y : Y) → Goes here items → TakesByte b here new → view y ≡ items
      → Parses (until b entry apart some wants).parse view start new (Ok y)
  goes_to view here new items y so takes same =
      let ends = closes so.fuel (length (rest here)) (rest new) so.enough in
      let was : rest here ≡ b ∷ rest new = takes.was in
      record {
        value = sym so.so_far ∙ rw (was, ends, same, append-nil items) refl;
        place = tt;
        moves = joined start here new so.moves takes.moves;
      }
