-- Lemmas: a section's contents are opened and parsed to their end; rounds to the end of the bytes.
use Rattle.std.specs.Prelude.{ℕ, suc, ◌+◌, ◌-◌, ◌<◌, ◌≤◌, ◌≡◌, ◌==◌, nat_lt, Bool, true, false, List, [], ◌∷◌, length, take, drop, Result, Ok, Err, if◌then◌else◌, refl}
use Rattle.std.proofs.Common.{ap, sym, ◌∙◌, subst, arith, inl, inr, length-drop}
use Rattle.std.proofs.lemmas.Grind.{common_steps}
use Rattle.wasm_features.specs.declared.WasmFeatures.{WasmFeatures}
use Rattle.wasm_reader.specs.Cursor.{Window, Cursor, rest, end_of, IsInner, Forward}
use Rattle.wasm_reader.specs.Reading.{seen_window}
use Rattle.wasm_formats.specs.Stops.{SectionSize, Stop, stop, Parsing, ◌>>=◌, before}
use Rattle.wasm_formats.specs.Formats.{refused}
use Rattle.wasm_formats.specs.Wholes.{u32, filled}
use Rattle.walrus_section_reader.specs.declared.fault.Fault.{Fault}
use Rattle.walrus_section_reader.specs.declared.fault.FaultKind.TheVariants as faults
use Rattle.walrus_section_reader.specs.Faults.{trouble_of, IsMemory}
use Rattle.walrus_section_reader.specs.Parses.{stop_of, ParsesExactly, FailsAs, Parses, ParsesWhole}
use Rattle.walrus_section_reader.specs.Opened.{opens, opened_at}
use Rattle.walrus_section_reader.specs.Steps.{whole_by, window_by, sized_by, all_by}
use Rattle.walrus_section_reader.specs.Repeats.{joined, same_end, fails_at, fails_then, fails_as}

-- what the contents are parsed to, once they are at hand
abbrev pub finishes : {S : Type 0} → (List ℕ → Result S Stop) → List ℕ × List ℕ → Parsing S
finishes parse o = before (length o.1) (parse o.0) >>= λ x. Ok (x, o.1)

window_is : {S : Type 0} (parse : List ℕ → Result S Stop) (left : ℕ) (n : ℕ × List ℕ) → window_by parse left n ≡ (opens left n >>= finishes parse)
window_is {S} parse left n =
    let one : Bool → Parsing S = λ b. if b then Err (stop SectionSize left) else (before (length n.1 - n.0) (parse (take n.0 n.1)) >>= λ x. Ok (x, drop n.0 n.1)) in
    let two : Bool → Parsing (List ℕ) = λ b. if b then Err (stop SectionSize left) else Ok (take n.0 n.1, drop n.0 n.1) in
    elim (nat_lt (length n.1) n.0) as (λ b. one b ≡ (two b >>= finishes parse)) [
      | true ↦ refl
      | false ↦ rw (length-drop n.0 n.1) refl
    ]

sized_go : {S : Type 0} (parse : List ℕ → Result S Stop) (left : ℕ) (r : Parsing ℕ) → (r >>= window_by parse left) ≡ ((r >>= opens left) >>= finishes parse)
sized_go parse left (Ok n) = window_is parse left n
sized_go parse left (Err e) = refl

pub sized_is : {S : Type 0} (parse : List ℕ → Result S Stop) (bytes : List ℕ) → sized_by parse bytes ≡ (opened_at bytes >>= finishes parse)
unfolding opened_at
sized_is parse bytes = sized_go parse (length bytes) (u32.parse bytes)

pub not_opened : {S X : Type 0} (parse : List ℕ → Result S Stop) (view : X → S) (old new : Cursor) (e : Fault) → ParsesExactly opened_at seen_window old new (Err e) → Parses (sized_by parse) view old new (Err e)
not_opened parse view old new e p = record {
  value = fails_as new e _ _ (sym (sized_is parse (rest old))) (fails_then new e _ _ (inl p.value));
  place = p.place;
  moves = p.moves;
}

pub moved_stop : (now later : Cursor) (e : Fault) (k : ℕ) → end_of now + k ≡ end_of later → e.offset ≤ end_of now → stop (trouble_of e.kind) ((end_of now - e.offset) + k) ≡ stop_of later e
moved_stop now later e k sums le = ap (λ (n : ℕ). stop (trouble_of e.kind) n) (omega (arith, sums, le))

fails_before : {A B : Type 0} (now later : Cursor) (e : Fault) (k : ℕ) (first : Result A Stop) (f : A → Result B Stop) → end_of now + k ≡ end_of later → e.offset ≤ end_of now
    → FailsAs now e first → FailsAs later e (before k first >>= f)
fails_before now later e k first f sums le (inl h) = inl (rw h (ap (λ (s : Stop). refused s) (moved_stop now later e k sums le)))
fails_before now later e k first f sums le (inr h) = inr h

pub opened_to : {S : Type 0} (parse : List ℕ → Result S Stop) (old new inner : Cursor) → ParsesExactly opened_at seen_window old new (Ok inner) → IsInner new inner
    → sized_by parse (rest old) ≡ finishes parse (rest inner, rest new)
opened_to parse old new inner p within = sized_is parse (rest old) ∙ rw (p.value, within.begins) refl

pub not_parsed : {S X Y : Type 0} (parse : List ℕ → Result S Stop) (view : X → S) (other : Y → S) (old new inner : Cursor) (e : Fault)
    → ParsesExactly opened_at seen_window old new (Ok inner) → IsInner new inner → ParsesWhole parse other inner (Err e) → Parses (sized_by parse) view old new (Err e)
not_parsed parse view other old new inner e p within q = record {
  value = fails_as new e _ _ (sym (opened_to parse old new inner p within)) (fails_before inner new e _ _ _ within.ends q.place q.value);
  place = omega (arith, within.ends, q.place);
  moves = p.moves;
}

pub parsed : {S X Y : Type 0} (parse : List ℕ → Result S Stop) (view : X → S) (other : Y → S) (old new inner : Cursor) (x : X) (y : Y) → other y ≡ view x
    → ParsesExactly opened_at seen_window old new (Ok inner) → IsInner new inner → ParsesWhole parse other inner (Ok y) → Parses (sized_by parse) view old new (Ok x)
parsed parse view other old new inner x y same p within q = record {
  value = opened_to parse old new inner p within ∙ rw (q.value, same) refl;
  place = tt;
  moves = p.moves;
}

-- ---- contents to their last byte

-- contents that were not read to their end
pub not_whole : {S X Y : Type 0} (parse : List ℕ → Parsing S) (view : X → S) (other : Y → S) (old new : Cursor) (y : Y) (e : Fault)
    → Parses parse other old new (Ok y) → e.kind ≡ faults.SectionSize → e.offset + length (rest new) ≡ end_of new → 0 < length (rest new) → ParsesWhole (whole_by parse) view old (Err e)
not_whole parse view other old new y e p trouble place some =
    let ends : end_of old ≡ end_of new = same_end old new p.moves in
    let over : (length (rest new) == 0) ≡ false = grind (arith, common_steps) in
    let left : length (rest new) ≡ end_of old - e.offset = omega (arith, place, ends) in
    record {
      value = inl (rw (p.value, over, trouble, left) refl);
      place = omega (arith, place, ends);
    }

pub not_read : {S X Y : Type 0} (parse : List ℕ → Parsing S) (view : X → S) (other : Y → S) (old new : Cursor) (e : Fault) → Parses parse other old new (Err e) → ParsesWhole (whole_by parse) view old (Err e)
not_read parse view other old new e p =
    let ends : end_of new ≡ end_of old = sym (same_end old new p.moves) in
    record { value = fails_then old e _ _ (fails_at new old e _ ends p.value); place = omega (arith, p.place, ends) }

pub is_whole : {S X Y : Type 0} (parse : List ℕ → Parsing S) (view : X → S) (other : Y → S) (old new : Cursor) (y : Y) (x : X) → other y ≡ view x
    → Parses parse other old new (Ok y) → length (rest new) ≡ 0 → ParsesWhole (whole_by parse) view old (Ok x)
is_whole parse view other old new y x same p none = record { value = rw (p.value, none, same) refl; place = tt }

-- the features of a window are those around it
pub inner_features : (old new inner : Cursor) → ParsesExactly opened_at seen_window old new (Ok inner) → IsInner new inner → inner.window.features ≡ old.window.features
inner_features old new inner p within = within.features ∙ ap (λ (w : Window). w.features) p.moves.window

pub whole_under : {S X : Type 0} (step : WasmFeatures → S → List ℕ → Parsing S) (s : S) (view : X → S) (now : Cursor) (result : Result X Fault) (one two : WasmFeatures) → one ≡ two
    → ParsesWhole (whole_by (step one s)) view now result → ParsesWhole (whole_by (step two s)) view now result
whole_under step s view now result one two same h = subst (λ (f : WasmFeatures). ParsesWhole (whole_by (step f s)) view now result) same h

-- ---- rounds to the end of the bytes

-- after `i` rounds
pub record Runs {S : Type 0} (step : S → List ℕ → Parsing S) (first now : S) (start here : Cursor) (i : ℕ) : Type 0 where
  pub so_far : all_by step (length (rest start) - i) now (rest here) ≡ all_by step (length (rest start)) first (rest start)
  pub moves : Forward start here
  pub left : length (rest here) ≤ length (rest start) - i

round_is : {S : Type 0} (step : S → List ℕ → Parsing S) (fuel : ℕ) (s : S) (bytes : List ℕ) → 0 < length bytes → all_by step (suc fuel) s bytes ≡ (step s bytes >>= λ x. all_by step fuel x.0 x.1)
unfolding all_by
round_is step fuel s [] some = absurd (omega (arith, some))
round_is step fuel s (b ∷ bytes) some = refl

none_is : {S : Type 0} (step : S → List ℕ → Parsing S) (fuel : ℕ) (s : S) (bytes : List ℕ) → length bytes ≡ 0 → all_by step fuel s bytes ≡ Ok s
unfolding all_by
none_is step fuel s [] none = refl
none_is step fuel s (b ∷ bytes) none = absurd (omega (arith, none))

next_round : {S : Type 0} (step : S → List ℕ → Parsing S) (n i : ℕ) (s : S) (bytes : List ℕ) → i < n → 0 < length bytes → all_by step (n - i) s bytes ≡ (step s bytes >>= λ x. all_by step (n - (i + 1)) x.0 x.1)
next_round step n i s bytes below some = let one : n - i ≡ suc (n - (i + 1)) = omega arith in rw one (round_is step (n - (i + 1)) s bytes some)

module _ {S X : Type 0} (step : WasmFeatures → S → List ℕ → Parsing S) (first now : S) (start here new : Cursor) (i : ℕ) where
  pub runs_on : (after : S) (x : X) → Runs (step start.window.features) first now start here i → i < length (rest start) → 0 < length (rest here)
      → Parses (step here.window.features now) (λ (_ : X). after) here new (Ok x) → length (rest new) < length (rest here) → Runs (step start.window.features) first after start new (i + 1)
  runs_on after x so below some p takes = record {
    so_far =
        let read = subst (λ (w : Window). Parses (step w.features now) (λ (_ : X). after) here new (Ok x)) so.moves.window p in
        sym (next_round (step start.window.features) (length (rest start)) i now (rest here) below some ∙ rw read.value refl) ∙ so.so_far;
    moves = joined start here new so.moves p.moves;
    left = omega (arith, so.left, takes);
  }

  pub run_stops : {Y : Type 0} (view : X → S) (other : Y → S) (e : Fault) → Runs (step start.window.features) first now start here i → i < length (rest start) → 0 < length (rest here)
      → Parses (step here.window.features now) view here new (Err e) → ParsesWhole (all_by (step start.window.features) (length (rest start)) first) other start (Err e)
  run_stops view other e so below some p =
      let ends : end_of new ≡ end_of start = sym (same_end start new (joined start here new so.moves p.moves)) in
      let read = subst (λ (w : Window). Parses (step w.features now) view here new (Err e)) so.moves.window p in
      record {
        value = fails_as start e _ _ (sym (next_round (step start.window.features) (length (rest start)) i now (rest here) below some) ∙ so.so_far)
            (fails_then start e _ _ (fails_at new start e _ ends read.value));
        place = omega (arith, p.place, ends);
      }

pub run_ends : {S X : Type 0} (step : S → List ℕ → Parsing S) (first now : S) (start here : Cursor) (i : ℕ) (x : X)
    → Runs step first now start here i → length (rest here) ≡ 0 → ParsesWhole (all_by step (length (rest start)) first) (λ (_ : X). now) start (Ok x)
run_ends step first now start here i x so none = record { value = sym so.so_far ∙ none_is step (length (rest start) - i) now (rest here) none; place = tt }
