-- Lemmas: an id, and the section of that id.
use Rattle.std.specs.Prelude.{ℕ, suc, ◌+◌, ◌-◌, ◌<◌, ◌≤◌, ◌≡◌, List, [], ◌∷◌, length, Option, Ok, Err, refl}
use Rattle.std.proofs.Common.{ap, sym, ◌∙◌, subst, arith, length-drop, inl, inr}
use Rattle.wasm_features.specs.declared.WasmFeatures.{WasmFeatures}
use Rattle.wasm_reader.specs.Cursor.{Cursor, Window, rest, end_of, Forward}
use Rattle.wasm_reader.specs.Reading.{plain}
use Rattle.walrus_section_frames.specs.walrus_known_sections.wasm_sections.wasm_grammar.wasm_formats.Stops.{Trouble, Stop, Parsing, ◌>>=◌}
use Rattle.walrus_section_frames.specs.walrus_known_sections.wasm_sections.wasm_grammar.wasm_formats.Formats.{Format, Inside, done_is, done_refused}
use Rattle.walrus_section_frames.specs.walrus_known_sections.wasm_sections.wasm_grammar.wasm_formats.Bytes.{byte}
use Rattle.walrus_section_frames.specs.walrus_known_sections.wasm_sections.wasm_grammar.wasm_formats.Joined.{checked, tested_ok}
use Rattle.walrus_section_frames.specs.walrus_known_sections.wasm_sections.wasm_grammar.States.{State}
use Rattle.walrus_section_frames.specs.walrus_known_sections.wasm_sections.Sections.{Section, order_test, section, put, ends_with}
use Rattle.walrus_section_reader.specs.declared.fault.Fault.{Fault}
use Rattle.walrus_section_reader.specs.Parses.{stop_of, ParsesExactly, FailsAs, Parses}
use Rattle.walrus_section_reader.specs.Repeats.{joined, same_end, fails_as, fails_then}
use Rattle.walrus_code_reader.specs.Code.{code_place}
use Rattle.walrus_file_reader.specs.Contents.{section_put, section_step}

-- the state behind a section whose entry began with so many bytes left
abbrev finish : State → ℕ → ℕ → Section × List ℕ → Parsing State
finish s left id y = Ok (ends_with id (s.offset + (left - length y.1)) (put s (s.offset + (left - length y.1)) y.0), y.1)

abbrev behind_id : WasmFeatures → State → ℕ → ℕ × List ℕ → Parsing State
behind_id features s left i = (section features s i.0).parse i.1 >>= finish s left i.0

step_is : (features : WasmFeatures) (s : State) (bytes : List ℕ) → section_step features s bytes ≡ ((checked byte (order_test s.last)).parse bytes >>= behind_id features s (length bytes))
step_is features s bytes = go ((checked byte (order_test s.last)).parse bytes)
  where
    with_id : ℕ → Section × List ℕ → Parsing (ℕ × Section)
    with_id id y = Ok ((id, y.0), y.1)

    with_end : (ℕ × Section) × List ℕ → Parsing (ℕ × (ℕ × Section))
    with_end x = Ok ((s.offset + (length bytes - length x.1), x.0), x.1)

    put_next : (ℕ × (ℕ × Section)) × List ℕ → Parsing State
    put_next z = Ok (ends_with z.0.1.0 z.0.0 (put s z.0.0 z.0.1.1), z.1)

    inner : (id : ℕ) (r : Parsing Section) → (((r >>= with_id id) >>= with_end) >>= put_next) ≡ (r >>= finish s (length bytes) id)
    inner id (Ok y) = refl
    inner id (Err e) = refl

    go : (r : Parsing ℕ) → (((r >>= λ i. (section features s i.0).parse i.1 >>= with_id i.0) >>= with_end) >>= put_next) ≡ (r >>= behind_id features s (length bytes))
    go (Ok i) = inner i.0 ((section features s i.0).parse i.1)
    go (Err e) = refl

abbrev put_section : State → ℕ → Section × List ℕ → Parsing State
put_section s end y = Ok (put s (end - length y.1) y.0, y.1)

-- what isn't read isn't put
fails_put : (s : State) (end : ℕ) (now : Cursor) (e : Fault) (r : Parsing Section) → FailsAs now e (r >>= put_section s end) → FailsAs now e r
fails_put s end now e (Ok y) (inl h) = done_refused (put s (end - length y.1) y.0, y.1) (stop_of now e) h
fails_put s end now e (Err d) (inl h) = inl (cast_err d (stop_of now e) h)
  where
    cast_err : (d f : Stop) → (let fail : Stop → Parsing State = λ e. Err e in fail d ≡ fail f) → (let fail : Stop → Parsing Section = λ e. Err e in fail d ≡ fail f)
    cast_err d f h = cc
fails_put s end now e r (inr h) = inr h

-- what was put was read
put_read : (s t : State) (end : ℕ) (later : List ℕ) (r : Parsing Section) → (r >>= put_section s end) ≡ Ok (t, later)
    → (x : Section) × (r ≡ Ok (x, later)) × (put s (end - length later) x ≡ t)
put_read s t end later (Ok y) e =
    let same = done_is (put s (end - length y.1) y.0, y.1) (t, later) e in
    let rest : y.1 ≡ later = ap (λ (z : State × List ℕ). z.1) same in
    (y.0, ap (λ (l : List ℕ). ok y.0 l) rest, ap (λ (l : List ℕ). put s (end - length l) y.0) (sym rest) ∙ ap (λ (z : State × List ℕ). z.0) same)
  where
    ok : Section → List ℕ → Parsing Section
    ok x later = Ok (x, later)
put_read s t end later (Err d) e = absurd cc

-- an id is one byte
one_byte : (test : ℕ → Option Trouble) (bytes later : List ℕ) (id : ℕ) → (checked byte test).parse bytes ≡ Ok (id, later) → length bytes ≡ suc (length later)
one_byte test [] later id e = absurd cc
one_byte test (b ∷ bytes) later id e = let t = tested_ok (test b) (length (b ∷ bytes)) (b, bytes) (id, later) e in ap (λ (z : ℕ × List ℕ). suc (length z.1)) t.1

read_inside : (f : Format Section) (bytes later : List ℕ) (x : Section) → f.parse bytes ≡ Ok (x, later) → length later ≤ length bytes
read_inside f bytes later x e = subst (λ (r : Parsing Section). Inside (length bytes) r) e (f.within bytes)

module _ (s : State) (old mid new : Cursor) (id : ℕ) (one : ParsesExactly (checked byte (order_test s.last)).parse plain old mid (Ok id)) where
  at_id : section_step old.window.features s (rest old) ≡ behind_id old.window.features s (length (rest old)) (id, rest mid)
  at_id = step_is old.window.features s (rest old) ∙ ap (λ (r : Parsing ℕ). r >>= behind_id old.window.features s (length (rest old))) one.value

  pub shorter : Forward mid new → length (rest new) < length (rest old)
  shorter moves =
      let first = one_byte (order_test s.last) (rest old) (rest mid) id one.value in
      let m = length-drop mid.position mid.window.bytes in
      let n = length-drop new.position new.window.bytes in
      let width : length new.window.bytes ≡ length mid.window.bytes = ap (λ (w : Window). length w.bytes) moves.window in
      let forward = moves.forward in
      omega (arith, first, m, n, width, forward)

  pub contents_fail : {X : Type 0} (other : Unit {0} → State) (view : X → State) (e : Fault) → Parses (section_put mid.window.features (end_of mid) s id) view mid new (Err e)
      → Parses (section_step old.window.features s) other old new (Err e)
  contents_fail other view e two = record {
    value =
        let two : FailsAs new e (section_put old.window.features (end_of mid) s id (rest mid)) = subst (λ (w : Window). FailsAs new e (section_put w.features (end_of mid) s id (rest mid))) one.moves.window two.value in
        let failed = fails_put s (end_of mid) new e ((section old.window.features s id).parse (rest mid)) two in
        fails_as new e _ _ (sym at_id) (fails_then new e ((section old.window.features s id).parse (rest mid)) (finish s (length (rest old)) id) failed);
    place = two.place;
    moves = joined old mid new one.moves two.moves;
  }

  pub contents_read : {X : Type 0} (view : X → State) (x : X) (t u : State) (end : ℕ) → Parses (section_put mid.window.features (end_of mid) s id) (λ (_ : X). t) mid new (Ok x)
      → s.offset ≡ code_place old → end ≡ code_place new → end + length (rest new) ≡ end_of new → u ≡ ends_with id end t → view x ≡ u → Parses (section_step old.window.features s) view old new (Ok x)
  contents_read view x t u end two at is left put_end seen = record {
    value =
        let moved = joined old mid new one.moves two.moves in
        let two : section_put old.window.features (end_of mid) s id (rest mid) ≡ Ok (t, rest new) = subst (λ (w : Window). section_put w.features (end_of mid) s id (rest mid) ≡ Ok (t, rest new)) one.moves.window two.value in
        let r = put_read s t (end_of mid) (rest new) ((section old.window.features s id).parse (rest mid)) two in
        let ends = same_end old new moved in
        let middle = same_end old mid one.moves in
        let inside = read_inside (section old.window.features s id) (rest mid) (rest new) r.0 r.1 in
        let first = one_byte (order_test s.last) (rest old) (rest mid) id one.value in
        let m = length-drop old.position old.window.bytes in
        let n = length-drop new.position new.window.bytes in
        let width : length new.window.bytes ≡ length old.window.bytes = ap (λ (w : Window). length w.bytes) moved.window in
        let starts : new.window.start ≡ old.window.start = ap (λ (w : Window). w.start) moved.window in
        let forward = moved.forward in
        let here : s.offset + (length (rest old) - length (rest new)) ≡ end = omega (arith, at, is, left, ends, inside, first, m, n, width, starts, forward) in
        let there : end_of mid - length (rest new) ≡ end = omega (arith, left, ends, middle) in
        at_id ∙ ap (λ (z : Parsing Section). z >>= finish s (length (rest old)) id) r.1 ∙ (finished (s.offset + (length (rest old) - length (rest new))) (end_of mid - length (rest new)) r.0 here there r.2);
    place = tt;
    moves = joined old mid new one.moves two.moves;
  }
    where
      ok : State → Parsing State
      ok s = Ok (s, rest new)

      finished : (a b : ℕ) (section : Section) → a ≡ end → b ≡ end → put s b section ≡ t → ok (ends_with id a (put s a section)) ≡ ok (view x)
      finished a b section e f p =
          ap (λ (n : ℕ). ok (ends_with id n (put s n section))) e
          ∙ ap (λ (z : State). ok (ends_with id end z)) (ap (λ (n : ℕ). put s n section) (sym f) ∙ p)
          ∙ ap ok (sym put_end ∙ sym seen)
