-- Lemmas: an import is read ahead, tested at its first byte, and then read.
use Rattle.std.specs.Prelude.{ℕ, ◌+◌, ◌-◌, ◌≡◌, List, length, Option, Some, None, Result, Ok, Err, refl}
use Rattle.std.specs.Option.{option_map}
use Rattle.std.specs.Borrow.{Bor}
use Rattle.std.proofs.Common.{ap, sym, ◌∙◌, subst, arith, length-drop}
use Rattle.wasm_features.specs.declared.WasmFeatures.{WasmFeatures}
use Rattle.wasm_reader.specs.Cursor.{Window, Cursor, rest, end_of, IsWithin, shrunk}
use Rattle.walrus_known_sections.specs.wasm_sections.wasm_grammar.wasm_formats.Stops.{Stop, stop, Parsing, ◌>>=◌}
use Rattle.walrus_known_sections.specs.wasm_sections.wasm_grammar.wasm_formats.Formats.{Format, refused}
use Rattle.walrus_known_sections.specs.wasm_sections.wasm_grammar.wasm_formats.Joined.{after, tested}
use Rattle.walrus_known_sections.specs.wasm_sections.wasm_grammar.Values.{name, byte_below}
use Rattle.walrus_known_sections.specs.wasm_sections.wasm_grammar.States.{State}
use Rattle.walrus_known_sections.specs.wasm_sections.Entities.{Entity, ImportEntry, import_by, entity, entity_read, import_test, import_entry}
use Rattle.walrus_section_reader.specs.declared.fault.Fault.{Fault}
use Rattle.walrus_section_reader.specs.declared.fault.FaultKind.{FaultKind}
use Rattle.walrus_section_reader.specs.Faults.{trouble_of, fault_of}
use Rattle.walrus_section_reader.specs.Parses.{stop_of, ParsesExactly}
use Rattle.walrus_section_reader.specs.Repeats.{joined, same_end}
use Rattle.walrus_entry_readers.specs.declared.imports.Entity.{Entity as Read}
use Rattle.walrus_entry_readers.specs.Imports.{entity_of, entity_test, front, front_of, import_entry_of}

abbrev Front : Type 0
Front = List ℕ × (List ℕ × ℕ)

-- a value and one behind it
abbrev paired : {A B : Type 0} → A → B × List ℕ → Parsing (A × B)
paired a y = Ok ((a, y.0), y.1)

abbrev entered : List ℕ → List ℕ → ℕ → Entity × List ℕ → Parsing ImportEntry
entered m n k y = Ok ((m, (n, (k, y.0))), y.1)

-- what stands behind the names and the kind
abbrev behind : (ℕ → Format Entity) → Front × List ℕ → Parsing ImportEntry
behind E x = (E x.0.1.1).parse x.1 >>= entered x.0.0 x.0.1.0 x.0.1.1

import_front : (E : ℕ → Format Entity) (b : List ℕ) → (import_by E).parse b ≡ (front.parse b >>= behind E)
import_front E b = go1 (name.parse b)
  where
    go4 : (m n : List ℕ) (k : ℕ) (r : Parsing Entity) → (((r >>= paired k) >>= paired n) >>= paired m) ≡ (r >>= entered m n k)
    go4 m n k (Ok y) = refl
    go4 m n k (Err e) = refl

    go3 : (m n : List ℕ) (r : Parsing ℕ) → (((r >>= λ k. (E k.0).parse k.1 >>= paired k.0) >>= paired n) >>= paired m) ≡ (((r >>= paired n) >>= paired m) >>= behind E)
    go3 m n (Ok k) = go4 m n k.0 ((E k.0).parse k.1)
    go3 m n (Err e) = refl

    go2 : (m : List ℕ) (r : Parsing (List ℕ)) → ((r >>= λ n. (after (byte_below 5) E).parse n.1 >>= paired n.0) >>= paired m)
        ≡ (((r >>= λ n. (byte_below 5).parse n.1 >>= paired n.0) >>= paired m) >>= behind E)
    go2 m (Ok n) = go3 m n.0 ((byte_below 5).parse n.1)
    go2 m (Err e) = refl

    go1 : (r : Parsing (List ℕ)) → (r >>= λ m. (after name (λ _. after (byte_below 5) E)).parse m.1 >>= paired m.0)
        ≡ ((r >>= λ m. (after name (λ _. byte_below 5)).parse m.1 >>= paired m.0) >>= behind E)
    go1 (Ok m) = go2 m.0 (name.parse m.1)
    go1 (Err e) = refl

pub within_is : (c : Cursor) (offset : ℕ) → offset ≡ c.window.start + c.position → offset + length (rest c) ≡ end_of c → IsWithin c
within_is c offset place left = omega (arith, place, left, length-drop c.position c.window.bytes)

shrunk_end : (c : Cursor) → IsWithin c → end_of (shrunk c) ≡ end_of c
shrunk_end c within = omega (arith, within, length-drop c.position c.window.bytes)

-- what is read ahead, under the features of the entry's first byte
pub any_at : (s : State) (k : ℕ) (old mid first ahead : Cursor) (result : Result Read Fault) → mid.window ≡ old.window → first ≡ shrunk mid
    → ParsesExactly (entity_read first.window.features s k).parse entity_of first ahead result → ParsesExactly (entity_read old.window.features s k).parse entity_of (shrunk mid) ahead result
any_at s k old mid first ahead result same is p =
    let here = subst (λ (c : Cursor). ParsesExactly (entity_read c.window.features s k).parse entity_of c ahead result) is p in
    subst (λ (w : Window). ParsesExactly (entity_read w.features s k).parse entity_of (shrunk mid) ahead result) same here

pub entity_at : (s : State) (k : ℕ) (old mid new : Cursor) (result : Result Read Fault) → mid.window ≡ old.window
    → ParsesExactly (entity mid.window.features s k).parse entity_of mid new result → ParsesExactly (entity old.window.features s k).parse entity_of mid new result
entity_at s k old mid new result same p = subst (λ (w : Window). ParsesExactly (entity w.features s k).parse entity_of mid new result) same p

pub exactly_on : {S X : Type 0} (p : List ℕ → Parsing S) (view : X → S) (old new : Cursor) (result : Result X Fault) (d e : Fault) → result ≡ Err d → d ≡ e
    → ParsesExactly p view old new (Err e) → ParsesExactly p view old new result
exactly_on p view old new result d e is same h = rw (is, same) h

module _ (f : WasmFeatures) (s : State) (old : Cursor) (offset : ℕ) (place : offset ≡ old.window.start + old.position) (left : offset + length (rest old) ≡ end_of old) where
  loose_err : (a : Parsing ImportEntry) (e : Stop) (g : ImportEntry × List ℕ → Parsing ImportEntry) → a ≡ refused e → (a >>= g) ≡ refused e
  loose_err a e g h = rw h refl

  pub front_err : (new : Cursor) (e : Fault) → ParsesExactly front.parse front_of old new (Err e) → ParsesExactly (import_entry f s).parse import_entry_of old new (Err e)
  front_err new e p = record {
    value =
        let stops : (import_by (entity_read f s)).parse (rest old) ≡ refused (stop_of new e) = import_front (entity_read f s) (rest old) ∙ ap (λ (r : Parsing Front). r >>= behind (entity_read f s)) p.value in
        loose_err ((import_by (entity_read f s)).parse (rest old)) (stop_of new e) (λ z. tested (import_test s z.0) (length (rest old)) z >>= λ _. (import_by (entity f s)).parse (rest old)) stops;
    place = p.place;
    moves = p.moves;
  }

  module _ (mid : Cursor) (m n : Bor (List ℕ)) (k : ℕ) (names : ParsesExactly front.parse front_of old mid (Ok (m, n, k))) where
    abbrev At : Front × List ℕ
    At = ((m.now, (n.now, k)), rest mid)

    import_is : (import_entry f s).parse (rest old) ≡ (behind (entity_read f s) At >>= λ z. tested (import_test s z.0) (length (rest old)) z >>= λ _. behind (entity f s) At)
    import_is =
        let loose : (import_by (entity_read f s)).parse (rest old) ≡ behind (entity_read f s) At = import_front (entity_read f s) (rest old) ∙ ap (λ (r : Parsing Front). r >>= behind (entity_read f s)) names.value in
        let strict : (import_by (entity f s)).parse (rest old) ≡ behind (entity f s) At = import_front (entity f s) (rest old) ∙ ap (λ (r : Parsing Front). r >>= behind (entity f s)) names.value in
        go ((import_by (entity_read f s)).parse (rest old)) ((import_by (entity f s)).parse (rest old)) loose strict
      where
        go : (a b : Parsing ImportEntry) → a ≡ behind (entity_read f s) At → b ≡ behind (entity f s) At
            → (a >>= λ z. tested (import_test s z.0) (length (rest old)) z >>= λ _. b) ≡ (behind (entity_read f s) At >>= λ z. tested (import_test s z.0) (length (rest old)) z >>= λ _. behind (entity f s) At)
        go a b p q = ap (λ (x : Parsing ImportEntry). x >>= λ z. tested (import_test s z.0) (length (rest old)) z >>= λ _. b) p
            ∙ ap (λ (x : Parsing ImportEntry). behind (entity_read f s) At >>= λ z. tested (import_test s z.0) (length (rest old)) z >>= λ _. x) q

    inner_within : IsWithin mid
    inner_within = names.moves.within (within_is old offset place left)

    -- what is read ahead is refused
    pub ahead_err : (ahead : Cursor) (e : Fault) → ParsesExactly (entity_read f s k).parse entity_of (shrunk mid) ahead (Err e) → ParsesExactly (import_entry f s).parse import_entry_of old mid (Err e)
    ahead_err ahead e p =
        let ends : end_of ahead ≡ end_of mid = sym (same_end (shrunk mid) ahead p.moves) ∙ shrunk_end mid inner_within in
        let stops : (entity_read f s k).parse (rest mid) ≡ refused (stop (trouble_of e.kind) (end_of mid - e.offset)) = subst (λ (n : ℕ). (entity_read f s k).parse (rest mid) ≡ refused (stop (trouble_of e.kind) (n - e.offset))) ends p.value in
        record { value = import_is ∙ rw stops refl; place = omega (arith, ends, p.place); moves = names.moves }

    -- the limits are tested
    pub limit_err : (ahead : Cursor) (x : Read) (kind : FaultKind) (o : Option FaultKind) → o ≡ Some kind → option_map trouble_of o ≡ entity_test s (entity_of x)
        → ParsesExactly (entity_read f s k).parse entity_of (shrunk mid) ahead (Ok x) → ParsesExactly (import_entry f s).parse import_entry_of old mid (Err (fault_of kind offset))
    limit_err ahead x kind o is test p =
        let there : (entity_read f s k).parse (rest mid) ≡ Ok (entity_of x, rest ahead) = p.value in
        let fails : entity_test s (entity_of x) ≡ Some (trouble_of kind) = sym test ∙ ap (λ (o : Option FaultKind). option_map trouble_of o) is in
        let ends = same_end old mid names.moves in
        let at : length (rest old) ≡ end_of mid - offset = omega (arith, left, ends) in
        record { value = import_is ∙ rw (there, fails, at) refl; place = omega (arith, left, ends); moves = names.moves }

    -- and then what ends it
    passed : (ahead : Cursor) (x : Read) (o : Option FaultKind) → o ≡ None → option_map trouble_of o ≡ entity_test s (entity_of x)
        → ParsesExactly (entity_read f s k).parse entity_of (shrunk mid) ahead (Ok x) → (import_entry f s).parse (rest old) ≡ behind (entity f s) At
    passed ahead x o is test p =
        let there : (entity_read f s k).parse (rest mid) ≡ Ok (entity_of x, rest ahead) = p.value in
        let holds : entity_test s (entity_of x) ≡ None = sym test ∙ ap (λ (o : Option FaultKind). option_map trouble_of o) is in
        import_is ∙ rw (there, holds) refl

    pub entity_err : (ahead new : Cursor) (x : Read) (o : Option FaultKind) (e : Fault) → o ≡ None → option_map trouble_of o ≡ entity_test s (entity_of x)
        → ParsesExactly (entity_read f s k).parse entity_of (shrunk mid) ahead (Ok x) → ParsesExactly (entity f s k).parse entity_of mid new (Err e)
        → ParsesExactly (import_entry f s).parse import_entry_of old new (Err e)
    entity_err ahead new x o e is test p q = record { value = passed ahead x o is test p ∙ rw q.value refl; place = q.place; moves = joined old mid new names.moves q.moves }

    pub entity_ok : (ahead new : Cursor) (x y : Read) (o : Option FaultKind) → o ≡ None → option_map trouble_of o ≡ entity_test s (entity_of x)
        → ParsesExactly (entity_read f s k).parse entity_of (shrunk mid) ahead (Ok x) → ParsesExactly (entity f s k).parse entity_of mid new (Ok y)
        → ParsesExactly (import_entry f s).parse import_entry_of old new (Ok (record { «module» = m; name = n; kind = k; entity = y }))
    entity_ok ahead new x y o is test p q = record { value = passed ahead x o is test p ∙ rw q.value refl; place = tt; moves = joined old mid new names.moves q.moves }
