-- Lemmas: places of bodies, and bodies one behind another.
use Rattle.std.specs.Prelude.{ℕ, suc, ◌+◌, ◌-◌, ◌<◌, ◌≤◌, ◌≡◌, List, [], ◌∷◌, ◌++◌, length, map, take, drop, Ok, Err, refl}
use Rattle.std.specs.Borrow.{Bor}
use Rattle.std.proofs.Common.{ap, sym, ◌∙◌, arith, length-drop, inl, inr}
use Rattle.std.proofs.lemmas.Bool.{cases_lt, lt-leb, le-leb}
use Rattle.std.proofs.lemmas.List.{append_assoc, append-nil}
use Rattle.wasm_reader.specs.Cursor.{Cursor, rest, end_of, Forward, IsWithin}
use Rattle.wasm_reader.specs.Reading.{bytes_at}
use Rattle.wasm_reader.specs.Spellings.{ok_is}
use Rattle.wasm_formats.specs.Stops.{Parsing, ◌>>=◌}
use Rattle.walrus_known_sections.specs.wasm_sections.Sections as grammar
use Rattle.walrus_known_sections.specs.wasm_sections.Sections.{ChunkEntry, chunk_entry, behind_chunk}
use Rattle.walrus_section_reader.specs.declared.fault.Fault.{Fault}
use Rattle.walrus_section_reader.specs.Parses.{ParsesExactly, Parses}
use Rattle.walrus_section_reader.specs.Repeats.{joined, fails_as, fails_then}
use Rattle.walrus_section_reader.specs.Steps.{put_in}
use Rattle.walrus_known_sections.specs.declared.items.Chunk.{Chunk}
use Rattle.walrus_known_sections.specs.Items.{chunk_of}
use Rattle.walrus_code_reader.specs.Code.{code_place, chunk_entry_of, place_behind, chunks_at, ends_behind}

pub within_is : (c : Cursor) (offset : ℕ) → offset ≡ c.window.start + c.position → offset + length (rest c) ≡ end_of c → IsWithin c
within_is c offset place left = omega (arith, place, left, length-drop c.position c.window.bytes)

-- so many bytes were read
pub ran : (old new : Cursor) (size : ℕ) (bytes : Bor (List ℕ)) → IsWithin old → bytes_at size (rest old) ≡ Ok (bytes.now, rest new) → Forward old new → code_place old + size ≡ code_place new
ran old new size bytes within is moves = elim (cases_lt (length (rest old)) size) as (λ _. code_place old + size ≡ code_place new) [
  | inl lt ↦ let e = (rw (lt-leb size (length (rest old)) lt) at is) in absurd cc
  | inr le ↦
      let there = (rw (le-leb size (length (rest old)) le) at is) in
      let same : drop size (rest old) ≡ rest new = ap (λ (p : List ℕ × List ℕ). p.1) (ok_is (take size (rest old), drop size (rest old)) (bytes.now, rest new) there) in
      let one = length-drop old.position old.window.bytes in
      let two = length-drop new.position new.window.bytes in
      let three = length-drop size (rest old) in
      let four = ap length same in
      let window = moves.window in
      let width : length new.window.bytes ≡ length old.window.bytes = ap (λ w. length w.bytes) window in
      let starts : new.window.start ≡ old.window.start = ap (λ w. w.start) window in
      let inside = moves.within within in
      omega (arith, one, two, three, four, width, starts, within, inside, le)
]

-- ---- one behind another

-- after `i` of `count` bodies
pub record Chunked (base : ℕ) (start here : Cursor) (count i : ℕ) (items : List ChunkEntry) : Type 0 where
  pub so_far : (chunks_at (count - i) (code_place here - base) (rest here) >>= put_in (λ xs. items ++ xs)) ≡ chunks_at count (code_place start - base) (rest start)
  pub place : base + ends_behind (code_place start - base) items ≡ code_place here
  pub moves : Forward start here

put_none : (r : Parsing (List ChunkEntry)) → (r >>= put_in (λ xs. [] ++ xs)) ≡ r
put_none (Ok xs) = refl
put_none (Err e) = refl

pub chunked_none : (base count : ℕ) (start : Cursor) → base ≤ code_place start → Chunked base start start count 0 []
chunked_none base count start le = record {
  so_far = let all : count - 0 ≡ count = omega arith in rw all (put_none (chunks_at count (code_place start - base) (rest start)));
  place = omega (arith, le);
  moves = record { window = refl; forward = omega arith; within = λ w. w };
}

pub starts_before : (base count i : ℕ) (start here : Cursor) (items : List ChunkEntry) → Chunked base start here count i items → base ≤ code_place here
starts_before base count i start here items so = let place = so.place in omega (arith, place)

one_is : (count i place : ℕ) (bytes : List ℕ) → i < count
    → chunks_at (count - i) place bytes ≡ ((chunk_entry place).parse bytes >>= λ x. chunks_at (count - (i + 1)) (behind_chunk place x.0) x.1 >>= put_in (λ xs. x.0 ∷ xs))
one_is count i place bytes below = let one : count - i ≡ suc (count - (i + 1)) = omega arith in rw one refl

put_over : (items : List ChunkEntry) (x : ChunkEntry) (r : Parsing (List ChunkEntry)) → ((r >>= put_in (λ xs. x ∷ xs)) >>= put_in (λ xs. items ++ xs)) ≡ (r >>= put_in (λ xs. (items ++ x ∷ []) ++ xs))
put_over items x (Ok xs) = rw (append_assoc items (x ∷ []) xs.0) refl
put_over items x (Err e) = refl

fold_last : (place : ℕ) (items : List ChunkEntry) (x : ChunkEntry) → ends_behind place (items ++ x ∷ []) ≡ x.0.0 + x.0.1
fold_last place [] x = refl
fold_last place (y ∷ items) x = fold_last (behind_chunk place y) items x

pub chunked : (base count i : ℕ) (start here new : Cursor) (items : List ChunkEntry) (c : Chunk) → Chunked base start here count i items → i < count
    → ParsesExactly (chunk_entry (code_place here - base)).parse chunk_entry_of here new (Ok c) → base + place_behind c ≡ code_place new
    → Chunked base start new count (i + 1) (items ++ chunk_entry_of c ∷ [])
chunked base count i start here new items c so below p place = record {
  so_far =
      let next : place_behind c ≡ code_place new - base = omega (arith, place) in
      let rest_of : ℕ → Parsing (List ChunkEntry) = λ n. chunks_at (count - (i + 1)) n (rest new) >>= put_in (λ xs. chunk_entry_of c ∷ xs) in
      let one : chunks_at (count - i) (code_place here - base) (rest here) ≡ rest_of (place_behind c) = one_is count i (code_place here - base) (rest here) below ∙ rw p.value refl in
      sym (put_over items (chunk_entry_of c) (chunks_at (count - (i + 1)) (code_place new - base) (rest new)))
      ∙ sym (ap (λ z. z >>= put_in (λ xs. items ++ xs)) (one ∙ ap rest_of next)) ∙ so.so_far;
  place = ap (λ n. base + n) (fold_last (code_place start - base) items (chunk_entry_of c)) ∙ place;
  moves = joined start here new so.moves p.moves;
}

pub chunked_not : {Y : Type 0} (base count i : ℕ) (start here new : Cursor) (items : List ChunkEntry) (other : Y → List ChunkEntry) (e : Fault) → Chunked base start here count i items → i < count
    → ParsesExactly (chunk_entry (code_place here - base)).parse chunk_entry_of here new (Err e) → Parses (chunks_at count (code_place start - base)) other start new (Err e)
chunked_not base count i start here new items other e so below p = record {
  value = fails_as new e _ _ (ap (λ z. z >>= put_in (λ xs. items ++ xs)) (sym (one_is count i (code_place here - base) (rest here) below)) ∙ so.so_far) (fails_then new e _ _ (fails_then new e _ _ (inl p.value)));
  place = p.place;
  moves = joined start here new so.moves p.moves;
}

pub all_chunked : {X : Type 0} (base count i : ℕ) (start here : Cursor) (items : List ChunkEntry) (view : X → List ChunkEntry) (x : X) → Chunked base start here count i items → count ≤ i → view x ≡ items
    → Parses (chunks_at count (code_place start - base)) view start here (Ok x)
all_chunked base count i start here items view x so above same = record {
  value = let none : count - i ≡ 0 = omega arith in sym so.so_far ∙ rw (none, same, append-nil items) refl;
  place = tt;
  moves = so.moves;
}

-- ---- the whole

-- what is left from a place on
pub to_end : (c : Cursor) → IsWithin c → code_place c + length (rest c) ≡ end_of c
to_end c within = omega (arith, within, length-drop c.position c.window.bytes)

pub chunks_are : (chunks : List Chunk) → map grammar.chunk_of (map chunk_entry_of chunks) ≡ map chunk_of chunks
chunks_are [] = refl
chunks_are (c ∷ chunks) = ap (λ l. chunk_of c ∷ l) (chunks_are chunks)
