-- The shortest spellings of values that hold their own places: lists of subtypes, of groups of types, of bodies.
use Rattle.std.specs.Prelude.{ℕ, ◌<◌, ◌≤◌, ◌≡◌, ◌+◌, ◌^◌, Bool, true, false, List, [], ◌∷◌, ◌++◌, length, map, refl}
use Rattle.std.specs.List.{flat_map}
use Rattle.std.proofs.Common.{ap, sym, ◌∙◌, subst, arith, inl, inr}
use Rattle.wasm_features.specs.declared.WasmFeatures.{WasmFeatures}
use Rattle.wasm_features.specs.Features.{GcTypes, enables}
use Rattle.wasm_reader.specs.Numbers.{Spells, unsigned}
use Rattle.wasm_formats.specs.Formats.{Format, Small}
use Rattle.wasm_formats.specs.Bytes.{either_type}
use Rattle.wasm_formats.specs.Lists.{SpellsEntries, vec}
use Rattle.wasm_formats.specs.Led.{led}
use Rattle.wasm_formats.specs.Wholes.{whole, sized}
use Rattle.wasm_operators.specs.Bytes.{unsigned_bytes}
use Rattle.wasm_operators.specs.Numbers.{shorter}
use Rattle.wasm_operators.specs.Vecs.{parts_small, parts_short}
use Rattle.wasm_format_bytes.specs.Writers.{u32_writer, same_length}
use Rattle.wasm_grammar.specs.States.{State}
use Rattle.wasm_sections.specs.TypeSection.{Measured, measured, behind, Explicit, explicit, GroupEntry, single, group, sub_apart, sub_some, sub_wants, add_group}
use Rattle.wasm_sections.specs.Sections.{ChunkEntry, chunk_entry, behind_chunk, CodeEntry, code, list_of}
use Rattle.wasm_section_bytes.specs.TypeBytes.{sub_bytes, sub_writer}

-- What is written for a value that stands behind a state: its shortest spelling, whatever the places in it say; and the value with the places of that spelling
pub record Placed {A S : Type 0} (entry : S → Format A) : Type 1 where
  -- within the limits of the format
  pub fits : A → Type 0
  pub bytes : A → List ℕ
  -- without its places
  pub bare : A → A
  pub placed : S → A → A
  pub same : (s : S) (x : A) → bare (placed s x) ≡ bare x
  pub written : (s : S) (x : A) → fits x → (entry s).spells (bytes x) (placed s x)
  pub short : (s : S) (others : List ℕ) (x : A) → Small others → (entry s).spells others x → fits x × (length (bytes x) ≤ length others)

-- ---- lists, each entry at the state that those before it left

module _ {A S : Type 0} (next : S → A → S) (entry : S → Format A) (w : Placed entry) where
  abbrev pub AllFit : List A → Type 0
  AllFit [] = Unit {0}
  AllFit (x ∷ xs) = w.fits x × AllFit xs

  abbrev pub list_bytes : List A → List ℕ
  list_bytes xs = flat_map w.bytes xs

  abbrev pub list_placed : S → List A → List A
  list_placed s [] = []
  list_placed s (x ∷ xs) = w.placed s x ∷ list_placed (next s (w.placed s x)) xs

  pub list_same : (s : S) (xs : List A) → map w.bare (list_placed s xs) ≡ map w.bare xs
  list_same s [] = refl
  list_same s (x ∷ xs) =
      ap (λ (l : List A). w.bare (w.placed s x) ∷ l) (list_same (next s (w.placed s x)) xs) ∙ ap (λ (y : A). y ∷ map w.bare xs) (w.same s x)

  pub list_count : (s : S) (xs : List A) → length (list_placed s xs) ≡ length xs
  list_count s [] = refl
  list_count s (x ∷ xs) = let one = list_count (next s (w.placed s x)) xs in omega (arith, one)

  pub list_written : (s : S) (xs : List A) → AllFit xs → SpellsEntries next entry s (list_bytes xs) (list_placed s xs)
  list_written s [] h = refl
  list_written s (x ∷ xs) h = (w.bytes x, list_bytes xs, refl, w.written s x h.0, list_written (next s (w.placed s x)) xs h.1)

  pub list_short : (s : S) (others : List ℕ) (xs : List A) → Small others → SpellsEntries next entry s others xs → AllFit xs × (length (list_bytes xs) ≤ length others)
  list_short s others [] small h = (tt, omega arith)
  list_short s others (x ∷ xs) small h =
      let parts = parts_small others h.0 h.1 h.2 small in
      let one = w.short s h.0 x parts.0 h.3 in
      let later = list_short (next s x) h.1 xs parts.1 h.4 in
      ((one.0, later.0), parts_short others h.0 h.1 (w.bytes x) (list_bytes xs) h.2 one.1 later.1)

  -- behind their count
  abbrev pub vec_placed : Placed (vec next entry)
  vec_placed = record {
    fits = λ xs. (length xs < 2 ^ 32) × AllFit xs;
    bytes = λ xs. unsigned_bytes (length xs) ++ list_bytes xs;
    bare = λ xs. map w.bare xs;
    placed = list_placed;
    same = list_same;
    written = λ s xs h. (unsigned_bytes (length xs), list_bytes xs, refl, subst (λ (n : ℕ). Spells unsigned 32 (unsigned_bytes (length xs)) n) (sym (list_count s xs)) (u32_writer.written (length xs) h.0), list_written s xs h.1);
    short = λ s others xs small h.
        let parts = parts_small others h.0 h.1 h.2 small in
        let count = u32_writer.short h.0 (length xs) parts.0 h.3 in
        let list = list_short s h.1 xs parts.1 h.4 in
        ((count.0, list.0), parts_short others h.0 h.1 (unsigned_bytes (length xs)) (list_bytes xs) h.2 count.1 list.1);
  }

-- ---- members of a group of types

abbrev pub member_bytes : Measured → List ℕ
member_bytes x = sub_bytes x.1

abbrev pub member_bare : Measured → Measured
member_bare x = (0, x.1)

abbrev pub member_at : ℕ → Measured → Measured
member_at place x = (place + length (member_bytes x), x.1)

abbrev pub member_placed : (features : WasmFeatures) → Placed (measured features)
member_placed features = record {
  fits = λ x. (sub_writer features).fits x.1;
  bytes = member_bytes;
  bare = member_bare;
  placed = member_at;
  same = λ place x. refl;
  written = λ place x h. ((sub_writer features).written x.1 h, refl);
  short = λ place others x small h. (sub_writer features).short others x.1 small h.0;
}

-- ---- groups that are written as such

-- where the members begin: behind the byte 4e and the count
abbrev pub start_of : Explicit → ℕ
start_of g = 1 + length (unsigned_bytes g.0.1)

module _ (features : WasmFeatures) where
  abbrev pub ExplicitFits : Explicit → Type 0
  ExplicitFits g = (g.0.1 < 2 ^ 32) × AllFit behind (measured features) (member_placed features) g.1 × (length g.1 ≡ g.0.1)

  abbrev pub explicit_bytes : Explicit → List ℕ
  explicit_bytes g = unsigned_bytes g.0.1 ++ list_bytes behind (measured features) (member_placed features) g.1

  abbrev pub explicit_at : Explicit → Explicit
  explicit_at g = ((start_of g, g.0.1), list_placed behind (measured features) (member_placed features) (start_of g) g.1)

  pub explicit_written : (g : Explicit) → ExplicitFits g → (explicit features).spells (explicit_bytes g) (explicit_at g)
  explicit_written g h =
      let members = list_written behind (measured features) (member_placed features) (start_of g) g.1 h.1 in
      let count = list_count behind (measured features) (member_placed features) (start_of g) g.1 ∙ h.2 in
      (unsigned_bytes g.0.1, list_bytes behind (measured features) (member_placed features) g.1, refl, (u32_writer.written g.0.1 h.0, refl), (members, count))

  pub explicit_short : (others : List ℕ) (g : Explicit) → Small others → (explicit features).spells others g → ExplicitFits g × (length (explicit_bytes g) ≤ length others)
  explicit_short others g small h =
      let parts = parts_small others h.0 h.1 h.2 small in
      let count = u32_writer.short h.0 g.0.1 parts.0 h.3.0 in
      let members = list_short behind (measured features) (member_placed features) g.0.0 h.1 g.1 parts.1 h.4.0 in
      ((count.0, members.0, h.4.1), parts_short others h.0 h.1 (unsigned_bytes g.0.1) (list_bytes behind (measured features) (member_placed features) g.1) h.2 count.1 members.1)

  -- ---- groups and single types

  abbrev pub SingleFits : GroupEntry → Type 0
  SingleFits (inl g) = ⊥
  SingleFits (inr x) = (sub_writer features).fits x.1

  abbrev pub EitherFits : GroupEntry → Type 0
  EitherFits (inl g) = ExplicitFits g
  EitherFits (inr x) = (sub_writer features).fits x.1

  abbrev pub group_bytes : GroupEntry → List ℕ
  group_bytes (inl g) = 0x4e ∷ explicit_bytes g
  group_bytes (inr x) = member_bytes x

  abbrev pub group_bare : GroupEntry → GroupEntry
  group_bare (inl g) = inl ((0, g.0.1), map member_bare g.1)
  group_bare (inr x) = inr (member_bare x)

  abbrev pub group_at : GroupEntry → GroupEntry
  group_at (inl g) = inl (explicit_at g)
  group_at (inr x) = inr (member_at 0 x)

  pub group_same : (x : GroupEntry) → group_bare (group_at x) ≡ group_bare x
  group_same (inl g) = ap (λ (l : List Measured). explicit_of g l) (list_same behind (measured features) (member_placed features) (start_of g) g.1)
    where
      explicit_of : Explicit → List Measured → GroupEntry
      explicit_of g l = inl ((0, g.0.1), l)
  group_same (inr x) = refl

  pub either_written : (on : Bool) (x : GroupEntry) → either_type on (EitherFits x) (SingleFits x)
      → either_type on ((led 0x4e (explicit features) (measured features 0) (sub_apart features 0) (sub_some features 0) (sub_wants features 0)).spells (group_bytes x) (group_at x)) ((single features).spells (group_bytes x) (group_at x))
  either_written true (inl g) h = (explicit_bytes g, refl, explicit_written g h)
  either_written true (inr x) h = (member_placed features).written 0 x h
  either_written false (inl g) h = absurd h
  either_written false (inr x) h = (member_at 0 x, refl, (member_placed features).written 0 x h)

  pub either_short : (on : Bool) (others : List ℕ) (x : GroupEntry) → Small others
      → either_type on ((led 0x4e (explicit features) (measured features 0) (sub_apart features 0) (sub_some features 0) (sub_wants features 0)).spells others x) ((single features).spells others x)
      → either_type on (EitherFits x) (SingleFits x) × (length (group_bytes x) ≤ length others)
  either_short true others (inl g) small h =
      let parts = parts_small others (0x4e ∷ []) h.0 h.1 small in
      let one = explicit_short h.0 g parts.1 h.2 in
      (one.0, parts_short others (0x4e ∷ []) h.0 (0x4e ∷ []) (explicit_bytes g) h.1 (omega arith) one.1)
  either_short true others (inr x) small h = (member_placed features).short 0 others x small h
  either_short false others (inl g) small h = let e = h.1 in absurd cc
  either_short false others (inr x) small h = by_single x h.0 h.1 h.2
    where
      by_single : (x y : Measured) → (let into : Measured → GroupEntry = λ z. inr z in into y ≡ inr x) → (measured features 0).spells others y
          → (sub_writer features).fits x.1 × (length (member_bytes x) ≤ length others)
      by_single x y e k = let same : y ≡ x = cc in (member_placed features).short 0 others x small (subst (λ (z : Measured). (measured features 0).spells others z) same k)

  abbrev pub group_placed : Placed (group features)
  group_placed = record {
    fits = λ x. either_type (enables features GcTypes) (EitherFits x) (SingleFits x);
    bytes = group_bytes;
    bare = group_bare;
    placed = λ s x. group_at x;
    same = λ s x. group_same x;
    written = λ s x h. either_written (enables features GcTypes) x h;
    short = λ s others x small h. either_short (enables features GcTypes) others x small h;
  }

-- ---- bodies, which are so many bytes here

abbrev pub ChunkFits : ChunkEntry → Type 0
ChunkFits x = (x.0.1 < 2 ^ 32) × (length x.1 ≡ x.0.1)

abbrev pub chunk_bytes : ChunkEntry → List ℕ
chunk_bytes x = unsigned_bytes x.0.1 ++ x.1

pub chunk_short : (place : ℕ) (others : List ℕ) (x : ChunkEntry) → Small others → (chunk_entry place).spells others x → ChunkFits x × (length (chunk_bytes x) ≤ length others)
chunk_short place others x small h =
    let parts = parts_small others h.0 h.1 h.2 small in
    let size = u32_writer.short h.0 x.0.1 parts.0 h.3.0 in
    let run : length x.1 ≡ x.0.1 = ap length h.4.1 ∙ h.4.0 in
    let same : length x.1 ≤ length h.1 = same_length h.1 x.1 (sym h.4.1) in
    ((size.0, run), parts_short others h.0 h.1 (unsigned_bytes x.0.1) x.1 h.2 size.1 same)

abbrev pub chunk_placed : Placed chunk_entry
chunk_placed = record {
  fits = ChunkFits;
  bytes = chunk_bytes;
  bare = λ x. ((0, x.0.1), x.1);
  placed = λ place x. ((place + length (unsigned_bytes x.0.1), x.0.1), x.1);
  same = λ place x. refl;
  written = λ place x h. (unsigned_bytes x.0.1, x.1, refl, (u32_writer.written x.0.1 h.0, refl), (h.1, refl));
  short = chunk_short;
}

-- the function count, and as many bodies; places count from the function count
abbrev pub code_start : CodeEntry → ℕ
code_start c = length (unsigned_bytes c.0.1)

abbrev pub chunks_at : CodeEntry → List ChunkEntry
chunks_at c = list_placed behind_chunk chunk_entry chunk_placed (code_start c) c.1

abbrev pub CodeFits : CodeEntry → Type 0
CodeFits c = (c.0.1 < 2 ^ 32) × AllFit behind_chunk chunk_entry chunk_placed c.1 × (length c.1 ≡ c.0.1)

abbrev pub code_bytes : CodeEntry → List ℕ
code_bytes c = unsigned_bytes c.0.1 ++ list_bytes behind_chunk chunk_entry chunk_placed c.1

pub code_written : (s : State) (c : CodeEntry) → CodeFits c → (code s).spells (code_bytes c) ((code_start c, c.0.1), chunks_at c)
code_written s c h =
    let chunks = list_written behind_chunk chunk_entry chunk_placed (code_start c) c.1 h.1 in
    let count = list_count behind_chunk chunk_entry chunk_placed (code_start c) c.1 ∙ h.2 in
    (unsigned_bytes c.0.1, list_bytes behind_chunk chunk_entry chunk_placed c.1, refl, (u32_writer.written c.0.1 h.0, omega arith), (chunks, count))

pub code_short : (s : State) (others : List ℕ) (c : CodeEntry) → Small others → (code s).spells others c → CodeFits c × (length (code_bytes c) ≤ length others)
code_short s others c small h =
    let parts = parts_small others h.0 h.1 h.2 small in
    let count = u32_writer.short h.0 c.0.1 parts.0 h.3.0 in
    let chunks = list_short behind_chunk chunk_entry chunk_placed c.0.0 h.1 c.1 parts.1 h.4.0 in
    ((count.0, chunks.0, h.4.1), parts_short others h.0 h.1 (unsigned_bytes c.0.1) (list_bytes behind_chunk chunk_entry chunk_placed c.1) h.2 count.1 chunks.1)

abbrev pub code_placed : Placed code
code_placed = record {
  fits = CodeFits;
  bytes = code_bytes;
  bare = λ c. ((0, c.0.1), map chunk_placed.bare c.1);
  placed = λ s c. ((code_start c, c.0.1), chunks_at c);
  same = λ s c. ap (λ (l : List ChunkEntry). ((0, c.0.1), l)) (list_same behind_chunk chunk_entry chunk_placed (code_start c) c.1);
  written = code_written;
  short = code_short;
}

-- ---- the contents of the sections of types and of code, with their size

-- a size, and what fills so many bytes
abbrev pub sized_placed : {A S : Type 0} (entry : S → Format A) → Placed entry → Placed (λ s. sized (whole (entry s)))
sized_placed entry w = record {
  fits = λ x. w.fits x × (length (w.bytes x) < 2 ^ 32);
  bytes = λ x. unsigned_bytes (length (w.bytes x)) ++ w.bytes x;
  bare = w.bare;
  placed = w.placed;
  same = w.same;
  written = λ s x h. (unsigned_bytes (length (w.bytes x)), w.bytes x, refl, u32_writer.written (length (w.bytes x)) h.1, w.written s x h.0);
  short = λ s others x small h.
      let parts = parts_small others h.0 h.1 h.2 small in
      let contents = w.short s h.1 x parts.1 h.4 in
      let size = u32_writer.short h.0 (length h.1) parts.0 h.3 in
      let less = shorter 10 (length (w.bytes x)) (length h.1) contents.1 in
      let below : length (w.bytes x) < 2 ^ 32 = omega (arith, contents.1, size.0) in
      let front : length (unsigned_bytes (length (w.bytes x))) ≤ length h.0 = omega (arith, less, size.1) in
      ((contents.0, below), parts_short others h.0 h.1 (unsigned_bytes (length (w.bytes x))) (w.bytes x) h.2 front contents.1);
}

abbrev pub types_placed : (features : WasmFeatures) → Placed (list_of add_group (group features))
types_placed features = sized_placed (vec add_group (group features)) (vec_placed add_group (group features) (group_placed features))

abbrev pub code_section_placed : Placed (λ s. sized (whole (code s)))
code_section_placed = sized_placed code code_placed
