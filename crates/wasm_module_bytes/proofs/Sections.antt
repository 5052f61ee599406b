-- Lemmas: sections with other bodies, none of them longer, are spelled in their shortest bytes, and meet the rules there.
use Rattle.std.specs.Prelude.{ℕ, ◌<◌, ◌≤◌, ◌≡◌, ◌^◌, nat_le, nat_lt, List, [], ◌∷◌, ◌++◌, length, map, fold, Option, None, refl}
use Rattle.std.proofs.Common.{ap, sym, ◌∙◌, subst, arith, inl, inr}
use Rattle.std.proofs.lemmas.Bool.{leb-true, le-leb, ltb-true}
use Rattle.std.proofs.lemmas.List.{length-append}
use Rattle.wasm_features.specs.declared.WasmFeatures.{WasmFeatures}
use Rattle.wasm_formats.specs.declared.fault.Limited.TheVariants as limits
use Rattle.wasm_formats.specs.Stops.{SectionOrder, Limit}
use Rattle.wasm_formats.specs.Lists.{SpellsEntries, EntryRules}
use Rattle.wasm_formats.specs.Wholes.{whole}
use Rattle.wasm_operators.specs.Bytes.{unsigned_bytes}
use Rattle.wasm_operators.specs.Numbers.{shorter}
use Rattle.wasm_grammar.specs.States.{Chunk, State}
use Rattle.wasm_grammar.specs.Values.{must}
use Rattle.wasm_sections.specs.TypeSection.{GroupEntry, group, add_group}
use Rattle.wasm_sections.specs.Entities.{Entity, FunctionOf, TableOf, MemoryOf, GlobalOf, TagOf, import_entry, add_entity, add_import, function_entry, add_function, TableEntry, table_entry, add_table, memory_entry, add_memory, tag_entry, add_tag, global_entry, add_global}
use Rattle.wasm_sections.specs.Exports.{export_entry, add_export}
use Rattle.wasm_sections.specs.Segments.{element_entry, add_element, data_entry, add_data}
use Rattle.wasm_sections.specs.Sections.{ChunkEntry, chunk_entry, behind_chunk, chunk_of, CodeEntry, code, Section, CustomSection, TypeSection, ImportSection, FunctionSection, TableSection, MemorySection, TagSection, GlobalSection, ExportSection, StartSection, ElementSection, DataCountSection, CodeSection, DataSection, types_once, code_once, id_of, section, order_test, SectionEntry, section_entry, put, ends_with, next}
use Rattle.wasm_sections.specs.Ids.{section_id}
use Rattle.wasm_section_bytes.specs.Placed.{AllFit, list_bytes, list_placed, ChunkFits, chunk_bytes, chunk_placed, code_start, chunks_at, CodeFits, code_bytes, code_section_placed, types_placed}
use Rattle.wasm_section_bytes.specs.Elsewhere.{elsewhere, import_steady, table_steady}
use Rattle.wasm_section_bytes.specs.Files.{SectionFits, section_bytes, section_placed, entry_bytes, EntryFits, entry_placed, entry_written, IsElsewhere, SectionsFit, sections_bytes, next_elsewhere}
use Rattle.wasm_module_rules.specs.wasm_modules.Modules.{chunks_of}
use Rattle.wasm_module_rules.specs.Keeps.{must_holds}
use Rattle.wasm_module_bytes.specs.Bytes.{chunks_with, section_with, entry_with, sections_with}
use Rattle.wasm_module_bytes.proofs.Rules.{entries_ruled, groups_ruled}

-- ---- bytes for bodies, none longer than the body's own

abbrev pub AreBelow : List (List ℕ) → List Chunk → Type 0
AreBelow [] [] = Unit {0}
AreBelow (b ∷ bs) (c ∷ cs) = (length b ≤ length c.bytes) × AreBelow bs cs
AreBelow _ _ = ⊥

abbrev chunks_bytes : List ChunkEntry → List ℕ
chunks_bytes xs = list_bytes behind_chunk chunk_entry chunk_placed xs

abbrev ChunksFit : List ChunkEntry → Type 0
ChunksFit xs = AllFit behind_chunk chunk_entry chunk_placed xs

pub no_longer : (a b c d : List ℕ) → length a ≤ length c → length b ≤ length d → length (a ++ b) ≤ length (c ++ d)
no_longer a b c d h k = omega (arith, h, k, length-append a b, length-append c d)

chunk_shorter : (b : List ℕ) (x : ChunkEntry) → length b ≤ length x.1 → ChunkFits x → length (chunk_bytes ((x.0.0, length b), b)) ≤ length (chunk_bytes x)
chunk_shorter b x le fits =
    let size = fits.1 in
    let less = shorter 10 (length b) x.0.1 (omega (arith, le, size)) in
    no_longer (unsigned_bytes (length b)) b (unsigned_bytes x.0.1) x.1 less le

chunks_shorter : (bs : List (List ℕ)) (xs : List ChunkEntry) → AreBelow bs (map chunk_of xs) → ChunksFit xs
    → ChunksFit (chunks_with bs xs) × (length (chunks_with bs xs) ≡ length xs) × (length (chunks_bytes (chunks_with bs xs)) ≤ length (chunks_bytes xs))
chunks_shorter [] [] h fits = (tt, refl, omega arith)
chunks_shorter [] (x ∷ xs) h fits = absurd h
chunks_shorter (b ∷ bs) [] h fits = absurd h
chunks_shorter (b ∷ bs) (x ∷ xs) h fits =
    let one = fits.0 in
    let small = one.0 in
    let size = one.1 in
    let le = h.0 in
    let rest = chunks_shorter bs xs h.1 fits.1 in
    let below : length b < 2 ^ 32 = omega (arith, le, small, size) in
    let count = rest.1 in
    (((below, refl), rest.0), omega (arith, count), no_longer (chunk_bytes ((x.0.0, length b), b)) (chunks_bytes (chunks_with bs xs)) (chunk_bytes x) (chunks_bytes xs) (chunk_shorter b x le one) rest.2)

-- what is asked of the section of code
abbrev pub HasBelow : List (List ℕ) → Section → Type 0
HasBelow bs (CodeSection c) = AreBelow bs (map chunk_of c.1)
HasBelow bs x = Unit {0}

code_shorter : (bs : List (List ℕ)) (c : CodeEntry) → AreBelow bs (map chunk_of c.1) → code_section_placed.fits c
    → code_section_placed.fits (c.0, chunks_with bs c.1) × (length (code_section_placed.bytes (c.0, chunks_with bs c.1)) ≤ length (code_section_placed.bytes c))
code_shorter bs c h fits =
    let own : CodeFits c = fits.0 in
    let few : length (code_bytes c) < 2 ^ 32 = fits.1 in
    let chunks = chunks_shorter bs c.1 h own.1 in
    let less : length (code_bytes (c.0, chunks_with bs c.1)) ≤ length (code_bytes c) =
    no_longer (unsigned_bytes c.0.1) (chunks_bytes (chunks_with bs c.1)) (unsigned_bytes c.0.1) (chunks_bytes c.1) (omega arith) chunks.2 in
    let below : length (code_bytes (c.0, chunks_with bs c.1)) < 2 ^ 32 = omega (arith, less, few) in
    let size = shorter 10 (length (code_bytes (c.0, chunks_with bs c.1))) (length (code_bytes c)) less in (
      ((own.0, chunks.0, chunks.1 ∙ own.2), below),
      no_longer (unsigned_bytes (length (code_bytes (c.0, chunks_with bs c.1)))) (code_bytes (c.0, chunks_with bs c.1)) (unsigned_bytes (length (code_bytes c))) (code_bytes c) size less,
    )

module _ (features : WasmFeatures) (bs : List (List ℕ)) where
  section_shorter : (s : State) (x : Section) → HasBelow bs x → SectionFits features s x
      → SectionFits features s (section_with bs x) × (length (section_bytes features s (section_with bs x)) ≤ length (section_bytes features s x))
  section_shorter s (CustomSection x) h fits = (fits, omega arith)
  section_shorter s (TypeSection x) h fits = (fits, omega arith)
  section_shorter s (ImportSection x) h fits = (fits, omega arith)
  section_shorter s (FunctionSection x) h fits = (fits, omega arith)
  section_shorter s (TableSection x) h fits = (fits, omega arith)
  section_shorter s (MemorySection x) h fits = (fits, omega arith)
  section_shorter s (TagSection x) h fits = (fits, omega arith)
  section_shorter s (GlobalSection x) h fits = (fits, omega arith)
  section_shorter s (ExportSection x) h fits = (fits, omega arith)
  section_shorter s (StartSection x) h fits = (fits, omega arith)
  section_shorter s (ElementSection x) h fits = (fits, omega arith)
  section_shorter s (DataCountSection x) h fits = (fits, omega arith)
  section_shorter s (CodeSection c) h fits = code_shorter bs c h fits
  section_shorter s (DataSection x) h fits = (fits, omega arith)

  -- ---- rules

  chunks_ruled : (bs : List (List ℕ)) (p q : ℕ) (xs : List ChunkEntry) → AreBelow bs (map chunk_of xs) → ChunksFit xs → EntryRules behind_chunk chunk_entry p xs
      → EntryRules behind_chunk chunk_entry q (list_placed behind_chunk chunk_entry chunk_placed q (chunks_with bs xs))
  chunks_ruled [] p q [] h fits r = tt
  chunks_ruled [] p q (x ∷ xs) h fits r = absurd h
  chunks_ruled (b ∷ bs) p q [] h fits r = absurd h
  chunks_ruled (b ∷ bs) p q (x ∷ xs) h fits r =
      let one = r.0 in
      let own = one.0 in
      let le = h.0 in
      let size = fits.0.1 in
      let most = leb-true x.0.1 7654321 (must_holds (nat_le x.0.1 7654321) (Limit limits.Body) own.1) in
      let y = chunk_placed.placed q ((x.0.0, length b), b) in
      (((tt, rw (le-leb (length b) 7654321 (omega (arith, le, size, most))) refl), tt), chunks_ruled bs (behind_chunk p x) (behind_chunk q y) xs h.1 fits.1 r.1)

  section_ruled : (bodies : Option (List Chunk)) (start offset : ℕ) (r s : State) (x : Section) → HasBelow bs x → SectionFits features s x → (section features s (id_of x)).rules x
      → (section features (elsewhere bodies start offset s) (id_of x)).rules (section_placed features r (section_with bs x))
  section_ruled bodies start offset r s (CustomSection x) h fits k = λ y e. (tt, tt)
  section_ruled bodies start offset r s (TypeSection x) h fits k =
      λ y e. subst (λ (y : List GroupEntry). EntryRules add_group (group features) (elsewhere bodies start offset s) y) (sym (types_once y ((types_placed features).placed r x) e))
      (groups_ruled features bodies start offset x r s (k x refl))
  section_ruled bodies start offset r s (ImportSection x) h fits k =
      λ y e. entries_ruled bodies start offset add_import (import_entry features) (import_steady bodies start offset) (λ s x r. r) y s (k y e)
  section_ruled bodies start offset r s (FunctionSection x) h fits k = λ y e. entries_ruled bodies start offset add_function function_entry (λ s x. refl) (λ s x r. r) y s (k y e)
  section_ruled bodies start offset r s (TableSection x) h fits k =
      λ y e. entries_ruled bodies start offset add_table (table_entry features) (table_steady bodies start offset) (λ s x r. r) y s (k y e)
  section_ruled bodies start offset r s (MemorySection x) h fits k = λ y e. entries_ruled bodies start offset add_memory memory_entry (λ s x. refl) (λ s x r. r) y s (k y e)
  section_ruled bodies start offset r s (TagSection x) h fits k = λ y e. entries_ruled bodies start offset add_tag tag_entry (λ s x. refl) (λ s x r. r) y s (k y e)
  section_ruled bodies start offset r s (GlobalSection x) h fits k = λ y e. entries_ruled bodies start offset add_global (global_entry features) (λ s x. refl) (λ s x r. r) y s (k y e)
  section_ruled bodies start offset r s (ExportSection x) h fits k = λ y e. entries_ruled bodies start offset add_export export_entry (λ s x. refl) (λ s x r. r) y s (k y e)
  section_ruled bodies start offset r s (StartSection n) h fits k = k
  section_ruled bodies start offset r s (ElementSection x) h fits k = λ y e. entries_ruled bodies start offset add_element (element_entry features) (λ s x. refl) (λ s x r. r) y s (k y e)
  section_ruled bodies start offset r s (DataCountSection n) h fits k = λ y e. tt
  section_ruled bodies start offset r s (CodeSection c) h fits k =
      let new : CodeEntry = (c.0, chunks_with bs c.1) in
      let own = k c refl in
      let codes = fits.0 in
      λ y e. subst (λ (y : CodeEntry). (whole (code (elsewhere bodies start offset s))).rules y) (sym (code_once y ((code_start new, c.0.1), chunks_at new) e))
      (own.0, chunks_ruled bs c.0.0 (code_start new) c.1 h codes.1 own.1)
  section_ruled bodies start offset r s (DataSection x) h fits k =
      λ y e. let own = k y e in (own.0, entries_ruled bodies start offset add_data (data_entry features) (λ s x. refl) (λ s x r. r) y s own.1)

  -- ---- the state behind

  with_elsewhere : (s : State) (end : ℕ) (x : Section) → IsElsewhere features (put s end x) (put s end (section_with bs x))
  with_elsewhere s end (CustomSection x) = refl
  with_elsewhere s end (TypeSection x) = refl
  with_elsewhere s end (ImportSection x) = refl
  with_elsewhere s end (FunctionSection x) = refl
  with_elsewhere s end (TableSection x) = refl
  with_elsewhere s end (MemorySection x) = refl
  with_elsewhere s end (TagSection x) = refl
  with_elsewhere s end (GlobalSection x) = refl
  with_elsewhere s end (ExportSection x) = refl
  with_elsewhere s end (StartSection n) = refl
  with_elsewhere s end (ElementSection x) = refl
  with_elsewhere s end (DataCountSection n) = refl
  with_elsewhere s end (CodeSection c) = refl
  with_elsewhere s end (DataSection x) = refl

  elsewhere_twice : (a b c : State) → IsElsewhere features a b → IsElsewhere features b c → IsElsewhere features a c
  elsewhere_twice a b c e f = f ∙ ap (λ (s : State). elsewhere c.bodies c.code_start c.offset s) e

  step_elsewhere : (s t : State) (x : SectionEntry) → IsElsewhere features s t → IsElsewhere features (next s x) (next t (entry_placed features s t.offset (entry_with bs x)))
  step_elsewhere s t x e =
      let id = x.1.0 in
      let mid = ap (λ (u : State). ends_with id x.0 u) (with_elsewhere s x.0 x.1.1) in
      elsewhere_twice (next s x) (next s (entry_with bs x)) (next t (entry_placed features s t.offset (entry_with bs x))) mid (next_elsewhere features s t (entry_with bs x) e)

  with_id : (x : Section) → id_of (section_with bs x) ≡ id_of x
  with_id (CustomSection x) = refl
  with_id (TypeSection x) = refl
  with_id (ImportSection x) = refl
  with_id (FunctionSection x) = refl
  with_id (TableSection x) = refl
  with_id (MemorySection x) = refl
  with_id (TagSection x) = refl
  with_id (GlobalSection x) = refl
  with_id (ExportSection x) = refl
  with_id (StartSection n) = refl
  with_id (ElementSection x) = refl
  with_id (DataCountSection n) = refl
  with_id (CodeSection c) = refl
  with_id (DataSection x) = refl

  -- ---- the bodies are those of the last section that has any

  pub fold_bodies : {A : Type 0} (add : State → A → State) → ((s : State) (x : A) → (add s x).bodies ≡ s.bodies) → (xs : List A) (s : State) → (fold add s xs).bodies ≡ s.bodies
  fold_bodies add same [] s = refl
  fold_bodies add same (x ∷ xs) s = fold_bodies add same xs (add s x) ∙ same s x

  pub entity_bodies : (s : State) (n : ℕ) (e : Entity) → (add_entity s n e).bodies ≡ s.bodies
  entity_bodies s n (FunctionOf ty) = refl
  entity_bodies s n (TableOf ty) = refl
  entity_bodies s n (MemoryOf ty) = refl
  entity_bodies s n (GlobalOf ty) = refl
  entity_bodies s n (TagOf ty) = refl

  pub table_bodies : (s : State) (x : TableEntry) → (add_table s x).bodies ≡ s.bodies
  table_bodies s (inl x) = refl
  table_bodies s (inr ty) = refl

  late : (s : State) (r : ℕ) → 12 ≤ s.last → r ≤ 12 → must (nat_lt s.last r) SectionOrder ≡ None → ⊥
  late s r le most o = let lt = ltb-true s.last r (must_holds (nat_lt s.last r) SectionOrder o) in omega (arith, le, most, lt)

  -- behind the code section none is there that has bodies
  put_late : (s : State) (end : ℕ) (x : Section) → 12 ≤ s.last → order_test s.last (id_of x) ≡ None → ((put s end x).bodies ≡ s.bodies) × (12 ≤ (ends_with (id_of x) end (put s end x)).last)
  put_late s end (CustomSection x) le o = (refl, le)
  put_late s end (TypeSection x) le o = absurd (late s 1 le (omega arith) o)
  put_late s end (ImportSection x) le o = absurd (late s 2 le (omega arith) o)
  put_late s end (FunctionSection x) le o = absurd (late s 3 le (omega arith) o)
  put_late s end (TableSection x) le o = absurd (late s 4 le (omega arith) o)
  put_late s end (MemorySection x) le o = absurd (late s 5 le (omega arith) o)
  put_late s end (TagSection x) le o = absurd (late s 6 le (omega arith) o)
  put_late s end (GlobalSection x) le o = absurd (late s 7 le (omega arith) o)
  put_late s end (ExportSection x) le o = absurd (late s 8 le (omega arith) o)
  put_late s end (StartSection n) le o = absurd (late s 9 le (omega arith) o)
  put_late s end (ElementSection x) le o = absurd (late s 10 le (omega arith) o)
  put_late s end (DataCountSection n) le o = absurd (late s 11 le (omega arith) o)
  put_late s end (CodeSection c) le o = absurd (late s 12 le (omega arith) o)
  put_late s end (DataSection x) le o = (fold_bodies add_data (λ s x. refl) x s, omega arith)

  sections_late : (xs : List SectionEntry) (s : State) (bytes : List ℕ) → 12 ≤ s.last → SpellsEntries next (section_entry features) s bytes xs → EntryRules next (section_entry features) s xs
      → (fold next s xs).bodies ≡ s.bodies
  sections_late [] s bytes le h r = refl
  sections_late (x ∷ xs) s bytes le h r =
      let parts = (h.3).0 in
      let is = section_id features s x.1.0 parts.1 x.1.1 parts.4 in
      let own = r.0 in let order = own.0 in
      let one = put_late s x.0 x.1.1 le (subst (λ (n : ℕ). order_test s.last n ≡ None) (sym is) order.1) in
      let last = subst (λ (n : ℕ). 12 ≤ (ends_with n x.0 (put s x.0 x.1.1)).last) is one.1 in
      sections_late xs (next s x) h.1 last h.4 r.1 ∙ one.0

  pub has_below : (s : State) (end id : ℕ) (x : Section) (xs : List SectionEntry) (bytes : List ℕ) → id_of x ≡ id → SpellsEntries next (section_entry features) (ends_with id end (put s end x)) bytes xs
      → EntryRules next (section_entry features) (ends_with id end (put s end x)) xs → AreBelow bs (chunks_of (fold next (ends_with id end (put s end x)) xs).bodies) → HasBelow bs x
  has_below s end id (CodeSection c) xs bytes is h r below =
      let last : 12 ≤ (ends_with id end (put s end (CodeSection c))).last = subst (λ (n : ℕ). 12 ≤ (ends_with n end (put s end (CodeSection c))).last) is (omega arith) in
      subst (λ (b : Option (List Chunk)). AreBelow bs (chunks_of b)) (sections_late xs (ends_with id end (put s end (CodeSection c))) bytes last h r) below
  has_below s end id (CustomSection x) xs bytes is h r below = tt
  has_below s end id (TypeSection x) xs bytes is h r below = tt
  has_below s end id (ImportSection x) xs bytes is h r below = tt
  has_below s end id (FunctionSection x) xs bytes is h r below = tt
  has_below s end id (TableSection x) xs bytes is h r below = tt
  has_below s end id (MemorySection x) xs bytes is h r below = tt
  has_below s end id (TagSection x) xs bytes is h r below = tt
  has_below s end id (GlobalSection x) xs bytes is h r below = tt
  has_below s end id (ExportSection x) xs bytes is h r below = tt
  has_below s end id (StartSection n) xs bytes is h r below = tt
  has_below s end id (ElementSection x) xs bytes is h r below = tt
  has_below s end id (DataCountSection n) xs bytes is h r below = tt
  has_below s end id (DataSection x) xs bytes is h r below = tt

  -- ---- all sections

  abbrev pub sections_at : State → State → List SectionEntry → List SectionEntry
  sections_at s t [] = []
  sections_at s t (x ∷ xs) = entry_placed features s t.offset (entry_with bs x) ∷ sections_at (next s x) (next t (entry_placed features s t.offset (entry_with bs x))) xs

  pub record Rewritten (s t : State) (xs : List SectionEntry) : Type 0 where
    pub spelled : SpellsEntries next (section_entry features) t (sections_with features bs s xs) (sections_at s t xs)
    pub ruled : EntryRules next (section_entry features) t (sections_at s t xs)
    pub short : length (sections_with features bs s xs) ≤ length (sections_bytes features s xs)
    pub leaves : IsElsewhere features (fold next s xs) (fold next t (sections_at s t xs))

  entry_rewritten : (s t : State) (bytes : List ℕ) (x : SectionEntry) → IsElsewhere features s t → (section_entry features s).spells bytes x → (section_entry features s).rules x → EntryFits features s x → HasBelow bs x.1.1
      → (section_entry features t).spells (entry_bytes features s (entry_with bs x)) (entry_placed features s t.offset (entry_with bs x))
      × (section_entry features t).rules (entry_placed features s t.offset (entry_with bs x)) × (length (entry_bytes features s (entry_with bs x)) ≤ length (entry_bytes features s x))
  entry_rewritten s t bytes x e h r fits below =
      let own = section_shorter s x.1.1 below fits.2 in
      let new : EntryFits features s (entry_with bs x) = (with_id x.1.1 ∙ fits.0, fits.1, own.0) in
      let spelled = entry_written features s t.bodies t.code_start t.offset (entry_with bs x) new in
      let order = r.0 in
      let rules = subst (λ (n : ℕ). (section features s n).rules x.1.1) (sym fits.0) r.1 in
      let there = subst (λ (n : ℕ). (section features (elsewhere t.bodies t.code_start t.offset s) n).rules (section_placed features s (section_with bs x.1.1))) fits.0
      (section_ruled t.bodies t.code_start t.offset s s x.1.1 below fits.2 rules) in
      let less = own.1 in
      let all : (section_entry features (elsewhere t.bodies t.code_start t.offset s)).rules (entry_placed features s t.offset (entry_with bs x)) = (order, there) in (
        subst (λ (u : State). (section_entry features u).spells (entry_bytes features s (entry_with bs x)) (entry_placed features s t.offset (entry_with bs x))) (sym e) spelled,
        subst (λ (u : State). (section_entry features u).rules (entry_placed features s t.offset (entry_with bs x))) (sym e) all,
        omega (arith, less),
      )

  pub rewritten : (s t : State) (bytes : List ℕ) (xs : List SectionEntry) → IsElsewhere features s t → SpellsEntries next (section_entry features) s bytes xs → EntryRules next (section_entry features) s xs
      → SectionsFit features s xs → AreBelow bs (chunks_of (fold next s xs).bodies) → Rewritten s t xs
  rewritten s t bytes [] e h r fits below = record { spelled = refl; ruled = tt; short = omega arith; leaves = e }
  rewritten s t bytes (x ∷ xs) e h r fits below =
      let parts = (h.3).0 in
      let is = section_id features s x.1.0 parts.1 x.1.1 parts.4 in
      let has = has_below s x.0 x.1.0 x.1.1 xs h.1 is h.4 r.1 below in
      let one = entry_rewritten s t h.0 x e h.3 r.0 fits.0 has in
      let rest = rewritten (next s x) (next t (entry_placed features s t.offset (entry_with bs x))) h.1 xs (step_elsewhere s t x e) h.4 r.1 fits.1 below in record {
        spelled = (entry_bytes features s (entry_with bs x), sections_with features bs (next s x) xs, refl, one.0, rest.spelled);
        ruled = (one.1, rest.ruled);
        short = no_longer (entry_bytes features s (entry_with bs x)) (sections_with features bs (next s x) xs) (entry_bytes features s x) (sections_bytes features (next s x) xs) one.2 rest.short;
        leaves = rest.leaves;
      }
