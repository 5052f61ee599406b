-- Lemmas: the bodies of a file with other bodies are these.
use Rattle.std.specs.Prelude.{ℕ, ◌≡◌, List, [], ◌∷◌, length, map, fold, Option, Some, None, ◌⊎◌, refl}
use Rattle.std.proofs.Common.{ap, ◌∙◌, inl, inr}
use Rattle.wasm_features.specs.declared.WasmFeatures.{WasmFeatures}
use Rattle.wasm_grammar.specs.States.{Chunk, State}
use Rattle.wasm_sections.specs.TypeSection.{add_group}
use Rattle.wasm_sections.specs.Entities.{ImportEntry, add_import, import_of, with_import, add_function, add_table, add_memory, add_tag, add_global}
use Rattle.wasm_sections.specs.Exports.{add_export}
use Rattle.wasm_sections.specs.Segments.{add_element, add_data}
use Rattle.wasm_sections.specs.Sections.{ChunkEntry, chunk_entry, behind_chunk, chunk_of, CodeEntry, Section, CustomSection, TypeSection, ImportSection, FunctionSection, TableSection, MemorySection, TagSection, GlobalSection, ExportSection, StartSection, ElementSection, DataCountSection, CodeSection, DataSection, SectionEntry, section_entry, put, next}
use Rattle.wasm_sections.specs.Modules.{has_bodies}
use Rattle.wasm_formats.specs.Lists.{SpellsEntries, EntryRules}
use Rattle.wasm_section_bytes.specs.Placed.{list_placed, chunk_placed, code_start, types_placed}
use Rattle.wasm_section_bytes.specs.Elsewhere.{elsewhere}
use Rattle.wasm_section_bytes.specs.Files.{section_placed, entry_placed}
use Rattle.wasm_sections.specs.Ids.{section_id}
use Rattle.wasm_module_rules.specs.wasm_modules.Modules.{chunks_of}
use Rattle.wasm_module_bytes.specs.Bytes.{chunks_with, section_with, entry_with}
use Rattle.wasm_module_bytes.proofs.Sections.{AreBelow, HasBelow, has_below, fold_bodies, entity_bodies, table_bodies, sections_at}
use Rattle.wasm_module_bytes.proofs.Bodies.{bytes_of}

-- neither has bodies, or the one has some and the other has these
abbrev pub Beside : List (List ℕ) → Option (List Chunk) → Option (List Chunk) → Type 0
Beside bs old new = ((old ≡ None) × (new ≡ None)) ⊎ ((cs ds : List Chunk) × (old ≡ Some cs) × (new ≡ Some ds) × (bytes_of ds ≡ bs))

placed_bytes : (bs : List (List ℕ)) (p : ℕ) (xs : List ChunkEntry) → AreBelow bs (map chunk_of xs) → bytes_of (map chunk_of (list_placed behind_chunk chunk_entry chunk_placed p (chunks_with bs xs))) ≡ bs
placed_bytes [] p [] h = refl
placed_bytes [] p (x ∷ xs) h = absurd h
placed_bytes (b ∷ bs) p [] h = absurd h
placed_bytes (b ∷ bs) p (x ∷ xs) h =
    ap (λ (l : List (List ℕ)). b ∷ l) (placed_bytes bs (behind_chunk p (chunk_placed.placed p ((x.0.0, length b), b))) xs h.1)

beside_moved : (bs : List (List ℕ)) (a b c d : Option (List Chunk)) → c ≡ a → d ≡ b → Beside bs a b → Beside bs c d
beside_moved bs a b c d e f (inl h) = inl (e ∙ h.0, f ∙ h.1)
beside_moved bs a b c d e f (inr h) = inr (h.0, h.1, e ∙ h.2, f ∙ h.3, h.4)

module _ (features : WasmFeatures) (bs : List (List ℕ)) where
  put_beside : (r s t : State) (end last : ℕ) (x : Section) → HasBelow bs x → Beside bs s.bodies t.bodies → Beside bs (put s end x).bodies (put t last (section_placed features r (section_with bs x))).bodies
  put_beside r s t end last (CustomSection x) h k = k
  put_beside r s t end last (TypeSection x) h k =
      beside_moved bs s.bodies t.bodies _ _ (fold_bodies features bs add_group (λ s x. refl) x s) (fold_bodies features bs add_group (λ s x. refl) ((types_placed features).placed r x) t) k
  put_beside r s t end last (ImportSection x) h k =
      let one = λ (s : State) (x : ImportEntry). entity_bodies features bs (with_import s (import_of s x)) (length s.filled.imports) x.1.1.1 in
      beside_moved bs s.bodies t.bodies _ _ (fold_bodies features bs add_import one x s) (fold_bodies features bs add_import one x t) k
  put_beside r s t end last (FunctionSection x) h k =
      beside_moved bs s.bodies t.bodies _ _ (fold_bodies features bs add_function (λ s x. refl) x s) (fold_bodies features bs add_function (λ s x. refl) x t) k
  put_beside r s t end last (TableSection x) h k =
      beside_moved bs s.bodies t.bodies _ _ (fold_bodies features bs add_table (table_bodies features bs) x s) (fold_bodies features bs add_table (table_bodies features bs) x t) k
  put_beside r s t end last (MemorySection x) h k =
      beside_moved bs s.bodies t.bodies _ _ (fold_bodies features bs add_memory (λ s x. refl) x s) (fold_bodies features bs add_memory (λ s x. refl) x t) k
  put_beside r s t end last (TagSection x) h k =
      beside_moved bs s.bodies t.bodies _ _ (fold_bodies features bs add_tag (λ s x. refl) x s) (fold_bodies features bs add_tag (λ s x. refl) x t) k
  put_beside r s t end last (GlobalSection x) h k =
      beside_moved bs s.bodies t.bodies _ _ (fold_bodies features bs add_global (λ s x. refl) x s) (fold_bodies features bs add_global (λ s x. refl) x t) k
  put_beside r s t end last (ExportSection x) h k =
      beside_moved bs s.bodies t.bodies _ _ (fold_bodies features bs add_export (λ s x. refl) x s) (fold_bodies features bs add_export (λ s x. refl) x t) k
  put_beside r s t end last (StartSection n) h k = k
  put_beside r s t end last (ElementSection x) h k =
      beside_moved bs s.bodies t.bodies _ _ (fold_bodies features bs add_element (λ s x. refl) x s) (fold_bodies features bs add_element (λ s x. refl) x t) k
  put_beside r s t end last (DataCountSection n) h k = k
  put_beside r s t end last (CodeSection c) h k =
      let new : CodeEntry = (c.0, chunks_with bs c.1) in
      inr (map chunk_of c.1, map chunk_of (list_placed behind_chunk chunk_entry chunk_placed (code_start new) (chunks_with bs c.1)), refl, refl, placed_bytes bs (code_start new) c.1 h)
  put_beside r s t end last (DataSection x) h k =
      beside_moved bs s.bodies t.bodies _ _ (fold_bodies features bs add_data (λ s x. refl) x s) (fold_bodies features bs add_data (λ s x. refl) x t) k

  pub sections_beside : (s t : State) (bytes : List ℕ) (xs : List SectionEntry) → SpellsEntries next (section_entry features) s bytes xs → EntryRules next (section_entry features) s xs
      → AreBelow bs (chunks_of (fold next s xs).bodies) → Beside bs s.bodies t.bodies → Beside bs (fold next s xs).bodies (fold next t (sections_at features bs s t xs)).bodies
  sections_beside s t bytes [] h r below k = k
  sections_beside s t bytes (x ∷ xs) h r below k =
      let parts = (h.3).0 in
      let is = section_id features s x.1.0 parts.1 x.1.1 parts.4 in
      let has = has_below features bs s x.0 x.1.0 x.1.1 xs h.1 is h.4 r.1 below in
      let y = entry_placed features s t.offset (entry_with bs x) in
      sections_beside (next s x) (next t y) h.1 xs h.4 r.1 below (put_beside s s t x.0 y.0 x.1.1 has k)

pub bodies_there : (bs : List (List ℕ)) (s : State) (bodies : Option (List Chunk)) (start offset : ℕ) → Beside bs s.bodies bodies → has_bodies (elsewhere bodies start offset s) ≡ has_bodies s
bodies_there bs s bodies start offset (inl h) = rw (h.0, h.1) refl
bodies_there bs s bodies start offset (inr h) = rw (h.2, h.3) refl
