-- The shortest spelling of a file's sections, with the bytes of its bodies as they are (Core Specification, binary format: modules).
use Rattle.std.specs.Prelude.{ℕ, ◌+◌, ◌<◌, ◌≤◌, ◌≡◌, List, [], ◌∷◌, ◌++◌, length, map, fold, Option, Some, None, refl}
use Rattle.std.proofs.Common.{ap, sym, ◌∙◌, subst, arith}
use Rattle.wasm_features.specs.declared.WasmFeatures.{WasmFeatures}
use Rattle.wasm_formats.specs.Formats.{Format, Small}
use Rattle.wasm_formats.specs.Lists.{SpellsEntries}
use Rattle.wasm_operators.specs.Vecs.{parts_small, parts_short}
use Rattle.wasm_format_bytes.specs.Writers.{Writer, same_length}
use Rattle.wasm_formats.specs.Joined.{built}
use Rattle.wasm_formats.specs.Wholes.{whole, sized}
use Rattle.walrus_forms.specs.Records.{TypeGroup}
use Rattle.wasm_grammar.specs.States.{Chunk, State, nothing_yet}
use Rattle.wasm_sections.specs.TypeSection.{GroupEntry, group, add_group}
use Rattle.wasm_sections.specs.Entities.{add_import, add_function, add_table, add_memory, add_tag, add_global}
use Rattle.wasm_sections.specs.Exports.{add_export}
use Rattle.wasm_sections.specs.Segments.{add_element, add_data}
use Rattle.wasm_sections.specs.Sections.{Section, CustomSection, TypeSection, ImportSection, FunctionSection, TableSection, MemorySection, TagSection, GlobalSection, ExportSection, StartSection, ElementSection, DataCountSection, CodeSection, DataSection, id_of, custom_once, types_once, imports_once, functions_once, tables_once, memories_once, tags_once, globals_once, exports_once, start_once, elements_once, count_once, code_once, data_once, ChunkEntry, chunk_entry, chunk_of, behind_chunk, code, list_of, section, SectionEntry, section_entry, put, ends_with, next}
use Rattle.wasm_sections.specs.Ids.{section_id}
use Rattle.wasm_sections.specs.Modules.{magic, FileEntry, state_of, file}
use Rattle.wasm_section_bytes.specs.Placed.{list_placed, group_at, types_placed, chunk_placed, code_start, code_section_placed}
use Rattle.wasm_section_bytes.specs.Sections.{custom_writer, imports_writer, functions_writer, tables_writer, memories_writer, tags_writer, globals_writer, exports_writer, start_section_writer, elements_writer, data_count_writer, data_section_writer}
use Rattle.wasm_section_bytes.specs.Elsewhere.{elsewhere, section_elsewhere, fold_elsewhere, import_steady, table_steady, group_the_same}

-- ---- helpers

abbrev with_group : State → TypeGroup → State
with_group s g = record s { filled = record s.filled { groups = s.filled.groups ++ g ∷ [] } }

-- what is built of a value is built of no other
told : {A : Type 0} (f : Format A) (into : A → Section) (once : (x y : A) → into x ≡ into y → x ≡ y) (others : List ℕ) (x : A) → (built f into once).spells others (into x) → f.spells others x
told f into once others x h = subst (λ z. f.spells others z) (once h.0 x h.1) h.2

short_once : {A : Type 0} {f : Format A} (w : Writer f) (into : A → Section) (once : (x y : A) → into x ≡ into y → x ≡ y) (others : List ℕ) (x : A) → Small others
    → (built f into once).spells others (into x) → w.fits x × (length (w.bytes x) ≤ length others)
short_once {A} {f} w into once others x small h = w.short others x small (told f into once others x h)

-- a state that has the other's places
still : (bodies : Option (List Chunk)) (start offset : ℕ) (s t : State) → t ≡ elsewhere bodies start offset s → t ≡ elsewhere t.bodies t.code_start t.offset s
still bodies start offset s t e = subst (λ (u : State). u ≡ elsewhere u.bodies u.code_start u.offset s) (sym e) refl

-- ---- the bytes of the bodies

abbrev pub bodies_of : Option (List Chunk) → Option (List (List ℕ))
bodies_of None = None
bodies_of (Some chunks) = Some (map (λ (c : Chunk). c.bytes) chunks)

-- adding leaves the bodies alone
kept : {A : Type 0} (add : State → A → State) → ((bodies : Option (List Chunk)) (start offset : ℕ) (s : State) (x : A) → add (elsewhere bodies start offset s) x ≡ elsewhere bodies start offset (add s x))
    → (s : State) (xs : List A) → (fold add s xs).bodies ≡ s.bodies
kept add steady s xs = ap (λ (t : State). t.bodies) (fold_elsewhere s.bodies s.code_start s.offset add (steady s.bodies s.code_start s.offset) s xs)

chunks_same : (one two : ℕ) (xs : List ChunkEntry) → map (λ (c : Chunk). c.bytes) (map chunk_of (list_placed behind_chunk chunk_entry chunk_placed one xs)) ≡ map (λ (c : Chunk). c.bytes) (map chunk_of xs)
chunks_same one two [] = refl
chunks_same one two (x ∷ xs) = ap (λ (l : List (List ℕ)). x.1 ∷ l) (chunks_same (behind_chunk one (chunk_placed.placed one x)) two xs)

-- ---- the contents of a section with their size, at the state before it

module _ (features : WasmFeatures) where
  -- within the limits
  abbrev pub SectionFits : State → Section → Type 0
  SectionFits s (CustomSection x) = custom_writer.fits x
  SectionFits s (TypeSection x) = (types_placed features).fits x
  SectionFits s (ImportSection x) = (imports_writer features s).fits x
  SectionFits s (FunctionSection x) = (functions_writer s).fits x
  SectionFits s (TableSection x) = (tables_writer features s).fits x
  SectionFits s (MemorySection x) = (memories_writer s).fits x
  SectionFits s (TagSection x) = (tags_writer s).fits x
  SectionFits s (GlobalSection x) = (globals_writer features s).fits x
  SectionFits s (ExportSection x) = (exports_writer s).fits x
  SectionFits s (StartSection x) = (start_section_writer s).fits x
  SectionFits s (ElementSection x) = (elements_writer features s).fits x
  SectionFits s (DataCountSection x) = data_count_writer.fits x
  SectionFits s (CodeSection x) = code_section_placed.fits x
  SectionFits s (DataSection x) = (data_section_writer features s).fits x

  abbrev pub section_bytes : State → Section → List ℕ
  section_bytes s (CustomSection x) = custom_writer.bytes x
  section_bytes s (TypeSection x) = (types_placed features).bytes x
  section_bytes s (ImportSection x) = (imports_writer features s).bytes x
  section_bytes s (FunctionSection x) = (functions_writer s).bytes x
  section_bytes s (TableSection x) = (tables_writer features s).bytes x
  section_bytes s (MemorySection x) = (memories_writer s).bytes x
  section_bytes s (TagSection x) = (tags_writer s).bytes x
  section_bytes s (GlobalSection x) = (globals_writer features s).bytes x
  section_bytes s (ExportSection x) = (exports_writer s).bytes x
  section_bytes s (StartSection x) = (start_section_writer s).bytes x
  section_bytes s (ElementSection x) = (elements_writer features s).bytes x
  section_bytes s (DataCountSection x) = data_count_writer.bytes x
  section_bytes s (CodeSection x) = code_section_placed.bytes x
  section_bytes s (DataSection x) = (data_section_writer features s).bytes x

  -- with the places of that spelling
  abbrev pub section_placed : State → Section → Section
  section_placed s (TypeSection x) = TypeSection ((types_placed features).placed s x)
  section_placed s (CodeSection x) = CodeSection (code_section_placed.placed s x)
  section_placed s x = x

  pub section_written : (s : State) (x : Section) → SectionFits s x → (section features s (id_of x)).spells (section_bytes s x) (section_placed s x)
  section_written s (CustomSection x) h = (x, refl, custom_writer.written x h)
  section_written s (TypeSection x) h = ((types_placed features).placed s x, refl, (types_placed features).written s x h)
  section_written s (ImportSection x) h = (x, refl, (imports_writer features s).written x h)
  section_written s (FunctionSection x) h = (x, refl, (functions_writer s).written x h)
  section_written s (TableSection x) h = (x, refl, (tables_writer features s).written x h)
  section_written s (MemorySection x) h = (x, refl, (memories_writer s).written x h)
  section_written s (TagSection x) h = (x, refl, (tags_writer s).written x h)
  section_written s (GlobalSection x) h = (x, refl, (globals_writer features s).written x h)
  section_written s (ExportSection x) h = (x, refl, (exports_writer s).written x h)
  section_written s (StartSection x) h = (x, refl, (start_section_writer s).written x h)
  section_written s (ElementSection x) h = (x, refl, (elements_writer features s).written x h)
  section_written s (DataCountSection x) h = (x, refl, data_count_writer.written x h)
  section_written s (CodeSection x) h = (code_section_placed.placed s x, refl, code_section_placed.written s x h)
  section_written s (DataSection x) h = (x, refl, (data_section_writer features s).written x h)

  pub own_short : (s : State) (others : List ℕ) (x : Section) → Small others → (section features s (id_of x)).spells others x → SectionFits s x × (length (section_bytes s x) ≤ length others)
  own_short s others (CustomSection x) small h = short_once custom_writer CustomSection custom_once others x small h
  own_short s others (TypeSection x) small h = (types_placed features).short s others x small (told (list_of add_group (group features) s) TypeSection types_once others x h)
  own_short s others (ImportSection x) small h = short_once (imports_writer features s) ImportSection imports_once others x small h
  own_short s others (FunctionSection x) small h = short_once (functions_writer s) FunctionSection functions_once others x small h
  own_short s others (TableSection x) small h = short_once (tables_writer features s) TableSection tables_once others x small h
  own_short s others (MemorySection x) small h = short_once (memories_writer s) MemorySection memories_once others x small h
  own_short s others (TagSection x) small h = short_once (tags_writer s) TagSection tags_once others x small h
  own_short s others (GlobalSection x) small h = short_once (globals_writer features s) GlobalSection globals_once others x small h
  own_short s others (ExportSection x) small h = short_once (exports_writer s) ExportSection exports_once others x small h
  own_short s others (StartSection x) small h = short_once (start_section_writer s) StartSection start_once others x small h
  own_short s others (ElementSection x) small h = short_once (elements_writer features s) ElementSection elements_once others x small h
  own_short s others (DataCountSection x) small h = short_once data_count_writer DataCountSection count_once others x small h
  own_short s others (CodeSection x) small h = code_section_placed.short s others x small (told (sized (whole (code s))) CodeSection code_once others x h)
  own_short s others (DataSection x) small h = short_once (data_section_writer features s) DataSection data_once others x small h

  pub section_short : (s : State) (id : ℕ) (others : List ℕ) (x : Section) → Small others → (section features s id).spells others x → SectionFits s x × (length (section_bytes s x) ≤ length others)
  section_short s id others x small h = own_short s others x small (subst (λ (n : ℕ). (section features s n).spells others x) (sym (section_id features s id others x h)) h)

  -- ---- a section with its id

  abbrev pub entry_bytes : State → SectionEntry → List ℕ
  entry_bytes s x = (x.1.0 ∷ []) ++ section_bytes s x.1.1

  -- an id is that of its section
  abbrev pub EntryFits : State → SectionEntry → Type 0
  EntryFits s x = (id_of x.1.1 ≡ x.1.0) × (x.1.0 < 256) × SectionFits s x.1.1

  -- where its bytes begin at this offset
  abbrev pub entry_placed : State → ℕ → SectionEntry → SectionEntry
  entry_placed s offset x = (offset + length (entry_bytes s x), (x.1.0, section_placed s x.1.1))

  pub entry_short : (s : State) (others : List ℕ) (x : SectionEntry) → Small others → (section_entry features s).spells others x → EntryFits s x × (length (entry_bytes s x) ≤ length others)
  entry_short s others x small h =
      let both = h.0 in
      let parts = parts_small others both.0 both.1 both.2 small in
      let own = section_short s x.1.0 both.1 x.1.1 parts.1 both.4 in
      let id = section_id features s x.1.0 both.1 x.1.1 both.4 in
      ((id, both.3.1, own.0), parts_short others both.0 both.1 (x.1.0 ∷ []) (section_bytes s x.1.1) both.2 (same_length both.0 (x.1.0 ∷ []) both.3.0) own.1)

  pub entry_written : (s : State) (bodies : Option (List Chunk)) (start offset : ℕ) (x : SectionEntry) → EntryFits s x
      → (section_entry features (elsewhere bodies start offset s)).spells (entry_bytes s x) (entry_placed s offset x)
  entry_written s bodies start offset x h =
      let own = section_written s x.1.1 h.2 in
      let named = subst (λ (n : ℕ). (section features s n).spells (section_bytes s x.1.1) (section_placed s x.1.1)) h.0 own in
      ((x.1.0 ∷ [], section_bytes s x.1.1, refl, (refl, h.1), section_elsewhere bodies start offset features s x.1.0 (section_bytes s x.1.1) (section_placed s x.1.1) named), refl)

  -- ---- the state behind it: but for places the same

  -- the other state has other places
  abbrev pub IsElsewhere : State → State → Type 0
  IsElsewhere s t = t ≡ elsewhere t.bodies t.code_start t.offset s

  -- groups with other places
  types_elsewhere : (r : State) (bodies : Option (List Chunk)) (start offset : ℕ) (s : State) (xs : List GroupEntry)
      → fold add_group (elsewhere bodies start offset s) ((types_placed features).placed r xs) ≡ elsewhere bodies start offset (fold add_group s xs)
  types_elsewhere r bodies start offset s [] = refl
  types_elsewhere r bodies start offset s (x ∷ xs) =
      ap (λ (g : TypeGroup). fold add_group (with_group (elsewhere bodies start offset s) g) ((types_placed features).placed (add_group r (group_at features x)) xs)) (group_the_same features x)
      ∙ types_elsewhere (add_group r (group_at features x)) bodies start offset (add_group s x) xs

  pub put_elsewhere : (s : State) (bodies : Option (List Chunk)) (start offset end last : ℕ) (x : Section)
      → IsElsewhere (put s last x) (put (elsewhere bodies start offset s) end (section_placed s x))
  put_elsewhere s bodies start offset end last (CustomSection x) = refl
  put_elsewhere s bodies start offset end last (TypeSection x) = still bodies start offset (fold add_group s x) (fold add_group (elsewhere bodies start offset s) ((types_placed features).placed s x)) (types_elsewhere s bodies start offset s x)
  put_elsewhere s bodies start offset end last (ImportSection x) = still bodies start offset (fold add_import s x) (fold add_import (elsewhere bodies start offset s) x) (fold_elsewhere bodies start offset add_import (import_steady bodies start offset) s x)
  put_elsewhere s bodies start offset end last (FunctionSection x) = still bodies start offset (fold add_function s x) (fold add_function (elsewhere bodies start offset s) x) (fold_elsewhere bodies start offset add_function (λ s x. refl) s x)
  put_elsewhere s bodies start offset end last (TableSection x) = still bodies start offset (fold add_table s x) (fold add_table (elsewhere bodies start offset s) x) (fold_elsewhere bodies start offset add_table (table_steady bodies start offset) s x)
  put_elsewhere s bodies start offset end last (MemorySection x) = still bodies start offset (fold add_memory s x) (fold add_memory (elsewhere bodies start offset s) x) (fold_elsewhere bodies start offset add_memory (λ s x. refl) s x)
  put_elsewhere s bodies start offset end last (TagSection x) = still bodies start offset (fold add_tag s x) (fold add_tag (elsewhere bodies start offset s) x) (fold_elsewhere bodies start offset add_tag (λ s x. refl) s x)
  put_elsewhere s bodies start offset end last (GlobalSection x) = still bodies start offset (fold add_global s x) (fold add_global (elsewhere bodies start offset s) x) (fold_elsewhere bodies start offset add_global (λ s x. refl) s x)
  put_elsewhere s bodies start offset end last (ExportSection x) = still bodies start offset (fold add_export s x) (fold add_export (elsewhere bodies start offset s) x) (fold_elsewhere bodies start offset add_export (λ s x. refl) s x)
  put_elsewhere s bodies start offset end last (StartSection x) = refl
  put_elsewhere s bodies start offset end last (ElementSection x) = still bodies start offset (fold add_element s x) (fold add_element (elsewhere bodies start offset s) x) (fold_elsewhere bodies start offset add_element (λ s x. refl) s x)
  put_elsewhere s bodies start offset end last (DataCountSection x) = refl
  put_elsewhere s bodies start offset end last (CodeSection x) = refl
  put_elsewhere s bodies start offset end last (DataSection x) = still bodies start offset (fold add_data s x) (fold add_data (elsewhere bodies start offset s) x) (fold_elsewhere bodies start offset add_data (λ s x. refl) s x)

  pub put_bodies : (r s t : State) (end last : ℕ) (x : Section) → bodies_of t.bodies ≡ bodies_of s.bodies → bodies_of (put t end (section_placed r x)).bodies ≡ bodies_of (put s last x).bodies
  put_bodies r s t end last (CustomSection x) e = e
  put_bodies r s t end last (TypeSection x) e = ap bodies_of (kept add_group (λ b c o s x. refl) t ((types_placed features).placed r x)) ∙ e ∙ ap bodies_of (sym (kept add_group (λ b c o s x. refl) s x))
  put_bodies r s t end last (ImportSection x) e = ap bodies_of (kept add_import (import_steady) t x) ∙ e ∙ ap bodies_of (sym (kept add_import (import_steady) s x))
  put_bodies r s t end last (FunctionSection x) e = ap bodies_of (kept add_function (λ b c o s x. refl) t x) ∙ e ∙ ap bodies_of (sym (kept add_function (λ b c o s x. refl) s x))
  put_bodies r s t end last (TableSection x) e = ap bodies_of (kept add_table (table_steady) t x) ∙ e ∙ ap bodies_of (sym (kept add_table (table_steady) s x))
  put_bodies r s t end last (MemorySection x) e = ap bodies_of (kept add_memory (λ b c o s x. refl) t x) ∙ e ∙ ap bodies_of (sym (kept add_memory (λ b c o s x. refl) s x))
  put_bodies r s t end last (TagSection x) e = ap bodies_of (kept add_tag (λ b c o s x. refl) t x) ∙ e ∙ ap bodies_of (sym (kept add_tag (λ b c o s x. refl) s x))
  put_bodies r s t end last (GlobalSection x) e = ap bodies_of (kept add_global (λ b c o s x. refl) t x) ∙ e ∙ ap bodies_of (sym (kept add_global (λ b c o s x. refl) s x))
  put_bodies r s t end last (ExportSection x) e = ap bodies_of (kept add_export (λ b c o s x. refl) t x) ∙ e ∙ ap bodies_of (sym (kept add_export (λ b c o s x. refl) s x))
  put_bodies r s t end last (StartSection x) e = e
  put_bodies r s t end last (ElementSection x) e = ap bodies_of (kept add_element (λ b c o s x. refl) t x) ∙ e ∙ ap bodies_of (sym (kept add_element (λ b c o s x. refl) s x))
  put_bodies r s t end last (DataCountSection x) e = e
  put_bodies r s t end last (CodeSection x) e = ap (λ (l : List (List ℕ)). Some l) (chunks_same (code_start x) 0 x.1)
  put_bodies r s t end last (DataSection x) e = ap bodies_of (kept add_data (λ b c o s x. refl) t x) ∙ e ∙ ap bodies_of (sym (kept add_data (λ b c o s x. refl) s x))

  -- ---- the sections of a file, each at the state that those before it left

  abbrev pub SectionsFit : State → List SectionEntry → Type 0
  SectionsFit s [] = Unit {0}
  SectionsFit s (x ∷ xs) = EntryFits s x × SectionsFit (next s x) xs

  abbrev pub sections_bytes : State → List SectionEntry → List ℕ
  sections_bytes s [] = []
  sections_bytes s (x ∷ xs) = entry_bytes s x ++ sections_bytes (next s x) xs

  abbrev pub sections_placed : State → State → List SectionEntry → List SectionEntry
  sections_placed s t [] = []
  sections_placed s t (x ∷ xs) = entry_placed s t.offset x ∷ sections_placed (next s x) (next t (entry_placed s t.offset x)) xs

  pub next_elsewhere : (s t : State) (x : SectionEntry) → IsElsewhere s t → IsElsewhere (next s x) (next t (entry_placed s t.offset x))
  next_elsewhere s t x e =
      let put_is = put_elsewhere s t.bodies t.code_start t.offset (t.offset + length (entry_bytes s x)) x.0 x.1.1 in
      let F : State → Type 0 = λ u. IsElsewhere (put s x.0 x.1.1) (put u (t.offset + length (entry_bytes s x)) (section_placed s x.1.1)) in
      ended x.1.0 (t.offset + length (entry_bytes s x)) x.0 (put s x.0 x.1.1) (put t (t.offset + length (entry_bytes s x)) (section_placed s x.1.1)) (subst F (sym e) put_is) (ap (λ (u : State). u.last) e)
    where
      ended : (id end old : ℕ) (u v : State) → IsElsewhere u v → t.last ≡ s.last → IsElsewhere (ends_with id old u) (ends_with id end v)
      ended id end old u v f l = ap (λ (w : State). ends_with id end w) f

  pub sections_written : (s t : State) (xs : List SectionEntry) → IsElsewhere s t → SectionsFit s xs → SpellsEntries next (section_entry features) t (sections_bytes s xs) (sections_placed s t xs)
  sections_written s t [] e h = refl
  sections_written s t (x ∷ xs) e h =
      let F : State → Type 0 = λ u. (section_entry features u).spells (entry_bytes s x) (entry_placed s t.offset x) in
      let one = subst F (sym e) (entry_written s t.bodies t.code_start t.offset x h.0) in
      let later = sections_written (next s x) (next t (entry_placed s t.offset x)) xs (next_elsewhere s t x e) h.1 in
      (entry_bytes s x, sections_bytes (next s x) xs, refl, one, later)

  pub sections_short : (s : State) (others : List ℕ) (xs : List SectionEntry) → Small others → SpellsEntries next (section_entry features) s others xs
      → SectionsFit s xs × (length (sections_bytes s xs) ≤ length others)
  sections_short s others [] small h = (tt, omega arith)
  sections_short s others (x ∷ xs) small h =
      let parts = parts_small others h.0 h.1 h.2 small in
      let one = entry_short s h.0 x parts.0 h.3 in
      let later = sections_short (next s x) h.1 xs parts.1 h.4 in
      ((one.0, later.0), parts_short others h.0 h.1 (entry_bytes s x) (sections_bytes (next s x) xs) h.2 one.1 later.1)

  -- the state that they leave
  pub fold_placed : (s t : State) (xs : List SectionEntry) → IsElsewhere s t → IsElsewhere (fold next s xs) (fold next t (sections_placed s t xs))
  fold_placed s t [] e = e
  fold_placed s t (x ∷ xs) e = fold_placed (next s x) (next t (entry_placed s t.offset x)) xs (next_elsewhere s t x e)

  -- ---- files

  abbrev pub FileFits : FileEntry → Type 0
  FileFits x = SectionsFit nothing_yet x.1

  abbrev pub file_bytes : FileEntry → List ℕ
  file_bytes x = magic ++ sections_bytes nothing_yet x.1

  abbrev pub file_placed : FileEntry → FileEntry
  file_placed x = (x.0, sections_placed nothing_yet nothing_yet x.1)

  pub file_written : (x : FileEntry) → FileFits x → (file features).spells (file_bytes x) (file_placed x)
  file_written x h = (magic, sections_bytes nothing_yet x.1, refl, refl, sections_written nothing_yet nothing_yet x.1 refl h)

  pub file_short : (others : List ℕ) (x : FileEntry) → Small others → (file features).spells others x → FileFits x × (length (file_bytes x) ≤ length others)
  file_short others x small h =
      let parts = parts_small others h.0 h.1 h.2 small in
      let own = sections_short nothing_yet h.1 x.1 parts.1 h.4 in
      (own.0, parts_short others h.0 h.1 magic (sections_bytes nothing_yet x.1) h.2 (same_length h.0 magic h.3) own.1)

  -- the bodies are the same
  bodies_same : (s t : State) (xs : List SectionEntry) → bodies_of t.bodies ≡ bodies_of s.bodies → bodies_of (fold next t (sections_placed s t xs)).bodies ≡ bodies_of (fold next s xs).bodies
  bodies_same s t [] e = e
  bodies_same s t (x ∷ xs) e = bodies_same (next s x) (next t (entry_placed s t.offset x)) xs (put_bodies s s t (t.offset + length (entry_bytes s x)) x.0 x.1.1 e)

  pub file_same : (x : FileEntry) → (state_of (file_placed x)).filled ≡ (state_of x).filled
  file_same x = ap (λ (s : State). s.filled) (fold_placed nothing_yet nothing_yet x.1 refl)

  pub file_bodies : (x : FileEntry) → bodies_of (state_of (file_placed x)).bodies ≡ bodies_of (state_of x).bodies
  file_bodies x = bodies_same nothing_yet nothing_yet x.1 refl
