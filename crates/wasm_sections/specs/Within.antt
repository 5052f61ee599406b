-- Lemmas: the bodies that sections leave are bytes of the file.
use Rattle.std.specs.Prelude.{ℕ, ◌+◌, ◌-◌, ◌≤◌, ◌≡◌, List, [], ◌∷◌, ◌++◌, length, map, fold, Option, Some, None, refl}
use Rattle.std.proofs.Common.{ap, sym, ◌∙◌, subst, arith, inl, inr}
use Rattle.std.proofs.lemmas.List.{length-append}
use Rattle.wasm_features.specs.declared.WasmFeatures.{WasmFeatures}
use Rattle.wasm_types.specs.wasm_composite_types.wasm_reader.Vecs.{later_bytes}
use Rattle.wasm_grammar.specs.wasm_formats.Formats.{Small, front_small}
use Rattle.wasm_grammar.specs.wasm_formats.Lists.{SpellsEntries}
use Rattle.wasm_grammar.specs.wasm_formats.Wholes.{whole, sized}
use Rattle.wasm_grammar.specs.States.{Chunk, State, nothing_yet}
use Rattle.wasm_sections.specs.TypeSection.{add_group}
use Rattle.wasm_sections.specs.Entities.{Entity, FunctionOf, TableOf, MemoryOf, GlobalOf, TagOf, add_entity, add_import, add_function, TableEntry, add_table, add_memory, add_tag, add_global, with_import, import_of}
use Rattle.wasm_sections.specs.Exports.{add_export}
use Rattle.wasm_sections.specs.Segments.{add_element, add_data}
use Rattle.wasm_sections.specs.Sections.{ChunkEntry, chunk_entry, behind_chunk, CodeEntry, code, chunk_of, code_size, Section, CustomSection, TypeSection, ImportSection, FunctionSection, TableSection, MemorySection, TagSection, GlobalSection, ExportSection, StartSection, ElementSection, DataCountSection, CodeSection, DataSection, code_once, section, SectionEntry, section_entry, put, next}
use Rattle.wasm_sections.specs.Ids.{section_id}
use Rattle.wasm_sections.specs.Modules.{state_of}
use Rattle.wasm_sections.specs.Laws.{ReadsSections}

-- bodies whose places count from `start`, and which end at `end` at the latest
abbrev pub ChunksFit : ℕ → ℕ → List Chunk → Type 0
ChunksFit start end [] = Unit {0}
ChunksFit start end (c ∷ chunks) = (Small c.bytes × (start + (c.place + length c.bytes) ≤ end)) × ChunksFit start end chunks

abbrev pub BodiesFit : ℕ → ℕ → Option (List Chunk) → Type 0
BodiesFit start end None = Unit {0}
BodiesFit start end (Some chunks) = ChunksFit start end chunks

chunks_later : (start end more : ℕ) (chunks : List Chunk) → end ≤ more → ChunksFit start end chunks → ChunksFit start more chunks
chunks_later start end more [] le h = tt
chunks_later start end more (c ∷ chunks) le h = ((h.0.0, omega (arith, le, h.0.1)), chunks_later start end more chunks le h.1)

bodies_later : (start end more : ℕ) (bodies : Option (List Chunk)) → end ≤ more → BodiesFit start end bodies → BodiesFit start more bodies
bodies_later start end more None le h = tt
bodies_later start end more (Some chunks) le h = chunks_later start end more chunks le h

-- ---- the chunks of a code section

joined_size : (bytes front later : List ℕ) → bytes ≡ front ++ later → length bytes ≡ length front + length later
joined_size bytes front later e = ap length e ∙ length-append front later

chunk_fits : (start end place : ℕ) (bytes : List ℕ) (x : ChunkEntry) → (chunk_entry place).spells bytes x → Small bytes → start + (place + length bytes) ≤ end
    → (Small x.1 × (start + (x.0.0 + length x.1) ≤ end)) × (behind_chunk place x ≡ place + length bytes)
chunk_fits start end place bytes x h small le =
    let size = joined_size bytes h.0 h.1 h.2 in
    let begins : x.0.0 ≡ place + length h.0 = h.3.1 in
    let run = h.4 in
    let inner : Small h.1 = later_bytes h.0 h.1 (subst Small h.2 small) in
    let long : length x.1 ≡ x.0.1 = ap length run.1 ∙ run.0 in
    let counted : length h.1 ≡ x.0.1 = run.0 in
    ((subst Small (sym run.1) inner, omega (arith, size, begins, long, counted, le)), omega (arith, size, begins, counted))

chunks_fit : (start end place : ℕ) (xs : List ChunkEntry) (bytes : List ℕ) → SpellsEntries behind_chunk chunk_entry place bytes xs → Small bytes → start + (place + length bytes) ≤ end
    → ChunksFit start end (map chunk_of xs) × (fold behind_chunk place xs ≡ place + length bytes)
chunks_fit start end place [] bytes h small le = (tt, omega (arith, ap length h))
chunks_fit start end place (x ∷ xs) bytes h small le =
    let size = joined_size bytes h.0 h.1 h.2 in
    let all = subst Small h.2 small in
    let first = chunk_fits start end place h.0 x h.3 (front_small h.0 h.1 all) (omega (arith, le, size)) in
    let behind : behind_chunk place x ≡ place + length h.0 = first.1 in
    let rest = chunks_fit start end (behind_chunk place x) xs h.1 h.4 (later_bytes h.0 h.1 all) (omega (arith, le, size, behind)) in
    let sum : fold behind_chunk (behind_chunk place x) xs ≡ behind_chunk place x + length h.1 = rest.1 in
    ((first.0, rest.0), omega (arith, sum, size, behind))

-- the contents of a code section end where the section ends
code_fits : (s : State) (end : ℕ) (bytes : List ℕ) (c : CodeEntry) → (sized (whole (code s))).spells bytes c → Small bytes → length bytes ≤ end
    → ChunksFit (end - code_size c) end (map chunk_of c.1)
code_fits s end bytes c h small le =
    let size = joined_size bytes h.0 h.1 h.2 in
    let parts = h.4 in
    let inner = joined_size h.1 parts.0 parts.1 parts.2 in
    let begins : c.0.0 ≡ 0 + length parts.0 = parts.3.1 in
    let list = parts.4.0 in
    let all : Small h.1 = later_bytes h.0 h.1 (subst Small h.2 small) in
    let some : Small parts.1 = later_bytes parts.0 parts.1 (subst Small parts.2 all) in
    let sum : code_size c ≡ c.0.0 + length parts.1 = (chunks_fit 0 (c.0.0 + length parts.1) c.0.0 c.1 parts.1 list some (omega arith)).1 in
    (chunks_fit (end - code_size c) end c.0.0 c.1 parts.1 list some (omega (arith, sum, inner, begins, size, le))).0

-- ---- what other sections leave alone

fold_keeps : {A T : Type 0} (look : State → T) (add : State → A → State) → ((s : State) (x : A) → look (add s x) ≡ look s) → (xs : List A) (s : State) → look (fold add s xs) ≡ look s
fold_keeps look add same [] s = refl
fold_keeps look add same (x ∷ xs) s = fold_keeps look add same xs (add s x) ∙ same s x

-- the bodies, and where their places count from
abbrev looked : State → Option (List Chunk) × ℕ
looked s = (s.bodies, s.code_start)

import_keeps : (s : State) (n : ℕ) (e : Entity) → looked (add_entity s n e) ≡ looked s
import_keeps s n (FunctionOf ty) = refl
import_keeps s n (TableOf ty) = refl
import_keeps s n (MemoryOf ty) = refl
import_keeps s n (GlobalOf ty) = refl
import_keeps s n (TagOf ty) = refl

table_keeps : (s : State) (x : TableEntry) → looked (add_table s x) ≡ looked s
table_keeps s (inl x) = refl
table_keeps s (inr ty) = refl

abbrev Fits : State → ℕ → Type 0
Fits s end = BodiesFit s.code_start end s.bodies

fits_still : (s t : State) (end : ℕ) → looked t ≡ looked s → Fits s end → Fits t end
fits_still s t end e h = subst (λ (p : Option (List Chunk) × ℕ). BodiesFit p.1 end p.0) (sym e) h

-- what a code section spells
section_code : (features : WasmFeatures) (s : State) (id : ℕ) (bytes : List ℕ) (c : CodeEntry) → (section features s id).spells bytes (CodeSection c) → (sized (whole (code s))).spells bytes c
section_code features s id bytes c h =
    let k = subst (λ (n : ℕ). (section features s n).spells bytes (CodeSection c)) (sym (section_id features s id bytes (CodeSection c) h)) h in
    subst (λ (c : CodeEntry). (sized (whole (code s))).spells bytes c) (code_once k.0 c k.1) k.2

-- the state behind a section whose bytes end at `end`
put_fits : (features : WasmFeatures) (s : State) (id end : ℕ) (bytes : List ℕ) (x : Section) → (section features s id).spells bytes x → Small bytes → length bytes ≤ end → Fits s end → Fits (put s end x) end
put_fits features s id end bytes (CustomSection x) h small le f = f
put_fits features s id end bytes (TypeSection x) h small le f = fits_still s (fold add_group s x) end (fold_keeps looked add_group (λ s x. refl) x s) f
put_fits features s id end bytes (ImportSection x) h small le f =
    fits_still s (fold add_import s x) end (fold_keeps looked add_import (λ s x. import_keeps (with_import s (import_of s x)) (length s.filled.imports) x.1.1.1) x s) f
put_fits features s id end bytes (FunctionSection x) h small le f = fits_still s (fold add_function s x) end (fold_keeps looked add_function (λ s x. refl) x s) f
put_fits features s id end bytes (TableSection x) h small le f = fits_still s (fold add_table s x) end (fold_keeps looked add_table table_keeps x s) f
put_fits features s id end bytes (MemorySection x) h small le f = fits_still s (fold add_memory s x) end (fold_keeps looked add_memory (λ s x. refl) x s) f
put_fits features s id end bytes (TagSection x) h small le f = fits_still s (fold add_tag s x) end (fold_keeps looked add_tag (λ s x. refl) x s) f
put_fits features s id end bytes (GlobalSection x) h small le f = fits_still s (fold add_global s x) end (fold_keeps looked add_global (λ s x. refl) x s) f
put_fits features s id end bytes (ExportSection x) h small le f = fits_still s (fold add_export s x) end (fold_keeps looked add_export (λ s x. refl) x s) f
put_fits features s id end bytes (StartSection x) h small le f = f
put_fits features s id end bytes (ElementSection x) h small le f = fits_still s (fold add_element s x) end (fold_keeps looked add_element (λ s x. refl) x s) f
put_fits features s id end bytes (DataCountSection x) h small le f = f
put_fits features s id end bytes (CodeSection x) h small le f = code_fits s end bytes x (section_code features s id bytes x h) small le
put_fits features s id end bytes (DataSection x) h small le f = fits_still s (fold add_data s x) end (fold_keeps looked add_data (λ s x. refl) x s) f

-- a section, with the offset behind it
next_fits : (features : WasmFeatures) (s : State) (bytes : List ℕ) (x : SectionEntry) → (section_entry features s).spells bytes x → Small bytes → Fits s s.offset
    → Fits (next s x) (next s x).offset × ((next s x).offset ≡ s.offset + length bytes)
next_fits features s bytes x h small f =
    let parts = h.0 in
    let size = joined_size bytes parts.0 parts.1 parts.2 in
    let ends : x.0 ≡ s.offset + length bytes = h.1 in
    let inner : Small parts.1 = later_bytes parts.0 parts.1 (subst Small parts.2 small) in
    (put_fits features s x.1.0 x.0 parts.1 x.1.1 parts.4 inner (omega (arith, size, ends)) (bodies_later s.code_start s.offset x.0 s.bodies (omega (arith, ends)) f), ends)

all_fit : (features : WasmFeatures) (xs : List SectionEntry) (s : State) (bytes : List ℕ) → SpellsEntries next (section_entry features) s bytes xs → Small bytes → Fits s s.offset
    → Fits (fold next s xs) (fold next s xs).offset × ((fold next s xs).offset ≡ s.offset + length bytes)
all_fit features [] s bytes h small f = (f, omega (arith, ap length h))
all_fit features (x ∷ xs) s bytes h small f =
    let size = joined_size bytes h.0 h.1 h.2 in
    let all = subst Small h.2 small in
    let one = next_fits features s h.0 x h.3 (front_small h.0 h.1 all) f in
    let rest = all_fit features xs (next s x) h.1 h.4 (later_bytes h.0 h.1 all) one.0 in
    let first : (next s x).offset ≡ s.offset + length h.0 = one.1 in
    let last : (fold next (next s x) xs).offset ≡ (next s x).offset + length h.1 = rest.1 in
    (rest.0, omega (arith, size, first, last))

-- the bodies of a file are bytes of it
pub bodies_inside : (features : WasmFeatures) (bytes : List ℕ) (s : State) → Small bytes → ReadsSections features bytes s → BodiesFit s.code_start (length bytes) s.bodies
bodies_inside features bytes s small h =
    let spelled = h.1.0 in
    let size = joined_size bytes spelled.0 spelled.1 spelled.2 in
    let magic : length spelled.0 ≡ 8 = ap length spelled.3 in
    let inner : Small spelled.1 = later_bytes spelled.0 spelled.1 (subst Small spelled.2 small) in
    let all = all_fit features h.0.1 nothing_yet spelled.1 spelled.4 inner tt in
    let ends : (state_of h.0).offset ≡ 8 + length spelled.1 = all.1 in
    subst (λ (s : State). BodiesFit s.code_start (length bytes) s.bodies) h.2 (bodies_later (state_of h.0).code_start (state_of h.0).offset (length bytes) (state_of h.0).bodies (omega (arith, size, magic, ends)) all.0)
