-- Lemmas: each section is spelled alike at every state, and so are the entries in it.
use Rattle.std.specs.Prelude.{ℕ, ◌≡◌, ◌==◌, Bool, true, false, List, [], ◌∷◌, ◌++◌, length, if◌then◌else◌, refl}
use Rattle.std.specs.List.{flat_map}
use Rattle.std.proofs.Common.{ap, sym, ◌∙◌, inl, inr}
use Rattle.std.proofs.lemmas.List.{append_assoc}
use Rattle.wasm_features.specs.declared.WasmFeatures.{WasmFeatures}
use Rattle.walrus_forms.specs.declared.value.RefType.{RefType}
use Rattle.wasm_formats.specs.declared.fault.Space.TheVariants as spaces
use Rattle.wasm_formats.specs.Formats.{Format}
use Rattle.wasm_operators.specs.Bytes.{operator_bytes, reference_bytes, unsigned_bytes, value_bytes, vec_bytes}
use Rattle.wasm_format_bytes.specs.Writers.{Writer, after_writer}
use Rattle.wasm_format_bytes.specs.Lists.{entries_bytes}
use Rattle.wasm_grammar.specs.Exprs.{Known, expr}
use Rattle.wasm_grammar.specs.Modules.{Expr}
use Rattle.wasm_grammar.specs.States.{State, has_room, known, nothing_yet}
use Rattle.wasm_grammar.specs.TypeWords.{ref_from, value_from}
use Rattle.wasm_grammar.specs.Values.{has_page_size, index}
use Rattle.wasm_grammar_bytes.specs.Values.{limits_writer}
use Rattle.wasm_sections.specs.Entities.{Entity, GlobalEntry, GlobalType, ImportEntry, MemoryType, TableEntry, TableType, TagType, add_function, add_global, add_import, add_memory, add_table, add_tag, function_entry, global_entry, import_entry, memory_entry, table_entry, tag_entry}
use Rattle.wasm_sections.specs.Exports.{ExportEntry, add_export, export_entry}
use Rattle.wasm_sections.specs.Segments.{DataEntry, DataForm, ElementEntry, ElementForm, add_data, add_element, data_entry, element_entry, pass}
use Rattle.wasm_sections.specs.Sections.{Section, CustomSection, TypeSection, ImportSection, FunctionSection, TableSection, MemorySection, TagSection, GlobalSection, ExportSection, StartSection, ElementSection, DataCountSection, CodeSection, DataSection, SectionEntry, next}
use Rattle.wasm_sections.specs.Modules.{magic}
use Rattle.wasm_section_bytes.specs.Entries.{export_writer, function_back, function_writer, global_back, global_writer, import_writer, index_writer, memory_back, memory_writer, page_size_writer, table_back, table_limits_writer, table_writer, tag_back, tag_writer}
use Rattle.wasm_section_bytes.specs.Exprs.{expr_writer}
use Rattle.wasm_section_bytes.specs.Files.{entry_bytes, section_bytes, sections_bytes}
use Rattle.wasm_section_bytes.specs.Placed.{code_section_placed, types_placed}
use Rattle.wasm_section_bytes.specs.Sections.{custom_writer, list_writer}
use Rattle.wasm_section_bytes.specs.Segments.{back_0, back_1, back_2, back_3, back_4, back_5, back_6, back_7, data_back_0, data_back_1, data_back_2, data_form_writer, data_writer, element_form_writer, element_writer, expressions_writer, functions_writer, into_memory_writer, into_table_writer, kind_writer, named_memory_writer, named_table_writer, contents_writer, sized_bytes, typed_writer}
use Rattle.walrus_due_laws.specs.Spelled.{FilesAreSpelled, spelled}

-- ---- joined, and by a test

join_same : {a b x y : List ℕ} → a ≡ x → b ≡ y → a ++ b ≡ x ++ y
join_same {a} {b} {x} {y} p q = ap (λ (l : List ℕ). l ++ b) p ∙ ap (λ (l : List ℕ). x ++ l) q

either_way : (c : Bool) (a : List ℕ) → (if c then a else a) ≡ a
either_way true a = refl
either_way false a = refl

if_same : {a b x y : List ℕ} (c : Bool) → a ≡ x → b ≡ y → (if c then a else b) ≡ (if c then x else y)
if_same true p q = p
if_same false p q = q

-- ---- entries, each at the state that those before it left

module _ {A S : Type 0} (step : S → A → S) (entry : S → Format A) (w : (s : S) → Writer (entry s)) (of : A → List ℕ) (same : (s : S) (x : A) → (w s).bytes x ≡ of x) where
  entries_plain : (s : S) (xs : List A) → entries_bytes step entry w s xs ≡ flat_map of xs
  entries_plain s [] = refl
  entries_plain s (x ∷ xs) = join_same (same s x) (entries_plain (step s x) xs)

  vec_plain : (s : S) (xs : List A) → unsigned_bytes (length xs) ++ entries_bytes step entry w s xs ≡ vec_bytes of xs
  vec_plain s xs = ap (λ (l : List ℕ). unsigned_bytes (length xs) ++ l) (entries_plain s xs)

-- the contents of a section, with their size
module _ {A : Type 0} (add : State → A → State) (entry : State → Format A) (w : (s : State) → Writer (entry s)) (of : A → List ℕ) (same : (s : State) (x : A) → (w s).bytes x ≡ of x) where
  list_plain : (s : State) (xs : List A) → (list_writer add entry w s).bytes xs ≡ sized_bytes (vec_bytes of xs)
  list_plain s xs = ap sized_bytes (vec_plain add entry w of same s xs)

-- ---- constant expressions

abbrev pub expr_bytes : Expr → List ℕ
expr_bytes ops = flat_map operator_bytes ops ++ 0x0b ∷ []

module _ (features : WasmFeatures) where
  expr_plain : (k : Known) (ops : Expr) → (expr_writer features k).bytes ops ≡ expr_bytes ops
  expr_plain k [] = refl
  expr_plain k (op ∷ ops) = ap (λ (l : List ℕ). operator_bytes op ++ l) (expr_plain k ops) ∙ sym (append_assoc (operator_bytes op) (flat_map operator_bytes ops) (0x0b ∷ []))

-- ---- tables, memories, tags, globals, exports

abbrev pub table_type_bytes : TableType → List ℕ
table_type_bytes ty = reference_bytes (ref_from ty.0) ++ table_limits_writer.bytes ty.1

abbrev pub table_bytes : TableEntry → List ℕ
table_bytes (inl x) = 0x40 ∷ 0x00 ∷ (table_type_bytes x.1.0 ++ expr_bytes x.1.1)
table_bytes (inr ty) = table_type_bytes ty

abbrev pub memory_bytes : MemoryType → List ℕ
memory_bytes ty = (limits_writer 16).bytes ty.0 ++ (page_size_writer (has_page_size ty.0.0)).bytes ty.1

abbrev pub tag_bytes : TagType → List ℕ
tag_bytes ty = 0x00 ∷ unsigned_bytes ty.1

abbrev pub global_type_bytes : GlobalType → List ℕ
global_type_bytes ty = value_bytes (value_from ty.0) ++ ty.1 ∷ []

abbrev pub global_bytes : GlobalEntry → List ℕ
global_bytes x = global_type_bytes x.0 ++ expr_bytes x.1

abbrev pub export_bytes : ExportEntry → List ℕ
export_bytes x = (sized_bytes x.0.0 ++ x.0.1 ∷ []) ++ unsigned_bytes x.1

-- ---- imports

-- by the kind
abbrev pub entity_bytes : ℕ → Entity → List ℕ
entity_bytes kind x =
    if kind == 0 then unsigned_bytes (function_back x)
    else (if kind == 1 then table_type_bytes (table_back x)
    else (if kind == 2 then memory_bytes (memory_back x)
    else (if kind == 3 then global_type_bytes (global_back x) else (if kind == 4 then tag_bytes (tag_back x) else []))))

abbrev pub import_bytes : ImportEntry → List ℕ
import_bytes x = sized_bytes x.0 ++ (sized_bytes x.1.0 ++ (x.1.1.0 ∷ entity_bytes x.1.1.0 x.1.1.1))

-- ---- element segments

abbrev pub into_bytes : ℕ × Expr → List ℕ
into_bytes p = unsigned_bytes p.0 ++ expr_bytes p.1

abbrev pub active_functions_bytes : Expr × List ℕ → List ℕ
active_functions_bytes p = expr_bytes p.0 ++ vec_bytes unsigned_bytes p.1

abbrev pub functions_bytes : Unit {0} × List ℕ → List ℕ
functions_bytes p = 0x00 ∷ vec_bytes unsigned_bytes p.1

abbrev pub active_expressions_bytes : Expr × List Expr → List ℕ
active_expressions_bytes p = expr_bytes p.0 ++ vec_bytes expr_bytes p.1

abbrev pub expressions_bytes : RefType × List Expr → List ℕ
expressions_bytes p = reference_bytes (ref_from p.0) ++ vec_bytes expr_bytes p.1

-- by the flags
abbrev pub element_form_bytes : ℕ → ElementForm → List ℕ
element_form_bytes flags x =
    if flags == 0 then active_functions_bytes (back_0 x)
    else (if flags == 1 then functions_bytes (back_1 x)
    else (if flags == 2 then into_bytes (back_2 x).0 ++ functions_bytes (back_2 x).1
    else (if flags == 3 then functions_bytes (back_3 x)
    else (if flags == 4 then active_expressions_bytes (back_4 x)
    else (if flags == 5 then expressions_bytes (back_5 x)
    else (if flags == 6 then into_bytes (back_6 x).0 ++ expressions_bytes (back_6 x).1 else (if flags == 7 then expressions_bytes (back_7 x) else [])))))))

abbrev pub element_bytes : ElementEntry → List ℕ
element_bytes x = unsigned_bytes x.0 ++ element_form_bytes x.0 x.1

-- ---- data segments

abbrev pub active_data_bytes : Expr × List ℕ → List ℕ
active_data_bytes p = expr_bytes p.0 ++ sized_bytes p.1

abbrev pub data_form_bytes : ℕ → DataForm → List ℕ
data_form_bytes flags x =
    if flags == 0 then active_data_bytes (data_back_0 x)
    else (if flags == 1 then sized_bytes (data_back_1 x) else (if flags == 2 then into_bytes (data_back_2 x).0 ++ sized_bytes (data_back_2 x).1 else []))

abbrev pub data_bytes : DataEntry → List ℕ
data_bytes x = unsigned_bytes x.0 ++ data_form_bytes x.0 x.1

-- ---- sections

abbrev pub contents_bytes : WasmFeatures → Section → List ℕ
contents_bytes features (CustomSection x) = custom_writer.bytes x
contents_bytes features (TypeSection x) = (types_placed features).bytes x
contents_bytes features (ImportSection x) = sized_bytes (vec_bytes import_bytes x)
contents_bytes features (FunctionSection x) = sized_bytes (vec_bytes unsigned_bytes x)
contents_bytes features (TableSection x) = sized_bytes (vec_bytes table_bytes x)
contents_bytes features (MemorySection x) = sized_bytes (vec_bytes memory_bytes x)
contents_bytes features (TagSection x) = sized_bytes (vec_bytes tag_bytes x)
contents_bytes features (GlobalSection x) = sized_bytes (vec_bytes global_bytes x)
contents_bytes features (ExportSection x) = sized_bytes (vec_bytes export_bytes x)
contents_bytes features (StartSection x) = sized_bytes (unsigned_bytes x)
contents_bytes features (ElementSection x) = sized_bytes (vec_bytes element_bytes x)
contents_bytes features (DataCountSection x) = sized_bytes (unsigned_bytes x)
contents_bytes features (CodeSection x) = code_section_placed.bytes x
contents_bytes features (DataSection x) = sized_bytes (vec_bytes data_bytes x)

-- ---- entries at any state

module _ (features : WasmFeatures) (s : State) where
  table_plain : (x : TableEntry) → (table_writer features s).bytes x ≡ table_bytes x
  table_plain (inl x) =
      either_way (has_room s spaces.Table) (0x40 ∷ 0x00 ∷ (table_type_bytes x.1.0 ++ (expr_writer features (known s)).bytes x.1.1))
      ∙ ap (λ (l : List ℕ). 0x40 ∷ 0x00 ∷ (table_type_bytes x.1.0 ++ l)) (expr_plain features (known s) x.1.1)
  table_plain (inr ty) = either_way (has_room s spaces.Table) (table_type_bytes ty)

  tag_plain : (x : TagType) → (tag_writer s).bytes x ≡ tag_bytes x
  tag_plain x = either_way (has_room s spaces.Tag) (tag_bytes x)

  global_plain : (x : GlobalEntry) → (global_writer features s).bytes x ≡ global_bytes x
  global_plain x =
      either_way (has_room s spaces.Global) (global_type_bytes x.0 ++ (expr_writer features (known s)).bytes x.1)
      ∙ ap (λ (l : List ℕ). global_type_bytes x.0 ++ l) (expr_plain features (known s) x.1)

  -- ---- element segments

  functions_plain : (ns : List ℕ) → (functions_writer s).bytes ns ≡ vec_bytes unsigned_bytes ns
  functions_plain ns =
      vec_plain pass (λ (_ : Unit {0}). index spaces.Function (length s.filled.functions)) (λ (_ : Unit {0}). index_writer spaces.Function (length s.filled.functions)) unsigned_bytes (λ u x. refl) tt ns

  exprs_plain : (es : List Expr) → (expressions_writer features s).bytes es ≡ vec_bytes expr_bytes es
  exprs_plain es = vec_plain pass (λ (_ : Unit {0}). expr features (known s)) (λ (_ : Unit {0}). expr_writer features (known s)) expr_bytes (λ u x. expr_plain features (known s) x) tt es

  active_functions_plain : (p : Expr × List ℕ) → (after_writer (into_table_writer features s 0) (λ _. functions_writer s)).bytes p ≡ active_functions_bytes p
  active_functions_plain p = join_same (expr_plain features (known s) p.0) (functions_plain p.1)

  kind_plain : (p : Unit {0} × List ℕ) → (kind_writer s).bytes p ≡ functions_bytes p
  kind_plain p = ap (λ (l : List ℕ). 0x00 ∷ l) (functions_plain p.1)

  named_plain : (p : ℕ × Expr) → (named_table_writer features s).bytes p ≡ into_bytes p
  named_plain p = ap (λ (l : List ℕ). unsigned_bytes p.0 ++ l) (expr_plain features (known s) p.1)

  active_expressions_plain : (p : Expr × List Expr) → (after_writer (into_table_writer features s 0) (λ _. expressions_writer features s)).bytes p ≡ active_expressions_bytes p
  active_expressions_plain p = join_same (expr_plain features (known s) p.0) (exprs_plain p.1)

  typed_plain : (p : RefType × List Expr) → (typed_writer features s).bytes p ≡ expressions_bytes p
  typed_plain p = ap (λ (l : List ℕ). reference_bytes (ref_from p.0) ++ l) (exprs_plain p.1)

  element_form_plain : (flags : ℕ) (x : ElementForm) → (element_form_writer features s flags).bytes x ≡ element_form_bytes flags x
  element_form_plain flags x =
      if_same (flags == 0) (active_functions_plain (back_0 x))
      (if_same (flags == 1) (kind_plain (back_1 x))
      (if_same (flags == 2) (join_same (named_plain (back_2 x).0) (kind_plain (back_2 x).1))
      (if_same (flags == 3) (kind_plain (back_3 x))
      (if_same (flags == 4) (active_expressions_plain (back_4 x))
      (if_same (flags == 5) (typed_plain (back_5 x))
      (if_same (flags == 6) (join_same (named_plain (back_6 x).0) (typed_plain (back_6 x).1)) (if_same {b = []} {y = []} (flags == 7) (typed_plain (back_7 x)) refl)))))))

  element_plain : (x : ElementEntry) → (element_writer features s).bytes x ≡ element_bytes x
  element_plain x =
      either_way (has_room s spaces.Element) (unsigned_bytes x.0 ++ (element_form_writer features s x.0).bytes x.1)
      ∙ ap (λ (l : List ℕ). unsigned_bytes x.0 ++ l) (element_form_plain x.0 x.1)

  -- ---- data segments

  active_data_plain : (p : Expr × List ℕ) → (after_writer (into_memory_writer features s 0) (λ _. contents_writer)).bytes p ≡ active_data_bytes p
  active_data_plain p = ap (λ (l : List ℕ). l ++ sized_bytes p.1) (expr_plain features (known s) p.0)

  into_memory_plain : (p : ℕ × Expr) → (named_memory_writer features s).bytes p ≡ into_bytes p
  into_memory_plain p = ap (λ (l : List ℕ). unsigned_bytes p.0 ++ l) (expr_plain features (known s) p.1)

  data_form_plain : (flags : ℕ) (x : DataForm) → (data_form_writer features s flags).bytes x ≡ data_form_bytes flags x
  data_form_plain flags x =
      if_same (flags == 0) (active_data_plain (data_back_0 x))
      (if_same {a = sized_bytes (data_back_1 x)} {x = sized_bytes (data_back_1 x)} (flags == 1) refl
      (if_same {b = []} {y = []} (flags == 2) (ap (λ (l : List ℕ). l ++ sized_bytes (data_back_2 x).1) (into_memory_plain (data_back_2 x).0)) refl))

  data_plain : (x : DataEntry) → (data_writer features s).bytes x ≡ data_bytes x
  data_plain x =
      either_way (has_room s spaces.Data) (unsigned_bytes x.0 ++ (data_form_writer features s x.0).bytes x.1)
      ∙ ap (λ (l : List ℕ). unsigned_bytes x.0 ++ l) (data_form_plain x.0 x.1)

-- ---- sections at any state

module _ (features : WasmFeatures) where
  section_plain : (s : State) (x : Section) → section_bytes features s x ≡ contents_bytes features x
  section_plain s (CustomSection x) = refl
  section_plain s (TypeSection x) = refl
  section_plain s (ImportSection x) = list_plain add_import (import_entry features) (import_writer features) import_bytes (λ t y. refl) s x
  section_plain s (FunctionSection x) = list_plain add_function function_entry function_writer unsigned_bytes (λ t y. refl) s x
  section_plain s (TableSection x) = list_plain add_table (table_entry features) (table_writer features) table_bytes (table_plain features) s x
  section_plain s (MemorySection x) = list_plain add_memory memory_entry memory_writer memory_bytes (λ t y. refl) s x
  section_plain s (TagSection x) = list_plain add_tag tag_entry tag_writer tag_bytes (tag_plain features) s x
  section_plain s (GlobalSection x) = list_plain add_global (global_entry features) (global_writer features) global_bytes (global_plain features) s x
  section_plain s (ExportSection x) = list_plain add_export export_entry export_writer export_bytes (λ t y. refl) s x
  section_plain s (StartSection x) = refl
  section_plain s (ElementSection x) = list_plain add_element (element_entry features) (element_writer features) element_bytes (element_plain features) s x
  section_plain s (DataCountSection x) = refl
  section_plain s (CodeSection x) = refl
  section_plain s (DataSection x) = list_plain add_data (data_entry features) (data_writer features) data_bytes (data_plain features) s x

  -- a section with its id
  pub entry_plain : (s : State) (x : SectionEntry) → entry_bytes features s x ≡ x.1.0 ∷ contents_bytes features x.1.1
  entry_plain s x = ap (λ (l : List ℕ). x.1.0 ∷ l) (section_plain s x.1.1)

  -- ---- a file's sections

  sections_spelled : (s : State) (xs : List SectionEntry) → sections_bytes features s xs ≡ spelled features xs
  sections_spelled s [] = refl
  sections_spelled s (x ∷ xs) = join_same (entry_plain s x ∙ sym (entry_plain nothing_yet x)) (sections_spelled (next s x) xs)

pub files_spelled : FilesAreSpelled
files_spelled features xs = ap (λ (l : List ℕ). magic ++ l) (sections_spelled features nothing_yet xs)
