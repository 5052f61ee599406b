-- Lemmas: what the sections that are due to a module leave, one behind the other.
use Rattle.std.specs.Prelude.{ℕ, ◌≡◌, ◌+◌, Bool, true, false, List, [], ◌∷◌, ◌++◌, length, map, drop, Option, Some, None, slice_index_or, refl}
use Rattle.std.specs.List.{AllByRecursion, cons_option, filter_map, fold}
use Rattle.std.proofs.Common.{ap, sym, ◌∙◌, subst, arith, inl, inr}
use Rattle.std.proofs.Math.Seq.{drop-append_seam}
use Rattle.std.proofs.lemmas.List.{append_assoc, append-nil, length-append, map-append}
use Rattle.std.proofs.lemmas.List.Sums.{fold-append}
use Rattle.walrus_forms.specs.Records.{TypeGroup}
use Rattle.wasm_formats.specs.declared.fault.Space.{Space}
use Rattle.wasm_formats.specs.declared.fault.Space.TheVariants as spaces
use Rattle.wasm_grammar.specs.Modules.{Expr, Origin, Imported, Own, Body, Function, Table, Memory, Tag, Global, Element, Segment, Import, Export, Custom, Module, empty}
use Rattle.wasm_grammar.specs.States.{Chunk, State, nothing_yet}
use Rattle.wasm_body_grammar.specs.Codes.{own_type}
use Rattle.wasm_ruled_modules.specs.Rules.{bare, bare_slot, table_wide}
use Rattle.wasm_sections.specs.Entities.{Entity, TableEntry, TableType, MemoryType, TagType, GlobalEntry, add_function, add_global, add_import, add_memory, add_table, add_tag, global_of, memory_of, no_body, table_of}
use Rattle.wasm_sections.specs.Exports.{ExportEntry, add_export, kind_space}
use Rattle.wasm_sections.specs.Segments.{DataEntry, ElementEntry, add_data, add_element, element_of, segment_of}
use Rattle.wasm_sections.specs.Sections.{Section, SectionEntry, TypeSection, ImportSection, FunctionSection, TableSection, MemorySection, TagSection, GlobalSection, ExportSection, ElementSection, DataSection, chunk_of, next, put}
use Rattle.wasm_sections.specs.TypeSection.{add_group, type_group}
use Rattle.wasm_sections.specs.Modules.{state_of}
use Rattle.wasm_section_bytes.specs.Files.{bodies_of}
use Rattle.wasm_section_bytes.specs.Flags.{FlagsTell, IsNotDeclared, entry_of_element, entry_of_segment}
use Rattle.wasm_module_bytes.specs.Due.{EntriesTell, IsExported, IsWritten, export_from, global_from, group_from, memory_from, table_from}
use Rattle.wasm_canonical.specs.Due.{chunk_due, code_if, count_if, custom_due, function_due, global_due, global_entry, if_own, import_due, items_in, memory_due, of_init, own_global, own_memory, own_table, own_tag, section_if, sections_due, standard_due, start_if, table_due, tag_due}
use Rattle.wasm_canonical.specs.Dense.{AreThere, BringAll, Brings, Counts, DueSectionsFill, IsDense, IsOwnFunction, IsOwnGlobal, IsOwnMemory, IsOwnTable, IsOwnTag, LeavesModule, all_of, bodies_if, brought, count_of, none_brought, one_more}
use Rattle.wasm_canonical.proofs.Folds.{Grows, agrees, elements_grow, exports_grow, fold_grows, functions_grow, globals_grow, groups_grow, memories_grow, section_leaves, segments_grow, tables_grow, tags_grow}

-- ---- states at which a module stands

record At (s : State) (m : Module) (imported : ℕ) (count : Option ℕ) (bodies : Option (List (List ℕ))) : Type 0 where
  filled : s.filled ≡ m
  imported_is : s.imported ≡ imported
  counted : s.data_count ≡ count
  bodies_are : bodies_of s.bodies ≡ bodies

module _ {A B : Type 0} (grow : Module → List B → Module) (grows : Grows grow) (add : State → A → State) (item : A → B) (adds : (s : State) (x : A) → add s x ≡ record s { filled = grow s.filled (item x ∷ []) }) (into : List A → Section)
    (is : (s : State) (end : ℕ) (xs : List A) → put s end (into xs) ≡ fold add s xs) where
  section_at : (s : State) (m : Module) (i : ℕ) (c : Option ℕ) (b : Option (List (List ℕ))) (xs : List A) → At s m i c b → At (fold next s (section_if into xs)) (grow m (map item xs)) i c b
  section_at s m i c b xs h =
      let one = section_leaves add into is s xs in
      let other = agrees (fold add s xs) (record s { filled = grow s.filled (map item xs) }) (fold_grows grow grows add item adds s xs) in record {
        filled = one.filled ∙ other.filled ∙ ap (λ (m : Module). grow m (map item xs)) h.filled;
        imported_is = one.imported ∙ other.imported ∙ h.imported_is;
        counted = one.data_count ∙ other.data_count ∙ h.counted;
        bodies_are = ap bodies_of (one.bodies ∙ other.bodies) ∙ h.bodies_are;
      }

-- ---- custom sections, the start function, the data count, bodies

customs_at : (s : State) (m : Module) (i : ℕ) (c : Option ℕ) (b : Option (List (List ℕ))) (cs : List Custom) → At s m i c b
    → At (fold next s (map custom_due cs)) (record m { customs = m.customs ++ map (λ (x : Custom). Some x) cs }) i c b
customs_at s m i c b [] h = record { filled = h.filled ∙ ap (λ l. record m { customs = l }) (sym (append-nil m.customs)); imported_is = h.imported_is; counted = h.counted; bodies_are = h.bodies_are }
customs_at s m i c b (x ∷ cs) h =
    let n : Module = record m { customs = m.customs ++ Some x ∷ [] } in
    let here : At (next s (custom_due x)) n i c b = record {
      filled = ap (λ (m : Module). record m { customs = m.customs ++ Some x ∷ [] }) h.filled;
      imported_is = h.imported_is;
      counted = h.counted;
      bodies_are = h.bodies_are;
    } in
    let later = customs_at (next s (custom_due x)) n i c b cs here in record {
      filled = later.filled ∙ ap (λ l. record m { customs = l }) (append_assoc m.customs (Some x ∷ []) (map (λ (x : Custom). Some x) cs));
      imported_is = later.imported_is;
      counted = later.counted;
      bodies_are = later.bodies_are;
    }

start_at : (s : State) (m : Module) (i : ℕ) (c : Option ℕ) (b : Option (List (List ℕ))) (o : Option ℕ) → m.start ≡ None → At s m i c b → At (fold next s (start_if o)) (record m { start = o }) i c b
start_at s m i c b None none h = record { filled = h.filled ∙ ap (λ o. record m { start = o }) none; imported_is = h.imported_is; counted = h.counted; bodies_are = h.bodies_are }
start_at s m i c b (Some n) none h = record { filled = ap (λ (m : Module). record m { start = Some n }) h.filled; imported_is = h.imported_is; counted = h.counted; bodies_are = h.bodies_are }

count_at : (s : State) (m : Module) (i : ℕ) (b : Option (List (List ℕ))) (counted : Bool) (n : ℕ) → At s m i None b → At (fold next s (count_if counted n)) m i (count_of counted n) b
count_at s m i b false n h = h
count_at s m i b true n h = record { filled = h.filled; imported_is = h.imported_is; counted = refl; bodies_are = h.bodies_are }

pub chunks_back : (bodies : List (List ℕ)) → map (λ (c : Chunk). c.bytes) (map chunk_of (map chunk_due bodies)) ≡ bodies
chunks_back [] = refl
chunks_back (b ∷ bodies) = ap (λ (l : List (List ℕ)). b ∷ l) (chunks_back bodies)

code_at : (s : State) (m : Module) (i : ℕ) (c : Option ℕ) (bodies : List (List ℕ)) → At s m i c None → At (fold next s (code_if bodies)) m i c (bodies_if bodies)
code_at s m i c [] h = h
code_at s m i c (b ∷ bodies) h = record { filled = h.filled; imported_is = h.imported_is; counted = h.counted; bodies_are = ap (λ (l : List (List ℕ)). Some (b ∷ l)) (chunks_back bodies) }

-- ---- items that imports bring stand in front

abbrev IsBroughtFunction : Option Function → Type 0
IsBroughtFunction None = ⊥
IsBroughtFunction (Some f) = (n : ℕ) × (f.origin ≡ Imported n)

abbrev IsBroughtTable : Option Table → Type 0
IsBroughtTable None = ⊥
IsBroughtTable (Some t) = (n : ℕ) × (t.imported ≡ Some n)

abbrev IsBroughtMemory : Option Memory → Type 0
IsBroughtMemory None = ⊥
IsBroughtMemory (Some x) = (n : ℕ) × (x.imported ≡ Some n)

abbrev IsBroughtTag : Option Tag → Type 0
IsBroughtTag None = ⊥
IsBroughtTag (Some t) = (n : ℕ) × (t.imported ≡ Some n)

abbrev IsBroughtGlobal : Option Global → Type 0
IsBroughtGlobal None = ⊥
IsBroughtGlobal (Some g) = (n : ℕ) × (g.origin ≡ Imported n)

-- these are the first so many of the slots
record Front {A : Type 0} (P : Option A → Type 0) (xs : List (Option A)) (count : ℕ) (ys : List (Option A)) : Type 0 where
  rest : List (Option A)
  is : ys ≡ xs ++ rest
  many : length xs ≡ count
  all : AllByRecursion P xs

all_push : {A : Type 0} (P : A → Type 0) (xs : List A) (x : A) → AllByRecursion P xs → P x → AllByRecursion P (xs ++ x ∷ [])
all_push P [] x h p = (p, tt)
all_push P (y ∷ xs) x h p = (h.0, all_push P xs x h.1 p)

rest_next : {A : Type 0} (xs rest : List (Option A)) (x : A) → slice_index_or (xs ++ rest) (length xs) None ≡ Some x → (later : List (Option A)) × (rest ≡ Some x ∷ later)
rest_next [] [] x e = absurd cc
rest_next [] (y ∷ rest) x e = (rest, ap (λ (o : Option _). o ∷ rest) e)
rest_next (y ∷ xs) rest x e = rest_next xs rest x e

front_push : {A : Type 0} (P : Option A → Type 0) (xs : List (Option A)) (count : ℕ) (ys : List (Option A)) (n : ℕ) (x : A) → Front P xs count ys → n ≡ count → slice_index_or ys n None ≡ Some x → P (Some x)
    → Front P (xs ++ Some x ∷ []) (count + 1) ys
front_push {A} P xs count ys n x h same at p =
    let there : slice_index_or (xs ++ h.rest) (length xs) None ≡ Some x =
    ap (λ (l : List (Option A)). slice_index_or l (length xs) None) (sym h.is) ∙ ap (λ (k : ℕ). slice_index_or ys k None) (h.many ∙ sym same) ∙ at in
    let next = rest_next xs h.rest x there in
    let many = h.many in record {
      rest = next.0;
      is = h.is ∙ ap (λ (l : List (Option A)). xs ++ l) next.1 ∙ sym (append_assoc xs (Some x ∷ []) next.0);
      many = omega (arith, many, length-append xs (Some x ∷ []));
      all = all_push P xs (Some x) h.all p;
    }

record Tracks (m : Module) (s : State) (c : Counts) : Type 0 where
  imports : length s.filled.imports ≡ c.imports
  imported : s.imported ≡ c.functions
  functions : Front IsBroughtFunction s.filled.functions c.functions m.functions
  tables : Front IsBroughtTable s.filled.tables c.tables m.tables
  memories : Front IsBroughtMemory s.filled.memories c.memories m.memories
  tags : Front IsBroughtTag s.filled.tags c.tags m.tags
  globals : Front IsBroughtGlobal s.filled.globals c.globals m.globals

-- a state with more imports and what they bring, and all else as it was
abbrev with_fronts : Module → Module → Module
with_fronts m n = record m { imports = n.imports; functions = n.functions; tables = n.tables; memories = n.memories; tags = n.tags; globals = n.globals }

record Steps (m : Module) (s t : State) (c : Counts) (more : List (Option Import)) : Type 0 where
  tracks : Tracks m t c
  imports : t.filled.imports ≡ s.filled.imports ++ more
  others : t.filled ≡ with_fronts s.filled t.filled
  counted : t.data_count ≡ s.data_count
  bodies : t.bodies ≡ s.bodies

abbrev import_at : List ℕ → List ℕ → Space → ℕ → Import
import_at a b space n = record { space_name = a; name = b; item = record { space = space; number = n } }

imports_many : (s : State) (c : Counts) (i : Import) → length s.filled.imports ≡ c.imports → length (s.filled.imports ++ Some i ∷ []) ≡ c.imports + 1
imports_many s c i many = omega (arith, many, length-append s.filled.imports (Some i ∷ []))

pushed : (s : State) (a b : List ℕ) (space : Space) (k n : ℕ) → k ≡ n → s.filled.imports ++ Some (import_at a b space k) ∷ [] ≡ s.filled.imports ++ Some (import_at a b space n) ∷ []
pushed s a b space k n e = ap (λ (k : ℕ). s.filled.imports ++ Some (import_at a b space k) ∷ []) e

module _ (tell : EntriesTell) (m : Module) (s : State) (c : Counts) (a b : List ℕ) (n : ℕ) (h : Tracks m s c) where
  abbrev adding : ℕ → Entity → State
  adding kind e = add_import s (a, (b, (kind, e)))

  function_step : Brings m c spaces.Function n → Steps m s (adding 0 (function_due (slice_index_or m.functions n None))) (one_more c spaces.Function) (Some (import_at a b spaces.Function n) ∷ [])
  function_step (same, (f, at, from)) =
      let is : record { ty = f.ty; origin = Imported (length s.filled.imports) } ≡ f = (λ j. record { ty = f.ty; origin = (ap (λ (k : ℕ). Imported k) h.imports ∙ sym from) j }) in
      subst (λ (o : Option Function). Steps m s (adding 0 (function_due o)) (one_more c spaces.Function) (Some (import_at a b spaces.Function n) ∷ [])) (sym at) (record {
        tracks = record {
          imports = imports_many s c (import_at a b spaces.Function (length s.filled.functions)) h.imports;
          imported = let one = h.imported in omega (arith, one);
          functions = subst (λ (g : Function). Front IsBroughtFunction (s.filled.functions ++ Some g ∷ []) (c.functions + 1) m.functions) (sym is)
              (front_push IsBroughtFunction s.filled.functions c.functions m.functions n f h.functions same at (c.imports, from));
          tables = h.tables;
          memories = h.memories;
          tags = h.tags;
          globals = h.globals;
        };
        imports = pushed s a b spaces.Function (length s.filled.functions) n (h.functions.many ∙ sym same);
        others = refl;
        counted = refl;
        bodies = refl;
      })

  table_step : Brings m c spaces.Table n → Steps m s (adding 1 (table_due (slice_index_or m.tables n None))) (one_more c spaces.Table) (Some (import_at a b spaces.Table n) ∷ [])
  table_step (same, (t, at, from, none)) =
      let is : table_of (table_from t) None (Some (length s.filled.imports)) ≡ t =
      ap (λ (k : ℕ). table_of (table_from t) None (Some k)) h.imports ∙ ap (λ (o : Option ℕ). table_of (table_from t) None o) (sym from) ∙ ap (λ (o : Option Expr). table_of (table_from t) o t.imported) (sym none) ∙ tell.tables t in
      subst (λ (o : Option Table). Steps m s (adding 1 (table_due o)) (one_more c spaces.Table) (Some (import_at a b spaces.Table n) ∷ [])) (sym at) (record {
        tracks = record {
          imports = imports_many s c (import_at a b spaces.Table (length s.filled.tables)) h.imports;
          imported = h.imported;
          functions = h.functions;
          tables = subst (λ (g : Table). Front IsBroughtTable (s.filled.tables ++ Some g ∷ []) (c.tables + 1) m.tables) (sym is)
              (front_push IsBroughtTable s.filled.tables c.tables m.tables n t h.tables same at (c.imports, from));
          memories = h.memories;
          tags = h.tags;
          globals = h.globals;
        };
        imports = pushed s a b spaces.Table (length s.filled.tables) n (h.tables.many ∙ sym same);
        others = refl;
        counted = refl;
        bodies = refl;
      })

  memory_step : Brings m c spaces.Memory n → Steps m s (adding 2 (memory_due (slice_index_or m.memories n None))) (one_more c spaces.Memory) (Some (import_at a b spaces.Memory n) ∷ [])
  memory_step (same, (x, at, from)) =
      let is : memory_of (memory_from x) (Some (length s.filled.imports)) ≡ x =
      ap (λ (k : ℕ). memory_of (memory_from x) (Some k)) h.imports ∙ ap (λ (o : Option ℕ). memory_of (memory_from x) o) (sym from) ∙ tell.memories x in
      subst (λ (o : Option Memory). Steps m s (adding 2 (memory_due o)) (one_more c spaces.Memory) (Some (import_at a b spaces.Memory n) ∷ [])) (sym at) (record {
        tracks = record {
          imports = imports_many s c (import_at a b spaces.Memory (length s.filled.memories)) h.imports;
          imported = h.imported;
          functions = h.functions;
          tables = h.tables;
          memories = subst (λ (g : Memory). Front IsBroughtMemory (s.filled.memories ++ Some g ∷ []) (c.memories + 1) m.memories) (sym is)
              (front_push IsBroughtMemory s.filled.memories c.memories m.memories n x h.memories same at (c.imports, from));
          tags = h.tags;
          globals = h.globals;
        };
        imports = pushed s a b spaces.Memory (length s.filled.memories) n (h.memories.many ∙ sym same);
        others = refl;
        counted = refl;
        bodies = refl;
      })

  global_step : Brings m c spaces.Global n → Steps m s (adding 3 (global_due (slice_index_or m.globals n None))) (one_more c spaces.Global) (Some (import_at a b spaces.Global n) ∷ [])
  global_step (same, (g, at, from)) =
      let is : global_of (global_from g) (Imported (length s.filled.imports)) ≡ g =
      ap (λ (k : ℕ). global_of (global_from g) (Imported k)) h.imports ∙ ap (λ (o : Origin Expr). global_of (global_from g) o) (sym from) ∙ tell.globals g in
      subst (λ (o : Option Global). Steps m s (adding 3 (global_due o)) (one_more c spaces.Global) (Some (import_at a b spaces.Global n) ∷ [])) (sym at) (record {
        tracks = record {
          imports = imports_many s c (import_at a b spaces.Global (length s.filled.globals)) h.imports;
          imported = h.imported;
          functions = h.functions;
          tables = h.tables;
          memories = h.memories;
          tags = h.tags;
          globals = subst (λ (x : Global). Front IsBroughtGlobal (s.filled.globals ++ Some x ∷ []) (c.globals + 1) m.globals) (sym is)
              (front_push IsBroughtGlobal s.filled.globals c.globals m.globals n g h.globals same at (c.imports, from));
        };
        imports = pushed s a b spaces.Global (length s.filled.globals) n (h.globals.many ∙ sym same);
        others = refl;
        counted = refl;
        bodies = refl;
      })

  tag_step : Brings m c spaces.Tag n → Steps m s (adding 4 (tag_due (slice_index_or m.tags n None))) (one_more c spaces.Tag) (Some (import_at a b spaces.Tag n) ∷ [])
  tag_step (same, (t, at, from)) =
      let is : record { ty = t.ty; imported = Some (length s.filled.imports) } ≡ t = (λ j. record { ty = t.ty; imported = (ap (λ (k : ℕ). Some k) h.imports ∙ sym from) j }) in
      subst (λ (o : Option Tag). Steps m s (adding 4 (tag_due o)) (one_more c spaces.Tag) (Some (import_at a b spaces.Tag n) ∷ [])) (sym at) (record {
        tracks = record {
          imports = imports_many s c (import_at a b spaces.Tag (length s.filled.tags)) h.imports;
          imported = h.imported;
          functions = h.functions;
          tables = h.tables;
          memories = h.memories;
          tags = subst (λ (g : Tag). Front IsBroughtTag (s.filled.tags ++ Some g ∷ []) (c.tags + 1) m.tags) (sym is)
              (front_push IsBroughtTag s.filled.tags c.tags m.tags n t h.tags same at (c.imports, from));
          globals = h.globals;
        };
        imports = pushed s a b spaces.Tag (length s.filled.tags) n (h.tags.many ∙ sym same);
        others = refl;
        counted = refl;
        bodies = refl;
      })

  import_step : (space : Space) → Brings m c space n → Steps m s (add_import s (import_due m (import_at a b space n))) (one_more c space) (Some (import_at a b space n) ∷ [])
  import_step spaces.Function k = function_step k
  import_step spaces.Table k = table_step k
  import_step spaces.Memory k = memory_step k
  import_step spaces.Global k = global_step k
  import_step spaces.Tag k = tag_step k
  import_step spaces.Type k = absurd k
  import_step spaces.Element k = absurd k
  import_step spaces.Data k = absurd k
  import_step spaces.Local k = absurd k
  import_step spaces.Label k = absurd k

imports_step : (tell : EntriesTell) (m : Module) (s : State) (c : Counts) (is : List Import) → Tracks m s c → BringAll m c is
    → Steps m s (fold add_import s (map (import_due m) is)) (all_of c is) (map (λ (i : Import). Some i) is)
imports_step tell m s c [] h k = record { tracks = h; imports = sym (append-nil s.filled.imports); others = refl; counted = refl; bodies = refl }
imports_step tell m s c (i ∷ is) h k =
    let one = import_step tell m s c i.space_name i.name i.item.number h i.item.space k.0 in
    let t : State = add_import s (import_due m i) in
    let later = imports_step tell m t (one_more c i.item.space) is one.tracks k.1 in
    let end : State = fold add_import t (map (import_due m) is) in record {
      tracks = later.tracks;
      imports = later.imports ∙ ap (λ (l : List (Option Import)). l ++ map (λ (i : Import). Some i) is) one.imports ∙ append_assoc s.filled.imports (Some i ∷ []) (map (λ (i : Import). Some i) is);
      others = later.others ∙ ap (λ (m : Module). with_fronts m end.filled) one.others;
      counted = later.counted ∙ one.counted;
      bodies = later.bodies ∙ one.bodies;
    }

-- ---- own items stand behind

module _ {A E : Type 0} (own : Option A → Option E) (item : E → Option A) (see : Option A → Option A) (P Q : Option A → Type 0) (none : (x : Option A) → P x → own x ≡ None)
    (back : (x : Option A) → Q x → (e : E) × (own x ≡ Some e) × (item e ≡ see x)) where
  own_none : (xs rest : List (Option A)) → AllByRecursion P xs → filter_map own (xs ++ rest) ≡ filter_map own rest
  own_none [] rest h = refl
  own_none (x ∷ xs) rest h = ap (λ (o : Option E). cons_option o (filter_map own (xs ++ rest))) (none x h.0) ∙ own_none xs rest h.1

  own_all : (rest : List (Option A)) → AllByRecursion Q rest → map item (filter_map own rest) ≡ map see rest
  own_all [] h = refl
  own_all (x ∷ rest) h =
      let one = back x h.0 in
      ap (λ (o : Option E). map item (cons_option o (filter_map own rest))) one.1 ∙ ap (λ (y : Option A). y ∷ map item (filter_map own rest)) one.2 ∙ ap (λ (l : List (Option A)). see x ∷ l) (own_all rest h.1)

  own_behind : (xs : List (Option A)) (count : ℕ) (ys : List (Option A)) → Front P xs count ys → AllByRecursion Q (drop count ys) → xs ++ map item (filter_map own ys) ≡ xs ++ map see (drop count ys)
  own_behind xs count ys h all =
      let rest_is : drop count ys ≡ h.rest = ap (λ (k : ℕ). drop k ys) (sym h.many) ∙ ap (drop (length xs)) h.is ∙ drop-append_seam xs h.rest in
      ap (λ (l : List E). xs ++ map item l) (ap (filter_map own) h.is ∙ own_none xs h.rest h.all)
      ∙ ap (λ (l : List (Option A)). xs ++ l) (own_all h.rest (subst (AllByRecursion Q) rest_is all) ∙ ap (map see) (sym rest_is))

front_whole : {A : Type 0} (P : Option A → Type 0) (xs : List (Option A)) (count : ℕ) (ys : List (Option A)) → Front P xs count ys → xs ++ drop count ys ≡ ys
front_whole P xs count ys h =
    ap (λ (l : List _). xs ++ l) (ap (λ (k : ℕ). drop k ys) (sym h.many) ∙ ap (drop (length xs)) h.is ∙ drop-append_seam xs h.rest) ∙ sym h.is

map_same : {A : Type 0} (see : A → A) → ((x : A) → see x ≡ x) → (xs : List A) → map see xs ≡ xs
map_same see same [] = refl
map_same see same (x ∷ xs) = ap (λ y. y ∷ map see xs) (same x) ∙ ap (λ l. x ∷ l) (map_same see same xs)

-- ---- lists of which all is there

module _ {A E : Type 0} (make : A → E) (item : E → Option A) (P : A → Type 0) (back : (x : A) → P x → item (make x) ≡ Some x) where
  there_back : (xs : List (Option A)) → AreThere P xs → map item (map make (items_in xs)) ≡ xs
  there_back [] h = refl
  there_back (None ∷ xs) h = absurd h
  there_back (Some x ∷ xs) h = ap (λ (o : Option A). o ∷ map item (map make (items_in xs))) (back x h.0) ∙ ap (λ (l : List (Option A)). Some x ∷ l) (there_back xs h.1)

filled_back : {A : Type 0} (P : A → Type 0) (xs : List (Option A)) → AreThere P xs → map (λ (x : A). Some x) (items_in xs) ≡ xs
filled_back P [] h = refl
filled_back P (None ∷ xs) h = absurd h
filled_back P (Some x ∷ xs) h = ap (λ l. Some x ∷ l) (filled_back P xs h.1)

groups_back : (tell : EntriesTell) (gs : List TypeGroup) → AllByRecursion IsWritten gs → map type_group (map group_from gs) ≡ gs
groups_back tell [] h = refl
groups_back tell (g ∷ gs) h = ap (λ (x : TypeGroup). x ∷ map type_group (map group_from gs)) (tell.groups g h.0) ∙ ap (λ (l : List TypeGroup). g ∷ l) (groups_back tell gs h.1)

-- ---- each list of own items

function_none : (x : Option Function) → IsBroughtFunction x → own_type x ≡ None
function_none None h = refl
function_none (Some f) h = go f.ty f.origin h.0 h.1
  where
    go : (ty : ℕ) (o : Origin Body) (n : ℕ) → o ≡ Imported n → own_type (Some (record { ty = ty; origin = o })) ≡ None
    go ty o n e = rw e refl

abbrev function_item : ℕ → Option Function
function_item ty = Some (record { ty = ty; origin = Own no_body })

function_back : (x : Option Function) → IsOwnFunction x → (e : ℕ) × (own_type x ≡ Some e) × (function_item e ≡ bare_slot x)
function_back None h = absurd h
function_back (Some f) h = go f.ty f.origin h.0 h.1
  where
    go : (ty : ℕ) (o : Origin Body) (x : Body) → o ≡ Own x
        → (let f : Function = record { ty = ty; origin = o } in (e : ℕ) × (own_type (Some f) ≡ Some e) × (function_item e ≡ bare_slot (Some f)))
    go ty o x e = (ty, rw e refl, rw e refl)

function_front : (xs : List (Option Function)) → AllByRecursion IsBroughtFunction xs → map bare_slot xs ≡ xs
function_front [] h = refl
function_front (None ∷ xs) h = absurd h.0
function_front (Some f ∷ xs) h = ap (λ (x : Option Function). x ∷ map bare_slot xs) (go f.ty f.origin h.0.0 h.0.1) ∙ ap (λ (l : List (Option Function)). Some f ∷ l) (function_front xs h.1)
  where
    go : (ty : ℕ) (o : Origin Body) (n : ℕ) → o ≡ Imported n → (let f : Function = record { ty = ty; origin = o } in bare_slot (Some f) ≡ Some f)
    go ty o n e = rw e refl

owned_none : {A : Type 0} (o : Option ℕ) (n : ℕ) (x : A) → o ≡ Some n → if_own o x ≡ None
owned_none o n x e = rw e refl

owned_some : {A : Type 0} (o : Option ℕ) (x : A) → o ≡ None → if_own o x ≡ Some x
owned_some o x e = rw e refl

table_none : (x : Option Table) → IsBroughtTable x → own_table x ≡ None
table_none None h = refl
table_none (Some t) h = owned_none t.imported h.0 (of_init (table_from t) t.init) h.1

abbrev table_item : TableEntry → Option Table
table_item (inl x) = Some (table_of x.1.0 (Some x.1.1) None)
table_item (inr ty) = Some (table_of ty None None)

of_init_item : (ty : TableType) (init : Option Expr) → table_item (of_init ty init) ≡ Some (table_of ty init None)
of_init_item ty None = refl
of_init_item ty (Some e) = refl

table_back : (tell : EntriesTell) (x : Option Table) → IsOwnTable x → (e : TableEntry) × (own_table x ≡ Some e) × (table_item e ≡ x)
table_back tell None h = absurd h
table_back tell (Some t) h = (
  of_init (table_from t) t.init,
  owned_some t.imported (of_init (table_from t) t.init) h,
  of_init_item (table_from t) t.init ∙ ap (λ (t : Table). Some t) (ap (λ (o : Option ℕ). table_of (table_from t) t.init o) (sym h) ∙ tell.tables t),
)

memory_none : (x : Option Memory) → IsBroughtMemory x → own_memory x ≡ None
memory_none None h = refl
memory_none (Some x) h = owned_none x.imported h.0 (memory_from x) h.1

abbrev memory_item : MemoryType → Option Memory
memory_item ty = Some (memory_of ty None)

memory_back : (tell : EntriesTell) (x : Option Memory) → IsOwnMemory x → (e : MemoryType) × (own_memory x ≡ Some e) × (memory_item e ≡ x)
memory_back tell None h = absurd h
memory_back tell (Some x) h = (
  memory_from x,
  owned_some x.imported (memory_from x) h,
  ap (λ (x : Memory). Some x) (ap (λ (o : Option ℕ). memory_of (memory_from x) o) (sym h) ∙ tell.memories x),
)

tag_none : (x : Option Tag) → IsBroughtTag x → own_tag x ≡ None
tag_none None h = refl
tag_none (Some t) h = owned_none {A = TagType} t.imported h.0 (tt, t.ty) h.1

abbrev tag_item : TagType → Option Tag
tag_item ty = Some (record { ty = ty.1; imported = None })

tag_back : (x : Option Tag) → IsOwnTag x → (e : TagType) × (own_tag x ≡ Some e) × (tag_item e ≡ x)
tag_back None h = absurd h
tag_back (Some t) h = ((tt, t.ty), owned_some {A = TagType} t.imported (tt, t.ty) h, ap (λ (o : Option ℕ). Some (record { ty = t.ty; imported = o })) (sym h))

global_none : (x : Option Global) → IsBroughtGlobal x → own_global x ≡ None
global_none None h = refl
global_none (Some g) h = ap (global_entry g) h.1

abbrev global_item : GlobalEntry → Option Global
global_item e = Some (global_of e.0 (Own e.1))

global_back : (tell : EntriesTell) (x : Option Global) → IsOwnGlobal x → (e : GlobalEntry) × (own_global x ≡ Some e) × (global_item e ≡ x)
global_back tell None h = absurd h
global_back tell (Some g) h =
    ((global_from g, h.0), ap (global_entry g) h.1, ap (λ (g : Global). Some g) (ap (λ (o : Origin Expr). global_of (global_from g) o) (sym h.1) ∙ tell.globals g))

abbrev export_item : ExportEntry → Option Export
export_item e = Some (record { name = e.0.0; item = record { space = kind_space e.0.1; number = e.1 } })

export_back : (tell : EntriesTell) (e : Export) → IsExported e.item.space → export_item (export_from e) ≡ Some e
export_back tell e h = ap (λ (s : Space). Some (record { name = e.name; item = record { space = s; number = e.item.number } })) (tell.exports e h)

-- ---- all sections

abbrev slots : List Custom → List (Option Custom)
slots cs = map (λ (c : Custom). Some c) cs

module _ (tell : EntriesTell) (flags : FlagsTell) (bodies : List (List ℕ)) (counted : Bool) (first last : List Custom) (m : Module) (dense : IsDense m) where
  abbrev s1 : State
  s1 = fold next nothing_yet (map custom_due first)

  abbrev m1 : Module
  m1 = record empty { customs = slots first }

  at1 : At s1 m1 0 None None
  at1 = customs_at nothing_yet empty 0 None None first (record { filled = refl; imported_is = refl; counted = refl; bodies_are = refl })

  abbrev s2 : State
  s2 = fold next s1 (section_if TypeSection (map group_from m.groups))

  abbrev m2 : Module
  m2 = record m1 { groups = m.groups }

  at2 : At s2 m2 0 None None
  at2 =
      let h = section_at (λ m l. record m { groups = m.groups ++ l }) groups_grow add_group type_group (λ s x. refl) TypeSection (λ s end xs. refl) s1 m1 0 None None (map group_from m.groups) at1 in
      record { filled = h.filled ∙ ap (λ (l : List TypeGroup). record m1 { groups = l }) (groups_back tell m.groups dense.groups); imported_is = h.imported_is; counted = h.counted; bodies_are = h.bodies_are }

  -- imports
  abbrev c3 : Counts
  c3 = brought m

  abbrev t3 : State
  t3 = fold add_import s2 (map (import_due m) (items_in m.imports))

  tracks2 : Tracks m s2 none_brought
  tracks2 = record {
    imports = ap (λ (m : Module). length m.imports) at2.filled;
    imported = at2.imported_is;
    functions = record { rest = m.functions; is = ap (λ (n : Module). n.functions ++ m.functions) (sym at2.filled); many = ap (λ (m : Module). length m.functions) at2.filled; all = subst (λ (n : Module). AllByRecursion IsBroughtFunction n.functions) (sym at2.filled) tt };
    tables = record { rest = m.tables; is = ap (λ (n : Module). n.tables ++ m.tables) (sym at2.filled); many = ap (λ (m : Module). length m.tables) at2.filled; all = subst (λ (n : Module). AllByRecursion IsBroughtTable n.tables) (sym at2.filled) tt };
    memories = record { rest = m.memories; is = ap (λ (n : Module). n.memories ++ m.memories) (sym at2.filled); many = ap (λ (m : Module). length m.memories) at2.filled; all = subst (λ (n : Module). AllByRecursion IsBroughtMemory n.memories) (sym at2.filled) tt };
    tags = record { rest = m.tags; is = ap (λ (n : Module). n.tags ++ m.tags) (sym at2.filled); many = ap (λ (m : Module). length m.tags) at2.filled; all = subst (λ (n : Module). AllByRecursion IsBroughtTag n.tags) (sym at2.filled) tt };
    globals = record { rest = m.globals; is = ap (λ (n : Module). n.globals ++ m.globals) (sym at2.filled); many = ap (λ (m : Module). length m.globals) at2.filled; all = subst (λ (n : Module). AllByRecursion IsBroughtGlobal n.globals) (sym at2.filled) tt };
  }

  steps3 : Steps m s2 t3 c3 (map (λ (i : Import). Some i) (items_in m.imports))
  steps3 = imports_step tell m s2 none_brought (items_in m.imports) tracks2 dense.brings

  abbrev m3 : Module
  m3 = record m2 { imports = m.imports; functions = t3.filled.functions; tables = t3.filled.tables; memories = t3.filled.memories; tags = t3.filled.tags; globals = t3.filled.globals }

  imports_are : t3.filled.imports ≡ m.imports
  imports_are = steps3.imports ∙ ap (λ (n : Module). n.imports ++ map (λ (i : Import). Some i) (items_in m.imports)) at2.filled ∙ filled_back (λ (i : Import). Unit {0}) m.imports dense.imports

  filled3 : t3.filled ≡ m3
  filled3 = steps3.others ∙ ap (λ (n : Module). with_fronts n t3.filled) at2.filled ∙ ap (λ l. record m3 { imports = l }) imports_are

  abbrev s3 : State
  s3 = fold next s2 (section_if ImportSection (map (import_due m) (items_in m.imports)))

  at3 : At s3 m3 c3.functions None None
  at3 =
      let a = section_leaves add_import ImportSection (λ s end xs. refl) s2 (map (import_due m) (items_in m.imports)) in record {
        filled = a.filled ∙ filled3;
        imported_is = a.imported ∙ steps3.tracks.imported;
        counted = a.data_count ∙ steps3.counted ∙ at2.counted;
        bodies_are = ap bodies_of (a.bodies ∙ steps3.bodies) ∙ at2.bodies_are;
      }

  -- own items
  functions_are : t3.filled.functions ++ map function_item (filter_map own_type m.functions) ≡ map bare_slot m.functions
  functions_are =
      let f = steps3.tracks.functions in
      own_behind own_type function_item bare_slot IsBroughtFunction IsOwnFunction function_none function_back t3.filled.functions c3.functions m.functions f dense.functions
      ∙ ap (λ (l : List (Option Function)). l ++ map bare_slot (drop c3.functions m.functions)) (sym (function_front t3.filled.functions f.all))
      ∙ sym (map-append bare_slot t3.filled.functions (drop c3.functions m.functions))
      ∙ ap (map bare_slot) (front_whole IsBroughtFunction t3.filled.functions c3.functions m.functions f)

  tables_are : t3.filled.tables ++ map table_item (filter_map own_table m.tables) ≡ m.tables
  tables_are =
      let f = steps3.tracks.tables in
      own_behind own_table table_item (λ x. x) IsBroughtTable IsOwnTable table_none (table_back tell) t3.filled.tables c3.tables m.tables f dense.tables
      ∙ ap (λ (l : List (Option Table)). t3.filled.tables ++ l) (map_same (λ x. x) (λ x. refl) (drop c3.tables m.tables)) ∙ front_whole IsBroughtTable t3.filled.tables c3.tables m.tables f

  memories_are : t3.filled.memories ++ map memory_item (filter_map own_memory m.memories) ≡ m.memories
  memories_are =
      let f = steps3.tracks.memories in
      own_behind own_memory memory_item (λ x. x) IsBroughtMemory IsOwnMemory memory_none (memory_back tell) t3.filled.memories c3.memories m.memories f dense.memories
      ∙ ap (λ (l : List (Option Memory)). t3.filled.memories ++ l) (map_same (λ x. x) (λ x. refl) (drop c3.memories m.memories)) ∙ front_whole IsBroughtMemory t3.filled.memories c3.memories m.memories f

  tags_are : t3.filled.tags ++ map tag_item (filter_map own_tag m.tags) ≡ m.tags
  tags_are =
      let f = steps3.tracks.tags in
      own_behind own_tag tag_item (λ x. x) IsBroughtTag IsOwnTag tag_none tag_back t3.filled.tags c3.tags m.tags f dense.tags
      ∙ ap (λ (l : List (Option Tag)). t3.filled.tags ++ l) (map_same (λ x. x) (λ x. refl) (drop c3.tags m.tags)) ∙ front_whole IsBroughtTag t3.filled.tags c3.tags m.tags f

  globals_are : t3.filled.globals ++ map global_item (filter_map own_global m.globals) ≡ m.globals
  globals_are =
      let f = steps3.tracks.globals in
      own_behind own_global global_item (λ x. x) IsBroughtGlobal IsOwnGlobal global_none (global_back tell) t3.filled.globals c3.globals m.globals f dense.globals
      ∙ ap (λ (l : List (Option Global)). t3.filled.globals ++ l) (map_same (λ x. x) (λ x. refl) (drop c3.globals m.globals)) ∙ front_whole IsBroughtGlobal t3.filled.globals c3.globals m.globals f

  abbrev s4 : State
  s4 = fold next s3 (section_if FunctionSection (filter_map own_type m.functions))

  abbrev m4 : Module
  m4 = record m3 { functions = map bare_slot m.functions }

  at4 : At s4 m4 c3.functions None None
  at4 =
      let h = section_at (λ m l. record m { functions = m.functions ++ l }) functions_grow add_function function_item (λ s x. refl) FunctionSection (λ s end xs. refl) s3 m3 c3.functions None None (filter_map own_type m.functions) at3 in
      record { filled = h.filled ∙ ap (λ (l : List (Option Function)). record m3 { functions = l }) functions_are; imported_is = h.imported_is; counted = h.counted; bodies_are = h.bodies_are }

  abbrev s5 : State
  s5 = fold next s4 (section_if TableSection (filter_map own_table m.tables))

  abbrev m5 : Module
  m5 = record m4 { tables = m.tables }

  table_adds : (s : State) (x : TableEntry) → add_table s x ≡ record s { filled = record s.filled { tables = s.filled.tables ++ table_item x ∷ [] } }
  table_adds s (inl x) = refl
  table_adds s (inr ty) = refl

  at5 : At s5 m5 c3.functions None None
  at5 =
      let h = section_at (λ m l. record m { tables = m.tables ++ l }) tables_grow add_table table_item table_adds TableSection (λ s end xs. refl) s4 m4 c3.functions None None (filter_map own_table m.tables) at4 in
      record { filled = h.filled ∙ ap (λ (l : List (Option Table)). record m4 { tables = l }) tables_are; imported_is = h.imported_is; counted = h.counted; bodies_are = h.bodies_are }

  abbrev s6 : State
  s6 = fold next s5 (section_if MemorySection (filter_map own_memory m.memories))

  abbrev m6 : Module
  m6 = record m5 { memories = m.memories }

  at6 : At s6 m6 c3.functions None None
  at6 =
      let h = section_at (λ m l. record m { memories = m.memories ++ l }) memories_grow add_memory memory_item (λ s x. refl) MemorySection (λ s end xs. refl) s5 m5 c3.functions None None (filter_map own_memory m.memories) at5 in
      record { filled = h.filled ∙ ap (λ (l : List (Option Memory)). record m5 { memories = l }) memories_are; imported_is = h.imported_is; counted = h.counted; bodies_are = h.bodies_are }

  abbrev s7 : State
  s7 = fold next s6 (section_if TagSection (filter_map own_tag m.tags))

  abbrev m7 : Module
  m7 = record m6 { tags = m.tags }

  at7 : At s7 m7 c3.functions None None
  at7 =
      let h = section_at (λ m l. record m { tags = m.tags ++ l }) tags_grow add_tag tag_item (λ s x. refl) TagSection (λ s end xs. refl) s6 m6 c3.functions None None (filter_map own_tag m.tags) at6 in
      record { filled = h.filled ∙ ap (λ (l : List (Option Tag)). record m6 { tags = l }) tags_are; imported_is = h.imported_is; counted = h.counted; bodies_are = h.bodies_are }

  abbrev s8 : State
  s8 = fold next s7 (section_if GlobalSection (filter_map own_global m.globals))

  abbrev m8 : Module
  m8 = record m7 { globals = m.globals }

  at8 : At s8 m8 c3.functions None None
  at8 =
      let h = section_at (λ m l. record m { globals = m.globals ++ l }) globals_grow add_global global_item (λ s x. refl) GlobalSection (λ s end xs. refl) s7 m7 c3.functions None None (filter_map own_global m.globals) at7 in
      record { filled = h.filled ∙ ap (λ (l : List (Option Global)). record m7 { globals = l }) globals_are; imported_is = h.imported_is; counted = h.counted; bodies_are = h.bodies_are }

  abbrev s9 : State
  s9 = fold next s8 (section_if ExportSection (map export_from (items_in m.exports)))

  abbrev m9 : Module
  m9 = record m8 { exports = m.exports }

  at9 : At s9 m9 c3.functions None None
  at9 =
      let h = section_at (λ m l. record m { exports = m.exports ++ l }) exports_grow add_export export_item (λ s x. refl) ExportSection (λ s end xs. refl) s8 m8 c3.functions None None (map export_from (items_in m.exports)) at8 in
      record {
        filled = h.filled ∙ ap (λ (l : List (Option Export)). record m8 { exports = l }) (there_back export_from export_item (λ (e : Export). IsExported e.item.space) (export_back tell) m.exports dense.exports);
        imported_is = h.imported_is;
        counted = h.counted;
        bodies_are = h.bodies_are;
      }

  abbrev s10 : State
  s10 = fold next s9 (start_if m.start)

  abbrev m10 : Module
  m10 = record m9 { start = m.start }

  at10 : At s10 m10 c3.functions None None
  at10 = start_at s9 m9 c3.functions None None m.start refl at9

  abbrev s11 : State
  s11 = fold next s10 (section_if ElementSection (map (entry_of_element (table_wide m.tables)) (items_in m.elements)))

  abbrev m11 : Module
  m11 = record m10 { elements = m.elements }

  abbrev element_item : ElementEntry → Option Element
  element_item e = Some (element_of e.1)

  at11 : At s11 m11 c3.functions None None
  at11 =
      let h = section_at (λ m l. record m { elements = m.elements ++ l }) elements_grow add_element element_item (λ s x. refl) ElementSection (λ s end xs. refl) s10 m10 c3.functions None None (map (entry_of_element (table_wide m.tables)) (items_in m.elements)) at10 in
      record {
        filled = h.filled ∙ ap (λ (l : List (Option Element)). record m10 { elements = l })
            (there_back (entry_of_element (table_wide m.tables)) element_item (λ (e : Element). Unit {0}) (λ e _. ap (λ (e : Element). Some e) (flags.elements (table_wide m.tables) e)) m.elements dense.elements);
        imported_is = h.imported_is;
        counted = h.counted;
        bodies_are = h.bodies_are;
      }

  abbrev s12 : State
  s12 = fold next s11 (count_if counted (length m.segments))

  at12 : At s12 m11 c3.functions (count_of counted (length m.segments)) None
  at12 = count_at s11 m11 c3.functions None counted (length m.segments) at11

  abbrev s13 : State
  s13 = fold next s12 (code_if bodies)

  at13 : At s13 m11 c3.functions (count_of counted (length m.segments)) (bodies_if bodies)
  at13 = code_at s12 m11 c3.functions (count_of counted (length m.segments)) bodies at12

  abbrev s14 : State
  s14 = fold next s13 (section_if DataSection (map entry_of_segment (items_in m.segments)))

  abbrev m14 : Module
  m14 = record m11 { segments = m.segments }

  abbrev segment_item : DataEntry → Option Segment
  segment_item e = Some (segment_of e.1)

  at14 : At s14 m14 c3.functions (count_of counted (length m.segments)) (bodies_if bodies)
  at14 =
      let h = section_at (λ m l. record m { segments = m.segments ++ l }) segments_grow add_data segment_item (λ s x. refl) DataSection (λ s end xs. refl) s13 m11 c3.functions (count_of counted (length m.segments)) (bodies_if bodies)
      (map entry_of_segment (items_in m.segments)) at13 in
      record {
        filled = h.filled ∙ ap (λ (l : List (Option Segment)). record m11 { segments = l })
            (there_back entry_of_segment segment_item (λ (x : Segment). IsNotDeclared x.mode) (λ x k. ap (λ (x : Segment). Some x) (flags.segments x k)) m.segments dense.segments);
        imported_is = h.imported_is;
        counted = h.counted;
        bodies_are = h.bodies_are;
      }

  abbrev s15 : State
  s15 = fold next s14 (map custom_due last)

  at15 : At s15 (record m14 { customs = slots first ++ slots last }) c3.functions (count_of counted (length m.segments)) (bodies_if bodies)
  at15 = customs_at s14 m14 c3.functions (count_of counted (length m.segments)) (bodies_if bodies) last at14

  -- the sections from each on
  abbrev y13 : List SectionEntry
  y13 = section_if DataSection (map entry_of_segment (items_in m.segments))

  abbrev y12 : List SectionEntry
  y12 = code_if bodies ++ y13

  abbrev y11 : List SectionEntry
  y11 = count_if counted (length m.segments) ++ y12

  abbrev y10 : List SectionEntry
  y10 = section_if ElementSection (map (entry_of_element (table_wide m.tables)) (items_in m.elements)) ++ y11

  abbrev y9 : List SectionEntry
  y9 = start_if m.start ++ y10

  abbrev y8 : List SectionEntry
  y8 = section_if ExportSection (map export_from (items_in m.exports)) ++ y9

  abbrev y7 : List SectionEntry
  y7 = section_if GlobalSection (filter_map own_global m.globals) ++ y8

  abbrev y6 : List SectionEntry
  y6 = section_if TagSection (filter_map own_tag m.tags) ++ y7

  abbrev y5 : List SectionEntry
  y5 = section_if MemorySection (filter_map own_memory m.memories) ++ y6

  abbrev y4 : List SectionEntry
  y4 = section_if TableSection (filter_map own_table m.tables) ++ y5

  abbrev y3 : List SectionEntry
  y3 = section_if FunctionSection (filter_map own_type m.functions) ++ y4

  abbrev y2 : List SectionEntry
  y2 = section_if ImportSection (map (import_due m) (items_in m.imports)) ++ y3

  standard_is : fold next s1 (standard_due bodies counted m) ≡ s14
  standard_is =
      fold-append next s1 (section_if TypeSection (map group_from m.groups)) y2
      ∙ fold-append next s2 (section_if ImportSection (map (import_due m) (items_in m.imports))) y3
      ∙ fold-append next s3 (section_if FunctionSection (filter_map own_type m.functions)) y4
      ∙ fold-append next s4 (section_if TableSection (filter_map own_table m.tables)) y5
      ∙ fold-append next s5 (section_if MemorySection (filter_map own_memory m.memories)) y6
      ∙ fold-append next s6 (section_if TagSection (filter_map own_tag m.tags)) y7
      ∙ fold-append next s7 (section_if GlobalSection (filter_map own_global m.globals)) y8
      ∙ fold-append next s8 (section_if ExportSection (map export_from (items_in m.exports))) y9
      ∙ fold-append next s9 (start_if m.start) y10
      ∙ fold-append next s10 (section_if ElementSection (map (entry_of_element (table_wide m.tables)) (items_in m.elements))) y11
      ∙ fold-append next s11 (count_if counted (length m.segments)) y12
      ∙ fold-append next s12 (code_if bodies) y13

  state_is : state_of (tt, sections_due bodies counted first last m) ≡ s15
  state_is =
      fold-append next nothing_yet (map custom_due first) (standard_due bodies counted m ++ map custom_due last) ∙ fold-append next s1 (standard_due bodies counted m) (map custom_due last)
      ∙ ap (λ (s : State). fold next s (map custom_due last)) standard_is

  leaves : LeavesModule bodies counted first last m
  leaves = record {
    filled = ap (λ (s : State). s.filled) state_is ∙ at15.filled ∙ ap (λ (l : List (Option Custom)). record (bare m) { customs = l }) (sym (map-append (λ (c : Custom). Some c) first last));
    counted_is = ap (λ (s : State). s.data_count) state_is ∙ at15.counted;
    bodies_are = ap (λ (s : State). bodies_of s.bodies) state_is ∙ at15.bodies_are;
    imported = ap (λ (s : State). s.imported) state_is ∙ at15.imported_is;
  }

pub sections_fill : EntriesTell → FlagsTell → DueSectionsFill
sections_fill tell flags bodies counted first last m dense = leaves tell flags bodies counted first last m dense
