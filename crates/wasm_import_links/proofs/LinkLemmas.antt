-- Lemmas: entries leave imports linked.
use Rattle.std.specs.Prelude.{ℕ, ◌≡◌, ◌⊎◌, ◌+◌, List, [], ◌∷◌, ◌++◌, length, map, Option, Some, None, slice_index_or, refl}
use Rattle.std.proofs.Common.{ap, sym, ◌∙◌, subst, inl, inr}
use Rattle.std.proofs.lemmas.List.{length-map, map-append}
use Rattle.wasm_features.specs.declared.WasmFeatures.{WasmFeatures}
use Rattle.wasm_formats.specs.declared.fault.Space.{Space}
use Rattle.wasm_formats.specs.declared.fault.Space.TheVariants as spaces
use Rattle.wasm_grammar.specs.Modules.{Body, Function, Global, Import, Imported, Memory, Module, Origin, Own, Table, Tag, empty}
use Rattle.wasm_grammar.specs.States.{State}
use Rattle.wasm_body_grammar.specs.Codes.{with_bodies}
use Rattle.wasm_modules.specs.Modules.{module_of}
use Rattle.wasm_sections.specs.Entities.{Entity, FunctionOf, TableOf, MemoryOf, GlobalOf, TagOf, ImportEntry, TableEntry, add_entity, add_function, add_import, add_table, global_of, import_of, memory_of, next_number, no_body, space_of, table_of, with_function, with_global, with_import, with_memory, with_table, with_tag}
use Rattle.wasm_ruled_modules.specs.Keeping.{EntriesKeep, file_kept}
use Rattle.wasm_import_links.specs.Links.{AreLinked, ImportsLink, ReadModulesLink, brought, function_brought, global_brought, memory_brought, slot_import, table_brought, tag_brought}
use Rattle.wasm_import_links.proofs.SlotLemmas.{import_pushed, own_pushed, same_links}

-- ---- a function

function_more : (s : State) (x : Function) → map (slot_import function_brought) (s.filled.functions ++ Some x ∷ []) ≡ map (slot_import function_brought) s.filled.functions ++ function_brought x ∷ []
function_more s x = map-append (slot_import function_brought) s.filled.functions (Some x ∷ [])

function_own : (s : State) (x : Function) → function_brought x ≡ None → (space : Space) → (brought (with_function s x).filled space ≡ brought s.filled space) ⊎ (brought (with_function s x).filled space ≡ brought s.filled space ++ None ∷ [])
function_own s x own spaces.«Type» = inl refl
function_own s x own spaces.Function = inr (function_more s x ∙ ap (λ (n : Option ℕ). map (slot_import function_brought) s.filled.functions ++ n ∷ []) own)
function_own s x own spaces.Table = inl refl
function_own s x own spaces.Memory = inl refl
function_own s x own spaces.Tag = inl refl
function_own s x own spaces.Global = inl refl
function_own s x own spaces.Element = inl refl
function_own s x own spaces.Data = inl refl
function_own s x own spaces.Local = inl refl
function_own s x own spaces.Label = inl refl

pub function_links : (s : State) (x : Function) → function_brought x ≡ None → ImportsLink s.filled → ImportsLink (with_function s x).filled
function_links s x own h = own_pushed (brought s.filled) (brought (with_function s x).filled) s.filled.imports (function_own s x own) h

function_others : (s : State) (x : Function) (space : Space) → (space ≡ spaces.Function) ⊎ (brought (with_function s x).filled space ≡ brought s.filled space)
function_others s x spaces.«Type» = inr refl
function_others s x spaces.Function = inl refl
function_others s x spaces.Table = inr refl
function_others s x spaces.Memory = inr refl
function_others s x spaces.Tag = inr refl
function_others s x spaces.Global = inr refl
function_others s x spaces.Element = inr refl
function_others s x spaces.Data = inr refl
function_others s x spaces.Local = inr refl
function_others s x spaces.Label = inr refl

function_import : (s : State) (m_name name : List ℕ) (x : Function) → function_brought x ≡ Some (length s.filled.imports) → ImportsLink s.filled
    → AreLinked (brought (with_function s x).filled) (s.filled.imports ++ Some (record { space_name = m_name; name = name; item = record { space = spaces.Function; number = length s.filled.functions } }) ∷ [])
function_import s m_name name x is h =
    let i : Import = record { space_name = m_name; name = name; item = record { space = spaces.Function; number = length s.filled.functions } } in
    import_pushed (brought s.filled) (brought (with_function s x).filled) s.filled.imports i
    (function_more s x ∙ ap (λ (n : Option ℕ). map (slot_import function_brought) s.filled.functions ++ n ∷ []) is)
    (sym (length-map s.filled.functions (slot_import function_brought))) (function_others s x) h

-- ---- a table

table_more : (s : State) (x : Table) → map (slot_import table_brought) (s.filled.tables ++ Some x ∷ []) ≡ map (slot_import table_brought) s.filled.tables ++ table_brought x ∷ []
table_more s x = map-append (slot_import table_brought) s.filled.tables (Some x ∷ [])

table_own : (s : State) (x : Table) → table_brought x ≡ None → (space : Space) → (brought (with_table s x).filled space ≡ brought s.filled space) ⊎ (brought (with_table s x).filled space ≡ brought s.filled space ++ None ∷ [])
table_own s x own spaces.«Type» = inl refl
table_own s x own spaces.Function = inl refl
table_own s x own spaces.Table = inr (table_more s x ∙ ap (λ (n : Option ℕ). map (slot_import table_brought) s.filled.tables ++ n ∷ []) own)
table_own s x own spaces.Memory = inl refl
table_own s x own spaces.Tag = inl refl
table_own s x own spaces.Global = inl refl
table_own s x own spaces.Element = inl refl
table_own s x own spaces.Data = inl refl
table_own s x own spaces.Local = inl refl
table_own s x own spaces.Label = inl refl

pub table_links : (s : State) (x : Table) → table_brought x ≡ None → ImportsLink s.filled → ImportsLink (with_table s x).filled
table_links s x own h = own_pushed (brought s.filled) (brought (with_table s x).filled) s.filled.imports (table_own s x own) h

table_others : (s : State) (x : Table) (space : Space) → (space ≡ spaces.Table) ⊎ (brought (with_table s x).filled space ≡ brought s.filled space)
table_others s x spaces.«Type» = inr refl
table_others s x spaces.Function = inr refl
table_others s x spaces.Table = inl refl
table_others s x spaces.Memory = inr refl
table_others s x spaces.Tag = inr refl
table_others s x spaces.Global = inr refl
table_others s x spaces.Element = inr refl
table_others s x spaces.Data = inr refl
table_others s x spaces.Local = inr refl
table_others s x spaces.Label = inr refl

table_import : (s : State) (m_name name : List ℕ) (x : Table) → table_brought x ≡ Some (length s.filled.imports) → ImportsLink s.filled
    → AreLinked (brought (with_table s x).filled) (s.filled.imports ++ Some (record { space_name = m_name; name = name; item = record { space = spaces.Table; number = length s.filled.tables } }) ∷ [])
table_import s m_name name x is h =
    let i : Import = record { space_name = m_name; name = name; item = record { space = spaces.Table; number = length s.filled.tables } } in
    import_pushed (brought s.filled) (brought (with_table s x).filled) s.filled.imports i
    (table_more s x ∙ ap (λ (n : Option ℕ). map (slot_import table_brought) s.filled.tables ++ n ∷ []) is)
    (sym (length-map s.filled.tables (slot_import table_brought))) (table_others s x) h

-- ---- a memory

memory_more : (s : State) (x : Memory) → map (slot_import memory_brought) (s.filled.memories ++ Some x ∷ []) ≡ map (slot_import memory_brought) s.filled.memories ++ memory_brought x ∷ []
memory_more s x = map-append (slot_import memory_brought) s.filled.memories (Some x ∷ [])

memory_own : (s : State) (x : Memory) → memory_brought x ≡ None → (space : Space) → (brought (with_memory s x).filled space ≡ brought s.filled space) ⊎ (brought (with_memory s x).filled space ≡ brought s.filled space ++ None ∷ [])
memory_own s x own spaces.«Type» = inl refl
memory_own s x own spaces.Function = inl refl
memory_own s x own spaces.Table = inl refl
memory_own s x own spaces.Memory = inr (memory_more s x ∙ ap (λ (n : Option ℕ). map (slot_import memory_brought) s.filled.memories ++ n ∷ []) own)
memory_own s x own spaces.Tag = inl refl
memory_own s x own spaces.Global = inl refl
memory_own s x own spaces.Element = inl refl
memory_own s x own spaces.Data = inl refl
memory_own s x own spaces.Local = inl refl
memory_own s x own spaces.Label = inl refl

pub memory_links : (s : State) (x : Memory) → memory_brought x ≡ None → ImportsLink s.filled → ImportsLink (with_memory s x).filled
memory_links s x own h = own_pushed (brought s.filled) (brought (with_memory s x).filled) s.filled.imports (memory_own s x own) h

memory_others : (s : State) (x : Memory) (space : Space) → (space ≡ spaces.Memory) ⊎ (brought (with_memory s x).filled space ≡ brought s.filled space)
memory_others s x spaces.«Type» = inr refl
memory_others s x spaces.Function = inr refl
memory_others s x spaces.Table = inr refl
memory_others s x spaces.Memory = inl refl
memory_others s x spaces.Tag = inr refl
memory_others s x spaces.Global = inr refl
memory_others s x spaces.Element = inr refl
memory_others s x spaces.Data = inr refl
memory_others s x spaces.Local = inr refl
memory_others s x spaces.Label = inr refl

memory_import : (s : State) (m_name name : List ℕ) (x : Memory) → memory_brought x ≡ Some (length s.filled.imports) → ImportsLink s.filled
    → AreLinked (brought (with_memory s x).filled) (s.filled.imports ++ Some (record { space_name = m_name; name = name; item = record { space = spaces.Memory; number = length s.filled.memories } }) ∷ [])
memory_import s m_name name x is h =
    let i : Import = record { space_name = m_name; name = name; item = record { space = spaces.Memory; number = length s.filled.memories } } in
    import_pushed (brought s.filled) (brought (with_memory s x).filled) s.filled.imports i
    (memory_more s x ∙ ap (λ (n : Option ℕ). map (slot_import memory_brought) s.filled.memories ++ n ∷ []) is)
    (sym (length-map s.filled.memories (slot_import memory_brought))) (memory_others s x) h

-- ---- a tag

tag_more : (s : State) (x : Tag) → map (slot_import tag_brought) (s.filled.tags ++ Some x ∷ []) ≡ map (slot_import tag_brought) s.filled.tags ++ tag_brought x ∷ []
tag_more s x = map-append (slot_import tag_brought) s.filled.tags (Some x ∷ [])

tag_own : (s : State) (x : Tag) → tag_brought x ≡ None → (space : Space) → (brought (with_tag s x).filled space ≡ brought s.filled space) ⊎ (brought (with_tag s x).filled space ≡ brought s.filled space ++ None ∷ [])
tag_own s x own spaces.«Type» = inl refl
tag_own s x own spaces.Function = inl refl
tag_own s x own spaces.Table = inl refl
tag_own s x own spaces.Memory = inl refl
tag_own s x own spaces.Tag = inr (tag_more s x ∙ ap (λ (n : Option ℕ). map (slot_import tag_brought) s.filled.tags ++ n ∷ []) own)
tag_own s x own spaces.Global = inl refl
tag_own s x own spaces.Element = inl refl
tag_own s x own spaces.Data = inl refl
tag_own s x own spaces.Local = inl refl
tag_own s x own spaces.Label = inl refl

pub tag_links : (s : State) (x : Tag) → tag_brought x ≡ None → ImportsLink s.filled → ImportsLink (with_tag s x).filled
tag_links s x own h = own_pushed (brought s.filled) (brought (with_tag s x).filled) s.filled.imports (tag_own s x own) h

tag_others : (s : State) (x : Tag) (space : Space) → (space ≡ spaces.Tag) ⊎ (brought (with_tag s x).filled space ≡ brought s.filled space)
tag_others s x spaces.«Type» = inr refl
tag_others s x spaces.Function = inr refl
tag_others s x spaces.Table = inr refl
tag_others s x spaces.Memory = inr refl
tag_others s x spaces.Tag = inl refl
tag_others s x spaces.Global = inr refl
tag_others s x spaces.Element = inr refl
tag_others s x spaces.Data = inr refl
tag_others s x spaces.Local = inr refl
tag_others s x spaces.Label = inr refl

tag_import : (s : State) (m_name name : List ℕ) (x : Tag) → tag_brought x ≡ Some (length s.filled.imports) → ImportsLink s.filled
    → AreLinked (brought (with_tag s x).filled) (s.filled.imports ++ Some (record { space_name = m_name; name = name; item = record { space = spaces.Tag; number = length s.filled.tags } }) ∷ [])
tag_import s m_name name x is h =
    let i : Import = record { space_name = m_name; name = name; item = record { space = spaces.Tag; number = length s.filled.tags } } in
    import_pushed (brought s.filled) (brought (with_tag s x).filled) s.filled.imports i
    (tag_more s x ∙ ap (λ (n : Option ℕ). map (slot_import tag_brought) s.filled.tags ++ n ∷ []) is)
    (sym (length-map s.filled.tags (slot_import tag_brought))) (tag_others s x) h

-- ---- a global

global_more : (s : State) (x : Global) → map (slot_import global_brought) (s.filled.globals ++ Some x ∷ []) ≡ map (slot_import global_brought) s.filled.globals ++ global_brought x ∷ []
global_more s x = map-append (slot_import global_brought) s.filled.globals (Some x ∷ [])

global_own : (s : State) (x : Global) → global_brought x ≡ None → (space : Space) → (brought (with_global s x).filled space ≡ brought s.filled space) ⊎ (brought (with_global s x).filled space ≡ brought s.filled space ++ None ∷ [])
global_own s x own spaces.«Type» = inl refl
global_own s x own spaces.Function = inl refl
global_own s x own spaces.Table = inl refl
global_own s x own spaces.Memory = inl refl
global_own s x own spaces.Tag = inl refl
global_own s x own spaces.Global = inr (global_more s x ∙ ap (λ (n : Option ℕ). map (slot_import global_brought) s.filled.globals ++ n ∷ []) own)
global_own s x own spaces.Element = inl refl
global_own s x own spaces.Data = inl refl
global_own s x own spaces.Local = inl refl
global_own s x own spaces.Label = inl refl

pub global_links : (s : State) (x : Global) → global_brought x ≡ None → ImportsLink s.filled → ImportsLink (with_global s x).filled
global_links s x own h = own_pushed (brought s.filled) (brought (with_global s x).filled) s.filled.imports (global_own s x own) h

global_others : (s : State) (x : Global) (space : Space) → (space ≡ spaces.Global) ⊎ (brought (with_global s x).filled space ≡ brought s.filled space)
global_others s x spaces.«Type» = inr refl
global_others s x spaces.Function = inr refl
global_others s x spaces.Table = inr refl
global_others s x spaces.Memory = inr refl
global_others s x spaces.Tag = inr refl
global_others s x spaces.Global = inl refl
global_others s x spaces.Element = inr refl
global_others s x spaces.Data = inr refl
global_others s x spaces.Local = inr refl
global_others s x spaces.Label = inr refl

global_import : (s : State) (m_name name : List ℕ) (x : Global) → global_brought x ≡ Some (length s.filled.imports) → ImportsLink s.filled
    → AreLinked (brought (with_global s x).filled) (s.filled.imports ++ Some (record { space_name = m_name; name = name; item = record { space = spaces.Global; number = length s.filled.globals } }) ∷ [])
global_import s m_name name x is h =
    let i : Import = record { space_name = m_name; name = name; item = record { space = spaces.Global; number = length s.filled.globals } } in
    import_pushed (brought s.filled) (brought (with_global s x).filled) s.filled.imports i
    (global_more s x ∙ ap (λ (n : Option ℕ). map (slot_import global_brought) s.filled.globals ++ n ∷ []) is)
    (sym (length-map s.filled.globals (slot_import global_brought))) (global_others s x) h

-- ---- entries

entity_links : (s : State) (m_name name : List ℕ) (e : Entity) → ImportsLink s.filled
    → ImportsLink (add_entity (with_import s (record { space_name = m_name; name = name; item = record { space = space_of e; number = next_number s e } })) (length s.filled.imports) e).filled
entity_links s m_name name (FunctionOf ty) h = let l = function_import s m_name name (record { ty = ty; origin = Imported (length s.filled.imports) }) refl h in record { named = l.named; told = l.told }
entity_links s m_name name (TableOf ty) h = let l = table_import s m_name name (table_of ty None (Some (length s.filled.imports))) refl h in record { named = l.named; told = l.told }
entity_links s m_name name (MemoryOf ty) h = let l = memory_import s m_name name (memory_of ty (Some (length s.filled.imports))) refl h in record { named = l.named; told = l.told }
entity_links s m_name name (GlobalOf ty) h = let l = global_import s m_name name (global_of ty (Imported (length s.filled.imports))) refl h in record { named = l.named; told = l.told }
entity_links s m_name name (TagOf ty) h = let l = tag_import s m_name name (record { ty = ty.1; imported = Some (length s.filled.imports) }) refl h in record { named = l.named; told = l.told }

table_entry_links : (s : State) (x : TableEntry) → ImportsLink s.filled → ImportsLink (add_table s x).filled
table_entry_links s (inl x) h = table_links s (table_of x.1.0 (Some x.1.1) None) refl h
table_entry_links s (inr ty) h = table_links s (table_of ty None None) refl h

links_kept : (features : WasmFeatures) → EntriesKeep features ImportsLink
links_kept features = record {
  customs = λ _ s x h. record { named = h.named; told = h.told };
  groups = λ s bytes x _ r h. record { named = h.named; told = h.told };
  imports = λ s bytes x _ r h. entity_links s x.0 x.1.0 x.1.1.1 h;
  functions = λ s bytes x _ r h. function_links s (record { ty = x; origin = Own no_body }) refl h;
  tables = λ s bytes x _ r h. table_entry_links s x h;
  memories = λ s bytes x _ r h. memory_links s (memory_of x None) refl h;
  tags = λ s bytes x _ r h. tag_links s (record { ty = x.1; imported = None }) refl h;
  globals = λ s bytes x _ r h. global_links s (global_of x.0 (Own x.1)) refl h;
  exports = λ s bytes x _ r h. record { named = h.named; told = h.told };
  start = λ s n r h. record { named = h.named; told = h.told };
  elements = λ s bytes x _ r h. record { named = h.named; told = h.told };
  segments = λ s bytes x _ r h. record { named = h.named; told = h.told };
}

none_link : ImportsLink empty
none_link = record { named = λ i x e. absurd cc; told = told }
  where
    told : (space : Space) (n i : ℕ) → slice_index_or (brought empty space) n None ≡ Some i → (x : Import) × (slice_index_or [] i None ≡ Some x) × (x.item ≡ record { space = space; number = n })
    told spaces.«Type» n i e = absurd cc
    told spaces.Function n i e = absurd cc
    told spaces.Table n i e = absurd cc
    told spaces.Memory n i e = absurd cc
    told spaces.Tag n i e = absurd cc
    told spaces.Global n i e = absurd cc
    told spaces.Element n i e = absurd cc
    told spaces.Data n i e = absurd cc
    told spaces.Local n i e = absurd cc
    told spaces.Label n i e = absurd cc

-- ---- bodies

body_brought : (ty : ℕ) (origin : Origin Body) (fs : List (Option Function)) (bodies : List Body)
    → ((later : List Body) → map (slot_import function_brought) (with_bodies fs later) ≡ map (slot_import function_brought) fs)
    → map (slot_import function_brought) (with_bodies (Some (record { ty = ty; origin = origin }) ∷ fs) bodies) ≡ map (slot_import function_brought) (Some (record { ty = ty; origin = origin }) ∷ fs)
body_brought ty (Imported n) fs bodies h = ap (λ (l : List (Option ℕ)). Some n ∷ l) (h bodies)
body_brought ty (Own b) fs [] h = ap (λ (l : List (Option ℕ)). None ∷ l) (h [])
body_brought ty (Own b) fs (body ∷ bodies) h = ap (λ (l : List (Option ℕ)). None ∷ l) (h bodies)

bodies_brought : (fs : List (Option Function)) (bodies : List Body) → map (slot_import function_brought) (with_bodies fs bodies) ≡ map (slot_import function_brought) fs
bodies_brought [] bodies = refl
bodies_brought (None ∷ fs) bodies = ap (λ (l : List (Option ℕ)). None ∷ l) (bodies_brought fs bodies)
bodies_brought (Some f ∷ fs) bodies = body_brought f.ty f.origin fs bodies (bodies_brought fs)

with_bodies_brought : (s : State) (bodies : List Body) (space : Space) → brought (module_of s bodies) space ≡ brought s.filled space
with_bodies_brought s bodies spaces.«Type» = refl
with_bodies_brought s bodies spaces.Function = bodies_brought s.filled.functions bodies
with_bodies_brought s bodies spaces.Table = refl
with_bodies_brought s bodies spaces.Memory = refl
with_bodies_brought s bodies spaces.Tag = refl
with_bodies_brought s bodies spaces.Global = refl
with_bodies_brought s bodies spaces.Element = refl
with_bodies_brought s bodies spaces.Data = refl
with_bodies_brought s bodies spaces.Local = refl
with_bodies_brought s bodies spaces.Label = refl

pub modules_link : ReadModulesLink
modules_link features bytes m h =
    let s = h.1.0 in
    let reads = h.1.2 in
    let kept = file_kept features ImportsLink (links_kept features) none_link bytes reads.0 reads.1.0 reads.1.1 in
    let there = subst (λ (t : State). ImportsLink t.filled) reads.2 kept in
    subst ImportsLink h.1.4 (same_links (brought s.filled) (brought (module_of s h.1.1)) s.filled.imports s.filled.imports (with_bodies_brought s h.1.1) refl there)
