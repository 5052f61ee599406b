-- Lemmas: what is spelled and ruled reads, and what reads is spelled.
use Rattle.std.specs.Prelude.{ℕ, ◌≤◌, ◌≡◌, Bool, List, [], ◌∷◌, length, filter, drop, Option, Some, None, refl}
use Rattle.std.specs.Option.{is_some}
use Rattle.std.proofs.Common.{ap, sym, ◌∙◌, subst, arith, inl, inr}
use Rattle.std.proofs.lemmas.Bool.{cases_Bool}
use Rattle.wasm_features.specs.declared.WasmFeatures.{WasmFeatures}
use Rattle.wasm_formats.specs.declared.fault.Space.{Space}
use Rattle.wasm_formats.specs.declared.fault.Space.TheVariants as spaces
use Rattle.wasm_formats.specs.Formats.{Format}
use Rattle.wasm_formats.specs.Lists.{EntryRules, SpellsEntries}
use Rattle.wasm_grammar.specs.Modules.{Body, Function, Table, Element, Segment, Import, Export, Module}
use Rattle.wasm_grammar.specs.Exprs.{Known}
use Rattle.wasm_grammar.specs.States.{State, types_of, count_of, nothing_yet}
use Rattle.wasm_body_grammar.specs.Rules.{Around}
use Rattle.wasm_body_grammar.specs.Bodies.{Run, run, next_total}
use Rattle.wasm_body_grammar.specs.Laws.{ReadsBody}
use Rattle.wasm_body_grammar.specs.Codes.{Code, own_type, ReadsCodes, filled_with, with_bodies}
use Rattle.wasm_sections.specs.TypeSection.{group, add_group}
use Rattle.wasm_sections.specs.Entities.{import_entry, add_import, table_entry, add_table, memory_entry, add_memory, global_entry, add_global}
use Rattle.wasm_sections.specs.Exports.{export_entry, add_export}
use Rattle.wasm_sections.specs.Sections.{Section, CustomSection, TypeSection, ImportSection, FunctionSection, TableSection, MemorySection, TagSection, GlobalSection, ExportSection, StartSection, ElementSection, DataCountSection, CodeSection, DataSection, id_of, section, SectionEntry, section_entry, next}
use Rattle.wasm_sections.specs.Ids.{section_id}
use Rattle.wasm_sections.specs.Modules.{FileEntry, file, state_of}
use Rattle.wasm_module_rules.specs.wasm_modules.Modules.{same_of, around, chunks_of, codes, module_of, IsShort, Reads}
use Rattle.wasm_module_rules.specs.Entries.{AllRuled}
use Rattle.wasm_module_rules.specs.Linked.{Each, IsFunctionType, IsThere, AreListed, IsLinked}
use Rattle.wasm_module_rules.specs.Keeps.{each_later, below_later, listed_later, there_later}
use Rattle.wasm_module_rules.specs.Reading.{bodies_length}
use Rattle.wasm_ruled_modules.specs.Rules.{IsInit, knows, IsPlaced, table_wide, memory_wide, ItemsKnown, is_imported, knows_imported, GlobalsSee, AreExpressed, around_bodies, HasBody, IsRuled}
use Rattle.wasm_ruled_modules.specs.Bodied.{bodies_are, bare_same}
use Rattle.wasm_ruled_modules.specs.Codes.{bodies_match}
use Rattle.wasm_ruled_modules.specs.Reading.{read_modules_are_ruled}
use Rattle.wasm_module_spellings.specs.Spelled.{IsFormed, SectionFormed, AreFormed, RunsFormed, SpellsBody, SpellsCodes, SpellsModule, ReadsIsSpelledAndRuled}
use Rattle.wasm_module_spellings.proofs.Fronts.{fronts_all}
use Rattle.wasm_module_spellings.proofs.Items.{Holds, known_is}
use Rattle.wasm_module_spellings.proofs.Bodies.{codes_read}
use Rattle.wasm_module_spellings.proofs.Sections.{AreBare, sections_bare, sections_back}

-- ---- the rules of a module, without its bodies

filled_type : (P : ℕ → Type 0) (f : Option Function) (bodies : List Body) (fs gs : List (Option Function)) → Each (λ (f : Function). P f.ty) (filled_with f bodies ∷ fs)
    → (Each (λ (f : Function). P f.ty) fs → Each (λ (f : Function). P f.ty) gs) → Each (λ (f : Function). P f.ty) (f ∷ gs)
filled_type P None bodies fs gs h k = k h
filled_type P (Some f) [] fs gs h k = (h.0, k h.1)
filled_type P (Some f) (body ∷ bodies) fs gs h k = (h.0, k h.1)

same_type : (P : ℕ → Type 0) (f : Option Function) (fs gs : List (Option Function)) → Each (λ (f : Function). P f.ty) (f ∷ fs) → (Each (λ (f : Function). P f.ty) fs → Each (λ (f : Function). P f.ty) gs)
    → Each (λ (f : Function). P f.ty) (f ∷ gs)
same_type P None fs gs h k = k h
same_type P (Some f) fs gs h k = (h.0, k h.1)

types_without : (P : ℕ → Type 0) (fs : List (Option Function)) (bodies : List Body) → Each (λ (f : Function). P f.ty) (with_bodies fs bodies) → Each (λ (f : Function). P f.ty) fs
types_without P [] bodies h = tt
types_without P (f ∷ fs) bodies h = elim (cases_Bool (is_some (own_type f))) [
  | inl own ↦ filled_type P f bodies (with_bodies fs (drop 1 bodies)) fs (rw own at h) (types_without P fs (drop 1 bodies))
  | inr other ↦ same_type P f (with_bodies fs bodies) fs (rw other at h) (types_without P fs bodies)
]

counts_without : (s : State) (bodies : List Body) (space : Space) → count_of (module_of s bodies) space ≤ count_of s.filled space
counts_without s bodies spaces.Type = omega arith
counts_without s bodies spaces.Function = omega (arith, bodies_length s.filled.functions bodies)
counts_without s bodies spaces.Table = omega arith
counts_without s bodies spaces.Memory = omega arith
counts_without s bodies spaces.Tag = omega arith
counts_without s bodies spaces.Global = omega arith
counts_without s bodies spaces.Element = omega arith
counts_without s bodies spaces.Data = omega arith
counts_without s bodies spaces.Local = omega arith
counts_without s bodies spaces.Label = omega arith

linked_without : (s : State) (bodies : List Body) → IsLinked (module_of s bodies) → IsLinked s.filled
linked_without s bodies h =
    let m = module_of s bodies in
    let le : length m.functions ≤ length s.filled.functions = omega (arith, bodies_length s.filled.functions bodies) in record {
      functions_typed = types_without (λ (n : ℕ). IsFunctionType s.filled n) s.filled.functions bodies h.functions_typed;
      tags_typed = h.tags_typed;
      tables_limited = h.tables_limited;
      memories_limited = h.memories_limited;
      imports_there = each_later (λ (i : Import). IsThere m i.item) (λ (i : Import). IsThere s.filled i.item) (λ i p. there_later m s.filled i.item (counts_without s bodies i.item.space) p) s.filled.imports h.imports_there;
      exports_there = each_later (λ (e : Export). IsThere m e.item) (λ (e : Export). IsThere s.filled e.item) (λ e p. there_later m s.filled e.item (counts_without s bodies e.item.space) p) s.filled.exports h.exports_there;
      exports_distinct = h.exports_distinct;
      start_there = below_later (length m.functions) (length s.filled.functions) s.filled.start le h.start_there;
      elements_there = h.elements_there;
      elements_listed = each_later (λ (e : Element). AreListed (length m.functions) e.items) (λ (e : Element). AreListed (length s.filled.functions) e.items)
          (λ e p. listed_later (length m.functions) (length s.filled.functions) e.items le p) s.filled.elements h.elements_listed;
      segments_there = h.segments_there;
    }

expressed_without : (s : State) (bodies : List Body) → AreExpressed (module_of s bodies) → AreExpressed s.filled
expressed_without s bodies e =
    let m = module_of s bodies in
    let n = length (types_of s.filled) in
    let count = bodies_length s.filled.functions bodies in
    let all : knows m ≡ knows s.filled = known_is n n (length m.functions) (length s.filled.functions) s.filled.globals s.filled.globals refl count refl in
    let imports : knows_imported m ≡ knows_imported s.filled =
    known_is n n (length m.functions) (length s.filled.functions) (filter is_imported s.filled.globals) (filter is_imported s.filled.globals) refl count refl in record {
      tables = subst (λ (k : Known). Each (λ (t : Table). IsInit k t.init) s.filled.tables) imports e.tables;
      globals = subst (λ (f : ℕ). GlobalsSee n f [] s.filled.globals) count e.globals;
      offsets = subst (λ (k : Known). Each (λ (x : Element). IsPlaced (table_wide s.filled.tables) k x.mode) s.filled.elements) all e.offsets;
      items = subst (λ (k : Known). Each (λ (x : Element). ItemsKnown k x.items) s.filled.elements) all e.items;
      segments = subst (λ (k : Known). Each (λ (x : Segment). IsPlaced (memory_wide s.filled.memories) k x.mode) s.filled.segments) all e.segments;
    }

holds_without : (features : WasmFeatures) (counted : Bool) (s : State) (bodies : List Body) → IsRuled features counted (module_of s bodies) → Holds s.filled
holds_without features counted s bodies r =
    let lists = r.lists in
    let named = r.named in
    let most = lists.functions in record {
      linked = linked_without s bodies r.linked;
      lists = record {
        types = lists.types;
        imports = lists.imports;
        functions = omega (arith, most, bodies_length s.filled.functions bodies);
        tables = lists.tables;
        memories = lists.memories;
        tags = lists.tags;
        globals = lists.globals;
        exports = lists.exports;
        elements = lists.elements;
        segments = lists.segments;
      };
      groups = r.groups;
      named = record { tables = named.tables; globals = named.globals; elements = named.elements; pages = named.pages };
      expressed = expressed_without s bodies r.expressed;
    }

-- ---- what is spelled and ruled reads

around_is : (features : WasmFeatures) (counted : Bool) (s : State) (bodies : List Body) → AreBare s → is_some s.data_count ≡ counted → around_bodies features counted (module_of s bodies) ≡ around features s
around_is features counted s bodies bare told =
    ap (λ (c : Bool). around_bodies features c (module_of s bodies)) (sym told)
    ∙ ap (λ (fs : List (Option Function)). record { features = features; filled = record s.filled { functions = fs }; same = same_of s.filled; counted = is_some s.data_count })
    (bare_same s.filled.functions bodies ∙ bare)

joins : (features : WasmFeatures) (bytes : List ℕ) (counted : Bool) (m : Module) → IsShort bytes → SpellsModule features bytes counted m → IsRuled features counted m → Reads features bytes m
joins features bytes counted m short h ruled =
    let x = h.entry in
    let s = state_of x in
    let xs = h.bodies in
    let all : IsRuled features counted (module_of s xs) = subst (IsRuled features counted) (sym h.joined) ruled in
    let spelled = h.spelled in
    let back = sections_back s.filled (holds_without features counted s xs all) features x.1 nothing_yet spelled.1 spelled.4 h.formed (λ lt. refl) (fronts_all s.last s.filled) in
    let rules : (file features).rules x = ((tt, back.1), h.complete) in
    let bare = sections_bare x.1 nothing_yet refl in
    let same = around_is features counted s xs bare h.told in
    let bodies = subst (λ (a : Around). Each (λ (f : Function). HasBody a f) (with_bodies s.filled.functions xs)) same all.bodies in (
      short,
      (
        s,
        xs,
        (x, (spelled, rules), refl),
        codes_read (around features s) s.filled s.filled.functions (chunks_of s.bodies) xs (bodies_match features bytes x spelled rules) h.coded bodies,
        h.joined,
      ),
    )

-- ---- what reads is spelled

all_formed : {A : Type 0} (add : State → A → State) (entry : State → Format A) (xs : List A) (s : State) → EntryRules add entry s xs → AllRuled (IsFormed entry) xs
all_formed add entry [] s r = tt
all_formed add entry (x ∷ xs) s r = ((s, r.0), all_formed add entry xs (add s x) r.1)

section_formed : (features : WasmFeatures) (s : State) (x : Section) → (section features s (id_of x)).rules x → SectionFormed features s x
section_formed features s (CustomSection x) r = tt
section_formed features s (TypeSection x) r = all_formed add_group (group features) x s (r x refl)
section_formed features s (ImportSection x) r = all_formed add_import (import_entry features) x s (r x refl)
section_formed features s (FunctionSection x) r = tt
section_formed features s (TableSection x) r = all_formed add_table (table_entry features) x s (r x refl)
section_formed features s (MemorySection x) r = all_formed add_memory memory_entry x s (r x refl)
section_formed features s (TagSection x) r = tt
section_formed features s (GlobalSection x) r = all_formed add_global (global_entry features) x s (r x refl)
section_formed features s (ExportSection x) r = all_formed add_export export_entry x s (r x refl)
section_formed features s (StartSection n) r = tt
section_formed features s (ElementSection x) r = tt
section_formed features s (DataCountSection n) r = tt
section_formed features s (CodeSection x) r = r x refl
section_formed features s (DataSection x) r = let q = r x refl in q.0

sections_formed : (features : WasmFeatures) (xs : List SectionEntry) (s : State) (bytes : List ℕ) → SpellsEntries next (section_entry features) s bytes xs → EntryRules next (section_entry features) s xs → AreFormed features s xs
sections_formed features [] s bytes h r = tt
sections_formed features (x ∷ xs) s bytes h r =
    let parts = (h.3).0 in
    let is = section_id features s x.1.0 parts.1 x.1.1 parts.4 in
    let one = r.0 in let order = one.0 in
    (order.1, section_formed features s x.1.1 (subst (λ (n : ℕ). (section features s n).rules x.1.1) (sym is) one.1), sections_formed features xs (next s x) h.1 h.4 r.1)

runs_formed : (a : Around) (total : ℕ) (list : List Run) → EntryRules next_total (run a) total list → RunsFormed a total list
runs_formed a total [] r = tt
runs_formed a total (x ∷ list) r = ((λ none. r.0), runs_formed a (next_total total x) list r.1)

body_spelled : (a : Around) (params place : ℕ) (bytes : List ℕ) (x : Body) → ReadsBody a params place bytes x → SpellsBody a params place bytes x
body_spelled a params place bytes x h = let parts = h.0 in let rules = h.1.1 in (parts, h.1.0, runs_formed a params parts.0.1 rules.0, h.2)

codes_spelled : (a : Around) (cs : List Code) (xs : List Body) → ReadsCodes a cs xs → SpellsCodes a cs xs
codes_spelled a [] [] h = tt
codes_spelled a [] (x ∷ xs) h = absurd h
codes_spelled a (c ∷ cs) [] h = absurd h
codes_spelled a (c ∷ cs) (x ∷ xs) h = (body_spelled a c.params c.chunk.place c.chunk.bytes x h.0, codes_spelled a cs xs h.1)

-- whatever the rules hold for, they hold where the data count is as the file has it
ruled_there : (features : WasmFeatures) (bytes : List ℕ) (x : FileEntry) (xs : List Body) (m : Module) → (file features).spells bytes x → (file features).rules x
    → ReadsCodes (around features (state_of x)) (codes (state_of x)) xs → module_of (state_of x) xs ≡ m → ((counted : Bool) × IsRuled features counted m) → IsRuled features (is_some (state_of x).data_count) m
ruled_there features bytes x xs m spelled rules h same r =
    let s = state_of x in
    let counted = is_some s.data_count in
    let all = r.1 in
    let there = bodies_are (around features s) s.filled s.filled.functions (chunks_of s.bodies) xs (bodies_match features bytes x spelled rules) h in
    let around_same = around_is features counted s xs (sections_bare x.1 nothing_yet refl) refl in record {
      linked = all.linked;
      lists = all.lists;
      groups = all.groups;
      named = all.named;
      expressed = all.expressed;
      bodies = subst (λ (m : Module). Each (λ (f : Function). HasBody (around_bodies features counted m) f) m.functions) same
          (subst (λ (a : Around). Each (λ (f : Function). HasBody a f) (with_bodies s.filled.functions xs)) (sym around_same) there);
    }

parts_at : (features : WasmFeatures) (bytes : List ℕ) (x : FileEntry) (xs : List Body) (m : Module) → (file features).spells bytes x → (file features).rules x
    → ReadsCodes (around features (state_of x)) (codes (state_of x)) xs → module_of (state_of x) xs ≡ m → ((counted : Bool) × IsRuled features counted m)
    → (counted : Bool) × SpellsModule features bytes counted m × IsRuled features counted m
parts_at features bytes x xs m spelled rules h same r =
    let sections = rules.0 in
    let list = spelled in (
      is_some (state_of x).data_count,
      record {
        entry = x;
        bodies = xs;
        spelled = spelled;
        formed = sections_formed features x.1 nothing_yet list.1 list.4 sections.1;
        complete = rules.1;
        coded = codes_spelled (around features (state_of x)) (codes (state_of x)) xs h;
        told = refl;
        joined = same;
      },
      ruled_there features bytes x xs m spelled rules h same r,
    )

parts : (features : WasmFeatures) (bytes : List ℕ) (m : Module) → Reads features bytes m → (counted : Bool) × SpellsModule features bytes counted m × IsRuled features counted m
parts features bytes m h =
    let reads = h.1.2 in
    let xs = h.1.1 in
    parts_at features bytes reads.0 xs m reads.1.0 reads.1.1 (subst (λ (s : State). ReadsCodes (around features s) (codes s) xs) (sym reads.2) h.1.3)
    (ap (λ (s : State). module_of s xs) reads.2 ∙ h.1.4) (read_modules_are_ruled features bytes m h)

pub reads_is_spelled_and_ruled : ReadsIsSpelledAndRuled
reads_is_spelled_and_ruled = record { parts = parts; joins = joins }
