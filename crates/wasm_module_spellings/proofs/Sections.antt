-- Lemmas: sections that are spelled and formed, of a module that meets the rules, meet theirs.
use Rattle.std.specs.Prelude.{ℕ, ◌+◌, ◌<◌, ◌≡◌, nat_lt, List, [], ◌∷◌, ◌++◌, length, map, fold, filter, Option, Some, None, refl}
use Rattle.std.proofs.Common.{ap, sym, ◌∙◌, subst, arith, inl, inr}
use Rattle.std.proofs.lemmas.Bool.{ltb-true}
use Rattle.std.proofs.lemmas.List.{map-append}
use Rattle.std.proofs.lemmas.List.Elements.{filter-append}
use Rattle.wasm_features.specs.declared.WasmFeatures.{WasmFeatures}
use Rattle.wasm_formats.specs.Stops.{SectionOrder}
use Rattle.wasm_formats.specs.Formats.{Format}
use Rattle.wasm_formats.specs.Lists.{SpellsEntries, EntryRules}
use Rattle.wasm_formats.specs.Wholes.{whole, sized}
use Rattle.wasm_file_formats.specs.Counted.{counted}
use Rattle.wasm_grammar.specs.Modules.{Own, Imported, Function, Global, Module}
use Rattle.wasm_grammar.specs.States.{State}
use Rattle.wasm_grammar.specs.Values.{must}
use Rattle.wasm_sections.specs.TypeSection.{GroupEntry, group, add_group}
use Rattle.wasm_sections.specs.Entities.{Entity, FunctionOf, TableOf, MemoryOf, GlobalOf, TagOf, ImportEntry, import_entry, add_entity, add_import, import_of, with_import, global_of, no_body, function_entry, add_function, TableEntry, table_entry, add_table, MemoryType, memory_entry, add_memory, TagType, tag_entry, add_tag, GlobalEntry, global_entry, add_global}
use Rattle.wasm_sections.specs.Exports.{ExportEntry, export_entry, add_export, start_function}
use Rattle.wasm_sections.specs.Segments.{ElementEntry, element_entry, add_element, DataEntry, data_entry, add_data}
use Rattle.wasm_sections.specs.Sections.{CodeEntry, code, data_test, list_of, Section, CustomSection, TypeSection, ImportSection, FunctionSection, TableSection, MemorySection, TagSection, GlobalSection, ExportSection, StartSection, ElementSection, DataCountSection, CodeSection, DataSection, types_once, imports_once, functions_once, tables_once, memories_once, tags_once, globals_once, exports_once, start_once, elements_once, code_once, data_once, id_of, section, order_test, SectionEntry, section_entry, put, ends_with, next}
use Rattle.wasm_sections.specs.Ids.{section_id}
use Rattle.wasm_module_rules.specs.Entries.{AllRuled}
use Rattle.wasm_module_rules.specs.Keeps.{must_holds}
use Rattle.wasm_ruled_modules.specs.Rules.{is_imported, bare_slot}
use Rattle.wasm_module_spellings.specs.Spelled.{IsFormed, SectionFormed, AreFormed}
use Rattle.wasm_module_spellings.proofs.Fronts.{Fronts, fronts_earlier, before_custom}
use Rattle.wasm_module_spellings.proofs.Groups.{group_back}
use Rattle.wasm_module_spellings.proofs.Imports.{import_back}
use Rattle.wasm_module_spellings.proofs.Items.{Holds, function_back, tag_back, memory_back, table_back, global_back, export_back, start_back}
use Rattle.wasm_module_spellings.proofs.Segments.{element_back, data_back}

-- ---- what sections leave, from the first one on

-- all globals are imported
abbrev AllImported : State → Type 0
AllImported s = filter is_imported s.filled.globals ≡ s.filled.globals

-- no function has a body yet
abbrev pub AreBare : State → Type 0
AreBare s = map bare_slot s.filled.functions ≡ s.filled.functions

fold_kept : {A : Type 0} (P : State → Type 0) (add : State → A → State) → ((s : State) (x : A) → P s → P (add s x)) → (xs : List A) (s : State) → P s → P (fold add s xs)
fold_kept P add one [] s p = p
fold_kept P add one (x ∷ xs) s p = fold_kept P add one xs (add s x) (one s x p)

entity_imported : (s : State) (n : ℕ) (e : Entity) → AllImported s → AllImported (add_entity s n e)
entity_imported s n (FunctionOf ty) h = h
entity_imported s n (TableOf ty) h = h
entity_imported s n (MemoryOf ty) h = h
entity_imported s n (GlobalOf ty) h =
    filter-append is_imported s.filled.globals (Some (global_of ty (Imported n)) ∷ []) ∙ ap (λ (gs : List (Option Global)). gs ++ Some (global_of ty (Imported n)) ∷ []) h
entity_imported s n (TagOf ty) h = h

table_imported : (s : State) (x : TableEntry) → AllImported s → AllImported (add_table s x)
table_imported s (inl x) h = h
table_imported s (inr ty) h = h

-- until a section of globals stands
abbrev UntilGlobals : State → Type 0
UntilGlobals s = s.last < 7 → AllImported s

below : (s : State) (r : ℕ) → must (nat_lt s.last r) SectionOrder ≡ None → s.last < r
below s r e = ltb-true s.last r (must_holds (nat_lt s.last r) SectionOrder e)

put_imported : (s : State) (end : ℕ) (x : Section) → order_test s.last (id_of x) ≡ None → UntilGlobals s → UntilGlobals (ends_with (id_of x) end (put s end x))
put_imported s end (CustomSection x) o h = h
put_imported s end (TypeSection x) o h = λ lt. let p = below s 1 o in fold_kept AllImported add_group (λ s x p. p) x s (h (omega (arith, p)))
put_imported s end (ImportSection x) o h = λ lt. let p = below s 2 o in
    fold_kept AllImported add_import (λ s x p. entity_imported (with_import s (import_of s x)) (length s.filled.imports) x.1.1.1 p) x s (h (omega (arith, p)))
put_imported s end (FunctionSection x) o h = λ lt. let p = below s 3 o in fold_kept AllImported add_function (λ s x p. p) x s (h (omega (arith, p)))
put_imported s end (TableSection x) o h = λ lt. let p = below s 4 o in fold_kept AllImported add_table table_imported x s (h (omega (arith, p)))
put_imported s end (MemorySection x) o h = λ lt. let p = below s 5 o in fold_kept AllImported add_memory (λ s x p. p) x s (h (omega (arith, p)))
put_imported s end (TagSection x) o h = λ lt. let p = below s 6 o in fold_kept AllImported add_tag (λ s x p. p) x s (h (omega (arith, p)))
put_imported s end (GlobalSection x) o h = λ lt. absurd (omega (arith, lt))
put_imported s end (ExportSection x) o h = λ lt. absurd (omega (arith, lt))
put_imported s end (StartSection n) o h = λ lt. absurd (omega (arith, lt))
put_imported s end (ElementSection x) o h = λ lt. absurd (omega (arith, lt))
put_imported s end (DataCountSection n) o h = λ lt. absurd (omega (arith, lt))
put_imported s end (CodeSection x) o h = λ lt. absurd (omega (arith, lt))
put_imported s end (DataSection x) o h = λ lt. absurd (omega (arith, lt))

entity_bare : (s : State) (n : ℕ) (e : Entity) → AreBare s → AreBare (add_entity s n e)
entity_bare s n (FunctionOf ty) h =
    let f : Option Function = Some (record { ty = ty; origin = Imported n }) in
    map-append bare_slot s.filled.functions (f ∷ []) ∙ ap (λ (fs : List (Option Function)). fs ++ f ∷ []) h
entity_bare s n (TableOf ty) h = h
entity_bare s n (MemoryOf ty) h = h
entity_bare s n (GlobalOf ty) h = h
entity_bare s n (TagOf ty) h = h

function_bare : (s : State) (x : ℕ) → AreBare s → AreBare (add_function s x)
function_bare s x h =
    let f : Option Function = Some (record { ty = x; origin = Own no_body }) in
    map-append bare_slot s.filled.functions (f ∷ []) ∙ ap (λ (fs : List (Option Function)). fs ++ f ∷ []) h

table_bare : (s : State) (x : TableEntry) → AreBare s → AreBare (add_table s x)
table_bare s (inl x) h = h
table_bare s (inr ty) h = h

put_bare : (s : State) (end : ℕ) (x : Section) → AreBare s → AreBare (put s end x)
put_bare s end (CustomSection x) h = h
put_bare s end (TypeSection x) h = fold_kept AreBare add_group (λ s x p. p) x s h
put_bare s end (ImportSection x) h = fold_kept AreBare add_import (λ s x p. entity_bare (with_import s (import_of s x)) (length s.filled.imports) x.1.1.1 p) x s h
put_bare s end (FunctionSection x) h = fold_kept AreBare add_function function_bare x s h
put_bare s end (TableSection x) h = fold_kept AreBare add_table table_bare x s h
put_bare s end (MemorySection x) h = fold_kept AreBare add_memory (λ s x p. p) x s h
put_bare s end (TagSection x) h = fold_kept AreBare add_tag (λ s x p. p) x s h
put_bare s end (GlobalSection x) h = fold_kept AreBare add_global (λ s x p. p) x s h
put_bare s end (ExportSection x) h = fold_kept AreBare add_export (λ s x p. p) x s h
put_bare s end (StartSection n) h = h
put_bare s end (ElementSection x) h = fold_kept AreBare add_element (λ s x p. p) x s h
put_bare s end (DataCountSection n) h = h
put_bare s end (CodeSection x) h = h
put_bare s end (DataSection x) h = fold_kept AreBare add_data (λ s x p. p) x s h

pub sections_bare : (xs : List SectionEntry) (s : State) → AreBare s → AreBare (fold next s xs)
sections_bare [] s h = h
sections_bare (x ∷ xs) s h = sections_bare xs (next s x) (put_bare s x.0 x.1.1 h)

-- ---- from the last one back

abbrev Nothing : {A : Type 0} → A → Type 0
Nothing x = Unit {0}

abbrev Always : State → Type 0
Always s = Unit {0}

all_nothing : {A : Type 0} (xs : List A) → AllRuled Nothing xs
all_nothing [] = tt
all_nothing (x ∷ xs) = (tt, all_nothing xs)

module _ (w : Module) where
  -- an entry at its state, where this holds
  abbrev Back : {A : Type 0} → ℕ → (State → A → State) → (State → Format A) → (A → Type 0) → (State → Type 0) → Type 0
  Back {A} q add entry Formed There = (s : State) (bytes : List ℕ) (x : A) → (entry s).spells bytes x → Formed x → There s → Fronts q (add s x).filled w → Fronts q s.filled w × (entry s).rules x

  entries_back : {A : Type 0} (q : ℕ) (add : State → A → State) (entry : State → Format A) (Formed : A → Type 0) (There : State → Type 0) → ((s : State) (x : A) → There s → There (add s x))
      → Back q add entry Formed There → (xs : List A) (s : State) (bytes : List ℕ) → SpellsEntries add entry s bytes xs → AllRuled Formed xs → There s → Fronts q (fold add s xs).filled w
      → Fronts q s.filled w × EntryRules add entry s xs
  entries_back q add entry Formed There keep one [] s bytes h formed there f = (f, tt)
  entries_back q add entry Formed There keep one (x ∷ xs) s bytes h formed there f =
      let rest = entries_back q add entry Formed There keep one xs (add s x) h.1 h.4 formed.1 (keep s x there) f in
      let first = one s h.0 x h.3 formed.0 there rest.0 in
      (first.0, (first.1, rest.1))

  -- a section of rank r, one more than q
  list_back : {A : Type 0} (q r : ℕ) (add : State → A → State) (entry : State → Format A) (Formed : A → Type 0) (There : State → Type 0) → ((s : State) (x : A) → There s → There (add s x))
      → Back q add entry Formed There → (xs : List A) (s : State) (bytes : List ℕ) → (list_of add entry s).spells bytes xs → AllRuled Formed xs → There s → r ≡ q + 1
      → must (nat_lt s.last r) SectionOrder ≡ None → Fronts r (fold add s xs).filled w → Fronts s.last s.filled w × (list_of add entry s).rules xs
  list_back q r add entry Formed There keep one xs s bytes h formed there e o f =
      let inner = h.4 in
      let lt = below s r o in
      let back = entries_back q add entry Formed There keep one xs s inner.1 inner.4 formed there (fronts_earlier q r (fold add s xs).filled w (omega (arith, e)) f) in
      (fronts_earlier s.last q s.filled w (omega (arith, lt, e)) back.0, back.1)

  module _ (h : Holds w) (features : WasmFeatures) where
    put_back : (s : State) (end : ℕ) (bytes : List ℕ) (x : Section) → (section features s (id_of x)).spells bytes x → SectionFormed features s x → order_test s.last (id_of x) ≡ None → UntilGlobals s
        → Fronts (ends_with (id_of x) end (put s end x)).last (put s end x).filled w → Fronts s.last s.filled w × (section features s (id_of x)).rules x
    put_back s end bytes (CustomSection x) k formed o g f = (before_custom s.last s.filled w (record { name = x.0; bytes = x.1 }) f, λ y e. (tt, tt))
    put_back s end bytes (TypeSection x) k formed o g f =
        let b = list_back 0 1 add_group (group features) (IsFormed (group features)) Always (λ s x t. tt) (λ s bytes x h1 formed t f. group_back w h features s x formed f) x s bytes
        (subst (λ (y : List GroupEntry). (list_of add_group (group features) s).spells bytes y) (types_once k.0 x k.1) k.2) formed tt refl o f in
        (b.0, λ y e. subst (λ (y : List GroupEntry). (list_of add_group (group features) s).rules y) (sym (types_once y x e)) b.1)
    put_back s end bytes (ImportSection x) k formed o g f =
        let b = list_back 1 2 add_import (import_entry features) (IsFormed (import_entry features)) Always (λ s x t. tt) (λ s bytes x h1 formed t f. import_back w h features s bytes x h1 formed f) x s bytes
        (subst (λ (y : List ImportEntry). (list_of add_import (import_entry features) s).spells bytes y) (imports_once k.0 x k.1) k.2) formed tt refl o f in
        (b.0, λ y e. subst (λ (y : List ImportEntry). (list_of add_import (import_entry features) s).rules y) (sym (imports_once y x e)) b.1)
    put_back s end bytes (FunctionSection x) k formed o g f =
        let b = list_back 2 3 add_function function_entry Nothing Always (λ s x t. tt) (λ s bytes x h1 formed t f. function_back w h s x f) x s bytes
        (subst (λ (y : List ℕ). (list_of add_function function_entry s).spells bytes y) (functions_once k.0 x k.1) k.2) (all_nothing x) tt refl o f in
        (b.0, λ y e. subst (λ (y : List ℕ). (list_of add_function function_entry s).rules y) (sym (functions_once y x e)) b.1)
    put_back s end bytes (TableSection x) k formed o g f =
        let p = below s 4 o in
        let b = list_back 3 4 add_table (table_entry features) (IsFormed (table_entry features)) AllImported table_imported (λ s bytes x h1 formed t f. table_back w h features s x formed t f) x s bytes
        (subst (λ (y : List TableEntry). (list_of add_table (table_entry features) s).spells bytes y) (tables_once k.0 x k.1) k.2) formed (g (omega (arith, p))) refl o f in
        (b.0, λ y e. subst (λ (y : List TableEntry). (list_of add_table (table_entry features) s).rules y) (sym (tables_once y x e)) b.1)
    put_back s end bytes (MemorySection x) k formed o g f =
        let b = list_back 4 5 add_memory memory_entry (IsFormed memory_entry) Always (λ s x t. tt) (λ s bytes x h1 formed t f. memory_back w h s x formed f) x s bytes
        (subst (λ (y : List MemoryType). (list_of add_memory memory_entry s).spells bytes y) (memories_once k.0 x k.1) k.2) formed tt refl o f in
        (b.0, λ y e. subst (λ (y : List MemoryType). (list_of add_memory memory_entry s).rules y) (sym (memories_once y x e)) b.1)
    put_back s end bytes (TagSection x) k formed o g f =
        let b = list_back 5 6 add_tag tag_entry Nothing Always (λ s x t. tt) (λ s bytes x h1 formed t f. tag_back w h s x f) x s bytes
        (subst (λ (y : List TagType). (list_of add_tag tag_entry s).spells bytes y) (tags_once k.0 x k.1) k.2) (all_nothing x) tt refl o f in
        (b.0, λ y e. subst (λ (y : List TagType). (list_of add_tag tag_entry s).rules y) (sym (tags_once y x e)) b.1)
    put_back s end bytes (GlobalSection x) k formed o g f =
        let b = list_back 6 7 add_global (global_entry features) (IsFormed (global_entry features)) Always (λ s x t. tt) (λ s bytes x h1 formed t f. global_back w h features s x formed f) x s bytes
        (subst (λ (y : List GlobalEntry). (list_of add_global (global_entry features) s).spells bytes y) (globals_once k.0 x k.1) k.2) formed tt refl o f in
        (b.0, λ y e. subst (λ (y : List GlobalEntry). (list_of add_global (global_entry features) s).rules y) (sym (globals_once y x e)) b.1)
    put_back s end bytes (ExportSection x) k formed o g f =
        let b = list_back 7 8 add_export export_entry (IsFormed export_entry) Always (λ s x t. tt) (λ s bytes x h1 formed t f. export_back w h s x formed f) x s bytes
        (subst (λ (y : List ExportEntry). (list_of add_export export_entry s).spells bytes y) (exports_once k.0 x k.1) k.2) formed tt refl o f in
        (b.0, λ y e. subst (λ (y : List ExportEntry). (list_of add_export export_entry s).rules y) (sym (exports_once y x e)) b.1)
    put_back s end bytes (StartSection n) k formed o g f =
        let lt = below s 9 o in
        let b = start_back w h s n f in
        (fronts_earlier s.last 8 s.filled w (omega (arith, lt)) b.0, λ y e. subst (λ (y : ℕ). (start_function s).rules y) (sym (start_once y n e)) b.1)
    put_back s end bytes (ElementSection x) k formed o g f =
        let b = list_back 9 10 add_element (element_entry features) Nothing Always (λ s x t. tt) (λ s bytes x h1 formed t f. element_back w h features s bytes x h1 f) x s bytes
        (subst (λ (y : List ElementEntry). (list_of add_element (element_entry features) s).spells bytes y) (elements_once k.0 x k.1) k.2) (all_nothing x) tt refl o f in
        (b.0, λ y e. subst (λ (y : List ElementEntry). (list_of add_element (element_entry features) s).rules y) (sym (elements_once y x e)) b.1)
    put_back s end bytes (DataCountSection n) k formed o g f =
        let lt = below s 11 o in (fronts_earlier s.last 11 s.filled w (omega (arith, lt)) f, λ y e. tt)
    put_back s end bytes (CodeSection x) k formed o g f =
        let lt = below s 12 o in
        (fronts_earlier s.last 12 s.filled w (omega (arith, lt)) f, λ y e. subst (λ (y : CodeEntry). (whole (code s)).rules y) (sym (code_once y x e)) formed)
    put_back s end bytes (DataSection x) k formed o g f =
        let lt = below s 13 o in
        let spelled = subst (λ (y : List DataEntry). (sized (whole (counted add_data (data_entry features) (data_test s.data_count) s))).spells bytes y) (data_once k.0 x k.1) k.2 in
        let inner = spelled.4 in
        let b = entries_back 12 add_data (data_entry features) Nothing Always (λ s x t. tt) (λ s bytes x h1 formed t f. data_back w h features s bytes x h1 f) x s inner.1 inner.4 (all_nothing x) tt
        (fronts_earlier 12 13 (fold add_data s x).filled w (omega arith) f) in (
          fronts_earlier s.last 12 s.filled w (omega (arith, lt)) b.0,
          λ y e. subst (λ (y : List DataEntry). (data_test s.data_count (length y) ≡ None) × EntryRules add_data (data_entry features) s y) (sym (data_once y x e)) (formed, b.1),
        )

    next_back : (s : State) (bytes : List ℕ) (x : SectionEntry) → (section_entry features s).spells bytes x → order_test s.last x.1.0 ≡ None → SectionFormed features s x.1.1 → UntilGlobals s
        → Fronts (next s x).last (next s x).filled w → Fronts s.last s.filled w × (section_entry features s).rules x
    next_back s bytes x k o formed g f =
        let parts = k.0 in
        let is = section_id features s x.1.0 parts.1 x.1.1 parts.4 in
        let order = subst (λ (n : ℕ). order_test s.last n ≡ None) (sym is) o in
        let b = put_back s x.0 parts.1 x.1.1 (subst (λ (n : ℕ). (section features s n).spells parts.1 x.1.1) (sym is) parts.4) formed order g
        (subst (λ (n : ℕ). Fronts (ends_with n x.0 (put s x.0 x.1.1)).last (put s x.0 x.1.1).filled w) (sym is) f) in
        (b.0, ((tt, o), subst (λ (n : ℕ). (section features s n).rules x.1.1) is b.1))

    pub sections_back : (xs : List SectionEntry) (s : State) (bytes : List ℕ) → SpellsEntries next (section_entry features) s bytes xs → AreFormed features s xs → UntilGlobals s
        → Fronts (fold next s xs).last (fold next s xs).filled w → Fronts s.last s.filled w × EntryRules next (section_entry features) s xs
    sections_back [] s bytes k formed g f = (f, tt)
    sections_back (x ∷ xs) s bytes k formed g f =
        let parts = (k.3).0 in
        let is = section_id features s x.1.0 parts.1 x.1.1 parts.4 in
        let order = subst (λ (n : ℕ). order_test s.last n ≡ None) (sym is) formed.0 in
        let later = subst (λ (n : ℕ). UntilGlobals (ends_with n x.0 (put s x.0 x.1.1))) is (put_imported s x.0 x.1.1 order g) in
        let rest = sections_back xs (next s x) k.1 k.4 formed.2 later f in
        let first = next_back s k.0 x k.3 formed.0 formed.1 g rest.0 in
        (first.0, (first.1, rest.1))
