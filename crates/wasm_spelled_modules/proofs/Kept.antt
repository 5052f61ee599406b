-- Lemmas: what is read of bytes is spelled.
use Rattle.std.specs.Prelude.{ℕ, ◌<◌, ◌≡◌, ◌==◌, ◌⊎◌, Bool, true, false, List, [], ◌∷◌, ◌++◌, fold, Option, Some, None, if◌then◌else◌, refl}
use Rattle.std.specs.List.{AllByRecursion}
use Rattle.std.proofs.Common.{subst, inl, inr}
use Rattle.std.proofs.lemmas.List.Elements.{All-append}
use Rattle.wasm_formats.specs.wasm_features.declared.WasmFeatures.{WasmFeatures}
use Rattle.wasm_formats.specs.Bytes.{either_type}
use Rattle.wasm_formats.specs.declared.fault.Space.TheVariants as spaces
use Rattle.wasm_formats.specs.Formats.{Format}
use Rattle.wasm_formats.specs.Stops.{ConstExpr}
use Rattle.wasm_format_bytes.specs.Writers.{Writer, after_writer}
use Rattle.wasm_format_bytes.specs.Lists.{EntriesFit}
use Rattle.wasm_grammar.specs.wasm_operators.Operators.{Seen}
use Rattle.wasm_grammar.specs.wasm_operators.declared.entry.Kind.{Kind}
use Rattle.wasm_grammar.specs.wasm_operators.ItemSpellings.{SpellsForms}
use Rattle.wasm_grammar.specs.Exprs.{Known, forms_of, is_constant, seen_of, expr}
use Rattle.wasm_grammar.specs.Modules.{Expr, Imported, Own, Table, Global, Element, Segment, Import, Export, Module}
use Rattle.wasm_grammar.specs.States.{State, known, nothing_yet}
use Rattle.wasm_sections.specs.TypeSection.{add_group}
use Rattle.wasm_sections.specs.Entities.{Entity, FunctionOf, TableOf, MemoryOf, GlobalOf, TagOf, ImportEntry, add_entity, add_import, import_of, with_import, space_of, table_of, global_of, add_function, TableEntry, table_entry, add_table, add_memory, add_tag, GlobalEntry, global_entry, add_global}
use Rattle.wasm_sections.specs.Exports.{ExportEntry, add_export, kind_space}
use Rattle.wasm_sections.specs.Segments.{pass, ElementForm, ElementEntry, element_entry, add_element, element_of, DataForm, DataEntry, data_entry, add_data, segment_of}
use Rattle.wasm_sections.specs.Sections.{Section, CustomSection, TypeSection, ImportSection, FunctionSection, TableSection, MemorySection, TagSection, GlobalSection, ExportSection, StartSection, ElementSection, DataCountSection, CodeSection, DataSection, SectionEntry, put, next}
use Rattle.wasm_sections.specs.Ids.{either_case}
use Rattle.wasm_section_bytes.specs.Exprs.{constant_writer, expr_writer}
use Rattle.wasm_section_bytes.specs.Entries.{initialised_writer, global_type_writer, table_writer, global_writer}
use Rattle.wasm_section_bytes.specs.Segments.{element_flags_writer, element_form_writer, element_writer, data_flags_writer, data_form_writer, data_writer}
use Rattle.wasm_section_bytes.specs.Flags.{IsNotDeclared}
use Rattle.wasm_section_bytes.specs.Files.{SectionFits, SectionsFit, sections_short}
use Rattle.wasm_module_rules.specs.Linked.{Each}
use Rattle.wasm_module_rules.specs.Keeps.{each_push, must_holds}
use Rattle.wasm_operators.specs.Vecs.{parts_small}
use Rattle.wasm_operators.specs.Ranges.{OperatorFits}
use Rattle.wasm_operators.proofs.Operators.{operator_fits}
use Rattle.wasm_spelled_modules.specs.Spelled.{IsSpelled, InitIsSpelled, OriginIsSpelled, ModeIsSpelled, ItemsAreSpelled, is_external, ReadSectionsAreSpelled}
use Rattle.wasm_spelled_modules.proofs.Codes.{kind_there}

-- the same, whether there is room or not
in_room : {P : Type 0} (room : Bool) → either_type room P P → P
in_room true p = p
in_room false p = p

external : (kind : ℕ) → is_external (kind_space kind) ≡ true
external kind = five (kind == 0) (kind == 1) (kind == 2) (kind == 3)
  where
    five : (a b c d : Bool) → is_external (if a then spaces.Function else (if b then spaces.Table else (if c then spaces.Memory else (if d then spaces.Global else spaces.Tag)))) ≡ true
    five true b c d = refl
    five false true c d = refl
    five false false true d = refl
    five false false false true = refl
    five false false false false = refl

module _ (features : WasmFeatures) where
  -- ---- constant expressions

  operator_spelled : (op : Seen) → (constant_writer features).fits op → OperatorFits features op
  operator_spelled op h =
      let code = h.2.0.0 in
      let items = h.2.1 in
      let kind = kind_there features h.0.0 (must_holds (is_constant h.0.0) ConstExpr h.2.0.1) in
      subst (OperatorFits features) h.1 ((operator_fits features).only (code.0 ++ items.0) (seen_of h.0) (All-append (λ b. b < 256) code.0 items.0 code.1 items.1) (record {
        kind = kind.0;
        first = code.0;
        later = items.0;
        joined = refl;
        code = code.2;
        listed = kind.1;
        items = subst (λ (k : Option Kind). SpellsForms features (forms_of k) items.0 h.0.1) kind.1 items.2;
      }))

  expr_spelled : (k : Known) (ops : Expr) → (expr_writer features k).fits ops → IsSpelled features ops
  expr_spelled k [] h = tt
  expr_spelled k (op ∷ ops) h = (operator_spelled op h.0, expr_spelled k ops h.1)

  exprs_spelled : (k : Known) (es : List Expr) → EntriesFit pass (λ _. expr features k) (λ _. expr_writer features k) tt es → AllByRecursion (IsSpelled features) es
  exprs_spelled k [] h = tt
  exprs_spelled k (e ∷ es) h = (expr_spelled k e h.0, exprs_spelled k es h.1)

  -- ---- segments, by their flags

  abbrev IsElement : ElementForm → Type 0
  IsElement e = ModeIsSpelled features (element_of e).mode × ItemsAreSpelled features (element_of e).items

  element_spelled : (s : State) (flags : ℕ) (e : ElementForm) → (element_form_writer features s flags).fits e → IsElement e
  element_spelled s flags e h =
      either_case (flags == 0) h (λ is k. subst IsElement k.1 (expr_spelled (known s) k.0.0 k.2.0, tt))
      (λ _ h. either_case (flags == 1) h (λ is k. subst IsElement k.1 (tt, tt))
      (λ _ h. either_case (flags == 2) h (λ is k. subst IsElement k.1 (expr_spelled (known s) k.0.0.1 k.2.0.1, tt))
      (λ _ h. either_case (flags == 3) h (λ is k. subst IsElement k.1 (tt, tt))
      (λ _ h. either_case (flags == 4) h (λ is k. subst IsElement k.1 (expr_spelled (known s) k.0.0 k.2.0, exprs_spelled (known s) k.0.1 k.2.1.1))
      (λ _ h. either_case (flags == 5) h (λ is k. subst IsElement k.1 (tt, exprs_spelled (known s) k.0.1 k.2.1.1))
      (λ _ h. either_case (flags == 6) h (λ is k. subst IsElement k.1 (expr_spelled (known s) k.0.0.1 k.2.0.1, exprs_spelled (known s) k.0.1.1 k.2.1.1.1))
      (λ _ h. either_case (flags == 7) h (λ is k. subst IsElement k.1 (tt, exprs_spelled (known s) k.0.1 k.2.1.1))
      (λ _ h. absurd h))))))))

  abbrev IsSegment : DataForm → Type 0
  IsSegment e = ModeIsSpelled features (segment_of e).mode × IsNotDeclared (segment_of e).mode

  data_spelled : (s : State) (flags : ℕ) (e : DataForm) → (data_form_writer features s flags).fits e → IsSegment e
  data_spelled s flags e h =
      either_case (flags == 0) h (λ is k. subst IsSegment k.1 (expr_spelled (known s) k.0.0 k.2.0, tt))
      (λ _ h. either_case (flags == 1) h (λ is k. subst IsSegment k.1 (tt, tt))
      (λ _ h. either_case (flags == 2) h (λ is k. subst IsSegment k.1 (expr_spelled (known s) k.0.0.1 k.2.0.1, tt))
      (λ _ h. absurd h)))

  -- ---- entries: all but these lists stay as they are

  abbrev IsTable : Table → Type 0
  IsTable t = InitIsSpelled features t.init × ((t.init ≡ None) ⊎ (t.imported ≡ None))

  abbrev Held : Module → Type 0
  Held m =
      Each IsTable m.tables × (Each (λ (g : Global). OriginIsSpelled features g.origin) m.globals
      × (Each (λ (e : Element). ModeIsSpelled features e.mode × ItemsAreSpelled features e.items) m.elements
      × (Each (λ (x : Segment). ModeIsSpelled features x.mode × IsNotDeclared x.mode) m.segments
      × (Each (λ (i : Import). is_external i.item.space ≡ true) m.imports × Each (λ (e : Export). is_external e.item.space ≡ true) m.exports))))

  entity_held : (s : State) (n : ℕ) (e : Entity) → Held s.filled → Held (add_entity s n e).filled
  entity_held s n (FunctionOf ty) p = p
  entity_held s n (TableOf ty) p = (each_push IsTable s.filled.tables (table_of ty None (Some n)) p.0 (tt, inl refl), p.1)
  entity_held s n (MemoryOf ty) p = p
  entity_held s n (GlobalOf ty) p = (p.0, (each_push (λ (g : Global). OriginIsSpelled features g.origin) s.filled.globals (global_of ty (Imported n)) p.1.0 tt, p.1.1))
  entity_held s n (TagOf ty) p = p

  external_entity : (e : Entity) → is_external (space_of e) ≡ true
  external_entity (FunctionOf ty) = refl
  external_entity (TableOf ty) = refl
  external_entity (MemoryOf ty) = refl
  external_entity (GlobalOf ty) = refl
  external_entity (TagOf ty) = refl

  import_held : (s : State) (x : ImportEntry) → Held s.filled → Held (add_import s x).filled
  import_held s x p =
      let i = import_of s x in
      entity_held (with_import s i) _ x.1.1.1
      (p.0, (p.1.0, (p.1.1.0, (p.1.1.1.0, (each_push (λ (i : Import). is_external i.item.space ≡ true) s.filled.imports i p.1.1.1.1.0 (external_entity x.1.1.1), p.1.1.1.1.1)))))

  table_held : (s : State) (x : TableEntry) → (table_writer features s).fits x → Held s.filled → Held (add_table s x).filled
  table_held s (inl x) h p =
      let f : (initialised_writer features s).fits x = in_room _ h in
      (each_push IsTable s.filled.tables (table_of x.1.0 (Some x.1.1) None) p.0 (expr_spelled (known s) x.1.1 f.1.1, inr refl), p.1)
  table_held s (inr ty) h p = (each_push IsTable s.filled.tables (table_of ty None None) p.0 (tt, inl refl), p.1)

  global_held : (s : State) (x : GlobalEntry) → (global_writer features s).fits x → Held s.filled → Held (add_global s x).filled
  global_held s x h p =
      let f : (after_writer (global_type_writer features s) (λ _. expr_writer features (known s))).fits x = in_room _ h in
      (p.0, (each_push (λ (g : Global). OriginIsSpelled features g.origin) s.filled.globals (global_of x.0 (Own x.1)) p.1.0 (expr_spelled (known s) x.1 f.1), p.1.1))

  export_held : (s : State) (x : ExportEntry) → Held s.filled → Held (add_export s x).filled
  export_held s x p =
      let e : Export = record { name = x.0.0; item = record { space = kind_space x.0.1; number = x.1 } } in
      (p.0, (p.1.0, (p.1.1.0, (p.1.1.1.0, (p.1.1.1.1.0, each_push (λ (e : Export). is_external e.item.space ≡ true) s.filled.exports e p.1.1.1.1.1 (external x.0.1))))))

  element_held : (s : State) (x : ElementEntry) → (element_writer features s).fits x → Held s.filled → Held (add_element s x).filled
  element_held s x h p =
      let f : (after_writer (element_flags_writer s) (λ flags. element_form_writer features s flags)).fits x = in_room _ h in
      (p.0, (p.1.0, (each_push (λ (e : Element). ModeIsSpelled features e.mode × ItemsAreSpelled features e.items) s.filled.elements (element_of x.1) p.1.1.0 (element_spelled s x.0 x.1 f.1), p.1.1.1)))

  segment_held : (s : State) (x : DataEntry) → (data_writer features s).fits x → Held s.filled → Held (add_data s x).filled
  segment_held s x h p =
      let f : (after_writer (data_flags_writer s) (λ flags. data_form_writer features s flags)).fits x = in_room _ h in
      (p.0, (p.1.0, (p.1.1.0, (each_push (λ (x : Segment). ModeIsSpelled features x.mode × IsNotDeclared x.mode) s.filled.segments (segment_of x.1) p.1.1.1.0 (data_spelled s x.0 x.1 f.1), p.1.1.1.1))))

  -- ---- sections

  fitting : {A : Type 0} (add : State → A → State) (entry : State → Format A) (w : (s : State) → Writer (entry s)) → ((s : State) (x : A) → (w s).fits x → Held s.filled → Held (add s x).filled)
      → (s : State) (xs : List A) → EntriesFit add entry w s xs → Held s.filled → Held (fold add s xs).filled
  fitting add entry w one s [] h p = p
  fitting add entry w one s (x ∷ xs) h p = fitting add entry w one (add s x) xs h.1 (one s x h.0 p)

  others : {A : Type 0} (add : State → A → State) → ((s : State) (x : A) → Held s.filled → Held (add s x).filled) → (s : State) (xs : List A) → Held s.filled → Held (fold add s xs).filled
  others add one s [] p = p
  others add one s (x ∷ xs) p = others add one (add s x) xs (one s x p)

  put_held : (s : State) (end : ℕ) (x : Section) → SectionFits features s x → Held s.filled → Held (put s end x).filled
  put_held s end (CustomSection x) h p = p
  put_held s end (TypeSection x) h p = others add_group (λ s x p. p) s x p
  put_held s end (ImportSection x) h p = others add_import import_held s x p
  put_held s end (FunctionSection x) h p = others add_function (λ s x p. p) s x p
  put_held s end (TableSection x) h p = fitting add_table (table_entry features) (table_writer features) table_held s x h.0.1 p
  put_held s end (MemorySection x) h p = others add_memory (λ s x p. p) s x p
  put_held s end (TagSection x) h p = others add_tag (λ s x p. p) s x p
  put_held s end (GlobalSection x) h p = fitting add_global (global_entry features) (global_writer features) global_held s x h.0.1 p
  put_held s end (ExportSection x) h p = others add_export export_held s x p
  put_held s end (StartSection x) h p = p
  put_held s end (ElementSection x) h p = fitting add_element (element_entry features) (element_writer features) element_held s x h.0.1 p
  put_held s end (DataCountSection x) h p = p
  put_held s end (CodeSection x) h p = p
  put_held s end (DataSection x) h p = fitting add_data (data_entry features) (data_writer features) segment_held s x h.0.1 p

  sections_held : (s : State) (xs : List SectionEntry) → SectionsFit features s xs → Held s.filled → Held (fold next s xs).filled
  sections_held s [] h p = p
  sections_held s (x ∷ xs) h p = let one = h.0 in sections_held (next s x) xs h.1 (put_held s x.0 x.1.1 one.2 p)

pub read_sections_are_spelled : ReadSectionsAreSpelled
read_sections_are_spelled features bytes s small h =
    let file = h.1.0 in
    let sections = sections_short features nothing_yet file.1 h.0.1 (parts_small bytes file.0 file.1 file.2 small).1 file.4 in
    let held = subst (λ (s : State). Held features s.filled) h.2 (sections_held features nothing_yet h.0.1 sections.0 (tt, (tt, (tt, (tt, (tt, tt)))))) in
    record { tables = held.0; globals = held.1.0; elements = held.1.1.0; segments = held.1.1.1.0; imports = held.1.1.1.1.0; exports = held.1.1.1.1.1 }
