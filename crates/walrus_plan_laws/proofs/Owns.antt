-- Lemmas: the folds over items that give the module's own their numbers are folds over the ids of those.
use Rattle.std.specs.Prelude.{ℕ, suc, ◌+◌, ◌≡◌, is_none, is_some, List, [], ◌∷◌, map, filter, fold, Option, Some, None, slice_index_or, refl, if◌then◌else◌}
use Rattle.std.specs.List.{filter_map}
use Rattle.std.specs.Option.{option_and_then, option_map}
use Rattle.std.proofs.Common.{ap, sym, ◌∙◌, arith}
use Rattle.wasm_operators.specs.Items.{Space, Tables, Memories, Tags, Globals}
use Rattle.wasm_formats.specs.declared.fault.Space.TheVariants as spaces
use Rattle.wasm_grammar.specs.Modules as grammar
use Rattle.wasm_part.specs.Order.{brought_by, brought_to, import_of}
use Rattle.walrus_arena.specs.Arena.{Arena, entries_from, item_at}
use Rattle.walrus_index_maps.specs.Maps.{Indices}
use Rattle.walrus_module.specs.Parts.{Module}
use Rattle.walrus_module_items.specs.Imported.{global_import, tag_import}
use Rattle.walrus_module_items.specs.declared.data.Data.{Data}
use Rattle.walrus_module_items.specs.declared.element.Element.{Element}
use Rattle.walrus_module_items.specs.declared.global.Global.{Global}
use Rattle.walrus_module_items.specs.declared.global.GlobalKind.{GlobalKind}
use Rattle.walrus_module_items.specs.declared.global.GlobalKind.TheVariants as globals
use Rattle.walrus_module_items.specs.declared.import.Import.{Import}
use Rattle.walrus_module_items.specs.declared.memory.Memory.{Memory}
use Rattle.walrus_module_items.specs.declared.table.Table.{Table}
use Rattle.walrus_module_items.specs.declared.tag.Tag.{Tag}
use Rattle.walrus_module_items.specs.declared.tag.TagKind.{TagKind}
use Rattle.walrus_module_items.specs.declared.tag.TagKind.TheVariants as tags
use Rattle.walrus_linked.specs.OwnIds.{HaveOwnIds}
use Rattle.walrus_item_meaning.specs.Meaning.{own_element, own_global, own_import, own_memory, own_segment, own_table, own_tag}
use Rattle.walrus_meaning.specs.Meaning.{means}
use Rattle.walrus_emit_numbers.specs.Numbers.{element_in_turn, element_numbered, global_in_turn, import_in_turn, memory_in_turn, table_in_turn, tag_in_turn, own_global as give_global, own_memory as give_memory, own_table as give_table, own_tag as give_tag}
use Rattle.walrus_plan_laws.specs.Plans.{living, own_of}
use Rattle.walrus_plan_laws.proofs.Means.{import_same}
use Rattle.walrus_plan_laws.proofs.Slots.{all_given, folded, given_if, ids_from, living_seen, passed, slot_at}
use Rattle.walrus_plan_laws.proofs.Turns.{turn}
use Rattle.walrus_plan_laws.proofs.Views.{import_seen, seen_fold, view}

abbrev own_if : Option ℕ → ℕ → Option ℕ
own_if o n = if is_none o then Some n else None

table_step : (i : Indices) (t : Table) (o : Option ℕ) → (if is_some o then i else table_in_turn i t.id) ≡ given_if table_in_turn (own_if o t.id) i
table_step i t None = refl
table_step i t (Some k) = refl

memory_step : (i : Indices) (x : Memory) (o : Option ℕ) → (if is_some o then i else memory_in_turn i x.id) ≡ given_if memory_in_turn (own_if o x.id) i
memory_step i x None = refl
memory_step i x (Some k) = refl

tag_step : (i : Indices) (t : Tag) (k : TagKind) → give_tag i (record t { kind = k }) ≡ given_if tag_in_turn (own_if (tag_import k) t.id) i
tag_step i t (tags.Import import) = refl
tag_step i t tags.Local = refl

global_step : (i : Indices) (g : Global) (k : GlobalKind) → give_global i (record g { kind = k }) ≡ given_if global_in_turn (own_if (global_import k) g.id) i
global_step i g (globals.Import import) = refl
global_step i g (globals.Local init) = refl

module _ (a : Module) where
  -- an item's import is that of its number
  import_at : {A : Type 0} (space : Space) (by : A → Option ℕ) (slots : List (Option A)) → ((n : ℕ) → import_of (means a) space n ≡ option_and_then by (slice_index_or slots n None)) → (n : ℕ) (x : A)
      → slice_index_or slots n None ≡ Some x → by x ≡ import_of (means a) space n
  import_at space by slots same n x e = sym (same n ∙ ap (option_and_then by) e)

  module _ {A B : Type 0} (space : Space) (by : A → Option ℕ) (id_of : A → ℕ) (see : A → B) (items : Arena A) (step : Indices → A → Indices) (next : Indices → ℕ → Indices)
      (same : (n : ℕ) → import_of (means a) space n ≡ option_and_then by (item_at items n)) (ids : HaveOwnIds id_of items) (one : (i : Indices) (x : A) → step i x ≡ given_if next (own_if (by x) (id_of x)) i) where
    own_fold : (i : Indices) → fold step i (map (λ (e : ℕ × A). e.1) (entries_from 0 items.slots)) ≡ fold next i (own_of (means a) space (living (map (option_map see) items.slots)))
    own_fold i =
        let test = λ (n : ℕ). is_none (import_of (means a) space n) in
        folded step next (λ n. if test n then Some n else None) items.slots
        (λ n x e v. one v x
        ∙ ap (λ (k : ℕ). given_if next (own_if (by x) k) v) (ids n x e)
        ∙ ap (λ (o : Option ℕ). given_if next (own_if o n) v) (import_at space by items.slots same n x e))
        i
        ∙ ap (λ (l : List ℕ). fold next i l) (passed test (living items.slots))
        ∙ ap (λ (l : List ℕ). fold next i (filter test l)) (sym (living_seen see items.slots))

  pub tables_own : HaveOwnIds (λ (t : Table). t.id) a.tables → (i : Indices) → fold give_table i (map (λ (e : ℕ × Table). e.1) (entries_from 0 a.tables.slots)) ≡ fold table_in_turn i (own_of (means a) Tables (living (means a).tables))
  tables_own ids = own_fold Tables (λ (t : Table). t.import) (λ (t : Table). t.id) own_table a.tables give_table table_in_turn (import_same a spaces.Table) ids (λ i t. table_step i t t.import)

  pub memories_own : HaveOwnIds (λ (x : Memory). x.id) a.memories → (i : Indices) → fold give_memory i (map (λ (e : ℕ × Memory). e.1) (entries_from 0 a.memories.slots)) ≡ fold memory_in_turn i (own_of (means a) Memories (living (means a).memories))
  memories_own ids = own_fold Memories (λ (x : Memory). x.import) (λ (x : Memory). x.id) own_memory a.memories give_memory memory_in_turn (import_same a spaces.Memory) ids (λ i x. memory_step i x x.import)

  pub tags_own : HaveOwnIds (λ (t : Tag). t.id) a.tags → (i : Indices) → fold give_tag i (map (λ (e : ℕ × Tag). e.1) (entries_from 0 a.tags.slots)) ≡ fold tag_in_turn i (own_of (means a) Tags (living (means a).tags))
  tags_own ids = own_fold Tags (λ (t : Tag). tag_import t.kind) (λ (t : Tag). t.id) own_tag a.tags give_tag tag_in_turn (import_same a spaces.Tag) ids (λ i t. tag_step i t t.kind)

  pub globals_own : HaveOwnIds (λ (g : Global). g.id) a.globals → (i : Indices) → fold give_global i (map (λ (e : ℕ × Global). e.1) (entries_from 0 a.globals.slots)) ≡ fold global_in_turn i (own_of (means a) Globals (living (means a).globals))
  globals_own ids = own_fold Globals (λ (g : Global). global_import g.kind) (λ (g : Global). g.id) own_global a.globals give_global global_in_turn (import_same a spaces.Global) ids (λ i g. global_step i g g.kind)

  pub elements_own : HaveOwnIds (λ (e : Element). e.id) a.elements → (i : Indices) → fold element_numbered i (map (λ (e : ℕ × Element). e.1) (entries_from 0 a.elements.slots)) ≡ fold element_in_turn i (living (means a).elements)
  elements_own ids i =
      folded element_numbered element_in_turn (λ n. Some n) a.elements.slots (λ n x e v. ap (λ (k : ℕ). element_in_turn v k) (ids n x e)) i
      ∙ ap (λ (l : List ℕ). fold element_in_turn i l) (all_given (living a.elements.slots) ∙ sym (living_seen own_element a.elements.slots))

  -- what imports bring
  pub imports_bring : (space : Space) (i : Indices) → view space (fold import_in_turn i (map (λ (e : ℕ × Import). e.1) (entries_from 0 a.imports.slots))) ≡ fold turn (view space i) (brought_by (means a) space (living (means a).imports))
  imports_bring space i =
      let given = λ (n : ℕ). brought_to space (slice_index_or (means a).imports n None) in
      seen_fold (view space) import_in_turn (λ v x. given_if turn (brought_to space (Some (own_import x))) v) (import_seen space) i (map (λ (e : ℕ × Import). e.1) (entries_from 0 a.imports.slots))
      ∙ folded (λ v x. given_if turn (brought_to space (Some (own_import x))) v) turn given a.imports.slots
      (λ n x e v. ap (λ (o : Option grammar.Import). given_if turn (brought_to space o) v) (sym (slot_at own_import a.imports.slots n ∙ ap (option_map own_import) e))) (view space i)
      ∙ ap (λ (l : List ℕ). fold turn (view space i) (filter_map given l)) (sym (living_seen own_import a.imports.slots))

-- the ids of data segments
ids_own : (k : ℕ) (slots : List (Option Data)) → ((i : ℕ) (d : Data) → slice_index_or slots i None ≡ Some d → d.id ≡ k + i)
    → map (λ (d : Data). d.id) (map (λ (e : ℕ × Data). e.1) (entries_from k slots)) ≡ ids_from k slots
ids_own k [] h = refl
ids_own k (None ∷ slots) h = ids_own (k + 1) slots (λ i d e. let same = h (suc i) d e in omega (arith, same))
ids_own k (Some d ∷ slots) h = λ at. (let here : d.id ≡ k = (let same = h 0 d refl in omega (arith, same)) in here) at ∷ ids_own (k + 1) slots (λ i d e. let same = h (suc i) d e in omega (arith, same)) at

pub segments_own : (a : Module) → HaveOwnIds (λ (d : Data). d.id) a.data_segments → map (λ (d : Data). d.id) (map (λ (e : ℕ × Data). e.1) (entries_from 0 a.data_segments.slots)) ≡ living (means a).segments
segments_own a ids =
    ids_own 0 a.data_segments.slots (λ i d e. let same = ids i d e in omega (arith, same)) ∙ sym (living_seen own_segment a.data_segments.slots)
