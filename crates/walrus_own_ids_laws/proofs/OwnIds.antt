-- Lemmas: items of modules that are read have their own ids.
use Rattle.std.specs.Prelude.{refl}
use Rattle.std.proofs.Common.{ap}
use Rattle.walrus_items_into.specs.walrus_tables_into.Elements.{IsElementOf}
use Rattle.walrus_items_into.specs.walrus_tables_into.Globals.{IsGlobalOf}
use Rattle.walrus_items_into.specs.walrus_tables_into.Tables.{IsTableOf}
use Rattle.walrus_items_into.specs.walrus_tables_into.walrus_sections_into.Becomes.{look_of}
use Rattle.walrus_items_into.specs.walrus_tables_into.walrus_sections_into.Segments.{IsSegmentOf}
use Rattle.walrus_items_into.specs.walrus_tables_into.walrus_sections_into.Slots.{IsMemoryOf}
use Rattle.walrus_items_into.specs.walrus_tables_into.walrus_sections_into.Tags.{IsTagOf}
use Rattle.walrus_item_names.specs.Holder.{Holder}
use Rattle.walrus_item_names.specs.Names.{bare_data, bare_element, bare_global, bare_memory, bare_table, bare_tag}
use Rattle.walrus_module_items.specs.declared.data.Data.{Data}
use Rattle.walrus_module_items.specs.declared.element.Element.{Element}
use Rattle.walrus_module_items.specs.declared.global.Global.{Global}
use Rattle.walrus_module_items.specs.declared.memory.Memory.{Memory}
use Rattle.walrus_module_items.specs.declared.table.Table.{Table}
use Rattle.walrus_module_items.specs.declared.tag.Tag.{Tag}
use Rattle.walrus_own_ids_laws.specs.OwnIds.{KeptItemsHaveOwnIds, ReadItemsHaveOwnIds}
use Rattle.walrus_own_ids_laws.proofs.Slots.{filled_own, named_own}

pub read_items_have_own_ids : {B : Type 0} → ReadItemsHaveOwnIds B
read_items_have_own_ids config bytes m is =
    let whole = is.1.1 in
    let s = whole.sections in
    let f = whole.filled in
    let are = whole.are_filled in
    let look = look_of whole.numbers in
    let same = whole.names.same in record {
      tables = named_own bare_table (λ (t : Table). t.id) (λ t. refl) f.tables m.tables (ap (λ (h : Holder). h.tables) same)
          (filled_own (IsTableOf look) (λ (t : Table). t.id) (λ slot x y r. r.id) s.tables.items f.tables are.tables);
      memories = named_own bare_memory (λ (x : Memory). x.id) (λ x. refl) f.memories m.memories (ap (λ (h : Holder). h.memories) same)
          (filled_own IsMemoryOf (λ (x : Memory). x.id) (λ slot x y r. r.id) s.memories.items f.memories are.memories);
      tags = named_own bare_tag (λ (t : Tag). t.id) (λ t. refl) f.tags m.tags (ap (λ (h : Holder). h.tags) same)
          (filled_own (IsTagOf look) (λ (t : Tag). t.id) (λ slot x y r. r.id) s.tags.items f.tags are.tags);
      globals = named_own bare_global (λ (g : Global). g.id) (λ g. refl) f.globals m.globals (ap (λ (h : Holder). h.globals) same)
          (filled_own (IsGlobalOf look) (λ (g : Global). g.id) (λ slot x y r. r.id) s.globals.items f.globals are.globals);
      elements = named_own bare_element (λ (e : Element). e.id) (λ e. refl) f.elements m.elements (ap (λ (h : Holder). h.elements) same)
          (filled_own (IsElementOf look) (λ (e : Element). e.id) (λ slot x y r. r.id) s.elements.items f.elements are.elements);
      segments = named_own bare_data (λ (d : Data). d.id) (λ d. refl) f.segments m.data_segments (ap (λ (h : Holder). h.data_segments) same)
          (filled_own (IsSegmentOf look) (λ (d : Data). d.id) (λ slot x y r. r.id) s.segments.items f.segments are.segments);
    }

pub kept_items_have_own_ids : KeptItemsHaveOwnIds
kept_items_have_own_ids m pushed n part own = record {
  tables = λ id x e. own.tables id x (part.tables.only id x e);
  memories = λ id x e. own.memories id x (part.memories.only id x e);
  tags = λ id x e. own.tags id x (part.tags.only id x e);
  globals = λ id x e. own.globals id x (part.globals.only id x e);
  elements = λ id x e. own.elements id x (part.elements.only id x e);
  segments = λ id x e. own.segments id x (part.data_segments.only id x e);
}
