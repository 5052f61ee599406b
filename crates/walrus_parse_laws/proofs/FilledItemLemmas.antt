-- Lemmas: items without expressions mean what was read.
use Rattle.std.proofs.Common.{◌≡◌, ℕ, List, Option, Some, None, refl, ap}
use Rattle.walrus_named_bodies.specs.walrus_file_bodies.walrus_items_into.walrus_module_bodies.walrus_body_trees.walrus_meaning.walrus_local_function.walrus_body_locals.wasm_grammar.Modules as grammar
use Rattle.walrus_named_bodies.specs.walrus_file_bodies.walrus_items_into.walrus_module_bodies.walrus_body_trees.walrus_meaning.Meaning.{own_brought, own_given, own_import, own_export, own_memory, own_tag}
use Rattle.walrus_named_bodies.specs.walrus_file_bodies.walrus_items_into.walrus_module_bodies.walrus_body_trees.walrus_meaning.walrus_linked.walrus_module_items.declared.import.Import.{Import}
use Rattle.walrus_named_bodies.specs.walrus_file_bodies.walrus_items_into.walrus_module_bodies.walrus_body_trees.walrus_meaning.walrus_linked.walrus_module_items.declared.import.ImportKind.{ImportKind}
use Rattle.walrus_named_bodies.specs.walrus_file_bodies.walrus_items_into.walrus_module_bodies.walrus_body_trees.walrus_meaning.walrus_linked.walrus_module_items.declared.import.ImportKind.TheVariants as kinds
use Rattle.walrus_named_bodies.specs.walrus_file_bodies.walrus_items_into.walrus_module_bodies.walrus_body_trees.walrus_meaning.walrus_linked.walrus_module_items.declared.export.Export.{Export}
use Rattle.walrus_named_bodies.specs.walrus_file_bodies.walrus_items_into.walrus_module_bodies.walrus_body_trees.walrus_meaning.walrus_linked.walrus_module_items.declared.export.ExportItem.{ExportItem}
use Rattle.walrus_named_bodies.specs.walrus_file_bodies.walrus_items_into.walrus_module_bodies.walrus_body_trees.walrus_meaning.walrus_linked.walrus_module_items.declared.export.ExportItem.TheVariants as given
use Rattle.walrus_named_bodies.specs.walrus_file_bodies.walrus_items_into.walrus_module_bodies.walrus_body_trees.walrus_meaning.walrus_linked.walrus_module_items.declared.tag.Tag.{Tag}
use Rattle.walrus_named_bodies.specs.walrus_file_bodies.walrus_items_into.walrus_module_bodies.walrus_body_trees.walrus_meaning.walrus_local_function.walrus_body_locals.walrus_body_nesting.wasm_formats.declared.fault.Space.{Space}
use Rattle.walrus_named_bodies.specs.walrus_file_bodies.walrus_items_into.walrus_module_bodies.walrus_body_trees.walrus_meaning.walrus_local_function.walrus_body_locals.walrus_body_nesting.wasm_formats.declared.fault.Space.TheVariants as spaces
use Rattle.walrus_named_bodies.specs.walrus_file_bodies.walrus_items_into.walrus_tables_into.walrus_sections.declared.section.Section.{Section}
use Rattle.walrus_named_bodies.specs.walrus_file_bodies.walrus_items_into.walrus_tables_into.walrus_sections.declared.section.Section.TheVariants.{Raw, Boxed}
use Rattle.walrus_named_bodies.specs.walrus_file_bodies.walrus_items_into.walrus_tables_into.walrus_sections_into.walrus_known_sections.declared.items.Import.{Import as ReadImport}
use Rattle.walrus_named_bodies.specs.walrus_file_bodies.walrus_items_into.walrus_tables_into.walrus_sections_into.walrus_known_sections.declared.items.Export.{Export as ReadExport}
use Rattle.walrus_named_bodies.specs.walrus_file_bodies.walrus_items_into.walrus_tables_into.walrus_sections_into.walrus_known_sections.declared.items.Tag.{Tag as ReadTag}
use Rattle.walrus_named_bodies.specs.walrus_file_bodies.walrus_items_into.walrus_tables_into.walrus_sections_into.walrus_known_sections.declared.items.Custom.{Custom as ReadCustom}
use Rattle.walrus_named_bodies.specs.walrus_file_bodies.walrus_items_into.walrus_tables_into.walrus_sections_into.walrus_known_sections.Items.{import_of, export_of, memory_of, tag_of, custom_of}
use Rattle.walrus_named_bodies.specs.walrus_file_bodies.walrus_items_into.walrus_tables_into.walrus_sections_into.walrus_pairing.Looks.{Look}
use Rattle.walrus_named_bodies.specs.walrus_file_bodies.walrus_items_into.walrus_tables_into.walrus_sections_into.wasm_operators.Items.{Functions, Tables, Memories, Globals, Tags}
use Rattle.walrus_named_bodies.specs.walrus_file_bodies.walrus_items_into.walrus_tables_into.walrus_sections_into.Slots.{IsMemoryOf}
use Rattle.walrus_named_bodies.specs.walrus_file_bodies.walrus_items_into.walrus_tables_into.walrus_sections_into.Imports.{IsImportOf, KindBecomes}
use Rattle.walrus_named_bodies.specs.walrus_file_bodies.walrus_items_into.walrus_tables_into.walrus_sections_into.Exports.{IsExportOf, ItemBecomes, StartBecomes}
use Rattle.walrus_named_bodies.specs.walrus_file_bodies.walrus_items_into.walrus_tables_into.walrus_sections_into.Tags.{IsTagOf}
use Rattle.walrus_named_bodies.specs.walrus_file_bodies.walrus_items_into.walrus_tables_into.Customs.{IsCustomOf, plain}
use Rattle.walrus_parse_laws.specs.Renamed.{retyped_tag}
use Rattle.walrus_parse_laws.specs.Meaning.{type_id, OthersStay, ImportsMean, MemoriesMean, TagsMean, ExportsMean, StartMeans, own_custom, CustomsMean}
use Rattle.walrus_parse_laws.proofs.Seeing.{as_read, as_changed, nothing_asked, type_is}

abbrev item : Space → ℕ → grammar.Item
item space n = record { space = space; number = n }

module _ (look : Look) (stay : OthersStay look) where
  brought : (space : Space) (n : ℕ) (kind : ImportKind) → KindBecomes look space n kind → own_brought kind ≡ item space n
  brought spaces.Function n (kinds.Function id) h = ap (item spaces.Function) (stay Functions n id (λ e. absurd cc) h)
  brought spaces.Table n (kinds.Table id) h = ap (item spaces.Table) (stay Tables n id (λ e. absurd cc) h)
  brought spaces.Memory n (kinds.Memory id) h = ap (item spaces.Memory) (stay Memories n id (λ e. absurd cc) h)
  brought spaces.Global n (kinds.Global id) h = ap (item spaces.Global) (stay Globals n id (λ e. absurd cc) h)
  brought spaces.Tag n (kinds.Tag id) h = ap (item spaces.Tag) (stay Tags n id (λ e. absurd cc) h)
  brought _ n _ h = absurd h

  given_out : (space : Space) (n : ℕ) (out : ExportItem) → ItemBecomes look space n out → own_given out ≡ item space n
  given_out spaces.Function n (given.Function id) h = ap (item spaces.Function) (stay Functions n id (λ e. absurd cc) h)
  given_out spaces.Table n (given.Table id) h = ap (item spaces.Table) (stay Tables n id (λ e. absurd cc) h)
  given_out spaces.Memory n (given.Memory id) h = ap (item spaces.Memory) (stay Memories n id (λ e. absurd cc) h)
  given_out spaces.Global n (given.Global id) h = ap (item spaces.Global) (stay Globals n id (λ e. absurd cc) h)
  given_out spaces.Tag n (given.Tag id) h = ap (item spaces.Tag) (stay Tags n id (λ e. absurd cc) h)
  given_out _ n _ h = absurd h

  import_means : (slot : ℕ) (r : ReadImport) (i : Import) → IsImportOf look slot r i → own_import i ≡ import_of r
  import_means slot r i h = go _ _ _ _ _ _ h.space_name h.name (brought r.space r.index i.kind h.kind)
    where
      go : (a b c d : List ℕ) (x y : grammar.Item) → a ≡ b → c ≡ d → x ≡ y → ◌≡◌ {A = grammar.Import} (record { space_name = a; name = c; item = x }) (record { space_name = b; name = d; item = y })
      go a b c d x y e f g = rw (e, f, g) refl

  export_means : (slot : ℕ) (r : ReadExport) (x : Export) → IsExportOf look slot r x → own_export x ≡ export_of r
  export_means slot r x h = go _ _ _ _ h.name (given_out r.space r.index x.item h.item)
    where
      go : (a b : List ℕ) (x y : grammar.Item) → a ≡ b → x ≡ y → ◌≡◌ {A = grammar.Export} (record { name = a; item = x }) (record { name = b; item = y })
      go a b x y e f = rw (e, f) refl

  start_is : (read start : Option ℕ) → StartBecomes look read start → start ≡ read
  start_is None None h = refl
  start_is None (Some id) h = absurd h
  start_is (Some n) None h = absurd h
  start_is (Some n) (Some id) h = ap (λ (k : ℕ). Some k) (stay Functions n id (λ e. absurd cc) h)

tag_means : (look : Look) (slot : ℕ) (r : ReadTag) (t : Tag) → IsTagOf look slot r t → own_tag t ≡ retyped_tag (type_id look) (tag_of r)
tag_means look slot r t h = go _ _ _ _ (type_is look r.ty t.ty h.ty) h.import
  where
    go : (a b : ℕ) (m n : Option ℕ) → a ≡ b → m ≡ n → ◌≡◌ {A = grammar.Tag} (record { ty = a; imported = m }) (record { ty = b; imported = n })
    go a b m n e f = rw (e, f) refl

custom_means : {B : Type 0} (boxed : B → grammar.Custom) (slot : ℕ) (r : ReadCustom) (section : Section B) → IsCustomOf slot r section → own_custom boxed section ≡ custom_of r
custom_means boxed slot r (Raw section) h = go _ _ _ _ h.named h.holds
  where
    go : (a b c d : List ℕ) → a ≡ b → c ≡ d → ◌≡◌ {A = grammar.Custom} (record { name = a; bytes = c }) (record { name = b; bytes = d })
    go a b c d e f = rw (e, f) refl
custom_means boxed slot r (Boxed section) h = absurd h

pub imports_mean : ImportsMean
imports_mean s look new stay h = as_read (IsImportOf look) import_of own_import s.imports.items new (import_means look stay) h

pub exports_mean : ExportsMean
exports_mean s look new stay h = as_read (IsExportOf look) export_of own_export s.exports.items new (export_means look stay) h

pub memories_mean : MemoriesMean
memories_mean s new h = as_read IsMemoryOf memory_of own_memory s.memories.items new (λ slot r m is. is.meant) h

pub tags_mean : TagsMean
tags_mean s look new h =
    as_changed (IsTagOf look) tag_of own_tag (λ t. Unit {0}) (retyped_tag (type_id look)) (λ slot r t _ is. tag_means look slot r t is) s.tags.items new (nothing_asked tag_of s.tags.items) h

pub start_means : StartMeans
start_means s look start stay h = start_is look stay s.start start h

pub customs_mean : {B : Type 0} (boxed : B → grammar.Custom) → CustomsMean boxed
customs_mean boxed s new h = as_read IsCustomOf custom_of (own_custom boxed) (plain s.customs.items) new (custom_means boxed) h
