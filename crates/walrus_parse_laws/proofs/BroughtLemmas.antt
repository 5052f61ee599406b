-- Lemmas: the imports of items, in memory and in the file.
use Rattle.std.specs.Prelude.{ℕ, ◌≡◌, List, [], ◌∷◌, map, Option, Some, None, slice_index_or, refl}
use Rattle.std.specs.Option.{option_and_then}
use Rattle.std.proofs.Common.{ap, sym, ◌∙◌}
use Rattle.walrus_named_bodies.specs.walrus_file_bodies.walrus_items_into.walrus_module_bodies.walrus_body_trees.walrus_meaning.walrus_local_function.walrus_body_locals.walrus_body_nesting.wasm_formats.declared.fault.Space.{Space}
use Rattle.walrus_named_bodies.specs.walrus_file_bodies.walrus_items_into.walrus_module_bodies.walrus_body_trees.walrus_meaning.walrus_local_function.walrus_body_locals.walrus_body_nesting.wasm_formats.declared.fault.Space.TheVariants as spaces
use Rattle.walrus_named_bodies.specs.walrus_file_bodies.walrus_items_into.walrus_module_bodies.walrus_body_trees.walrus_meaning.walrus_local_function.walrus_body_locals.wasm_grammar.Modules as grammar
use Rattle.wasm_import_links.specs.Links as file
use Rattle.walrus_arena.specs.Arena.{item_at}
use Rattle.walrus_parse_laws.specs.Renamed.{retyped_global, retyped_origin, retyped_table, retyped_tag}
use Rattle.walrus_named_bodies.specs.walrus_file_bodies.walrus_items_into.walrus_module_bodies.walrus_body_trees.walrus_meaning.walrus_body_writer.walrus_pairing.walrus_items.declared.local.Local.{Local}
use Rattle.walrus_named_bodies.specs.walrus_file_bodies.walrus_items_into.walrus_module_bodies.walrus_body_trees.walrus_meaning.walrus_linked.Linked.{function_import, global_import, import_of, tag_import}
use Rattle.walrus_named_bodies.specs.walrus_file_bodies.walrus_items_into.walrus_module_bodies.walrus_body_trees.walrus_meaning.Meaning.{means, own_brought, own_function, own_global, own_memory, own_origin, own_table, own_tag, own_value_of}
use Rattle.walrus_named_bodies.specs.walrus_file_bodies.walrus_items_into.walrus_module_bodies.walrus_body_trees.walrus_meaning.walrus_module.Items.{brought}
use Rattle.walrus_named_bodies.specs.walrus_file_bodies.walrus_items_into.walrus_module_bodies.walrus_body_trees.walrus_meaning.walrus_module.Parts.{Module}
use Rattle.walrus_named_bodies.specs.walrus_file_bodies.walrus_items_into.walrus_module_bodies.walrus_body_trees.walrus_meaning.walrus_linked.walrus_module_items.declared.function.Function.{Function}
use Rattle.walrus_named_bodies.specs.walrus_file_bodies.walrus_items_into.walrus_module_bodies.walrus_body_trees.walrus_meaning.walrus_linked.walrus_module_items.declared.function.FunctionKind.{FunctionKind}
use Rattle.walrus_named_bodies.specs.walrus_file_bodies.walrus_items_into.walrus_module_bodies.walrus_body_trees.walrus_meaning.walrus_linked.walrus_module_items.declared.function.FunctionKind.TheVariants as functions
use Rattle.walrus_named_bodies.specs.walrus_file_bodies.walrus_items_into.walrus_module_bodies.walrus_body_trees.walrus_meaning.walrus_linked.walrus_module_items.declared.global.Global.{Global}
use Rattle.walrus_named_bodies.specs.walrus_file_bodies.walrus_items_into.walrus_module_bodies.walrus_body_trees.walrus_meaning.walrus_linked.walrus_module_items.declared.global.GlobalKind.{GlobalKind}
use Rattle.walrus_named_bodies.specs.walrus_file_bodies.walrus_items_into.walrus_module_bodies.walrus_body_trees.walrus_meaning.walrus_linked.walrus_module_items.declared.global.GlobalKind.TheVariants as globals
use Rattle.walrus_named_bodies.specs.walrus_file_bodies.walrus_items_into.walrus_module_bodies.walrus_body_trees.walrus_meaning.walrus_linked.walrus_module_items.declared.import.ImportKind.{ImportKind}
use Rattle.walrus_named_bodies.specs.walrus_file_bodies.walrus_items_into.walrus_module_bodies.walrus_body_trees.walrus_meaning.walrus_linked.walrus_module_items.declared.import.ImportKind.TheVariants as kinds
use Rattle.walrus_named_bodies.specs.walrus_file_bodies.walrus_items_into.walrus_module_bodies.walrus_body_trees.walrus_meaning.walrus_linked.walrus_module_items.declared.memory.Memory.{Memory}
use Rattle.walrus_named_bodies.specs.walrus_file_bodies.walrus_items_into.walrus_module_bodies.walrus_body_trees.walrus_meaning.walrus_linked.walrus_module_items.declared.table.Table.{Table}
use Rattle.walrus_named_bodies.specs.walrus_file_bodies.walrus_items_into.walrus_module_bodies.walrus_body_trees.walrus_meaning.walrus_linked.walrus_module_items.declared.tag.Tag.{Tag}
use Rattle.walrus_named_bodies.specs.walrus_file_bodies.walrus_items_into.walrus_tables_into.walrus_sections.walrus_roots.Items.{item}
use Rattle.walrus_named_bodies.specs.walrus_file_bodies.walrus_items_into.walrus_tables_into.walrus_sections.walrus_roots.declared.item.Item.{Item}
use Rattle.walrus_parse_laws.specs.Items.{HasItems, brought_by, heads}
use Rattle.walrus_parse_laws.proofs.ItemsSlotLemmas.{import_at, imports_same}

-- ---- what is meant of an item is brought by its import

function_same : (locals : List Local) (kind : FunctionKind) → file.origin_import (own_origin locals kind) ≡ function_import kind
function_same locals (functions.Import imported) = refl
function_same locals (functions.Local local) = refl
function_same locals (functions.Uninitialized ty) = refl

global_same : (kind : GlobalKind) → file.origin_import (own_value_of kind) ≡ global_import kind
global_same (globals.Import import) = refl
global_same (globals.Local init) = refl

and_then_is : {A : Type 0} (own : A → Option ℕ) (o : Option A) → file.slot_import own o ≡ option_and_then own o
and_then_is own None = refl
and_then_is own (Some x) = refl

-- so it is in each space
import_meant : (m : Module) (space : Space) (id : ℕ) → slice_index_or (file.brought (means m) space) id None ≡ import_of m (item space id)
import_meant m spaces.Function id =
    import_at (own_function m.locals) file.function_brought (λ (f : Function). function_import f.kind) (λ f. function_same m.locals f.kind) m.funcs.slots id
    ∙ and_then_is (λ (f : Function). function_import f.kind) (item_at m.funcs id)
import_meant m spaces.Table id = import_at own_table file.table_brought (λ (t : Table). t.import) (λ t. refl) m.tables.slots id ∙ and_then_is (λ (t : Table). t.import) (item_at m.tables id)
import_meant m spaces.Memory id = import_at own_memory file.memory_brought (λ (x : Memory). x.import) (λ x. refl) m.memories.slots id ∙ and_then_is (λ (x : Memory). x.import) (item_at m.memories id)
import_meant m spaces.Global id =
    import_at own_global file.global_brought (λ (g : Global). global_import g.kind) (λ g. global_same g.kind) m.globals.slots id
    ∙ and_then_is (λ (g : Global). global_import g.kind) (item_at m.globals id)
import_meant m spaces.Tag id = import_at own_tag file.tag_brought (λ (t : Tag). tag_import t.kind) (λ t. refl) m.tags.slots id ∙ and_then_is (λ (t : Tag). tag_import t.kind) (item_at m.tags id)
import_meant m spaces.«Type» id = refl
import_meant m spaces.Element id = refl
import_meant m spaces.Data id = refl
import_meant m spaces.Local id = refl
import_meant m spaces.Label id = refl

pub import_of_meant : (m : Module) (x : Item) → slice_index_or (file.brought (means m) x.space) x.id None ≡ import_of m x
import_of_meant m x = import_meant m x.space x.id

abbrev pub item_of : grammar.Item → Item
item_of x = item x.space x.number

pub brought_is : (kind : ImportKind) → item_of (own_brought kind) ≡ brought kind
brought_is (kinds.Function id) = refl
brought_is (kinds.Table id) = refl
brought_is (kinds.Memory id) = refl
brought_is (kinds.Global id) = refl
brought_is (kinds.Tag id) = refl

-- ---- a module with the items of a file has its imports

abbrev head_import : Option (ℕ × Option ℕ) → Option ℕ
head_import None = None
head_import (Some h) = h.1

brought_head : (r : ℕ → ℕ) (f : grammar.Function) (origin : grammar.Origin grammar.Body) → file.origin_import origin ≡ brought_by origin
brought_head r f (grammar.Imported n) = refl
brought_head r f (grammar.Own body) = refl

heads_bring : (r : ℕ → ℕ) (fs : List (Option grammar.Function)) → map (file.slot_import file.function_brought) fs ≡ map head_import (heads r fs)
heads_bring r [] = refl
heads_bring r (None ∷ fs) = ap (λ (l : List (Option ℕ)). None ∷ l) (heads_bring r fs)
heads_bring r (Some f ∷ fs) =
    ap (λ (o : Option ℕ). o ∷ map (file.slot_import file.function_brought) fs) (brought_head r f f.origin) ∙ ap (λ (l : List (Option ℕ)). brought_by f.origin ∷ l) (heads_bring r fs)

global_kept : (r : ℕ → ℕ) (origin : grammar.Origin grammar.Expr) → file.origin_import (retyped_origin r origin) ≡ file.origin_import origin
global_kept r (grammar.Imported n) = refl
global_kept r (grammar.Own e) = refl

pub file_brings : (r : ℕ → ℕ) (f m : grammar.Module) → HasItems r f m → (space : Space) → file.brought m space ≡ file.brought f space
file_brings r f m h spaces.Function =
    heads_bring (λ n. n) m.functions ∙ ap (map head_import) h.functions ∙ sym (heads_bring r f.functions)
file_brings r f m h spaces.Table = ap (map (file.slot_import file.table_brought)) h.tables ∙ imports_same (retyped_table r) file.table_brought (λ t. refl) f.tables
file_brings r f m h spaces.Memory = ap (map (file.slot_import file.memory_brought)) h.memories
file_brings r f m h spaces.Tag = ap (map (file.slot_import file.tag_brought)) h.tags ∙ imports_same (retyped_tag r) file.tag_brought (λ t. refl) f.tags
file_brings r f m h spaces.Global = ap (map (file.slot_import file.global_brought)) h.globals ∙ imports_same (retyped_global r) file.global_brought (λ g. global_kept r g.origin) f.globals
file_brings r f m h spaces.«Type» = refl
file_brings r f m h spaces.Element = refl
file_brings r f m h spaces.Data = refl
file_brings r f m h spaces.Local = refl
file_brings r f m h spaces.Label = refl
