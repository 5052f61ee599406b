-- What a module means: the abstract module whose numbers are ids. Custom sections aren't in it, since what boxed ones hold may
-- depend on what is written; nor are names.
use Rattle.std.specs.Prelude.{ℕ, Bool, true, false, List, [], ◌∷◌, map, Option, Some, None, if◌then◌else◌}
use Rattle.std.specs.List.{flat_map, filter}
use Rattle.walrus_arena.specs.Arena.{entries_from}
use Rattle.walrus_forms.specs.Kinds.{Kind}
use Rattle.walrus_forms.specs.Records.{TypeGroup}
use Rattle.walrus_items.specs.declared.local.Local.{Local}
use Rattle.walrus_types.specs.Items.{Item as TypeItem, Group}
use Rattle.walrus_types.specs.Table.{Table as TypeTable, type_at}
use Rattle.walrus_linked.specs.walrus_module_items.declared.function.Function.{Function}
use Rattle.walrus_linked.specs.walrus_module_items.declared.function.FunctionKind.{FunctionKind}
use Rattle.walrus_linked.specs.walrus_module_items.declared.function.FunctionKind.TheVariants as functions
use Rattle.walrus_linked.specs.walrus_module_items.Functions.{type_of}
use Rattle.wasm_grammar.specs.Modules as grammar
use Rattle.walrus_linked.specs.walrus_module.Parts.{Module}
pub use Rattle.walrus_item_meaning.specs.Meaning.{slots_of, own_brought, own_given, own_import, own_export, table_init, own_table, own_memory, own_value_of, own_global, own_tag, own_element_mode, own_elements, own_element, own_data_mode, own_segment}
use Rattle.walrus_meaning.specs.Bodies.{own_body}

-- ---- types: entry types stand for bodies' own blocks, and aren't in it

abbrev pub plain_kind : Option TypeItem → List Kind
plain_kind None = []
plain_kind (Some ty) = if ty.kind.entry then [] else ty.kind ∷ []

abbrev pub group_kinds : TypeTable → Group → TypeGroup
group_kinds t group = record { marked = group.explicit; kinds = flat_map (λ id. plain_kind (type_at t id)) group.types }

abbrev pub has_kinds : TypeGroup → Bool
has_kinds group = is_filled group.kinds
  where
    is_filled : List Kind → Bool
    is_filled [] = false
    is_filled (_ ∷ _) = true

-- the live groups by rising id, but for those of entry types alone; names in them are ids
abbrev pub own_groups : TypeTable → List TypeGroup
own_groups t = filter has_kinds (map (λ e. group_kinds t e.1) (entries_from 0 t.groups))

-- the ids of their types, in this order
abbrev pub type_ids : TypeTable → List ℕ
type_ids t = flat_map (λ e. flat_map (λ id. if_plain id (type_at t id)) e.1.types) (entries_from 0 t.groups)
  where
    if_plain : ℕ → Option TypeItem → List ℕ
    if_plain id None = []
    if_plain id (Some ty) = if ty.kind.entry then [] else id ∷ []

-- ---- functions: those of the other items stand in `walrus_item_meaning`

-- a linked module has no function without a body
abbrev pub own_origin : List Local → FunctionKind → grammar.Origin grammar.Body
own_origin locals (functions.Import imported) = grammar.Imported imported.import
own_origin locals (functions.Local local) = grammar.Own (own_body locals local)
own_origin locals (functions.Uninitialized _) = grammar.Own (record { locals = []; operators = [] })

abbrev pub own_function : List Local → Function → grammar.Function
own_function locals f = record { ty = type_of f.kind; origin = own_origin locals f.kind }

-- the abstract module: in each space, for each id ever given out, the item while it lives; a type's number is its id, too, and
-- `type_ids` has the ids of the types of the groups in their order
abbrev pub means : Module → grammar.Module
means m = record {
  groups = own_groups m.types;
  imports = slots_of own_import m.imports;
  functions = slots_of (own_function m.locals) m.funcs;
  tables = slots_of own_table m.tables;
  memories = slots_of own_memory m.memories;
  tags = slots_of own_tag m.tags;
  globals = slots_of own_global m.globals;
  exports = slots_of own_export m.exports;
  start = m.start;
  elements = slots_of own_element m.elements;
  segments = slots_of own_segment m.data_segments;
  customs = [];
}
