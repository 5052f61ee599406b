-- Items of a file with the numbers of their types sent elsewhere, those inside expressions too. Bodies aside.
use Rattle.std.specs.Prelude.{ℕ}
use Rattle.walrus_named_bodies.specs.walrus_file_bodies.walrus_items_into.walrus_module_bodies.walrus_body_trees.walrus_meaning.walrus_local_function.walrus_body_locals.wasm_grammar.Modules.{Function, Module}
pub use Rattle.wasm_normal_modules.specs.Modules.{by_types, each, retyped_element, retyped_expr, retyped_global, retyped_items, retyped_mode, retyped_origin, retyped_segment, retyped_table, retyped_tag}

abbrev pub retyped_function : (ℕ → ℕ) → Function → Function
retyped_function r f = record f { ty = r f.ty }

-- the items of a module, so renamed; its groups stay
abbrev pub retyped : (ℕ → ℕ) → Module → Module
retyped r m = record m {
  functions = each (retyped_function r) m.functions;
  tables = each (retyped_table r) m.tables;
  tags = each (retyped_tag r) m.tags;
  globals = each (retyped_global r) m.globals;
  elements = each (retyped_element r) m.elements;
  segments = each (retyped_segment r) m.segments;
}
