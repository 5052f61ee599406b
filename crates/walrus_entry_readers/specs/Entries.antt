-- Entries as they are read, in words of the grammar.
use Rattle.std.specs.Prelude.{ℕ, Option, Some, None}
use Rattle.std.proofs.Common.{inl, inr}
use Rattle.std.specs.Global.{Vec}
use Rattle.walrus_operators.specs.declared.operator.Operator.{Operator}
use Rattle.walrus_known_sections.specs.wasm_sections.wasm_grammar.Modules.{Expr}
use Rattle.walrus_known_sections.specs.wasm_sections.Entities as grammar
use Rattle.walrus_section_values.specs.Globals.{expr_of}
use Rattle.walrus_known_sections.specs.Items.{table_type_of, global_type_of}
use Rattle.walrus_known_sections.specs.declared.items.TableType.{TableType}
use Rattle.walrus_entry_readers.specs.declared.entities.TableEntry.{TableEntry}
use Rattle.walrus_entry_readers.specs.declared.entities.GlobalEntry.{GlobalEntry}

abbrev pub tag_type_of : ℕ → grammar.TagType
tag_type_of ty = (tt, ty)

abbrev pub table_entry_as : TableType → Option (Vec Operator) → grammar.TableEntry
table_entry_as ty None = inr (table_type_of ty)
table_entry_as ty (Some init) = inl (tt, (table_type_of ty, expr_of init))

abbrev pub table_entry_of : TableEntry → grammar.TableEntry
table_entry_of t = table_entry_as t.ty t.init

abbrev pub global_entry_of : GlobalEntry → grammar.GlobalEntry
global_entry_of g = (global_type_of g.ty, expr_of g.init)

abbrev pub init_table_of : TableType × Vec Operator → grammar.TableType × Expr
init_table_of p = (table_type_of p.0, expr_of p.1)

abbrev pub initialised_of : TableType × Vec Operator → grammar.Initialised
initialised_of p = (tt, init_table_of p)
