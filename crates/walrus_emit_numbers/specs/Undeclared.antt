-- Functions to which bodies and globals refer, and that nothing declares.
use Rattle.std.specs.Prelude.{ℕ, Bool, true, false, not, ◌&&◌, List, [], ◌∷◌, filter, fold, replicate, slice_index_or, slice_set}
use Rattle.walrus_arena.specs.Arena.{next_id}
use Rattle.walrus_instr.specs.declared.const_expr.ConstExpr.{ConstExpr}
use Rattle.walrus_instr.specs.declared.const_expr.ConstExpr.TheVariants as exprs
use Rattle.walrus_instr.specs.declared.const_expr.ConstOp.{ConstOp}
use Rattle.walrus_instr.specs.declared.const_expr.ConstOp.TheVariants as ops
use Rattle.walrus_index_maps.specs.Runs.{run_from}
use Rattle.walrus_module.specs.declared.module.Module.{Module}
use Rattle.walrus_module.specs.walrus_collections.LookUps.{items}
use Rattle.walrus_module_items.specs.declared.element.Element.{Element}
use Rattle.walrus_module_items.specs.declared.element.ElementItems.{ElementItems}
use Rattle.walrus_module_items.specs.declared.element.ElementItems.TheVariants as held
use Rattle.walrus_module_items.specs.declared.export.Export.{Export}
use Rattle.walrus_module_items.specs.declared.export.ExportItem.{ExportItem}
use Rattle.walrus_module_items.specs.declared.export.ExportItem.TheVariants as outs
use Rattle.walrus_module_items.specs.declared.global.Global.{Global}
use Rattle.walrus_module_items.specs.declared.global.GlobalKind.{GlobalKind}
use Rattle.walrus_module_items.specs.declared.global.GlobalKind.TheVariants as globals
use Rattle.walrus_emit_numbers.specs.declared.facts.BodyFacts.{BodyFacts}

-- ---- marks of functions, by id, with those of one thing more

abbrev pub mark : List Bool → ℕ → List Bool
mark marks id = slice_set marks id true

abbrev pub is_marked : List Bool → ℕ → Bool
is_marked marks id = slice_index_or marks id false

-- the function to which an operator refers
abbrev pub mark_op : List Bool → ConstOp → List Bool
mark_op marks (ops.RefFunc function) = mark marks function
mark_op marks _ = marks

abbrev pub mark_expr : List Bool → ConstExpr → List Bool
mark_expr marks (exprs.RefFunc function) = mark marks function
mark_expr marks (exprs.Extended list) = fold mark_op marks list.items
mark_expr marks _ = marks

-- the one that an item of a segment holds: it is a single operator
abbrev pub mark_single : List Bool → List ConstOp → List Bool
mark_single marks [] = marks
mark_single marks (op ∷ []) = mark_op marks op
mark_single marks (op ∷ more ∷ list) = marks

abbrev pub mark_item : List Bool → ConstExpr → List Bool
mark_item marks (exprs.RefFunc function) = mark marks function
mark_item marks (exprs.Extended list) = mark_single marks list.items
mark_item marks _ = marks

-- those to which a body refers
abbrev pub mark_body : List Bool → BodyFacts → List Bool
mark_body marks body = fold mark marks body.referred.items

-- those to which the first value of a global refers
abbrev pub mark_global : List Bool → Global → List Bool
mark_global marks g = by_kind g.kind
  where
    by_kind : GlobalKind → List Bool
    by_kind (globals.Import import) = marks
    by_kind (globals.Local init) = mark_expr marks init

-- the one that an export gives out
abbrev pub mark_export : List Bool → Export → List Bool
mark_export marks e = by_item e.item
  where
    by_item : ExportItem → List Bool
    by_item (outs.Function function) = mark marks function
    by_item _ = marks

-- those that an element segment holds
abbrev pub mark_element : List Bool → Element → List Bool
mark_element marks e = by_items e.items
  where
    by_items : ElementItems → List Bool
    by_items (held.Functions functions) = fold mark marks functions.items
    by_items (held.Expressions ty list) = fold mark_item marks list.items

-- ---- of a module

abbrev pub unmarked : {B : Type 0} → Module B → List Bool
unmarked input = replicate (next_id input.funcs) false

-- those to which bodies and globals refer
abbrev pub referred : {B : Type 0} → Module B → List BodyFacts → List Bool
referred input facts = fold mark_global (fold mark_body (unmarked input) facts) (items input.globals)

-- those that exports and element segments declare
abbrev pub declared : {B : Type 0} → Module B → List Bool
declared input = fold mark_element (fold mark_export (unmarked input) (items input.exports)) (items input.elements)

-- marked by these, and not by those
abbrev pub is_alone : List Bool → List Bool → ℕ → Bool
is_alone told held id = is_marked told id && not (is_marked held id)

-- those that have to be declared, by rising id
abbrev pub undeclared_of : {B : Type 0} → Module B → List BodyFacts → List ℕ
undeclared_of input facts = filter (is_alone (referred input facts) (declared input)) (run_from 0 (next_id input.funcs))
