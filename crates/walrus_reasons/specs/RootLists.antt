-- Roots as a list, each with the reason.
use Rattle.std.specs.Prelude.{◌↔◌, ℕ, Bool, true, false, List, [], ◌∷◌, ◌++◌, map, Option, Some, None, is_some, Contains, if◌then◌else◌}
use Rattle.wasm_formats.specs.declared.fault.Space.TheVariants as spaces
use Rattle.walrus_arena.specs.Arena.{Arena, item_at}
use Rattle.walrus_used.specs.walrus_module_items.declared.data.Data.{Data}
use Rattle.walrus_used.specs.walrus_module_items.declared.data.DataKind.{DataKind}
use Rattle.walrus_used.specs.walrus_module_items.declared.data.DataKind.TheVariants as datas
use Rattle.walrus_used.specs.walrus_module_items.declared.element.Element.{Element}
use Rattle.walrus_used.specs.walrus_module_items.declared.element.ElementKind.{ElementKind}
use Rattle.walrus_used.specs.walrus_module_items.declared.element.ElementKind.TheVariants as elements
use Rattle.walrus_used.specs.walrus_module_items.declared.export.Export.{Export}
use Rattle.walrus_used.specs.walrus_module_items.declared.table.Table.{Table}
use Rattle.walrus_used.specs.walrus_module.Items.{given_out}
use Rattle.walrus_used.specs.walrus_module.Parts.{Module}
use Rattle.walrus_used.specs.walrus_references.Roots.{Root}
use Rattle.walrus_roots.specs.declared.item.Item.{Item}
use Rattle.walrus_roots.specs.Items.{item}
use Rattle.walrus_reasons.specs.Picks.{picked}
use Rattle.walrus_reasons.specs.declared.reason.Reason.{Reason}
use Rattle.walrus_reasons.specs.declared.reason.Reason.TheVariants as reasons

-- what the export of this id gives out
abbrev pub export_roots : ℕ → Export → List (Item × Reason)
export_roots e export = (given_out export.item, reasons.Exported e) ∷ []

-- the start function
abbrev pub start_roots : Option ℕ → List (Item × Reason)
start_roots (Some f) = (item spaces.Function f, reasons.Starts) ∷ []
start_roots None = []

-- an active data segment
abbrev pub data_roots : ℕ → DataKind → List (Item × Reason)
data_roots d (datas.Active _ _) = (item spaces.Data d, reasons.IsCopied) ∷ []
data_roots d datas.Passive = []

abbrev pub is_imported : Option Table → Bool
is_imported (Some table) = is_some table.import
is_imported None = false

-- why an active element segment of this table is kept for itself, if it is: the table is imported, or all such segments are kept
abbrev pub filling_reason : (keep imported : Bool) → Option Reason
filling_reason keep true = Some reasons.FillsImport
filling_reason keep false = if keep then Some reasons.IsFilling else None

abbrev pub with_reason : Item → Option Reason → List (Item × Reason)
with_reason x None = []
with_reason x (Some why) = (x, why) ∷ []

-- a declared element segment, or an active one: of an imported table, or any where all are kept
abbrev pub element_roots : (keep : Bool) → Arena Table → ℕ → ElementKind → List (Item × Reason)
element_roots keep tables e elements.Passive = []
element_roots keep tables e elements.Declared = (item spaces.Element e, reasons.IsDeclared) ∷ []
element_roots keep tables e (elements.Active t _) = with_reason (item spaces.Element e) (filling_reason keep (is_imported (item_at tables t)))

-- what custom sections push
abbrev pub pushed_root : Item → Item × Reason
pushed_root x = (x, reasons.IsPushed)

-- those of exports, the start function, data segments, element segments and what custom sections push, each by rising id
abbrev pub root_list : Module → List Item → List (Item × Reason)
root_list m pushed =
    (((picked export_roots m.exports ++ start_roots m.start) ++ picked (λ d (segment : Data). data_roots d segment.kind) m.data_segments)
    ++ picked (λ e (segment : Element). element_roots m.config.keep_segments m.tables e segment.kind) m.elements) ++ map pushed_root pushed

-- just the roots are listed, some of them for more than one reason
abbrev pub RootsAreListed : Type 0
RootsAreListed = (m : Module) (pushed : List Item) (x : Item) → ((why : Reason) × Contains (root_list m pushed) (x, why)) ↔ Root m pushed x
