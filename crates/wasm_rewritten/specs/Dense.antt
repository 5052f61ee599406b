-- A part whose items are listed in their order stands as a module does in a file.
use Rattle.std.specs.Prelude.{ℕ, ◌≡◌, Some, None, slice_get}
use Rattle.std.specs.List.{AllByRecursion}
use Rattle.wasm_operators.specs.Items.{Space}
use Rattle.wasm_grammar.specs.Modules.{Table, Segment, Export, Module}
use Rattle.wasm_module_rules.specs.Linked.{Each}
use Rattle.wasm_section_bytes.specs.Flags.{IsNotDeclared}
use Rattle.wasm_module_bytes.specs.Due.{IsExported, IsWritten}
use Rattle.wasm_import_links.specs.Links.{ImportsLink}
use Rattle.wasm_part.specs.Part.{Plan, part}
use Rattle.wasm_part.specs.Closed.{IsListed}
use Rattle.wasm_part.specs.Kept.{ListsItems}
use Rattle.wasm_part.specs.Order.{InOrder}
use Rattle.wasm_canonical.specs.Dense.{IsDense}

-- imports and the items that they bring name one another; no imported table has an initialiser; what is exported is of the five spaces; no data segment
-- declares
pub record IsOrderly (m : Module) : Type 0 where
  pub linked : ImportsLink m
  pub tables : Each (λ (t : Table). (i : ℕ) → t.imported ≡ Some i → t.init ≡ None) m.tables
  pub exports : Each (λ (e : Export). IsExported e.item.space) m.exports
  pub segments : Each (λ (x : Segment). IsNotDeclared x.mode) m.segments

abbrev pub PartsAreDense : Type 0
PartsAreDense = (p : Plan) (m : Module) → IsOrderly m → InOrder m p → ListsItems p m
    → ((space : Space) (i n : ℕ) → IsListed space → slice_get (p.listed space) i ≡ Some n → p.renames space n ≡ i) → AllByRecursion IsWritten p.groups → IsDense (part p m)
