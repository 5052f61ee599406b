-- Element segments, as they were read and in a module.
use Rattle.std.specs.Prelude.{ℕ, ◌≡◌, ◌⊎◌, Some, None, Ok, Err}
use Rattle.std.specs.Global.{Vec}
use Rattle.std.specs.List.{AllZip, Any}
use Rattle.walrus_sections_into.specs.wasm_operators.Items.{Functions, Tables}
use Rattle.walrus_sections_into.specs.walrus_forms.Records.{ref_of}
use Rattle.walrus_sections_into.specs.walrus_instr.Constants.{ops_of}
use Rattle.walrus_sections_into.specs.walrus_instr.declared.const_expr.ConstExpr.{ConstExpr}
use Rattle.walrus_sections_into.specs.walrus_operators.declared.operator.Operator.{Operator}
use Rattle.walrus_sections_into.specs.walrus_pairing.Looks.{Look}
use Rattle.walrus_sections_into.specs.walrus_module_items.declared.element.Element.{Element}
use Rattle.walrus_sections_into.specs.walrus_module_items.declared.element.ElementKind.{ElementKind}
use Rattle.walrus_sections_into.specs.walrus_module_items.declared.element.ElementKind.TheVariants as kinds
use Rattle.walrus_sections_into.specs.walrus_module_items.declared.element.ElementItems.{ElementItems}
use Rattle.walrus_sections_into.specs.walrus_module_items.declared.element.ElementItems.TheVariants as holds
use Rattle.walrus_sections_into.specs.walrus_known_sections.declared.items.Element.{Element as ReadElement}
use Rattle.walrus_sections_into.specs.walrus_known_sections.declared.items.ElementItems.{ElementItems as ReadItems}
use Rattle.walrus_sections_into.specs.walrus_known_sections.declared.items.ElementItems.TheVariants as listed
use Rattle.walrus_sections_into.specs.walrus_known_sections.declared.items.Mode.{Mode}
use Rattle.walrus_sections_into.specs.walrus_known_sections.declared.items.Mode.TheVariants as modes
use Rattle.walrus_sections_into.specs.Becomes.{OpsBecome}
use Rattle.walrus_sections_into.specs.Consts.{OpLacks}
use Rattle.walrus_sections_into.specs.declared.error.IntoError.TheVariants.{Unknown}
use Rattle.walrus_tables_into.specs.Types.{ref_in}

-- at the same time, into the table that is named, at the same offset, renamed
abbrev pub ModeBecomes : Look → Mode → ElementKind → Type 0
ModeBecomes look modes.Passive kinds.Passive = Unit {0}
ModeBecomes look modes.Declared kinds.Declared = Unit {0}
ModeBecomes look (modes.Active n offset) (kinds.Active table expr) = (look Tables n ≡ Some table) × OpsBecome look offset.items (ops_of expr)
ModeBecomes look _ _ = ⊥

-- the function that a number names
abbrev pub IsFunctionOf : Look → ℕ → ℕ → Type 0
IsFunctionOf look n id = look Functions n ≡ Some id

-- the same expression, renamed
abbrev pub ExprBecomes : Look → Vec Operator → ConstExpr → Type 0
ExprBecomes look ops expr = OpsBecome look ops.items (ops_of expr)

-- as many functions, each the one that is named; or as many expressions, each the same, renamed, of the same type
abbrev pub ItemsBecome : Look → ReadItems → ElementItems → Type 0
ItemsBecome look (listed.Functions numbers) (holds.Functions ids) = AllZip (IsFunctionOf look) numbers.items ids.items
ItemsBecome look (listed.Expressions read exprs) (holds.Expressions ty become) = (ref_in look (ref_of read) ≡ Ok ty) × AllZip (ExprBecomes look) exprs.items become.items
ItemsBecome look _ _ = ⊥

-- of the same items, at the same time; its id is its slot
pub record IsElementOf (look : Look) (slot : ℕ) (read : ReadElement) (e : Element) : Type 0 where
  pub id : e.id ≡ slot
  pub mode : ModeBecomes look read.mode e.kind
  pub items : ItemsBecome look read.items e.items
  pub no_name : e.name ≡ None

-- an operator names nothing, or isn't constant
abbrev pub ExprLacks : Look → Vec Operator → Type 0
ExprLacks look ops = Any (OpLacks look) ops.items

-- it names no table, or its offset is none
abbrev pub ModeLacks : Look → Mode → Type 0
ModeLacks look (modes.Active n offset) = (look Tables n ≡ None) ⊎ ExprLacks look offset
ModeLacks look _ = ⊥

-- the number names no function
abbrev pub NoFunction : Look → ℕ → Type 0
NoFunction look n = look Functions n ≡ None

-- one of the numbers names no function, the type names none, or an expression is none
abbrev pub ItemsLack : Look → ReadItems → Type 0
ItemsLack look (listed.Functions numbers) = Any (NoFunction look) numbers.items
ItemsLack look (listed.Expressions read exprs) = (ref_in look (ref_of read) ≡ Err Unknown) ⊎ Any (ExprLacks look) exprs.items

abbrev pub ElementLacks : Look → ReadElement → Type 0
ElementLacks look read = ModeLacks look read.mode ⊎ ItemsLack look read.items
