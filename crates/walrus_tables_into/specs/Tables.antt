-- Tables, as they were read and in a module.
use Rattle.std.specs.Prelude.{ℕ, ◌≡◌, ◌⊎◌, [], Option, Some, None, IsSome, Ok, Err}
use Rattle.std.specs.List.{Any}
use Rattle.std.specs.Global.{Vec}
use Rattle.std.specs.HashSet.{keys}
use Rattle.wasm_grammar.specs.Values.{is_wide}
use Rattle.walrus_sections_into.specs.walrus_forms.Records.{ref_of}
use Rattle.walrus_sections_into.specs.walrus_instr.Constants.{ops_of}
use Rattle.walrus_sections_into.specs.walrus_instr.declared.const_expr.ConstExpr.{ConstExpr}
use Rattle.walrus_sections_into.specs.walrus_operators.declared.operator.Operator.{Operator}
use Rattle.walrus_sections_into.specs.walrus_pairing.Looks.{Look}
use Rattle.walrus_sections_into.specs.walrus_module_items.declared.table.Table.{Table}
use Rattle.walrus_sections_into.specs.walrus_known_sections.declared.items.Table.{Table as ReadTable}
use Rattle.walrus_sections_into.specs.Becomes.{OpsBecome}
use Rattle.walrus_sections_into.specs.Consts.{OpLacks}
use Rattle.walrus_sections_into.specs.declared.error.IntoError.TheVariants.{Unknown}
use Rattle.walrus_tables_into.specs.Types.{ref_in}

-- the same initialiser, renamed, or none
abbrev pub InitBecomes : Look → Option (Vec Operator) → Option ConstExpr → Type 0
InitBecomes look None None = Unit {0}
InitBecomes look (Some init) (Some expr) = OpsBecome look init.items (ops_of expr)
InitBecomes look _ _ = ⊥

-- of the same type, renamed, and with the same limits, brought by the same import; its id is its slot, and no segment is active in it but those that name it
pub record IsTableOf (look : Look) (slot : ℕ) (read : ReadTable) (t : Table) : Type 0 where
  pub id : t.id ≡ slot
  pub wide : t.table64 ≡ is_wide read.ty.limits.flags
  pub initial : t.initial ≡ read.ty.limits.minimum
  pub maximum : t.maximum ≡ read.ty.limits.maximum
  pub element : ref_in look (ref_of read.ty.element) ≡ Ok t.element_ty
  pub init : InitBecomes look read.init t.init
  pub import : t.import ≡ read.import
  pub no_segments : keys t.elem_segments ≡ []
  pub no_name : t.name ≡ None

-- an operator of its initialiser names nothing, or isn't constant
abbrev pub InitLacks : Look → Option (Vec Operator) → Type 0
InitLacks look None = ⊥
InitLacks look (Some init) = Any (OpLacks look) init.items

-- the type of its elements names none, or its initialiser is none; one that an import brings has no initialiser
abbrev pub TableLacks : Look → ReadTable → Type 0
TableLacks look read = (ref_in look (ref_of read.ty.element) ≡ Err Unknown) ⊎ (InitLacks look read.init ⊎ (IsSome read.init × IsSome read.import))
