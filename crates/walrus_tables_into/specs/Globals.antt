-- Globals, as they were read and in a module.
use Rattle.std.specs.Prelude.{ℕ, ◌≡◌, ◌⊎◌, false, None, Ok, Err}
use Rattle.std.specs.List.{Any}
use Rattle.walrus_sections_into.specs.walrus_forms.Records.{value_of}
use Rattle.walrus_sections_into.specs.walrus_instr.Constants.{ops_of}
use Rattle.walrus_sections_into.specs.walrus_pairing.Looks.{Look}
use Rattle.walrus_sections_into.specs.walrus_module_items.declared.global.Global.{Global}
use Rattle.walrus_sections_into.specs.walrus_module_items.declared.global.GlobalKind.{GlobalKind}
use Rattle.walrus_sections_into.specs.walrus_module_items.declared.global.GlobalKind.TheVariants as kinds
use Rattle.walrus_section_values.specs.declared.globals.Global.{Global as ReadGlobal}
use Rattle.walrus_section_values.specs.declared.globals.GlobalOrigin.{GlobalOrigin}
use Rattle.walrus_section_values.specs.declared.globals.GlobalOrigin.TheVariants as origins
use Rattle.walrus_sections_into.specs.Becomes.{OpsBecome}
use Rattle.walrus_sections_into.specs.Consts.{OpLacks}
use Rattle.walrus_sections_into.specs.declared.error.IntoError.TheVariants.{Unknown}
use Rattle.walrus_tables_into.specs.Types.{value_in}

-- brought by the same import, or with the same first value, renamed
abbrev pub OriginBecomes : Look → GlobalOrigin → GlobalKind → Type 0
OriginBecomes look (origins.Import n) (kinds.Import id) = id ≡ n
OriginBecomes look (origins.Own init) (kinds.Local expr) = OpsBecome look init.items (ops_of expr)
OriginBecomes look _ _ = ⊥

-- of the same type, renamed; its id is its slot
pub record IsGlobalOf (look : Look) (slot : ℕ) (read : ReadGlobal) (g : Global) : Type 0 where
  pub id : g.id ≡ slot
  pub ty : value_in look (value_of read.ty) ≡ Ok g.ty
  pub mutable : g.mutable ≡ read.mutable
  pub shared : g.shared ≡ false
  pub origin : OriginBecomes look read.origin g.kind
  pub no_name : g.name ≡ None

-- an operator of its first value names nothing, or isn't constant
abbrev pub OriginLacks : Look → GlobalOrigin → Type 0
OriginLacks look (origins.Import n) = ⊥
OriginLacks look (origins.Own init) = Any (OpLacks look) init.items

-- its type names none, or its first value is none
abbrev pub GlobalLacks : Look → ReadGlobal → Type 0
GlobalLacks look read = (value_in look (value_of read.ty) ≡ Err Unknown) ⊎ OriginLacks look read.origin
