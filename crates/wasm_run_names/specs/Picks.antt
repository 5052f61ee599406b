-- Block types of modules: picks keep parameters and results, and renamed types have theirs, renamed.
use Rattle.std.specs.Prelude.{ℕ, ◌≡◌, Option, Some, None, unwrap_or, slice_get}
use Rattle.std.specs.Option.{option_map}
use Rattle.walrus_forms.specs.Forms.{Form, FunctionForm, StructForm, ArrayForm}
use Rattle.walrus_forms.specs.Kinds.{Kind}
use Rattle.walrus_forms.specs.Renaming.{renamed_kind}
use Rattle.wasm_operators.specs.declared.block_type.BlockType.{BlockType}
use Rattle.wasm_operators.specs.declared.block_type.BlockType.TheVariants as blocks
use Rattle.wasm_operators.specs.Items.{Types, Block}
use Rattle.wasm_operators.specs.Names.{Renaming}
use Rattle.wasm_grammar.specs.Modules.{Module}
use Rattle.wasm_grammar.specs.States.{types_of}
use Rattle.wasm_body_grammar.specs.Rules.{Around, pick}
use Rattle.wasm_run_laws.specs.wasm_runs.Modules.{signature_in}
use Rattle.wasm_run_laws.specs.Stands.{IsTypedSo, PicksKeep}

abbrev pub form_pick : Around → BlockType → Form → BlockType
form_pick a ty (FunctionForm params results) = unwrap_or (pick a params results) ty
form_pick a ty (StructForm fields) = ty
form_pick a ty (ArrayForm field) = ty

abbrev pub kind_pick : Around → BlockType → Option Kind → BlockType
kind_pick a ty None = ty
kind_pick a ty (Some kind) = form_pick a ty kind.form

-- the pick for a block type: that for its parameters and results, or itself where there is none
abbrev pub block_pick : Around → BlockType → BlockType
block_pick a blocks.Empty = blocks.Empty
block_pick a (blocks.Value ty) = blocks.Value ty
block_pick a (blocks.Type n) = kind_pick a (blocks.Type n) (slice_get (types_of a.filled) n)

-- where types that stand for the same type are renamed to one, the grammar's picks keep parameters and results
abbrev pub PicksOfModulesKeep : Type 0
PicksOfModulesKeep = (a : Around) (r : Renaming) → ((n : ℕ) → r Types (a.same n) ≡ r Types n) → PicksKeep r (block_pick a) (signature_in a.filled)

-- the type that a block type names stands in the other module, renamed
abbrev pub TypeStands : Renaming → Module → Module → BlockType → Type 0
TypeStands r m n blocks.Empty = Unit {0}
TypeStands r m n (blocks.Value ty) = Unit {0}
TypeStands r m n (blocks.Type k) = slice_get (types_of n) (r Types k) ≡ option_map (renamed_kind (r Types)) (slice_get (types_of m) k)

-- then the block type, renamed, has there its parameters and results, renamed
abbrev pub BlockTypesStand : Type 0
BlockTypesStand = (r : Renaming) (m n : Module) (ty : BlockType) → TypeStands r m n ty → IsTypedSo r (signature_in m) (signature_in n) (Block ty)
