-- Types of blocks, where the types of one file stand in another, renamed.
use Rattle.std.specs.Prelude.{ℕ, ◌≡◌, ◌<◌, ◌⊎◌, true, List, length, map, Some, None, slice_get}
use Rattle.std.specs.Option.{is_some, option_map}
use Rattle.walrus_forms.specs.Kinds.{Kind}
use Rattle.walrus_forms.specs.Renaming.{renamed_kind, renamed_value}
use Rattle.walrus_forms.specs.declared.value.ValType.{ValType}
use Rattle.wasm_ruled_normal.specs.wasm_ruled_modules.wasm_module_rules.wasm_modules.wasm_body_grammar.Rules.{Around, block_test, found_in, leads, serves}
use Rattle.wasm_ruled_normal.specs.wasm_ruled_modules.wasm_module_rules.wasm_modules.wasm_body_grammar.wasm_grammar.States.{types_of}
use Rattle.wasm_ruled_normal.specs.wasm_ruled_modules.wasm_module_rules.wasm_modules.wasm_body_grammar.wasm_operators.Names.{Renaming, renamed_block}
use Rattle.wasm_ruled_normal.specs.wasm_ruled_modules.wasm_module_rules.wasm_modules.wasm_body_grammar.wasm_operators.Items.{Types}
use Rattle.wasm_ruled_normal.specs.wasm_ruled_modules.wasm_module_rules.wasm_modules.wasm_body_grammar.wasm_operators.declared.block_type.BlockType.{BlockType}
use Rattle.wasm_ruled_normal.specs.wasm_ruled_modules.wasm_module_rules.wasm_modules.wasm_body_grammar.wasm_operators.declared.block_type.BlockType.TheVariants as blocks
use Rattle.wasm_ruled_normal.specs.wasm_ruled_modules.Rules.{GroupsBelow}
use Rattle.wasm_ruled_normal.specs.wasm_run_names.Picks.{block_pick}
use Rattle.wasm_ruled_renamed.specs.Renamed.{TypesServe}

-- the types of one file stand in the other, renamed; types that stand for one stand there for one, and the first of these for itself
pub record Retypes (r : ℕ → ℕ) (a b : Around) : Type 0 where
  pub stands : (n : ℕ) → n < length (types_of a.filled) → slice_get (types_of b.filled) (r n) ≡ option_map (renamed_kind r) (slice_get (types_of a.filled) n)
  pub over : ℕ → ℕ
  pub alike : (n : ℕ) → n < length (types_of a.filled) → b.same (r n) ≡ over (a.same n)
  pub first : (n : ℕ) → n < length (types_of a.filled) → leads a.same n ≡ true → leads b.same (r n) ≡ true

-- then a type that a block may have goes to such a one
abbrev pub RetypedTypesServe : Type 0
RetypedTypesServe = (r : ℕ → ℕ) (a b : Around) → GroupsBelow 0 a.filled.groups → Retypes r a b → TypesServe r a b

-- ---- and their picks

-- besides, types that stand for different ones are sent to such, in their order, and one that stands beside them serves nothing that they serve
pub record RetypesInOrder (r : ℕ → ℕ) (a b : Around) : Type 0 where
  pub retypes : Retypes r a b
  pub back : ℕ → ℕ
  pub apart : (n : ℕ) → n < length (types_of a.filled) → back (retypes.over (a.same n)) ≡ a.same n
  pub rising : (k n : ℕ) → k < n → n < length (types_of a.filled) → leads a.same k ≡ true → leads a.same n ≡ true → r k < r n
  pub others : (k : ℕ) (kind : Kind) → slice_get (types_of b.filled) k ≡ Some kind → leads b.same k ≡ true
      → ((n : ℕ) × (n < length (types_of a.filled)) × (leads a.same n ≡ true) × (r n ≡ k))
      ⊎ ((params results : List ValType) → is_some (found_in a.same params results (types_of a.filled)) ≡ true
      → serves b.same (map (renamed_value r) params) (map (renamed_value r) results) kind ≡ true → ⊥)

-- a block type of the file
abbrev pub IsBlockType : Around → BlockType → Type 0
IsBlockType a (blocks.Type n) = (n < length (types_of a.filled)) × (block_test a (blocks.Type n) ≡ None)
IsBlockType a _ = Unit {0}

-- then the pick for a block type goes to the pick for what that goes to
abbrev pub PicksGoToPicks : Type 0
PicksGoToPicks = (r : Renaming) (a b : Around) → GroupsBelow 0 a.filled.groups → RetypesInOrder (r Types) a b → (ty : BlockType) → IsBlockType a ty → block_pick b (renamed_block r ty) ≡ renamed_block r (block_pick a ty)
