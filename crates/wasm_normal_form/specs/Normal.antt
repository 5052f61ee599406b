-- The normal form of a body's tree.
use Rattle.std.specs.Prelude.{ℕ, ◌+◌, Bool, true, false, List, [], ◌∷◌, map, Option, None, if◌then◌else◌}
use Rattle.wasm_operators.specs.declared.block_type.BlockType.{BlockType}
use Rattle.wasm_operators.specs.Items.{Item, Block}
use Rattle.wasm_operators.specs.Operators.{Seen}
use Rattle.wasm_normal_form.specs.Roles.{Placed, role, cuts, is_if, is_delegate, else_op, end_op, weight_of}
use Rattle.wasm_normal_form.specs.Trees.{Tree, Close, Arm, Skip, Run, Nest, flat, tree_of}

-- the operator with the pick in the place of a block type
abbrev pub with_pick : (BlockType → BlockType) → Item → Item
with_pick pick (Block ty) = Block (pick ty)
with_pick pick item = item

abbrev pub picked : (BlockType → BlockType) → Seen → Seen
picked pick op = record { code = op.code; items = map (with_pick pick) op.items }

-- the place that the normal form's operator carries: a `delegate` carries none
abbrev pub end_place : Seen → Option ℕ → Option ℕ
end_place o p = if is_delegate o then None else p

-- what ends a sequence: where an `if` has no `else` yet, an empty one, at the place of its `end`, with an `end` that has none
abbrev pub closed : Bool → Seen → Option ℕ → Tree
closed true o p = Arm else_op p (Close end_op None)
closed false o p = Close o (end_place o p)

-- a sequence in normal form has no `nop`; it ends with its first operator behind which nothing is reached; each `if` has
-- an `else`; each block type is its pick. `bare`: it is the first of an `if`, which has no `else` so far; `dropped`: it is not reached.
abbrev pub normal_from : (BlockType → BlockType) → Tree → (bare dropped : Bool) → Tree
normal_from pick (Close o p) bare dropped = closed bare o p
normal_from pick (Arm o p t) bare dropped = Arm o p (normal_from pick t false false)
normal_from pick (Skip o p t) bare dropped = normal_from pick t bare dropped
normal_from pick (Run o p t) bare true = normal_from pick t bare true
normal_from pick (Run o p t) bare false = Run o p (normal_from pick t bare (cuts o))
normal_from pick (Nest o p u t) bare true = normal_from pick t bare true
normal_from pick (Nest o p u t) bare false = Nest (picked pick o) p (normal_from pick u (is_if o) false) (normal_from pick t bare false)

abbrev pub normal : (BlockType → BlockType) → Tree → Tree
normal pick t = normal_from pick t false false

-- the operators of the normal form, without their locals' new numbers
abbrev pub normal_ops : (BlockType → BlockType) → List Placed → List Placed
normal_ops pick ops = flat (normal pick (tree_of ops))

-- the size of a body: how many operators it has, but for those that only mark where sequences end
abbrev pub size : List Placed → ℕ
size [] = 0
size (o ∷ ops) = weight_of (role o.op) + size ops
