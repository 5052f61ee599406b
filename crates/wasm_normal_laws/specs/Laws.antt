-- What holds of whole bodies in normal form.
use Rattle.std.specs.Prelude.{ℕ, ◌≡◌}
use Rattle.wasm_normal_form.specs.wasm_operators.declared.block_type.BlockType.{BlockType}
use Rattle.wasm_normal_form.specs.Trees.{Tree, NestAs}
use Rattle.wasm_normal_form.specs.Bodies.{Body, normal_body}
use Rattle.wasm_normal_form.specs.Laws.{IsPick}

-- the normal form of a body in normal form is itself: its operators, its locals, and their numbers
abbrev pub NormalBodiesAreNormal : Type 0
NormalBodiesAreNormal = (pick : BlockType → BlockType) (params : ℕ) (b : Body) (t : Tree) → IsPick pick → NestAs b.ops t → normal_body pick params (normal_body pick params b) ≡ normal_body pick params b
