-- What holds of trees and of normal forms.
use Rattle.std.specs.Prelude.{◌≡◌, ℕ, List, map}
use Rattle.wasm_operators.specs.declared.block_type.BlockType.{BlockType}
use Rattle.wasm_normal_form.specs.Roles.{Placed}
use Rattle.wasm_normal_form.specs.Trees.{Tree, NestAs, tree_of}
use Rattle.wasm_normal_form.specs.Normal.{normal, normal_ops}
use Rattle.wasm_normal_form.specs.Bodies.{with_locals}

-- operators nest as one tree at most: the one that is told of them
abbrev pub TreeIsOne : Type 0
TreeIsOne = (ops : List Placed) (t : Tree) → NestAs ops t → tree_of ops ≡ t

-- the operators of a normal form nest as it
abbrev pub NormalNests : Type 0
NormalNests = (pick : BlockType → BlockType) (ops : List Placed) (t : Tree) → NestAs ops t → NestAs (normal_ops pick ops) (normal pick t)

-- what is picked for a pick is itself
abbrev pub IsPick : (BlockType → BlockType) → Type 0
IsPick pick = (ty : BlockType) → pick (pick ty) ≡ pick ty

-- the normal form of a normal form is itself
abbrev pub NormalAgain : Type 0
NormalAgain = (pick : BlockType → BlockType) (ops : List Placed) (t : Tree) → IsPick pick → NestAs ops t → normal_ops pick (normal_ops pick ops) ≡ normal_ops pick ops

-- the normal form of a normal form whose locals have new numbers is itself
abbrev pub RenamedAgain : Type 0
RenamedAgain = (number : ℕ → ℕ) (pick : BlockType → BlockType) (ops : List Placed) (t : Tree) → IsPick pick → NestAs ops t
    → normal_ops pick (map (with_locals number) (normal_ops pick ops)) ≡ map (with_locals number) (normal_ops pick ops)
