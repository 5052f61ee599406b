-- The operators of a body as a tree of the sequences that they nest in (Core Specification, binary format: instructions,
-- expressions).
use Rattle.std.specs.Prelude.{◌≡◌, ℕ, List, [], ◌∷◌, ◌++◌, Option, None}
use Rattle.wasm_operators.specs.Operators.{Seen}
use Rattle.wasm_normal_form.specs.Roles.{Placed, placed, Role, Passes, Runs, Opens, Turns, Ends, role, end_op}

-- a sequence from here on; its last leaf is the operator that ends it, or that begins the next sequence of its block
pub data Tree : Type 0 where
  Close : (by : Seen) (place : Option ℕ) → Tree
  Arm : (by : Seen) (place : Option ℕ) (next : Tree) → Tree
  Skip : (op : Seen) (place : Option ℕ) (rest : Tree) → Tree
  Run : (op : Seen) (place : Option ℕ) (rest : Tree) → Tree
  Nest : (by : Seen) (place : Option ℕ) (body : Tree) (rest : Tree) → Tree

-- its operators, one after another
abbrev pub flat : Tree → List Placed
flat (Close o p) = placed o p ∷ []
flat (Arm o p t) = placed o p ∷ flat t
flat (Skip o p t) = placed o p ∷ flat t
flat (Run o p t) = placed o p ∷ flat t
flat (Nest o p u t) = placed o p ∷ (flat u ++ flat t)

-- each operator of the tree has the role that it stands in
abbrev pub IsShaped : Tree → Type 0
IsShaped (Close o p) = role o ≡ Ends
IsShaped (Arm o p t) = (role o ≡ Turns) × IsShaped t
IsShaped (Skip o p t) = (role o ≡ Passes) × IsShaped t
IsShaped (Run o p t) = (role o ≡ Runs) × IsShaped t
IsShaped (Nest o p u t) = (role o ≡ Opens) × IsShaped u × IsShaped t

-- these operators nest as the tree
pub record NestAs (ops : List Placed) (t : Tree) : Type 0 where
  pub shaped : IsShaped t
  pub flat_is : ops ≡ flat t

-- an operator before the sequences that are open behind it, innermost first
abbrev pub prepend : Role → Seen → Option ℕ → List Tree → List Tree
prepend Passes o p (t ∷ ts) = Skip o p t ∷ ts
prepend Runs o p (t ∷ ts) = Run o p t ∷ ts
prepend Turns o p (t ∷ ts) = Arm o p t ∷ ts
prepend Opens o p (u ∷ (t ∷ ts)) = Nest o p u t ∷ ts
prepend Ends o p ts = Close o p ∷ ts
prepend _ o p _ = []

-- the sequences that are open where these operators begin, innermost first
abbrev pub open_in : List Placed → List Tree
open_in [] = []
open_in (o ∷ ops) = prepend (role o.op) o.op o.place (open_in ops)

abbrev pub innermost : List Tree → Tree
innermost [] = Close end_op None
innermost (t ∷ ts) = t

-- the tree that the operators nest as, where they do
abbrev pub tree_of : List Placed → Tree
tree_of ops = innermost (open_in ops)
