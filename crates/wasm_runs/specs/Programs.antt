-- Modules as runs see them, and what of an executed operator stands in a trace.
use Rattle.std.specs.Prelude.{ℕ, List, [], ◌∷◌, map, Option, None, slice_get}
use Rattle.std.specs.List.{flat_map}
use Rattle.wasm_ref_types.specs.declared.value.ValType.{ValType}
use Rattle.wasm_operators.specs.declared.block_type.BlockType.{BlockType}
use Rattle.wasm_operators.specs.declared.clause.Clause.{Clause}
use Rattle.wasm_operators.specs.Items.{Space, Functions, Labels, Item, Block, ManyClauses}
use Rattle.wasm_operators.specs.declared.op_code.OpCode.{OpCode}
use Rattle.wasm_operators.specs.Operators.{Seen}
use Rattle.wasm_operators.specs.Names.{Name, operator_names}
use Rattle.wasm_normal_form.specs.Roles.{Placed, placed}
use Rattle.wasm_normal_form.specs.Trees.{Tree, tree_of}

-- a block type, as its parameters and results
pub record Signature : Type 0 where
  pub params : List ValType
  pub results : List ValType

-- a module: the operators of each function that has a body, through the last `end`, none of one that is imported; and what its block
-- types stand for
pub record Program : Type 0 where
  pub body : ℕ → Option (List Seen)
  pub signature : BlockType → Signature

-- ---- what stands in a trace

-- an immediate: a block type as its parameters and results, any other as it is
pub data Shown : Type 0 where
  Plain : Item → Shown
  Typed : Signature → Shown

-- an executed operator
pub record Executed : Type 0 where
  pub code : OpCode
  pub items : List Shown

-- and the function that it stands in
pub record Event : Type 0 where
  pub function : ℕ
  pub executed : Executed

abbrev pub shown : (BlockType → Signature) → Item → Shown
shown signature (Block ty) = Typed (signature ty)
shown signature item = Plain item

abbrev pub executed : (BlockType → Signature) → Seen → Executed
executed signature op = record { code = op.code; items = map (shown signature) op.items }

abbrev pub event : (BlockType → Signature) → ℕ → Seen → Event
event signature f op = record { function = f; executed = executed signature op }

-- ---- what is run

-- functions' operators, and what an operator of a function stands as in a trace
pub record Code (E : Type 0) : Type 0 where
  pub body : ℕ → Option (List Seen)
  pub entry : ℕ → Seen → E

-- a whole module
abbrev pub whole : Program → Code Event
whole p = record { body = p.body; entry = event p.signature }

-- a body alone, cut at its calls: it enters no function, and its entries are without one
abbrev pub cut : (BlockType → Signature) → Code Executed
cut signature = record { body = λ f. None; entry = λ f op. executed signature op }

-- operators without their places
abbrev pub operators : List Placed → List Seen
operators ops = map (λ (o : Placed). o.op) ops

abbrev pub unplaced : Seen → Placed
unplaced op = placed op None

-- operators as the sequences that they nest in
abbrev pub nested : List Seen → Tree
nested ops = tree_of (map unplaced ops)

-- ---- what an operator names

abbrev pub label_in : Space → ℕ → List ℕ
label_in Labels k = k ∷ []
label_in _ k = []

-- its labels, in order: the last one of `br_table` is the default
abbrev pub labels_of : Seen → List ℕ
labels_of op = flat_map (λ (n : Name). label_in n.0 n.1) (operator_names op)

abbrev pub function_in : Space → ℕ → List ℕ
function_in Functions f = f ∷ []
function_in _ f = []

abbrev pub functions_of : Seen → List ℕ
functions_of op = flat_map (λ (n : Name). function_in n.0 n.1) (operator_names op)

-- the function that it calls directly
abbrev pub callee_of : Seen → Option ℕ
callee_of op = slice_get (functions_of op) 0

abbrev pub clauses_in : Item → List Clause
clauses_in (ManyClauses clauses) = clauses
clauses_in _ = []

-- its handlers
abbrev pub clauses_of : Seen → List Clause
clauses_of op = flat_map clauses_in op.items
