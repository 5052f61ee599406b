-- The open labels of a body, and what a throw and a branch find in them (Core Specification, execution: labels, handlers; the proposal on
-- legacy exceptions).
use Rattle.std.specs.Prelude.{ℕ, Bool, true, false, List, [], ◌∷◌, map, Option, Some, None, slice_index_or}
use Rattle.wasm_operators.specs.declared.clause.Clause.{Clause}
use Rattle.wasm_operators.specs.declared.clause.Clause.TheVariants as clauses
use Rattle.wasm_operators.specs.declared.entry.Flow.{Flow}
use Rattle.wasm_operators.specs.declared.entry.Flow.TheVariants as flows
use Rattle.wasm_operators.specs.Operators.{Seen, flow_of}
use Rattle.wasm_normal_form.specs.Trees.{Tree, Close, Arm, Skip, Run, Nest}
use Rattle.wasm_runs.specs.Programs.{labels_of}

-- a further part of a block, with the operator that begins it
pub record Part : Type 0 where
  pub by : Seen
  pub tree : Tree

-- the parts behind the first
abbrev pub parts : Tree → List Part
parts (Close o p) = []
parts (Arm o p t) = record { by = o; tree = t } ∷ parts t
parts (Skip o p t) = parts t
parts (Run o p t) = parts t
parts (Nest o p u t) = parts t

-- the operator that ends the block
abbrev pub closing : Tree → Seen
closing (Close o p) = o
closing (Arm o p t) = closing t
closing (Skip o p t) = closing t
closing (Run o p t) = closing t
closing (Nest o p u t) = closing t

-- where a handler leads: to a part of its `try`, or along a label
pub data Way : Type 0 where
  To : (handler : Tree) → Way
  Along : (label : ℕ) → Way

-- a handler that an exception is offered to: one for a tag may take it or not, one for all takes it
pub record Handler : Type 0 where
  pub tagged : Bool
  pub way : Way

-- an open label
pub record Frame : Type 0 where
  -- the handlers that a throw is offered to, in order
  pub handlers : List Handler
  -- behind them it passes so many of the frames around
  pub passes : ℕ
  -- what a branch to it begins again, of a loop
  pub again : Option Tree
  -- what stands behind its end
  pub after : Tree

-- a block, an `if`, and each handler of a `try`, which a throw passes by
abbrev pub plain : Tree → Frame
plain after = record { handlers = []; passes = 0; again = None; after = after }

abbrev pub is_tagged : Option Flow → Bool
is_tagged (Some flows.CatchAll) = false
is_tagged _ = true

abbrev pub handler_of : Part → Handler
handler_of part = record { tagged = is_tagged (flow_of part.by.code); way = To part.tree }

abbrev pub clause_handler : Clause → Handler
clause_handler (clauses.Catch tag label) = record { tagged = true; way = Along label }
clause_handler (clauses.CatchRef tag label) = record { tagged = true; way = Along label }
clause_handler (clauses.CatchAll label) = record { tagged = false; way = Along label }
clause_handler (clauses.CatchAllRef label) = record { tagged = false; way = Along label }

-- `delegate` names the frame at which a throw goes on: it passes as many as lie before it
abbrev pub passed_by : Option Flow → List ℕ → ℕ
passed_by (Some flows.Delegate) labels = slice_index_or labels 0 0
passed_by _ labels = 0

abbrev pub passed : Seen → ℕ
passed op = passed_by (flow_of op.code) (labels_of op)

-- the frame that an operator opens, with these handlers of its own, this body, and this behind its end
abbrev pub opened : Option Flow → List Clause → Tree → Tree → Frame
opened (Some flows.OpensLoop) handlers body after = record { handlers = []; passes = 0; again = Some body; after = after }
opened (Some flows.OpensTry) handlers body after = record { handlers = map handler_of (parts body); passes = passed (closing body); again = None; after = after }
opened (Some flows.OpensTryTable) handlers body after = record { handlers = map clause_handler handlers; passes = 0; again = None; after = after }
opened _ handlers body after = plain after
