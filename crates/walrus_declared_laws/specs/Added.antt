-- A segment that declares functions (Core Specification, element segments): as the last of a module, and as one that is added to a part of it.
use Rattle.std.specs.Prelude.{ℕ, ◌≡◌, ◌<◌, ◌++◌, List, [], ◌∷◌, length, Some}
use Rattle.std.specs.List.{AllByRecursion}
use Rattle.wasm_grammar.specs.Modules.{Declared, Element, Functions as Listed, Module}
use Rattle.wasm_operators.specs.Items.{Space, Types, Functions, Tables, Memories, Tags, Globals, ElementSegments, DataSegments, Locals, Labels}
use Rattle.wasm_part.specs.Order.{InOrder}
use Rattle.wasm_part.specs.Part.{Plan, part}

abbrev pub declared_element : List ℕ → Element
declared_element ns = record { mode = Declared; items = Listed ns }

-- the module with it
abbrev pub with_segment : List ℕ → Module → Module
with_segment ns m = record m { elements = m.elements ++ Some (declared_element ns) ∷ [] }

abbrev pub listed_but : List ℕ → (Space → List ℕ) → Space → List ℕ
listed_but es listed Types = listed Types
listed_but es listed Functions = listed Functions
listed_but es listed Tables = listed Tables
listed_but es listed Memories = listed Memories
listed_but es listed Tags = listed Tags
listed_but es listed Globals = listed Globals
listed_but es listed ElementSegments = es
listed_but es listed DataSegments = listed DataSegments
listed_but es listed Locals = listed Locals
listed_but es listed Labels = listed Labels

-- the plan that adds it to these segments
abbrev pub declaring_plan : List ℕ → List ℕ → Plan → Plan
declaring_plan es ns q = record q { listed = listed_but es q.listed; declared = ns ∷ [] }

-- a plan of the module with it lists it last, behind these
pub record ListsLast (q : Plan) (m : Module) (es : List ℕ) : Type 0 where
  pub listed : q.listed ElementSegments ≡ es ++ length m.elements ∷ []
  pub below : AllByRecursion (λ (n : ℕ). n < length m.elements) es
  pub none : q.declared ≡ []

-- so either way it is one part, in order
pub record IsAdded (q : Plan) (m : Module) (es ns : List ℕ) : Type 0 where
  pub same : part q (with_segment ns m) ≡ part (declaring_plan es ns q) m
  pub ordered : InOrder (with_segment ns m) q → InOrder m (declaring_plan es ns q)

abbrev pub LastSegmentsAreAdded : Type 0
LastSegmentsAreAdded = (q : Plan) (m : Module) (es ns : List ℕ) → ListsLast q m es → IsAdded q m es ns
