-- Which written operator stands for which: pairs of an old and a new place, each counted from the count of functions in its file's code section.
use Rattle.std.specs.Prelude.{ℕ, ◌≡◌, ◌<◌, List, All, AllPairs, Contains, Some, None, slice_get, slice_index_or}
use Rattle.wasm_operators.specs.Items.{Functions}
use Rattle.wasm_grammar.specs.Modules.{Own, Placed, Body, Function, Module}
use Rattle.wasm_part.specs.Part.{IsIn, Plan}

-- the i-th operator of a function's body
pub record HasOperator (m : Module) (f i : ℕ) (o : Placed) : Type 0 where
  pub function : Function
  pub there : slice_index_or m.functions f None ≡ Some function
  pub body : Body
  pub own : function.origin ≡ Own body
  pub at : slice_get body.operators i ≡ Some o

-- the operator that begins at `new` is the i-th of r(f), and the i-th of f's normal form carries `old`, which isn't what stands for no place
pub record IsTruePair (none : ℕ) (normal n : Module) (p : Plan) (old new : ℕ) : Type 0 where
  pub f : ℕ
  pub i : ℕ
  pub source : Placed
  pub target : Placed
  pub kept : IsIn p Functions f
  pub carries : HasOperator normal f i source
  pub from : source.place ≡ old
  pub some : old ≡ none → ⊥
  pub stands : HasOperator n (p.renames Functions f) i target
  pub to : target.place ≡ new

pub record ArePlaces (none : ℕ) (normal n : Module) (p : Plan) (places : List (ℕ × ℕ)) : Type 0 where
  pub true_pairs : All (λ q. IsTruePair none normal n p q.0 q.1) places
  pub rising : AllPairs (λ q r. q.1 < r.1) places
  pub whole : (old new : ℕ) → IsTruePair none normal n p old new → Contains places (old, new)
