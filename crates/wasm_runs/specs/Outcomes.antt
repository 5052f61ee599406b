-- What a run is told, and how it ends. What depends on operands, on memory, on tables or on the world is an outcome (Core Specification,
-- execution: instructions).
use Rattle.std.specs.Prelude.{ℕ, Bool, true, false, List, [], ◌∷◌, Option, Some, None}
use Rattle.std.specs.Option.{option_map}

-- how an operator that may do several things goes on
pub data Outcome : Type 0 where
  -- it goes on, traps, or throws
  Go : Outcome
  Trap : Outcome
  Throws : Outcome
  -- a condition holds, or a handler takes an exception; or not
  Yes : Outcome
  No : Outcome
  -- the label of this number in a table of labels
  Nth : (number : ℕ) → Outcome
  -- a call enters this function
  Enter : (function : ℕ) → Outcome
  -- a call returns
  Returns : Outcome

-- how a run ends
pub data Ending : Type 0 where
  Returned : Ending
  Trapped : Ending
  Threw : Ending
  -- an outcome is needed, and none is left
  Waiting : Ending
  -- the bound on branches to loops and entered functions is used up
  Spent : Ending
  -- the outcome is of another kind than the operator takes
  Misfit : Ending

-- ---- the kinds of outcomes, as operators take them

-- `go` or `trap`
abbrev pub goes_on : Outcome → Option Bool
goes_on Go = Some true
goes_on Trap = Some false
goes_on _ = None

-- `yes` or `no`
abbrev pub holds : Outcome → Option Bool
holds Yes = Some true
holds No = Some false
holds _ = None

-- `throws` or `trap`
abbrev pub throws : Outcome → Option Bool
throws Throws = Some true
throws Trap = Some false
throws _ = None

-- `arm k`
abbrev pub number : Outcome → Option ℕ
number (Nth k) = Some k
number _ = None

-- how a call goes on that enters no function: it returns, traps, or throws
pub data Reply : Type 0 where
  Back : Reply
  Fails : Reply
  Thrown : Reply

-- `returns`, `trap` or `throws`
abbrev pub reply : Outcome → Option Reply
reply Returns = Some Back
reply Trap = Some Fails
reply Throws = Some Thrown
reply _ = None

-- how a call of a function goes on that the run finds: so, or into a function
pub data Found : Type 0 where
  Replies : Reply → Found
  Into : (function : ℕ) → Found

-- these, or `enter f`
abbrev pub found : Outcome → Option Found
found (Enter f) = Some (Into f)
found outcome = option_map Replies (reply outcome)

-- ---- an outcome is taken

abbrev pub given : {A B : Type 0} → B → (A → B) → Option A → B
given none some None = none
given none some (Some x) = some x

-- of this kind, from the front of those that are left; `stuck`: none is left, or it is of another kind
abbrev pub taken : {A B : Type 0} → (Outcome → Option A) → (Ending → B) → (A → List Outcome → B) → List Outcome → B
taken kind stuck next [] = stuck Waiting
taken kind stuck next (o ∷ outcomes) = given (stuck Misfit) (λ x. next x outcomes) (kind o)
