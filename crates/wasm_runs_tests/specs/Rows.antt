-- Traces of bodies and of modules, worked by hand.
use Rattle.std.specs.Prelude.{List, [], ◌∷◌, Option}
use Rattle.wasm_ref_types.specs.declared.value.ValType.TheVariants.{I32, I64, F64}
use Rattle.wasm_operators.specs.declared.block_type.BlockType.TheVariants as blocks
use Rattle.wasm_operators.specs.declared.clause.Clause.TheVariants as clauses
use Rattle.wasm_operators.specs.Items.{Block, ManyClauses}
use Rattle.wasm_operators.specs.Operators.{Seen}
use Rattle.wasm_grammar.specs.Modules.{Function}
use Rattle.wasm_runs.specs.Outcomes.{Go, Trap, Throws, Yes, No, Nth, Enter, Returns, Returned, Trapped, Threw, Waiting, Spent, Misfit}
use Rattle.wasm_runs.specs.Programs.{Executed}
use Rattle.wasm_runs_tests.specs.Examples.{op, unreachable_, nop_, block_, loop_, if_, else_, try_, catch_, throw_, rethrow_, throw_ref_, end_, br_, br_if_, br_table_, return_, call_, call_indirect_, return_call_, return_call_ref_, delegate_, catch_all_, drop_, try_table_, add_, br_on_null_, did, began, in_block, in_loop, in_if, in_try, at, Runs, imported, own_function, RunsIn}

-- an `if` with an `else`, whose second part traps, and one without
abbrev pub choice : List Seen
choice = add_ ∷ if_ ∷ nop_ ∷ drop_ ∷ else_ ∷ unreachable_ ∷ end_ ∷ end_ ∷ []

abbrev pub bare_choice : List Seen
bare_choice = if_ ∷ drop_ ∷ end_ ∷ add_ ∷ end_ ∷ []

pub record Choices : Type 0 where
  pub holds : Runs choice (Go ∷ Yes ∷ Go ∷ []) 0 (did add_ ∷ in_if ∷ did drop_ ∷ []) Returned
  pub fails : Runs choice (Go ∷ No ∷ []) 0 (did add_ ∷ in_if ∷ did unreachable_ ∷ []) Trapped
  pub bare_holds : Runs bare_choice (Yes ∷ Go ∷ Trap ∷ []) 0 (in_if ∷ did drop_ ∷ did add_ ∷ []) Trapped
  pub bare_fails : Runs bare_choice (No ∷ Go ∷ []) 0 (in_if ∷ did add_ ∷ []) Returned
  pub waits : Runs choice (Go ∷ []) 0 (did add_ ∷ []) Waiting
  pub misfits : Runs choice (Go ∷ Go ∷ []) 0 (did add_ ∷ []) Misfit

-- loop add br_if 0 end: each branch back spends one of the bound
abbrev pub looping : List Seen
looping = loop_ ∷ add_ ∷ br_if_ 0 ∷ end_ ∷ end_ ∷ []

pub record Loops : Type 0 where
  pub spent : Runs looping (Go ∷ Yes ∷ Go ∷ Yes ∷ []) 1 (in_loop ∷ did add_ ∷ did (br_if_ 0) ∷ did add_ ∷ []) Spent
  pub left : Runs looping (Go ∷ Yes ∷ Go ∷ No ∷ []) 1 (in_loop ∷ did add_ ∷ did (br_if_ 0) ∷ did add_ ∷ did (br_if_ 0) ∷ []) Returned
  pub not_begun : Runs looping (Go ∷ Yes ∷ []) 0 (in_loop ∷ did add_ ∷ []) Spent
  -- a branch out of a loop spends nothing, and one to the body's own label leaves the body
  pub out : Runs (block_ ∷ loop_ ∷ br_ 1 ∷ end_ ∷ end_ ∷ br_ 0 ∷ add_ ∷ end_ ∷ []) [] 0 (in_block ∷ in_loop ∷ did (br_ 1) ∷ did (br_ 0) ∷ []) Returned
  pub on_null : Runs (block_ ∷ br_on_null_ 0 ∷ drop_ ∷ end_ ∷ add_ ∷ end_ ∷ []) (Yes ∷ Go ∷ []) 0 (in_block ∷ did (br_on_null_ 0) ∷ did add_ ∷ []) Returned
  pub returns : Runs (loop_ ∷ return_ ∷ end_ ∷ end_ ∷ []) [] 0 (in_loop ∷ did return_ ∷ []) Returned

-- block block br_table 1 0: arm 0 is label 1, arm 1 the default
abbrev pub switch : List Seen
switch = block_ ∷ block_ ∷ br_table_ (1 ∷ []) 0 ∷ end_ ∷ add_ ∷ end_ ∷ drop_ ∷ end_ ∷ []

pub record Tables : Type 0 where
  pub listed : Runs switch (Nth 0 ∷ Go ∷ []) 0 (in_block ∷ in_block ∷ did (br_table_ (1 ∷ []) 0) ∷ did drop_ ∷ []) Returned
  pub default : Runs switch (Nth 1 ∷ Go ∷ Go ∷ []) 0 (in_block ∷ in_block ∷ did (br_table_ (1 ∷ []) 0) ∷ did add_ ∷ did drop_ ∷ []) Returned
  pub past : Runs switch (Nth 2 ∷ []) 0 (in_block ∷ in_block ∷ []) Misfit

-- try throw catch 0 add catch 1 return end: its clauses are offered the exception in order
abbrev pub catching : List Seen
catching = try_ ∷ throw_ 0 ∷ catch_ 0 ∷ add_ ∷ catch_ 1 ∷ return_ ∷ end_ ∷ end_ ∷ []

-- try try throw catch 0 rethrow 0 catch_all add end catch_all drop end: in a clause the clauses of its own `try` aren't offered it
abbrev pub rethrowing : List Seen
rethrowing = try_ ∷ try_ ∷ throw_ 0 ∷ catch_ 0 ∷ rethrow_ 0 ∷ catch_all_ ∷ add_ ∷ end_ ∷ catch_all_ ∷ drop_ ∷ end_ ∷ end_ ∷ []

pub record Catches : Type 0 where
  pub first : Runs catching (Yes ∷ Go ∷ []) 0 (in_try ∷ did (throw_ 0) ∷ did add_ ∷ []) Returned
  pub second : Runs catching (No ∷ Yes ∷ []) 0 (in_try ∷ did (throw_ 0) ∷ did return_ ∷ []) Returned
  pub neither : Runs catching (No ∷ No ∷ []) 0 (in_try ∷ did (throw_ 0) ∷ []) Threw
  pub waits : Runs catching (No ∷ []) 0 (in_try ∷ did (throw_ 0) ∷ []) Waiting
  pub again : Runs rethrowing (Yes ∷ Go ∷ []) 0 (in_try ∷ in_try ∷ did (throw_ 0) ∷ did (rethrow_ 0) ∷ did drop_ ∷ []) Returned
  pub all : Runs rethrowing (No ∷ Go ∷ []) 0 (in_try ∷ in_try ∷ did (throw_ 0) ∷ did add_ ∷ []) Returned
  pub by_reference : Runs (throw_ref_ ∷ end_ ∷ []) (Throws ∷ []) 0 (did throw_ref_ ∷ []) Threw
  pub null_reference : Runs (throw_ref_ ∷ end_ ∷ []) (Trap ∷ []) 0 (did throw_ref_ ∷ []) Trapped

-- try try try throw delegate 1 catch_all end catch 0 add end: the `delegate` passes the frame with `catch_all`
abbrev pub delegating : List Seen
delegating = try_ ∷ try_ ∷ try_ ∷ throw_ 0 ∷ delegate_ 1 ∷ catch_all_ ∷ end_ ∷ catch_ 0 ∷ add_ ∷ end_ ∷ end_ ∷ []

pub record Delegates : Type 0 where
  pub caught : Runs delegating (Yes ∷ Go ∷ []) 0 (in_try ∷ in_try ∷ in_try ∷ did (throw_ 0) ∷ did add_ ∷ []) Returned
  pub uncaught : Runs delegating (No ∷ []) 0 (in_try ∷ in_try ∷ in_try ∷ did (throw_ 0) ∷ []) Threw
  -- to the innermost frame around, and to the body
  pub near : Runs (try_ ∷ try_ ∷ throw_ 0 ∷ delegate_ 0 ∷ catch_all_ ∷ drop_ ∷ end_ ∷ end_ ∷ []) (Go ∷ []) 0 (in_try ∷ in_try ∷ did (throw_ 0) ∷ did drop_ ∷ []) Returned
  pub out : Runs (try_ ∷ try_ ∷ throw_ 0 ∷ delegate_ 1 ∷ catch_all_ ∷ drop_ ∷ end_ ∷ end_ ∷ []) (Go ∷ []) 0 (in_try ∷ in_try ∷ did (throw_ 0) ∷ []) Threw
  -- flow that reaches it goes on behind it
  pub reached : Runs (try_ ∷ drop_ ∷ delegate_ 0 ∷ add_ ∷ end_ ∷ []) (Go ∷ Go ∷ []) 0 (in_try ∷ did drop_ ∷ did add_ ∷ []) Returned

-- loop try_table (catch_all 0) throw: the clause's label counts the frames around the `try_table`
abbrev pub retrying : List Seen
retrying = loop_ ∷ try_table_ (clauses.CatchAll 0 ∷ []) ∷ throw_ 0 ∷ end_ ∷ end_ ∷ end_ ∷ []

abbrev pub in_retry : Executed
in_retry = began 0x1f [] [] (ManyClauses (clauses.CatchAll 0 ∷ []) ∷ [])

-- block block try_table (catch 0 0) (catch_all_ref 1) throw
abbrev pub sorting : List Seen
sorting = block_ ∷ block_ ∷ try_table_ (clauses.Catch 0 0 ∷ clauses.CatchAllRef 1 ∷ []) ∷ throw_ 0 ∷ end_ ∷ end_ ∷ add_ ∷ end_ ∷ drop_ ∷ end_ ∷ []

abbrev pub in_sort : Executed
in_sort = began 0x1f [] [] (ManyClauses (clauses.Catch 0 0 ∷ clauses.CatchAllRef 1 ∷ []) ∷ [])

pub record TryTables : Type 0 where
  pub retried : Runs retrying [] 1 (in_loop ∷ in_retry ∷ did (throw_ 0) ∷ in_retry ∷ did (throw_ 0) ∷ []) Spent
  pub by_tag : Runs sorting (Yes ∷ Go ∷ Go ∷ []) 0 (in_block ∷ in_block ∷ in_sort ∷ did (throw_ 0) ∷ did add_ ∷ did drop_ ∷ []) Returned
  pub by_all : Runs sorting (No ∷ Go ∷ []) 0 (in_block ∷ in_block ∷ in_sort ∷ did (throw_ 0) ∷ did drop_ ∷ []) Returned

-- a body is cut at its calls; a tail call ends it, and what it throws isn't offered to the clauses around it
abbrev pub calling : List Seen
calling = try_ ∷ call_ 3 ∷ return_call_ 4 ∷ catch_all_ ∷ drop_ ∷ end_ ∷ end_ ∷ []

pub record Calls : Type 0 where
  pub back : Runs calling (Returns ∷ Returns ∷ []) 0 (in_try ∷ did (call_ 3) ∷ did (return_call_ 4) ∷ []) Returned
  pub thrown : Runs calling (Throws ∷ Go ∷ []) 0 (in_try ∷ did (call_ 3) ∷ did drop_ ∷ []) Returned
  pub trapped : Runs calling (Trap ∷ []) 0 (in_try ∷ did (call_ 3) ∷ []) Trapped
  pub tail_thrown : Runs calling (Returns ∷ Throws ∷ []) 0 (in_try ∷ did (call_ 3) ∷ did (return_call_ 4) ∷ []) Threw
  pub entered : Runs calling (Enter 3 ∷ []) 5 (in_try ∷ []) Misfit
  pub found : Runs (call_indirect_ ∷ return_call_ref_ ∷ end_ ∷ []) (Returns ∷ Trap ∷ []) 0 (did call_indirect_ ∷ did return_call_ref_ ∷ []) Trapped

-- a block type of a type's index stands in the trace as that type's parameters and results, one of a value type as its result
pub record Types : Type 0 where
  pub of_type : Runs (op 0x02 (Block (blocks.Type 0) ∷ []) ∷ end_ ∷ end_ ∷ []) [] 0 (began 0x02 (I64 ∷ []) (I32 ∷ F64 ∷ []) [] ∷ []) Returned
  pub of_value : Runs (op 0x02 (Block (blocks.Value I32) ∷ []) ∷ end_ ∷ end_ ∷ []) [] 0 (began 0x02 [] (I32 ∷ []) [] ∷ []) Returned

-- a module: 0 is imported; 1 catches what 3 throws, which 2 calls in its own place; 4 calls what it finds; 5 calls 6 and then loops
abbrev pub functions : List (Option Function)
functions =
    imported
    ∷ own_function (try_ ∷ call_ 2 ∷ add_ ∷ catch_all_ ∷ drop_ ∷ end_ ∷ end_ ∷ [])
    ∷ own_function (try_ ∷ return_call_ 3 ∷ catch_all_ ∷ end_ ∷ end_ ∷ [])
    ∷ own_function (throw_ 0 ∷ end_ ∷ [])
    ∷ own_function (call_indirect_ ∷ call_ 0 ∷ end_ ∷ [])
    ∷ own_function (call_ 6 ∷ loop_ ∷ br_ 0 ∷ end_ ∷ end_ ∷ [])
    ∷ own_function (return_ ∷ end_ ∷ [])
    ∷ []

pub record Modules : Type 0 where
  -- 2 is left before 3 throws: its clauses aren't offered the exception
  pub through : RunsIn functions 1 (Go ∷ []) 2 (at 1 in_try ∷ at 1 (did (call_ 2)) ∷ at 2 in_try ∷ at 2 (did (return_call_ 3)) ∷ at 3 (did (throw_ 0)) ∷ at 1 (did drop_) ∷ []) Returned
  pub under_one : RunsIn functions 1 (Go ∷ []) 1 (at 1 in_try ∷ at 1 (did (call_ 2)) ∷ at 2 in_try ∷ []) Spent
  pub uncaught : RunsIn functions 2 [] 1 (at 2 in_try ∷ at 2 (did (return_call_ 3)) ∷ at 3 (did (throw_ 0)) ∷ []) Threw
  pub enters : RunsIn functions 4 (Enter 6 ∷ Returns ∷ []) 1 (at 4 (did call_indirect_) ∷ at 6 (did return_) ∷ at 4 (did (call_ 0)) ∷ []) Returned
  -- what a call finds and enters has a body
  pub enters_none : RunsIn functions 4 (Enter 0 ∷ []) 1 [] Misfit
  pub answers : RunsIn functions 4 (Returns ∷ Throws ∷ []) 0 (at 4 (did call_indirect_) ∷ at 4 (did (call_ 0)) ∷ []) Threw
  -- the call spends the one of the bound, so that the loop can't begin again
  pub spends : RunsIn functions 5 [] 1 (at 5 (did (call_ 6)) ∷ at 6 (did return_) ∷ at 5 in_loop ∷ []) Spent
  pub spends_two : RunsIn functions 5 [] 2 (at 5 (did (call_ 6)) ∷ at 6 (did return_) ∷ at 5 in_loop ∷ at 5 (did (br_ 0)) ∷ []) Spent
  -- an imported function takes one outcome
  pub outside : RunsIn functions 0 (Throws ∷ []) 0 [] Threw
  pub outside_back : RunsIn functions 0 (Returns ∷ []) 0 [] Returned
  pub outside_waits : RunsIn functions 0 [] 0 [] Waiting
