-- The traces, computed.
use Rattle.std.specs.Prelude.{ℕ, zero, suc, ◌≡◌, List, [], ◌++◌, Option, Some, None, IfSome, refl}
use Rattle.std.proofs.Common.{subst}
use Rattle.std.specs.Option.{option_map}
use Rattle.wasm_operators.specs.Table.{structure_rows, call_rows, plain_rows}
use Rattle.wasm_runs.specs.Outcomes.{Ending}
use Rattle.wasm_runs.specs.Programs.{Code}
use Rattle.wasm_runs.specs.Traces.{Next, On, Over, step, Traces, over, goes}
use Rattle.wasm_runs_tests.specs.Rows.{Choices, Loops, Tables, Catches, Delegates, TryTables, Calls, Types, Modules}

module _ {E : Type 0} (c : Code E) where
  abbrev Done : Type 0
  Done = List E × Ending

  abbrev IsTrace : Next → Option Done → Type 0
  IsTrace x r = IfSome r (λ d. Traces c x d.0 d.1)

  abbrev behind : List E → Done → Done
  behind vs d = (vs ++ d.0, d.1)

  -- the trace, in so many steps
  abbrev run : ℕ → Next → Option Done
  run k (Over e) = Some ([], e)
  run zero (On s) = None
  run (suc k) (On s) = let n = step c s.stack s.bound s.outcomes in option_map (behind n.events) (run k n.move)

  one_more : (k : ℕ) (x : Next) → IsTrace x (run k x)
  one_more k (Over e) = over
  one_more zero (On s) = tt
  one_more (suc k) (On s) = let n = step c s.stack s.bound s.outcomes in joined (run k n.move) (one_more k n.move)
    where
      joined : (r : Option Done) → IsTrace (step c s.stack s.bound s.outcomes).move r → IsTrace (On s) (option_map (behind (step c s.stack s.bound s.outcomes).events) r)
      joined None h = tt
      joined (Some d) h = goes refl h refl

computed : {E : Type 0} {c : Code E} {x : Next} {vs : List E} {e : Ending} (k : ℕ) → (let trace : Option (List E × Ending) = Some (vs, e) in run c k x ≡ trace) → Traces c x vs e
computed {c = c} {x = x} k h = subst (IsTrace c x) h (one_more c k x)

pub choices : Choices
unfolding structure_rows call_rows plain_rows
choices = record { holds = computed 20 refl; fails = computed 20 refl; bare_holds = computed 20 refl; bare_fails = computed 20 refl; waits = computed 20 refl; misfits = computed 20 refl }

pub loops : Loops
unfolding structure_rows call_rows plain_rows
loops = record { spent = computed 20 refl; left = computed 20 refl; not_begun = computed 20 refl; out = computed 20 refl; on_null = computed 20 refl; returns = computed 20 refl }

pub tables : Tables
unfolding structure_rows call_rows plain_rows
tables = record { listed = computed 20 refl; default = computed 20 refl; past = computed 20 refl }

pub catches : Catches
unfolding structure_rows call_rows plain_rows
catches = record {
  first = computed 20 refl;
  second = computed 20 refl;
  neither = computed 20 refl;
  waits = computed 20 refl;
  again = computed 20 refl;
  all = computed 20 refl;
  by_reference = computed 20 refl;
  null_reference = computed 20 refl;
}

pub delegates : Delegates
unfolding structure_rows call_rows plain_rows
delegates = record { caught = computed 20 refl; uncaught = computed 20 refl; near = computed 20 refl; out = computed 20 refl; reached = computed 20 refl }

pub try_tables : TryTables
unfolding structure_rows call_rows plain_rows
try_tables = record { retried = computed 20 refl; by_tag = computed 20 refl; by_all = computed 20 refl }

pub calls : Calls
unfolding structure_rows call_rows plain_rows
calls = record { back = computed 20 refl; thrown = computed 20 refl; trapped = computed 20 refl; tail_thrown = computed 20 refl; entered = computed 20 refl; found = computed 20 refl }

pub types : Types
unfolding structure_rows call_rows plain_rows
types = record { of_type = computed 20 refl; of_value = computed 20 refl }

pub modules : Modules
unfolding structure_rows call_rows plain_rows
modules = record {
  through = computed 30 refl;
  under_one = computed 30 refl;
  uncaught = computed 30 refl;
  enters = computed 30 refl;
  enters_none = computed 30 refl;
  answers = computed 30 refl;
  spends = computed 30 refl;
  spends_two = computed 30 refl;
  outside = computed 30 refl;
  outside_back = computed 30 refl;
  outside_waits = computed 30 refl;
}
