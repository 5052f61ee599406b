-- What holds of all runs.
use Rattle.std.specs.Prelude.{ℕ, ◌≡◌, List}
use Rattle.wasm_operators.specs.declared.block_type.BlockType.{BlockType}
use Rattle.wasm_operators.specs.Operators.{Seen}
use Rattle.wasm_runs.specs.Outcomes.{Outcome, Ending}
use Rattle.wasm_runs.specs.Programs.{Signature, Program, Executed, Event}
use Rattle.wasm_runs.specs.Traces.{Trace, BodyTrace}

-- each run has a trace, and no run has two
abbrev pub EachRunEnds : Type 0
EachRunEnds = (p : Program) (f : ℕ) (outcomes : List Outcome) (bound : ℕ) → (events : List Event) × (ending : Ending) × Trace p f outcomes bound events ending

abbrev pub OneTrace : Type 0
OneTrace = (p : Program) (f : ℕ) (outcomes : List Outcome) (bound : ℕ) (events others : List Event) (ending other : Ending)
    → Trace p f outcomes bound events ending → Trace p f outcomes bound others other → (events ≡ others) × (ending ≡ other)

abbrev pub EachBodyEnds : Type 0
EachBodyEnds = (signature : BlockType → Signature) (ops : List Seen) (outcomes : List Outcome) (bound : ℕ)
    → (events : List Executed) × (ending : Ending) × BodyTrace signature ops outcomes bound events ending

abbrev pub OneBodyTrace : Type 0
OneBodyTrace = (signature : BlockType → Signature) (ops : List Seen) (outcomes : List Outcome) (bound : ℕ) (events others : List Executed) (ending other : Ending)
    → BodyTrace signature ops outcomes bound events ending → BodyTrace signature ops outcomes bound others other → (events ≡ others) × (ending ≡ other)
