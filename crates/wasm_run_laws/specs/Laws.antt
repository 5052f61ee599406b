-- What runs of modules and bodies in normal form, and of renamed ones, have to do with one another.
use Rattle.std.specs.Prelude.{ℕ, ◌≡◌, Bool, IsTrue, List, map}
use Rattle.std.specs.List.{AllByRecursion}
use Rattle.wasm_operators.specs.declared.block_type.BlockType.{BlockType}
use Rattle.wasm_operators.specs.Items.{Functions, Locals, Labels}
use Rattle.wasm_operators.specs.Operators.{Seen}
use Rattle.wasm_operators.specs.Names.{Renaming}
use Rattle.wasm_normal_form.specs.Roles.{Placed}
use Rattle.wasm_normal_form.specs.Normal.{normal_ops}
use Rattle.wasm_normal_form.specs.Bodies.{Body, used_keys, new_number, normal_body}
use Rattle.wasm_runs.specs.Outcomes.{Outcome, Ending}
use Rattle.wasm_runs.specs.Programs.{Signature, Program, Executed, Event, operators}
use Rattle.wasm_runs.specs.Traces.{Trace, BodyTrace}
use Rattle.wasm_runs.specs.Renamed.{Maps, within, renamed_executed, renamed_event, renamed_outcome, Fits}
use Rattle.wasm_run_laws.specs.Stands.{normal_code, renamed_code, items_alone, normal_program, KeepsSignatures, PicksKeep, AreTypedSo, StandsNormal, StandsRenamed}

-- ---- bodies

-- what one body executes under these outcomes and this bound, and how it ends, the other does too
abbrev pub RunsAs : (BlockType → Signature) → List Seen → List Seen → Type 0
RunsAs signature ops others = (outcomes : List Outcome) (bound : ℕ) (events : List Executed) (ending : Ending)
    → BodyTrace signature ops outcomes bound events ending → BodyTrace signature others outcomes bound events ending

-- and the other way round
abbrev pub RunTheSame : (BlockType → Signature) → List Seen → List Seen → Type 0
RunTheSame signature ops others = RunsAs signature ops others × RunsAs signature others ops

-- in the other, what is renamed so
abbrev pub RunsRenamed : Renaming → (here there : BlockType → Signature) → List Seen → List Seen → Type 0
RunsRenamed r here there ops others = (outcomes : List Outcome) (bound : ℕ) (events : List Executed) (ending : Ending)
    → BodyTrace here ops outcomes bound events ending → BodyTrace there others outcomes bound (map (renamed_executed r) events) ending

-- a body and its normal form do the same
abbrev pub NormalRunsTheSame : Type 0
NormalRunsTheSame = (signature : BlockType → Signature) (pick : BlockType → BlockType) → KeepsSignatures pick signature
    → (ops : List Placed) → RunTheSame signature (operators ops) (operators (normal_ops pick ops))

-- only locals have new numbers
abbrev pub local_numbers : (ℕ → ℕ) → Renaming
local_numbers number Locals n = number n
local_numbers number space n = n

-- the normal form whose locals have their new numbers does the same, with these numbers
abbrev pub NormalBodyRunsTheSame : Type 0
NormalBodyRunsTheSame = (signature : BlockType → Signature) (pick : BlockType → BlockType) → KeepsSignatures pick signature → (params : ℕ) (b : Body)
    → RunsRenamed (local_numbers (new_number params (used_keys params b.locals (normal_ops pick b.ops)))) signature signature (operators b.ops) (operators (normal_body pick params b).ops)

-- labels count frames: they are never renamed
abbrev pub KeepsLabels : Renaming → Type 0
KeepsLabels r = (n : ℕ) → r Labels n ≡ n

-- a renamed body does the same, renamed
abbrev pub BodyRunsRenamed : Type 0
BodyRunsRenamed = (here there : BlockType → Signature) (r : Renaming) → KeepsLabels r → (ops : List Seen) → AllByRecursion (AreTypedSo r here there) ops → RunsRenamed r here there ops (renamed_code r ops)

-- so does one in normal form and renamed
abbrev pub NormalRunsRenamed : Type 0
NormalRunsRenamed = (here there : BlockType → Signature) (r : Renaming) → KeepsLabels r → (pick : BlockType → BlockType) → PicksKeep r pick here
    → (ops : List Seen) → AllByRecursion (AreTypedSo r here there) (normal_code pick ops) → RunsRenamed r here there ops (renamed_code r (normal_code pick ops))

-- ---- modules

-- a module and the one of its normal forms do the same
abbrev pub ModuleRunsAs : Program → Program → Type 0
ModuleRunsAs p q = (f : ℕ) (outcomes : List Outcome) (bound : ℕ) (events : List Event) (ending : Ending) → Trace p f outcomes bound events ending → Trace q f outcomes bound events ending

abbrev pub NormalModuleRunsTheSame : Type 0
NormalModuleRunsTheSame = (pick : BlockType → BlockType) (p : Program) → KeepsSignatures pick p.signature
    → ModuleRunsAs p (normal_program pick p) × ModuleRunsAs (normal_program pick p) p

-- corresponding runs do the same: a run of a kept function of m, and in n the run of the function that stands for it, with the outcomes
-- renamed
abbrev pub SameRuns : (ℕ → Type 0) → Maps → Program → Program → Type 0
SameRuns kept r m n = (f : ℕ) → kept f → (outcomes : List Outcome) → Fits kept outcomes → (bound : ℕ) (events : List Event) (ending : Ending)
    → Trace m f outcomes bound events ending → Trace n (r.items Functions f) (map (renamed_outcome (r.items Functions)) outcomes) bound (map (renamed_event r) events) ending

-- for any chosen functions
abbrev pub RunsCorrespond : Type 0
RunsCorrespond = (chosen : ℕ → Bool) (r : Maps) (pick : BlockType → BlockType) (m n : Program)
    → StandsNormal (λ f. IsTrue (chosen f)) r pick m n → SameRuns (λ f. IsTrue (chosen f)) r m n

abbrev pub RenamedRunsCorrespond : Type 0
RenamedRunsCorrespond = (chosen : ℕ → Bool) (r : Maps) (m n : Program) → StandsRenamed (λ f. IsTrue (chosen f)) r m n → SameRuns (λ f. IsTrue (chosen f)) r m n

-- a body in normal form and renamed is its normal form with the locals' new numbers, items renamed, if the renaming gives locals these numbers
abbrev pub NormalBodiesStand : Type 0
NormalBodiesStand = (r : Maps) (f : ℕ) (pick : BlockType → BlockType) (params : ℕ) (b : Body)
    → ((n : ℕ) → r.locals f n ≡ new_number params (used_keys params b.locals (normal_ops pick b.ops)) n)
    → renamed_code (within r f) (normal_code pick (operators b.ops)) ≡ renamed_code (items_alone r) (operators (normal_body pick params b).ops)
