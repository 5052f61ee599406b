-- How operators change the open sequences of a body, and what hinders them.
use Rattle.std.specs.Prelude.{◌≡◌, ◌⊎◌, ℕ, ◌-◌, Bool, false, List, [], ◌∷◌, length, Option, Some, None, Result, Ok, Err}
use Rattle.wasm_reader.specs.Cursor.{Cursor, rest, end_of}
use Rattle.walrus_instr.specs.declared.seq.InstrLocId.{InstrLocId}
use Rattle.walrus_instr.specs.declared.seq.InstrSeqType.{InstrSeqType}
use Rattle.wasm_formats.specs.Stops.{Parsing}
use Rattle.walrus_body_operands.specs.walrus_body_rules.wasm_body_grammar.wasm_operators.Items.{Tags, Names}
use Rattle.walrus_body_operands.specs.walrus_body_rules.wasm_body_grammar.wasm_operators.declared.entry.Flow.TheVariants as flows
use Rattle.walrus_body_operands.specs.walrus_body_rules.wasm_body_grammar.wasm_operators.Operators.{Seen, flow_of}
use Rattle.walrus_body_locals.specs.wasm_body_grammar.Frames.{turned}
use Rattle.walrus_body_locals.specs.wasm_body_grammar.Rules.{turned_test}
use Rattle.walrus_body_locals.specs.wasm_body_grammar.Bodies.{Point}
use Rattle.walrus_body_locals.specs.walrus_body_env.declared.error.BodyError.{BodyError}
use Rattle.walrus_body_locals.specs.walrus_body_env.declared.error.BodyError.TheVariants as faults
use Rattle.walrus_body_locals.specs.walrus_body_nesting.Faults.{IsRefusal}
use Rattle.walrus_body_locals.specs.walrus_body_nesting.Opens.{kinds_of, type_at, IsReached, Steps}
use Rattle.walrus_body_operands.specs.walrus_body_stack.declared.stack.Stack.{Stack}
use Rattle.walrus_body_operands.specs.walrus_body_stack.Frames.{inner, opens, blocks}
use Rattle.walrus_body_operands.specs.walrus_body_rules.Sights.{Sight, look, results_of, handler_of, tag_params}
use Rattle.walrus_body_operands.specs.walrus_body_steps.Meanings.{meaning}
use Rattle.walrus_body_operands.specs.walrus_body_steps.Laws.{StepOf}
use Rattle.walrus_body_locals.specs.Told.{Fails}
use Rattle.walrus_body_parser.specs.Points.{operator_seen, op_told, place_at}

-- the type of the body's own sequence
abbrev pub entry_of : Stack → Option InstrSeqType
entry_of s = type_at (blocks s) 0

-- in a block of this type the operator begins a handler for which the environment has no type
abbrev pub LacksType : Sight → InstrSeqType → Seen → Type 0
LacksType s ty op =
    ((flow_of op.code ≡ Some flows.Catch) × (n : ℕ) × (tag : ℕ) × (op.items ≡ Names Tags n ∷ []) × (look s Tags n ≡ Some tag)
    × (handler_of s (tag_params s (s.tag_type tag)) (results_of s ty) ≡ None))
    ⊎ ((flow_of op.code ≡ Some flows.CatchAll) × (handler_of s (Some []) (results_of s ty) ≡ None))

-- the operator may stand in the innermost sequence, which is reached, but there is no type for the handler that it begins
abbrev pub Hinders : Sight → Stack → Seen → ℕ → BodyError → Type 0
Hinders s old op offset e =
    (turned_test (turned (flow_of op.code) (kinds_of (opens old))) ≡ None) × IsReached (inner old).reach × LacksType s (inner old).ty op × (e ≡ faults.TypeForm (Some offset))

-- it may not stand there, or is hindered
abbrev pub Refuses : Sight → Stack → Seen → ℕ → BodyError → Type 0
Refuses s old op offset e = IsRefusal (turned_test (turned (flow_of op.code) (kinds_of (opens old)))) offset e ⊎ Hinders s old op offset e

-- it changed the open sequences, and ended the body or not
abbrev pub Changes : Sight → Seen → ℕ → InstrLocId → Stack → Stack → Result Bool BodyError → Type 0
Changes s op offset place old new (Ok done) = StepOf s op place old done new
Changes s op offset place old new (Err e) = Refuses s old op offset e

-- or it can't have ended it
abbrev pub Turns : Sight → Seen → ℕ → InstrLocId → Stack → Stack → Result (Unit {0}) BodyError → Type 0
Turns s op offset place old new (Ok x) = StepOf s op place old false new
Turns s op offset place old new (Err e) = Refuses s old op offset e

-- ---- an operator that is read

-- where the reader stands, inside the open sequences
abbrev pub point_at : ℕ → Cursor → Stack → Point
point_at code c stack = record { place = place_at code c; frames = kinds_of (opens stack) }

module _ {V : Type 0} (s : Sight) (step : V → ℕ → Seen → Option BodyError × V) (code : ℕ) (old : Cursor) (stack : Stack) (v : V) where
  abbrev pub reads_next : List ℕ → Parsing (ℕ × Seen)
  reads_next = (operator_seen old.window.features s (point_at code old stack)).parse

  -- it was read, and hinders
  abbrev pub HindersNext : BodyError → Type 0
  HindersNext e = (x : ℕ × Seen) × (later : List ℕ) × (reads_next (rest old) ≡ Ok (x, later)) × Hinders s stack x.1 (end_of old - length (rest old)) e

  -- the operator was read, the open sequences changed and the validator told; or it is refused, and the validator is as it was, unless it was told
  -- of what passed the rules, and refuses it
  abbrev pub ReadsNext : Cursor → Stack → V → Result Bool BodyError → Type 0
  ReadsNext new after w (Ok done) =
      (x : ℕ × Seen) × (reads_next (rest old) ≡ Ok (x, rest new)) × (step v (end_of old - length (rest old)) x.1 ≡ (None, w))
      × Steps (meaning s) x.1 (Some (place_at code old)) (blocks stack) (opens stack) done (blocks after) (opens after)
  ReadsNext new after w (Err e) = ((e ≡ faults.Memory) × (w ≡ v)) ⊎ Fails reads_next (op_told step) (end_of old) v (rest old) w e ⊎ (HindersNext e × (w ≡ v))

  -- so it was with one that can't end the body
  abbrev pub ReadsOn : Cursor → Stack → V → Result (Unit {0}) BodyError → Type 0
  ReadsOn new after w (Ok x) = ReadsNext new after w (Ok false)
  ReadsOn new after w (Err e) = ReadsNext new after w (Err e)
