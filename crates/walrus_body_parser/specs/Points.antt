-- Operators at the points of a body, in words of what its parser sees of the module.
use Rattle.std.specs.Prelude.{ℕ, ◌-◌, ◌≡◌, List, length, map, Option, Some, Err}
use Rattle.wasm_features.specs.declared.WasmFeatures.{WasmFeatures}
use Rattle.wasm_reader.specs.Cursor.{Cursor, rest, end_of}
use Rattle.wasm_formats.specs.Stops.{Nesting}
use Rattle.wasm_formats.specs.Formats.{Format}
use Rattle.wasm_formats.specs.Bytes.{never, either}
use Rattle.wasm_formats.specs.Joined.{checked, ends_at}
use Rattle.walrus_body_operands.specs.walrus_body_rules.wasm_body_grammar.wasm_operators.Operators.{Seen}
use Rattle.walrus_operators.specs.declared.operator.Operator.{Operator}
use Rattle.walrus_operators.specs.Operators.{seen}
use Rattle.walrus_body_locals.specs.wasm_grammar.Modules as grammar
use Rattle.walrus_body_locals.specs.wasm_body_grammar.Bodies.{Point, is_closed, operator, placed}
use Rattle.walrus_body_locals.specs.wasm_normal_form.Roles.{Placed}
use Rattle.walrus_body_locals.specs.walrus_body_env.declared.error.BodyError.{BodyError}
use Rattle.walrus_body_operands.specs.walrus_body_rules.Sights.{Sight}
use Rattle.walrus_body_operands.specs.walrus_body_rules.Rules.{operator_test}
use Rattle.walrus_body_locals.specs.Calls.{Parses}
use Rattle.walrus_body_locals.specs.Told.{Telling}

-- an operator, and the place behind it: once the body's frame is closed nothing may follow
abbrev pub operator_seen : WasmFeatures → Sight → Point → Format (ℕ × Seen)
operator_seen features s p = ends_at p.place (either (is_closed p.frames) (never Nesting) (checked (operator features) (λ op. operator_test s p.frames op)))

-- what a validator answers that is told of an operator
abbrev pub op_told : {V : Type 0} → (V → ℕ → Seen → Option BodyError × V) → Telling (ℕ × Seen) V
op_told step v offset x = step v offset x.1

-- the place where a reader stands, from the beginning of the code section's contents
abbrev pub place_at : ℕ → Cursor → ℕ
place_at code c = end_of c - length (rest c) - code

-- operators with the places that they carry
abbrev pub carried : List grammar.Placed → List Placed
carried ops = map (λ (o : grammar.Placed). record { op = o.op; place = Some o.place }) ops

-- operators that begin at this place, each with the place behind it
abbrev pub ops_from : ℕ → List (ℕ × Seen) → List Placed
ops_from place ops = carried (placed place ops)

-- the operator that stands here is refused so
abbrev pub IsRefusedAs : Cursor → Cursor → BodyError → Type 0
IsRefusedAs old new e = Parses (operator old.window.features).parse (λ (op : Operator) x. seen op ≡ x) old new (Err e)
