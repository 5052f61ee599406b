-- Bodies of functions (Core Specification, binary format: code section; expressions).
use Rattle.std.specs.Prelude.{ℕ, ◌+◌, ◌<◌, nat_le, Bool, true, false, List, [], ◌∷◌, length, fold, Option, Result, Ok, Err, refl}
use Rattle.std.specs.List.{flat_map, repeat}
use Rattle.std.proofs.Common.{sym, ◌∙◌, arith}
use Rattle.wasm_grammar.specs.wasm_formats.wasm_features.declared.WasmFeatures.{WasmFeatures}
use Rattle.wasm_grammar.specs.wasm_formats.wasm_reader.declared.error.ErrorKind.TheVariants as kinds
use Rattle.wasm_grammar.specs.walrus_forms.declared.value.ValType.{ValType}
use Rattle.wasm_grammar.specs.wasm_operators.Operators.{Seen, flow_of, code_at, operator_at}
use Rattle.wasm_grammar.specs.wasm_operators.Spellings.{SpellsEither}
use Rattle.wasm_grammar.specs.wasm_operators.Taken.{either_taken}
use Rattle.wasm_grammar.specs.wasm_operators.Finals.{operator_final}
use Rattle.wasm_grammar.specs.wasm_formats.declared.fault.Limited.TheVariants as limits
use Rattle.wasm_grammar.specs.wasm_formats.Stops.{Read, Nesting, Operator, Limit, Stop, ◌>>=◌}
use Rattle.wasm_grammar.specs.wasm_formats.Formats.{Format, Whole, leaf}
use Rattle.wasm_grammar.specs.wasm_formats.Bytes.{never, either, either_type}
use Rattle.wasm_grammar.specs.wasm_formats.Joined.{checked, after, ends_at}
use Rattle.wasm_grammar.specs.wasm_formats.Parts.{seen}
use Rattle.wasm_grammar.specs.wasm_formats.Wholes.{u32, followed}
use Rattle.wasm_grammar.specs.wasm_formats.Lists.{vec}
use Rattle.wasm_grammar.specs.wasm_formats.Files.{entries, ended_by}
use Rattle.wasm_grammar.specs.Modules.{Placed, Body}
use Rattle.wasm_grammar.specs.Values.{must, value_type}
use Rattle.wasm_grammar.specs.States.{types_of}
use Rattle.wasm_body_grammar.specs.Frames.{Frame, Plain, Turned, turned}
use Rattle.wasm_body_grammar.specs.Rules.{Around, operator_test}

-- ---- locals: runs of so many locals of one type

abbrev pub Run : Type 0
Run = ℕ × ValType

-- a function has at most so many locals, its parameters among them
abbrev pub most_locals : ℕ
most_locals = 50000

abbrev pub next_total : ℕ → Run → ℕ
next_total total run = total + run.0

-- a run behind so many locals: its count is tested before its type is read
abbrev pub run : Around → ℕ → Format Run
run a total = after (checked u32 (λ n. must (nat_le (total + n) most_locals) (Limit limits.Locals))) (λ _. value_type a.features (length (types_of a.filled)))

abbrev pub runs : Around → ℕ → Format (List Run)
runs a params = vec next_total (run a) params

-- ---- operators

-- an operator of the table, which the features let pass; any other code is refused at its first byte, before its immediates
abbrev pub operator : WasmFeatures → Format Seen
operator features =
    seen (leaf (operator_at features) (SpellsEither features) (either_taken features) (operator_final features)) (λ op. op) Operator (λ x y z e f. e ∙ sym f)

-- a point in a body: its place, and the frames that are open, the innermost first
pub record Point : Type 0 where
  pub place : ℕ
  pub frames : List Frame

abbrev pub is_closed : List Frame → Bool
is_closed [] = true
is_closed (f ∷ frames) = false

-- an operator, and the place behind it: once the body's frame is closed nothing may follow
abbrev pub operator_in : Around → ℕ → Point → Format (ℕ × Seen)
operator_in a locals s =
    ends_at s.place (either (is_closed s.frames) (never Nesting) (checked (operator a.features) (λ op. operator_test a locals s.frames op)))

abbrev pub frames_of : Turned → List Frame → List Frame
frames_of (Ok frames) old = frames
frames_of (Err trouble) old = old

abbrev pub next_point : Point → ℕ × Seen → Point
next_point s x = record { place = x.0; frames = frames_of (turned (flow_of x.1.code) s.frames) s.frames }

-- an operator takes a byte at least
pub operator_some : (features : WasmFeatures) (bytes : List ℕ) (op : Option Seen) → SpellsEither features bytes op → 0 < length bytes
unfolding operator_at code_at
operator_some features [] op h = let none = (either_taken features).again [] [] op h in absurd cc
operator_some features (b ∷ bytes) op h = omega arith

pub takes_some : (a : Around) (locals : ℕ) (s : Point) (bytes : List ℕ) (x : ℕ × Seen) → (operator_in a locals s).spells bytes x → 0 < length bytes
takes_some a locals s bytes x h = go (is_closed s.frames) h.0
  where
    go : (closed : Bool) → either_type closed ⊥ ((operator a.features).spells bytes x.1) → 0 < length bytes
    go true h = absurd h
    go false h = operator_some a.features bytes h.0 h.2

-- inside the body's own frame
abbrev pub opened : ℕ → Point
opened place = record { place = place; frames = Plain ∷ [] }

abbrev pub ends_closed : ℕ → List (ℕ × Seen) → Bool
ends_closed place ops = is_closed (fold next_point (opened place) ops).frames

-- operators up to the end of the bytes, the last of which closes the body: one is missing there otherwise
abbrev pub operators : Around → ℕ → ℕ → Whole (List (ℕ × Seen))
operators a locals place =
    ended_by (Read (kinds.EndOfFile 1)) refl (entries next_point (operator_in a locals) (takes_some a locals) (opened place)) (ends_closed place)

-- ---- bodies

-- runs of locals, with the place behind them, and operators, each with the place behind it
abbrev pub Parts : Type 0
Parts = (ℕ × List Run) × List (ℕ × Seen)

-- the bytes of a body that begins at this place, of a function of so many parameters
abbrev pub body : Around → ℕ → ℕ → Whole Parts
body a params place = followed (ends_at place (runs a params)) (λ locals. operators a (fold next_total params locals.1) locals.0)

-- the types of the locals that runs declare, one each
abbrev pub declared : List Run → List ValType
declared runs = flat_map (λ (r : Run). repeat r.0 (r.1 ∷ [])) runs

-- each operator stands behind the one before it
abbrev pub placed : ℕ → List (ℕ × Seen) → List Placed
placed place [] = []
placed place (x ∷ ops) = record { place = place; op = x.1 } ∷ placed x.0 ops

abbrev pub body_of : Parts → Body
body_of parts = record { locals = declared parts.0.1; operators = placed parts.0.0 parts.1 }

-- from left to right: the body, or where it stops
abbrev pub body_at : Around → ℕ → ℕ → List ℕ → Result Body Stop
body_at a params place bytes = (body a params place).parse bytes >>= λ parts. Ok (body_of parts)
