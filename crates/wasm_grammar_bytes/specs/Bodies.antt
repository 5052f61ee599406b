-- The shortest spelling of bodies.
use Rattle.std.specs.Prelude.{ℕ, ◌+◌, ◌≤◌, ◌≡◌, nat_le, Bool, true, false, List, [], ◌∷◌, length, map, fold, Option, Some, refl}
use Rattle.std.specs.List.{flat_map}
use Rattle.std.proofs.Common.{ap, subst, arith}
use Rattle.wasm_features.specs.declared.WasmFeatures.{WasmFeatures}
use Rattle.wasm_operators.specs.Operators.{Seen, flow_of}
use Rattle.wasm_operators.specs.Spellings.{SpellsOperator, SpellsEither}
use Rattle.wasm_formats.specs.declared.fault.Limited.TheVariants as limits
use Rattle.wasm_formats.specs.Stops.{Limit}
use Rattle.wasm_formats.specs.Formats.{Small}
use Rattle.wasm_formats.specs.Bytes.{either_type}
use Rattle.wasm_formats.specs.Lists.{SpellsEntries, EntryRules}
use Rattle.wasm_operators.specs.Bytes.{operator_bytes}
use Rattle.wasm_operators.specs.Written.{operator_short}
use Rattle.wasm_operators.specs.Vecs.{parts_small, parts_short}
use Rattle.wasm_format_bytes.specs.Writers.{Writer, HasSpelling, u32_writer, checked_writer, after_writer}
use Rattle.wasm_format_bytes.specs.Lists.{vec_writer}
use Rattle.wasm_grammar.specs.Modules.{Placed}
use Rattle.wasm_grammar.specs.Values.{must}
use Rattle.wasm_grammar.specs.States.{types_of}
use Rattle.wasm_body_grammar.specs.Frames.{Frame, turned}
use Rattle.wasm_body_grammar.specs.Rules.{Around}
use Rattle.wasm_body_grammar.specs.Bodies.{Run, run, runs, next_total, most_locals, operator, Point, operator_in, is_closed, frames_of, next_point, placed}
use Rattle.wasm_grammar_bytes.specs.Values.{value_type_writer}

abbrev pub operator_writer : (features : WasmFeatures) → Writer (operator features)
operator_writer features = record {
  fits = HasSpelling (SpellsOperator features);
  bytes = operator_bytes;
  written = λ op h. (Some op, refl, (operator_short features h.0 op h.1 h.2).0);
  short = λ others op small h.
      let spelled = subst (λ (x : Option Seen). SpellsEither features others x) h.1 h.2 in
      ((others, small, spelled), (operator_short features others op small spelled).1);
}

abbrev pub run_writer : (a : Around) (total : ℕ) → Writer (run a total)
run_writer a total =
    after_writer (checked_writer u32_writer (λ n. must (nat_le (total + n) most_locals) (Limit limits.Locals))) (λ _. value_type_writer a.features (length (types_of a.filled)))

abbrev pub runs_writer : (a : Around) (params : ℕ) → Writer (runs a params)
runs_writer a params = vec_writer next_total (run a) (run_writer a) params

-- ---- operators, each behind the one before it

-- the places of shortest spellings, from this place on
abbrev pub replaced : ℕ → List (ℕ × Seen) → List (ℕ × Seen)
replaced place [] = []
replaced place (x ∷ ops) = (place + length (operator_bytes x.1), x.1) ∷ replaced (place + length (operator_bytes x.1)) ops

abbrev pub operators_bytes : List (ℕ × Seen) → List ℕ
operators_bytes ops = flat_map (λ (x : ℕ × Seen). operator_bytes x.1) ops

abbrev pub point : ℕ → List Frame → Point
point place frames = record { place = place; frames = frames }

abbrev pub frames_behind : List Frame → Seen → List Frame
frames_behind frames op = frames_of (turned (flow_of op.code) frames) frames

-- an operator that stands somewhere stands anywhere, in its shortest spelling
operator_short_at : (a : Around) (locals place other : ℕ) (frames : List Frame) (bytes : List ℕ) (x : ℕ × Seen) → Small bytes → (operator_in a locals (point place frames)).spells bytes x
    → (operator_in a locals (point other frames)).spells (operator_bytes x.1) (other + length (operator_bytes x.1), x.1) × (length (operator_bytes x.1) ≤ length bytes)
operator_short_at a locals place other frames bytes x small h = go (is_closed frames) h.0
  where
    go : (closed : Bool) → either_type closed ⊥ ((operator a.features).spells bytes x.1)
        → (either_type closed ⊥ ((operator a.features).spells (operator_bytes x.1) x.1) × (other + length (operator_bytes x.1) ≡ other + length (operator_bytes x.1))) × (length (operator_bytes x.1) ≤ length bytes)
    go true h = absurd h
    go false h =
        let s = (operator_writer a.features).short bytes x.1 small h in
        (((operator_writer a.features).written x.1 s.0, refl), s.1)

pub operators_short : (a : Around) (locals place other : ℕ) (frames : List Frame) (bytes : List ℕ) (xs : List (ℕ × Seen)) → Small bytes
    → SpellsEntries next_point (operator_in a locals) (point place frames) bytes xs
    → SpellsEntries next_point (operator_in a locals) (point other frames) (operators_bytes xs) (replaced other xs) × (length (operators_bytes xs) ≤ length bytes)
operators_short a locals place other frames bytes [] small h = (refl, omega arith)
operators_short a locals place other frames bytes (x ∷ xs) small h =
    let parts = parts_small bytes h.0 h.1 h.2 small in
    let one = operator_short_at a locals place other frames h.0 x parts.0 h.3 in
    let later = operators_short a locals x.0 (other + length (operator_bytes x.1)) (frames_behind frames x.1) h.1 xs parts.1 h.4 in (
      (operator_bytes x.1, operators_bytes xs, refl, one.0, later.0),
      parts_short bytes h.0 h.1 (operator_bytes x.1) (operators_bytes xs) h.2 one.1 later.1,
    )

-- the rules don't look at places
pub operators_ruled : (a : Around) (locals place other : ℕ) (frames : List Frame) (xs : List (ℕ × Seen)) → EntryRules next_point (operator_in a locals) (point place frames) xs
    → EntryRules next_point (operator_in a locals) (point other frames) (replaced other xs)
operators_ruled a locals place other frames [] h = tt
operators_ruled a locals place other frames (x ∷ xs) h =
    (h.0, operators_ruled a locals x.0 (other + length (operator_bytes x.1)) (frames_behind frames x.1) xs h.1)

pub frames_same : (place other : ℕ) (frames : List Frame) (xs : List (ℕ × Seen)) → (fold next_point (point place frames) xs).frames ≡ (fold next_point (point other frames) (replaced other xs)).frames
frames_same place other frames [] = refl
frames_same place other frames (x ∷ xs) = frames_same x.0 (other + length (operator_bytes x.1)) (frames_behind frames x.1) xs

-- ---- bodies

abbrev pub runs_bytes : Around → ℕ → List Run → List ℕ
runs_bytes a params list = (runs_writer a params).bytes list

abbrev pub op_of : Placed → Seen
op_of p = p.op

pub ops_same : (place other : ℕ) (xs : List (ℕ × Seen)) → map op_of (placed other (replaced other xs)) ≡ map op_of (placed place xs)
ops_same place other [] = refl
ops_same place other (x ∷ xs) = ap (λ (l : List Seen). x.1 ∷ l) (ops_same x.0 (other + length (operator_bytes x.1)) xs)
