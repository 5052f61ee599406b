-- Lemmas: what is refused in a body is so whatever follows, but where its bytes end.
use Rattle.std.specs.Prelude.{ℕ, ◌+◌, nat_le, length, fold, refl}
use Rattle.std.proofs.Common.{sym, ◌∙◌}
use Rattle.wasm_grammar.specs.wasm_formats.wasm_features.declared.WasmFeatures.{WasmFeatures}
use Rattle.wasm_grammar.specs.wasm_formats.wasm_reader.declared.error.ErrorKind.TheVariants as kinds
use Rattle.wasm_grammar.specs.wasm_formats.wasm_reader.Numbers.{Spells, unsigned, unsigned_at}
use Rattle.wasm_grammar.specs.wasm_formats.wasm_reader.Spellings.{number_taken}
use Rattle.wasm_grammar.specs.wasm_formats.wasm_reader.Finals.{unsigned_final}
use Rattle.wasm_operators.specs.wasm_ref_types.ReadTypes.{value_at}
use Rattle.wasm_operators.specs.wasm_ref_types.TypeSpellings.{SpellsValue}
use Rattle.wasm_operators.specs.wasm_ref_types.TypesTaken.{value_taken}
use Rattle.wasm_operators.specs.wasm_ref_types.TypesFinal.{value_begins}
use Rattle.wasm_grammar.specs.walrus_forms.Values.{value_name}
use Rattle.wasm_grammar.specs.wasm_operators.Operators.{Seen, operator_at}
use Rattle.wasm_grammar.specs.wasm_operators.Spellings.{SpellsEither}
use Rattle.wasm_grammar.specs.wasm_operators.Taken.{either_taken}
use Rattle.wasm_grammar.specs.wasm_operators.Finals.{operator_final}
use Rattle.wasm_grammar.specs.wasm_formats.declared.fault.Form.TheVariants as unsupported
use Rattle.wasm_grammar.specs.wasm_formats.declared.fault.Limited.TheVariants as limits
use Rattle.wasm_grammar.specs.wasm_formats.Stops.{Read, Nesting, Operator, Unsupported, Limit}
use Rattle.wasm_grammar.specs.wasm_formats.Formats.{leaf}
use Rattle.wasm_grammar.specs.wasm_formats.Bytes.{never, either}
use Rattle.wasm_grammar.specs.wasm_formats.Joined.{checked, ends_at}
use Rattle.wasm_grammar.specs.wasm_formats.Parts.{seen}
use Rattle.wasm_grammar.specs.wasm_formats.Wholes.{u32}
use Rattle.wasm_grammar.specs.wasm_formats.Files.{entries}
use Rattle.wasm_file_formats.specs.Closed.{IsClosed, IsClosedWhole, closed_leaf, closed_checked, closed_seen, closed_after, closed_if, closed_never, closed_ends_at, closed_followed, closed_entries, closed_vec, closed_ended}
use Rattle.wasm_grammar.specs.TypeWords.{value_of, value_once}
use Rattle.wasm_grammar.specs.Values.{must, named_below, value_type}
use Rattle.wasm_grammar.specs.States.{types_of}
use Rattle.wasm_body_grammar.specs.Rules.{Around, operator_test}
use Rattle.wasm_body_grammar.specs.Bodies.{most_locals, next_total, run, runs, operator, Point, is_closed, operator_in, next_point, takes_some, opened, ends_closed, operators, body}

closed_u32 : IsClosed u32
closed_u32 = closed_leaf (unsigned_at 32) (Spells unsigned 32) (number_taken unsigned kinds.TooLarge 32) (unsigned_final 32)

closed_value : (features : WasmFeatures) (types : ℕ) → IsClosed (value_type features types)
closed_value features types =
    let values = leaf (value_at features) (SpellsValue features) (value_taken features) (value_begins features).final in
    closed_checked (seen values value_of (Unsupported unsupported.SharedType) value_once) (λ ty. named_below types (value_name ty))
    (closed_seen values value_of (Unsupported unsupported.SharedType) value_once refl (closed_leaf (value_at features) (SpellsValue features) (value_taken features) (value_begins features).final))

closed_run : (a : Around) (total : ℕ) → IsClosed (run a total)
closed_run a total =
    let count = checked u32 (λ n. must (nat_le (total + n) most_locals) (Limit limits.Locals)) in
    closed_after count (λ _. value_type a.features (length (types_of a.filled)))
    (closed_checked u32 (λ n. must (nat_le (total + n) most_locals) (Limit limits.Locals)) closed_u32) (λ _. closed_value a.features (length (types_of a.filled)))

closed_operator : (features : WasmFeatures) → IsClosed (operator features)
closed_operator features =
    closed_seen (leaf (operator_at features) (SpellsEither features) (either_taken features) (operator_final features)) (λ op. op) Operator (λ x y z e f. e ∙ sym f) refl
    (closed_leaf (operator_at features) (SpellsEither features) (either_taken features) (operator_final features))

closed_in : (a : Around) (locals : ℕ) (s : Point) → IsClosed (operator_in a locals s)
closed_in a locals s =
    let op = checked (operator a.features) (λ op. operator_test a locals s.frames op) in
    closed_ends_at s.place (either (is_closed s.frames) (never Nesting) op)
    (closed_if (is_closed s.frames) (closed_never {A = Seen} Nesting refl) (closed_checked (operator a.features) (λ op. operator_test a locals s.frames op) (closed_operator a.features)))

closed_operators : (a : Around) (locals place : ℕ) → IsClosedWhole (operators a locals place)
closed_operators a locals place =
    closed_ended (Read (kinds.EndOfFile 1)) refl (entries next_point (operator_in a locals) (takes_some a locals) (opened place)) (ends_closed place) refl
    (closed_entries next_point (operator_in a locals) (takes_some a locals) (closed_in a locals) (opened place))

pub closed_body : (a : Around) (params place : ℕ) → IsClosedWhole (body a params place)
closed_body a params place =
    closed_followed (ends_at place (runs a params)) (λ locals. operators a (fold next_total params locals.1) locals.0)
    (closed_ends_at place (runs a params) (closed_vec next_total (run a) (closed_run a) params closed_u32)) (λ locals. closed_operators a (fold next_total params locals.1) locals.0)
