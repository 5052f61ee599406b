-- Lemmas: the pairs that the writing of a body leaves.
use Rattle.std.specs.Prelude.{ℕ, ◌+◌, ◌≡◌, List, ◌++◌, length, map, take, drop}
use Rattle.std.proofs.Common.{ap, ◌∙◌}
use Rattle.walrus_forms.specs.Renaming.{renamed_value}
use Rattle.wasm_formats.specs.declared.fault.Limited.TheVariants.{Body as BodyLimit, Locals as LocalsLimit}
use Rattle.wasm_operators.specs.Items.{Types}
use Rattle.wasm_operators.specs.NameLaws.{after, same}
use Rattle.wasm_operators.specs.Names.{Renaming}
use Rattle.wasm_grammar.specs.Modules.{Placed as MeantOperator}
use Rattle.wasm_grammar_bytes.specs.Bodies.{runs_bytes}
use Rattle.wasm_grammar_bytes.specs.Maximal.{maximal_of}
use Rattle.wasm_normal_form.specs.Locals.{Key}
use Rattle.wasm_normal_form.specs.Places.{pairs_from}
use Rattle.wasm_normal_form.specs.Roles.{Placed}
use Rattle.wasm_part.specs.Part.{renumbered_placed}
use Rattle.wasm_ruled_renamed.specs.Bodies.{with_numbers}
use Rattle.wasm_ruled_renamed.specs.Renamed.{renamed_placed}
use Rattle.wasm_places_laws.specs.Pairs.{pairs_at}
use Rattle.walrus_instr.specs.declared.seq.InstrSeq.{InstrSeq}
use Rattle.walrus_pairing.specs.Looks.{Look, number_of}
use Rattle.walrus_builder.specs.Functions.{seqs_of}
use Rattle.walrus_tree.specs.Text.{operators}
use Rattle.walrus_body_writer.specs.Spelled.{Text}
use Rattle.walrus_local_numbers.specs.Declared.{declared}
use Rattle.walrus_local_numbers.specs.Laws.{ArgumentsFirst, OthersFollow}
use Rattle.walrus_meaning.specs.Bodies.{depth_of, local_ids, own_operators, used_locals}
use Rattle.walrus_body_laws.specs.EmissionLaws.{BodiesAreMeant, LocalsAreMeant}
use Rattle.walrus_body_laws.specs.WritingLaws.{BytesAgree, PlacesAgree}
use Rattle.walrus_emit_parts.specs.Due.{Due, limited}
use Rattle.walrus_emit_parts.proofs.Lemmas.{written_size}
use Rattle.walrus_emit_code.specs.Code.{declarations, local_count, operators_due, with_locals}
use Rattle.walrus_code_laws.proofs.Bodies.{limit_off, runs_as, sends, written_keys}
use Rattle.walrus_code_laws.proofs.Texts.{are_written, parts}
use Rattle.walrus_places_laws.specs.Bodies.{BodyPlacesArePairs, no_place}
use Rattle.walrus_places_laws.proofs.Texts.{renamed_pairs, text_pairs}

pub body_pairs : ArgumentsFirst → OthersFollow → BytesAgree → PlacesAgree → BodiesAreMeant → LocalsAreMeant → BodyPlacesArePairs
body_pairs first others agree places meant locals_meant a params r i serves locals function local used known stand bytes e at =
    let numbered = with_locals locals function local used i in
    let front = declarations locals local used i in
    let due = operators_due function local numbered in
    let all : Due = front ++ due in
    let count = local_count (numbered.locals function) (length local.args.items) used in
    let inner = limit_off 50000 count LocalsLimit (limited 7654321 (length all) BodyLimit all) bytes e in
    let p = parts front due bytes (limit_off 7654321 (length all) BodyLimit all bytes inner) in
    let head = take (length front) bytes in
    let look : Look = number_of numbered function in
    let b : List InstrSeq = seqs_of local.builder in
    let text : Text = operators b 0 in
    let w = are_written look b text (drop (length front) bytes) p.1 in
    let keys = written_keys locals_meant locals function local used i known w in
    let by_place : Renaming = with_numbers (depth_of (local_ids locals local)) same in
    let sending = sends a params r i serves first others agree meant locals_meant locals function local used known stand keys in
    let ops = own_operators local in
    let renamed : List MeantOperator = map (renumbered_placed r) (map (renamed_placed by_place) ops) in
    let tys = map (λ (k : Key). k.0) (declared locals local.args.items used) in
    let size : length front ≡ length (runs_bytes a params (maximal_of (map (renamed_value (r Types)) (map (λ (k : Key). k.0) (used_locals locals local))))) =
    ap length p.0 ∙ written_size head ∙ ap length (runs_as a params r i serves tys head p.0)
    ∙ ap (λ (ks : List Key). length (runs_bytes a params (maximal_of (map (renamed_value (r Types)) (map (λ (k : Key). k.0) ks))))) keys in
    text_pairs places look b at (length front) text
    ∙ ap (λ (l : List Placed). pairs_from (at + length front) l) (meant (after r by_place) look sending serves.labels local w)
    ∙ renamed_pairs r by_place (at + length front) ops ∙ ap (λ (n : ℕ). pairs_at no_place (at + n) renamed) size
