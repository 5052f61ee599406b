-- Lemmas: what is due for a body.
use Rattle.std.specs.Prelude.{ℕ, ◌≡◌, Bool, true, false, nat_lt, List, ◌++◌, length, map, drop, Option, Some, Ok, Err, if◌then◌else◌, refl}
use Rattle.std.specs.List.{flat_map}
use Rattle.std.proofs.Common.{ap, sym, ◌∙◌, subst}
use Rattle.walrus_forms.specs.declared.value.ValType.{ValType}
use Rattle.walrus_forms.specs.Renaming.{renamed_value}
use Rattle.wasm_formats.specs.declared.fault.Limited.{Limited}
use Rattle.wasm_formats.specs.declared.fault.Limited.TheVariants.{Body as BodyLimit, Locals as LocalsLimit}
use Rattle.wasm_operators.specs.Bytes.{operator_bytes}
use Rattle.wasm_operators.specs.Items as items
use Rattle.wasm_operators.specs.NameLaws.{after, same}
use Rattle.wasm_operators.specs.Names.{Renaming}
use Rattle.wasm_grammar.specs.Modules.{Placed}
use Rattle.wasm_body_grammar.specs.Rules.{Around}
use Rattle.wasm_grammar_bytes.specs.Bodies.{runs_bytes as due_bytes}
use Rattle.wasm_grammar_bytes.specs.Maximal.{maximal_of}
use Rattle.wasm_grammar_bytes.specs.Shortest.{body_bytes}
use Rattle.wasm_normal_form.specs.Locals.{Key, runs_of}
use Rattle.wasm_part.specs.Part.{renumbered_body, renumbered_placed}
use Rattle.wasm_ruled_renamed.specs.Bodies.{with_numbers}
use Rattle.wasm_ruled_renamed.specs.Renamed.{renamed_placed}
use Rattle.walrus_items.specs.declared.local.Local.{Local}
use Rattle.walrus_errors.specs.declared.error.ModuleError.TheVariants.{OutputLimit}
use Rattle.walrus_index_maps.specs.Maps.{Indices}
use Rattle.walrus_pairing.specs.Looks.{Look, Or, number_of}
use Rattle.walrus_pairing.specs.Sends.{Sends}
use Rattle.walrus_builder.specs.Functions.{seqs_of}
use Rattle.walrus_tree.specs.Text.{operators}
use Rattle.walrus_body_env.specs.Refusals.{module_error}
use Rattle.walrus_body_writer.specs.Refusals.{fault_of}
use Rattle.walrus_body_writer.specs.Spelled.{Text, AreWritten}
use Rattle.walrus_local_function.specs.declared.local_function.LocalFunction.{LocalFunction}
use Rattle.walrus_local_numbers.specs.Declared.{declared, local_ids as declared_ids, with_numbers as numbers_with}
use Rattle.walrus_local_numbers.specs.Laws.{ArgumentsFirst, OthersFollow}
use Rattle.walrus_local_numbers.specs.Written.{WrittenRun, runs_bytes, written_runs}
use Rattle.walrus_meaning.specs.Bodies.{depth_of, local_ids, own_body, own_operators, used_locals}
use Rattle.walrus_body_laws.specs.EmissionLaws.{BodiesAreMeant, LocalsAreMeant}
use Rattle.walrus_body_laws.specs.WritingLaws.{BytesAgree}
use Rattle.walrus_emit_parts.specs.Due.{Due, lacking, limited, written}
use Rattle.walrus_emit_code.specs.Code.{contents, declarations, local_count, operators_due, or_lacking, runs_due, with_locals}
use Rattle.walrus_due_laws.specs.Spelled.{SpelledAs}
use Rattle.walrus_due_laws.proofs.Parts.{both, lacks, plain, turned, within}
use Rattle.walrus_code_laws.specs.Bodies.{BodiesAreSpelled, IsKnown}
use Rattle.walrus_code_laws.specs.Numbered.{numbered_body}
use Rattle.walrus_code_laws.specs.Spelled.{HavePlaces, ServesBodies}
use Rattle.walrus_code_laws.proofs.Places.{places}
use Rattle.walrus_code_laws.proofs.Runs.{runs_same}
use Rattle.walrus_code_laws.proofs.Texts.{are_written, lacking_not, numbers_in, operators_as, parts, sends_numbers}

-- ---- the locals that are declared, where what is due can be written

abbrev pub KeysMeant : List Local → LocalFunction → List ℕ → Type 0
KeysMeant locals local used = declared locals local.args.items used ≡ used_locals locals local

-- they have their places
pub stand_next : ArgumentsFirst → OthersFollow → (locals : List Local) (local : LocalFunction) (used : List ℕ) → IsKnown local used → KeysMeant locals local used → (f : ℕ) (m : ℕ → ℕ → Option ℕ)
    → HavePlaces (local_ids locals local) (m f) → HavePlaces (local_ids locals local) (numbers_with f 0 (declared_ids locals local.args.items used) m f)
stand_next first others locals local used known keys f m stand =
    let ids : declared_ids locals local.args.items used ≡ local_ids locals local = ap (λ (ks : List Key). local.args.items ++ map (λ (k : Key). k.1) ks) keys in
    let old = subst (λ (l : List ℕ). HavePlaces l (m f)) (sym ids) stand in
    subst (λ (l : List ℕ). HavePlaces l (numbers_with f 0 (declared_ids locals local.args.items used) m f)) ids (places first others locals local.args.items used known.once f m old)

pub written_keys : LocalsAreMeant → (locals : List Local) (function : ℕ) (local : LocalFunction) (used : List ℕ) (i : Indices) → IsKnown local used
    → AreWritten (number_of (with_locals locals function local used i) function) (seqs_of local.builder) (operators (seqs_of local.builder) 0) → KeysMeant locals local used
written_keys meant locals function local used i known w =
    let look : Look = number_of (with_locals locals function local used i) function in
    meant (numbers_in look) look (sends_numbers look (λ n. refl)) (λ n. refl) local w locals used known.names

pub limit_off : (most n : ℕ) (of : Limited) (a : Due) (bytes : List ℕ) → limited most n of a ≡ written bytes → a ≡ written bytes
limit_off most n of a bytes e = go (nat_lt most n) e
  where
    go : (passed : Bool) → (if passed then lacking (OutputLimit of) else a) ≡ written bytes → a ≡ written bytes
    go true e = absurd (lacking_not (OutputLimit of) bytes e)
    go false e = e

-- a body that can be written declares the locals that it means
pub contents_keys : LocalsAreMeant → (locals : List Local) (function : ℕ) (local : LocalFunction) (used : List ℕ) (i : Indices) → IsKnown local used → (bytes : List ℕ)
    → contents locals function local used i ≡ written bytes → KeysMeant locals local used
contents_keys meant locals function local used i known bytes e =
    let numbered = with_locals locals function local used i in
    let front = declarations locals local used i in
    let due = operators_due function local numbered in
    let all = front ++ due in
    let inner = limit_off 50000 (local_count (numbered.locals function) (length local.args.items) used) LocalsLimit (limited 7654321 (length all) BodyLimit all) bytes e in
    let p = parts front due bytes (limit_off 7654321 (length all) BodyLimit all bytes inner) in
    written_keys meant locals function local used i known
    (are_written (number_of numbered function) (seqs_of local.builder) (operators (seqs_of local.builder) 0) (drop (length front) bytes) p.1)

-- ---- declarations

module _ (a : Around) (params : ℕ) (r : Renaming) (i : Indices) (serves : ServesBodies r i) where
  abbrev runs_due_by : Or (List WrittenRun) → Due
  runs_due_by o = or_lacking (λ (rs : List WrittenRun). written (runs_bytes rs)) o

  runs_by : (tys : List ValType) (o : Or (List WrittenRun)) → written_runs i.types.number (runs_of tys) ≡ o
      → SpelledAs (runs_due_by o) (due_bytes a params (maximal_of (map (renamed_value (r items.Types)) tys)))
  runs_by tys (Err e) is = lacks (module_error (fault_of e)) (due_bytes a params (maximal_of (map (renamed_value (r items.Types)) tys)))
  runs_by tys (Ok ws) is =
      turned (written (runs_bytes ws)) (runs_bytes ws) (due_bytes a params (maximal_of (map (renamed_value (r items.Types)) tys)))
      (runs_same a params (r items.Types) i.types.number (serves.follows items.Types) serves.types tys ws is) (plain (runs_bytes ws))

  pub runs_as : (tys : List ValType) → SpelledAs (runs_due i.types.number (runs_of tys)) (due_bytes a params (maximal_of (map (renamed_value (r items.Types)) tys)))
  runs_as tys = runs_by tys (written_runs i.types.number (runs_of tys)) refl

  -- ---- with its operators

  module _ (first : ArgumentsFirst) (others : OthersFollow) (agree : BytesAgree) (meant : BodiesAreMeant) (locals_meant : LocalsAreMeant) (locals : List Local) (function : ℕ) (local : LocalFunction) (used : List ℕ) (known : IsKnown local used) (stand : HavePlaces (local_ids locals local) (i.locals function)) where
    abbrev look : Look
    look = number_of (with_locals locals function local used i) function

    abbrev text : Text
    text = operators (seqs_of local.builder) 0

    abbrev by_place : Renaming
    by_place = with_numbers (depth_of (local_ids locals local)) same

    abbrev keys_meant : Type 0
    keys_meant = KeysMeant locals local used

    keys_are : AreWritten look (seqs_of local.builder) text → keys_meant
    keys_are w = written_keys locals_meant locals function local used i known w

    -- locals have their places
    local_place : keys_meant → (id n : ℕ) → look items.Locals id ≡ Some n → n ≡ depth_of (local_ids locals local) id
    local_place keys id n e =
        stand_next first others locals local used known keys function i.locals stand id n e

    pub sends : keys_meant → Sends (after r by_place) look
    sends keys items.Types id n e = sym (serves.follows items.Types id n e)
    sends keys items.Functions id n e = sym (serves.follows items.Functions id n e)
    sends keys items.Tables id n e = sym (serves.follows items.Tables id n e)
    sends keys items.Memories id n e = sym (serves.follows items.Memories id n e)
    sends keys items.Tags id n e = sym (serves.follows items.Tags id n e)
    sends keys items.Globals id n e = sym (serves.follows items.Globals id n e)
    sends keys items.ElementSegments id n e = sym (serves.follows items.ElementSegments id n e)
    sends keys items.DataSegments id n e = sym (serves.follows items.DataSegments id n e)
    sends keys items.Locals id n e = local_place keys id n e ∙ sym (serves.locals (depth_of (local_ids locals local) id))
    sends keys items.Labels id n e = absurd cc

    abbrev due_operators : Due
    due_operators = operators_due function local (with_locals locals function local used i)

    abbrev operators_spelled : List ℕ
    operators_spelled = flat_map (λ (p : Placed). operator_bytes p.op) (map (renumbered_placed r) (map (renamed_placed by_place) (own_operators local)))

    abbrev spelled_with : List Key → List ℕ
    spelled_with ks = due_bytes a params (maximal_of (map (renamed_value (r items.Types)) (map (λ (k : Key). k.0) ks))) ++ operators_spelled

    all_as : SpelledAs (declarations locals local used i ++ due_operators) (spelled_with (used_locals locals local))
    all_as bytes e =
        let front = declarations locals local used i in
        let p = parts front due_operators bytes e in
        let keys = keys_are (are_written look (seqs_of local.builder) text (drop (length front) bytes) p.1) in
        let tys = map (λ (k : Key). k.0) (declared locals local.args.items used) in
        both front due_operators (due_bytes a params (maximal_of (map (renamed_value (r items.Types)) tys))) operators_spelled (runs_as tys)
        (operators_as agree meant r by_place look (sends keys) serves.labels local) bytes e ∙ ap spelled_with keys

    contents_as : SpelledAs (contents locals function local used i) (body_bytes a params (renumbered_body r (numbered_body (local_ids locals local) (own_body locals local))))
    contents_as =
        let numbered = with_locals locals function local used i in
        let all = declarations locals local used i ++ due_operators in
        let count = local_count (numbered.locals function) (length local.args.items) used in
        let spelling = spelled_with (used_locals locals local) in
        within 50000 count LocalsLimit (limited 7654321 (length all) BodyLimit all) spelling (within 7654321 (length all) BodyLimit all spelling all_as)

pub bodies_spelled : ArgumentsFirst → OthersFollow → BytesAgree → BodiesAreMeant → LocalsAreMeant → BodiesAreSpelled
bodies_spelled first others agree meant locals_meant a params r i serves locals function local used known stand =
    contents_as a params r i serves first others agree meant locals_meant locals function local used known stand
