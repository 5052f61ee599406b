-- Lemmas: the operators of a body that can be written are those that it means, renamed.
use Rattle.std.specs.Prelude.{ℕ, ◌≡◌, List, [], ◌∷◌, ◌++◌, length, map, take, drop, Option, Some, None, Ok, Err, unwrap_or, refl}
use Rattle.std.specs.List.{flat_map}
use Rattle.std.proofs.Common.{ap, sym, ◌∙◌}
use Rattle.std.proofs.lemmas.List.{take_at, drop_at, take-map, drop-map}
use Rattle.wasm_operators.specs.Bytes.{operator_bytes}
use Rattle.wasm_operators.specs.Items as items
use Rattle.wasm_operators.specs.Items.{Space}
use Rattle.wasm_operators.specs.NameLaws.{after}
use Rattle.wasm_operators.specs.Names.{Renaming, renamed_operator}
use Rattle.wasm_operators.specs.Operators.{Seen}
use Rattle.wasm_operators.specs.Renamed.{renames_twice}
use Rattle.wasm_grammar.specs.Modules.{Placed}
use Rattle.wasm_normal_form.specs.Places.{code_bytes}
use Rattle.wasm_part.specs.Part.{renumbered_placed}
use Rattle.wasm_ruled_renamed.specs.Renamed.{renamed_placed}
use Rattle.walrus_errors.specs.declared.error.ModuleError.{ModuleError}
use Rattle.walrus_instr.specs.declared.seq.InstrSeq.{InstrSeq}
use Rattle.walrus_pairing.specs.Looks.{Look, Or}
use Rattle.walrus_pairing.specs.Sends.{Sends}
use Rattle.walrus_builder.specs.Functions.{seqs_of}
use Rattle.walrus_tree.specs.Text.{operators}
use Rattle.walrus_body_env.specs.Refusals.{module_error}
use Rattle.walrus_body_writer.specs.Refusals.{fault_of}
use Rattle.walrus_body_writer.specs.Spelled.{Text, AreWritten, IsWritten, bytes_of, text_bytes, written as written_piece}
use Rattle.walrus_local_function.specs.declared.local_function.LocalFunction.{LocalFunction}
use Rattle.walrus_meaning.specs.Bodies.{own_operators}
use Rattle.walrus_body_laws.specs.EmissionLaws.{BodiesAreMeant, sent}
use Rattle.walrus_body_laws.specs.Renaming.{KeepsLabels}
use Rattle.walrus_body_laws.specs.WritingLaws.{BytesAgree}
use Rattle.walrus_emit_parts.specs.Due.{Due, lacking, written}
use Rattle.walrus_emit_parts.proofs.Lemmas.{written_both}
use Rattle.walrus_emit_code.specs.Code.{operator_due, or_lacking, text_due}
use Rattle.walrus_due_laws.specs.Spelled.{SpelledAs}
use Rattle.walrus_due_laws.proofs.Parts.{plain}

-- ---- what can be written

-- the parts of what can be written can be written
pub parts : (a b : Due) (bytes : List ℕ) → a ++ b ≡ written bytes → (a ≡ written (take (length a) bytes)) × (b ≡ written (drop (length a) bytes))
parts a b bytes e = (
  sym (take_at a b (length a) refl) ∙ ap (λ (l : Due). take (length a) l) e ∙ take-map (λ (n : ℕ). Ok n) (length a) bytes,
  sym (drop_at a b (length a) refl) ∙ ap (λ (l : Due). drop (length a) l) e ∙ drop-map (λ (n : ℕ). Ok n) (length a) bytes,
)

pub lacking_not : (e : ModuleError) (bytes : List ℕ) → lacking e ≡ written bytes → ⊥
lacking_not e [] h = absurd cc
lacking_not e (b ∷ bytes) h = absurd cc

piece_written : (o : Or (Option Seen)) (bytes : List ℕ) → or_lacking operator_due o ≡ written bytes → IsWritten o
piece_written (Ok x) bytes h = tt
piece_written (Err e) bytes h = lacking_not (module_error (fault_of e)) bytes h

-- then each piece of a text is written
pub are_written : (look : Look) (b : List InstrSeq) (t : Text) (bytes : List ℕ) → text_due look b t ≡ written bytes → AreWritten look b t
are_written look b [] bytes e = tt
are_written look b (p ∷ ps) bytes e =
    let first = or_lacking operator_due (written_piece look b p.0) in
    let both = parts first (text_due look b ps) bytes e in
    (piece_written (written_piece look b p.0) (take (length first) bytes) both.0, are_written look b ps (drop (length first) bytes) both.1)

piece_due : (o : Or (Option Seen)) → IsWritten o → or_lacking operator_due o ≡ written (bytes_of o)
piece_due (Ok (Some s)) w = refl
piece_due (Ok None) w = refl
piece_due (Err e) w = absurd w

text_written : (look : Look) (b : List InstrSeq) (t : Text) → AreWritten look b t → text_due look b t ≡ written (text_bytes look b t)
text_written look b [] w = refl
text_written look b (p ∷ ps) w =
    ap (λ (l : Due). l ++ text_due look b ps) (piece_due (written_piece look b p.0) w.0)
    ∙ ap (λ (l : Due). written (bytes_of (written_piece look b p.0)) ++ l) (text_written look b ps w.1)
    ∙ sym (written_both (bytes_of (written_piece look b p.0)) (text_bytes look b ps))

-- ---- a look-up sends by the numbers that it has

abbrev pub numbers_in : Look → Renaming
numbers_in look items.Labels n = n
numbers_in look space n = unwrap_or (look space n) 0

found_in : (o : Option ℕ) (n : ℕ) → o ≡ Some n → n ≡ unwrap_or o 0
found_in None n e = absurd cc
found_in (Some k) n e = cc

pub sends_numbers : (look : Look) → ((n : ℕ) → look items.Labels n ≡ None) → Sends (numbers_in look) look
sends_numbers look none items.Types id n e = found_in (look items.Types id) n e
sends_numbers look none items.Functions id n e = found_in (look items.Functions id) n e
sends_numbers look none items.Tables id n e = found_in (look items.Tables id) n e
sends_numbers look none items.Memories id n e = found_in (look items.Memories id) n e
sends_numbers look none items.Tags id n e = found_in (look items.Tags id) n e
sends_numbers look none items.Globals id n e = found_in (look items.Globals id) n e
sends_numbers look none items.ElementSegments id n e = found_in (look items.ElementSegments id) n e
sends_numbers look none items.DataSegments id n e = found_in (look items.DataSegments id) n e
sends_numbers look none items.Locals id n e = found_in (look items.Locals id) n e
sends_numbers look none items.Labels id n e = let clash = sym (none id) ∙ e in absurd cc

-- ---- the operators

-- what is spelled of operators that are renamed twice
renamed_bytes : (r q : Renaming) (ops : List Placed) → code_bytes (map (sent (after r q)) ops) ≡ flat_map (λ (p : Placed). operator_bytes p.op) (map (renumbered_placed r) (map (renamed_placed q) ops))
renamed_bytes r q [] = refl
renamed_bytes r q (o ∷ ops) =
    ap (λ (op : Seen). operator_bytes op ++ code_bytes (map (sent (after r q)) ops)) (sym (renames_twice q r o.op))
    ∙ ap (λ (l : List ℕ). operator_bytes (renamed_operator r (renamed_operator q o.op)) ++ l) (renamed_bytes r q ops)

module _ (agree : BytesAgree) (meant : BodiesAreMeant) (r q : Renaming) (look : Look) (sends : Sends (after r q) look) (labels : KeepsLabels (after r q)) (local : LocalFunction) where
  abbrev text : Text
  text = operators (seqs_of local.builder) 0

  pub operators_as : SpelledAs (text_due look (seqs_of local.builder) text) (flat_map (λ (p : Placed). operator_bytes p.op) (map (renumbered_placed r) (map (renamed_placed q) (own_operators local))))
  operators_as bytes e =
      let b = seqs_of local.builder in
      let w = are_written look b text bytes e in
      plain (text_bytes look b text) bytes (sym (text_written look b text w) ∙ e)
      ∙ agree look b text ∙ ap code_bytes (meant (after r q) look sends labels local w) ∙ renamed_bytes r q (own_operators local)
