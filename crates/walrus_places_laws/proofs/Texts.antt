-- Lemmas: the pairs that the writing of a text leaves.
use Rattle.std.specs.Prelude.{ℕ, ◌+◌, ◌≡◌, ◌==◌, Bool, true, false, not, cond, List, [], ◌∷◌, ◌++◌, length, map, filter, Option, Some, None, Ok, Err, if◌then◌else◌, refl}
use Rattle.std.proofs.Common.{ap, sym, ◌∙◌, arith}
use Rattle.std.proofs.lemmas.List.{map-append}
use Rattle.wasm_operators.specs.Bytes.{operator_bytes}
use Rattle.wasm_operators.specs.NameLaws.{after}
use Rattle.wasm_operators.specs.Names.{Renaming, renamed_operator}
use Rattle.wasm_operators.specs.Operators.{Seen}
use Rattle.wasm_operators.specs.Renamed.{renames_twice}
use Rattle.wasm_grammar.specs.Modules.{Placed}
use Rattle.wasm_normal_form.specs.Places.{if_placed, pairs_from}
use Rattle.wasm_part.specs.Part.{renumbered_placed}
use Rattle.wasm_ruled_renamed.specs.Renamed.{renamed_placed}
use Rattle.wasm_places_laws.specs.Pairs.{if_carried, pairs_at}
use Rattle.walrus_instr.specs.declared.seq.InstrLocId.{InstrLocId}
use Rattle.walrus_instr.specs.declared.seq.InstrSeq.{InstrSeq}
use Rattle.walrus_pairing.specs.Looks.{Look, Or}
use Rattle.walrus_body_writer.specs.Spelled.{Text, pair_of, piece_bytes, text_places, written as written_piece}
use Rattle.walrus_body_laws.specs.EmissionLaws.{sent}
use Rattle.walrus_body_laws.specs.WritingLaws.{PlacesAgree, text_ops, true_pairs}
use Rattle.walrus_body_trees.specs.Laws.{place_at}
use Rattle.walrus_emit_code.specs.Places.{has_location, located}
use Rattle.walrus_places_laws.specs.Bodies.{no_place}

abbrev Location : Type 0
Location = InstrLocId × ℕ

-- so much further on
abbrev shifted : ℕ → Location → Location
shifted by p = (p.0, by + p.1)

-- ---- locations that stand for a place

abbrev kept_by : ℕ → Location → ℕ × ℕ
kept_by by p = (p.0.0, by + p.1)

one_located : (by : ℕ) (p : Location) (ps : List Location) (rest : List (ℕ × ℕ)) (b : Bool) → map (kept_by by) ps ≡ rest
    → map (kept_by by) (cond (not b) (p ∷ ps) ps) ≡ if_placed (if b then None else Some p.0.0) (by + p.1) ++ rest
one_located by p ps rest true e = e
one_located by p ps rest false e = ap (λ (l : List (ℕ × ℕ)). kept_by by p ∷ l) e

located_true : (by : ℕ) (ps : List Location) → located by ps ≡ true_pairs (map (shifted by) ps)
located_true by [] = refl
located_true by (p ∷ ps) = one_located by p (filter has_location ps) (true_pairs (map (shifted by) ps)) (p.0.0 == 4294967295) (located_true by ps)

-- ---- a text further on

one_shifted : (o : Or (Option Seen)) (l : InstrLocId) (by at : ℕ) → pair_of o l (by + at) ≡ map (shifted by) (pair_of o l at)
one_shifted (Ok (Some s)) l by at = refl
one_shifted (Ok None) l by at = refl
one_shifted (Err e) l by at = refl

text_shifted : (look : Look) (b : List InstrSeq) (by at : ℕ) (t : Text) → text_places look b (by + at) t ≡ map (shifted by) (text_places look b at t)
text_shifted look b by at [] = refl
text_shifted look b by at (p ∷ ps) =
    let o = written_piece look b p.0 in
    let size = length (piece_bytes look b p.0) in
    let further : (by + at) + size ≡ by + (at + size) = omega arith in
    ap (λ (n : ℕ). pair_of o p.1 (by + at) ++ text_places look b n ps) further
    ∙ ap (λ (l : List Location). pair_of o p.1 (by + at) ++ l) (text_shifted look b by (at + size) ps)
    ∙ ap (λ (l : List Location). l ++ map (shifted by) (text_places look b (at + size) ps)) (one_shifted o p.1 by at)
    ∙ sym (map-append (shifted by) (pair_of o p.1 at) (text_places look b (at + size) ps))

pub text_pairs : PlacesAgree → (look : Look) (b : List InstrSeq) (by at : ℕ) (t : Text) → located by (text_places look b at t) ≡ pairs_from (by + at) (text_ops look b t)
text_pairs agree look b by at t =
    located_true by (text_places look b at t) ∙ ap true_pairs (sym (text_shifted look b by at t)) ∙ agree look b (by + at) t

-- ---- operators that are renamed twice

one_pair : (n at : ℕ) (b : Bool) → ◌≡◌ {A = List (ℕ × ℕ)} (if_placed (if b then None else Some n) at) (if b then [] else ((n, at) ∷ []))
one_pair n at true = refl
one_pair n at false = refl

pub renamed_pairs : (r q : Renaming) (at : ℕ) (ops : List Placed)
    → pairs_from at (map (sent (after r q)) ops) ≡ pairs_at no_place at (map (renumbered_placed r) (map (renamed_placed q) ops))
renamed_pairs r q at [] = refl
renamed_pairs r q at (o ∷ ops) =
    let op = renamed_operator r (renamed_operator q o.op) in
    let rest = map (sent (after r q)) ops in
    ap (λ (s : Seen). if_placed (place_at o.place) at ++ pairs_from (at + length (operator_bytes s)) rest) (sym (renames_twice q r o.op))
    ∙ ap (λ (l : List (ℕ × ℕ)). l ++ pairs_from (at + length (operator_bytes op)) rest) (one_pair o.place at (o.place == 4294967295))
    ∙ ap (λ (l : List (ℕ × ℕ)). if_carried no_place o.place at ++ l) (renamed_pairs r q (at + length (operator_bytes op)) ops)
