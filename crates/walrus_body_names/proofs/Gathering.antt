-- Loops over a text that gather what it names.
use Rattle.std.proofs.Common.{ℕ, ◌+◌, ◌≡◌, Bool, true, false, refl, arith, List, [], ◌∷◌, ◌++◌, sym, ap, ◌∙◌, append-nil}
use Rattle.std.proofs.lemmas.List.{append_assoc}
use Rattle.std.specs.List.{FoldsTo}
use Rattle.std.specs.Prelude.{◌||◌}
use Rattle.walrus_instr.specs.declared.instr.Instr.{Instr}
use Rattle.walrus_instr.specs.declared.seq.InstrLocId.{InstrLocId}
use Rattle.walrus_body_writer.specs.walrus_tree.Text.{Piece}
use Rattle.walrus_body_writer.specs.walrus_body_text.Visiting.{text_size}
use Rattle.walrus_body_names.proofs.Same.{same_lists, same_on, same_then}
use Rattle.walrus_body_names.specs.declared.facts.Facts.{Facts}
use Rattle.walrus_body_names.specs.Facts.{IsTold}
use Rattle.walrus_body_writer.specs.Spelled.{Text}
use Rattle.walrus_body_names.specs.Names.{HaveSame, function_in, has_any, local_in, piece_names, segment_in, text_names}

-- a fold of steps that append is one list
pub gathers : {S : Type 0} (list : S → List ℕ) (names : Instr → List ℕ) (ps : Text) (old last : S) → FoldsTo (λ (s : S) (p : Piece × InstrLocId) (t : S). list t ≡ list s ++ piece_names names p.0) old ps last
    → list last ≡ list old ++ text_names names ps
gathers list names [] old last h = sym (ap list h) ∙ sym (append-nil (list old))
gathers list names (p ∷ ps) old last h =
    gathers list names ps h.0 last h.2 ∙ ap (λ (z : List ℕ). z ++ text_names names ps) h.1 ∙ append_assoc (list old) (piece_names names p.0) (text_names names ps)

or_false : (v : Bool) → v ≡ (v || false)
or_false true = refl
or_false false = refl

pub or_none : (v w : Bool) → w ≡ false → v ≡ (v || w)
or_none v w is = or_false v ∙ ap (λ (z : Bool). v || z) (sym is)

-- what names nothing adds nothing
pub nothing_named : (old names : List ℕ) → has_any names ≡ false → old ≡ old ++ names
nothing_named old [] is = sym (append-nil old)
nothing_named old (x ∷ xs) is = absurd cc

any_append : (v : Bool) (xs ys : List ℕ) → ((v || has_any xs) || has_any ys) ≡ (v || has_any (xs ++ ys))
any_append true xs ys = refl
any_append false [] ys = refl
any_append false (x ∷ xs) ys = refl

-- what was counted, marked and gathered over a text
pub record Known (ps : Text) (old last : Facts) : Type 0 where
  pub size : last.size ≡ old.size + text_size ps
  pub marked : last.names_segment ≡ (old.names_segment || has_any (text_names segment_in ps))
  pub gathered : HaveSame last.found.items (old.found.items ++ text_names local_in ps)
  pub referred : last.referred.items ≡ old.referred.items ++ text_names function_in ps

pub knows : (ps : Text) (old last : Facts) → FoldsTo (λ (s : Facts) (p : Piece × InstrLocId) (t : Facts). IsTold s p.0 t) old ps last → Known ps old last
knows [] old last h =
    let size = ap (λ (s : Facts). s.size) h in
    record {
      size = omega (arith, size);
      marked = ap (λ (s : Facts). s.names_segment) (sym h) ∙ or_false old.names_segment;
      gathered = same_lists last.found.items (old.found.items ++ []) (ap (λ (s : Facts). s.found.items) (sym h) ∙ sym (append-nil old.found.items));
      referred = ap (λ (s : Facts). s.referred.items) (sym h) ∙ sym (append-nil old.referred.items);
    }
knows (p ∷ ps) old last h =
    let first = h.1.counted in
    let later = knows ps h.0 last h.2 in
    let rest = later.size in
    record {
      size = omega (arith, first, rest);
      marked = later.marked ∙ ap (λ (v : Bool). v || has_any (text_names segment_in ps)) h.1.marked ∙ any_append old.names_segment (piece_names segment_in p.0) (text_names segment_in ps);
      gathered =
          same_then last.found.items (h.0.found.items ++ text_names local_in ps) (old.found.items ++ (piece_names local_in p.0 ++ text_names local_in ps)) later.gathered
          (same_then (h.0.found.items ++ text_names local_in ps) ((old.found.items ++ piece_names local_in p.0) ++ text_names local_in ps) (old.found.items ++ (piece_names local_in p.0 ++ text_names local_in ps))
          (same_on h.0.found.items (old.found.items ++ piece_names local_in p.0) (text_names local_in ps) h.1.gathered)
          (same_lists ((old.found.items ++ piece_names local_in p.0) ++ text_names local_in ps) (old.found.items ++ (piece_names local_in p.0 ++ text_names local_in ps)) (append_assoc old.found.items (piece_names local_in p.0) (text_names local_in ps))));
      referred =
          later.referred ∙ ap (λ (z : List ℕ). z ++ text_names function_in ps) h.1.referred
          ∙ append_assoc old.referred.items (piece_names function_in p.0) (text_names function_in ps);
    }
