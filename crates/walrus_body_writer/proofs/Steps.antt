-- One step of emission keeps what its loop keeps.
use Rattle.std.proofs.Common.{◌≡◌, List, [], ◌∷◌, ◌++◌, Option, sym, ap, subst, ◌∙◌}
use Rattle.std.specs.Prelude.{Ok, Err}
use Rattle.std.proofs.lemmas.List.{append_assoc}
use Rattle.walrus_body_text.specs.walrus_tree.walrus_walks.walrus_instr.declared.seq.InstrLocId.{InstrLocId}
use Rattle.walrus_body_text.specs.walrus_tree.walrus_walks.walrus_instr.declared.seq.InstrSeq.{InstrSeq}
use Rattle.walrus_body_text.specs.walrus_tree.Text.{Piece, Operator}
use Rattle.wasm_operators.specs.Operators.{Seen}
use Rattle.walrus_pairing.specs.Looks.{Look, Or}
use Rattle.walrus_pairing.specs.declared.error.PairError.{PairError}
use Rattle.walrus_body_text.specs.declared.todo.Met.{Met}
use Rattle.walrus_body_text.specs.declared.todo.Met.TheVariants.{AnInstr, AnEnd}
use Rattle.walrus_body_text.specs.Doing.{piece_of, left}
use Rattle.walrus_body_text.specs.Walking.{State, Good, Passed}
use Rattle.walrus_body_writer.specs.declared.output.Output.{Output}
use Rattle.walrus_body_writer.specs.Spelled.{Text, written}
use Rattle.walrus_body_writer.specs.Outputs.{PutsIf, IsSame, Wrote}
use Rattle.walrus_body_writer.specs.Refusals.{Gives, IsDue, IsLarge, LeavesOff, value_at, value_in}
use Rattle.walrus_body_writer.specs.Emitting.{Writes, Goes}
use Rattle.walrus_body_writer.proofs.Labels.{instr_same}
use Rattle.walrus_body_writer.proofs.Outs.{wrote_on, wrote_same}
use Rattle.walrus_body_writer.proofs.Refused.{gives_more}

module _ (look : Look) (b : List InstrSeq) (all : Text) (old : Output) (front before : Text) (new : State) (out next : Output)
    (parts : all ≡ front ++ before) (wrote : Wrote look b front old out) where
  puts_on : (p : Piece × InstrLocId) → before ≡ p ∷ left b [] new.todo → Good b new → PutsIf (written look b p.0) p.1 out next → Goes look b all old new next
  puts_on p was good puts = record {
    good = good;
    front = front ++ p ∷ [];
    parts = parts ∙ ap (λ (z : Text). front ++ z) was ∙ sym (append_assoc front (p ∷ []) (left b [] new.todo));
    wrote = wrote_on look b front old out next p wrote puts;
  }

  pub writes_on : (met : Met) → Passed b before met new → Writes look b met new out next (Ok tt) → Goes look b all old new next
  writes_on (AnInstr k at) h w =
      puts_on (Operator h.around h.item.0, h.item.1) h.was h.good
      (subst (λ (a : Or (Option Seen)). PutsIf a h.item.1 out next) (instr_same look b new.depths h.around new.height h.deep h.high h.item.0 h.within) (w h.seq h.item h.found h.stands))
  writes_on (AnEnd c place) h w = puts_on (piece_of c, place) h.was h.good w

  stops_at : (p : Piece × InstrLocId) (e : PairError) → before ≡ p ∷ left b [] new.todo → Gives (IsLarge look (value_at b p.0)) (written look b p.0) (Err e) → IsSame out next → LeavesOff look b all old e next
  stops_at p e was due same = record {
    front = front;
    back = before;
    parts = parts;
    wrote = wrote_same look b front old out next wrote same;
    due = subst (λ (z : Text). IsDue look b z e) (sym was) due;
  }

  pub refuses : (met : Met) (e : PairError) → Passed b before met new → Writes look b met new out next (Err e) → LeavesOff look b all old e next
  refuses (AnInstr k at) e h w =
      let r = w h.seq h.item h.found h.stands in
      stops_at (Operator h.around h.item.0, h.item.1) e h.was
      (subst (λ (a : Or (Option Seen)). Gives (IsLarge look (value_in b h.item.0)) a (Err e)) (instr_same look b new.depths h.around new.height h.deep h.high h.item.0 h.within) r.0) r.1
  refuses (AnEnd c place) e h w = stops_at (piece_of c, place) e h.was (gives_more (IsLarge look (value_at b (piece_of c))) (written look b (piece_of c)) e w.0) w.1
