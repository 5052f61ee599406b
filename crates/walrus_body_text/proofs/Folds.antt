-- Loops over a text that tell a visitor.
use Rattle.std.proofs.Common.{ℕ, ◌+◌, ◌≡◌, List, [], ◌∷◌, ◌++◌, sym, ap, arith, ◌∙◌}
use Rattle.std.proofs.lemmas.Fn.{FoldsTo-push}
use Rattle.std.proofs.lemmas.List.{append_assoc}
use Rattle.std.specs.List.{FoldsTo}
use Rattle.walrus_tree.specs.walrus_walks.walrus_instr.declared.seq.InstrLocId.{InstrLocId}
use Rattle.walrus_tree.specs.walrus_walks.walrus_instr.declared.seq.InstrSeq.{InstrSeq}
use Rattle.walrus_tree.specs.Text.{Piece, Operator}
use Rattle.walrus_body_text.specs.declared.todo.Met.{Met}
use Rattle.walrus_body_text.specs.declared.todo.Met.TheVariants.{AnInstr, AnEnd}
use Rattle.walrus_body_text.specs.Doing.{Text, left, piece_of}
use Rattle.walrus_body_text.specs.Walking.{State, Good, Passed}
use Rattle.walrus_body_text.specs.Visiting.{Visits, Tells, weight, text_size}

module _ {V : Type 0} (step : V → Piece × InstrLocId → V → Type 0) (b : List InstrSeq) (all : Text) (old : V) (front before : Text) (new : State) (visitor next : V)
    (parts : all ≡ front ++ before) (told : FoldsTo step old front visitor) where
  tells : (p : Piece × InstrLocId) → before ≡ p ∷ left b [] new.todo → Good b new → step visitor p next → Tells step b all old new next
  tells p was good h = record {
    good = good;
    front = front ++ p ∷ [];
    parts = parts ∙ ap (λ (z : Text). front ++ z) was ∙ sym (append_assoc front (p ∷ []) (left b [] new.todo));
    told = FoldsTo-push step old front visitor p next told h;
  }

  pub tells_on : (met : Met) → Passed b before met new → Visits step b met visitor next → Tells step b all old new next
  tells_on (AnInstr k at) h w = tells (Operator h.around h.item.0, h.item.1) h.was h.good (w h.seq h.item h.found h.stands h.around)
  tells_on (AnEnd c place) h w = tells (piece_of c, place) h.was h.good w

-- a fold of steps that add is a sum
pub adds_up : {S : Type 0} (count : S → ℕ) (ps : Text) (old last : S) → FoldsTo (λ (s : S) (p : Piece × InstrLocId) (t : S). count t ≡ count s + weight p.0) old ps last → count last ≡ count old + text_size ps
adds_up count [] old last h = let e = ap count h in omega (arith, e)
adds_up count (p ∷ ps) old last h =
    let first = h.1 in
    let later = adds_up count ps h.0 last h.2 in
    omega (arith, first, later)
