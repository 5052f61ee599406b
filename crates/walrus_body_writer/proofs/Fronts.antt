-- What was there stands at the front.
use Rattle.std.proofs.Common.{ℕ, ◌≡◌, Bool, true, false, List, [], ◌∷◌, ◌++◌, Option, Some, None, Ok, Err, length, refl, sym, subst, ap, ◌∙◌}
use Rattle.std.specs.Prelude.{Result, if◌then◌else◌}
use Rattle.std.proofs.lemmas.List.{append-nil, append_assoc}
use Rattle.walrus_body_text.specs.walrus_tree.walrus_walks.walrus_instr.declared.seq.InstrLocId.{InstrLocId}
use Rattle.wasm_operators.specs.Operators.{Seen}
use Rattle.walrus_operators.specs.wasm_operators.Bytes.{operator_bytes}
use Rattle.walrus_pairing.specs.Looks.{Or}
use Rattle.walrus_pairing.specs.declared.error.PairError.{PairError}
use Rattle.walrus_body_writer.specs.declared.output.Output.{Output}
use Rattle.walrus_body_writer.specs.Emitting.{IsDone}
use Rattle.walrus_body_writer.specs.Outputs.{IsSame, PutsIf, StandsFirst}
use Rattle.walrus_body_writer.proofs.Outs.{Pairs}

pub first_same : (old new : Output) → IsSame old new → StandsFirst old new
first_same old new same = record {
  more = [];
  further = [];
  bytes = same.bytes ∙ sym (append-nil old.bytes.items);
  places = same.places ∙ sym (append-nil old.places.items);
  keeps = same.keeps;
}

pub first_itself : (out : Output) → StandsFirst out out
first_itself out = first_same out out (record { bytes = refl; places = refl; keeps = refl })

pub first_on : (old mid new : Output) → StandsFirst old mid → StandsFirst mid new → StandsFirst old new
first_on old mid new a b = record {
  more = a.more ++ b.more;
  further = a.further ++ b.further;
  bytes = b.bytes ∙ ap (λ (z : List ℕ). z ++ b.more) a.bytes ∙ append_assoc old.bytes.items a.more b.more;
  places = b.places ∙ ap (λ (z : Pairs). z ++ b.further) a.places ∙ append_assoc old.places.items a.further b.further;
  keeps = b.keeps ∙ a.keeps;
}

abbrev pair_put : Bool → InstrLocId → ℕ → Pairs
pair_put true place at = (place, at) ∷ []
pair_put false place at = []

is_put : (k : Bool) (olds : Pairs) (place : InstrLocId) (at : ℕ) → (if k then olds ++ (place, at) ∷ [] else olds) ≡ olds ++ pair_put k place at
is_put true olds place at = refl
is_put false olds place at = sym (append-nil olds)

-- what is put there
pub first_put : (a : Or (Option Seen)) (place : InstrLocId) (old new : Output) → PutsIf a place old new → StandsFirst old new
first_put (Ok (Some op)) place old new h = record {
  more = operator_bytes op;
  further = pair_put old.keeps_places place (length old.bytes.items);
  bytes = h.bytes;
  places = h.places ∙ is_put old.keeps_places old.places.items place (length old.bytes.items);
  keeps = h.keeps;
}
first_put (Ok None) place old new h = let F : Output → Type 0 = λ z. StandsFirst old z in subst F (sym h) (first_itself old)
first_put (Err e) place old new h = absurd h

-- whatever is done for an operator
pub first_done : (large : Type 0) (a : Or (Option Seen)) (place : InstrLocId) (old new : Output) (r : Result (Unit {0}) PairError) → IsDone large a place old new r → StandsFirst old new
first_done large a place old new (Ok x) h = first_put a place old new h
first_done large a place old new (Err e) h = first_same old new h.1
