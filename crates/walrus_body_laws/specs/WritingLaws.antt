-- The text of a body as flat operators.
use Rattle.std.specs.Prelude.{◌≡◌, ℕ, ◌==◌, List, [], ◌∷◌, ◌++◌, Option, Some, None, Ok, if◌then◌else◌}
use Rattle.walrus_instr.specs.declared.seq.InstrLocId.{InstrLocId}
use Rattle.walrus_instr.specs.declared.seq.InstrSeq.{InstrSeq}
use Rattle.wasm_operators.specs.Operators.{Seen}
use Rattle.walrus_pairing.specs.Looks.{Look, Or}
use Rattle.wasm_normal_form.specs.Roles.{Placed, placed}
use Rattle.wasm_normal_form.specs.Normal.{size}
use Rattle.wasm_normal_form.specs.Places.{code_bytes, if_placed, pairs_from}
use Rattle.walrus_body_names.specs.walrus_body_writer.Spelled.{Text, written, text_bytes, text_places, AreWritten}
use Rattle.walrus_body_names.specs.walrus_body_writer.walrus_body_text.Visiting.{text_size}

-- the place that a location stands for, if it stands for one
abbrev pub place_in : InstrLocId → Option ℕ
place_in place = if place.0 == 4294967295 then None else Some place.0

abbrev pub placed_of : Or (Option Seen) → InstrLocId → List Placed
placed_of (Ok (Some op)) place = placed op (place_in place) ∷ []
placed_of _ place = []

-- what is written for a text, operator by operator
abbrev pub text_ops : Look → List InstrSeq → Text → List Placed
text_ops look b [] = []
text_ops look b (p ∷ ps) = placed_of (written look b p.0) p.1 ++ text_ops look b ps

-- the bytes that are written are those of the operators
abbrev pub BytesAgree : Type 0
BytesAgree = (look : Look) (b : List InstrSeq) (t : Text) → text_bytes look b t ≡ code_bytes (text_ops look b t)

-- of locations with the places of what is written, those that stand for a place
abbrev pub true_pairs : List (InstrLocId × ℕ) → List (ℕ × ℕ)
true_pairs [] = []
true_pairs (p ∷ ps) = if_placed (place_in p.0) p.1 ++ true_pairs ps

-- the places that are kept are the true pairs of the operators
abbrev pub PlacesAgree : Type 0
PlacesAgree = (look : Look) (b : List InstrSeq) (at : ℕ) (t : Text) → true_pairs (text_places look b at t) ≡ pairs_from at (text_ops look b t)

-- the size of a text each piece of which is written is that of its operators
abbrev pub SizesAgree : Type 0
SizesAgree = (look : Look) (b : List InstrSeq) (t : Text) → AreWritten look b t → text_size t ≡ size (text_ops look b t)
