-- What is written behind what was written.
use Rattle.std.specs.Prelude.{◌≡◌, ◌==◌, ◌&&◌, leb, ℕ, ◌+◌, Bool, MatchBool, take, List, [], ◌∷◌, ◌++◌, length, Option, Some, None, Result, Ok, Err, ◌⊎◌, if◌then◌else◌}
use Rattle.walrus_body_text.specs.walrus_tree.walrus_walks.walrus_instr.declared.seq.InstrLocId.{InstrLocId}
use Rattle.walrus_body_text.specs.walrus_tree.walrus_walks.walrus_instr.declared.seq.InstrSeq.{InstrSeq}
use Rattle.wasm_operators.specs.Operators.{Seen}
use Rattle.walrus_operators.specs.wasm_operators.Bytes.{operator_bytes}
use Rattle.walrus_pairing.specs.Looks.{Look, Or}
use Rattle.walrus_pairing.specs.declared.error.PairError.{PairError}
use Rattle.walrus_pairing.specs.declared.error.PairError.TheVariants as errors
use Rattle.walrus_body_writer.specs.declared.output.Output.{Output}
use Rattle.walrus_body_writer.specs.Spelled.{Text, text_bytes, text_places, AreWritten}

-- the operator was put behind what was written, and where places are kept, its place
pub record Puts (op : Seen) (place : InstrLocId) (old new : Output) : Type 0 where
  pub bytes : new.bytes.items ≡ old.bytes.items ++ operator_bytes op
  pub places : new.places.items ≡ (if old.keeps_places then old.places.items ++ (place, length old.bytes.items) ∷ [] else old.places.items)
  pub keeps : new.keeps_places ≡ old.keeps_places

-- an operator that begins there has its place, where places are kept
pub record IsNoted (place : InstrLocId) (at : ℕ) (old new : Output) : Type 0 where
  pub bytes : new.bytes.items ≡ old.bytes.items
  pub places : new.places.items ≡ (if old.keeps_places then old.places.items ++ (place, at) ∷ [] else old.places.items)
  pub keeps : new.keeps_places ≡ old.keeps_places

-- the bytes from there on were cut off
pub record IsCut (at : ℕ) (old new : Output) : Type 0 where
  pub bytes : new.bytes.items ≡ take at old.bytes.items
  pub places : new.places.items ≡ old.places.items
  pub keeps : new.keeps_places ≡ old.keeps_places

-- either of these; memory was wanted then
abbrev pub IsEnded : InstrLocId → ℕ → Output → Output → Result (Unit {0}) PairError → Type 0
IsEnded place at old new (Ok _) = IsNoted place at old new
IsEnded place at old new (Err e) = (e ≡ errors.Memory) × IsCut at old new

-- what is written was put there
abbrev pub PutsIf : Or (Option Seen) → InstrLocId → Output → Output → Type 0
PutsIf (Ok (Some op)) place old new = Puts op place old new
PutsIf (Ok None) place old new = new ≡ old
PutsIf (Err _) place old new = ⊥

-- the same bytes and places
pub record IsSame (old new : Output) : Type 0 where
  pub bytes : new.bytes.items ≡ old.bytes.items
  pub places : new.places.items ≡ old.places.items
  pub keeps : new.keeps_places ≡ old.keeps_places

-- what is written was put there; or it isn't written, or memory was wanted, and nothing was put there
abbrev pub IsPut : Or (Option Seen) → InstrLocId → Output → Output → Result (Unit {0}) PairError → Type 0
IsPut a place old new (Ok _) = PutsIf a place old new
IsPut a place old new (Err e) = ((e ≡ errors.Memory) ⊎ (a ≡ Err e)) × IsSame old new

-- places that lie so much further on
abbrev pub moved : ℕ → List (InstrLocId × ℕ) → List (InstrLocId × ℕ)
moved by [] = []
moved by (p ∷ ps) = (p.0, by + p.1) ∷ moved by ps

-- what was written elsewhere stands behind what was written here
pub record Joins (more old new : Output) : Type 0 where
  pub bytes : new.bytes.items ≡ old.bytes.items ++ more.bytes.items
  pub places : new.places.items ≡ old.places.items ++ moved (length old.bytes.items) more.places.items
  pub keeps : new.keeps_places ≡ old.keeps_places

-- no places, and at most 64 bytes
abbrev pub is_short : Output → Bool
is_short out = (length out.places.items == 0) && leb (length out.bytes.items) 64

-- nothing was written
pub record IsNothing (old new : Output) : Type 0 where
  pub bytes : new.bytes.items ≡ []
  pub places : new.places.items ≡ []
  pub keeps : new.keeps_places ≡ old.keeps_places

-- where more is written apart: the same again if that is short, else nothing
abbrev pub IsAside : Output → Output → Type 0
IsAside old own = MatchBool (is_short old) (IsSame old own) (IsNothing old own)

-- it was taken, or put behind
abbrev pub IsTaken : Output → Output → Output → Type 0
IsTaken own old new = MatchBool (is_short old) (new ≡ own) (Joins own old new)

-- the text was written, each piece of it: its bytes stand behind what was there, and where places are kept, so do its places
pub record Wrote (look : Look) (b : List InstrSeq) (t : Text) (old new : Output) : Type 0 where
  pub bytes : new.bytes.items ≡ old.bytes.items ++ text_bytes look b t
  pub places : new.places.items ≡ (if old.keeps_places then old.places.items ++ text_places look b (length old.bytes.items) t else old.places.items)
  pub keeps : new.keeps_places ≡ old.keeps_places
  pub written : AreWritten look b t

-- what was there stands at the front of the bytes and of the places
pub record StandsFirst (old new : Output) : Type 0 where
  pub more : List ℕ
  pub further : List (InstrLocId × ℕ)
  pub bytes : new.bytes.items ≡ old.bytes.items ++ more
  pub places : new.places.items ≡ old.places.items ++ further
  pub keeps : new.keeps_places ≡ old.keeps_places
