-- The open frames of a body that is read.
use Rattle.std.specs.Prelude.{◌≡◌, ℕ, ◌-◌, ◌<◌, ◌≤◌, ◌⊎◌, Bool, false, true, List, [], ◌∷◌, ◌++◌, length, slice_get, Option, Some, None, if◌then◌else◌}
use Rattle.walrus_builder.specs.Built.{Seq, empty_seq}
use Rattle.walrus_instr.specs.declared.instr.Instr.{Instr}
use Rattle.walrus_instr.specs.declared.instr.LegacyCatch.{LegacyCatch}
use Rattle.walrus_instr.specs.declared.seq.InstrLocId.{InstrLocId}
use Rattle.walrus_instr.specs.declared.seq.InstrSeqType.{InstrSeqType}
use Rattle.walrus_body_env.specs.declared.error.BodyError.{BodyError}
use Rattle.walrus_body_env.specs.declared.error.BodyError.TheVariants.{Nesting, TypeForm, Memory}
use Rattle.walrus_body_frames.specs.declared.frame.BlockKind.{BlockKind}
use Rattle.walrus_body_frames.specs.declared.frame.ControlFrame.{ControlFrame}

-- a frame as contracts see it
pub record Frame : Type 0 where
  pub kind : BlockKind
  pub ty : InstrSeqType
  pub block : ℕ
  pub unreachable : Bool
  pub catches : List LegacyCatch
  pub instrs : List (Instr × InstrLocId)

abbrev pub frame : ControlFrame → Frame
frame f = record { kind = f.kind; ty = f.ty; block = f.block; unreachable = f.unreachable; catches = f.catches.items; instrs = f.instrs.items }

-- a frame of an empty sequence, which is reached
abbrev pub fresh : BlockKind → InstrSeqType → ℕ → Frame
fresh kind ty block = record { kind = kind; ty = ty; block = block; unreachable = false; catches = []; instrs = [] }

abbrev pub IsFresh : BlockKind → InstrSeqType → ℕ → ControlFrame → Type 0
IsFresh kind ty block f = frame f ≡ fresh kind ty block

-- what is not reached is dropped
abbrev pub with_instr : Instr → InstrLocId → Frame → Frame
with_instr i place f = record f { instrs = if f.unreachable then f.instrs else f.instrs ++ (i, place) ∷ [] }

abbrev pub with_catch : LegacyCatch → Frame → Frame
with_catch part f = record f { catches = f.catches ++ part ∷ [] }

abbrev pub cut_off : Frame → Frame
cut_off f = record f { unreachable = true }

abbrev pub frames : List ControlFrame → List Frame
frames [] = []
frames (f ∷ fs) = frame f ∷ frames fs

-- a frame was opened inside the others, of a sequence that is new and empty
pub record Opens (kind : BlockKind) (ty : InstrSeqType) (block : ℕ) (old new : List Frame) (seqs more : List Seq) : Type 0 where
  pub frames : new ≡ old ++ fresh kind ty block ∷ []
  pub id : block ≡ length seqs
  pub added : more ≡ seqs ++ empty_seq block ty ∷ []

-- what a frame that isn't opened leaves: the sequences as they were, or one more, which is empty
abbrev pub Leaves : InstrSeqType → List Seq → List Seq → Type 0
Leaves ty seqs more = (more ≡ seqs) ⊎ (more ≡ seqs ++ empty_seq (length seqs) ty ∷ [])

-- why a frame isn't opened, and what that leaves of the sequences: no block type has its parameters and results, or memory is wanted
abbrev pub IsRefused : Option InstrSeqType → List Seq → List Seq → BodyError → Type 0
IsRefused None seqs more e = (e ≡ TypeForm None) × (more ≡ seqs)
IsRefused (Some ty) seqs more e = (e ≡ Memory) × Leaves ty seqs more

-- why nothing is put into the frame that n lie inside, of so many: it isn't open, or it is and memory is wanted
abbrev pub IsUnopened : ℕ → ℕ → BodyError → Type 0
IsUnopened count n (Nesting offset) = (offset ≡ None) × (count ≤ n)
IsUnopened count n Memory = n < count
IsUnopened count n _ = ⊥

-- why no instruction is put into the frame that n lie inside: it isn't open, or memory is wanted and what comes next there is reached
abbrev pub IsUnadded : List Frame → ℕ → BodyError → Type 0
IsUnadded fs n (Nesting offset) = (offset ≡ None) × (length fs ≤ n)
IsUnadded fs n Memory = (n < length fs) × (f : Frame) × (slice_get fs (length fs - 1 - n) ≡ Some f) × (f.unreachable ≡ false)
IsUnadded fs n _ = ⊥

abbrev pub with_instrs : List (Instr × InstrLocId) → Frame → Frame
with_instrs instrs f = record f { instrs = instrs }
