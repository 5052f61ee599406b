-- Open sequences with their instructions.
use Rattle.std.specs.Prelude.{◌≡◌, ℕ, Bool, true, false, List, [], ◌∷◌, ◌++◌}
use Rattle.walrus_instr.specs.declared.instr.Instr.{Instr}
use Rattle.walrus_instr.specs.declared.seq.InstrLocId.{InstrLocId}
use Rattle.walrus_body_nesting.specs.declared.frames.Reach.{Reach}
use Rattle.walrus_body_nesting.specs.declared.frames.Reach.TheVariants.{Live, Cut, Dropped}
use Rattle.walrus_instr.specs.declared.seq.InstrSeqType.{InstrSeqType}
use Rattle.walrus_body_nesting.specs.Opens.{reach_in, reach_on}
use Rattle.walrus_body_stack.specs.declared.frame.Frame.{Frame}
use Rattle.walrus_body_stack.specs.declared.frame.Sort.{Sort}

-- an open sequence, with its instructions
pub record Held : Type 0 where
  pub frame : Frame
  pub instrs : List (Instr × InstrLocId)

-- the innermost, and those around it
pub record Nested : Type 0 where
  pub inner : Held
  pub outer : List Held

-- one without instructions
abbrev pub bare : Frame → Held
bare f = record { frame = f; instrs = [] }

-- with one more
abbrev pub longer : Instr × InstrLocId → Held → Held
longer i h = record { frame = h.frame; instrs = h.instrs ++ i ∷ [] }

-- what they are
abbrev pub seqs_of : List Held → List ℕ
seqs_of [] = []
seqs_of (h ∷ hs) = h.frame.seq ∷ seqs_of hs

abbrev pub seqs_in : Nested → List ℕ
seqs_in n = n.inner.frame.seq ∷ seqs_of n.outer

-- ---- how they change

-- an instruction more in the innermost
abbrev pub added : Instr × InstrLocId → Nested → Nested
added i n = record { inner = longer i n.inner; outer = n.outer }

-- the innermost is this
abbrev pub as_frame : Frame → Nested → Nested
as_frame f n = record { inner = record { frame = f; instrs = n.inner.instrs }; outer = n.outer }

-- this is the innermost
abbrev pub entered : Frame → Nested → Nested
entered f n = record { inner = bare f; outer = n.inner ∷ n.outer }

-- the first sequence of a block, in a sequence that is reached so
abbrev pub first_frame : ℕ → Sort → InstrLocId → InstrSeqType → Reach → Frame
first_frame k s p ty r = record { ty = ty; place = p; first = k; seq = k; sort = s; reach = reach_in r }

-- its instructions were taken
abbrev pub emptied : Nested → Nested
emptied n = record { inner = bare n.inner.frame; outer = n.outer }

-- whether it was left: it isn't, where there is none around it
abbrev pub IsLeft : Bool → Nested → Nested → Type 0
IsLeft true old new = old.outer ≡ new.inner ∷ new.outer
IsLeft false old new = (old.outer ≡ []) × (new ≡ old)

-- a block more in the innermost, where it was reached
abbrev pub joined : Reach → Instr × InstrLocId → Nested → Nested
joined Live i n = added i n
joined Cut i n = added i n
joined Dropped i n = n

-- the next part of its block, whose sequence this is
abbrev pub turned : ℕ → Sort → Frame → Frame
turned k s f = record { ty = f.ty; place = f.place; first = f.first; seq = k; sort = s; reach = reach_on f.reach }
