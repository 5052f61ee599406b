-- Handlers in a list by sequence.
use Rattle.std.specs.Prelude.{◌≡◌, ℕ, ◌<◌, ◌≤◌, Bool, true, false, List, [], ◌∷◌, length, Option, Some, None, slice_get, slice_set}
use Rattle.std.specs.List.{list_any}
use Rattle.std.specs.Option.{option_and_then}
use Rattle.walrus_handler_laws.specs.walrus_tree.walrus_builder.Built.{Seq}
use Rattle.walrus_handler_laws.specs.walrus_tree.walrus_walks.Events.{Event, StartOf}
use Rattle.walrus_handler_laws.specs.walrus_tree.walrus_walks.walrus_instr.declared.instr.Instr.{Instr}
use Rattle.walrus_handler_laws.specs.walrus_tree.walrus_walks.walrus_instr.declared.instr.Instr.TheVariants as instrs
use Rattle.walrus_handler_laws.specs.walrus_tree.walrus_walks.walrus_instr.declared.seq.InstrLocId.{InstrLocId}
use Rattle.walrus_handler_laws.specs.walrus_tree.walrus_walks.walrus_instr.declared.seq.InstrSeq.{InstrSeq}
use Rattle.walrus_handler_laws.specs.declared.handler.Handler.{Handler}
use Rattle.walrus_handler_laws.specs.Handlers.{Slot, slots_in, told_by}

-- the handler that a sequence is, by a list of them; those past its end are none
abbrev pub listed : List (Option Handler) → ℕ → Option Handler
listed hs j = option_and_then (λ h. h) (slice_get hs j)

-- by sequence, each is told as the handler that it is, if it is one
pub record AreHandlers (tags : ℕ → Option ℕ) (b : List InstrSeq) (js : List ℕ) (hs : List (Option Handler)) : Type 0 where
  pub short : length hs ≤ length b
  pub told : (j : ℕ) → j < length b → listed hs j ≡ told_by tags b js j

-- what a sequence is, put in the list, as far as that reaches
abbrev pub put : ℕ → Option Handler → List (Option Handler) → List (Option Handler)
put k None told = told
put k (Some h) told = slice_set told k (Some h)

abbrev pub put_all : List Slot → List (Option Handler) → List (Option Handler)
put_all [] told = told
put_all (x ∷ xs) told = put_all xs (put x.seq x.handles told)

-- what an event of a walk tells: a sequence begins
abbrev pub put_event : (ℕ → Option ℕ) → List Seq → Event → List (Option Handler) → List (Option Handler)
put_event tags b (StartOf s) told = put_all (slots_in tags b s.instrs.items) told
put_event tags b _ told = told

-- a legacy `try`; whether instructions, or those of any of these sequences, have one
abbrev pub is_try : Instr → Bool
is_try (instrs.Try k cs) = true
is_try _ = false

abbrev pub has_try : List (Instr × InstrLocId) → Bool
has_try is = list_any (λ (i : Instr × InstrLocId). is_try i.0) is

abbrev pub have_try : List InstrSeq → Bool
have_try b = list_any (λ (s : InstrSeq). has_try s.instrs.items) b
