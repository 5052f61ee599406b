-- Where the instructions of open sequences lie.
use Rattle.std.specs.Prelude.{◌≤◌, ℕ, Bool, true, false, List, [], ◌∷◌, length, take, drop}
use Rattle.std.specs.Global.{Vec}
use Rattle.walrus_instr.specs.declared.instr.Instr.{Instr}
use Rattle.walrus_instr.specs.declared.seq.InstrLocId.{InstrLocId}
use Rattle.walrus_body_stack.specs.declared.nest.Slot.{Slot}
use Rattle.walrus_body_stack.specs.Held.{Held, Nested}

abbrev pub Instrs : Type 0
Instrs = List (Instr × InstrLocId)

abbrev pub Lists : Type 0
Lists = List (Vec (Instr × InstrLocId))

-- the list of the sequences around one whose instructions begin there: what is left of its own, or the next that was set aside
abbrev pub lower : Bool → ℕ → Instrs → Lists → Instrs
lower false b l ks = take b l
lower true b l [] = []
lower true b l (k ∷ ks) = k.items

abbrev pub further : Bool → Lists → Lists
further false ks = ks
further true [] = []
further true (k ∷ ks) = ks

-- the innermost first
abbrev pub helds : List Slot → Instrs → Lists → List Held
helds [] l ks = []
helds (s ∷ ss) l ks = record { frame = s.frame; instrs = drop s.begin l } ∷ helds ss (lower s.apart s.begin l ks) (further s.apart ks)

abbrev pub nested_in : Slot → List Slot → Instrs → Lists → Nested
nested_in s ss l ks = record { inner = record { frame = s.frame; instrs = drop s.begin l }; outer = helds ss (lower s.apart s.begin l ks) (further s.apart ks) }

-- they begin in the lists
abbrev pub Fits : List Slot → Instrs → Lists → Type 0
Fits [] l ks = Unit {0}
Fits (s ∷ ss) l ks = (s.begin ≤ length l) × Fits ss (lower s.apart s.begin l ks) (further s.apart ks)
