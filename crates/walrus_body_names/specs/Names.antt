-- What the operators of a body name.
use Rattle.std.specs.Prelude.{◌↔◌, ℕ, Bool, true, false, List, [], ◌∷◌, ◌++◌, Contains, ◌&&◌, Option, Some, None}
use Rattle.std.specs.List.Sorted.{IsStrictlySortedBy}
use Rattle.std.specs.Ordering.{nat_cmp}
use Rattle.walrus_instr.specs.declared.instr.Instr.{Instr}
use Rattle.walrus_instr.specs.declared.instr.Instr.TheVariants.{Const, MemoryInit, DataDrop, ArrayNewData, ArrayInitData, LocalGet, LocalSet, LocalTee, RefFunc}
use Rattle.walrus_instr.specs.declared.seq.InstrLocId.{InstrLocId}
use Rattle.walrus_instr.specs.declared.seq.InstrSeq.{InstrSeq}
use Rattle.walrus_body_writer.specs.walrus_tree.Text.{Piece, Operator}
use Rattle.walrus_body_writer.specs.Spelled.{Text}

-- the data segment that an instruction names, if it names one
abbrev pub segment_in : Instr → List ℕ
segment_in (MemoryInit _ segment) = segment ∷ []
segment_in (DataDrop segment) = segment ∷ []
segment_in (ArrayNewData _ segment) = segment ∷ []
segment_in (ArrayInitData _ segment) = segment ∷ []
segment_in _ = []

-- the local that an instruction names, if it names one
abbrev pub local_in : Instr → List ℕ
local_in (LocalGet local) = local ∷ []
local_in (LocalSet local) = local ∷ []
local_in (LocalTee local) = local ∷ []
local_in _ = []

-- the function to which an instruction refers, if it refers to one
abbrev pub function_in : Instr → List ℕ
function_in (RefFunc function) = function ∷ []
function_in _ = []

abbrev pub piece_names : (Instr → List ℕ) → Piece → List ℕ
piece_names names (Operator around instr) = names instr
piece_names names _ = []

-- what the operators of a text name, in their order
abbrev pub text_names : (Instr → List ℕ) → Text → List ℕ
text_names names [] = []
text_names names (p ∷ ps) = piece_names names p.0 ++ text_names names ps

abbrev pub has_any : List ℕ → Bool
has_any [] = false
has_any (k ∷ ks) = true

-- the same names, however often
abbrev pub HaveSame : List ℕ → List ℕ → Type 0
HaveSame xs ys = (k : ℕ) → Contains xs k ↔ Contains ys k

-- the list of these names as a set: each once, rising
pub record AreSet (names set : List ℕ) : Type 0 where
  pub rising : IsStrictlySortedBy nat_cmp set
  pub members : (k : ℕ) → Contains set k ↔ Contains names k

-- a constant
abbrev pub is_constant : Instr → Bool
is_constant (Const _) = true
is_constant _ = false

abbrev pub all_constant : List (Instr × InstrLocId) → Bool
all_constant [] = true
all_constant (i ∷ is) = is_constant i.0 && all_constant is

-- each instruction of the sequence is one
abbrev pub are_constants : Option InstrSeq → Bool
are_constants None = true
are_constants (Some s) = all_constant s.instrs.items
