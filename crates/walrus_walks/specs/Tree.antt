-- Sequences as a tree: which sequences an instruction holds, and when they are nested.
use Rattle.std.specs.Prelude.{◌≡◌, ℕ, ◌<◌, List, [], ◌∷◌, ◌++◌, Some, slice_get}
use Rattle.walrus_instr.specs.declared.instr.Instr.{Instr}
use Rattle.walrus_instr.specs.declared.instr.Instr.TheVariants.{Block, Loop, IfElse, Try, TryTable}
use Rattle.walrus_instr.specs.declared.instr.LegacyCatch.{LegacyCatch}
use Rattle.walrus_instr.specs.declared.instr.LegacyCatch.TheVariants.{Catch, CatchAll, Delegate}
use Rattle.walrus_instr.specs.declared.seq.InstrLocId.{InstrLocId}
use Rattle.walrus_instr.specs.declared.seq.InstrSeq.{InstrSeq}

-- the handler of a part of a legacy `try`, where it has one
abbrev pub handler : LegacyCatch → List ℕ
handler (Catch _ seq) = seq ∷ []
handler (CatchAll seq) = seq ∷ []
handler (Delegate _) = []

-- the handlers of the parts, in their order
abbrev pub handlers : List LegacyCatch → List ℕ
handlers [] = []
handlers (c ∷ cs) = handler c ++ handlers cs

-- the sequences that an instruction holds, in their order (Core Specification, structured instructions)
abbrev pub children : Instr → List ℕ
children (Block seq) = seq ∷ []
children (Loop seq) = seq ∷ []
children (IfElse consequent alternative) = consequent ∷ alternative ∷ []
children (Try seq catches) = seq ∷ handlers catches.items
children (TryTable seq _) = seq ∷ []
children _ = []

-- the sequences that these instructions hold
abbrev pub children_in : List (Instr × InstrLocId) → List ℕ
children_in [] = []
children_in (i ∷ is) = children i.0 ++ children_in is

-- each of these has a rank of its own, below n
abbrev pub Falls : (ℕ → ℕ) → ℕ → List ℕ → Type 0
Falls rank n [] = Unit {0}
Falls rank n (k ∷ ks) = (0 < rank k) × (rank k < n) × Falls rank n ks

-- what has a rank is a known sequence, and its rank falls to each sequence in it; 0 is no rank
abbrev pub IsRank : List InstrSeq → (ℕ → ℕ) → Type 0
IsRank b rank = (k : ℕ) → 0 < rank k → (s : InstrSeq) × (slice_get b k ≡ Some s) × Falls rank (rank k) (children_in s.instrs.items)

-- each sequence that is reached from k is known, and none reaches itself
pub record IsNested (b : List InstrSeq) (k : ℕ) : Type 0 where
  pub rank : ℕ → ℕ
  pub is_rank : IsRank b rank
  pub ranked : 0 < rank k
