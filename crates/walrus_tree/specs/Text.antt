-- The text of a body: its flat operators, in order, each with its place.
use Rattle.std.specs.Prelude.{ℕ, zero, suc, List, [], ◌∷◌, ◌++◌, Option, Some, None, length, slice_get}
use Rattle.walrus_builder.specs.walrus_walks.walrus_instr.declared.instr.Instr.{Instr}
use Rattle.walrus_builder.specs.walrus_walks.walrus_instr.declared.instr.Instr.TheVariants.{Block, Loop, IfElse, Try, TryTable}
use Rattle.walrus_builder.specs.walrus_walks.walrus_instr.declared.instr.LegacyCatch.{LegacyCatch}
use Rattle.walrus_builder.specs.walrus_walks.walrus_instr.declared.instr.LegacyCatch.TheVariants as Legacy
use Rattle.walrus_builder.specs.walrus_walks.walrus_instr.declared.seq.InstrLocId.{InstrLocId}
use Rattle.walrus_builder.specs.walrus_walks.walrus_instr.declared.seq.InstrSeq.{InstrSeq}
use Rattle.walrus_builder.specs.walrus_walks.Tree.{children}

-- what stands in a text: an instruction, or the beginning of a block, with the sequences around it, innermost first;
-- what ends one part of a block and begins the next; what ends a block, or the body
pub data Piece : Type 0 where
  Operator : (around : List ℕ) (instr : Instr) → Piece
  Else : Piece
  Catch : (tag : ℕ) → Piece
  CatchAll : Piece
  Delegate : (depth : ℕ) → Piece
  End : Piece

-- what stands behind each part of a legacy `try`, its body first
abbrev pub after_parts : List LegacyCatch → List Piece
after_parts [] = End ∷ []
after_parts (Legacy.Catch tag _ ∷ parts) = Catch tag ∷ after_parts parts
after_parts (Legacy.CatchAll _ ∷ parts) = CatchAll ∷ after_parts parts
after_parts (Legacy.Delegate depth ∷ _) = Delegate depth ∷ []

-- what stands behind each sequence that an instruction holds
abbrev pub after : Instr → List Piece
after (Block _) = End ∷ []
after (Loop _) = End ∷ []
after (IfElse _ _) = Else ∷ End ∷ []
after (Try _ catches) = after_parts catches.items
after (TryTable _ _) = End ∷ []
after _ = []

-- the texts of sequences, each with what stands behind it, where `text` is that of one
abbrev pub of_parts : (ℕ → Piece → List (Piece × InstrLocId)) → List ℕ → List Piece → List (Piece × InstrLocId)
of_parts text (k ∷ ks) (p ∷ ps) = text k p ++ of_parts text ks ps
of_parts text _ _ = []

-- the text of instructions inside the sequences around them: each, then what it holds
abbrev pub of_instrs : (ℕ → Piece → List (Piece × InstrLocId)) → List ℕ → List (Instr × InstrLocId) → List (Piece × InstrLocId)
of_instrs text around [] = []
of_instrs text around (i ∷ is) = (Operator around i.0, i.1) ∷ (of_parts text (children i.0) (after i.0) ++ of_instrs text around is)

-- the text of a sequence and what stands behind it, which has the place of its end
abbrev pub of_seq : (ℕ → Piece → List (Piece × InstrLocId)) → List ℕ → Option InstrSeq → Piece → List (Piece × InstrLocId)
of_seq text around (Some s) p = of_instrs text around s.instrs.items ++ (p, s.end) ∷ []
of_seq text around None p = []

-- the text down to this depth
abbrev pub text_within : List InstrSeq → ℕ → List ℕ → ℕ → Piece → List (Piece × InstrLocId)
text_within b zero around k p = []
text_within b (suc n) around k p = of_seq (text_within b n (k ∷ around)) (k ∷ around) (slice_get b k) p

-- the text of the sequence k inside those around it: a nest is no deeper than it has sequences
abbrev pub text : List InstrSeq → List ℕ → ℕ → Piece → List (Piece × InstrLocId)
text b around k p = text_within b (length b) around k p

-- the flat operators of a body, through its last `end`
abbrev pub operators : List InstrSeq → ℕ → List (Piece × InstrLocId)
operators b entry = text b [] entry End
