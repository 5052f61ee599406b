-- What an instruction names, beside what its pieces of the text name.
use Rattle.std.specs.Prelude.{ℕ, ◌↔◌, List, [], ◌∷◌, ◌++◌, map, drop, Contains, slice_get}
use Rattle.std.specs.List.{flat_map}
use Rattle.wasm_references.specs.wasm_operators.declared.block_type.BlockType.{BlockType}
use Rattle.wasm_references.specs.wasm_operators.Names.{Name, operator_names, block_names}
use Rattle.wasm_references.specs.wasm_operators.Items.{Space, Labels}
use Rattle.walrus_walks.specs.walrus_instr.declared.instr.Instr.{Instr}
use Rattle.walrus_walks.specs.walrus_instr.declared.seq.InstrSeq.{InstrSeq}
use Rattle.walrus_walks.specs.Events.{names}
use Rattle.walrus_walks.specs.Tree.{children}
use Rattle.walrus_tree.specs.Text.{Piece, Operator, after}
use Rattle.walrus_tree.specs.Trees.{IsWithin}
use Rattle.walrus_meaning.specs.Bodies.{block_of, own_seen}
use Rattle.walrus_meaning.specs.Told.{told_all}

-- two lists have the same elements
abbrev pub HaveSame : {A : Type 0} → List A → List A → Type 0
HaveSame {A} xs ys = (y : A) → Contains xs y ↔ Contains ys y

-- the block types of the parts behind the first of an instruction: those of `else`, `catch` and `catch_all`, which no operator has
abbrev pub part_types : List InstrSeq → Piece → List BlockType
part_types b (Operator around instr) = map (λ k. block_of (slice_get b k)) (drop 1 (children instr))
part_types b _ = []

-- names but labels, which name no items
abbrev pub of_items : Space → ℕ → List Name
of_items Labels n = []
of_items space n = (space, n) ∷ []

abbrev pub unlabelled : List Name → List Name
unlabelled names = flat_map (λ (n : Name). of_items n.0 n.1) names

-- what a piece of the text names, and the block types of those parts
abbrev pub piece_names : List InstrSeq → Piece → List Name
piece_names b p = operator_names (own_seen b p) ++ flat_map block_names (part_types b p)

-- what the block type of a sequence names
abbrev pub seq_names : List InstrSeq → ℕ → List Name
seq_names b k = block_names (block_of (slice_get b k))

-- the operator of an instruction, and those behind the sequences that it holds, with those parts, name what a visitor of it is told
-- that it names, and what the block types of these sequences do
abbrev pub InstrsNameWhatIsTold : Type 0
InstrsNameWhatIsTold = (b : List InstrSeq) (around : List ℕ) (i : Instr) → IsWithin around i
    → HaveSame (unlabelled (flat_map (piece_names b) (Operator around i ∷ after i))) (unlabelled (flat_map (seq_names b) (children i) ++ told_all (names i)))
