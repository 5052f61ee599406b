-- What is written for a tree nests.
use Rattle.std.specs.Prelude.{ℕ, List}
use Rattle.walrus_instr.specs.declared.seq.InstrSeq.{InstrSeq}
use Rattle.walrus_tree.specs.Trees.{IsTree}
use Rattle.walrus_tree.specs.Text.{operators}
use Rattle.wasm_normal_form.specs.Trees.{Tree, NestAs}
use Rattle.walrus_pairing.specs.Looks.{Look}
use Rattle.walrus_body_names.specs.walrus_body_writer.Spelled.{AreWritten}
use Rattle.walrus_body_laws.specs.WritingLaws.{text_ops}

-- the operators that are written for sequences that form a tree nest as one
abbrev pub TreesNest : Type 0
TreesNest = (look : Look) (b : List InstrSeq) (entry : ℕ) → IsTree b entry → AreWritten look b (operators b entry) → (t : Tree) × NestAs (text_ops look b (operators b entry)) t
