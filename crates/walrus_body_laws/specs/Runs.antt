-- What a body that was read does when it runs, and what is written for it.
use Rattle.std.specs.Prelude.{ℕ, List, map}
use Rattle.std.specs.List.{AllByRecursion}
use Rattle.wasm_normal_form.specs.Normal.{normal}
use Rattle.wasm_normal_form.specs.Trees.{tree_of}
use Rattle.wasm_operators.specs.declared.block_type.BlockType.{BlockType}
use Rattle.wasm_operators.specs.NameLaws.{after}
use Rattle.wasm_operators.specs.Names.{Renaming}
use Rattle.walrus_body_trees.specs.walrus_body_nesting.wasm_body_grammar.Bodies.{Parts}
use Rattle.walrus_body_trees.specs.walrus_body_nesting.wasm_body_grammar.Rules.{Around}
use Rattle.wasm_runs.specs.Programs.{Signature, operators as codes}
use Rattle.wasm_run_laws.specs.Laws.{RunsRenamed}
use Rattle.wasm_run_laws.specs.Stands.{normal_code, PicksKeep, AreTypedSo}
use Rattle.walrus_builder.specs.Built.{seq_of}
use Rattle.walrus_body_trees.specs.walrus_body_nesting.Opens.{same}
use Rattle.walrus_body_trees.specs.walrus_body_nesting.Stands.{StandsAs}
use Rattle.walrus_body_trees.specs.walrus_meaning.walrus_local_function.walrus_body_parser.walrus_body_rules.Sights.{Sight}
use Rattle.walrus_body_steps.specs.Meanings.{meaning}
use Rattle.walrus_body_trees.specs.Laws.{AreOwn, IsBody, IsNaming, ops_of}
use Rattle.walrus_builder.specs.Functions.{seqs_of}
use Rattle.walrus_tree.specs.Text.{operators}
use Rattle.walrus_body_trees.specs.walrus_meaning.walrus_local_function.declared.local_function.LocalFunction.{LocalFunction}
use Rattle.walrus_body_trees.specs.walrus_pairing.Looks.{Look}
use Rattle.walrus_body_trees.specs.walrus_pairing.Sends.{Sends}
use Rattle.walrus_body_trees.specs.walrus_meaning.walrus_body_writer.Spelled.{AreWritten}
use Rattle.walrus_body_laws.specs.WritingLaws.{text_ops}
use Rattle.walrus_body_laws.specs.Renaming.{KeepsLabels}

-- what a body that was read executes, for all outcomes and bounds, what is written for it executes, each index renamed to the number that is written for the id that it
-- named, and it ends the same: where picks have the parameters and results of what they are picked for, and so have the types that are written
abbrev pub WrittenBodiesRunRenamed : Type 0
WrittenBodiesRunRenamed = (a : Around) (params place : ℕ) (bytes : List ℕ) (parts : Parts) → IsBody a params place bytes parts
    → (s : Sight) (ids : Renaming) (pick : BlockType → BlockType) → IsNaming s ids → AreOwn s ids pick
    → (local : LocalFunction) → StandsAs (meaning s) (map seq_of (seqs_of local.builder)) (normal same (tree_of (ops_of parts)))
    → (r : Renaming) (look : Look) → Sends r look → KeepsLabels r → AreWritten look (seqs_of local.builder) (operators (seqs_of local.builder) 0)
    → (here there : BlockType → Signature) → PicksKeep (after r ids) pick here → AllByRecursion (AreTypedSo (after r ids) here there) (normal_code pick (codes (ops_of parts)))
    → RunsRenamed (after r ids) here there (codes (ops_of parts)) (codes (text_ops look (seqs_of local.builder) (operators (seqs_of local.builder) 0)))
