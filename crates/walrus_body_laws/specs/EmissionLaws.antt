-- What is written for a body, and what the body means.
use Rattle.std.specs.Prelude.{◌≡◌, ℕ, List, map}
use Rattle.wasm_grammar.specs.Modules.{Placed as Meant}
use Rattle.wasm_normal_form.specs.Normal.{normal, normal_ops}
use Rattle.wasm_normal_form.specs.Roles.{Placed}
use Rattle.wasm_normal_form.specs.Trees.{tree_of}
use Rattle.wasm_operators.specs.declared.block_type.BlockType.{BlockType}
use Rattle.wasm_operators.specs.NameLaws.{after}
use Rattle.wasm_operators.specs.Names.{Renaming}
use Rattle.walrus_body_trees.specs.walrus_body_nesting.wasm_body_grammar.Bodies.{Parts}
use Rattle.walrus_body_trees.specs.walrus_body_nesting.wasm_body_grammar.Rules.{Around}
use Rattle.walrus_builder.specs.Built.{seq_of}
use Rattle.walrus_body_trees.specs.walrus_body_nesting.Opens.{same}
use Rattle.walrus_body_trees.specs.walrus_body_nesting.Stands.{StandsAs}
use Rattle.walrus_body_trees.specs.walrus_meaning.walrus_local_function.walrus_body_parser.walrus_body_rules.Sights.{Sight}
use Rattle.walrus_body_steps.specs.Meanings.{meaning}
use Rattle.walrus_body_trees.specs.Laws.{AreOwn, IsBody, IsNaming, meant, ops_of, renamed}
use Rattle.walrus_builder.specs.Functions.{seqs_of}
use Rattle.walrus_tree.specs.Text.{operators}
use Rattle.walrus_body_trees.specs.walrus_meaning.walrus_local_function.declared.local_function.LocalFunction.{LocalFunction}
use Rattle.walrus_body_trees.specs.walrus_pairing.Looks.{Look}
use Rattle.walrus_body_trees.specs.walrus_pairing.Sends.{Sends}
use Rattle.walrus_body_trees.specs.walrus_meaning.walrus_body_writer.Spelled.{AreWritten}
use Rattle.walrus_body_laws.specs.WritingLaws.{text_ops}
use Rattle.walrus_body_laws.specs.Renaming.{KeepsLabels}
use Rattle.walrus_body_trees.specs.walrus_meaning.Bodies.{own_operators, used_locals}
use Rattle.walrus_body_names.specs.Names.{HaveSame, local_in, text_names}
use Rattle.walrus_items.specs.declared.local.Local.{Local}
use Rattle.walrus_local_numbers.specs.Declared.{declared}

abbrev pub sent : Renaming → Meant → Placed
sent r o = renamed r (meant o)

-- the operators that are written for a body under a map are those that it means, renamed as the map renames
abbrev pub BodiesAreMeant : Type 0
BodiesAreMeant = (r : Renaming) (look : Look) → Sends r look → KeepsLabels r → (local : LocalFunction) → AreWritten look (seqs_of local.builder) (operators (seqs_of local.builder) 0)
    → text_ops look (seqs_of local.builder) (operators (seqs_of local.builder) 0) ≡ map (sent r) (own_operators local)

-- what is written for a body that was read is its normal form, each index renamed to the number that is written for the id that it named
abbrev pub ReadBodiesAreWritten : Type 0
ReadBodiesAreWritten = (a : Around) (params place : ℕ) (bytes : List ℕ) (parts : Parts) → IsBody a params place bytes parts
    → (s : Sight) (ids : Renaming) (pick : BlockType → BlockType) → IsNaming s ids → AreOwn s ids pick
    → (local : LocalFunction) → StandsAs (meaning s) (map seq_of (seqs_of local.builder)) (normal same (tree_of (ops_of parts)))
    → (r : Renaming) (look : Look) → Sends r look → KeepsLabels r → AreWritten look (seqs_of local.builder) (operators (seqs_of local.builder) 0)
    → text_ops look (seqs_of local.builder) (operators (seqs_of local.builder) 0) ≡ map (renamed (after r ids)) (normal_ops pick (ops_of parts))

-- the locals that are declared, where those that the body's text names are the used ones, are those that the body means
abbrev pub LocalsAreMeant : Type 0
LocalsAreMeant = (r : Renaming) (look : Look) → Sends r look → KeepsLabels r → (local : LocalFunction) → AreWritten look (seqs_of local.builder) (operators (seqs_of local.builder) 0)
    → (locals : List Local) (used : List ℕ) → HaveSame used (text_names local_in (operators (seqs_of local.builder) 0))
    → declared locals local.args.items used ≡ used_locals locals local
