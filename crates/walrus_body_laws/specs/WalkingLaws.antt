-- What bodies that were read name.
use Rattle.std.specs.Prelude.{◌≡◌, ℕ, List, map, Option, Some, None, IfSome, slice_get}
use Rattle.std.specs.List.{AllByRecursion}
use Rattle.walrus_pairing.specs.wasm_operators.declared.block_type.BlockType.{BlockType}
use Rattle.walrus_handler_laws.specs.walrus_body_steps.wasm_body_grammar.Rules.{Around}
use Rattle.walrus_handler_laws.specs.walrus_body_steps.wasm_body_grammar.Bodies.{Parts}
use Rattle.walrus_handler_laws.specs.walrus_body_steps.wasm_normal_form.Trees.{tree_of}
use Rattle.walrus_handler_laws.specs.walrus_body_steps.wasm_normal_form.Normal.{normal}
use Rattle.walrus_marks.specs.walrus_instr.declared.instr.Instr.{Instr}
use Rattle.walrus_marks.specs.walrus_instr.declared.instr.Instr.TheVariants as instrs
use Rattle.walrus_marks.specs.walrus_instr.declared.seq.InstrLocId.{InstrLocId}
use Rattle.walrus_marks.specs.walrus_instr.declared.seq.InstrSeq.{InstrSeq}
use Rattle.walrus_marks.specs.walrus_instr.declared.seq.InstrSeqType.{InstrSeqType}
use Rattle.walrus_walks.specs.Walk.{body_walk}
use Rattle.walrus_handler_laws.specs.walrus_tree.walrus_builder.Built.{Seq, seq_of}
use Rattle.walrus_handler_laws.specs.walrus_tree.Trees.{Has, IsTree}
use Rattle.walrus_marks.specs.Named.{items_of}
use Rattle.walrus_handler_laws.specs.walrus_body_steps.walrus_body_nesting.Opens.{type_at}
use Rattle.walrus_handler_laws.specs.walrus_body_steps.walrus_body_nesting.Stands.{StandsAs}
use Rattle.walrus_handler_laws.specs.walrus_body_steps.walrus_body_rules.Sights.{Sight}
use Rattle.walrus_handler_laws.specs.walrus_body_steps.Meanings.{meaning}
use Rattle.walrus_body_trees.specs.Laws.{IsBody, ops_of}
use Rattle.walrus_handler_laws.specs.Handlers.{told_by, tree_ids}
use Rattle.walrus_body_laws.specs.Answers.{AllAre, IsAnswer, block_items, without_handlers}

-- the sequences stand as the normal form of a body that meets the grammar, whatever is picked for its block types
pub record IsRead (s : Sight) (b : List InstrSeq) : Type 0 where
  pub around : Around
  pub params : ℕ
  pub place : ℕ
  pub bytes : List ℕ
  pub parts : Parts
  pub is_body : IsBody around params place bytes parts
  pub pick : BlockType → BlockType
  pub stands : StandsAs (meaning s) (map seq_of b) (normal pick (tree_of (ops_of parts)))

-- each item that the walk of such a body names is one that its sight answers with
abbrev pub WalksNameAnswers : Type 0
WalksNameAnswers = (s : Sight) (b : List InstrSeq) → IsRead s b → AllAre (IsAnswer s) (items_of (body_walk b 0))

-- the type of the first sequence of a legacy `try`
abbrev pub try_type : List Seq → Instr → Option InstrSeqType
try_type b (instrs.Try first catches) = type_at b first
try_type b _ = None

-- it is so of each legacy `try` that stands among these instructions
abbrev pub TriesAre : List Seq → (InstrSeqType → Type 0) → List (Instr × InstrLocId) → Type 0
TriesAre b Good is = AllByRecursion (λ i. IfSome (try_type b i.0) Good) is

-- in each sequence of the tree, what the types of legacy `try`s name are such items, handlers' types aside
abbrev pub TriesHaveAnswers : Type 0
TriesHaveAnswers = (s : Sight) (b : List InstrSeq) → IsRead s b → (t : IsTree b 0) (k : ℕ) (x : InstrSeq) → Has (tree_ids t) k → slice_get b k ≡ Some x
    → TriesAre (map seq_of b) (λ ty. AllAre (IsAnswer (without_handlers s)) (block_items ty)) x.instrs.items

-- so it is of the block of each handler that the tree tells
abbrev pub HandlersHaveAnswers : Type 0
HandlersHaveAnswers = (s : Sight) (b : List InstrSeq) → IsRead s b → (t : IsTree b 0) (tags : ℕ → Option ℕ) (j : ℕ)
    → IfSome (told_by tags b (tree_ids t) j) (λ h. AllAre (IsAnswer (without_handlers s)) (block_items h.block))
