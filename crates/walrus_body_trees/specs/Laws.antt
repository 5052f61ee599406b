-- What a body that is read stands as.
use Rattle.std.specs.Prelude.{ℕ, ◌<◌, ◌≡◌, ◌==◌, List, map, All, Option, Some, None, if◌then◌else◌}
use Rattle.walrus_meaning.specs.walrus_local_function.walrus_body_locals.wasm_grammar.Modules as grammar
use Rattle.walrus_meaning.specs.walrus_local_function.walrus_body_locals.wasm_body_grammar.Rules.{Around}
use Rattle.walrus_meaning.specs.walrus_local_function.walrus_body_locals.wasm_body_grammar.Bodies.{Parts, body, body_of}
use Rattle.walrus_meaning.specs.walrus_local_function.walrus_body_locals.wasm_normal_form.Roles.{Placed, placed}
use Rattle.walrus_meaning.specs.walrus_local_function.walrus_body_locals.wasm_normal_form.Trees.{tree_of}
use Rattle.walrus_meaning.specs.walrus_local_function.walrus_body_locals.wasm_normal_form.Normal.{normal, normal_ops}
use Rattle.walrus_meaning.specs.walrus_local_function.walrus_body_locals.wasm_body_grammar.wasm_operators.Names.{Renaming, renamed_block, renamed_operator}
use Rattle.walrus_meaning.specs.walrus_body_writer.walrus_pairing.wasm_operators.declared.block_type.BlockType.{BlockType}
use Rattle.walrus_meaning.specs.walrus_body_writer.walrus_pairing.wasm_operators.Items.{Space, Labels}
use Rattle.walrus_meaning.specs.walrus_body_writer.walrus_body_env.walrus_instr.declared.seq.InstrSeqType.{InstrSeqType}
use Rattle.walrus_meaning.specs.walrus_body_writer.walrus_body_env.walrus_instr.declared.seq.InstrSeq.{InstrSeq}
use Rattle.walrus_meaning.specs.walrus_module.walrus_builder.Built.{seq_of}
use Rattle.walrus_tree.specs.Trees.{IsTree}
use Rattle.walrus_tree.specs.Text.{operators}
use Rattle.walrus_meaning.specs.walrus_local_function.walrus_body_locals.walrus_body_nesting.Stands.{StandsAs, total}
use Rattle.walrus_meaning.specs.walrus_local_function.walrus_body_locals.walrus_body_nesting.Opens.{same}
use Rattle.walrus_meaning.specs.walrus_local_function.walrus_body_parser.walrus_body_rules.Sights.{Sight, look, written_block}
use Rattle.walrus_meaning.specs.walrus_local_function.walrus_body_parser.walrus_body_steps.Meanings.{meaning}
use Rattle.walrus_meaning.specs.walrus_local_function.declared.local_function.LocalFunction.{LocalFunction}
use Rattle.walrus_meaning.specs.walrus_module.walrus_builder.Functions.{seqs_of}
use Rattle.walrus_meaning.specs.Words.{own_block}
use Rattle.walrus_meaning.specs.walrus_body_writer.walrus_body_text.Visiting.{text_size}
use Rattle.walrus_meaning.specs.Bodies.{own_operators}

-- the operators of a body, each with the place that it carries
abbrev pub ops_of : Parts → List Placed
ops_of parts = map (λ (o : grammar.Placed). placed o.op (Some o.place)) (body_of parts).operators

-- the bytes spell these parts of a body of a function of so many parameters, and they meet the rules
abbrev pub IsBody : Around → ℕ → ℕ → List ℕ → Parts → Type 0
IsBody a params place bytes parts = All (λ b. b < 256) bytes × (body a params place).spells bytes parts × (body a params place).rules parts

-- the sequences that stand for the normal form of a body form a tree, in which each label names a sequence around it
abbrev pub BodiesAreTrees : Type 0
BodiesAreTrees = (a : Around) (params place : ℕ) (bytes : List ℕ) (parts : Parts) → IsBody a params place bytes parts
    → (s : Sight) (b : List InstrSeq) → StandsAs (meaning s) (map seq_of b) (normal same (tree_of (ops_of parts))) → IsTree b 0

-- indices are renamed to the ids that they name; labels are counted, and stay
pub record IsNaming (s : Sight) (r : Renaming) : Type 0 where
  pub ids : (space : Space) (n id : ℕ) → look s space n ≡ Some id → r space n ≡ id
  pub labels : (n : ℕ) → r Labels n ≡ n

-- the type of a block is written as the pick for its type, renamed
abbrev pub AreOwn : Sight → Renaming → (BlockType → BlockType) → Type 0
AreOwn s r pick = (w : BlockType) (ty : InstrSeqType) → written_block s w ≡ Some ty → own_block ty ≡ renamed_block r (pick w)

-- an operator that a body means, with the place that it carries: the greatest number of 32 bits stands for none
abbrev pub place_at : ℕ → Option ℕ
place_at n = if n == 4294967295 then None else Some n

abbrev pub meant : grammar.Placed → Placed
meant o = placed o.op (place_at o.place)

abbrev pub renamed : Renaming → Placed → Placed
renamed r o = placed (renamed_operator r o.op) o.place

-- a body whose sequences stand for the normal form means that normal form, each index renamed to the id that it names
abbrev pub BodiesMeanTheirs : Type 0
BodiesMeanTheirs = (a : Around) (params place : ℕ) (bytes : List ℕ) (parts : Parts) → IsBody a params place bytes parts
    → (s : Sight) (r : Renaming) (pick : BlockType → BlockType) → IsNaming s r → AreOwn s r pick
    → (local : LocalFunction) → StandsAs (meaning s) (map seq_of (seqs_of local.builder)) (normal same (tree_of (ops_of parts)))
    → map meant (own_operators local) ≡ map (renamed r) (normal_ops pick (ops_of parts))

-- a body whose sequences stand for the normal form has as many operators, those that only mark where sequences end aside, as its sequences hold instructions
abbrev pub BodiesHoldTheirs : Type 0
BodiesHoldTheirs = (a : Around) (params place : ℕ) (bytes : List ℕ) (parts : Parts) → IsBody a params place bytes parts
    → (s : Sight) (pick : BlockType → BlockType) (b : List InstrSeq) → StandsAs (meaning s) (map seq_of b) (normal pick (tree_of (ops_of parts))) → text_size (operators b 0) ≡ total (map seq_of b)
