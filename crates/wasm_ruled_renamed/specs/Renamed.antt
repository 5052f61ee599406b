-- What holds of renamed operators that met the rules: they meet those of another file, where what they name has its image there.
use Rattle.std.specs.Prelude.{ℕ, ◌≡◌, ◌<◌, Bool, true, List, map, length, None, slice_index_or}
use Rattle.std.specs.List.{AllByRecursion}
use Rattle.wasm_ruled_normal.specs.wasm_ruled_modules.wasm_module_rules.wasm_modules.wasm_body_grammar.Frames.{Frame}
use Rattle.wasm_ruled_normal.specs.wasm_ruled_modules.wasm_module_rules.wasm_modules.wasm_body_grammar.Rules.{Around, block_test, has_wide, room}
use Rattle.wasm_ruled_normal.specs.wasm_ruled_modules.wasm_module_rules.wasm_modules.wasm_body_grammar.wasm_grammar.Exprs.{Known, global_is, offset_test}
use Rattle.wasm_ruled_normal.specs.wasm_ruled_modules.wasm_module_rules.wasm_modules.wasm_body_grammar.wasm_grammar.Modules as grammar
use Rattle.wasm_ruled_normal.specs.wasm_ruled_modules.wasm_module_rules.wasm_modules.wasm_body_grammar.wasm_grammar.States.{types_of}
use Rattle.wasm_ruled_normal.specs.wasm_ruled_modules.wasm_module_rules.wasm_modules.wasm_body_grammar.wasm_operators.Names.{Name, Renaming, operator_names, renamed_operator}
use Rattle.wasm_ruled_normal.specs.wasm_ruled_modules.wasm_module_rules.wasm_modules.wasm_body_grammar.wasm_operators.Items.{Space, Types, Functions, Memories, Globals, Labels}
use Rattle.wasm_ruled_normal.specs.wasm_ruled_modules.wasm_module_rules.wasm_modules.wasm_body_grammar.wasm_operators.declared.block_type.BlockType.TheVariants as blocks
use Rattle.wasm_ruled_normal.specs.wasm_ruled_modules.Rules.{AreOperators, IsExpr}

-- ---- operators of bodies

abbrev pub renamed_placed : Renaming → grammar.Placed → grammar.Placed
renamed_placed r o = record { place = o.place; op = renamed_operator r o.op }

-- the number is that of an item, or of one of so many locals; labels are counted
abbrev pub IsThere : Around → ℕ → Space → ℕ → Type 0
IsThere a locals Labels n = Unit {0}
IsThere a locals space n = n < room a locals 0 space

-- the images of all that an operator names are there
abbrev pub NamesThere : Renaming → Around → ℕ → grammar.Placed → Type 0
NamesThere r b locals o = AllByRecursion (λ (n : Name). IsThere b locals n.0 (r n.0 n.1)) (operator_names o.op)

-- a type that a block may have goes to such a one
abbrev pub TypesServe : (ℕ → ℕ) → Around → Around → Type 0
TypesServe r a b = (n : ℕ) → n < length (types_of a.filled) → block_test a (blocks.Type n) ≡ None → block_test b (blocks.Type (r n)) ≡ None

-- what a renaming keeps of the file around a body
pub record Keeps (r : Renaming) (a b : Around) : Type 0 where
  pub labels : (n : ℕ) → r Labels n ≡ n
  pub counted : a.counted ≡ true → b.counted ≡ true
  -- a memory whose addresses have 64 bits goes to such a one
  pub wide : (n : ℕ) → has_wide (slice_index_or a.filled.memories n None) ≡ true → has_wide (slice_index_or b.filled.memories (r Memories n) None) ≡ true
  pub typed : TypesServe (r Types) a b

-- then operators that meet the rules in one file meet them, renamed, in the other, if what they name has its image there
abbrev pub RenamedOperatorsAreRuled : Type 0
RenamedOperatorsAreRuled = (r : Renaming) (a b : Around) (old new : ℕ) (frames : List Frame) (ops : List grammar.Placed) → Keeps r a b → AllByRecursion (NamesThere r b new) ops
    → AreOperators a old frames ops → AreOperators b new frames (map (renamed_placed r) ops)

-- ---- constant expressions

-- types, functions and globals that are known go to such
pub record Knows (r : Renaming) (k l : Known) : Type 0 where
  pub types : (n : ℕ) → n < k.types → r Types n < l.types
  pub functions : (n : ℕ) → n < k.functions → r Functions n < l.functions
  pub globals : (n : ℕ) → n < length k.globals → r Globals n < length l.globals

-- then an expression that is known to one is known, renamed, to the other
abbrev pub RenamedExprsAreKnown : Type 0
RenamedExprsAreKnown = (r : Renaming) (k l : Known) (ops : grammar.Expr) → Knows r k l → IsExpr k ops → IsExpr l (map (renamed_operator r) ops)

-- an offset has the type of addresses, renamed, where globals of that type go to such ones
abbrev pub RenamedOffsetsFit : Type 0
RenamedOffsetsFit = (r : Renaming) (wide : Bool) (k l : Known) (ops : grammar.Expr)
    → ((n : ℕ) → global_is wide (slice_index_or k.globals n None) ≡ true → global_is wide (slice_index_or l.globals (r Globals n) None) ≡ true)
    → offset_test wide k ops ≡ None → offset_test wide l (map (renamed_operator r) ops) ≡ None
