-- What is asked of an operator, by its items (Core Specification, valid instructions).
use Rattle.std.specs.Prelude.{ℕ, ◌^◌, ◌&&◌, ◌||◌, nat_lt, Bool, false, not, List, [], ◌∷◌, Option, Some, None}
use Rattle.std.specs.List.{list_any}
use Rattle.std.specs.Option.{is_some}
use Rattle.wasm_body_grammar.specs.wasm_operators.declared.block_type.BlockType.{BlockType}
use Rattle.wasm_body_grammar.specs.wasm_operators.declared.block_type.BlockType.TheVariants as blocks
use Rattle.wasm_body_grammar.specs.wasm_operators.Items.{Types, Memories, Item, Block, Access}
use Rattle.wasm_body_grammar.specs.wasm_operators.Operators.{Seen, flow_of}
use Rattle.wasm_body_grammar.specs.wasm_operators.Names.{Name, operator_names}
use Rattle.wasm_body_grammar.specs.wasm_formats.Stops.{Trouble, TypeForm, Position, Bounds}
use Rattle.wasm_body_grammar.specs.wasm_grammar.Values.{must}
use Rattle.wasm_body_grammar.specs.Frames.{Frame, turned, label_count}
use Rattle.wasm_body_grammar.specs.Rules.{names_test, is_segment, select_rule, words_rule, first_in, turned_test, first_trouble}
use Rattle.walrus_body_rules.specs.Sights.{Sight, look, room, function_block}

-- a written block type is a function's, and has a pick
abbrev pub type_test : Sight → Option ℕ → Option Trouble
type_test s None = None
type_test s (Some id) = must (is_some (function_block s (Some id))) TypeForm

abbrev pub block_test : Sight → BlockType → Option Trouble
block_test s (blocks.Type n) = type_test s (look s Types n)
block_test s _ = None

abbrev pub form_rule : Sight → Item → Option Trouble
form_rule s (Block ty) = block_test s ty
form_rule s _ = None

-- an operator that names a data segment wants a data count section
abbrev pub data_test : Sight → List Name → Option Trouble
data_test s names = must (s.has_data_count || not (list_any (λ n. is_segment n.0) names)) Position

-- an alignment below 2^32, an offset within the memory's addresses
abbrev pub has_wide : Sight → Option ℕ → Bool
has_wide s None = false
has_wide s (Some id) = s.is_wide id

abbrev pub access_rule : Sight → Item → Option Trouble
access_rule s (Access a) = must (nat_lt a.align 32 && (has_wide s (look s Memories a.memory) || nat_lt a.offset (2 ^ 32))) Bounds
access_rule s _ = None

-- of an operator where so many labels are known, frames aside: by rising number of the fault, and then in the order of the bytes
abbrev pub late_tests : Sight → Seen → List (Option Trouble)
late_tests s op = data_test s (operator_names op) ∷ first_in select_rule op.items ∷ first_in words_rule op.items ∷ first_in (access_rule s) op.items ∷ []

abbrev pub items_test : Sight → ℕ → Seen → Option Trouble
items_test s labels op = first_trouble (names_test (room s labels) (operator_names op) ∷ first_in (form_rule s) op.items ∷ late_tests s op)

-- of an operator inside these frames
abbrev pub operator_test : Sight → List Frame → Seen → Option Trouble
operator_test s frames op =
    first_trouble (names_test (room s (label_count (flow_of op.code) frames)) (operator_names op) ∷ first_in (form_rule s) op.items ∷ turned_test (turned (flow_of op.code) frames) ∷ late_tests s op)
