-- The shortest spellings of constant expressions.
use Rattle.std.specs.Prelude.{Bool, List, refl}
use Rattle.std.specs.List.{flat_map}
use Rattle.wasm_features.specs.declared.WasmFeatures.{WasmFeatures}
use Rattle.wasm_operators.specs.Items.{Item}
use Rattle.wasm_operators.specs.Readings.{items_at}
use Rattle.wasm_operators.specs.ItemSpellings.{SpellsForms}
use Rattle.wasm_operators.specs.ItemsTaken.{forms_taken}
use Rattle.wasm_operators.specs.ItemFinals.{items_final}
use Rattle.wasm_operators.specs.declared.op_code.OpCode.{OpCode}
use Rattle.wasm_operators.specs.Operators.{kind_of, code_at, Seen}
use Rattle.wasm_operators.specs.Spellings.{SpellsCode}
use Rattle.wasm_operators.specs.Taken.{code_taken}
use Rattle.wasm_operators.specs.Finals.{code_final}
use Rattle.wasm_formats.specs.Stops.{ConstExpr}
use Rattle.wasm_operators.specs.Bytes.{code_bytes, item_bytes}
use Rattle.wasm_operators.specs.Written.{code_short, forms_short}
use Rattle.wasm_format_bytes.specs.Writers.{Writer, leaf_writer, checked_writer, only_writer, after_writer, built_writer}
use Rattle.wasm_format_bytes.specs.Lists.{until_writer}
use Rattle.wasm_grammar.specs.Values.{must}
use Rattle.wasm_grammar.specs.Exprs.{is_constant, code, forms_of, items, seen_of, seen_once, constant, Known, items_test, operator, end_apart, takes_some, read_wants, some_operators, expr, offset_test, offset}

abbrev pub code_writer : Writer code
code_writer = leaf_writer code_at SpellsCode code_taken code_final code_bytes code_short

abbrev pub items_writer : (features : WasmFeatures) (c : OpCode) → Writer (items features c)
items_writer features c =
    leaf_writer (items_at features (forms_of (kind_of features c))) (SpellsForms features (forms_of (kind_of features c)))
    (forms_taken features (forms_of (kind_of features c))) (items_final features (forms_of (kind_of features c))) (flat_map item_bytes)
    (forms_short features (forms_of (kind_of features c)))

abbrev pub parts_of : Seen → OpCode × List Item
parts_of op = (op.code, op.items)

abbrev pub constant_writer : (features : WasmFeatures) → Writer (constant features)
constant_writer features =
    built_writer (after_writer (only_writer code_writer (λ c. must (is_constant c) ConstExpr)) (λ c. items_writer features c)) seen_of seen_once parts_of (λ p. refl)

abbrev pub constant_operator_writer : (features : WasmFeatures) (k : Known) → Writer (operator features k)
constant_operator_writer features k = checked_writer (constant_writer features) (λ op. items_test k op.items)

abbrev pub expr_writer : (features : WasmFeatures) (k : Known) → Writer (expr features k)
expr_writer features k =
    checked_writer (until_writer 0x0b (constant_operator_writer features k) (end_apart features) (takes_some features) (read_wants features k)) (λ ops. must (some_operators ops) ConstExpr)

abbrev pub offset_writer : (features : WasmFeatures) (wide : Bool) (k : Known) → Writer (offset features wide k)
offset_writer features wide k = checked_writer (expr_writer features k) (offset_test wide k)
