-- Lemmas: operators that are read by their classes.
use Rattle.std.specs.Prelude.{ℕ, ◌<◌, ◌≡◌, ◌||◌, ◌&&◌, not, Bool, true, false, List, [], ◌∷◌, Option, Some, None, refl, slice_get}
use Rattle.std.proofs.Common.{ap, sym, ◌∙◌}
use Rattle.wasm_features.specs.declared.WasmFeatures.{WasmFeatures}
use Rattle.wasm_reader.specs.Cursor.{Cursor, rest}
use Rattle.walrus_body_operands.specs.walrus_body_rules.wasm_body_grammar.wasm_operators.Table.{find_code, structure_rows, call_rows, plain_rows, fb_rows, fc_rows, fd_rows, fe_rows}
use Rattle.walrus_body_operands.specs.walrus_body_rules.wasm_body_grammar.wasm_operators.Operators.{is_on}
use Rattle.walrus_body_operands.specs.walrus_body_rules.wasm_body_grammar.wasm_operators.declared.entry.Entry.{Entry}
use Rattle.walrus_body_operands.specs.walrus_body_rules.wasm_body_grammar.wasm_operators.declared.entry.Gate.{Gate}
use Rattle.walrus_body_operands.specs.walrus_body_rules.wasm_body_grammar.wasm_operators.declared.entry.Gate.TheVariants as gates
use Rattle.walrus_body_operands.specs.walrus_body_rules.wasm_body_grammar.wasm_operators.declared.entry.Kind.TheVariants as kinds
use Rattle.walrus_body_operands.specs.walrus_body_rules.wasm_body_grammar.wasm_operators.declared.entry.Flow.{Flow}
use Rattle.walrus_operators.specs.Operators.{IsNext}
use Rattle.walrus_pairing.proofs.Rows.{TablePasses, table_holds}
use Rattle.walrus_body_operands.specs.Listed.{begins_block, keeps_on, opens_plain}
use Rattle.walrus_body_locals.specs.Classes.{IsNextIn, always, class_entry}
use Rattle.walrus_body_locals.specs.declared.class.Class.{Class}
use Rattle.walrus_body_locals.specs.declared.class.Class.TheVariants as classes

-- ---- what is asked of a function that reads one of a class

pub known_so : (c : Cursor) (k class : Class) (e : Entry) → IsNextIn c k → k ≡ class → class_entry class ≡ Some e → keeps_on (Some e.flow) ≡ true
    → (d : Entry) × IsNext c d × (d.kind ≡ e.kind) × (keeps_on (Some d.flow) ≡ true)
known_so c k class e next is has on = (e, next e (ap class_entry is ∙ has), refl, on)

pub does_so : (c : Cursor) (k class : Class) (e : Entry) → IsNextIn c k → k ≡ class → class_entry class ≡ Some e → (d : Entry) × IsNext c d × (d.kind ≡ e.kind) × (d.flow ≡ e.flow)
does_so c k class e next is has = (e, next e (ap class_entry is ∙ has), refl, refl)

-- ---- what has a block type and is always on opens a block, a loop or an `if`

abbrev is_always : Gate → Bool
is_always gates.Always = true
is_always _ = false

abbrev row_test : ℕ → Entry → ℕ → Bool
row_test prefix e number = not (begins_block e.kind && is_always e.gate) || opens_plain e.flow

rows_pass : TablePasses row_test
unfolding structure_rows call_rows plain_rows fb_rows fc_rows fd_rows fe_rows
rows_pass = record { structure = refl; call = refl; plain = refl; fb = refl; fc = refl; fd = refl; fe = refl }

pub opens_so : (c : Cursor) (k : Class) (flow : Flow) → IsNextIn c k → k ≡ classes.Opens flow → opens_plain flow ≡ true
opens_so c k flow next is =
    let e : Entry = always kinds.Block flow in
    let n = next e (ap class_entry is) in
    table_holds row_test rows_pass 0 n.byte e n.listed
