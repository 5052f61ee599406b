-- Segments as they are read, in words of the grammar.
use Rattle.std.specs.Prelude.{ℕ, ◌<◌, ◌≤◌, ◌≡◌, Bool, List, length, map, Option, Some, None, Result, Ok, Err, slice_index_or, refl}
use Rattle.std.specs.Global.{Vec}
use Rattle.std.proofs.Common.{subst, arith}
use Rattle.std.proofs.lemmas.List.{get_or-map, length-map}
use Rattle.std.proofs.Math.ListN.{get_or-eq_default}
use Rattle.wasm_reader.specs.Cursor.{Cursor}
use Rattle.walrus_entry_readers.specs.walrus_known_sections.wasm_sections.wasm_grammar.wasm_formats.Formats.{Format}
use Rattle.walrus_entry_readers.specs.walrus_known_sections.wasm_sections.wasm_grammar.wasm_formats.Joined.{after}
use Rattle.walrus_forms.specs.Records.{ref_of}
use Rattle.wasm_features.specs.declared.WasmFeatures.{WasmFeatures}
use Rattle.walrus_entry_readers.specs.walrus_known_sections.wasm_sections.wasm_grammar.Exprs.{Known, offset}
use Rattle.walrus_entry_readers.specs.walrus_known_sections.wasm_sections.wasm_grammar.Modules as modules
use Rattle.walrus_entry_readers.specs.walrus_known_sections.wasm_sections.Segments as grammar
use Rattle.walrus_entry_readers.specs.walrus_section_values.walrus_section_reader.declared.fault.Fault.{Fault}
use Rattle.walrus_entry_readers.specs.walrus_section_values.walrus_section_reader.Parses.{Parses}
use Rattle.walrus_entry_readers.specs.walrus_section_values.Globals.{expr_of}
use Rattle.walrus_entry_readers.specs.walrus_known_sections.Items.{table_of, memory_of}
use Rattle.walrus_entry_readers.specs.walrus_known_sections.Leads.{after_ok, after_err}
use Rattle.walrus_entry_readers.specs.walrus_known_sections.declared.items.Table.{Table}
use Rattle.walrus_entry_readers.specs.walrus_known_sections.declared.items.Memory.{Memory}
use Rattle.walrus_segment_readers.specs.Lists.{exprs_of, numbers_of}
use Rattle.walrus_segment_readers.specs.declared.segments.ElementForm.{ElementForm}
use Rattle.walrus_segment_readers.specs.declared.segments.ElementForm.TheVariants as forms
use Rattle.walrus_segment_readers.specs.declared.segments.DataForm.{DataForm}
use Rattle.walrus_segment_readers.specs.declared.segments.DataForm.TheVariants as datas

-- two values
abbrev pub both_of : {A B X Y : Type 0} → (X → A) → (Y → B) → X × Y → A × B
both_of v w p = (v p.0, w p.1)

abbrev pub joined : {X Y : Type 0} → X → Result Y Fault → Result (X × Y) Fault
joined x (Ok y) = Ok (x, y)
joined x (Err e) = Err e

abbrev pub kind_of_functions_of : Vec ℕ → Unit {0} × List ℕ
kind_of_functions_of v = (tt, numbers_of v)

abbrev pub element_form_of : ElementForm → grammar.ElementForm
element_form_of (forms.ActiveFunctions offset items) = grammar.ActiveFunctions (expr_of offset, numbers_of items)
element_form_of (forms.PassiveFunctions items) = grammar.PassiveFunctions (kind_of_functions_of items)
element_form_of (forms.FunctionsInto place items) = grammar.FunctionsInto ((place.0, expr_of place.1), kind_of_functions_of items)
element_form_of (forms.DeclaredFunctions items) = grammar.DeclaredFunctions (kind_of_functions_of items)
element_form_of (forms.ActiveExpressions offset items) = grammar.ActiveExpressions (expr_of offset, exprs_of items)
element_form_of (forms.PassiveExpressions ty items) = grammar.PassiveExpressions (ref_of ty, exprs_of items)
element_form_of (forms.ExpressionsInto place items) = grammar.ExpressionsInto ((place.0, expr_of place.1), (ref_of items.0, exprs_of items.1))
element_form_of (forms.DeclaredExpressions ty items) = grammar.DeclaredExpressions (ref_of ty, exprs_of items)

abbrev pub data_form_of : DataForm → grammar.DataForm
data_form_of (datas.Active offset bytes) = grammar.ActiveData (expr_of offset, bytes.now)
data_form_of (datas.Passive bytes) = grammar.PassiveData bytes.now
data_form_of (datas.Into place bytes) = grammar.DataInto ((place.0, expr_of place.1), bytes.now)

-- ---- lemmas

pub offset_wide : {X : Type 0} (features : WasmFeatures) (a b : Bool) (k : Known) (view : X → modules.Expr) (old new : Cursor) (result : Result X Fault) → a ≡ b
    → Parses (offset features a k).parse view old new result → Parses (offset features b k).parse view old new result
offset_wide features a b k view old new result same p = subst (λ (w : Bool). Parses (offset features w k).parse view old new result) same p

pub after_joined : {A B Y Z : Type 0} (f : Format A) (g : A → Format B) (v : Y → A) (w : Z → B) (old mid new : Cursor) (y : Y) (r : Result Z Fault) (result : Result (Y × Z) Fault) → result ≡ joined y r
    → Parses f.parse v old mid (Ok y) → Parses (g (v y)).parse w mid new r → Parses (after f g).parse (both_of v w) old new result
after_joined f g v w old mid new y (Ok z) result is p q = rw is (after_ok f g v w (both_of v w) old mid new y z (y, z) refl p q)
after_joined f g v w old mid new y (Err e) result is p q = rw is (after_err f g v w (both_of v w) old mid new y e p q)

abbrev table_slot : Table → Option modules.Table
table_slot t = Some (table_of t)

abbrev memory_slot : Memory → Option modules.Memory
memory_slot m = Some (memory_of m)

pub table_there : (ts : List Table) (n : ℕ) (d : Table) → n < length ts → slice_index_or (map (λ (t : Table). Some (table_of t)) ts) n None ≡ Some (table_of (slice_index_or ts n d))
table_there ts n d lt = get_or-map table_slot ts n d None lt

pub table_missing : (ts : List Table) (n : ℕ) → length ts ≤ n → slice_index_or (map (λ (t : Table). Some (table_of t)) ts) n None ≡ None
table_missing ts n le = get_or-eq_default (map table_slot ts) None (omega (arith, le, length-map ts table_slot))

pub memory_there : (ms : List Memory) (n : ℕ) (d : Memory) → n < length ms → slice_index_or (map (λ (m : Memory). Some (memory_of m)) ms) n None ≡ Some (memory_of (slice_index_or ms n d))
memory_there ms n d lt = get_or-map memory_slot ms n d None lt

pub memory_missing : (ms : List Memory) (n : ℕ) → length ms ≤ n → slice_index_or (map (λ (m : Memory). Some (memory_of m)) ms) n None ≡ None
memory_missing ms n le = get_or-eq_default (map memory_slot ms) None (omega (arith, le, length-map ms memory_slot))
