-- What is due for the count of data segments is the data count section of the renamed ones, where a segment is passive or a body names one.
use Rattle.std.specs.Prelude.{◌||◌, Bool, List, length, Option}
use Rattle.std.specs.List.{list_any}
use Rattle.wasm_features.specs.declared.WasmFeatures.{WasmFeatures}
use Rattle.wasm_operators.specs.Names.{Renaming}
use Rattle.wasm_grammar.specs.Modules.{Segment}
use Rattle.wasm_canonical.specs.Due.{count_if, is_passive, items_in}
use Rattle.wasm_part.specs.Part.{renumbered_segment}
use Rattle.walrus_emit_due.specs.DataCount.{data_count}
use Rattle.walrus_due_laws.specs.Spelled.{SpelledAs, in_slots, spelled}

-- the two parts of `counts_data`: the segments, and whether a body names one
abbrev pub is_counted : List Segment → Bool → Bool
is_counted segments named = list_any (λ (x : Segment). is_passive x.mode) segments || named

abbrev pub DataCountIsSpelled : Type 0
DataCountIsSpelled = (features : WasmFeatures) (r : Renaming) (named : Bool) (slots : List (Option Segment))
    → (let news = items_in (in_slots (renumbered_segment r) slots) in SpelledAs (data_count named slots) (spelled features (count_if (is_counted news named) (length news))))
