-- Exports and the start function (Core Specification, binary format: export section, start section).
use Rattle.std.specs.Prelude.{ℕ, ◌==◌, nat_lt, Bool, false, List, [], ◌∷◌, ◌++◌, length, Option, Some, None, not, if◌then◌else◌}
use Rattle.std.specs.List.{list_any}
use Rattle.std.specs.Cmp.Lexicographic.{slice_cmp}
use Rattle.std.specs.Ordering.{nat_cmp}
use Rattle.std.specs.BTreeMap.{is_at}
use Rattle.wasm_grammar.specs.wasm_formats.declared.fault.Space.{Space}
use Rattle.wasm_grammar.specs.wasm_formats.declared.fault.Space.TheVariants as spaces
use Rattle.wasm_grammar.specs.wasm_formats.declared.fault.Limited.TheVariants as limits
use Rattle.wasm_grammar.specs.wasm_formats.Stops.{Trouble, Index, DuplicateExport, Limit}
use Rattle.wasm_grammar.specs.wasm_formats.Formats.{Format}
use Rattle.wasm_grammar.specs.wasm_formats.Joined.{after, pair_checked}
use Rattle.wasm_grammar.specs.wasm_formats.Wholes.{u32}
use Rattle.wasm_grammar.specs.Modules.{Export}
use Rattle.wasm_grammar.specs.Values.{must, first_of, name, byte_below, index}
use Rattle.wasm_grammar.specs.States.{State, count_of}

abbrev pub same_name : List ℕ → List ℕ → Bool
same_name name other = is_at (slice_cmp nat_cmp name) other

abbrev pub has_name : List ℕ → Option Export → Bool
has_name n None = false
has_name n (Some e) = same_name e.name n

-- the space of a kind: 00 to 04
abbrev pub kind_space : ℕ → Space
kind_space kind =
    if kind == 0 then spaces.Function
    else (if kind == 1 then spaces.Table
    else (if kind == 2 then spaces.Memory
    else (if kind == 3 then spaces.Global
    else spaces.Tag)))

-- a name, a kind, an index
abbrev pub ExportEntry : Type 0
ExportEntry = (List ℕ × ℕ) × ℕ

-- the name is new, and there is room for the export: both at the entry's first byte
abbrev pub name_test : State → List ℕ → Option Trouble
name_test s n = first_of (must (not (list_any (has_name n) s.filled.exports)) DuplicateExport) (must (nat_lt (length s.filled.exports) 1000000) (Limit limits.Exports))

-- what is exported is there
abbrev pub item_test : State → Space → ℕ → Option Trouble
item_test s space n = must (nat_lt n (count_of s.filled space)) (Index space)

abbrev pub export_entry : State → Format ExportEntry
export_entry s = pair_checked (after name (λ _. byte_below 5)) (λ _. u32) (λ e. name_test s e.0.0) (λ e. item_test s (kind_space e.0.1) e.1)

abbrev pub add_export : State → ExportEntry → State
add_export s e = record s {
  filled = record s.filled { exports = s.filled.exports ++ Some (record { name = e.0.0; item = record { space = kind_space e.0.1; number = e.1 } }) ∷ [] };
}

-- ---- the start function

abbrev pub start_function : State → Format ℕ
start_function s = index spaces.Function (length s.filled.functions)

abbrev pub set_start : State → ℕ → State
set_start s n = record s { filled = record s.filled { start = Some n } }
