-- Exports as they are read, before it is known whether their names are new, in words of the grammar.
use Rattle.std.specs.Prelude.{ℕ, ◌-◌, ◌≤◌, ◌≡◌, List, length, Option, Some, None, IfOk, IfErr, IfSome, Result, Ok, Err, if◌then◌else◌, nat_lt}
use Rattle.std.specs.Borrow.{Bor}
use Rattle.std.specs.List.{list_any}
use Rattle.wasm_formats.specs.declared.fault.Limited.TheVariants as limits
use Rattle.wasm_reader.specs.Cursor.{Cursor, rest, end_of, Forward}
use Rattle.wasm_formats.specs.Stops.{DuplicateExport, stop, Parsing}
use Rattle.walrus_known_sections.specs.wasm_sections.wasm_grammar.States.{State, count_of}
use Rattle.walrus_known_sections.specs.wasm_sections.Exports.{ExportEntry, has_name, kind_space, export_entry}
use Rattle.walrus_section_values.specs.walrus_section_reader.declared.fault.Fault.{Fault}
use Rattle.walrus_section_values.specs.walrus_section_reader.declared.fault.FaultKind.TheVariants as faults
use Rattle.walrus_section_values.specs.walrus_section_reader.Faults.{fault_of}
use Rattle.walrus_section_values.specs.walrus_section_reader.Parses.{stop_of}
use Rattle.walrus_export_reader.specs.declared.candidates.Candidate.{Candidate}

abbrev pub front_of : Bor (List ℕ) × ℕ → List ℕ × ℕ
front_of p = (p.0.now, p.1)

abbrev pub entry_of : Candidate → ExportEntry
entry_of c = ((c.name.now, c.kind), c.index)

-- there is room, or a limit at the first byte; and the item is there, or an index at that of the index
abbrev pub fault_at : State → ℕ → ℕ → ℕ → ℕ → Option Fault
fault_at s kind index offset index_offset =
    if nat_lt (length s.filled.exports) 1000000 then (if nat_lt index (count_of s.filled (kind_space kind)) then None else Some (fault_of (faults.Index (kind_space kind)) index_offset))
    else Some (fault_of (faults.Limit limits.Exports) offset)

abbrev pub IsTested : State → ℕ → ℕ → ℕ → ℕ → Option Fault → Type 0
IsTested s kind index offset index_offset result = result ≡ fault_at s kind index offset index_offset

-- what is answered where the name is new
abbrev pub judged : Cursor → ExportEntry → Option Fault → Parsing ExportEntry
judged new x None = Ok (x, rest new)
judged new x (Some e) = Err (stop_of new e)

-- what the grammar's entry is parsed as: a name that isn't new comes first
abbrev pub parsed_as : State → Cursor → Cursor → Result Candidate Fault → Parsing ExportEntry
parsed_as s old new (Err e) = Err (stop_of new e)
parsed_as s old new (Ok c) = if list_any (has_name c.name.now) s.filled.exports then Err (stop DuplicateExport (length (rest old))) else judged new (entry_of c) c.fault

pub record ReadsCandidate (s : State) (old new : Cursor) (result : Result Candidate Fault) : Type 0 where
  pub value : (export_entry s).parse (rest old) ≡ parsed_as s old new result
  pub offset : IfOk result (λ c. end_of old - c.offset ≡ length (rest old))
  pub inside : IfOk result (λ c. c.offset ≤ end_of old)
  pub place : IfErr result (λ e. e.offset ≤ end_of new)
  pub fault : IfOk result (λ c. IfSome c.fault (λ e. e.offset ≤ end_of new))
  pub moves : Forward old new
