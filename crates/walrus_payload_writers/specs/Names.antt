-- Names that are written, in words of the format.
use Rattle.std.specs.Prelude.{ℕ, List, ◌++◌, map}
use Rattle.wasm_reader.specs.Shortest.{u32_bytes}
use Rattle.wasm_name_payloads.specs.Written.{NameMap, map_bytes}
use Rattle.walrus_payload_writers.specs.declared.entries.NameEntry.{NameEntry}
use Rattle.walrus_payload_writers.specs.declared.entries.FunctionNames.{FunctionNames}

abbrev pub entry_of : NameEntry → ℕ × List ℕ
entry_of e = (e.number, e.name.now)

abbrev pub entries_of : List NameEntry → NameMap
entries_of entries = map entry_of entries

abbrev pub function_of : FunctionNames → ℕ × NameMap
function_of f = (f.function, entries_of f.locals.items)

abbrev pub functions_of : List FunctionNames → List (ℕ × NameMap)
functions_of functions = map function_of functions

-- an entry of the names of locals
abbrev pub function_bytes : ℕ × NameMap → List ℕ
function_bytes e = u32_bytes e.0 ++ map_bytes e.1
