-- The operator codes, in ranges: what gates them, what follows each, and what it does to a run (Core Specification, binary format:
-- instructions; the proposals on legacy exceptions, threads and wide arithmetic).
use Rattle.std.specs.Prelude.{ℕ, nat_le, nat_lt, ◌==◌, ◌&&◌, List, [], ◌∷◌, Option, Some, None, if◌then◌else◌}
use Rattle.wasm_operators.specs.declared.entry.Gate.{Gate}
use Rattle.wasm_operators.specs.declared.entry.Gate.TheVariants as gates
use Rattle.wasm_operators.specs.declared.entry.Kind.{Kind}
use Rattle.wasm_operators.specs.declared.entry.Kind.TheVariants as kinds
use Rattle.wasm_operators.specs.declared.entry.Flow.{Flow}
use Rattle.wasm_operators.specs.declared.entry.Flow.TheVariants as flows
use Rattle.wasm_operators.specs.declared.entry.Entry.{Entry}

-- the codes from `first` to `last` have this entry
pub record Row : Type 0 where
  pub first : ℕ
  pub last : ℕ
  pub entry : Entry

abbrev pub flowing : ℕ → ℕ → Gate → Kind → Flow → Row
flowing first last gate kind flow = record { first = first; last = last; entry = record { gate = gate; kind = kind; flow = flow } }

-- of operators that are always on, and after which a run goes on or traps
abbrev pub row : ℕ → ℕ → Kind → Row
row first last kind = flowing first last gates.Always kind flows.Goes

-- what the first row that holds a number says of it
abbrev pub find : List Row → ℕ → Option Entry
find [] n = None
find (r ∷ rows) n = if nat_le r.first n && nat_le n r.last then Some r.entry else find rows n

-- the bytes below 10: blocks and what leaves them
unfoldable pub structure_rows : List Row
structure_rows =
    flowing 0x00 0x00 gates.Always kinds.Bare flows.Traps
    ∷ flowing 0x01 0x01 gates.Always kinds.Bare flows.Passes
    ∷ flowing 0x02 0x02 gates.Always kinds.Block flows.OpensBlock
    ∷ flowing 0x03 0x03 gates.Always kinds.Block flows.OpensLoop
    ∷ flowing 0x04 0x04 gates.Always kinds.Block flows.OpensIf
    ∷ flowing 0x05 0x05 gates.Always kinds.Bare flows.Else
    ∷ flowing 0x06 0x06 gates.LegacyExceptions kinds.Block flows.OpensTry
    ∷ flowing 0x07 0x07 gates.LegacyExceptions kinds.Tag flows.Catch
    ∷ flowing 0x08 0x08 gates.Always kinds.Tag flows.Throws
    ∷ flowing 0x09 0x09 gates.LegacyExceptions kinds.Label flows.Throws
    ∷ flowing 0x0a 0x0a gates.Always kinds.Bare flows.ThrowsOrTraps
    ∷ flowing 0x0b 0x0b gates.Always kinds.Bare flows.End
    ∷ flowing 0x0c 0x0c gates.Always kinds.Label flows.Branches
    ∷ flowing 0x0d 0x0d gates.Always kinds.Label flows.Chooses
    ∷ flowing 0x0e 0x0e gates.Always kinds.BrTable flows.Selects
    ∷ flowing 0x0f 0x0f gates.Always kinds.Bare flows.Returns
    ∷ []

-- the bytes 10 to 27: calls, the rest of the blocks, and operators on locals, globals and tables
unfoldable pub call_rows : List Row
call_rows =
    flowing 0x10 0x10 gates.Always kinds.Function flows.Calls
    ∷ flowing 0x11 0x11 gates.Always kinds.TypeTable flows.CallsIndirectly
    ∷ flowing 0x12 0x12 gates.Always kinds.Function flows.TailCalls
    ∷ flowing 0x13 0x13 gates.Always kinds.TypeTable flows.TailCallsIndirectly
    ∷ flowing 0x14 0x14 gates.Always kinds.Type flows.CallsIndirectly
    ∷ flowing 0x15 0x15 gates.Always kinds.Type flows.TailCallsIndirectly
    ∷ flowing 0x18 0x18 gates.LegacyExceptions kinds.Label flows.Delegate
    ∷ flowing 0x19 0x19 gates.LegacyExceptions kinds.Bare flows.CatchAll
    ∷ row 0x1a 0x1b kinds.Bare
    ∷ row 0x1c 0x1c kinds.Select
    ∷ flowing 0x1f 0x1f gates.Always kinds.TryTable flows.OpensTryTable
    ∷ row 0x20 0x22 kinds.Local
    ∷ row 0x23 0x24 kinds.Global
    ∷ row 0x25 0x26 kinds.Table
    ∷ []

-- the bytes from 28 on: memory, constants, arithmetic and references
unfoldable pub plain_rows : List Row
plain_rows =
    row 0x28 0x3e kinds.Access
    ∷ row 0x3f 0x40 kinds.Memory
    ∷ row 0x41 0x41 kinds.I32
    ∷ row 0x42 0x42 kinds.I64
    ∷ row 0x43 0x43 kinds.F32
    ∷ row 0x44 0x44 kinds.F64
    ∷ row 0x45 0xc4 kinds.Bare
    ∷ row 0xd0 0xd0 kinds.Heap
    ∷ row 0xd1 0xd1 kinds.Bare
    ∷ row 0xd2 0xd2 kinds.Function
    ∷ row 0xd3 0xd4 kinds.Bare
    ∷ flowing 0xd5 0xd6 gates.Always kinds.Label flows.Chooses
    ∷ []

-- behind fb: garbage-collected objects
unfoldable pub fb_rows : List Row
fb_rows =
    row 0 1 kinds.Type
    ∷ row 2 5 kinds.TypeNumber
    ∷ row 6 7 kinds.Type
    ∷ row 8 8 kinds.TypeNumber
    ∷ row 9 9 kinds.TypeData
    ∷ row 10 10 kinds.TypeElement
    ∷ row 11 14 kinds.Type
    ∷ row 15 15 kinds.Bare
    ∷ row 16 16 kinds.Type
    ∷ row 17 17 kinds.TypeType
    ∷ row 18 18 kinds.TypeData
    ∷ row 19 19 kinds.TypeElement
    ∷ row 20 23 kinds.Heap
    ∷ flowing 24 25 gates.Always kinds.Cast flows.Chooses
    ∷ row 26 30 kinds.Bare
    ∷ []

-- behind fc: saturating conversions, bulk operators and wide arithmetic
unfoldable pub fc_rows : List Row
fc_rows =
    row 0 7 kinds.Bare
    ∷ row 8 8 kinds.DataMemory
    ∷ row 9 9 kinds.Data
    ∷ row 10 10 kinds.MemoryMemory
    ∷ row 11 11 kinds.Memory
    ∷ row 12 12 kinds.ElementTable
    ∷ row 13 13 kinds.Element
    ∷ row 14 14 kinds.TableTable
    ∷ row 15 17 kinds.Table
    ∷ flowing 19 22 gates.WideArithmetic kinds.Bare flows.Goes
    ∷ []

-- behind fd: vectors
unfoldable pub fd_rows : List Row
fd_rows =
    row 0 11 kinds.Access
    ∷ row 12 13 kinds.Vector
    ∷ row 14 20 kinds.Bare
    ∷ row 21 34 kinds.Lane
    ∷ row 35 83 kinds.Bare
    ∷ row 84 91 kinds.AccessLane
    ∷ row 92 93 kinds.Access
    ∷ row 94 153 kinds.Bare
    ∷ row 155 161 kinds.Bare
    ∷ row 163 164 kinds.Bare
    ∷ row 167 174 kinds.Bare
    ∷ row 177 177 kinds.Bare
    ∷ row 181 186 kinds.Bare
    ∷ row 188 193 kinds.Bare
    ∷ row 195 196 kinds.Bare
    ∷ row 199 206 kinds.Bare
    ∷ row 209 209 kinds.Bare
    ∷ row 213 225 kinds.Bare
    ∷ row 227 237 kinds.Bare
    ∷ row 239 275 kinds.Bare
    ∷ []

-- behind fe: atomic operators
unfoldable pub fe_rows : List Row
fe_rows =
    row 0 2 kinds.Access
    ∷ row 3 3 kinds.Zero
    ∷ row 16 78 kinds.Access
    ∷ []

-- of a byte
abbrev pub find_byte : ℕ → Option Entry
find_byte n =
    if nat_lt n 0x10 then find structure_rows n
    else (if nat_lt n 0x28 then find call_rows n
    else find plain_rows n)

-- of a number behind a prefix, where the prefix 0 stands for a byte alone
abbrev pub find_code : ℕ → ℕ → Option Entry
find_code prefix n =
    if prefix == 0 then find_byte n
    else (if prefix == 0xfb then find fb_rows n
    else (if prefix == 0xfc then find fc_rows n
    else (if prefix == 0xfd then find fd_rows n
    else (if prefix == 0xfe then find fe_rows n
    else None))))
