-- The code section as it is read, in words of the grammar.
use Rattle.std.specs.Prelude.{ℕ, ◌+◌, List, length, map, fold}
use Rattle.std.specs.Global.{Vec}
use Rattle.wasm_reader.specs.Cursor.{Cursor}
use Rattle.wasm_formats.specs.Stops.{Parsing}
use Rattle.wasm_formats.specs.Lists.{parse_entries}
use Rattle.walrus_known_sections.specs.wasm_sections.Sections.{ChunkEntry, CodeEntry, chunk_entry, behind_chunk}
use Rattle.walrus_known_sections.specs.declared.items.Chunk.{Chunk}
use Rattle.walrus_code_reader.specs.declared.code.Code.{Code}

-- the offset of the next byte
abbrev pub code_place : Cursor → ℕ
code_place c = c.window.start + c.position

abbrev pub chunk_entry_of : Chunk → ChunkEntry
chunk_entry_of c = ((c.place, length c.bytes.now), c.bytes.now)

abbrev pub place_behind : Chunk → ℕ
place_behind c = c.place + length c.bytes.now

abbrev pub chunks_of : Vec Chunk → List ChunkEntry
chunks_of v = map chunk_entry_of v.items

-- so many bodies from a place on, and the place behind them
abbrev pub chunks_at : ℕ → ℕ → List ℕ → Parsing (List ChunkEntry)
chunks_at count place bytes = parse_entries behind_chunk chunk_entry count place bytes

abbrev pub ends_behind : ℕ → List ChunkEntry → ℕ
ends_behind place chunks = fold behind_chunk place chunks

abbrev pub code_entry_of : Code → CodeEntry
code_entry_of c = ((c.first, c.count), chunks_of c.bodies)
