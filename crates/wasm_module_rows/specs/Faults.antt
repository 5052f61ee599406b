-- Files with one fault each, of the faults that the grammar of sections knows.
use Rattle.std.specs.Prelude.{ℕ, List, [], ◌∷◌, ◌++◌}
use Rattle.std.specs.List.{repeat}
use Rattle.wasm_reader.specs.declared.error.ErrorKind.TheVariants as kinds
use Rattle.wasm_formats.specs.declared.fault.Space.TheVariants as spaces
use Rattle.wasm_formats.specs.declared.fault.Form.TheVariants as unsupported
use Rattle.wasm_formats.specs.declared.fault.Limited.TheVariants as limits
use Rattle.wasm_formats.specs.Stops.{Read, SectionOrder, SectionSize, Count, Index, TypeForm, ConstExpr, OffsetType, Unsupported, DuplicateExport, Bounds, Limit}
use Rattle.wasm_module_rows.specs.Files.{magic, plain_type, one_function, usual, Refused, AreRefused}

-- A group is read whole before its names are looked at; these are below the group's end, or the fault stands at the subtype
abbrev pub types : List Refused
types =
    ((magic ++ 0x01 ∷ 0x06 ∷ 0x01 ∷ 0x60 ∷ 0x01 ∷ 0x63 ∷ 0x05 ∷ 0x7f ∷ []), Read (kinds.EndOfFile 1), 16)
    ∷ ((magic ++ 0x01 ∷ 0x07 ∷ 0x01 ∷ 0x60 ∷ 0x01 ∷ 0x63 ∷ 0x05 ∷ 0x01 ∷ 0x11 ∷ []), Read kinds.BadByte, 16)
    ∷ ((magic ++ 0x01 ∷ 0x07 ∷ 0x01 ∷ 0x60 ∷ 0x01 ∷ 0x63 ∷ 0x05 ∷ 0x01 ∷ 0x7f ∷ []), Index spaces.Type, 11)
    ∷ ((magic ++ 0x01 ∷ 0x0b ∷ 0x01 ∷ 0x4e ∷ 0x02 ∷ 0x60 ∷ 0x00 ∷ 0x00 ∷ 0x5f ∷ 0x01 ∷ 0x64 ∷ 0x02 ∷ 0x00 ∷ []), Index spaces.Type, 16)
    ∷ ((magic ++ 0x01 ∷ 0x0a ∷ 0x01 ∷ 0x50 ∷ 0x01 ∷ 0x80 ∷ 0x80 ∷ 0xc0 ∷ 0x00 ∷ 0x60 ∷ 0x00 ∷ 0x00 ∷ []), Read kinds.Limit, 13)
    ∷ []

-- Imports, functions, memories, tags, globals and exports: kinds, indices, limits, names
abbrev pub entries : List Refused
entries =
    ((magic ++ 0x02 ∷ 0x04 ∷ 0x01 ∷ 0x00 ∷ 0x00 ∷ 0x05 ∷ []), Read kinds.BadByte, 13)
    ∷ ((magic ++ plain_type ++ 0x02 ∷ 0x06 ∷ 0x01 ∷ 0x00 ∷ 0x00 ∷ 0x04 ∷ 0x01 ∷ 0x00 ∷ []), Read kinds.BadByte, 20)
    ∷ ((magic ++ 0x03 ∷ 0x02 ∷ 0x01 ∷ 0x00 ∷ []), Index spaces.Type, 11)
    ∷ ((magic ++ 0x01 ∷ 0x03 ∷ 0x01 ∷ 0x5f ∷ 0x00 ∷ 0x0d ∷ 0x03 ∷ 0x01 ∷ 0x00 ∷ 0x00 ∷ []), TypeForm, 17)
    ∷ ((magic ++ 0x05 ∷ 0x04 ∷ 0x01 ∷ 0x01 ∷ 0x02 ∷ 0x01 ∷ []), Bounds, 11)
    ∷ ((magic ++ 0x05 ∷ 0x03 ∷ 0x01 ∷ 0x02 ∷ 0x01 ∷ []), Bounds, 11)
    ∷ ((magic ++ 0x05 ∷ 0x04 ∷ 0x01 ∷ 0x08 ∷ 0x01 ∷ 0x03 ∷ []), Bounds, 13)
    ∷ ((magic ++ 0x06 ∷ 0x07 ∷ 0x01 ∷ 0x63 ∷ 0x05 ∷ 0x00 ∷ 0x41 ∷ 0x00 ∷ 0x0b ∷ []), Index spaces.Type, 11)
    ∷ ((magic ++ 0x06 ∷ 0x06 ∷ 0x01 ∷ 0x7f ∷ 0x04 ∷ 0x41 ∷ 0x00 ∷ 0x0b ∷ []), Read kinds.BadByte, 12)
    ∷ ((magic ++ 0x07 ∷ 0x04 ∷ 0x01 ∷ 0x00 ∷ 0x05 ∷ 0x00 ∷ []), Read kinds.BadByte, 12)
    ∷ ((magic ++ plain_type ++ one_function ++ 0x07 ∷ 0x09 ∷ 0x02 ∷ 0x01 ∷ 0x66 ∷ 0x00 ∷ 0x00 ∷ 0x01 ∷ 0x66 ∷ 0x00 ∷ 0x07 ∷ []), DuplicateExport, 25)
    ∷ ((magic ++ 0x00 ∷ 0x02 ∷ 0x01 ∷ 0xff ∷ []), Read kinds.Utf8, 11)
    ∷ []

-- Tables: their limits, 00 behind 40, and the limit on tables, before which a fault of the entry's first byte goes
abbrev pub tables : List Refused
tables =
    ((magic ++ 0x04 ∷ 0x04 ∷ 0x01 ∷ 0x70 ∷ 0x02 ∷ 0x01 ∷ []), Unsupported unsupported.SharedTable, 12)
    ∷ ((magic ++ 0x04 ∷ 0x04 ∷ 0x01 ∷ 0x70 ∷ 0x08 ∷ 0x01 ∷ []), Read kinds.BadByte, 12)
    ∷ ((magic ++ 0x04 ∷ 0x07 ∷ 0x01 ∷ 0x40 ∷ 0x01 ∷ 0x70 ∷ 0x00 ∷ 0x01 ∷ 0x0b ∷ []), Read kinds.BadByte, 12)
    ∷ []

-- Constant expressions: other operators, none, what they name, and offsets
abbrev pub constants : List Refused
constants =
    ((magic ++ 0x06 ∷ 0x05 ∷ 0x01 ∷ 0x7f ∷ 0x00 ∷ 0x01 ∷ 0x0b ∷ []), ConstExpr, 13)
    ∷ ((magic ++ 0x06 ∷ 0x04 ∷ 0x01 ∷ 0x7f ∷ 0x00 ∷ 0x0b ∷ []), ConstExpr, 13)
    ∷ ((magic ++ 0x06 ∷ 0x04 ∷ 0x01 ∷ 0x7f ∷ 0x00 ∷ 0xfd ∷ []), Read (kinds.EndOfFile 1), 14)
    ∷ ((magic ++ 0x06 ∷ 0x06 ∷ 0x01 ∷ 0x7f ∷ 0x00 ∷ 0x23 ∷ 0x00 ∷ 0x0b ∷ []), Index spaces.Global, 13)
    ∷ ((magic ++ 0x04 ∷ 0x04 ∷ 0x01 ∷ 0x70 ∷ 0x00 ∷ 0x01 ∷ 0x09 ∷ 0x06 ∷ 0x01 ∷ 0x00 ∷ 0x42 ∷ 0x00 ∷ 0x0b ∷ 0x00 ∷ []), OffsetType, 18)
    ∷ ((magic ++ 0x04 ∷ 0x04 ∷ 0x01 ∷ 0x70 ∷ 0x04 ∷ 0x01 ∷ 0x09 ∷ 0x06 ∷ 0x01 ∷ 0x00 ∷ 0x41 ∷ 0x00 ∷ 0x0b ∷ 0x00 ∷ []), OffsetType, 18)
    ∷ ((magic ++ 0x02 ∷ 0x06 ∷ 0x01 ∷ 0x00 ∷ 0x00 ∷ 0x03 ∷ 0x7e ∷ 0x00 ∷ 0x04 ∷ 0x04 ∷ 0x01 ∷ 0x70 ∷ 0x00 ∷ 0x01 ∷ 0x09 ∷ 0x06 ∷ 0x01 ∷ 0x00 ∷ 0x23 ∷ 0x00 ∷ 0x0b ∷ 0x00 ∷ []), OffsetType, 26)
    ∷ []

-- Segments: flags, what flag 0 means, and the 00 of functions
abbrev pub segments : List Refused
segments =
    ((magic ++ plain_type ++ one_function ++ 0x09 ∷ 0x07 ∷ 0x01 ∷ 0x00 ∷ 0x41 ∷ 0x00 ∷ 0x0b ∷ 0x01 ∷ 0x00 ∷ []), Index spaces.Table, 21)
    ∷ ((magic ++ 0x0b ∷ 0x06 ∷ 0x01 ∷ 0x00 ∷ 0x41 ∷ 0x00 ∷ 0x0b ∷ 0x00 ∷ []), Index spaces.Memory, 11)
    ∷ ((magic ++ 0x09 ∷ 0x02 ∷ 0x01 ∷ 0x08 ∷ []), Read kinds.BadByte, 11)
    ∷ ((magic ++ 0x09 ∷ 0x04 ∷ 0x01 ∷ 0x01 ∷ 0x01 ∷ 0x00 ∷ []), Read kinds.BadByte, 12)
    ∷ ((magic ++ 0x0b ∷ 0x02 ∷ 0x01 ∷ 0x03 ∷ []), Read kinds.BadByte, 11)
    ∷ []

-- Sections: their order, their sizes, counts, and sizes of bodies
abbrev pub frames : List Refused
frames =
    ((magic ++ 0x03 ∷ 0x01 ∷ 0x00 ∷ 0x01 ∷ 0x01 ∷ 0x00 ∷ []), SectionOrder, 11)
    ∷ ((magic ++ 0x01 ∷ 0x01 ∷ 0x00 ∷ 0x01 ∷ 0x01 ∷ 0x00 ∷ []), SectionOrder, 11)
    ∷ ((magic ++ 0x06 ∷ 0x01 ∷ 0x00 ∷ 0x0d ∷ 0x01 ∷ 0x00 ∷ []), SectionOrder, 11)
    ∷ ((magic ++ 0x0e ∷ 0x00 ∷ []), SectionOrder, 8)
    ∷ ((magic ++ 0x03 ∷ 0x02 ∷ 0x00 ∷ 0x00 ∷ []), SectionSize, 11)
    ∷ ((magic ++ plain_type ++ one_function ++ 0x0a ∷ 0x01 ∷ 0x00 ∷ []), Count, 20)
    ∷ ((magic ++ 0x0c ∷ 0x01 ∷ 0x01 ∷ 0x0b ∷ 0x05 ∷ 0x02 ∷ 0x01 ∷ 0x00 ∷ 0x01 ∷ 0x00 ∷ []), Count, 13)
    ∷ ((magic ++ 0x0c ∷ 0x01 ∷ 0x01 ∷ []), Count, 11)
    ∷ ((magic ++ plain_type ++ one_function ++ 0x0a ∷ 0x06 ∷ 0x01 ∷ 0xb2 ∷ 0x97 ∷ 0xd3 ∷ 0x03 ∷ 0x00 ∷ []), Limit limits.Body, 21)
    ∷ ((magic ++ plain_type ++ one_function ++ 0x0a ∷ 0x04 ∷ 0x01 ∷ 0x05 ∷ 0x00 ∷ 0x0b ∷ []), Read (kinds.EndOfFile 3), 22)
    ∷ []

-- a table section of 101 entries, of which these are the last one's bytes; the section has so many bytes behind its size's second
abbrev pub tables_past : ℕ → List ℕ → List ℕ
tables_past size last = magic ++ 0x04 ∷ size ∷ 0x02 ∷ 0x65 ∷ [] ++ repeat 100 (0x70 ∷ 0x00 ∷ 0x01 ∷ []) ++ last

-- the limit on tables stands before what is wrong at later places of the entry, and behind what is wrong at its first byte
abbrev pub past_limits : List Refused
past_limits =
    (tables_past 0xb0 (0x70 ∷ 0x00 ∷ 0x01 ∷ []), Limit limits.Tables, 312)
    ∷ (tables_past 0xb0 (0x70 ∷ 0x08 ∷ 0x01 ∷ []), Limit limits.Tables, 312)
    ∷ (tables_past 0xae (0x63 ∷ []), Limit limits.Tables, 312)
    ∷ (tables_past 0xb0 (0x11 ∷ 0x00 ∷ 0x01 ∷ []), Read kinds.BadByte, 312)
    ∷ (tables_past 0xb1 (0x63 ∷ 0x05 ∷ 0x00 ∷ 0x01 ∷ []), Index spaces.Type, 312)
    ∷ []

pub record FaultsStop : Type 0 where
  pub of_types : AreRefused usual types
  pub of_entries : AreRefused usual entries
  pub of_tables : AreRefused usual tables
  pub of_constants : AreRefused usual constants
  pub of_segments : AreRefused usual segments
  pub of_frames : AreRefused usual frames
  pub of_limits : AreRefused usual past_limits
