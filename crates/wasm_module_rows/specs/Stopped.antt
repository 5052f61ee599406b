-- Worked files that are refused.
use Rattle.std.specs.Prelude.{ℕ, List, [], ◌∷◌, ◌++◌, map, take}
use Rattle.wasm_features.specs.Features.{SharedEverythingThreads, constant, features_of}
use Rattle.wasm_reader.specs.declared.error.ErrorKind.TheVariants as kinds
use Rattle.wasm_formats.specs.declared.fault.Space.TheVariants as spaces
use Rattle.wasm_formats.specs.declared.fault.Form.TheVariants as unsupported
use Rattle.wasm_formats.specs.declared.fault.Limited.TheVariants as limits
use Rattle.wasm_formats.specs.Stops.{Trouble, Read, Header, SectionSize, Count, Index, TypeForm, Nesting, Position, Operator, Unsupported, Limit}
use Rattle.wasm_module_rows.specs.Files.{magic, plain_type, one_function, exported, base, usual, without_legacy, with_shared, Refused, AreRefused}

-- a local, a function and a function type that aren't there, a data segment without a data count, a byte that is no heap type, a shared global, an open type for a block, a name that is cut
abbrev pub stopped : List Refused
stopped =
    ((base ++ 0x0a ∷ 0x07 ∷ 0x01 ∷ 0x05 ∷ 0x00 ∷ 0x0f ∷ 0x20 ∷ 0x00 ∷ 0x0b ∷ []), Index spaces.Local, 31)
    ∷ ((magic ++ exported), Index spaces.Function, 14)
    ∷ ((magic ++ plain_type ++ one_function ++ 0x05 ∷ 0x03 ∷ 0x01 ∷ 0x00 ∷ 0x01 ∷ [] ++ exported ++ 0x0a ∷ 0x07 ∷ 0x01 ∷ 0x05 ∷ 0x00 ∷ 0xfc ∷ 0x09 ∷ 0x00 ∷ 0x0b ∷ 0x0b ∷ 0x04 ∷ 0x01 ∷ 0x01 ∷ 0x01 ∷ 0x2a ∷ []), Position, 35)
    ∷ ((base ++ 0x0a ∷ 0x08 ∷ 0x01 ∷ 0x06 ∷ 0x00 ∷ 0xd0 ∷ 0xf0 ∷ 0x7f ∷ 0x1a ∷ 0x0b ∷ []), Read kinds.BadByte, 31)
    ∷ ((magic ++ 0x06 ∷ 0x06 ∷ 0x01 ∷ 0x7f ∷ 0x02 ∷ 0x41 ∷ 0x00 ∷ 0x0b ∷ []), Unsupported unsupported.SharedGlobal, 12)
    ∷ ((base ++ 0x0a ∷ 0x06 ∷ 0x01 ∷ 0x04 ∷ 0x00 ∷ 0x10 ∷ 0x05 ∷ 0x0b ∷ []), Index spaces.Function, 30)
    ∷ ((magic ++ plain_type ++ one_function ++ 0x08 ∷ 0x01 ∷ 0x01 ∷ []), Index spaces.Function, 20)
    ∷ ((magic ++ 0x01 ∷ 0x0f ∷ 0x03 ∷ 0x60 ∷ 0x00 ∷ 0x00 ∷ 0x60 ∷ 0x01 ∷ 0x7f ∷ 0x00 ∷ 0x50 ∷ 0x00 ∷ 0x60 ∷ 0x01 ∷ 0x7f ∷ 0x01 ∷ 0x7f ∷ 0x03 ∷ 0x02 ∷ 0x01 ∷ 0x00 ∷ 0x0d ∷ 0x03 ∷ 0x01 ∷ 0x00 ∷ 0x01 ∷ 0x07 ∷ 0x05 ∷ 0x01 ∷ 0x01 ∷ 0x66 ∷ 0x00 ∷ 0x00 ∷ 0x0a ∷ 0x0f ∷ 0x01 ∷ 0x0d ∷ 0x00 ∷ 0x06 ∷ 0x7f ∷ 0x41 ∷ 0x01 ∷ 0x07 ∷ 0x00 ∷ 0x0b ∷ 0x02 ∷ 0x02 ∷ 0x0b ∷ 0x1a ∷ 0x0b ∷ []), TypeForm, 53)
    ∷ ((magic ++ 0x00 ∷ 0x02 ∷ 0x05 ∷ 0x61 ∷ []), Read (kinds.EndOfFile 4), 11)
    ∷ []

-- counts and sizes that nothing stands behind, long numbers, bodies that end too early or too late
abbrev pub hostile : List Refused
hostile =
    ((magic ++ 0x01 ∷ 0x05 ∷ 0xff ∷ 0xff ∷ 0xff ∷ 0xff ∷ 0x0f ∷ []), Read (kinds.EndOfFile 1), 15)
    ∷ ((magic ++ 0x01 ∷ 0x07 ∷ 0x01 ∷ 0x4e ∷ 0xff ∷ 0xff ∷ 0xff ∷ 0xff ∷ 0x0f ∷ []), Read kinds.Limit, 12)
    ∷ ((magic ++ 0x01 ∷ 0x07 ∷ 0x01 ∷ 0x60 ∷ 0xff ∷ 0xff ∷ 0xff ∷ 0xff ∷ 0x0f ∷ []), Read kinds.Limit, 12)
    ∷ ((base ++ 0x0a ∷ 0x0a ∷ 0x01 ∷ 0x08 ∷ 0x01 ∷ 0xff ∷ 0xff ∷ 0xff ∷ 0xff ∷ 0x0f ∷ 0x7f ∷ 0x0b ∷ []), Limit limits.Locals, 30)
    ∷ ((magic ++ 0x01 ∷ 0xff ∷ 0xff ∷ 0xff ∷ 0xff ∷ 0x0f ∷ []), SectionSize, 9)
    ∷ ((magic ++ 0x01 ∷ 0x80 ∷ 0x80 ∷ 0x80 ∷ 0x80 ∷ 0x10 ∷ []), Read kinds.TooLarge, 13)
    ∷ ((magic ++ 0x01 ∷ 0x80 ∷ 0x80 ∷ 0x80 ∷ 0x80 ∷ 0x80 ∷ 0x00 ∷ []), Read kinds.TooLong, 13)
    ∷ ((base ++ 0x0a ∷ 0x06 ∷ 0x01 ∷ 0x04 ∷ 0x00 ∷ 0x02 ∷ 0x40 ∷ 0x0b ∷ []), Read (kinds.EndOfFile 1), 33)
    ∷ ((base ++ 0x0a ∷ 0x06 ∷ 0x01 ∷ 0x04 ∷ 0x00 ∷ 0x0b ∷ 0x01 ∷ 0x0b ∷ []), Nesting, 31)
    ∷ []

-- shared types, whose feature is off
abbrev pub unshared : List Refused
unshared =
    ((magic ++ 0x06 ∷ 0x09 ∷ 0x01 ∷ 0x63 ∷ 0x65 ∷ 0x70 ∷ 0x00 ∷ 0xd0 ∷ 0x65 ∷ 0x70 ∷ 0x0b ∷ 0x07 ∷ 0x05 ∷ 0x01 ∷ 0x01 ∷ 0x67 ∷ 0x03 ∷ 0x00 ∷ []), Read (kinds.Feature (features_of (constant SharedEverythingThreads))), 12)
    ∷ ((magic ++ 0x01 ∷ 0x0a ∷ 0x02 ∷ 0x60 ∷ 0x01 ∷ 0x65 ∷ 0x70 ∷ 0x00 ∷ 0x60 ∷ 0x01 ∷ 0x70 ∷ 0x00 ∷ 0x03 ∷ 0x03 ∷ 0x02 ∷ 0x00 ∷ 0x01 ∷ 0x07 ∷ 0x09 ∷ 0x02 ∷ 0x01 ∷ 0x61 ∷ 0x00 ∷ 0x00 ∷ 0x01 ∷ 0x62 ∷ 0x00 ∷ 0x01 ∷ 0x0a ∷ 0x07 ∷ 0x02 ∷ 0x02 ∷ 0x00 ∷ 0x0b ∷ 0x02 ∷ 0x00 ∷ 0x0b ∷ []), Read (kinds.Feature (features_of (constant SharedEverythingThreads))), 13)
    ∷ ((magic ++ 0x01 ∷ 0x05 ∷ 0x01 ∷ 0x65 ∷ 0x60 ∷ 0x00 ∷ 0x00 ∷ []), Read (kinds.Feature (features_of (constant SharedEverythingThreads))), 11)
    ∷ ((magic ++ 0x06 ∷ 0x09 ∷ 0x01 ∷ 0x63 ∷ 0x65 ∷ 0x00 ∷ 0x00 ∷ 0xd0 ∷ 0x65 ∷ 0x70 ∷ 0x0b ∷ []), Read (kinds.Feature (features_of (constant SharedEverythingThreads))), 12)
    ∷ []

-- the same where it is on: a shared composite type has no words here, and 00 is no heap type
abbrev pub sharing : List Refused
sharing =
    ((magic ++ 0x01 ∷ 0x05 ∷ 0x01 ∷ 0x65 ∷ 0x60 ∷ 0x00 ∷ 0x00 ∷ []), Unsupported unsupported.SharedType, 11)
    ∷ ((magic ++ 0x06 ∷ 0x09 ∷ 0x01 ∷ 0x63 ∷ 0x65 ∷ 0x00 ∷ 0x00 ∷ 0xd0 ∷ 0x65 ∷ 0x70 ∷ 0x0b ∷ []), Read kinds.BadByte, 13)
    ∷ []

-- a legacy `try` where these are off
abbrev pub legacy : List Refused
legacy = ((magic ++ 0x01 ∷ 0x08 ∷ 0x02 ∷ 0x60 ∷ 0x00 ∷ 0x00 ∷ 0x60 ∷ 0x01 ∷ 0x7f ∷ 0x00 ∷ [] ++ one_function ++ 0x0d ∷ 0x03 ∷ 0x01 ∷ 0x00 ∷ 0x01 ∷ [] ++ exported ++ 0x0a ∷ 0x0c ∷ 0x01 ∷ 0x0a ∷ 0x00 ∷ 0x06 ∷ 0x7f ∷ 0x41 ∷ 0x01 ∷ 0x07 ∷ 0x00 ∷ 0x0b ∷ 0x1a ∷ 0x0b ∷ []), Operator, 39) ∷ []

-- a function that is exported as `f`, and its body: nop, end
abbrev pub first : List ℕ
first = base ++ 0x0a ∷ 0x05 ∷ 0x01 ∷ 0x03 ∷ 0x00 ∷ 0x01 ∷ 0x0b ∷ []

-- a front of it, and why and where it is refused
abbrev pub cut : ℕ × Trouble × ℕ → Refused
cut row = (take row.0 first, row.1, row.2)

-- the fronts of it that are no modules: by their lengths
abbrev pub fronts : List Refused
fronts = map cut (
    (0, Header, 0)
    ∷ (1, Header, 0)
    ∷ (2, Header, 0)
    ∷ (3, Header, 0)
    ∷ (4, Header, 0)
    ∷ (5, Header, 0)
    ∷ (6, Header, 0)
    ∷ (7, Header, 0)
    ∷ (9, Read (kinds.EndOfFile 1), 9)
    ∷ (10, SectionSize, 9)
    ∷ (11, SectionSize, 9)
    ∷ (12, SectionSize, 9)
    ∷ (13, SectionSize, 9)
    ∷ (15, Read (kinds.EndOfFile 1), 15)
    ∷ (16, SectionSize, 15)
    ∷ (17, SectionSize, 15)
    ∷ (18, Count, 18)
    ∷ (19, Read (kinds.EndOfFile 1), 19)
    ∷ (20, SectionSize, 19)
    ∷ (21, SectionSize, 19)
    ∷ (22, SectionSize, 19)
    ∷ (23, SectionSize, 19)
    ∷ (24, SectionSize, 19)
    ∷ (25, Count, 25)
    ∷ (26, Read (kinds.EndOfFile 1), 26)
    ∷ (27, SectionSize, 26)
    ∷ (28, SectionSize, 26)
    ∷ (29, SectionSize, 26)
    ∷ (30, SectionSize, 26)
    ∷ (31, SectionSize, 26)
    ∷ []
    )

pub record FilesStop : Type 0 where
  pub of_each : AreRefused usual stopped
  pub of_hostile : AreRefused usual hostile
  pub of_unshared : AreRefused usual unshared
  pub of_sharing : AreRefused with_shared sharing
  pub of_legacy : AreRefused without_legacy legacy
  pub of_fronts : AreRefused usual fronts
