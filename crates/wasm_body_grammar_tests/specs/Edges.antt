-- Operators whose features are on and off, and operators at the edges of what they may name.
use Rattle.std.specs.Prelude.{ℕ, List, [], ◌∷◌}
use Rattle.wasm_reader.specs.declared.error.ErrorKind.TheVariants as kinds
use Rattle.wasm_operators.specs.declared.block_type.BlockType.TheVariants as blocks
use Rattle.wasm_operators.specs.Items.{Labels, Names, Block, Access}
use Rattle.wasm_operators.specs.Operators.{Seen}
use Rattle.wasm_formats.specs.declared.fault.Space.TheVariants as spaces
use Rattle.wasm_formats.specs.declared.fault.Limited.TheVariants as limits
use Rattle.wasm_formats.specs.Stops.{Read, Index, Operator, Limit}
use Rattle.wasm_grammar.specs.Modules.{Placed}
use Rattle.wasm_body_grammar_tests.specs.Examples.{shapes, without_legacy, without_wide, op, prefixed, access, at}
use Rattle.wasm_body_grammar_tests.specs.Shapes.{Refused, AreRead, AreReadAs, AreRefused, AreRefusedIn}

-- wide arithmetic
abbrev pub wide : List (List ℕ × Seen)
wide =
    ((0xfc ∷ 0x13 ∷ []), prefixed 0xfc 19 [])
    ∷ ((0xfc ∷ 0x14 ∷ []), prefixed 0xfc 20 [])
    ∷ ((0xfc ∷ 0x15 ∷ []), prefixed 0xfc 21 [])
    ∷ ((0xfc ∷ 0x16 ∷ []), prefixed 0xfc 22 [])
    ∷ []

-- the same where it is off
abbrev pub wide_off : List Refused
wide_off =
    ((0x00 ∷ 0xfc ∷ 0x13 ∷ []), Operator, 1)
    ∷ ((0x00 ∷ 0xfc ∷ 0x14 ∷ []), Operator, 1)
    ∷ ((0x00 ∷ 0xfc ∷ 0x15 ∷ []), Operator, 1)
    ∷ ((0x00 ∷ 0xfc ∷ 0x16 ∷ []), Operator, 1)
    ∷ []

-- `try`, `catch`, `rethrow`, `delegate` and `catch_all` where these are off: no immediate is looked at, and no frame
abbrev pub legacy_off : List Refused
legacy_off =
    ((0x00 ∷ 0x06 ∷ []), Operator, 1)
    ∷ ((0x00 ∷ 0x07 ∷ []), Operator, 1)
    ∷ ((0x00 ∷ 0x09 ∷ []), Operator, 1)
    ∷ ((0x00 ∷ 0x18 ∷ []), Operator, 1)
    ∷ ((0x00 ∷ 0x19 ∷ []), Operator, 1)
    ∷ []

-- the greatest offset into a memory of 32 bits, and offsets into one of 64 bits
abbrev pub offsets : List (List ℕ × Seen)
offsets =
    ((0x28 ∷ 0x02 ∷ 0xff ∷ 0xff ∷ 0xff ∷ 0xff ∷ 0x0f ∷ []), op 0x28 (Access (access 2 0 0xffffffff) ∷ []))
    ∷ ((0x28 ∷ 0x42 ∷ 0x01 ∷ 0x80 ∷ 0x80 ∷ 0x80 ∷ 0x80 ∷ 0x10 ∷ []), op 0x28 (Access (access 2 1 0x100000000) ∷ []))
    ∷ ((0x28 ∷ 0x42 ∷ 0x01 ∷ 0xff ∷ 0xff ∷ 0xff ∷ 0xff ∷ 0xff ∷ 0xff ∷ 0xff ∷ 0xff ∷ 0xff ∷ 0x01 ∷ []), op 0x28 (Access (access 2 1 0xffffffffffffffff) ∷ []))
    ∷ ((0xfe ∷ 0x10 ∷ 0x42 ∷ 0x01 ∷ 0x80 ∷ 0x80 ∷ 0x80 ∷ 0x80 ∷ 0x10 ∷ []), prefixed 0xfe 16 (Access (access 2 1 0x100000000) ∷ []))
    ∷ []

-- `rethrow` of a frame that is no catch, and `delegate` to one that is no `try`
abbrev pub outside : List (List ℕ × List Placed)
outside =
    ((0x09 ∷ 0x00 ∷ 0x0b ∷ []), (at 3 (op 0x09 (Names Labels 0 ∷ [])) ∷ at 5 (op 0x0b []) ∷ []))
    ∷ ((0x02 ∷ 0x40 ∷ 0x09 ∷ 0x01 ∷ 0x0b ∷ 0x0b ∷ []), (at 3 (op 0x02 (Block blocks.Empty ∷ [])) ∷ at 5 (op 0x09 (Names Labels 1 ∷ [])) ∷ at 7 (op 0x0b []) ∷ at 8 (op 0x0b []) ∷ []))
    ∷ ((0x02 ∷ 0x40 ∷ 0x06 ∷ 0x40 ∷ 0x18 ∷ 0x01 ∷ 0x0b ∷ 0x0b ∷ []), (at 3 (op 0x02 (Block blocks.Empty ∷ [])) ∷ at 5 (op 0x06 (Block blocks.Empty ∷ [])) ∷ at 7 (op 0x18 (Names Labels 1 ∷ [])) ∷ at 9 (op 0x0b []) ∷ at 10 (op 0x0b []) ∷ []))
    ∷ []

-- a block type's number has no bound of its own: one past every type is a missing type
abbrev pub far_types : List Refused
far_types =
    ((0x00 ∷ 0x02 ∷ 0x80 ∷ 0x80 ∷ 0xc0 ∷ 0x00 ∷ 0x0b ∷ 0x0b ∷ []), Index spaces.Type, 1)
    ∷ ((0x00 ∷ 0x04 ∷ 0xff ∷ 0xff ∷ 0xff ∷ 0xff ∷ 0x0f ∷ 0x0b ∷ 0x0b ∷ []), Index spaces.Type, 1)
    ∷ ((0x00 ∷ 0x1f ∷ 0x80 ∷ 0x80 ∷ 0xc0 ∷ 0x00 ∷ 0x00 ∷ 0x0b ∷ 0x0b ∷ []), Index spaces.Type, 1)
    ∷ []

-- labels that aren't open, the second memory of `memory.copy`, the first table of `table.copy`, the types of `array.new_data` and `array.new_elem`
abbrev pub missing : List Refused
missing =
    ((0x00 ∷ 0x09 ∷ 0x01 ∷ 0x0b ∷ []), Index spaces.Label, 1)
    ∷ ((0x00 ∷ 0x02 ∷ 0x40 ∷ 0x09 ∷ 0x02 ∷ 0x0b ∷ 0x0b ∷ []), Index spaces.Label, 3)
    ∷ ((0x00 ∷ 0xfc ∷ 0x0a ∷ 0x00 ∷ 0x02 ∷ []), Index spaces.Memory, 1)
    ∷ ((0x00 ∷ 0xfc ∷ 0x0e ∷ 0x01 ∷ 0x00 ∷ []), Index spaces.Table, 1)
    ∷ ((0x00 ∷ 0xfb ∷ 0x09 ∷ 0x05 ∷ 0x00 ∷ []), Index spaces.Type, 1)
    ∷ ((0x00 ∷ 0xfb ∷ 0x0a ∷ 0x05 ∷ 0x00 ∷ []), Index spaces.Type, 1)
    ∷ []

-- 49,999 locals and a parameter pass: the value type is missed; 50,000 don't
abbrev pub many_locals : List Refused
many_locals =
    ((0x01 ∷ 0xcf ∷ 0x86 ∷ 0x03 ∷ []), Read (kinds.EndOfFile 1), 4)
    ∷ ((0x01 ∷ 0xd0 ∷ 0x86 ∷ 0x03 ∷ []), Limit limits.Locals, 1)
    ∷ []

pub record EdgesHold : Type 0 where
  pub of_wide : AreRead wide
  pub of_wide_off : AreRefusedIn (without_wide shapes) wide_off
  pub of_legacy_off : AreRefusedIn (without_legacy shapes) legacy_off
  pub of_offsets : AreRead offsets
  pub of_outside : AreReadAs outside
  pub of_far_types : AreRefused far_types
  pub of_missing : AreRefused missing
  pub of_locals : AreRefused many_locals
