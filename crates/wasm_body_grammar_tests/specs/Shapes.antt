-- Operators of each shape, in a body between its locals and its `end`: valid, cut, and with each of its faults.
use Rattle.std.specs.Prelude.{ℕ, ◌+◌, ◌-◌, ◌≡◌, true, false, pos, negsuc, List, [], ◌∷◌, ◌++◌, length, map, Result, Ok, Err}
use Rattle.wasm_reader.specs.declared.error.ErrorKind.TheVariants as kinds
use Rattle.wasm_ref_types.specs.declared.heap.AbstractHeapType.TheVariants as abstracts
use Rattle.wasm_ref_types.specs.declared.heap.HeapType.TheVariants.{Abstract, Concrete}
use Rattle.wasm_ref_types.specs.declared.index.UnpackedIndex.TheVariants.{Module}
use Rattle.wasm_ref_types.specs.declared.value.ValType.TheVariants as values
use Rattle.wasm_ref_types.specs.ReadTypes.{shared_types}
use Rattle.wasm_ref_types.specs.Reference.{reference}
use Rattle.wasm_operators.specs.declared.block_type.BlockType.TheVariants as blocks
use Rattle.wasm_operators.specs.declared.clause.Clause.TheVariants as handlers
use Rattle.wasm_operators.specs.Items.{Types, Functions, Tables, Memories, Tags, Globals, ElementSegments, DataSegments, Locals, Labels, Names, Number, S32, S64, Bits, Byte, Bytes, Heap, Block, Access, ManyLabels, ManyValues, ManyClauses}
use Rattle.wasm_operators.specs.Operators.{Seen}
use Rattle.wasm_formats.specs.declared.fault.Space.TheVariants as spaces
use Rattle.wasm_formats.specs.declared.fault.Form.TheVariants as unsupported
use Rattle.wasm_formats.specs.declared.fault.Limited.TheVariants as limits
use Rattle.wasm_formats.specs.Stops.{Trouble, Read, Index, TypeForm, Nesting, Position, Operator, Unsupported, Bounds, Limit, Stop, stop}
use Rattle.wasm_grammar.specs.Modules.{Body, Placed}
use Rattle.wasm_body_grammar.specs.Rules.{Around}
use Rattle.wasm_body_grammar.specs.Bodies.{body_at}
use Rattle.wasm_body_grammar_tests.specs.Examples.{shapes, shared_funcref, sharing, op, prefixed, access, at, just, with_local}

-- a body without declared locals, as it is parsed behind a size of one byte
abbrev pub parsed : List ℕ → Result Body Stop
parsed operators = body_at shapes 1 2 (0x00 ∷ operators)

-- these bytes are this operator, with an `end` behind them
abbrev pub AreRead : List (List ℕ × Seen) → Type 0
AreRead cases =
    map (λ c. parsed (c.0 ++ 0x0b ∷ [])) cases
    ≡ map (λ (c : List ℕ × Seen). (let read : Result Body Stop = Ok (just (at 3 c.1 ∷ at (3 + length c.0) (op 0x0b []) ∷ [])) in read)) cases

-- these bytes are these operators
abbrev pub AreReadAs : List (List ℕ × List Placed) → Type 0
AreReadAs cases = map (λ c. parsed c.0) cases ≡ map (λ (c : List ℕ × List Placed). (let read : Result Body Stop = Ok (just c.1) in read)) cases

-- a body, why it is refused, and how many of its bytes stand before the place
abbrev pub Refused : Type 0
Refused = List ℕ × Trouble × ℕ

abbrev pub AreRefusedIn : Around → List Refused → Type 0
AreRefusedIn a cases =
    map (λ c. body_at a 1 2 c.0) cases ≡ map (λ (c : Refused). (let no : Result Body Stop = Err (stop c.1 (length c.0 - c.2)) in no)) cases

abbrev pub AreRefused : List Refused → Type 0
AreRefused cases = AreRefusedIn shapes cases

-- one operator of each kind of immediates
abbrev pub plain_shapes : List (List ℕ × Seen)
plain_shapes =
    ((0x45 ∷ []), op 0x45 [])
    ∷ ((0x08 ∷ 0x00 ∷ []), op 0x08 (Names Tags 0 ∷ []))
    ∷ ((0x0c ∷ 0x00 ∷ []), op 0x0c (Names Labels 0 ∷ []))
    ∷ ((0x0e ∷ 0x01 ∷ 0x00 ∷ 0x00 ∷ []), op 0x0e (ManyLabels (0 ∷ []) ∷ Names Labels 0 ∷ []))
    ∷ ((0x10 ∷ 0x00 ∷ []), op 0x10 (Names Functions 0 ∷ []))
    ∷ ((0x11 ∷ 0x00 ∷ 0x00 ∷ []), op 0x11 (Names Types 0 ∷ Names Tables 0 ∷ []))
    ∷ ((0x14 ∷ 0x00 ∷ []), op 0x14 (Names Types 0 ∷ []))
    ∷ ((0x1c ∷ 0x01 ∷ 0x7f ∷ []), op 0x1c (ManyValues (values.I32 ∷ []) ∷ []))
    ∷ ((0x20 ∷ 0x00 ∷ []), op 0x20 (Names Locals 0 ∷ []))
    ∷ ((0x23 ∷ 0x00 ∷ []), op 0x23 (Names Globals 0 ∷ []))
    ∷ ((0x25 ∷ 0x00 ∷ []), op 0x25 (Names Tables 0 ∷ []))
    ∷ ((0x28 ∷ 0x02 ∷ 0x07 ∷ []), op 0x28 (Access (access 2 0 7) ∷ []))
    ∷ ((0x28 ∷ 0x42 ∷ 0x01 ∷ 0x07 ∷ []), op 0x28 (Access (access 2 1 7) ∷ []))
    ∷ ((0x3f ∷ 0x00 ∷ []), op 0x3f (Names Memories 0 ∷ []))
    ∷ ((0x41 ∷ 0x7f ∷ []), op 0x41 (S32 (negsuc 0) ∷ []))
    ∷ ((0x42 ∷ 0x80 ∷ 0x01 ∷ []), op 0x42 (S64 (pos 128) ∷ []))
    ∷ ((0x43 ∷ 0x00 ∷ 0x00 ∷ 0x80 ∷ 0x3f ∷ []), op 0x43 (Bits 4 0x3f800000 ∷ []))
    ∷ ((0x44 ∷ 0x00 ∷ 0x00 ∷ 0x00 ∷ 0x00 ∷ 0x00 ∷ 0x00 ∷ 0xf0 ∷ 0x3f ∷ []), op 0x44 (Bits 8 0x3ff0000000000000 ∷ []))
    ∷ ((0xd0 ∷ 0x70 ∷ []), op 0xd0 (Heap (Abstract false abstracts.Func) ∷ []))
    ∷ ((0xd0 ∷ 0x02 ∷ []), op 0xd0 (Heap (Concrete (Module 2)) ∷ []))
    ∷ ((0xfc ∷ 0x08 ∷ 0x00 ∷ 0x00 ∷ []), prefixed 0xfc 8 (Names DataSegments 0 ∷ Names Memories 0 ∷ []))
    ∷ ((0xfc ∷ 0x09 ∷ 0x00 ∷ []), prefixed 0xfc 9 (Names DataSegments 0 ∷ []))
    ∷ ((0xfc ∷ 0x0a ∷ 0x01 ∷ 0x00 ∷ []), prefixed 0xfc 10 (Names Memories 1 ∷ Names Memories 0 ∷ []))
    ∷ ((0xfc ∷ 0x0b ∷ 0x01 ∷ []), prefixed 0xfc 11 (Names Memories 1 ∷ []))
    ∷ ((0xfc ∷ 0x0c ∷ 0x00 ∷ 0x00 ∷ []), prefixed 0xfc 12 (Names ElementSegments 0 ∷ Names Tables 0 ∷ []))
    ∷ ((0xfc ∷ 0x0d ∷ 0x00 ∷ []), prefixed 0xfc 13 (Names ElementSegments 0 ∷ []))
    ∷ ((0xfc ∷ 0x0e ∷ 0x00 ∷ 0x00 ∷ []), prefixed 0xfc 14 (Names Tables 0 ∷ Names Tables 0 ∷ []))
    ∷ ((0xfb ∷ 0x02 ∷ 0x02 ∷ 0x09 ∷ []), prefixed 0xfb 2 (Names Types 2 ∷ Number 9 ∷ []))
    ∷ ((0xfb ∷ 0x09 ∷ 0x02 ∷ 0x00 ∷ []), prefixed 0xfb 9 (Names Types 2 ∷ Names DataSegments 0 ∷ []))
    ∷ ((0xfb ∷ 0x0a ∷ 0x02 ∷ 0x00 ∷ []), prefixed 0xfb 10 (Names Types 2 ∷ Names ElementSegments 0 ∷ []))
    ∷ ((0xfb ∷ 0x11 ∷ 0x02 ∷ 0x00 ∷ []), prefixed 0xfb 17 (Names Types 2 ∷ Names Types 0 ∷ []))
    ∷ ((0xfb ∷ 0x18 ∷ 0x03 ∷ 0x00 ∷ 0x6e ∷ 0x71 ∷ []), prefixed 0xfb 24 (Byte 3 ∷ Names Labels 0 ∷ Heap (Abstract false abstracts.Any) ∷ Heap (Abstract false abstracts.None) ∷ []))
    ∷ ((0xfd ∷ 0x0c ∷ 0x00 ∷ 0x01 ∷ 0x02 ∷ 0x03 ∷ 0x04 ∷ 0x05 ∷ 0x06 ∷ 0x07 ∷ 0x08 ∷ 0x09 ∷ 0x0a ∷ 0x0b ∷ 0x0c ∷ 0x0d ∷ 0x0e ∷ 0x0f ∷ []), prefixed 0xfd 12 (Bytes (0 ∷ 1 ∷ 2 ∷ 3 ∷ 4 ∷ 5 ∷ 6 ∷ 7 ∷ 8 ∷ 9 ∷ 10 ∷ 11 ∷ 12 ∷ 13 ∷ 14 ∷ 15 ∷ []) ∷ []))
    ∷ ((0xfd ∷ 0x15 ∷ 0xff ∷ []), prefixed 0xfd 21 (Byte 255 ∷ []))
    ∷ ((0xfd ∷ 0x54 ∷ 0x00 ∷ 0x00 ∷ 0x03 ∷ []), prefixed 0xfd 84 (Access (access 0 0 0) ∷ Byte 3 ∷ []))
    ∷ ((0xfe ∷ 0x03 ∷ 0x00 ∷ []), prefixed 0xfe 3 (Byte 0 ∷ []))
    ∷ ((0xfe ∷ 0x93 ∷ 0x80 ∷ 0x00 ∷ 0x01 ∷ 0x00 ∷ []), prefixed 0xfe 19 (Access (access 1 0 0) ∷ []))
    ∷ []

-- operators of blocks
abbrev pub control_shapes : List (List ℕ × List Placed)
control_shapes =
    ((0x02 ∷ 0x40 ∷ 0x0b ∷ 0x0b ∷ []), (at 3 (op 0x02 (Block blocks.Empty ∷ [])) ∷ at 5 (op 0x0b []) ∷ at 6 (op 0x0b []) ∷ []))
    ∷ ((0x03 ∷ 0x7f ∷ 0x0b ∷ 0x0b ∷ []), (at 3 (op 0x03 (Block (blocks.Value values.I32) ∷ [])) ∷ at 5 (op 0x0b []) ∷ at 6 (op 0x0b []) ∷ []))
    ∷ ((0x02 ∷ 0x01 ∷ 0x0b ∷ 0x0b ∷ []), (at 3 (op 0x02 (Block (blocks.Type 1) ∷ [])) ∷ at 5 (op 0x0b []) ∷ at 6 (op 0x0b []) ∷ []))
    ∷ ((0x04 ∷ 0x40 ∷ 0x05 ∷ 0x0b ∷ 0x0b ∷ []), (at 3 (op 0x04 (Block blocks.Empty ∷ [])) ∷ at 5 (op 0x05 []) ∷ at 6 (op 0x0b []) ∷ at 7 (op 0x0b []) ∷ []))
    ∷ ((0x06 ∷ 0x40 ∷ 0x07 ∷ 0x00 ∷ 0x19 ∷ 0x09 ∷ 0x00 ∷ 0x0b ∷ 0x0b ∷ []), (at 3 (op 0x06 (Block blocks.Empty ∷ [])) ∷ at 5 (op 0x07 (Names Tags 0 ∷ [])) ∷ at 7 (op 0x19 []) ∷ at 8 (op 0x09 (Names Labels 0 ∷ [])) ∷ at 10 (op 0x0b []) ∷ at 11 (op 0x0b []) ∷ []))
    ∷ ((0x06 ∷ 0x40 ∷ 0x18 ∷ 0x00 ∷ 0x0b ∷ []), (at 3 (op 0x06 (Block blocks.Empty ∷ [])) ∷ at 5 (op 0x18 (Names Labels 0 ∷ [])) ∷ at 7 (op 0x0b []) ∷ []))
    ∷ ((0x1f ∷ 0x40 ∷ 0x02 ∷ 0x00 ∷ 0x00 ∷ 0x00 ∷ 0x03 ∷ 0x00 ∷ 0x0b ∷ 0x0b ∷ []), (at 3 (op 0x1f (Block blocks.Empty ∷ ManyClauses (handlers.Catch 0 0 ∷ handlers.CatchAllRef 0 ∷ []) ∷ [])) ∷ at 11 (op 0x0b []) ∷ at 12 (op 0x0b []) ∷ []))
    ∷ []

-- operators without their last byte, at the end of the body
abbrev pub cut : List Refused
cut =
    ((0x00 ∷ 0x08 ∷ []), Read (kinds.EndOfFile 1), 2)
    ∷ ((0x00 ∷ 0x0c ∷ []), Read (kinds.EndOfFile 1), 2)
    ∷ ((0x00 ∷ 0x0e ∷ 0x01 ∷ 0x00 ∷ []), Read (kinds.EndOfFile 1), 4)
    ∷ ((0x00 ∷ 0x10 ∷ []), Read (kinds.EndOfFile 1), 2)
    ∷ ((0x00 ∷ 0x11 ∷ 0x00 ∷ []), Read (kinds.EndOfFile 1), 3)
    ∷ ((0x00 ∷ 0x14 ∷ []), Read (kinds.EndOfFile 1), 2)
    ∷ ((0x00 ∷ 0x1c ∷ 0x01 ∷ []), Read (kinds.EndOfFile 1), 3)
    ∷ ((0x00 ∷ 0x20 ∷ []), Read (kinds.EndOfFile 1), 2)
    ∷ ((0x00 ∷ 0x23 ∷ []), Read (kinds.EndOfFile 1), 2)
    ∷ ((0x00 ∷ 0x25 ∷ []), Read (kinds.EndOfFile 1), 2)
    ∷ ((0x00 ∷ 0x28 ∷ 0x02 ∷ []), Read (kinds.EndOfFile 1), 3)
    ∷ ((0x00 ∷ 0x28 ∷ 0x42 ∷ 0x01 ∷ []), Read (kinds.EndOfFile 1), 4)
    ∷ ((0x00 ∷ 0x3f ∷ []), Read (kinds.EndOfFile 1), 2)
    ∷ ((0x00 ∷ 0x41 ∷ []), Read (kinds.EndOfFile 1), 2)
    ∷ ((0x00 ∷ 0x42 ∷ 0x80 ∷ []), Read (kinds.EndOfFile 1), 3)
    ∷ ((0x00 ∷ 0x43 ∷ 0x00 ∷ 0x00 ∷ 0x80 ∷ []), Read (kinds.EndOfFile 1), 2)
    ∷ ((0x00 ∷ 0x44 ∷ 0x00 ∷ 0x00 ∷ 0x00 ∷ 0x00 ∷ 0x00 ∷ 0x00 ∷ 0xf0 ∷ []), Read (kinds.EndOfFile 1), 2)
    ∷ ((0x00 ∷ 0xd0 ∷ []), Read (kinds.EndOfFile 1), 2)
    ∷ ((0x00 ∷ 0xfc ∷ 0x08 ∷ 0x00 ∷ []), Read (kinds.EndOfFile 1), 4)
    ∷ ((0x00 ∷ 0xfc ∷ 0x09 ∷ []), Read (kinds.EndOfFile 1), 3)
    ∷ ((0x00 ∷ 0xfc ∷ 0x0a ∷ 0x01 ∷ []), Read (kinds.EndOfFile 1), 4)
    ∷ ((0x00 ∷ 0xfc ∷ 0x0b ∷ []), Read (kinds.EndOfFile 1), 3)
    ∷ ((0x00 ∷ 0xfc ∷ 0x0c ∷ 0x00 ∷ []), Read (kinds.EndOfFile 1), 4)
    ∷ ((0x00 ∷ 0xfc ∷ 0x0d ∷ []), Read (kinds.EndOfFile 1), 3)
    ∷ ((0x00 ∷ 0xfc ∷ 0x0e ∷ 0x00 ∷ []), Read (kinds.EndOfFile 1), 4)
    ∷ ((0x00 ∷ 0xfb ∷ 0x02 ∷ 0x02 ∷ []), Read (kinds.EndOfFile 1), 4)
    ∷ ((0x00 ∷ 0xfb ∷ 0x09 ∷ 0x02 ∷ []), Read (kinds.EndOfFile 1), 4)
    ∷ ((0x00 ∷ 0xfb ∷ 0x0a ∷ 0x02 ∷ []), Read (kinds.EndOfFile 1), 4)
    ∷ ((0x00 ∷ 0xfb ∷ 0x11 ∷ 0x02 ∷ []), Read (kinds.EndOfFile 1), 4)
    ∷ ((0x00 ∷ 0xfb ∷ 0x18 ∷ 0x03 ∷ 0x00 ∷ 0x6e ∷ []), Read (kinds.EndOfFile 1), 6)
    ∷ ((0x00 ∷ 0xfd ∷ 0x0c ∷ 0x00 ∷ 0x01 ∷ 0x02 ∷ 0x03 ∷ 0x04 ∷ 0x05 ∷ 0x06 ∷ 0x07 ∷ 0x08 ∷ 0x09 ∷ 0x0a ∷ 0x0b ∷ 0x0c ∷ 0x0d ∷ 0x0e ∷ []), Read (kinds.EndOfFile 1), 3)
    ∷ ((0x00 ∷ 0xfd ∷ 0x15 ∷ []), Read (kinds.EndOfFile 1), 3)
    ∷ ((0x00 ∷ 0xfd ∷ 0x54 ∷ 0x00 ∷ 0x00 ∷ []), Read (kinds.EndOfFile 1), 5)
    ∷ ((0x00 ∷ 0xfe ∷ 0x03 ∷ []), Read (kinds.EndOfFile 1), 3)
    ∷ ((0x00 ∷ 0xfe ∷ 0x93 ∷ 0x80 ∷ 0x00 ∷ 0x01 ∷ []), Read (kinds.EndOfFile 1), 6)
    ∷ []

-- operators with their faults
abbrev pub wrong : List Refused
wrong =
    ((0x00 ∷ 0x08 ∷ 0x01 ∷ []), Index spaces.Tag, 1)
    ∷ ((0x00 ∷ 0x0c ∷ 0x01 ∷ []), Index spaces.Label, 1)
    ∷ ((0x00 ∷ 0x0d ∷ 0x01 ∷ []), Index spaces.Label, 1)
    ∷ ((0x00 ∷ 0x0e ∷ 0x01 ∷ 0x01 ∷ 0x00 ∷ []), Index spaces.Label, 1)
    ∷ ((0x00 ∷ 0x0e ∷ 0x01 ∷ 0x00 ∷ 0x01 ∷ []), Index spaces.Label, 1)
    ∷ ((0x00 ∷ 0x10 ∷ 0x01 ∷ []), Index spaces.Function, 1)
    ∷ ((0x00 ∷ 0x12 ∷ 0x01 ∷ []), Index spaces.Function, 1)
    ∷ ((0x00 ∷ 0xd2 ∷ 0x01 ∷ []), Index spaces.Function, 1)
    ∷ ((0x00 ∷ 0x11 ∷ 0x05 ∷ 0x00 ∷ []), Index spaces.Type, 1)
    ∷ ((0x00 ∷ 0x11 ∷ 0x00 ∷ 0x01 ∷ []), Index spaces.Table, 1)
    ∷ ((0x00 ∷ 0x11 ∷ 0x05 ∷ 0x01 ∷ []), Index spaces.Type, 1)
    ∷ ((0x00 ∷ 0x11 ∷ 0x05 ∷ 0x80 ∷ 0x80 ∷ 0x80 ∷ 0x80 ∷ 0x80 ∷ []), Read kinds.TooLong, 7)
    ∷ ((0x00 ∷ 0x14 ∷ 0x05 ∷ []), Index spaces.Type, 1)
    ∷ ((0x00 ∷ 0x1c ∷ 0x00 ∷ []), Unsupported unsupported.Select, 1)
    ∷ ((0x00 ∷ 0x1c ∷ 0x02 ∷ 0x7f ∷ 0x7f ∷ []), Unsupported unsupported.Select, 1)
    ∷ ((0x00 ∷ 0x1c ∷ 0x02 ∷ 0x7f ∷ 0x63 ∷ 0x05 ∷ []), Index spaces.Type, 1)
    ∷ ((0x00 ∷ 0x1c ∷ 0x01 ∷ 0x41 ∷ []), Read kinds.BadByte, 3)
    ∷ ((0x00 ∷ 0x20 ∷ 0x01 ∷ []), Index spaces.Local, 1)
    ∷ ((0x00 ∷ 0x23 ∷ 0x01 ∷ []), Index spaces.Global, 1)
    ∷ ((0x00 ∷ 0x25 ∷ 0x01 ∷ []), Index spaces.Table, 1)
    ∷ ((0x00 ∷ 0x28 ∷ 0x20 ∷ 0x00 ∷ []), Bounds, 1)
    ∷ ((0x00 ∷ 0x28 ∷ 0x80 ∷ 0x01 ∷ 0x00 ∷ []), Bounds, 1)
    ∷ ((0x00 ∷ 0x28 ∷ 0x02 ∷ 0x80 ∷ 0x80 ∷ 0x80 ∷ 0x80 ∷ 0x10 ∷ []), Bounds, 1)
    ∷ ((0x00 ∷ 0x28 ∷ 0x42 ∷ 0x02 ∷ 0x00 ∷ []), Index spaces.Memory, 1)
    ∷ ((0x00 ∷ 0x28 ∷ 0x62 ∷ 0x02 ∷ 0x00 ∷ []), Index spaces.Memory, 1)
    ∷ ((0x00 ∷ 0x3f ∷ 0x02 ∷ []), Index spaces.Memory, 1)
    ∷ ((0x00 ∷ 0x41 ∷ 0x80 ∷ 0x80 ∷ 0x80 ∷ 0x80 ∷ 0x08 ∷ []), Read kinds.TooLarge, 6)
    ∷ ((0x00 ∷ 0x42 ∷ 0x80 ∷ 0x80 ∷ 0x80 ∷ 0x80 ∷ 0x80 ∷ 0x80 ∷ 0x80 ∷ 0x80 ∷ 0x80 ∷ 0x02 ∷ []), Read kinds.TooLarge, 11)
    ∷ ((0x00 ∷ 0xd0 ∷ 0x05 ∷ []), Index spaces.Type, 1)
    ∷ ((0x00 ∷ 0xd0 ∷ 0x40 ∷ []), Read kinds.BadByte, 2)
    ∷ ((0x00 ∷ 0xd0 ∷ 0xf0 ∷ 0x7f ∷ []), Read kinds.BadByte, 2)
    ∷ ((0x00 ∷ 0xd0 ∷ 0x80 ∷ 0x80 ∷ 0xc0 ∷ 0x00 ∷ []), Read kinds.Limit, 2)
    ∷ ((0x00 ∷ 0xd0 ∷ 0x65 ∷ 0x70 ∷ []), Read (kinds.Feature shared_types), 2)
    ∷ ((0x00 ∷ 0xfc ∷ 0x08 ∷ 0x01 ∷ 0x00 ∷ []), Index spaces.Data, 1)
    ∷ ((0x00 ∷ 0xfc ∷ 0x08 ∷ 0x00 ∷ 0x02 ∷ []), Index spaces.Memory, 1)
    ∷ ((0x00 ∷ 0xfc ∷ 0x09 ∷ 0x01 ∷ []), Index spaces.Data, 1)
    ∷ ((0x00 ∷ 0xfc ∷ 0x0a ∷ 0x02 ∷ 0x00 ∷ []), Index spaces.Memory, 1)
    ∷ ((0x00 ∷ 0xfc ∷ 0x0b ∷ 0x02 ∷ []), Index spaces.Memory, 1)
    ∷ ((0x00 ∷ 0xfc ∷ 0x0c ∷ 0x01 ∷ 0x00 ∷ []), Index spaces.Element, 1)
    ∷ ((0x00 ∷ 0xfc ∷ 0x0c ∷ 0x00 ∷ 0x01 ∷ []), Index spaces.Table, 1)
    ∷ ((0x00 ∷ 0xfc ∷ 0x0d ∷ 0x01 ∷ []), Index spaces.Element, 1)
    ∷ ((0x00 ∷ 0xfc ∷ 0x0e ∷ 0x00 ∷ 0x01 ∷ []), Index spaces.Table, 1)
    ∷ ((0x00 ∷ 0xfb ∷ 0x02 ∷ 0x05 ∷ 0x00 ∷ []), Index spaces.Type, 1)
    ∷ ((0x00 ∷ 0xfb ∷ 0x09 ∷ 0x02 ∷ 0x01 ∷ []), Index spaces.Data, 1)
    ∷ ((0x00 ∷ 0xfb ∷ 0x0a ∷ 0x02 ∷ 0x01 ∷ []), Index spaces.Element, 1)
    ∷ ((0x00 ∷ 0xfb ∷ 0x11 ∷ 0x02 ∷ 0x05 ∷ []), Index spaces.Type, 1)
    ∷ ((0x00 ∷ 0xfb ∷ 0x18 ∷ 0x04 ∷ 0x00 ∷ 0x70 ∷ 0x70 ∷ []), Read kinds.BadByte, 3)
    ∷ ((0x00 ∷ 0xfb ∷ 0x18 ∷ 0x00 ∷ 0x01 ∷ 0x70 ∷ 0x70 ∷ []), Index spaces.Label, 1)
    ∷ ((0x00 ∷ 0xfb ∷ 0x18 ∷ 0x00 ∷ 0x00 ∷ 0x05 ∷ 0x70 ∷ []), Index spaces.Type, 1)
    ∷ ((0x00 ∷ 0xfb ∷ 0x18 ∷ 0x00 ∷ 0x00 ∷ 0x70 ∷ 0x05 ∷ []), Index spaces.Type, 1)
    ∷ ((0x00 ∷ 0xfd ∷ 0x54 ∷ 0x20 ∷ 0x00 ∷ 0x00 ∷ []), Bounds, 1)
    ∷ ((0x00 ∷ 0xfe ∷ 0x03 ∷ 0x01 ∷ []), Read kinds.BadByte, 3)
    ∷ ((0x00 ∷ 0xfe ∷ 0x10 ∷ 0x00 ∷ 0x80 ∷ 0x80 ∷ 0x80 ∷ 0x80 ∷ 0x10 ∷ []), Bounds, 1)
    ∷ ((0x00 ∷ 0xff ∷ []), Operator, 1)
    ∷ ((0x00 ∷ 0x16 ∷ []), Operator, 1)
    ∷ ((0x00 ∷ 0xfd ∷ 0x9a ∷ 0x01 ∷ 0xff ∷ []), Operator, 1)
    ∷ ((0x00 ∷ 0xfc ∷ 0x80 ∷ 0x80 ∷ 0x04 ∷ []), Operator, 1)
    ∷ ((0x00 ∷ 0xfc ∷ []), Read (kinds.EndOfFile 1), 2)
    ∷ ((0x00 ∷ 0xfc ∷ 0x80 ∷ 0x80 ∷ 0x80 ∷ 0x80 ∷ 0x10 ∷ []), Read kinds.TooLarge, 6)
    ∷ []

-- blocks with their faults
abbrev pub wrong_control : List Refused
wrong_control =
    ((0x00 ∷ 0x05 ∷ 0x0b ∷ []), Nesting, 1)
    ∷ ((0x00 ∷ 0x02 ∷ 0x40 ∷ 0x05 ∷ 0x0b ∷ 0x0b ∷ []), Nesting, 3)
    ∷ ((0x00 ∷ 0x03 ∷ 0x40 ∷ 0x05 ∷ 0x0b ∷ 0x0b ∷ []), Nesting, 3)
    ∷ ((0x00 ∷ 0x04 ∷ 0x40 ∷ 0x05 ∷ 0x05 ∷ 0x0b ∷ 0x0b ∷ []), Nesting, 4)
    ∷ ((0x00 ∷ 0x06 ∷ 0x40 ∷ 0x05 ∷ 0x0b ∷ 0x0b ∷ []), Nesting, 3)
    ∷ ((0x00 ∷ 0x07 ∷ 0x00 ∷ 0x0b ∷ []), Nesting, 1)
    ∷ ((0x00 ∷ 0x19 ∷ 0x0b ∷ []), Nesting, 1)
    ∷ ((0x00 ∷ 0x04 ∷ 0x40 ∷ 0x19 ∷ 0x0b ∷ 0x0b ∷ []), Nesting, 3)
    ∷ ((0x00 ∷ 0x1f ∷ 0x40 ∷ 0x00 ∷ 0x07 ∷ 0x00 ∷ 0x0b ∷ 0x0b ∷ []), Nesting, 4)
    ∷ ((0x00 ∷ 0x06 ∷ 0x40 ∷ 0x19 ∷ 0x07 ∷ 0x00 ∷ 0x0b ∷ 0x0b ∷ []), Position, 4)
    ∷ ((0x00 ∷ 0x06 ∷ 0x40 ∷ 0x19 ∷ 0x19 ∷ 0x0b ∷ 0x0b ∷ []), Position, 4)
    ∷ ((0x00 ∷ 0x06 ∷ 0x40 ∷ 0x07 ∷ 0x00 ∷ 0x18 ∷ 0x00 ∷ 0x0b ∷ []), Position, 5)
    ∷ ((0x00 ∷ 0x06 ∷ 0x40 ∷ 0x19 ∷ 0x18 ∷ 0x00 ∷ 0x0b ∷ []), Position, 4)
    ∷ ((0x00 ∷ 0x18 ∷ 0x00 ∷ 0x0b ∷ []), Index spaces.Label, 1)
    ∷ ((0x00 ∷ 0x02 ∷ 0x40 ∷ 0x18 ∷ 0x00 ∷ 0x0b ∷ 0x0b ∷ []), Nesting, 3)
    ∷ ((0x00 ∷ 0x02 ∷ 0x40 ∷ 0x18 ∷ 0x01 ∷ 0x0b ∷ 0x0b ∷ []), Index spaces.Label, 3)
    ∷ ((0x00 ∷ 0x06 ∷ 0x40 ∷ 0x18 ∷ 0x01 ∷ 0x0b ∷ []), Index spaces.Label, 3)
    ∷ ((0x00 ∷ 0x07 ∷ 0x01 ∷ 0x0b ∷ []), Index spaces.Tag, 1)
    ∷ ((0x00 ∷ 0x02 ∷ 0x40 ∷ 0x0c ∷ 0x02 ∷ 0x0b ∷ 0x0b ∷ []), Index spaces.Label, 3)
    ∷ ((0x00 ∷ 0x1f ∷ 0x40 ∷ 0x01 ∷ 0x00 ∷ 0x00 ∷ 0x01 ∷ 0x0b ∷ 0x0b ∷ []), Index spaces.Label, 1)
    ∷ ((0x00 ∷ 0x1f ∷ 0x40 ∷ 0x01 ∷ 0x00 ∷ 0x01 ∷ 0x00 ∷ 0x0b ∷ 0x0b ∷ []), Index spaces.Tag, 1)
    ∷ ((0x00 ∷ 0x1f ∷ 0x40 ∷ 0x01 ∷ 0x02 ∷ 0x01 ∷ 0x0b ∷ 0x0b ∷ []), Index spaces.Label, 1)
    ∷ ((0x00 ∷ 0x1f ∷ 0x40 ∷ 0x01 ∷ 0x04 ∷ 0x00 ∷ 0x0b ∷ 0x0b ∷ []), Read kinds.BadByte, 4)
    ∷ ((0x00 ∷ 0x1f ∷ 0x40 ∷ 0x01 ∷ 0x00 ∷ 0x00 ∷ []), Read (kinds.EndOfFile 1), 6)
    ∷ ((0x00 ∷ 0x02 ∷ 0x02 ∷ 0x0b ∷ 0x0b ∷ []), TypeForm, 1)
    ∷ ((0x00 ∷ 0x02 ∷ 0x03 ∷ 0x0b ∷ 0x0b ∷ []), TypeForm, 1)
    ∷ ((0x00 ∷ 0x02 ∷ 0x05 ∷ 0x0b ∷ 0x0b ∷ []), Index spaces.Type, 1)
    ∷ ((0x00 ∷ 0x02 ∷ 0x63 ∷ 0x05 ∷ 0x0b ∷ 0x0b ∷ []), Index spaces.Type, 1)
    ∷ ((0x00 ∷ 0x02 ∷ 0x41 ∷ 0x0b ∷ 0x0b ∷ []), Read kinds.BadByte, 2)
    ∷ ((0x00 ∷ 0x02 ∷ 0x80 ∷ 0x7f ∷ 0x0b ∷ 0x0b ∷ []), Read kinds.BadByte, 2)
    ∷ ((0x00 ∷ 0x02 ∷ []), Read (kinds.EndOfFile 1), 2)
    ∷ ((0x00 ∷ 0x06 ∷ 0x40 ∷ 0x07 ∷ 0x01 ∷ 0x18 ∷ 0x00 ∷ 0x0b ∷ []), Index spaces.Tag, 3)
    ∷ ((0x00 ∷ 0x0b ∷ 0x0b ∷ []), Nesting, 2)
    ∷ ((0x00 ∷ 0x0b ∷ 0x41 ∷ []), Nesting, 2)
    ∷ ((0x00 ∷ 0x0b ∷ 0xff ∷ []), Nesting, 2)
    ∷ ((0x00 ∷ 0x02 ∷ 0x40 ∷ 0x0b ∷ []), Read (kinds.EndOfFile 1), 4)
    ∷ ((0x00 ∷ []), Read (kinds.EndOfFile 1), 1)
    ∷ []

-- locals with their faults
abbrev pub wrong_locals : List Refused
wrong_locals =
    ([], Read (kinds.EndOfFile 1), 0)
    ∷ ((0x01 ∷ []), Read (kinds.EndOfFile 1), 1)
    ∷ ((0x01 ∷ 0x01 ∷ []), Read (kinds.EndOfFile 1), 2)
    ∷ ((0x01 ∷ 0xd0 ∷ 0x86 ∷ 0x03 ∷ 0x7f ∷ 0x0b ∷ []), Limit limits.Locals, 1)
    ∷ ((0x02 ∷ 0x01 ∷ 0x7f ∷ 0xcf ∷ 0x86 ∷ 0x03 ∷ 0x41 ∷ 0x0b ∷ []), Limit limits.Locals, 3)
    ∷ ((0x01 ∷ 0x01 ∷ 0x41 ∷ 0x0b ∷ []), Read kinds.BadByte, 2)
    ∷ ((0x01 ∷ 0x01 ∷ 0x63 ∷ 0x05 ∷ 0x0b ∷ []), Index spaces.Type, 2)
    ∷ ((0x01 ∷ 0x80 ∷ 0x80 ∷ 0x80 ∷ 0x80 ∷ 0x80 ∷ 0x7f ∷ []), Read kinds.TooLong, 5)
    ∷ ((0x01 ∷ 0x01 ∷ 0x65 ∷ 0x70 ∷ 0x0b ∷ []), Read (kinds.Feature shared_types), 2)
    ∷ ((0x80 ∷ 0x80 ∷ 0x80 ∷ 0x80 ∷ 0x10 ∷ []), Read kinds.TooLarge, 4)
    ∷ []

-- these bodies are read so, where shared types are read
abbrev pub AreReadShared : List (List ℕ × Body) → Type 0
AreReadShared cases =
    map (λ c. body_at (sharing shapes) 1 2 c.0) cases ≡ map (λ (c : List ℕ × Body). (let read : Result Body Stop = Ok c.1 in read)) cases

-- a shared type of an operator, of a block, of a `select` and of a local
abbrev pub shared_shapes : List (List ℕ × Body)
shared_shapes =
    ((0x00 ∷ 0xd0 ∷ 0x65 ∷ 0x70 ∷ 0x0b ∷ []), just (at 3 (op 0xd0 (Heap (Abstract true abstracts.Func) ∷ [])) ∷ at 6 (op 0x0b []) ∷ []))
    ∷ ((0x00 ∷ 0x02 ∷ 0x65 ∷ 0x70 ∷ 0x0b ∷ 0x0b ∷ []), just (at 3 (op 0x02 (Block (blocks.Value (values.Ref (reference true (Abstract true abstracts.Func)))) ∷ [])) ∷ at 6 (op 0x0b []) ∷ at 7 (op 0x0b []) ∷ []))
    ∷ ((0x00 ∷ 0x1c ∷ 0x01 ∷ 0x65 ∷ 0x70 ∷ 0x0b ∷ []), just (at 3 (op 0x1c (ManyValues (values.Ref (reference true (Abstract true abstracts.Func)) ∷ []) ∷ [])) ∷ at 7 (op 0x0b []) ∷ []))
    ∷ ((0x01 ∷ 0x01 ∷ 0x64 ∷ 0x65 ∷ 0x70 ∷ 0x0b ∷ []), with_local shared_funcref (at 7 (op 0x0b []) ∷ []))
    ∷ []

pub record ShapesHold : Type 0 where
  pub plain : AreRead plain_shapes
  pub control : AreReadAs control_shapes
  pub ended : AreRefused cut
  pub refused : AreRefused wrong
  pub control_refused : AreRefused wrong_control
  pub locals_refused : AreRefused wrong_locals
  pub shared_read : AreReadShared shared_shapes
