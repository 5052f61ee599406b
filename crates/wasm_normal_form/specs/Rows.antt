-- Bodies and their normal forms, byte for byte.
use Rattle.std.specs.Prelude.{◌≡◌, ℕ, ◌+◌, pos, List, [], ◌∷◌, length, Some}
use Rattle.walrus_forms.specs.declared.value.ValType.{ValType}
use Rattle.walrus_forms.specs.declared.value.ValType.TheVariants as values
use Rattle.wasm_operators.specs.wasm_ref_types.declared.value.ValType.TheVariants.{I32}
use Rattle.wasm_operators.specs.declared.block_type.BlockType.{BlockType}
use Rattle.wasm_operators.specs.declared.block_type.BlockType.TheVariants as blocks
use Rattle.wasm_operators.specs.Items.{Functions, DataSegments, Tags, Labels, Locals, Item, Names, S32, Block}
use Rattle.wasm_operators.specs.Operators.{Seen, op_code}
use Rattle.wasm_operators.specs.Bytes.{operator_bytes}
use Rattle.wasm_normal_form.specs.Roles.{Placed, placed, bare, end_op}
use Rattle.wasm_normal_form.specs.Bodies.{Body, normal_body}
use Rattle.wasm_normal_form.specs.Places.{code_bytes, pairs_from}

-- operators one after another, each at its place
abbrev pub placed_from : ℕ → List Seen → List Placed
placed_from at [] = []
placed_from at (op ∷ ops) = placed op (Some at) ∷ placed_from (at + length (operator_bytes op)) ops

abbrev pub operator : ℕ → List Item → Seen
operator byte items = record { code = op_code 0 byte; items = items }

abbrev pub same : BlockType → BlockType
same ty = ty

-- the body of these locals and operators, without parameters and from this place on
abbrev pub body : List ValType → ℕ → List Seen → Body
body locals at ops = record { locals = locals; ops = placed_from at ops }

-- the body has these bytes; its normal form has these locals, these bytes, and from that place on these pairs of places
pub record Becomes (before : Body) (bytes : List ℕ) (locals : List ValType) (written : List ℕ) (at : ℕ) (pairs : List (ℕ × ℕ)) : Type 0 where
  pub spelled : code_bytes before.ops ≡ bytes
  pub used : (normal_body same 0 before).locals ≡ locals
  pub writes : code_bytes (normal_body same 0 before).ops ≡ written
  pub stands : pairs_from at (normal_body same 0 before).ops ≡ pairs

abbrev pub const_op : ℕ → Seen
const_op n = operator 0x41 (S32 (pos n) ∷ [])

abbrev pub drop_op : Seen
drop_op = bare 0x1a

-- a `nop` goes
abbrev pub Nops : Type 0
Nops = Becomes (body [] 3 (bare 0x01 ∷ end_op ∷ [])) (0x01 ∷ 0x0b ∷ []) [] (0x0b ∷ []) 3 ((4, 3) ∷ [])

-- an `if` without `else` gets one, at the place of its `end`
abbrev pub Added : Type 0
Added = Becomes (body [] 3 (const_op 1 ∷ operator 0x04 (Block blocks.Empty ∷ []) ∷ end_op ∷ end_op ∷ []))
    (0x41 ∷ 0x01 ∷ 0x04 ∷ 0x40 ∷ 0x0b ∷ 0x0b ∷ []) [] (0x41 ∷ 0x01 ∷ 0x04 ∷ 0x40 ∷ 0x05 ∷ 0x0b ∷ 0x0b ∷ []) 3 ((3, 3) ∷ (5, 5) ∷ (7, 7) ∷ (8, 9) ∷ [])

-- a local that isn't used goes, and the one behind it gets its number
abbrev pub Unused : Type 0
Unused = Becomes (body (values.I32 ∷ values.I64 ∷ []) 7 (operator 0x20 (Names Locals 1 ∷ []) ∷ drop_op ∷ end_op ∷ []))
    (0x20 ∷ 0x01 ∷ 0x1a ∷ 0x0b ∷ []) (values.I64 ∷ []) (0x20 ∷ 0x00 ∷ 0x1a ∷ 0x0b ∷ []) 5 ((7, 5) ∷ (9, 7) ∷ (10, 8) ∷ [])

-- what is behind a `return` goes
abbrev pub Cut : Type 0
Cut = Becomes (body [] 3 (bare 0x0f ∷ const_op 7 ∷ drop_op ∷ end_op ∷ []))
    (0x0f ∷ 0x41 ∷ 0x07 ∷ 0x1a ∷ 0x0b ∷ []) [] (0x0f ∷ 0x0b ∷ []) 3 ((3, 3) ∷ (7, 4) ∷ [])

-- what is behind a `return_call` stays
abbrev pub Kept : Type 0
Kept = Becomes (body [] 3 (operator 0x12 (Names Functions 0 ∷ []) ∷ operator 0x10 (Names Functions 1 ∷ []) ∷ end_op ∷ []))
    (0x12 ∷ 0x00 ∷ 0x10 ∷ 0x01 ∷ 0x0b ∷ []) [] (0x12 ∷ 0x00 ∷ 0x10 ∷ 0x01 ∷ 0x0b ∷ []) 3 ((3, 3) ∷ (5, 5) ∷ (7, 7) ∷ [])

-- a body that names a data segment stays
abbrev pub Segments : Type 0
Segments = Becomes (body [] 3 (record { code = op_code 0xfc 9; items = Names DataSegments 0 ∷ [] } ∷ end_op ∷ []))
    (0xfc ∷ 0x09 ∷ 0x00 ∷ 0x0b ∷ []) [] (0xfc ∷ 0x09 ∷ 0x00 ∷ 0x0b ∷ []) 3 ((3, 3) ∷ (6, 6) ∷ [])

-- a legacy `try` with a `catch` stays
abbrev pub Handled : Type 0
Handled = Becomes (body [] 3 (operator 0x06 (Block (blocks.Value I32) ∷ []) ∷ const_op 1 ∷ operator 0x07 (Names Tags 0 ∷ []) ∷ end_op ∷ drop_op ∷ end_op ∷ []))
    (0x06 ∷ 0x7f ∷ 0x41 ∷ 0x01 ∷ 0x07 ∷ 0x00 ∷ 0x0b ∷ 0x1a ∷ 0x0b ∷ []) [] (0x06 ∷ 0x7f ∷ 0x41 ∷ 0x01 ∷ 0x07 ∷ 0x00 ∷ 0x0b ∷ 0x1a ∷ 0x0b ∷ []) 3
    ((3, 3) ∷ (5, 5) ∷ (7, 7) ∷ (9, 9) ∷ (10, 10) ∷ (11, 11) ∷ [])

-- a `br` cuts its own sequence alone
abbrev pub Inner : Type 0
Inner = Becomes (body [] 3 (operator 0x02 (Block blocks.Empty ∷ []) ∷ operator 0x0c (Names Labels 0 ∷ []) ∷ bare 0x01 ∷ const_op 7 ∷ drop_op ∷ end_op ∷ const_op 8 ∷ drop_op ∷ end_op ∷ []))
    (0x02 ∷ 0x40 ∷ 0x0c ∷ 0x00 ∷ 0x01 ∷ 0x41 ∷ 0x07 ∷ 0x1a ∷ 0x0b ∷ 0x41 ∷ 0x08 ∷ 0x1a ∷ 0x0b ∷ []) []
    (0x02 ∷ 0x40 ∷ 0x0c ∷ 0x00 ∷ 0x0b ∷ 0x41 ∷ 0x08 ∷ 0x1a ∷ 0x0b ∷ []) 3 ((3, 3) ∷ (5, 5) ∷ (11, 7) ∷ (12, 8) ∷ (14, 10) ∷ (15, 11) ∷ [])

-- a `delegate` carries no place
abbrev pub Handed : Type 0
Handed = Becomes (body [] 3 (operator 0x06 (Block blocks.Empty ∷ []) ∷ operator 0x18 (Names Labels 0 ∷ []) ∷ end_op ∷ []))
    (0x06 ∷ 0x40 ∷ 0x18 ∷ 0x00 ∷ 0x0b ∷ []) [] (0x06 ∷ 0x40 ∷ 0x18 ∷ 0x00 ∷ 0x0b ∷ []) 3 ((3, 3) ∷ (7, 7) ∷ [])
