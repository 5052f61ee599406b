-- Bodies of whole modules: which body each is, with the places of its operators, or why it is refused, at which place of the file.
use Rattle.std.specs.Prelude.{ℕ, ◌+◌, ◌-◌, ◌≡◌, pos, ◌==◌, List, [], ◌∷◌, length, map, Some, None, Result, Ok, Err, if◌then◌else◌}
use Rattle.wasm_reader.specs.declared.error.ErrorKind.TheVariants as kinds
use Rattle.wasm_ref_types.specs.declared.value.ValType.TheVariants as values
use Rattle.walrus_forms.specs.declared.value.ValType.TheVariants.{I32, I64}
use Rattle.walrus_forms.specs.Kinds.{function_kind, struct_kind}
use Rattle.wasm_operators.specs.declared.block_type.BlockType.TheVariants as blocks
use Rattle.wasm_operators.specs.Items.{Functions, Tags, DataSegments, Locals, Labels, Names, S32, Block}
use Rattle.wasm_formats.specs.declared.fault.Space.TheVariants as spaces
use Rattle.wasm_formats.specs.declared.fault.Limited.TheVariants as limits
use Rattle.wasm_formats.specs.Stops.{Trouble, Read, Index, TypeForm, Nesting, Position, Operator, Limit, Stop, stop}
use Rattle.wasm_grammar.specs.Modules.{Body, empty}
use Rattle.wasm_body_grammar.specs.Rules.{Around, pick}
use Rattle.wasm_body_grammar.specs.Bodies.{body_at}
use Rattle.wasm_body_grammar_tests.specs.Examples.{one, two, around, groups_of, to, with_segment, with_tag, with_open, counting, without_legacy, op, prefixed, at, just}

-- the place at which a body's bytes begin in the code section's contents, and its bytes
abbrev pub ReadRow : Type 0
ReadRow = ℕ × List ℕ × Body

abbrev pub RowsRead : Around → List ReadRow → Type 0
RowsRead a rows = map (λ r. body_at a 0 r.0 r.1) rows ≡ map (λ (r : ReadRow). (let read : Result Body Stop = Ok r.2 in read)) rows

-- the place of the file at which a body's bytes begin, its bytes, and the trouble with its place of the file
abbrev pub RefusedRow : Type 0
RefusedRow = ℕ × List ℕ × Trouble × ℕ

abbrev pub RowsStop : Around → List RefusedRow → Type 0
RowsStop a rows =
    map (λ r. body_at a 0 2 r.1) rows ≡ map (λ (r : RefusedRow). (let no : Result Body Stop = Err (stop r.2 (r.0 + length r.1 - r.3)) in no)) rows

-- of modules with one function
abbrev pub one_read : List ReadRow
one_read =
    (2, (0x00 ∷ 0x01 ∷ 0x0b ∷ []), just (at 3 (op 0x01 []) ∷ at 4 (op 0x0b []) ∷ []))
    ∷ (2, (0x00 ∷ 0x0b ∷ []), just (at 3 (op 0x0b []) ∷ []))
    ∷ (2, (0x00 ∷ 0x41 ∷ 0x01 ∷ 0x04 ∷ 0x40 ∷ 0x0b ∷ 0x0b ∷ []), just (at 3 (op 0x41 (S32 (pos 1) ∷ [])) ∷ at 5 (op 0x04 (Block blocks.Empty ∷ [])) ∷ at 7 (op 0x0b []) ∷ at 8 (op 0x0b []) ∷ []))
    ∷ (2, (0x02 ∷ 0x01 ∷ 0x7f ∷ 0x01 ∷ 0x7e ∷ 0x20 ∷ 0x01 ∷ 0x1a ∷ 0x0b ∷ []), record { locals = I32 ∷ I64 ∷ []; operators = (at 7 (op 0x20 (Names Locals 1 ∷ [])) ∷ at 9 (op 0x1a []) ∷ at 10 (op 0x0b []) ∷ []) })
    ∷ (2, (0x01 ∷ 0x01 ∷ 0x7f ∷ 0x20 ∷ 0x00 ∷ 0x1a ∷ 0x0b ∷ []), record { locals = I32 ∷ []; operators = (at 5 (op 0x20 (Names Locals 0 ∷ [])) ∷ at 7 (op 0x1a []) ∷ at 8 (op 0x0b []) ∷ []) })
    ∷ (2, (0x00 ∷ 0x0f ∷ 0x41 ∷ 0x07 ∷ 0x1a ∷ 0x0b ∷ []), just (at 3 (op 0x0f []) ∷ at 4 (op 0x41 (S32 (pos 7) ∷ [])) ∷ at 6 (op 0x1a []) ∷ at 7 (op 0x0b []) ∷ []))
    ∷ (2, (0x00 ∷ 0x41 ∷ 0x07 ∷ 0x1a ∷ 0x01 ∷ 0x41 ∷ 0x07 ∷ 0x1a ∷ 0x0b ∷ []), just (at 3 (op 0x41 (S32 (pos 7) ∷ [])) ∷ at 5 (op 0x1a []) ∷ at 6 (op 0x01 []) ∷ at 7 (op 0x41 (S32 (pos 7) ∷ [])) ∷ at 9 (op 0x1a []) ∷ at 10 (op 0x0b []) ∷ []))
    ∷ (2, (0x00 ∷ 0x02 ∷ 0x40 ∷ 0x0c ∷ 0x00 ∷ 0x01 ∷ 0x41 ∷ 0x07 ∷ 0x1a ∷ 0x0b ∷ 0x41 ∷ 0x08 ∷ 0x1a ∷ 0x0b ∷ []), just (at 3 (op 0x02 (Block blocks.Empty ∷ [])) ∷ at 5 (op 0x0c (Names Labels 0 ∷ [])) ∷ at 7 (op 0x01 []) ∷ at 8 (op 0x41 (S32 (pos 7) ∷ [])) ∷ at 10 (op 0x1a []) ∷ at 11 (op 0x0b []) ∷ at 12 (op 0x41 (S32 (pos 8) ∷ [])) ∷ at 14 (op 0x1a []) ∷ at 15 (op 0x0b []) ∷ []))
    ∷ []

-- of modules with two
abbrev pub two_read : List ReadRow
two_read =
    (2, (0x00 ∷ 0x0f ∷ 0x0b ∷ []), just (at 3 (op 0x0f []) ∷ at 4 (op 0x0b []) ∷ []))
    ∷ (6, (0x00 ∷ 0x0b ∷ []), just (at 7 (op 0x0b []) ∷ []))
    ∷ (2, (0x00 ∷ 0x10 ∷ 0x01 ∷ 0x0b ∷ []), just (at 3 (op 0x10 (Names Functions 1 ∷ [])) ∷ at 5 (op 0x0b []) ∷ []))
    ∷ (7, (0x00 ∷ 0x41 ∷ 0x07 ∷ 0x1a ∷ 0x0b ∷ []), just (at 8 (op 0x41 (S32 (pos 7) ∷ [])) ∷ at 10 (op 0x1a []) ∷ at 11 (op 0x0b []) ∷ []))
    ∷ (2, (0x00 ∷ 0x12 ∷ 0x00 ∷ 0x10 ∷ 0x01 ∷ 0x0b ∷ []), just (at 3 (op 0x12 (Names Functions 0 ∷ [])) ∷ at 5 (op 0x10 (Names Functions 1 ∷ [])) ∷ at 7 (op 0x0b []) ∷ []))
    ∷ (2, (0x00 ∷ 0xd2 ∷ 0x01 ∷ 0x1a ∷ 0x0b ∷ []), just (at 3 (op 0xd2 (Names Functions 1 ∷ [])) ∷ at 5 (op 0x1a []) ∷ at 6 (op 0x0b []) ∷ []))
    ∷ []

-- `data.drop`, with a data count section
abbrev pub segment_read : List ReadRow
segment_read =
    (2, (0x00 ∷ 0xfc ∷ 0x09 ∷ 0x00 ∷ 0x0b ∷ []), just (at 3 (prefixed 0xfc 9 (Names DataSegments 0 ∷ [])) ∷ at 6 (op 0x0b []) ∷ []))
    ∷ []

-- a legacy `try` with a handler
abbrev pub tag_read : List ReadRow
tag_read =
    (2, (0x00 ∷ 0x06 ∷ 0x7f ∷ 0x41 ∷ 0x01 ∷ 0x07 ∷ 0x00 ∷ 0x0b ∷ 0x1a ∷ 0x0b ∷ []), just (at 3 (op 0x06 (Block (blocks.Value values.I32) ∷ [])) ∷ at 5 (op 0x41 (S32 (pos 1) ∷ [])) ∷ at 7 (op 0x07 (Names Tags 0 ∷ [])) ∷ at 9 (op 0x0b []) ∷ at 10 (op 0x1a []) ∷ at 11 (op 0x0b []) ∷ []))
    ∷ []

-- a local that isn't there, a heap type that is no spelling of one, a function that isn't there, too many locals, a missing `end`, and
-- bytes behind the last one
abbrev pub one_stop : List RefusedRow
one_stop =
    (29, (0x00 ∷ 0x0f ∷ 0x20 ∷ 0x00 ∷ 0x0b ∷ []), Index spaces.Local, 31)
    ∷ (29, (0x00 ∷ 0xd0 ∷ 0xf0 ∷ 0x7f ∷ 0x1a ∷ 0x0b ∷ []), Read kinds.BadByte, 31)
    ∷ (29, (0x00 ∷ 0x10 ∷ 0x05 ∷ 0x0b ∷ []), Index spaces.Function, 30)
    ∷ (29, (0x01 ∷ 0xff ∷ 0xff ∷ 0xff ∷ 0xff ∷ 0x0f ∷ 0x7f ∷ 0x0b ∷ []), Limit limits.Locals, 30)
    ∷ (29, (0x00 ∷ 0x02 ∷ 0x40 ∷ 0x0b ∷ []), Read (kinds.EndOfFile 1), 33)
    ∷ (29, (0x00 ∷ 0x0b ∷ 0x01 ∷ 0x0b ∷ []), Nesting, 31)
    ∷ []

-- `data.drop` without a data count section
abbrev pub segment_stop : List RefusedRow
segment_stop =
    (34, (0x00 ∷ 0xfc ∷ 0x09 ∷ 0x00 ∷ 0x0b ∷ []), Position, 35)
    ∷ []

-- a legacy `try` where these are off
abbrev pub legacy_stop : List RefusedRow
legacy_stop =
    (38, (0x00 ∷ 0x06 ∷ 0x7f ∷ 0x41 ∷ 0x01 ∷ 0x07 ∷ 0x00 ∷ 0x0b ∷ 0x1a ∷ 0x0b ∷ []), Operator, 39)
    ∷ []

-- a block type that names an open function type
abbrev pub open_stop : List RefusedRow
open_stop =
    (45, (0x00 ∷ 0x06 ∷ 0x7f ∷ 0x41 ∷ 0x01 ∷ 0x07 ∷ 0x00 ∷ 0x0b ∷ 0x02 ∷ 0x02 ∷ 0x0b ∷ 0x1a ∷ 0x0b ∷ []), TypeForm, 53)
    ∷ []

pub record RowsHold : Type 0 where
  pub of_one : RowsRead one one_read
  pub of_two : RowsRead two two_read
  pub of_segment : RowsRead (counting with_segment) segment_read
  pub of_tag : RowsRead with_tag tag_read
  pub stops_one : RowsStop one one_stop
  pub stops_segment : RowsStop with_segment segment_stop
  pub stops_legacy : RowsStop (without_legacy with_tag) legacy_stop
  pub stops_open : RowsStop with_open open_stop

-- ---- picks

-- two equal types with two results, and two structure types, one for each reference that a type takes
abbrev pub twice : Around
twice = around (record empty { groups = groups_of (function_kind [] (I32 ∷ I64 ∷ []) ∷ function_kind [] (I32 ∷ I64 ∷ []) ∷ struct_kind [] ∷ struct_kind [] ∷ function_kind (to 2 ∷ []) [] ∷ []) })

-- where the second of each two stands for the first
abbrev pub stands_for : ℕ → ℕ
stands_for t = if t == 1 then 0 else if t == 3 then 2 else t

pub record PicksHold : Type 0 where
  pub none : pick twice [] [] ≡ Some blocks.Empty
  pub single : pick twice [] (I32 ∷ []) ≡ Some (blocks.Value values.I32)
  pub latest : pick twice [] (I32 ∷ I64 ∷ []) ≡ Some (blocks.Type 1)
  pub missing : pick twice (I32 ∷ []) [] ≡ None
  pub other : pick twice (to 3 ∷ []) [] ≡ None
  pub same : pick (record twice { same = stands_for }) (to 3 ∷ []) [] ≡ Some (blocks.Type 4)
  pub leading : pick (record twice { same = stands_for }) [] (I32 ∷ I64 ∷ []) ≡ Some (blocks.Type 0)
