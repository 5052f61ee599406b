-- Codes of the operators of three operands (Core Specification, binary format: vector instructions).
use Rattle.std.specs.Prelude.{◌==◌, List, [], ◌∷◌, Option, None, if◌then◌else◌}
use Rattle.walrus_instr.specs.declared.operators.TernaryOp.{TernaryOp}
use Rattle.walrus_instr.specs.declared.operators.TernaryOp.TheVariants.{F32x4RelaxedMadd, F32x4RelaxedNmadd, F64x2RelaxedMadd, F64x2RelaxedNmadd, I8x16RelaxedLaneselect, I16x8RelaxedLaneselect, I32x4RelaxedLaneselect, I64x2RelaxedLaneselect, I32x4RelaxedDotI8x16I7x16AddS}
use Rattle.wasm_operators.specs.declared.op_code.OpCode.{OpCode}
use Rattle.walrus_codes.specs.Runs.{Run, run, in_runs, vector}

-- those behind fd
unfoldable pub ternary_vectors : List (Run TernaryOp)
ternary_vectors =
    run 261 (
    F32x4RelaxedMadd ∷ F32x4RelaxedNmadd ∷ F64x2RelaxedMadd ∷ F64x2RelaxedNmadd ∷ I8x16RelaxedLaneselect ∷
    I16x8RelaxedLaneselect ∷ I32x4RelaxedLaneselect ∷ I64x2RelaxedLaneselect ∷ [])
    ∷ run 275 (I32x4RelaxedDotI8x16I7x16AddS ∷ [])
    ∷ []

-- the operator of a code
abbrev pub ternary_at : OpCode → Option TernaryOp
ternary_at code = if code.prefix == 0xfd then in_runs ternary_vectors code.number else None

-- the code of each
abbrev pub ternary_code : TernaryOp → OpCode
ternary_code F32x4RelaxedMadd = vector 261
ternary_code F32x4RelaxedNmadd = vector 262
ternary_code F64x2RelaxedMadd = vector 263
ternary_code F64x2RelaxedNmadd = vector 264
ternary_code I8x16RelaxedLaneselect = vector 265
ternary_code I16x8RelaxedLaneselect = vector 266
ternary_code I32x4RelaxedLaneselect = vector 267
ternary_code I64x2RelaxedLaneselect = vector 268
ternary_code I32x4RelaxedDotI8x16I7x16AddS = vector 275
