-- Codes of the operators of one operand (Core Specification, binary format: numeric instructions, vector instructions).
use Rattle.std.specs.Prelude.{ℕ, ◌==◌, nat_lt, List, [], ◌∷◌, Option, Some, None, if◌then◌else◌}
use Rattle.walrus_instr.specs.declared.operators.UnaryOp.{UnaryOp}
use Rattle.walrus_instr.specs.declared.operators.UnaryOp.TheVariants.{I32Eqz, I32Clz, I32Ctz, I32Popcnt, I64Eqz, I64Clz, I64Ctz, I64Popcnt, F32Abs, F32Neg, F32Ceil, F32Floor, F32Trunc, F32Nearest, F32Sqrt, F64Abs, F64Neg, F64Ceil, F64Floor, F64Trunc, F64Nearest, F64Sqrt, I32WrapI64, I32TruncSF32, I32TruncUF32, I32TruncSF64, I32TruncUF64, I64ExtendSI32, I64ExtendUI32, I64TruncSF32, I64TruncUF32, I64TruncSF64, I64TruncUF64, F32ConvertSI32, F32ConvertUI32, F32ConvertSI64, F32ConvertUI64, F32DemoteF64, F64ConvertSI32, F64ConvertUI32, F64ConvertSI64, F64ConvertUI64, F64PromoteF32, I32ReinterpretF32, I64ReinterpretF64, F32ReinterpretI32, F64ReinterpretI64, I32Extend8S, I32Extend16S, I64Extend8S, I64Extend16S, I64Extend32S, I32TruncSatF32S, I32TruncSatF32U, I32TruncSatF64S, I32TruncSatF64U, I64TruncSatF32S, I64TruncSatF32U, I64TruncSatF64S, I64TruncSatF64U, I8x16Splat, I16x8Splat, I32x4Splat, I64x2Splat, F32x4Splat, F64x2Splat, I8x16ExtractLaneS, I8x16ExtractLaneU, I16x8ExtractLaneS, I16x8ExtractLaneU, I32x4ExtractLane, I64x2ExtractLane, F32x4ExtractLane, F64x2ExtractLane, V128Not, V128AnyTrue, F32x4DemoteF64x2Zero, F64x2PromoteLowF32x4, I8x16Abs, I8x16Neg, I8x16Popcnt, I8x16AllTrue, I8x16Bitmask, F32x4Ceil, F32x4Floor, F32x4Trunc, F32x4Nearest, F64x2Ceil, F64x2Floor, F64x2Trunc, F64x2Nearest, I16x8ExtaddPairwiseI8x16S, I16x8ExtaddPairwiseI8x16U, I32x4ExtaddPairwiseI16x8S, I32x4ExtaddPairwiseI16x8U, I16x8Abs, I16x8Neg, I16x8AllTrue, I16x8Bitmask, I16x8ExtendLowI8x16S, I16x8ExtendHighI8x16S, I16x8ExtendLowI8x16U, I16x8ExtendHighI8x16U, I32x4Abs, I32x4Neg, I32x4AllTrue, I32x4Bitmask, I32x4ExtendLowI16x8S, I32x4ExtendHighI16x8S, I32x4ExtendLowI16x8U, I32x4ExtendHighI16x8U, I64x2Abs, I64x2Neg, I64x2AllTrue, I64x2Bitmask, I64x2ExtendLowI32x4S, I64x2ExtendHighI32x4S, I64x2ExtendLowI32x4U, I64x2ExtendHighI32x4U, F32x4Abs, F32x4Neg, F32x4Sqrt, F64x2Abs, F64x2Neg, F64x2Sqrt, I32x4TruncSatF32x4S, I32x4TruncSatF32x4U, F32x4ConvertI32x4S, F32x4ConvertI32x4U, I32x4TruncSatF64x2SZero, I32x4TruncSatF64x2UZero, F64x2ConvertLowI32x4S, F64x2ConvertLowI32x4U, I32x4RelaxedTruncF32x4S, I32x4RelaxedTruncF32x4U, I32x4RelaxedTruncF64x2SZero, I32x4RelaxedTruncF64x2UZero}
use Rattle.wasm_operators.specs.declared.op_code.OpCode.{OpCode}
use Rattle.walrus_codes.specs.Runs.{Run, run, in_runs, byte, bulk, vector}

-- those of one byte
unfoldable pub unary_bytes : List (Run UnaryOp)
unary_bytes =
    run 0x45 (I32Eqz ∷ [])
    ∷ run 0x50 (I64Eqz ∷ [])
    ∷ run 0x67 (I32Clz ∷ I32Ctz ∷ I32Popcnt ∷ [])
    ∷ run 0x79 (I64Clz ∷ I64Ctz ∷ I64Popcnt ∷ [])
    ∷ run 0x8b (F32Abs ∷ F32Neg ∷ F32Ceil ∷ F32Floor ∷ F32Trunc ∷ F32Nearest ∷ F32Sqrt ∷ [])
    ∷ run 0x99 (F64Abs ∷ F64Neg ∷ F64Ceil ∷ F64Floor ∷ F64Trunc ∷ F64Nearest ∷ F64Sqrt ∷ [])
    ∷ run 0xa7 (
    I32WrapI64 ∷ I32TruncSF32 ∷ I32TruncUF32 ∷ I32TruncSF64 ∷ I32TruncUF64 ∷ I64ExtendSI32 ∷
    I64ExtendUI32 ∷ I64TruncSF32 ∷ I64TruncUF32 ∷ I64TruncSF64 ∷ I64TruncUF64 ∷ F32ConvertSI32 ∷
    F32ConvertUI32 ∷ F32ConvertSI64 ∷ F32ConvertUI64 ∷ F32DemoteF64 ∷ F64ConvertSI32 ∷ F64ConvertUI32 ∷
    F64ConvertSI64 ∷ F64ConvertUI64 ∷ F64PromoteF32 ∷ I32ReinterpretF32 ∷ I64ReinterpretF64 ∷
    F32ReinterpretI32 ∷ F64ReinterpretI64 ∷ I32Extend8S ∷ I32Extend16S ∷ I64Extend8S ∷ I64Extend16S ∷
    I64Extend32S ∷ [])
    ∷ []

-- those behind fc
unfoldable pub unary_bulks : List (Run UnaryOp)
unary_bulks =
    run 0 (
    I32TruncSatF32S ∷ I32TruncSatF32U ∷ I32TruncSatF64S ∷ I32TruncSatF64U ∷ I64TruncSatF32S ∷
    I64TruncSatF32U ∷ I64TruncSatF64S ∷ I64TruncSatF64U ∷ [])
    ∷ []

-- those behind fd, below 128
unfoldable pub low_unary_vectors : List (Run UnaryOp)
low_unary_vectors =
    run 15 (I8x16Splat ∷ I16x8Splat ∷ I32x4Splat ∷ I64x2Splat ∷ F32x4Splat ∷ F64x2Splat ∷ [])
    ∷ run 77 (V128Not ∷ [])
    ∷ run 83 (V128AnyTrue ∷ [])
    ∷ run 94 (
    F32x4DemoteF64x2Zero ∷ F64x2PromoteLowF32x4 ∷ I8x16Abs ∷ I8x16Neg ∷ I8x16Popcnt ∷ I8x16AllTrue ∷
    I8x16Bitmask ∷ [])
    ∷ run 103 (F32x4Ceil ∷ F32x4Floor ∷ F32x4Trunc ∷ F32x4Nearest ∷ [])
    ∷ run 116 (F64x2Ceil ∷ F64x2Floor ∷ [])
    ∷ run 122 (F64x2Trunc ∷ [])
    ∷ run 124 (I16x8ExtaddPairwiseI8x16S ∷ I16x8ExtaddPairwiseI8x16U ∷ I32x4ExtaddPairwiseI16x8S ∷ I32x4ExtaddPairwiseI16x8U ∷ [])
    ∷ []

-- those behind fd, from 128 on
unfoldable pub high_unary_vectors : List (Run UnaryOp)
high_unary_vectors =
    run 128 (I16x8Abs ∷ I16x8Neg ∷ [])
    ∷ run 131 (I16x8AllTrue ∷ I16x8Bitmask ∷ [])
    ∷ run 135 (
    I16x8ExtendLowI8x16S ∷ I16x8ExtendHighI8x16S ∷ I16x8ExtendLowI8x16U ∷ I16x8ExtendHighI8x16U ∷ [])
    ∷ run 148 (F64x2Nearest ∷ [])
    ∷ run 160 (I32x4Abs ∷ I32x4Neg ∷ [])
    ∷ run 163 (I32x4AllTrue ∷ I32x4Bitmask ∷ [])
    ∷ run 167 (
    I32x4ExtendLowI16x8S ∷ I32x4ExtendHighI16x8S ∷ I32x4ExtendLowI16x8U ∷ I32x4ExtendHighI16x8U ∷ [])
    ∷ run 192 (I64x2Abs ∷ I64x2Neg ∷ [])
    ∷ run 195 (I64x2AllTrue ∷ I64x2Bitmask ∷ [])
    ∷ run 199 (
    I64x2ExtendLowI32x4S ∷ I64x2ExtendHighI32x4S ∷ I64x2ExtendLowI32x4U ∷ I64x2ExtendHighI32x4U ∷ [])
    ∷ run 224 (F32x4Abs ∷ F32x4Neg ∷ [])
    ∷ run 227 (F32x4Sqrt ∷ [])
    ∷ run 236 (F64x2Abs ∷ F64x2Neg ∷ [])
    ∷ run 239 (F64x2Sqrt ∷ [])
    ∷ run 248 (
    I32x4TruncSatF32x4S ∷ I32x4TruncSatF32x4U ∷ F32x4ConvertI32x4S ∷ F32x4ConvertI32x4U ∷
    I32x4TruncSatF64x2SZero ∷ I32x4TruncSatF64x2UZero ∷ F64x2ConvertLowI32x4S ∷ F64x2ConvertLowI32x4U ∷ [])
    ∷ run 257 (
    I32x4RelaxedTruncF32x4S ∷ I32x4RelaxedTruncF32x4U ∷ I32x4RelaxedTruncF64x2SZero ∷
    I32x4RelaxedTruncF64x2UZero ∷ [])
    ∷ []

-- those behind fd that hold a lane
unfoldable pub unary_lanes : ℕ → List (Run UnaryOp)
unary_lanes lane =
    run 21 (I8x16ExtractLaneS lane ∷ I8x16ExtractLaneU lane ∷ [])
    ∷ run 24 (I16x8ExtractLaneS lane ∷ I16x8ExtractLaneU lane ∷ [])
    ∷ run 27 (I32x4ExtractLane lane ∷ [])
    ∷ run 29 (I64x2ExtractLane lane ∷ [])
    ∷ run 31 (F32x4ExtractLane lane ∷ [])
    ∷ run 33 (F64x2ExtractLane lane ∷ [])
    ∷ []

abbrev pub unary_vector_at : ℕ → Option UnaryOp
unary_vector_at n = if nat_lt n 128 then in_runs low_unary_vectors n else in_runs high_unary_vectors n

abbrev pub bare_unary_at : OpCode → Option UnaryOp
bare_unary_at code =
    if code.prefix == 0 then in_runs unary_bytes code.number
    else (if code.prefix == 0xfc then in_runs unary_bulks code.number
    else (if code.prefix == 0xfd then unary_vector_at code.number
    else None))

-- the operator of a code, and of the lane behind it, if there is one
abbrev pub unary_at : OpCode → Option ℕ → Option UnaryOp
unary_at code None = bare_unary_at code
unary_at code (Some lane) = if code.prefix == 0xfd then in_runs (unary_lanes lane) code.number else None

-- the code of each
abbrev pub unary_code : UnaryOp → OpCode
unary_code I32Eqz = byte 0x45
unary_code I64Eqz = byte 0x50
unary_code I32Clz = byte 0x67
unary_code I32Ctz = byte 0x68
unary_code I32Popcnt = byte 0x69
unary_code I64Clz = byte 0x79
unary_code I64Ctz = byte 0x7a
unary_code I64Popcnt = byte 0x7b
unary_code F32Abs = byte 0x8b
unary_code F32Neg = byte 0x8c
unary_code F32Ceil = byte 0x8d
unary_code F32Floor = byte 0x8e
unary_code F32Trunc = byte 0x8f
unary_code F32Nearest = byte 0x90
unary_code F32Sqrt = byte 0x91
unary_code F64Abs = byte 0x99
unary_code F64Neg = byte 0x9a
unary_code F64Ceil = byte 0x9b
unary_code F64Floor = byte 0x9c
unary_code F64Trunc = byte 0x9d
unary_code F64Nearest = byte 0x9e
unary_code F64Sqrt = byte 0x9f
unary_code I32WrapI64 = byte 0xa7
unary_code I32TruncSF32 = byte 0xa8
unary_code I32TruncUF32 = byte 0xa9
unary_code I32TruncSF64 = byte 0xaa
unary_code I32TruncUF64 = byte 0xab
unary_code I64ExtendSI32 = byte 0xac
unary_code I64ExtendUI32 = byte 0xad
unary_code I64TruncSF32 = byte 0xae
unary_code I64TruncUF32 = byte 0xaf
unary_code I64TruncSF64 = byte 0xb0
unary_code I64TruncUF64 = byte 0xb1
unary_code F32ConvertSI32 = byte 0xb2
unary_code F32ConvertUI32 = byte 0xb3
unary_code F32ConvertSI64 = byte 0xb4
unary_code F32ConvertUI64 = byte 0xb5
unary_code F32DemoteF64 = byte 0xb6
unary_code F64ConvertSI32 = byte 0xb7
unary_code F64ConvertUI32 = byte 0xb8
unary_code F64ConvertSI64 = byte 0xb9
unary_code F64ConvertUI64 = byte 0xba
unary_code F64PromoteF32 = byte 0xbb
unary_code I32ReinterpretF32 = byte 0xbc
unary_code I64ReinterpretF64 = byte 0xbd
unary_code F32ReinterpretI32 = byte 0xbe
unary_code F64ReinterpretI64 = byte 0xbf
unary_code I32Extend8S = byte 0xc0
unary_code I32Extend16S = byte 0xc1
unary_code I64Extend8S = byte 0xc2
unary_code I64Extend16S = byte 0xc3
unary_code I64Extend32S = byte 0xc4
unary_code I32TruncSatF32S = bulk 0
unary_code I32TruncSatF32U = bulk 1
unary_code I32TruncSatF64S = bulk 2
unary_code I32TruncSatF64U = bulk 3
unary_code I64TruncSatF32S = bulk 4
unary_code I64TruncSatF32U = bulk 5
unary_code I64TruncSatF64S = bulk 6
unary_code I64TruncSatF64U = bulk 7
unary_code I8x16Splat = vector 15
unary_code I16x8Splat = vector 16
unary_code I32x4Splat = vector 17
unary_code I64x2Splat = vector 18
unary_code F32x4Splat = vector 19
unary_code F64x2Splat = vector 20
unary_code (I8x16ExtractLaneS _) = vector 21
unary_code (I8x16ExtractLaneU _) = vector 22
unary_code (I16x8ExtractLaneS _) = vector 24
unary_code (I16x8ExtractLaneU _) = vector 25
unary_code (I32x4ExtractLane _) = vector 27
unary_code (I64x2ExtractLane _) = vector 29
unary_code (F32x4ExtractLane _) = vector 31
unary_code (F64x2ExtractLane _) = vector 33
unary_code V128Not = vector 77
unary_code V128AnyTrue = vector 83
unary_code F32x4DemoteF64x2Zero = vector 94
unary_code F64x2PromoteLowF32x4 = vector 95
unary_code I8x16Abs = vector 96
unary_code I8x16Neg = vector 97
unary_code I8x16Popcnt = vector 98
unary_code I8x16AllTrue = vector 99
unary_code I8x16Bitmask = vector 100
unary_code F32x4Ceil = vector 103
unary_code F32x4Floor = vector 104
unary_code F32x4Trunc = vector 105
unary_code F32x4Nearest = vector 106
unary_code F64x2Ceil = vector 116
unary_code F64x2Floor = vector 117
unary_code F64x2Trunc = vector 122
unary_code I16x8ExtaddPairwiseI8x16S = vector 124
unary_code I16x8ExtaddPairwiseI8x16U = vector 125
unary_code I32x4ExtaddPairwiseI16x8S = vector 126
unary_code I32x4ExtaddPairwiseI16x8U = vector 127
unary_code I16x8Abs = vector 128
unary_code I16x8Neg = vector 129
unary_code I16x8AllTrue = vector 131
unary_code I16x8Bitmask = vector 132
unary_code I16x8ExtendLowI8x16S = vector 135
unary_code I16x8ExtendHighI8x16S = vector 136
unary_code I16x8ExtendLowI8x16U = vector 137
unary_code I16x8ExtendHighI8x16U = vector 138
unary_code F64x2Nearest = vector 148
unary_code I32x4Abs = vector 160
unary_code I32x4Neg = vector 161
unary_code I32x4AllTrue = vector 163
unary_code I32x4Bitmask = vector 164
unary_code I32x4ExtendLowI16x8S = vector 167
unary_code I32x4ExtendHighI16x8S = vector 168
unary_code I32x4ExtendLowI16x8U = vector 169
unary_code I32x4ExtendHighI16x8U = vector 170
unary_code I64x2Abs = vector 192
unary_code I64x2Neg = vector 193
unary_code I64x2AllTrue = vector 195
unary_code I64x2Bitmask = vector 196
unary_code I64x2ExtendLowI32x4S = vector 199
unary_code I64x2ExtendHighI32x4S = vector 200
unary_code I64x2ExtendLowI32x4U = vector 201
unary_code I64x2ExtendHighI32x4U = vector 202
unary_code F32x4Abs = vector 224
unary_code F32x4Neg = vector 225
unary_code F32x4Sqrt = vector 227
unary_code F64x2Abs = vector 236
unary_code F64x2Neg = vector 237
unary_code F64x2Sqrt = vector 239
unary_code I32x4TruncSatF32x4S = vector 248
unary_code I32x4TruncSatF32x4U = vector 249
unary_code F32x4ConvertI32x4S = vector 250
unary_code F32x4ConvertI32x4U = vector 251
unary_code I32x4TruncSatF64x2SZero = vector 252
unary_code I32x4TruncSatF64x2UZero = vector 253
unary_code F64x2ConvertLowI32x4S = vector 254
unary_code F64x2ConvertLowI32x4U = vector 255
unary_code I32x4RelaxedTruncF32x4S = vector 257
unary_code I32x4RelaxedTruncF32x4U = vector 258
unary_code I32x4RelaxedTruncF64x2SZero = vector 259
unary_code I32x4RelaxedTruncF64x2UZero = vector 260

-- the lane that it holds
abbrev pub unary_lane : UnaryOp → Option ℕ
unary_lane (I8x16ExtractLaneS lane) = Some lane
unary_lane (I8x16ExtractLaneU lane) = Some lane
unary_lane (I16x8ExtractLaneS lane) = Some lane
unary_lane (I16x8ExtractLaneU lane) = Some lane
unary_lane (I32x4ExtractLane lane) = Some lane
unary_lane (I64x2ExtractLane lane) = Some lane
unary_lane (F32x4ExtractLane lane) = Some lane
unary_lane (F64x2ExtractLane lane) = Some lane
unary_lane _ = None
