-- Codes of the operators of two operands (Core Specification, binary format: numeric instructions, vector instructions).
use Rattle.std.specs.Prelude.{ℕ, ◌==◌, nat_lt, List, [], ◌∷◌, Option, Some, None, if◌then◌else◌}
use Rattle.walrus_instr.specs.declared.operators.BinaryOp.{BinaryOp}
use Rattle.walrus_instr.specs.declared.operators.BinaryOp.TheVariants.{I32Eq, I32Ne, I32LtS, I32LtU, I32GtS, I32GtU, I32LeS, I32LeU, I32GeS, I32GeU, I64Eq, I64Ne, I64LtS, I64LtU, I64GtS, I64GtU, I64LeS, I64LeU, I64GeS, I64GeU, F32Eq, F32Ne, F32Lt, F32Gt, F32Le, F32Ge, F64Eq, F64Ne, F64Lt, F64Gt, F64Le, F64Ge, I32Add, I32Sub, I32Mul, I32DivS, I32DivU, I32RemS, I32RemU, I32And, I32Or, I32Xor, I32Shl, I32ShrS, I32ShrU, I32Rotl, I32Rotr, I64Add, I64Sub, I64Mul, I64DivS, I64DivU, I64RemS, I64RemU, I64And, I64Or, I64Xor, I64Shl, I64ShrS, I64ShrU, I64Rotl, I64Rotr, F32Add, F32Sub, F32Mul, F32Div, F32Min, F32Max, F32Copysign, F64Add, F64Sub, F64Mul, F64Div, F64Min, F64Max, F64Copysign, I8x16ReplaceLane, I16x8ReplaceLane, I32x4ReplaceLane, I64x2ReplaceLane, F32x4ReplaceLane, F64x2ReplaceLane, I8x16Eq, I8x16Ne, I8x16LtS, I8x16LtU, I8x16GtS, I8x16GtU, I8x16LeS, I8x16LeU, I8x16GeS, I8x16GeU, I16x8Eq, I16x8Ne, I16x8LtS, I16x8LtU, I16x8GtS, I16x8GtU, I16x8LeS, I16x8LeU, I16x8GeS, I16x8GeU, I32x4Eq, I32x4Ne, I32x4LtS, I32x4LtU, I32x4GtS, I32x4GtU, I32x4LeS, I32x4LeU, I32x4GeS, I32x4GeU, I64x2Eq, I64x2Ne, I64x2LtS, I64x2GtS, I64x2LeS, I64x2GeS, F32x4Eq, F32x4Ne, F32x4Lt, F32x4Gt, F32x4Le, F32x4Ge, F64x2Eq, F64x2Ne, F64x2Lt, F64x2Gt, F64x2Le, F64x2Ge, V128And, V128Andnot, V128Or, V128Xor, I8x16NarrowI16x8S, I8x16NarrowI16x8U, I8x16Shl, I8x16ShrS, I8x16ShrU, I8x16Add, I8x16AddSatS, I8x16AddSatU, I8x16Sub, I8x16SubSatS, I8x16SubSatU, I8x16MinS, I8x16MinU, I8x16MaxS, I8x16MaxU, I8x16AvgrU, I16x8Q15mulrSatS, I16x8NarrowI32x4S, I16x8NarrowI32x4U, I16x8Shl, I16x8ShrS, I16x8ShrU, I16x8Add, I16x8AddSatS, I16x8AddSatU, I16x8Sub, I16x8SubSatS, I16x8SubSatU, I16x8Mul, I16x8MinS, I16x8MinU, I16x8MaxS, I16x8MaxU, I16x8AvgrU, I16x8ExtmulLowI8x16S, I16x8ExtmulHighI8x16S, I16x8ExtmulLowI8x16U, I16x8ExtmulHighI8x16U, I32x4Shl, I32x4ShrS, I32x4ShrU, I32x4Add, I32x4Sub, I32x4Mul, I32x4MinS, I32x4MinU, I32x4MaxS, I32x4MaxU, I32x4DotI16x8S, I32x4ExtmulLowI16x8S, I32x4ExtmulHighI16x8S, I32x4ExtmulLowI16x8U, I32x4ExtmulHighI16x8U, I64x2Shl, I64x2ShrS, I64x2ShrU, I64x2Add, I64x2Sub, I64x2Mul, I64x2ExtmulLowI32x4S, I64x2ExtmulHighI32x4S, I64x2ExtmulLowI32x4U, I64x2ExtmulHighI32x4U, F32x4Add, F32x4Sub, F32x4Mul, F32x4Div, F32x4Min, F32x4Max, F32x4Pmin, F32x4Pmax, F64x2Add, F64x2Sub, F64x2Mul, F64x2Div, F64x2Min, F64x2Max, F64x2Pmin, F64x2Pmax, I8x16RelaxedSwizzle, F32x4RelaxedMin, F32x4RelaxedMax, F64x2RelaxedMin, F64x2RelaxedMax, I16x8RelaxedQ15mulrS, I16x8RelaxedDotI8x16I7x16S, I64MulWideS, I64MulWideU}
use Rattle.wasm_operators.specs.declared.op_code.OpCode.{OpCode}
use Rattle.walrus_codes.specs.Runs.{Run, run, in_runs, byte, bulk, vector}

-- those of one byte
unfoldable pub binary_bytes : List (Run BinaryOp)
binary_bytes =
    run 0x46 (I32Eq ∷ I32Ne ∷ I32LtS ∷ I32LtU ∷ I32GtS ∷ I32GtU ∷ I32LeS ∷ I32LeU ∷ I32GeS ∷ I32GeU ∷ [])
    ∷ run 0x51 (
    I64Eq ∷ I64Ne ∷ I64LtS ∷ I64LtU ∷ I64GtS ∷ I64GtU ∷ I64LeS ∷ I64LeU ∷ I64GeS ∷ I64GeU ∷ F32Eq ∷ F32Ne ∷
    F32Lt ∷ F32Gt ∷ F32Le ∷ F32Ge ∷ F64Eq ∷ F64Ne ∷ F64Lt ∷ F64Gt ∷ F64Le ∷ F64Ge ∷ [])
    ∷ run 0x6a (
    I32Add ∷ I32Sub ∷ I32Mul ∷ I32DivS ∷ I32DivU ∷ I32RemS ∷ I32RemU ∷ I32And ∷ I32Or ∷ I32Xor ∷ I32Shl ∷
    I32ShrS ∷ I32ShrU ∷ I32Rotl ∷ I32Rotr ∷ [])
    ∷ run 0x7c (
    I64Add ∷ I64Sub ∷ I64Mul ∷ I64DivS ∷ I64DivU ∷ I64RemS ∷ I64RemU ∷ I64And ∷ I64Or ∷ I64Xor ∷ I64Shl ∷
    I64ShrS ∷ I64ShrU ∷ I64Rotl ∷ I64Rotr ∷ [])
    ∷ run 0x92 (F32Add ∷ F32Sub ∷ F32Mul ∷ F32Div ∷ F32Min ∷ F32Max ∷ F32Copysign ∷ [])
    ∷ run 0xa0 (F64Add ∷ F64Sub ∷ F64Mul ∷ F64Div ∷ F64Min ∷ F64Max ∷ F64Copysign ∷ [])
    ∷ []

-- those behind fc
unfoldable pub binary_bulks : List (Run BinaryOp)
binary_bulks =
    run 21 (I64MulWideS ∷ I64MulWideU ∷ [])
    ∷ []

-- those behind fd, below 128
unfoldable pub low_binary_vectors : List (Run BinaryOp)
low_binary_vectors =
    run 35 (
    I8x16Eq ∷ I8x16Ne ∷ I8x16LtS ∷ I8x16LtU ∷ I8x16GtS ∷ I8x16GtU ∷ I8x16LeS ∷ I8x16LeU ∷ I8x16GeS ∷
    I8x16GeU ∷ I16x8Eq ∷ I16x8Ne ∷ I16x8LtS ∷ I16x8LtU ∷ I16x8GtS ∷ I16x8GtU ∷ I16x8LeS ∷ I16x8LeU ∷
    I16x8GeS ∷ I16x8GeU ∷ I32x4Eq ∷ I32x4Ne ∷ I32x4LtS ∷ I32x4LtU ∷ I32x4GtS ∷ I32x4GtU ∷ I32x4LeS ∷
    I32x4LeU ∷ I32x4GeS ∷ I32x4GeU ∷ F32x4Eq ∷ F32x4Ne ∷ F32x4Lt ∷ F32x4Gt ∷ F32x4Le ∷ F32x4Ge ∷ F64x2Eq ∷
    F64x2Ne ∷ F64x2Lt ∷ F64x2Gt ∷ F64x2Le ∷ F64x2Ge ∷ [])
    ∷ run 78 (V128And ∷ V128Andnot ∷ V128Or ∷ V128Xor ∷ [])
    ∷ run 101 (I8x16NarrowI16x8S ∷ I8x16NarrowI16x8U ∷ [])
    ∷ run 107 (
    I8x16Shl ∷ I8x16ShrS ∷ I8x16ShrU ∷ I8x16Add ∷ I8x16AddSatS ∷ I8x16AddSatU ∷ I8x16Sub ∷ I8x16SubSatS ∷
    I8x16SubSatU ∷ [])
    ∷ run 118 (I8x16MinS ∷ I8x16MinU ∷ I8x16MaxS ∷ I8x16MaxU ∷ [])
    ∷ run 123 (I8x16AvgrU ∷ [])
    ∷ []

-- those behind fd, from 128 on
unfoldable pub high_binary_vectors : List (Run BinaryOp)
high_binary_vectors =
    run 130 (I16x8Q15mulrSatS ∷ [])
    ∷ run 133 (I16x8NarrowI32x4S ∷ I16x8NarrowI32x4U ∷ [])
    ∷ run 139 (
    I16x8Shl ∷ I16x8ShrS ∷ I16x8ShrU ∷ I16x8Add ∷ I16x8AddSatS ∷ I16x8AddSatU ∷ I16x8Sub ∷ I16x8SubSatS ∷
    I16x8SubSatU ∷ [])
    ∷ run 149 (I16x8Mul ∷ I16x8MinS ∷ I16x8MinU ∷ I16x8MaxS ∷ I16x8MaxU ∷ [])
    ∷ run 155 (
    I16x8AvgrU ∷ I16x8ExtmulLowI8x16S ∷ I16x8ExtmulHighI8x16S ∷ I16x8ExtmulLowI8x16U ∷
    I16x8ExtmulHighI8x16U ∷ [])
    ∷ run 171 (I32x4Shl ∷ I32x4ShrS ∷ I32x4ShrU ∷ I32x4Add ∷ [])
    ∷ run 177 (I32x4Sub ∷ [])
    ∷ run 181 (I32x4Mul ∷ I32x4MinS ∷ I32x4MinU ∷ I32x4MaxS ∷ I32x4MaxU ∷ I32x4DotI16x8S ∷ [])
    ∷ run 188 (
    I32x4ExtmulLowI16x8S ∷ I32x4ExtmulHighI16x8S ∷ I32x4ExtmulLowI16x8U ∷ I32x4ExtmulHighI16x8U ∷ [])
    ∷ run 203 (I64x2Shl ∷ I64x2ShrS ∷ I64x2ShrU ∷ I64x2Add ∷ [])
    ∷ run 209 (I64x2Sub ∷ [])
    ∷ run 213 (
    I64x2Mul ∷ I64x2Eq ∷ I64x2Ne ∷ I64x2LtS ∷ I64x2GtS ∷ I64x2LeS ∷ I64x2GeS ∷ I64x2ExtmulLowI32x4S ∷
    I64x2ExtmulHighI32x4S ∷ I64x2ExtmulLowI32x4U ∷ I64x2ExtmulHighI32x4U ∷ [])
    ∷ run 228 (F32x4Add ∷ F32x4Sub ∷ F32x4Mul ∷ F32x4Div ∷ F32x4Min ∷ F32x4Max ∷ F32x4Pmin ∷ F32x4Pmax ∷ [])
    ∷ run 240 (F64x2Add ∷ F64x2Sub ∷ F64x2Mul ∷ F64x2Div ∷ F64x2Min ∷ F64x2Max ∷ F64x2Pmin ∷ F64x2Pmax ∷ [])
    ∷ run 256 (I8x16RelaxedSwizzle ∷ [])
    ∷ run 269 (
    F32x4RelaxedMin ∷ F32x4RelaxedMax ∷ F64x2RelaxedMin ∷ F64x2RelaxedMax ∷ I16x8RelaxedQ15mulrS ∷
    I16x8RelaxedDotI8x16I7x16S ∷ [])
    ∷ []

-- those behind fd that hold a lane
unfoldable pub binary_lanes : ℕ → List (Run BinaryOp)
binary_lanes lane =
    run 23 (I8x16ReplaceLane lane ∷ [])
    ∷ run 26 (I16x8ReplaceLane lane ∷ [])
    ∷ run 28 (I32x4ReplaceLane lane ∷ [])
    ∷ run 30 (I64x2ReplaceLane lane ∷ [])
    ∷ run 32 (F32x4ReplaceLane lane ∷ [])
    ∷ run 34 (F64x2ReplaceLane lane ∷ [])
    ∷ []

abbrev pub binary_vector_at : ℕ → Option BinaryOp
binary_vector_at n = if nat_lt n 128 then in_runs low_binary_vectors n else in_runs high_binary_vectors n

abbrev pub bare_binary_at : OpCode → Option BinaryOp
bare_binary_at code =
    if code.prefix == 0 then in_runs binary_bytes code.number
    else (if code.prefix == 0xfc then in_runs binary_bulks code.number
    else (if code.prefix == 0xfd then binary_vector_at code.number
    else None))

-- the operator of a code, and of the lane behind it, if there is one
abbrev pub binary_at : OpCode → Option ℕ → Option BinaryOp
binary_at code None = bare_binary_at code
binary_at code (Some lane) = if code.prefix == 0xfd then in_runs (binary_lanes lane) code.number else None

-- the code of each
abbrev pub binary_code : BinaryOp → OpCode
binary_code I32Eq = byte 0x46
binary_code I32Ne = byte 0x47
binary_code I32LtS = byte 0x48
binary_code I32LtU = byte 0x49
binary_code I32GtS = byte 0x4a
binary_code I32GtU = byte 0x4b
binary_code I32LeS = byte 0x4c
binary_code I32LeU = byte 0x4d
binary_code I32GeS = byte 0x4e
binary_code I32GeU = byte 0x4f
binary_code I64Eq = byte 0x51
binary_code I64Ne = byte 0x52
binary_code I64LtS = byte 0x53
binary_code I64LtU = byte 0x54
binary_code I64GtS = byte 0x55
binary_code I64GtU = byte 0x56
binary_code I64LeS = byte 0x57
binary_code I64LeU = byte 0x58
binary_code I64GeS = byte 0x59
binary_code I64GeU = byte 0x5a
binary_code F32Eq = byte 0x5b
binary_code F32Ne = byte 0x5c
binary_code F32Lt = byte 0x5d
binary_code F32Gt = byte 0x5e
binary_code F32Le = byte 0x5f
binary_code F32Ge = byte 0x60
binary_code F64Eq = byte 0x61
binary_code F64Ne = byte 0x62
binary_code F64Lt = byte 0x63
binary_code F64Gt = byte 0x64
binary_code F64Le = byte 0x65
binary_code F64Ge = byte 0x66
binary_code I32Add = byte 0x6a
binary_code I32Sub = byte 0x6b
binary_code I32Mul = byte 0x6c
binary_code I32DivS = byte 0x6d
binary_code I32DivU = byte 0x6e
binary_code I32RemS = byte 0x6f
binary_code I32RemU = byte 0x70
binary_code I32And = byte 0x71
binary_code I32Or = byte 0x72
binary_code I32Xor = byte 0x73
binary_code I32Shl = byte 0x74
binary_code I32ShrS = byte 0x75
binary_code I32ShrU = byte 0x76
binary_code I32Rotl = byte 0x77
binary_code I32Rotr = byte 0x78
binary_code I64Add = byte 0x7c
binary_code I64Sub = byte 0x7d
binary_code I64Mul = byte 0x7e
binary_code I64DivS = byte 0x7f
binary_code I64DivU = byte 0x80
binary_code I64RemS = byte 0x81
binary_code I64RemU = byte 0x82
binary_code I64And = byte 0x83
binary_code I64Or = byte 0x84
binary_code I64Xor = byte 0x85
binary_code I64Shl = byte 0x86
binary_code I64ShrS = byte 0x87
binary_code I64ShrU = byte 0x88
binary_code I64Rotl = byte 0x89
binary_code I64Rotr = byte 0x8a
binary_code F32Add = byte 0x92
binary_code F32Sub = byte 0x93
binary_code F32Mul = byte 0x94
binary_code F32Div = byte 0x95
binary_code F32Min = byte 0x96
binary_code F32Max = byte 0x97
binary_code F32Copysign = byte 0x98
binary_code F64Add = byte 0xa0
binary_code F64Sub = byte 0xa1
binary_code F64Mul = byte 0xa2
binary_code F64Div = byte 0xa3
binary_code F64Min = byte 0xa4
binary_code F64Max = byte 0xa5
binary_code F64Copysign = byte 0xa6
binary_code I64MulWideS = bulk 21
binary_code I64MulWideU = bulk 22
binary_code (I8x16ReplaceLane _) = vector 23
binary_code (I16x8ReplaceLane _) = vector 26
binary_code (I32x4ReplaceLane _) = vector 28
binary_code (I64x2ReplaceLane _) = vector 30
binary_code (F32x4ReplaceLane _) = vector 32
binary_code (F64x2ReplaceLane _) = vector 34
binary_code I8x16Eq = vector 35
binary_code I8x16Ne = vector 36
binary_code I8x16LtS = vector 37
binary_code I8x16LtU = vector 38
binary_code I8x16GtS = vector 39
binary_code I8x16GtU = vector 40
binary_code I8x16LeS = vector 41
binary_code I8x16LeU = vector 42
binary_code I8x16GeS = vector 43
binary_code I8x16GeU = vector 44
binary_code I16x8Eq = vector 45
binary_code I16x8Ne = vector 46
binary_code I16x8LtS = vector 47
binary_code I16x8LtU = vector 48
binary_code I16x8GtS = vector 49
binary_code I16x8GtU = vector 50
binary_code I16x8LeS = vector 51
binary_code I16x8LeU = vector 52
binary_code I16x8GeS = vector 53
binary_code I16x8GeU = vector 54
binary_code I32x4Eq = vector 55
binary_code I32x4Ne = vector 56
binary_code I32x4LtS = vector 57
binary_code I32x4LtU = vector 58
binary_code I32x4GtS = vector 59
binary_code I32x4GtU = vector 60
binary_code I32x4LeS = vector 61
binary_code I32x4LeU = vector 62
binary_code I32x4GeS = vector 63
binary_code I32x4GeU = vector 64
binary_code F32x4Eq = vector 65
binary_code F32x4Ne = vector 66
binary_code F32x4Lt = vector 67
binary_code F32x4Gt = vector 68
binary_code F32x4Le = vector 69
binary_code F32x4Ge = vector 70
binary_code F64x2Eq = vector 71
binary_code F64x2Ne = vector 72
binary_code F64x2Lt = vector 73
binary_code F64x2Gt = vector 74
binary_code F64x2Le = vector 75
binary_code F64x2Ge = vector 76
binary_code V128And = vector 78
binary_code V128Andnot = vector 79
binary_code V128Or = vector 80
binary_code V128Xor = vector 81
binary_code I8x16NarrowI16x8S = vector 101
binary_code I8x16NarrowI16x8U = vector 102
binary_code I8x16Shl = vector 107
binary_code I8x16ShrS = vector 108
binary_code I8x16ShrU = vector 109
binary_code I8x16Add = vector 110
binary_code I8x16AddSatS = vector 111
binary_code I8x16AddSatU = vector 112
binary_code I8x16Sub = vector 113
binary_code I8x16SubSatS = vector 114
binary_code I8x16SubSatU = vector 115
binary_code I8x16MinS = vector 118
binary_code I8x16MinU = vector 119
binary_code I8x16MaxS = vector 120
binary_code I8x16MaxU = vector 121
binary_code I8x16AvgrU = vector 123
binary_code I16x8Q15mulrSatS = vector 130
binary_code I16x8NarrowI32x4S = vector 133
binary_code I16x8NarrowI32x4U = vector 134
binary_code I16x8Shl = vector 139
binary_code I16x8ShrS = vector 140
binary_code I16x8ShrU = vector 141
binary_code I16x8Add = vector 142
binary_code I16x8AddSatS = vector 143
binary_code I16x8AddSatU = vector 144
binary_code I16x8Sub = vector 145
binary_code I16x8SubSatS = vector 146
binary_code I16x8SubSatU = vector 147
binary_code I16x8Mul = vector 149
binary_code I16x8MinS = vector 150
binary_code I16x8MinU = vector 151
binary_code I16x8MaxS = vector 152
binary_code I16x8MaxU = vector 153
binary_code I16x8AvgrU = vector 155
binary_code I16x8ExtmulLowI8x16S = vector 156
binary_code I16x8ExtmulHighI8x16S = vector 157
binary_code I16x8ExtmulLowI8x16U = vector 158
binary_code I16x8ExtmulHighI8x16U = vector 159
binary_code I32x4Shl = vector 171
binary_code I32x4ShrS = vector 172
binary_code I32x4ShrU = vector 173
binary_code I32x4Add = vector 174
binary_code I32x4Sub = vector 177
binary_code I32x4Mul = vector 181
binary_code I32x4MinS = vector 182
binary_code I32x4MinU = vector 183
binary_code I32x4MaxS = vector 184
binary_code I32x4MaxU = vector 185
binary_code I32x4DotI16x8S = vector 186
binary_code I32x4ExtmulLowI16x8S = vector 188
binary_code I32x4ExtmulHighI16x8S = vector 189
binary_code I32x4ExtmulLowI16x8U = vector 190
binary_code I32x4ExtmulHighI16x8U = vector 191
binary_code I64x2Shl = vector 203
binary_code I64x2ShrS = vector 204
binary_code I64x2ShrU = vector 205
binary_code I64x2Add = vector 206
binary_code I64x2Sub = vector 209
binary_code I64x2Mul = vector 213
binary_code I64x2Eq = vector 214
binary_code I64x2Ne = vector 215
binary_code I64x2LtS = vector 216
binary_code I64x2GtS = vector 217
binary_code I64x2LeS = vector 218
binary_code I64x2GeS = vector 219
binary_code I64x2ExtmulLowI32x4S = vector 220
binary_code I64x2ExtmulHighI32x4S = vector 221
binary_code I64x2ExtmulLowI32x4U = vector 222
binary_code I64x2ExtmulHighI32x4U = vector 223
binary_code F32x4Add = vector 228
binary_code F32x4Sub = vector 229
binary_code F32x4Mul = vector 230
binary_code F32x4Div = vector 231
binary_code F32x4Min = vector 232
binary_code F32x4Max = vector 233
binary_code F32x4Pmin = vector 234
binary_code F32x4Pmax = vector 235
binary_code F64x2Add = vector 240
binary_code F64x2Sub = vector 241
binary_code F64x2Mul = vector 242
binary_code F64x2Div = vector 243
binary_code F64x2Min = vector 244
binary_code F64x2Max = vector 245
binary_code F64x2Pmin = vector 246
binary_code F64x2Pmax = vector 247
binary_code I8x16RelaxedSwizzle = vector 256
binary_code F32x4RelaxedMin = vector 269
binary_code F32x4RelaxedMax = vector 270
binary_code F64x2RelaxedMin = vector 271
binary_code F64x2RelaxedMax = vector 272
binary_code I16x8RelaxedQ15mulrS = vector 273
binary_code I16x8RelaxedDotI8x16I7x16S = vector 274

-- the lane that it holds
abbrev pub binary_lane : BinaryOp → Option ℕ
binary_lane (I8x16ReplaceLane lane) = Some lane
binary_lane (I16x8ReplaceLane lane) = Some lane
binary_lane (I32x4ReplaceLane lane) = Some lane
binary_lane (I64x2ReplaceLane lane) = Some lane
binary_lane (F32x4ReplaceLane lane) = Some lane
binary_lane (F64x2ReplaceLane lane) = Some lane
binary_lane _ = None
