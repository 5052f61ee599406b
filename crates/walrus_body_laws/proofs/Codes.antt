-- Lemmas: codes of operators that stand in a sequence.
use Rattle.std.specs.Prelude.{◌≡◌, true, false, refl}
use Rattle.wasm_operators.specs.Table.{structure_rows, call_rows, plain_rows, fb_rows, fc_rows, fd_rows, fe_rows}
use Rattle.walrus_instr.specs.declared.memory.ExtendedLoad.TheVariants as extends
use Rattle.walrus_instr.specs.declared.memory.LoadKind.{LoadKind}
use Rattle.walrus_instr.specs.declared.memory.LoadKind.TheVariants as loads
use Rattle.walrus_instr.specs.declared.memory.StoreKind.{StoreKind}
use Rattle.walrus_instr.specs.declared.memory.StoreKind.TheVariants as stores
use Rattle.walrus_instr.specs.declared.memory.LoadSimdKind.{LoadSimdKind}
use Rattle.walrus_instr.specs.declared.memory.AtomicOp.{AtomicOp}
use Rattle.walrus_instr.specs.declared.memory.AtomicOp.TheVariants as changes
use Rattle.walrus_instr.specs.declared.memory.AtomicWidth.{AtomicWidth}
use Rattle.walrus_instr.specs.declared.memory.AtomicWidth.TheVariants as widths
use Rattle.walrus_instr.specs.declared.operators.UnaryOp.{UnaryOp}
use Rattle.walrus_instr.specs.declared.operators.BinaryOp.{BinaryOp}
use Rattle.walrus_instr.specs.declared.operators.TernaryOp.{TernaryOp}
use Rattle.wasm_normal_form.specs.Roles.{Runs}
use Rattle.walrus_codes.specs.Unary.{unary_code}
use Rattle.walrus_codes.specs.Binary.{binary_code}
use Rattle.walrus_codes.specs.Ternary.{ternary_code}
use Rattle.walrus_codes.specs.Access.{load_code, store_code, simd_code, rmw_code, cmpxchg_code}
use Rattle.walrus_pairing.specs.Write.{test_code, cast_code}
use Rattle.walrus_body_laws.specs.Naming.{role_at}
use Rattle.walrus_instr.specs.declared.operators.UnaryOp.TheVariants as units
use Rattle.walrus_instr.specs.declared.operators.BinaryOp.TheVariants as pairs
use Rattle.walrus_instr.specs.declared.operators.TernaryOp.TheVariants as triples
use Rattle.walrus_instr.specs.declared.memory.LoadSimdKind.TheVariants as vectors

pub unary_runs : (o : UnaryOp) → role_at (unary_code o) ≡ Runs
unfolding structure_rows call_rows plain_rows fb_rows fc_rows fd_rows fe_rows
unary_runs units.I32Eqz = refl
unary_runs units.I32Clz = refl
unary_runs units.I32Ctz = refl
unary_runs units.I32Popcnt = refl
unary_runs units.I64Eqz = refl
unary_runs units.I64Clz = refl
unary_runs units.I64Ctz = refl
unary_runs units.I64Popcnt = refl
unary_runs units.F32Abs = refl
unary_runs units.F32Neg = refl
unary_runs units.F32Ceil = refl
unary_runs units.F32Floor = refl
unary_runs units.F32Trunc = refl
unary_runs units.F32Nearest = refl
unary_runs units.F32Sqrt = refl
unary_runs units.F64Abs = refl
unary_runs units.F64Neg = refl
unary_runs units.F64Ceil = refl
unary_runs units.F64Floor = refl
unary_runs units.F64Trunc = refl
unary_runs units.F64Nearest = refl
unary_runs units.F64Sqrt = refl
unary_runs units.I32WrapI64 = refl
unary_runs units.I32TruncSF32 = refl
unary_runs units.I32TruncUF32 = refl
unary_runs units.I32TruncSF64 = refl
unary_runs units.I32TruncUF64 = refl
unary_runs units.I64ExtendSI32 = refl
unary_runs units.I64ExtendUI32 = refl
unary_runs units.I64TruncSF32 = refl
unary_runs units.I64TruncUF32 = refl
unary_runs units.I64TruncSF64 = refl
unary_runs units.I64TruncUF64 = refl
unary_runs units.F32ConvertSI32 = refl
unary_runs units.F32ConvertUI32 = refl
unary_runs units.F32ConvertSI64 = refl
unary_runs units.F32ConvertUI64 = refl
unary_runs units.F32DemoteF64 = refl
unary_runs units.F64ConvertSI32 = refl
unary_runs units.F64ConvertUI32 = refl
unary_runs units.F64ConvertSI64 = refl
unary_runs units.F64ConvertUI64 = refl
unary_runs units.F64PromoteF32 = refl
unary_runs units.I32ReinterpretF32 = refl
unary_runs units.I64ReinterpretF64 = refl
unary_runs units.F32ReinterpretI32 = refl
unary_runs units.F64ReinterpretI64 = refl
unary_runs units.I32Extend8S = refl
unary_runs units.I32Extend16S = refl
unary_runs units.I64Extend8S = refl
unary_runs units.I64Extend16S = refl
unary_runs units.I64Extend32S = refl
unary_runs units.I32TruncSatF32S = refl
unary_runs units.I32TruncSatF32U = refl
unary_runs units.I32TruncSatF64S = refl
unary_runs units.I32TruncSatF64U = refl
unary_runs units.I64TruncSatF32S = refl
unary_runs units.I64TruncSatF32U = refl
unary_runs units.I64TruncSatF64S = refl
unary_runs units.I64TruncSatF64U = refl
unary_runs units.I8x16Splat = refl
unary_runs units.I16x8Splat = refl
unary_runs units.I32x4Splat = refl
unary_runs units.I64x2Splat = refl
unary_runs units.F32x4Splat = refl
unary_runs units.F64x2Splat = refl
unary_runs (units.I8x16ExtractLaneS lane) = refl
unary_runs (units.I8x16ExtractLaneU lane) = refl
unary_runs (units.I16x8ExtractLaneS lane) = refl
unary_runs (units.I16x8ExtractLaneU lane) = refl
unary_runs (units.I32x4ExtractLane lane) = refl
unary_runs (units.I64x2ExtractLane lane) = refl
unary_runs (units.F32x4ExtractLane lane) = refl
unary_runs (units.F64x2ExtractLane lane) = refl
unary_runs units.V128Not = refl
unary_runs units.V128AnyTrue = refl
unary_runs units.F32x4DemoteF64x2Zero = refl
unary_runs units.F64x2PromoteLowF32x4 = refl
unary_runs units.I8x16Abs = refl
unary_runs units.I8x16Neg = refl
unary_runs units.I8x16Popcnt = refl
unary_runs units.I8x16AllTrue = refl
unary_runs units.I8x16Bitmask = refl
unary_runs units.F32x4Ceil = refl
unary_runs units.F32x4Floor = refl
unary_runs units.F32x4Trunc = refl
unary_runs units.F32x4Nearest = refl
unary_runs units.F64x2Ceil = refl
unary_runs units.F64x2Floor = refl
unary_runs units.F64x2Trunc = refl
unary_runs units.F64x2Nearest = refl
unary_runs units.I16x8ExtaddPairwiseI8x16S = refl
unary_runs units.I16x8ExtaddPairwiseI8x16U = refl
unary_runs units.I32x4ExtaddPairwiseI16x8S = refl
unary_runs units.I32x4ExtaddPairwiseI16x8U = refl
unary_runs units.I16x8Abs = refl
unary_runs units.I16x8Neg = refl
unary_runs units.I16x8AllTrue = refl
unary_runs units.I16x8Bitmask = refl
unary_runs units.I16x8ExtendLowI8x16S = refl
unary_runs units.I16x8ExtendHighI8x16S = refl
unary_runs units.I16x8ExtendLowI8x16U = refl
unary_runs units.I16x8ExtendHighI8x16U = refl
unary_runs units.I32x4Abs = refl
unary_runs units.I32x4Neg = refl
unary_runs units.I32x4AllTrue = refl
unary_runs units.I32x4Bitmask = refl
unary_runs units.I32x4ExtendLowI16x8S = refl
unary_runs units.I32x4ExtendHighI16x8S = refl
unary_runs units.I32x4ExtendLowI16x8U = refl
unary_runs units.I32x4ExtendHighI16x8U = refl
unary_runs units.I64x2Abs = refl
unary_runs units.I64x2Neg = refl
unary_runs units.I64x2AllTrue = refl
unary_runs units.I64x2Bitmask = refl
unary_runs units.I64x2ExtendLowI32x4S = refl
unary_runs units.I64x2ExtendHighI32x4S = refl
unary_runs units.I64x2ExtendLowI32x4U = refl
unary_runs units.I64x2ExtendHighI32x4U = refl
unary_runs units.F32x4Abs = refl
unary_runs units.F32x4Neg = refl
unary_runs units.F32x4Sqrt = refl
unary_runs units.F64x2Abs = refl
unary_runs units.F64x2Neg = refl
unary_runs units.F64x2Sqrt = refl
unary_runs units.I32x4TruncSatF32x4S = refl
unary_runs units.I32x4TruncSatF32x4U = refl
unary_runs units.F32x4ConvertI32x4S = refl
unary_runs units.F32x4ConvertI32x4U = refl
unary_runs units.I32x4TruncSatF64x2SZero = refl
unary_runs units.I32x4TruncSatF64x2UZero = refl
unary_runs units.F64x2ConvertLowI32x4S = refl
unary_runs units.F64x2ConvertLowI32x4U = refl
unary_runs units.I32x4RelaxedTruncF32x4S = refl
unary_runs units.I32x4RelaxedTruncF32x4U = refl
unary_runs units.I32x4RelaxedTruncF64x2SZero = refl
unary_runs units.I32x4RelaxedTruncF64x2UZero = refl

pub binary_runs : (o : BinaryOp) → role_at (binary_code o) ≡ Runs
unfolding structure_rows call_rows plain_rows fb_rows fc_rows fd_rows fe_rows
binary_runs pairs.I32Eq = refl
binary_runs pairs.I32Ne = refl
binary_runs pairs.I32LtS = refl
binary_runs pairs.I32LtU = refl
binary_runs pairs.I32GtS = refl
binary_runs pairs.I32GtU = refl
binary_runs pairs.I32LeS = refl
binary_runs pairs.I32LeU = refl
binary_runs pairs.I32GeS = refl
binary_runs pairs.I32GeU = refl
binary_runs pairs.I64Eq = refl
binary_runs pairs.I64Ne = refl
binary_runs pairs.I64LtS = refl
binary_runs pairs.I64LtU = refl
binary_runs pairs.I64GtS = refl
binary_runs pairs.I64GtU = refl
binary_runs pairs.I64LeS = refl
binary_runs pairs.I64LeU = refl
binary_runs pairs.I64GeS = refl
binary_runs pairs.I64GeU = refl
binary_runs pairs.F32Eq = refl
binary_runs pairs.F32Ne = refl
binary_runs pairs.F32Lt = refl
binary_runs pairs.F32Gt = refl
binary_runs pairs.F32Le = refl
binary_runs pairs.F32Ge = refl
binary_runs pairs.F64Eq = refl
binary_runs pairs.F64Ne = refl
binary_runs pairs.F64Lt = refl
binary_runs pairs.F64Gt = refl
binary_runs pairs.F64Le = refl
binary_runs pairs.F64Ge = refl
binary_runs pairs.I32Add = refl
binary_runs pairs.I32Sub = refl
binary_runs pairs.I32Mul = refl
binary_runs pairs.I32DivS = refl
binary_runs pairs.I32DivU = refl
binary_runs pairs.I32RemS = refl
binary_runs pairs.I32RemU = refl
binary_runs pairs.I32And = refl
binary_runs pairs.I32Or = refl
binary_runs pairs.I32Xor = refl
binary_runs pairs.I32Shl = refl
binary_runs pairs.I32ShrS = refl
binary_runs pairs.I32ShrU = refl
binary_runs pairs.I32Rotl = refl
binary_runs pairs.I32Rotr = refl
binary_runs pairs.I64Add = refl
binary_runs pairs.I64Sub = refl
binary_runs pairs.I64Mul = refl
binary_runs pairs.I64DivS = refl
binary_runs pairs.I64DivU = refl
binary_runs pairs.I64RemS = refl
binary_runs pairs.I64RemU = refl
binary_runs pairs.I64And = refl
binary_runs pairs.I64Or = refl
binary_runs pairs.I64Xor = refl
binary_runs pairs.I64Shl = refl
binary_runs pairs.I64ShrS = refl
binary_runs pairs.I64ShrU = refl
binary_runs pairs.I64Rotl = refl
binary_runs pairs.I64Rotr = refl
binary_runs pairs.F32Add = refl
binary_runs pairs.F32Sub = refl
binary_runs pairs.F32Mul = refl
binary_runs pairs.F32Div = refl
binary_runs pairs.F32Min = refl
binary_runs pairs.F32Max = refl
binary_runs pairs.F32Copysign = refl
binary_runs pairs.F64Add = refl
binary_runs pairs.F64Sub = refl
binary_runs pairs.F64Mul = refl
binary_runs pairs.F64Div = refl
binary_runs pairs.F64Min = refl
binary_runs pairs.F64Max = refl
binary_runs pairs.F64Copysign = refl
binary_runs (pairs.I8x16ReplaceLane lane) = refl
binary_runs (pairs.I16x8ReplaceLane lane) = refl
binary_runs (pairs.I32x4ReplaceLane lane) = refl
binary_runs (pairs.I64x2ReplaceLane lane) = refl
binary_runs (pairs.F32x4ReplaceLane lane) = refl
binary_runs (pairs.F64x2ReplaceLane lane) = refl
binary_runs pairs.I8x16Eq = refl
binary_runs pairs.I8x16Ne = refl
binary_runs pairs.I8x16LtS = refl
binary_runs pairs.I8x16LtU = refl
binary_runs pairs.I8x16GtS = refl
binary_runs pairs.I8x16GtU = refl
binary_runs pairs.I8x16LeS = refl
binary_runs pairs.I8x16LeU = refl
binary_runs pairs.I8x16GeS = refl
binary_runs pairs.I8x16GeU = refl
binary_runs pairs.I16x8Eq = refl
binary_runs pairs.I16x8Ne = refl
binary_runs pairs.I16x8LtS = refl
binary_runs pairs.I16x8LtU = refl
binary_runs pairs.I16x8GtS = refl
binary_runs pairs.I16x8GtU = refl
binary_runs pairs.I16x8LeS = refl
binary_runs pairs.I16x8LeU = refl
binary_runs pairs.I16x8GeS = refl
binary_runs pairs.I16x8GeU = refl
binary_runs pairs.I32x4Eq = refl
binary_runs pairs.I32x4Ne = refl
binary_runs pairs.I32x4LtS = refl
binary_runs pairs.I32x4LtU = refl
binary_runs pairs.I32x4GtS = refl
binary_runs pairs.I32x4GtU = refl
binary_runs pairs.I32x4LeS = refl
binary_runs pairs.I32x4LeU = refl
binary_runs pairs.I32x4GeS = refl
binary_runs pairs.I32x4GeU = refl
binary_runs pairs.I64x2Eq = refl
binary_runs pairs.I64x2Ne = refl
binary_runs pairs.I64x2LtS = refl
binary_runs pairs.I64x2GtS = refl
binary_runs pairs.I64x2LeS = refl
binary_runs pairs.I64x2GeS = refl
binary_runs pairs.F32x4Eq = refl
binary_runs pairs.F32x4Ne = refl
binary_runs pairs.F32x4Lt = refl
binary_runs pairs.F32x4Gt = refl
binary_runs pairs.F32x4Le = refl
binary_runs pairs.F32x4Ge = refl
binary_runs pairs.F64x2Eq = refl
binary_runs pairs.F64x2Ne = refl
binary_runs pairs.F64x2Lt = refl
binary_runs pairs.F64x2Gt = refl
binary_runs pairs.F64x2Le = refl
binary_runs pairs.F64x2Ge = refl
binary_runs pairs.V128And = refl
binary_runs pairs.V128Andnot = refl
binary_runs pairs.V128Or = refl
binary_runs pairs.V128Xor = refl
binary_runs pairs.I8x16NarrowI16x8S = refl
binary_runs pairs.I8x16NarrowI16x8U = refl
binary_runs pairs.I8x16Shl = refl
binary_runs pairs.I8x16ShrS = refl
binary_runs pairs.I8x16ShrU = refl
binary_runs pairs.I8x16Add = refl
binary_runs pairs.I8x16AddSatS = refl
binary_runs pairs.I8x16AddSatU = refl
binary_runs pairs.I8x16Sub = refl
binary_runs pairs.I8x16SubSatS = refl
binary_runs pairs.I8x16SubSatU = refl
binary_runs pairs.I8x16MinS = refl
binary_runs pairs.I8x16MinU = refl
binary_runs pairs.I8x16MaxS = refl
binary_runs pairs.I8x16MaxU = refl
binary_runs pairs.I8x16AvgrU = refl
binary_runs pairs.I16x8Q15mulrSatS = refl
binary_runs pairs.I16x8NarrowI32x4S = refl
binary_runs pairs.I16x8NarrowI32x4U = refl
binary_runs pairs.I16x8Shl = refl
binary_runs pairs.I16x8ShrS = refl
binary_runs pairs.I16x8ShrU = refl
binary_runs pairs.I16x8Add = refl
binary_runs pairs.I16x8AddSatS = refl
binary_runs pairs.I16x8AddSatU = refl
binary_runs pairs.I16x8Sub = refl
binary_runs pairs.I16x8SubSatS = refl
binary_runs pairs.I16x8SubSatU = refl
binary_runs pairs.I16x8Mul = refl
binary_runs pairs.I16x8MinS = refl
binary_runs pairs.I16x8MinU = refl
binary_runs pairs.I16x8MaxS = refl
binary_runs pairs.I16x8MaxU = refl
binary_runs pairs.I16x8AvgrU = refl
binary_runs pairs.I16x8ExtmulLowI8x16S = refl
binary_runs pairs.I16x8ExtmulHighI8x16S = refl
binary_runs pairs.I16x8ExtmulLowI8x16U = refl
binary_runs pairs.I16x8ExtmulHighI8x16U = refl
binary_runs pairs.I32x4Shl = refl
binary_runs pairs.I32x4ShrS = refl
binary_runs pairs.I32x4ShrU = refl
binary_runs pairs.I32x4Add = refl
binary_runs pairs.I32x4Sub = refl
binary_runs pairs.I32x4Mul = refl
binary_runs pairs.I32x4MinS = refl
binary_runs pairs.I32x4MinU = refl
binary_runs pairs.I32x4MaxS = refl
binary_runs pairs.I32x4MaxU = refl
binary_runs pairs.I32x4DotI16x8S = refl
binary_runs pairs.I32x4ExtmulLowI16x8S = refl
binary_runs pairs.I32x4ExtmulHighI16x8S = refl
binary_runs pairs.I32x4ExtmulLowI16x8U = refl
binary_runs pairs.I32x4ExtmulHighI16x8U = refl
binary_runs pairs.I64x2Shl = refl
binary_runs pairs.I64x2ShrS = refl
binary_runs pairs.I64x2ShrU = refl
binary_runs pairs.I64x2Add = refl
binary_runs pairs.I64x2Sub = refl
binary_runs pairs.I64x2Mul = refl
binary_runs pairs.I64x2ExtmulLowI32x4S = refl
binary_runs pairs.I64x2ExtmulHighI32x4S = refl
binary_runs pairs.I64x2ExtmulLowI32x4U = refl
binary_runs pairs.I64x2ExtmulHighI32x4U = refl
binary_runs pairs.F32x4Add = refl
binary_runs pairs.F32x4Sub = refl
binary_runs pairs.F32x4Mul = refl
binary_runs pairs.F32x4Div = refl
binary_runs pairs.F32x4Min = refl
binary_runs pairs.F32x4Max = refl
binary_runs pairs.F32x4Pmin = refl
binary_runs pairs.F32x4Pmax = refl
binary_runs pairs.F64x2Add = refl
binary_runs pairs.F64x2Sub = refl
binary_runs pairs.F64x2Mul = refl
binary_runs pairs.F64x2Div = refl
binary_runs pairs.F64x2Min = refl
binary_runs pairs.F64x2Max = refl
binary_runs pairs.F64x2Pmin = refl
binary_runs pairs.F64x2Pmax = refl
binary_runs pairs.I8x16RelaxedSwizzle = refl
binary_runs pairs.F32x4RelaxedMin = refl
binary_runs pairs.F32x4RelaxedMax = refl
binary_runs pairs.F64x2RelaxedMin = refl
binary_runs pairs.F64x2RelaxedMax = refl
binary_runs pairs.I16x8RelaxedQ15mulrS = refl
binary_runs pairs.I16x8RelaxedDotI8x16I7x16S = refl
binary_runs pairs.I64MulWideS = refl
binary_runs pairs.I64MulWideU = refl

pub ternary_runs : (o : TernaryOp) → role_at (ternary_code o) ≡ Runs
unfolding structure_rows call_rows plain_rows fb_rows fc_rows fd_rows fe_rows
ternary_runs triples.F32x4RelaxedMadd = refl
ternary_runs triples.F32x4RelaxedNmadd = refl
ternary_runs triples.F64x2RelaxedMadd = refl
ternary_runs triples.F64x2RelaxedNmadd = refl
ternary_runs triples.I8x16RelaxedLaneselect = refl
ternary_runs triples.I16x8RelaxedLaneselect = refl
ternary_runs triples.I32x4RelaxedLaneselect = refl
ternary_runs triples.I64x2RelaxedLaneselect = refl
ternary_runs triples.I32x4RelaxedDotI8x16I7x16AddS = refl

pub simd_runs : (o : LoadSimdKind) → role_at (simd_code o) ≡ Runs
unfolding structure_rows call_rows plain_rows fb_rows fc_rows fd_rows fe_rows
simd_runs vectors.Splat8 = refl
simd_runs vectors.Splat16 = refl
simd_runs vectors.Splat32 = refl
simd_runs vectors.Splat64 = refl
simd_runs vectors.V128Load8x8S = refl
simd_runs vectors.V128Load8x8U = refl
simd_runs vectors.V128Load16x4S = refl
simd_runs vectors.V128Load16x4U = refl
simd_runs vectors.V128Load32x2S = refl
simd_runs vectors.V128Load32x2U = refl
simd_runs vectors.V128Load32Zero = refl
simd_runs vectors.V128Load64Zero = refl
simd_runs (vectors.V128Load8Lane lane) = refl
simd_runs (vectors.V128Load16Lane lane) = refl
simd_runs (vectors.V128Load32Lane lane) = refl
simd_runs (vectors.V128Load64Lane lane) = refl
simd_runs (vectors.V128Store8Lane lane) = refl
simd_runs (vectors.V128Store16Lane lane) = refl
simd_runs (vectors.V128Store32Lane lane) = refl
simd_runs (vectors.V128Store64Lane lane) = refl

pub load_runs : (o : LoadKind) → role_at (load_code o) ≡ Runs
unfolding structure_rows call_rows plain_rows fb_rows fc_rows fd_rows fe_rows
load_runs (loads.I32 false) = refl
load_runs (loads.I64 false) = refl
load_runs loads.F32 = refl
load_runs loads.F64 = refl
load_runs (loads.I32_8 extends.SignExtend) = refl
load_runs (loads.I32_8 extends.ZeroExtend) = refl
load_runs (loads.I32_16 extends.SignExtend) = refl
load_runs (loads.I32_16 extends.ZeroExtend) = refl
load_runs (loads.I64_8 extends.SignExtend) = refl
load_runs (loads.I64_8 extends.ZeroExtend) = refl
load_runs (loads.I64_16 extends.SignExtend) = refl
load_runs (loads.I64_16 extends.ZeroExtend) = refl
load_runs (loads.I64_32 extends.SignExtend) = refl
load_runs (loads.I64_32 extends.ZeroExtend) = refl
load_runs loads.V128 = refl
load_runs (loads.I32 true) = refl
load_runs (loads.I64 true) = refl
load_runs (loads.I32_8 extends.ZeroExtendAtomic) = refl
load_runs (loads.I32_16 extends.ZeroExtendAtomic) = refl
load_runs (loads.I64_8 extends.ZeroExtendAtomic) = refl
load_runs (loads.I64_16 extends.ZeroExtendAtomic) = refl
load_runs (loads.I64_32 extends.ZeroExtendAtomic) = refl

pub store_runs : (o : StoreKind) → role_at (store_code o) ≡ Runs
unfolding structure_rows call_rows plain_rows fb_rows fc_rows fd_rows fe_rows
store_runs (stores.I32 false) = refl
store_runs (stores.I64 false) = refl
store_runs stores.F32 = refl
store_runs stores.F64 = refl
store_runs (stores.I32_8 false) = refl
store_runs (stores.I32_16 false) = refl
store_runs (stores.I64_8 false) = refl
store_runs (stores.I64_16 false) = refl
store_runs (stores.I64_32 false) = refl
store_runs stores.V128 = refl
store_runs (stores.I32 true) = refl
store_runs (stores.I64 true) = refl
store_runs (stores.I32_8 true) = refl
store_runs (stores.I32_16 true) = refl
store_runs (stores.I64_8 true) = refl
store_runs (stores.I64_16 true) = refl
store_runs (stores.I64_32 true) = refl

pub rmw_runs : (o : AtomicOp) (w : AtomicWidth) → role_at (rmw_code o w) ≡ Runs
unfolding structure_rows call_rows plain_rows fb_rows fc_rows fd_rows fe_rows
rmw_runs changes.Add widths.I32 = refl
rmw_runs changes.Add widths.I64 = refl
rmw_runs changes.Add widths.I32_8 = refl
rmw_runs changes.Add widths.I32_16 = refl
rmw_runs changes.Add widths.I64_8 = refl
rmw_runs changes.Add widths.I64_16 = refl
rmw_runs changes.Add widths.I64_32 = refl
rmw_runs changes.Sub widths.I32 = refl
rmw_runs changes.Sub widths.I64 = refl
rmw_runs changes.Sub widths.I32_8 = refl
rmw_runs changes.Sub widths.I32_16 = refl
rmw_runs changes.Sub widths.I64_8 = refl
rmw_runs changes.Sub widths.I64_16 = refl
rmw_runs changes.Sub widths.I64_32 = refl
rmw_runs changes.And widths.I32 = refl
rmw_runs changes.And widths.I64 = refl
rmw_runs changes.And widths.I32_8 = refl
rmw_runs changes.And widths.I32_16 = refl
rmw_runs changes.And widths.I64_8 = refl
rmw_runs changes.And widths.I64_16 = refl
rmw_runs changes.And widths.I64_32 = refl
rmw_runs changes.Or widths.I32 = refl
rmw_runs changes.Or widths.I64 = refl
rmw_runs changes.Or widths.I32_8 = refl
rmw_runs changes.Or widths.I32_16 = refl
rmw_runs changes.Or widths.I64_8 = refl
rmw_runs changes.Or widths.I64_16 = refl
rmw_runs changes.Or widths.I64_32 = refl
rmw_runs changes.Xor widths.I32 = refl
rmw_runs changes.Xor widths.I64 = refl
rmw_runs changes.Xor widths.I32_8 = refl
rmw_runs changes.Xor widths.I32_16 = refl
rmw_runs changes.Xor widths.I64_8 = refl
rmw_runs changes.Xor widths.I64_16 = refl
rmw_runs changes.Xor widths.I64_32 = refl
rmw_runs changes.Xchg widths.I32 = refl
rmw_runs changes.Xchg widths.I64 = refl
rmw_runs changes.Xchg widths.I32_8 = refl
rmw_runs changes.Xchg widths.I32_16 = refl
rmw_runs changes.Xchg widths.I64_8 = refl
rmw_runs changes.Xchg widths.I64_16 = refl
rmw_runs changes.Xchg widths.I64_32 = refl

pub cmpxchg_runs : (w : AtomicWidth) → role_at (cmpxchg_code w) ≡ Runs
unfolding structure_rows call_rows plain_rows fb_rows fc_rows fd_rows fe_rows
cmpxchg_runs widths.I32 = refl
cmpxchg_runs widths.I32_8 = refl
cmpxchg_runs widths.I32_16 = refl
cmpxchg_runs widths.I64 = refl
cmpxchg_runs widths.I64_8 = refl
cmpxchg_runs widths.I64_16 = refl
cmpxchg_runs widths.I64_32 = refl

pub test_runs : (b : _) → role_at (test_code b) ≡ Runs
unfolding structure_rows call_rows plain_rows fb_rows fc_rows fd_rows fe_rows
test_runs true = refl
test_runs false = refl

pub cast_runs : (b : _) → role_at (cast_code b) ≡ Runs
unfolding structure_rows call_rows plain_rows fb_rows fc_rows fd_rows fe_rows
cast_runs true = refl
cast_runs false = refl
