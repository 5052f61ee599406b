-- Lemmas: numeric operators and constants are read as the instruction whose operator they are.
use Rattle.std.specs.Prelude.{ℕ, ◌+◌, ◌*◌, ◌/◌, ◌%◌, ◌<◌, ◌^◌, ◌≡◌, List, [], ◌∷◌, Some, None, Ok, refl}
use Rattle.std.specs.Int.{w128, to_le_bytes, from_le_bytes}
use Rattle.std.proofs.Common.{ap, subst, arith}
use Rattle.std.proofs.Math.Nat.{div-div-eq-div-mul}
use Rattle.wasm_operators.specs.Items.{Item, S32, S64, Bits, Byte, Bytes}
use Rattle.wasm_operators.specs.declared.op_code.OpCode.{OpCode}
use Rattle.wasm_operators.specs.Operators.{Seen}
use Rattle.walrus_instr.specs.declared.instr.Instr.{Instr}
use Rattle.walrus_instr.specs.declared.instr.Instr.TheVariants as instrs
use Rattle.walrus_instr.specs.declared.instr.Value.TheVariants as constants
use Rattle.walrus_instr.specs.declared.operators.UnaryOp.{UnaryOp}
use Rattle.walrus_instr.specs.declared.operators.UnaryOp.TheVariants as unaries
use Rattle.walrus_instr.specs.declared.operators.BinaryOp.{BinaryOp}
use Rattle.walrus_instr.specs.declared.operators.BinaryOp.TheVariants as binaries
use Rattle.walrus_instr.specs.declared.operators.TernaryOp.{TernaryOp}
use Rattle.walrus_instr.specs.declared.operators.TernaryOp.TheVariants as ternaries
use Rattle.walrus_codes.specs.Runs.{byte, object, bulk, vector, atomic}
use Rattle.walrus_codes.specs.Unary.{unary_bytes, unary_bulks, low_unary_vectors, high_unary_vectors, unary_lanes, unary_code, unary_lane}
use Rattle.walrus_codes.specs.Binary.{binary_bytes, binary_bulks, low_binary_vectors, high_binary_vectors, binary_lanes, binary_code, binary_lane}
use Rattle.walrus_codes.specs.Ternary.{ternary_vectors, ternary_code}
use Rattle.walrus_pairing.specs.Looks.{Look}
use Rattle.walrus_pairing.specs.Write.{seen_of, op, of_code, bare_code, numeric, lane_items}
use Rattle.walrus_pairing.specs.Read.{instr_at}
use Rattle.walrus_pairing.specs.InstrLaws.{IsPlain}
use Rattle.walrus_pairing.specs.Back.{some_is}

-- ---- the sixteen bytes of a number

byte_and_rest : (n p : ℕ) → n / p ≡ n / p % 256 + n / (p * 256) * 256
byte_and_rest n p = omega (arith, div-div-eq-div-mul n p 256)

half : (a b c d e f g h n p q r s t u v w : ℕ) → n ≡ a + p * 256 → p ≡ b + q * 256 → q ≡ c + r * 256 → r ≡ d + s * 256
    → s ≡ e + t * 256 → t ≡ f + u * 256 → u ≡ g + v * 256 → v ≡ h + w * 256
    → a + b * 256 + c * 65536 + d * 16777216 + e * 4294967296 + f * 1099511627776 + g * 281474976710656 + h * 72057594037927936 + w * 18446744073709551616 ≡ n
half a b c d e f g h n p q r s t u v w at_0 at_1 at_2 at_3 at_4 at_5 at_6 at_7 = omega arith

joined : (low high n a b c d e f g h : ℕ) → low + high * 18446744073709551616 ≡ n
    → a + b * 256 + c * 65536 + d * 16777216 + e * 4294967296 + f * 1099511627776 + g * 281474976710656 + h * 72057594037927936 + 0 * 18446744073709551616 ≡ high
    → low + a * 18446744073709551616 + b * 4722366482869645213696 + c * 1208925819614629174706176 + d * 309485009821345068724781056 + e * 79228162514264337593543950336 + f * 20282409603651670423947251286016 + g * 5192296858534827628530496329220096 + h * 1329227995784915872903807060280344576 ≡ n
joined low high n a b c d e f g h whole parts = omega (arith, whole, parts)

bits_again : (n : ℕ) → n < 2 ^ 128 → from_le_bytes w128 (to_le_bytes w128 n) ≡ n
bits_again n fits =
    let first : n ≡ n % 256 + n / 256 * 256 = omega arith in
    let last : n / 1329227995784915872903807060280344576 ≡ n / 1329227995784915872903807060280344576 % 256 + 0 * 256 = omega arith in
    let low = half (n % 256) (n / 256 % 256) (n / 65536 % 256) (n / 16777216 % 256) (n / 4294967296 % 256) (n / 1099511627776 % 256) (n / 281474976710656 % 256) (n / 72057594037927936 % 256) n (n / 256) (n / 65536) (n / 16777216) (n / 4294967296) (n / 1099511627776) (n / 281474976710656) (n / 72057594037927936) (n / 18446744073709551616)
    first (byte_and_rest n 256) (byte_and_rest n 65536) (byte_and_rest n 16777216) (byte_and_rest n 4294967296) (byte_and_rest n 1099511627776) (byte_and_rest n 281474976710656) (byte_and_rest n 72057594037927936) in
    let high = half (n / 18446744073709551616 % 256) (n / 4722366482869645213696 % 256) (n / 1208925819614629174706176 % 256) (n / 309485009821345068724781056 % 256) (n / 79228162514264337593543950336 % 256) (n / 20282409603651670423947251286016 % 256) (n / 5192296858534827628530496329220096 % 256) (n / 1329227995784915872903807060280344576 % 256) (n / 18446744073709551616) (n / 4722366482869645213696) (n / 1208925819614629174706176) (n / 309485009821345068724781056) (n / 79228162514264337593543950336) (n / 20282409603651670423947251286016) (n / 5192296858534827628530496329220096) (n / 1329227995784915872903807060280344576) 0
    (byte_and_rest n 18446744073709551616) (byte_and_rest n 4722366482869645213696) (byte_and_rest n 1208925819614629174706176) (byte_and_rest n 309485009821345068724781056) (byte_and_rest n 79228162514264337593543950336) (byte_and_rest n 20282409603651670423947251286016) (byte_and_rest n 5192296858534827628530496329220096) last in
    joined ((n % 256) + n / 256 % 256 * 256 + n / 65536 % 256 * 65536 + n / 16777216 % 256 * 16777216 + n / 4294967296 % 256 * 4294967296 + n / 1099511627776 % 256 * 1099511627776 + n / 281474976710656 % 256 * 281474976710656 + n / 72057594037927936 % 256 * 72057594037927936) (n / 18446744073709551616) n (n / 18446744073709551616 % 256) (n / 4722366482869645213696 % 256) (n / 1208925819614629174706176 % 256) (n / 309485009821345068724781056 % 256) (n / 79228162514264337593543950336 % 256) (n / 20282409603651670423947251286016 % 256) (n / 5192296858534827628530496329220096 % 256) (n / 1329227995784915872903807060280344576 % 256) low high

module _ (back : Look) where
  abbrev Is : Seen → Instr → Type 0
  Is s i = instr_at back s ≡ Ok (Some i)

  given : (code : OpCode) (items : List Item) (i : Instr) (s : Seen) → Is (seen_of code items) i → op code items ≡ Ok (Some s) → Is s i
  given code items i s is e = subst (λ t. Is t i) (some_is (seen_of code items) s e) is

  unary_again : (o : UnaryOp) → Is (seen_of (unary_code o) (lane_items (unary_lane o))) (instrs.Unop o)
  unfolding unary_bytes unary_bulks low_unary_vectors high_unary_vectors unary_lanes binary_bytes binary_bulks low_binary_vectors high_binary_vectors binary_lanes ternary_vectors
  unary_again unaries.I32Eqz = refl
  unary_again unaries.I64Eqz = refl
  unary_again unaries.I32Clz = refl
  unary_again unaries.I32Ctz = refl
  unary_again unaries.I32Popcnt = refl
  unary_again unaries.I64Clz = refl
  unary_again unaries.I64Ctz = refl
  unary_again unaries.I64Popcnt = refl
  unary_again unaries.F32Abs = refl
  unary_again unaries.F32Neg = refl
  unary_again unaries.F32Ceil = refl
  unary_again unaries.F32Floor = refl
  unary_again unaries.F32Trunc = refl
  unary_again unaries.F32Nearest = refl
  unary_again unaries.F32Sqrt = refl
  unary_again unaries.F64Abs = refl
  unary_again unaries.F64Neg = refl
  unary_again unaries.F64Ceil = refl
  unary_again unaries.F64Floor = refl
  unary_again unaries.F64Trunc = refl
  unary_again unaries.F64Nearest = refl
  unary_again unaries.F64Sqrt = refl
  unary_again unaries.I32WrapI64 = refl
  unary_again unaries.I32TruncSF32 = refl
  unary_again unaries.I32TruncUF32 = refl
  unary_again unaries.I32TruncSF64 = refl
  unary_again unaries.I32TruncUF64 = refl
  unary_again unaries.I64ExtendSI32 = refl
  unary_again unaries.I64ExtendUI32 = refl
  unary_again unaries.I64TruncSF32 = refl
  unary_again unaries.I64TruncUF32 = refl
  unary_again unaries.I64TruncSF64 = refl
  unary_again unaries.I64TruncUF64 = refl
  unary_again unaries.F32ConvertSI32 = refl
  unary_again unaries.F32ConvertUI32 = refl
  unary_again unaries.F32ConvertSI64 = refl
  unary_again unaries.F32ConvertUI64 = refl
  unary_again unaries.F32DemoteF64 = refl
  unary_again unaries.F64ConvertSI32 = refl
  unary_again unaries.F64ConvertUI32 = refl
  unary_again unaries.F64ConvertSI64 = refl
  unary_again unaries.F64ConvertUI64 = refl
  unary_again unaries.F64PromoteF32 = refl
  unary_again unaries.I32ReinterpretF32 = refl
  unary_again unaries.I64ReinterpretF64 = refl
  unary_again unaries.F32ReinterpretI32 = refl
  unary_again unaries.F64ReinterpretI64 = refl
  unary_again unaries.I32Extend8S = refl
  unary_again unaries.I32Extend16S = refl
  unary_again unaries.I64Extend8S = refl
  unary_again unaries.I64Extend16S = refl
  unary_again unaries.I64Extend32S = refl
  unary_again unaries.I32TruncSatF32S = refl
  unary_again unaries.I32TruncSatF32U = refl
  unary_again unaries.I32TruncSatF64S = refl
  unary_again unaries.I32TruncSatF64U = refl
  unary_again unaries.I64TruncSatF32S = refl
  unary_again unaries.I64TruncSatF32U = refl
  unary_again unaries.I64TruncSatF64S = refl
  unary_again unaries.I64TruncSatF64U = refl
  unary_again unaries.I8x16Splat = refl
  unary_again unaries.I16x8Splat = refl
  unary_again unaries.I32x4Splat = refl
  unary_again unaries.I64x2Splat = refl
  unary_again unaries.F32x4Splat = refl
  unary_again unaries.F64x2Splat = refl
  unary_again unaries.V128Not = refl
  unary_again unaries.V128AnyTrue = refl
  unary_again unaries.F32x4DemoteF64x2Zero = refl
  unary_again unaries.F64x2PromoteLowF32x4 = refl
  unary_again unaries.I8x16Abs = refl
  unary_again unaries.I8x16Neg = refl
  unary_again unaries.I8x16Popcnt = refl
  unary_again unaries.I8x16AllTrue = refl
  unary_again unaries.I8x16Bitmask = refl
  unary_again unaries.F32x4Ceil = refl
  unary_again unaries.F32x4Floor = refl
  unary_again unaries.F32x4Trunc = refl
  unary_again unaries.F32x4Nearest = refl
  unary_again unaries.F64x2Ceil = refl
  unary_again unaries.F64x2Floor = refl
  unary_again unaries.F64x2Trunc = refl
  unary_again unaries.I16x8ExtaddPairwiseI8x16S = refl
  unary_again unaries.I16x8ExtaddPairwiseI8x16U = refl
  unary_again unaries.I32x4ExtaddPairwiseI16x8S = refl
  unary_again unaries.I32x4ExtaddPairwiseI16x8U = refl
  unary_again unaries.I16x8Abs = refl
  unary_again unaries.I16x8Neg = refl
  unary_again unaries.I16x8AllTrue = refl
  unary_again unaries.I16x8Bitmask = refl
  unary_again unaries.I16x8ExtendLowI8x16S = refl
  unary_again unaries.I16x8ExtendHighI8x16S = refl
  unary_again unaries.I16x8ExtendLowI8x16U = refl
  unary_again unaries.I16x8ExtendHighI8x16U = refl
  unary_again unaries.F64x2Nearest = refl
  unary_again unaries.I32x4Abs = refl
  unary_again unaries.I32x4Neg = refl
  unary_again unaries.I32x4AllTrue = refl
  unary_again unaries.I32x4Bitmask = refl
  unary_again unaries.I32x4ExtendLowI16x8S = refl
  unary_again unaries.I32x4ExtendHighI16x8S = refl
  unary_again unaries.I32x4ExtendLowI16x8U = refl
  unary_again unaries.I32x4ExtendHighI16x8U = refl
  unary_again unaries.I64x2Abs = refl
  unary_again unaries.I64x2Neg = refl
  unary_again unaries.I64x2AllTrue = refl
  unary_again unaries.I64x2Bitmask = refl
  unary_again unaries.I64x2ExtendLowI32x4S = refl
  unary_again unaries.I64x2ExtendHighI32x4S = refl
  unary_again unaries.I64x2ExtendLowI32x4U = refl
  unary_again unaries.I64x2ExtendHighI32x4U = refl
  unary_again unaries.F32x4Abs = refl
  unary_again unaries.F32x4Neg = refl
  unary_again unaries.F32x4Sqrt = refl
  unary_again unaries.F64x2Abs = refl
  unary_again unaries.F64x2Neg = refl
  unary_again unaries.F64x2Sqrt = refl
  unary_again unaries.I32x4TruncSatF32x4S = refl
  unary_again unaries.I32x4TruncSatF32x4U = refl
  unary_again unaries.F32x4ConvertI32x4S = refl
  unary_again unaries.F32x4ConvertI32x4U = refl
  unary_again unaries.I32x4TruncSatF64x2SZero = refl
  unary_again unaries.I32x4TruncSatF64x2UZero = refl
  unary_again unaries.F64x2ConvertLowI32x4S = refl
  unary_again unaries.F64x2ConvertLowI32x4U = refl
  unary_again unaries.I32x4RelaxedTruncF32x4S = refl
  unary_again unaries.I32x4RelaxedTruncF32x4U = refl
  unary_again unaries.I32x4RelaxedTruncF64x2SZero = refl
  unary_again unaries.I32x4RelaxedTruncF64x2UZero = refl
  unary_again (unaries.I8x16ExtractLaneS lane) = refl
  unary_again (unaries.I8x16ExtractLaneU lane) = refl
  unary_again (unaries.I16x8ExtractLaneS lane) = refl
  unary_again (unaries.I16x8ExtractLaneU lane) = refl
  unary_again (unaries.I32x4ExtractLane lane) = refl
  unary_again (unaries.I64x2ExtractLane lane) = refl
  unary_again (unaries.F32x4ExtractLane lane) = refl
  unary_again (unaries.F64x2ExtractLane lane) = refl

  binary_again : (o : BinaryOp) → Is (seen_of (binary_code o) (lane_items (binary_lane o))) (instrs.Binop o)
  unfolding unary_bytes unary_bulks low_unary_vectors high_unary_vectors unary_lanes binary_bytes binary_bulks low_binary_vectors high_binary_vectors binary_lanes ternary_vectors
  binary_again binaries.I32Eq = refl
  binary_again binaries.I32Ne = refl
  binary_again binaries.I32LtS = refl
  binary_again binaries.I32LtU = refl
  binary_again binaries.I32GtS = refl
  binary_again binaries.I32GtU = refl
  binary_again binaries.I32LeS = refl
  binary_again binaries.I32LeU = refl
  binary_again binaries.I32GeS = refl
  binary_again binaries.I32GeU = refl
  binary_again binaries.I64Eq = refl
  binary_again binaries.I64Ne = refl
  binary_again binaries.I64LtS = refl
  binary_again binaries.I64LtU = refl
  binary_again binaries.I64GtS = refl
  binary_again binaries.I64GtU = refl
  binary_again binaries.I64LeS = refl
  binary_again binaries.I64LeU = refl
  binary_again binaries.I64GeS = refl
  binary_again binaries.I64GeU = refl
  binary_again binaries.F32Eq = refl
  binary_again binaries.F32Ne = refl
  binary_again binaries.F32Lt = refl
  binary_again binaries.F32Gt = refl
  binary_again binaries.F32Le = refl
  binary_again binaries.F32Ge = refl
  binary_again binaries.F64Eq = refl
  binary_again binaries.F64Ne = refl
  binary_again binaries.F64Lt = refl
  binary_again binaries.F64Gt = refl
  binary_again binaries.F64Le = refl
  binary_again binaries.F64Ge = refl
  binary_again binaries.I32Add = refl
  binary_again binaries.I32Sub = refl
  binary_again binaries.I32Mul = refl
  binary_again binaries.I32DivS = refl
  binary_again binaries.I32DivU = refl
  binary_again binaries.I32RemS = refl
  binary_again binaries.I32RemU = refl
  binary_again binaries.I32And = refl
  binary_again binaries.I32Or = refl
  binary_again binaries.I32Xor = refl
  binary_again binaries.I32Shl = refl
  binary_again binaries.I32ShrS = refl
  binary_again binaries.I32ShrU = refl
  binary_again binaries.I32Rotl = refl
  binary_again binaries.I32Rotr = refl
  binary_again binaries.I64Add = refl
  binary_again binaries.I64Sub = refl
  binary_again binaries.I64Mul = refl
  binary_again binaries.I64DivS = refl
  binary_again binaries.I64DivU = refl
  binary_again binaries.I64RemS = refl
  binary_again binaries.I64RemU = refl
  binary_again binaries.I64And = refl
  binary_again binaries.I64Or = refl
  binary_again binaries.I64Xor = refl
  binary_again binaries.I64Shl = refl
  binary_again binaries.I64ShrS = refl
  binary_again binaries.I64ShrU = refl
  binary_again binaries.I64Rotl = refl
  binary_again binaries.I64Rotr = refl
  binary_again binaries.F32Add = refl
  binary_again binaries.F32Sub = refl
  binary_again binaries.F32Mul = refl
  binary_again binaries.F32Div = refl
  binary_again binaries.F32Min = refl
  binary_again binaries.F32Max = refl
  binary_again binaries.F32Copysign = refl
  binary_again binaries.F64Add = refl
  binary_again binaries.F64Sub = refl
  binary_again binaries.F64Mul = refl
  binary_again binaries.F64Div = refl
  binary_again binaries.F64Min = refl
  binary_again binaries.F64Max = refl
  binary_again binaries.F64Copysign = refl
  binary_again binaries.I64MulWideS = refl
  binary_again binaries.I64MulWideU = refl
  binary_again binaries.I8x16Eq = refl
  binary_again binaries.I8x16Ne = refl
  binary_again binaries.I8x16LtS = refl
  binary_again binaries.I8x16LtU = refl
  binary_again binaries.I8x16GtS = refl
  binary_again binaries.I8x16GtU = refl
  binary_again binaries.I8x16LeS = refl
  binary_again binaries.I8x16LeU = refl
  binary_again binaries.I8x16GeS = refl
  binary_again binaries.I8x16GeU = refl
  binary_again binaries.I16x8Eq = refl
  binary_again binaries.I16x8Ne = refl
  binary_again binaries.I16x8LtS = refl
  binary_again binaries.I16x8LtU = refl
  binary_again binaries.I16x8GtS = refl
  binary_again binaries.I16x8GtU = refl
  binary_again binaries.I16x8LeS = refl
  binary_again binaries.I16x8LeU = refl
  binary_again binaries.I16x8GeS = refl
  binary_again binaries.I16x8GeU = refl
  binary_again binaries.I32x4Eq = refl
  binary_again binaries.I32x4Ne = refl
  binary_again binaries.I32x4LtS = refl
  binary_again binaries.I32x4LtU = refl
  binary_again binaries.I32x4GtS = refl
  binary_again binaries.I32x4GtU = refl
  binary_again binaries.I32x4LeS = refl
  binary_again binaries.I32x4LeU = refl
  binary_again binaries.I32x4GeS = refl
  binary_again binaries.I32x4GeU = refl
  binary_again binaries.F32x4Eq = refl
  binary_again binaries.F32x4Ne = refl
  binary_again binaries.F32x4Lt = refl
  binary_again binaries.F32x4Gt = refl
  binary_again binaries.F32x4Le = refl
  binary_again binaries.F32x4Ge = refl
  binary_again binaries.F64x2Eq = refl
  binary_again binaries.F64x2Ne = refl
  binary_again binaries.F64x2Lt = refl
  binary_again binaries.F64x2Gt = refl
  binary_again binaries.F64x2Le = refl
  binary_again binaries.F64x2Ge = refl
  binary_again binaries.V128And = refl
  binary_again binaries.V128Andnot = refl
  binary_again binaries.V128Or = refl
  binary_again binaries.V128Xor = refl
  binary_again binaries.I8x16NarrowI16x8S = refl
  binary_again binaries.I8x16NarrowI16x8U = refl
  binary_again binaries.I8x16Shl = refl
  binary_again binaries.I8x16ShrS = refl
  binary_again binaries.I8x16ShrU = refl
  binary_again binaries.I8x16Add = refl
  binary_again binaries.I8x16AddSatS = refl
  binary_again binaries.I8x16AddSatU = refl
  binary_again binaries.I8x16Sub = refl
  binary_again binaries.I8x16SubSatS = refl
  binary_again binaries.I8x16SubSatU = refl
  binary_again binaries.I8x16MinS = refl
  binary_again binaries.I8x16MinU = refl
  binary_again binaries.I8x16MaxS = refl
  binary_again binaries.I8x16MaxU = refl
  binary_again binaries.I8x16AvgrU = refl
  binary_again binaries.I16x8Q15mulrSatS = refl
  binary_again binaries.I16x8NarrowI32x4S = refl
  binary_again binaries.I16x8NarrowI32x4U = refl
  binary_again binaries.I16x8Shl = refl
  binary_again binaries.I16x8ShrS = refl
  binary_again binaries.I16x8ShrU = refl
  binary_again binaries.I16x8Add = refl
  binary_again binaries.I16x8AddSatS = refl
  binary_again binaries.I16x8AddSatU = refl
  binary_again binaries.I16x8Sub = refl
  binary_again binaries.I16x8SubSatS = refl
  binary_again binaries.I16x8SubSatU = refl
  binary_again binaries.I16x8Mul = refl
  binary_again binaries.I16x8MinS = refl
  binary_again binaries.I16x8MinU = refl
  binary_again binaries.I16x8MaxS = refl
  binary_again binaries.I16x8MaxU = refl
  binary_again binaries.I16x8AvgrU = refl
  binary_again binaries.I16x8ExtmulLowI8x16S = refl
  binary_again binaries.I16x8ExtmulHighI8x16S = refl
  binary_again binaries.I16x8ExtmulLowI8x16U = refl
  binary_again binaries.I16x8ExtmulHighI8x16U = refl
  binary_again binaries.I32x4Shl = refl
  binary_again binaries.I32x4ShrS = refl
  binary_again binaries.I32x4ShrU = refl
  binary_again binaries.I32x4Add = refl
  binary_again binaries.I32x4Sub = refl
  binary_again binaries.I32x4Mul = refl
  binary_again binaries.I32x4MinS = refl
  binary_again binaries.I32x4MinU = refl
  binary_again binaries.I32x4MaxS = refl
  binary_again binaries.I32x4MaxU = refl
  binary_again binaries.I32x4DotI16x8S = refl
  binary_again binaries.I32x4ExtmulLowI16x8S = refl
  binary_again binaries.I32x4ExtmulHighI16x8S = refl
  binary_again binaries.I32x4ExtmulLowI16x8U = refl
  binary_again binaries.I32x4ExtmulHighI16x8U = refl
  binary_again binaries.I64x2Shl = refl
  binary_again binaries.I64x2ShrS = refl
  binary_again binaries.I64x2ShrU = refl
  binary_again binaries.I64x2Add = refl
  binary_again binaries.I64x2Sub = refl
  binary_again binaries.I64x2Mul = refl
  binary_again binaries.I64x2Eq = refl
  binary_again binaries.I64x2Ne = refl
  binary_again binaries.I64x2LtS = refl
  binary_again binaries.I64x2GtS = refl
  binary_again binaries.I64x2LeS = refl
  binary_again binaries.I64x2GeS = refl
  binary_again binaries.I64x2ExtmulLowI32x4S = refl
  binary_again binaries.I64x2ExtmulHighI32x4S = refl
  binary_again binaries.I64x2ExtmulLowI32x4U = refl
  binary_again binaries.I64x2ExtmulHighI32x4U = refl
  binary_again binaries.F32x4Add = refl
  binary_again binaries.F32x4Sub = refl
  binary_again binaries.F32x4Mul = refl
  binary_again binaries.F32x4Div = refl
  binary_again binaries.F32x4Min = refl
  binary_again binaries.F32x4Max = refl
  binary_again binaries.F32x4Pmin = refl
  binary_again binaries.F32x4Pmax = refl
  binary_again binaries.F64x2Add = refl
  binary_again binaries.F64x2Sub = refl
  binary_again binaries.F64x2Mul = refl
  binary_again binaries.F64x2Div = refl
  binary_again binaries.F64x2Min = refl
  binary_again binaries.F64x2Max = refl
  binary_again binaries.F64x2Pmin = refl
  binary_again binaries.F64x2Pmax = refl
  binary_again binaries.I8x16RelaxedSwizzle = refl
  binary_again binaries.F32x4RelaxedMin = refl
  binary_again binaries.F32x4RelaxedMax = refl
  binary_again binaries.F64x2RelaxedMin = refl
  binary_again binaries.F64x2RelaxedMax = refl
  binary_again binaries.I16x8RelaxedQ15mulrS = refl
  binary_again binaries.I16x8RelaxedDotI8x16I7x16S = refl
  binary_again (binaries.I8x16ReplaceLane lane) = refl
  binary_again (binaries.I16x8ReplaceLane lane) = refl
  binary_again (binaries.I32x4ReplaceLane lane) = refl
  binary_again (binaries.I64x2ReplaceLane lane) = refl
  binary_again (binaries.F32x4ReplaceLane lane) = refl
  binary_again (binaries.F64x2ReplaceLane lane) = refl

  ternary_again : (o : TernaryOp) → Is (seen_of (ternary_code o) []) (instrs.TernOp o)
  unfolding unary_bytes unary_bulks low_unary_vectors high_unary_vectors unary_lanes binary_bytes binary_bulks low_binary_vectors high_binary_vectors binary_lanes ternary_vectors
  ternary_again ternaries.F32x4RelaxedMadd = refl
  ternary_again ternaries.F32x4RelaxedNmadd = refl
  ternary_again ternaries.F64x2RelaxedMadd = refl
  ternary_again ternaries.F64x2RelaxedNmadd = refl
  ternary_again ternaries.I8x16RelaxedLaneselect = refl
  ternary_again ternaries.I16x8RelaxedLaneselect = refl
  ternary_again ternaries.I32x4RelaxedLaneselect = refl
  ternary_again ternaries.I64x2RelaxedLaneselect = refl
  ternary_again ternaries.I32x4RelaxedDotI8x16I7x16AddS = refl

  pub numeric_back : (i : Instr) (s : Seen) → IsPlain i → numeric i ≡ Ok (Some s) → instr_at back s ≡ Ok (Some i)
  numeric_back (instrs.Const (constants.I32 z)) s plain e = given (byte 0x41) (S32 z ∷ []) (instrs.Const (constants.I32 z)) s refl e
  numeric_back (instrs.Const (constants.I64 z)) s plain e = given (byte 0x42) (S64 z ∷ []) (instrs.Const (constants.I64 z)) s refl e
  numeric_back (instrs.Const (constants.F32 n)) s plain e = given (byte 0x43) (Bits 4 n ∷ []) (instrs.Const (constants.F32 n)) s refl e
  numeric_back (instrs.Const (constants.F64 n)) s plain e = given (byte 0x44) (Bits 8 n ∷ []) (instrs.Const (constants.F64 n)) s refl e
  numeric_back (instrs.Const (constants.V128 n)) s plain e =
      given (vector 12) (Bytes (to_le_bytes w128 n) ∷ []) (instrs.Const (constants.V128 n)) s (ap (λ (m : ℕ). Ok (Some (instrs.Const (constants.V128 m)))) (bits_again n plain)) e
  numeric_back (instrs.Unop o) s plain e = given (unary_code o) (lane_items (unary_lane o)) (instrs.Unop o) s (unary_again o) e
  numeric_back (instrs.Binop o) s plain e = given (binary_code o) (lane_items (binary_lane o)) (instrs.Binop o) s (binary_again o) e
  numeric_back (instrs.I8x16Shuffle lanes) s plain e = given (vector 13) (Bytes lanes ∷ []) (instrs.I8x16Shuffle lanes) s refl e
  numeric_back instrs.AtomicFence s plain e = given (atomic 3) (Byte 0 ∷ []) instrs.AtomicFence s refl e
  numeric_back _ s plain e = absurd cc

  pub bare_back : (i : Instr) (s : Seen) → of_code (bare_code i) ≡ Ok (Some s) → instr_at back s ≡ Ok (Some i)
  bare_back instrs.Unreachable s e = given (byte 0x00) [] instrs.Unreachable s refl e
  bare_back instrs.ThrowRef s e = given (byte 0x0a) [] instrs.ThrowRef s refl e
  bare_back instrs.Return s e = given (byte 0x0f) [] instrs.Return s refl e
  bare_back instrs.Drop s e = given (byte 0x1a) [] instrs.Drop s refl e
  bare_back (instrs.Select None) s e = given (byte 0x1b) [] (instrs.Select None) s refl e
  bare_back instrs.RefIsNull s e = given (byte 0xd1) [] instrs.RefIsNull s refl e
  bare_back instrs.RefEq s e = given (byte 0xd3) [] instrs.RefEq s refl e
  bare_back instrs.RefAsNonNull s e = given (byte 0xd4) [] instrs.RefAsNonNull s refl e
  bare_back instrs.ArrayLen s e = given (object 15) [] instrs.ArrayLen s refl e
  bare_back instrs.AnyConvertExtern s e = given (object 26) [] instrs.AnyConvertExtern s refl e
  bare_back instrs.ExternConvertAny s e = given (object 27) [] instrs.ExternConvertAny s refl e
  bare_back instrs.RefI31 s e = given (object 28) [] instrs.RefI31 s refl e
  bare_back instrs.I31GetS s e = given (object 29) [] instrs.I31GetS s refl e
  bare_back instrs.I31GetU s e = given (object 30) [] instrs.I31GetU s refl e
  bare_back instrs.I64Add128 s e = given (bulk 19) [] instrs.I64Add128 s refl e
  bare_back instrs.I64Sub128 s e = given (bulk 20) [] instrs.I64Sub128 s refl e
  bare_back instrs.I8x16Swizzle s e = given (vector 14) [] instrs.I8x16Swizzle s refl e
  bare_back instrs.V128Bitselect s e = given (vector 82) [] instrs.V128Bitselect s refl e
  bare_back (instrs.TernOp o) s e = given (ternary_code o) [] (instrs.TernOp o) s (ternary_again o) e
  bare_back _ s e = absurd cc
