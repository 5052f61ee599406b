-- Instructions that are operators of constant expressions (Core Specification, valid expressions: constant expressions).
use Rattle.std.specs.Prelude.{◌≡◌, Option, Some, None, Ok, Err, refl}
use Rattle.std.specs.Option.{option_and_then}
use Rattle.std.proofs.Common.{ap, sym, ◌∙◌}
use Rattle.walrus_operators.specs.declared.operator.Operator.{Operator}
use Rattle.walrus_operators.specs.Operators.{seen}
use Rattle.walrus_instr.specs.declared.instr.Instr.{Instr}
use Rattle.walrus_instr.specs.declared.instr.Instr.TheVariants as instrs
use Rattle.walrus_instr.specs.declared.operators.BinaryOp.{BinaryOp}
use Rattle.walrus_instr.specs.declared.operators.BinaryOp.TheVariants as binary
use Rattle.walrus_instr.specs.declared.const_expr.ConstOp.{ConstOp}
use Rattle.walrus_instr.specs.declared.const_expr.ConstOp.TheVariants as consts
use Rattle.walrus_instr.specs.Constants.{const_of}
use Rattle.walrus_pairing.specs.Looks.{Look, Or}
use Rattle.walrus_pairing.specs.Read.{instr_at}

-- of sums, differences and products
abbrev pub binary_const : BinaryOp → Option ConstOp
binary_const binary.I32Add = Some consts.I32Add
binary_const binary.I32Sub = Some consts.I32Sub
binary_const binary.I32Mul = Some consts.I32Mul
binary_const binary.I64Add = Some consts.I64Add
binary_const binary.I64Sub = Some consts.I64Sub
binary_const binary.I64Mul = Some consts.I64Mul
binary_const _ = None

-- the operator that is this instruction, if one is
abbrev pub instr_const : Instr → Option ConstOp
instr_const (instrs.Const value) = Some (const_of value)
instr_const (instrs.GlobalGet global) = Some (consts.GlobalGet global)
instr_const (instrs.RefNull ty) = Some (consts.RefNull ty)
instr_const (instrs.RefFunc function) = Some (consts.RefFunc function)
instr_const (instrs.Binop op) = binary_const op
instr_const instrs.RefI31 = Some consts.RefI31
instr_const instrs.AnyConvertExtern = Some consts.AnyConvertExtern
instr_const instrs.ExternConvertAny = Some consts.ExternConvertAny
instr_const (instrs.StructNew ty) = Some (consts.StructNew ty)
instr_const (instrs.StructNewDefault ty) = Some (consts.StructNewDefault ty)
instr_const (instrs.ArrayNew ty) = Some (consts.ArrayNew ty)
instr_const (instrs.ArrayNewDefault ty) = Some (consts.ArrayNewDefault ty)
instr_const (instrs.ArrayNewFixed ty size) = Some (consts.ArrayNewFixed ty size)
instr_const _ = None

-- the instruction that was read, if there is one
abbrev pub plain_of : Or (Option Instr) → Option Instr
plain_of (Ok instr) = instr
plain_of (Err e) = None

-- what an operator is in a constant expression: none where it names nothing, or isn't constant
abbrev pub const_at : Look → Operator → Option ConstOp
const_at look op = option_and_then instr_const (plain_of (instr_at look (seen op)))

abbrev pub OpLacks : Look → Operator → Type 0
OpLacks look op = const_at look op ≡ None

-- Lemmas
abbrev plain : Option Instr → Or (Option Instr)
plain o = Ok o

pub plain_is : (read : Or (Option Instr)) (i : Instr) → Some i ≡ plain_of read → read ≡ Ok (Some i)
plain_is (Ok instr) i e = go instr e
  where
    go : (o : Option Instr) → Some i ≡ o → plain o ≡ plain (Some i)
    go o e = rw e refl
plain_is (Err d) i e = absurd cc

pub none_lacks : (look : Look) (op : Operator) → None ≡ plain_of (instr_at look (seen op)) → OpLacks look op
none_lacks look op e = go (plain_of (instr_at look (seen op))) e
  where
    go : (o : Option Instr) → None ≡ o → option_and_then instr_const o ≡ None
    go None e = refl
    go (Some i) e = absurd cc

some_is : (i j : Instr) → Some i ≡ Some j → i ≡ j
some_is i j e = cc

pub other_lacks : (look : Look) (op : Operator) (i : Instr) → Some i ≡ plain_of (instr_at look (seen op)) → None ≡ instr_const i → OpLacks look op
other_lacks look op i read none = go (plain_of (instr_at look (seen op))) read
  where
    go : (o : Option Instr) → Some i ≡ o → option_and_then instr_const o ≡ None
    go None e = absurd cc
    go (Some j) e = ap instr_const (sym (some_is i j e)) ∙ sym none
