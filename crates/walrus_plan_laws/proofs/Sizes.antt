-- Lemmas: a body has the size of the operators that it means.
use Rattle.std.specs.Prelude.{ℕ, ◌+◌, ◌≡◌, List, [], ◌∷◌, map, Option, Some, None, Ok, Err, refl}
use Rattle.std.proofs.Common.{ap, sym, ◌∙◌}
use Rattle.wasm_operators.specs.Operators.{Seen}
use Rattle.wasm_operators.specs.Table.{structure_rows, call_rows, plain_rows, fb_rows}
use Rattle.wasm_normal_form.specs.Normal.{size}
use Rattle.wasm_normal_form.specs.Roles.{role, weight_of}
use Rattle.wasm_ruled_normal.specs.Normal.{text_of}
use Rattle.walrus_instr.specs.declared.instr.Instr.{Instr}
use Rattle.walrus_instr.specs.declared.instr.Instr.TheVariants as instrs
use Rattle.walrus_instr.specs.declared.seq.InstrSeq.{InstrSeq}
use Rattle.walrus_pairing.specs.Looks.{Or}
use Rattle.walrus_pairing.specs.Write.{operator_at}
use Rattle.walrus_tree.specs.Text.{Piece, Operator, Else, Catch, CatchAll, Delegate, End}
use Rattle.walrus_body_names.specs.walrus_body_writer.Spelled.{Text}
use Rattle.walrus_body_names.specs.walrus_body_writer.walrus_body_text.Visiting.{text_size, weight}
use Rattle.walrus_module_items.specs.Words.{itself, plain_or_nop}
use Rattle.walrus_meaning.specs.Bodies.{depth_of, own_instr, own_piece, own_seen}
use Rattle.walrus_body_laws.specs.Naming.{instr_role}
use Rattle.walrus_body_laws.proofs.Agreeing.{ToldPiece, piece_told}

-- the operator of an instruction that has one of its own weighs what the instruction does
plain_weighs : (around : List ℕ) (i : Instr) (a : Or (Option Seen)) → ToldPiece itself (Operator around i) a → weight_of (instr_role i) ≡ 1 → 1 ≡ weight_of (role (plain_or_nop a))
unfolding structure_rows call_rows
plain_weighs around i (Ok (Some s)) h w = sym (ap weight_of h.0 ∙ w)
plain_weighs around i (Ok None) h w = absurd h
plain_weighs around i (Err e) h w = refl

instr_weighs : (b : List InstrSeq) (around : List ℕ) (i : Instr) → 1 ≡ weight_of (role (own_instr b (depth_of around) i))
unfolding structure_rows call_rows plain_rows fb_rows
instr_weighs b around (instrs.Block _) = refl
instr_weighs b around (instrs.Loop _) = refl
instr_weighs b around (instrs.IfElse _ _) = refl
instr_weighs b around (instrs.Try _ _) = refl
instr_weighs b around (instrs.TryTable _ _) = refl
instr_weighs b around (instrs.Br _) = refl
instr_weighs b around (instrs.BrIf _) = refl
instr_weighs b around (instrs.BrTable _ _) = refl
instr_weighs b around (instrs.BrOnNull _) = refl
instr_weighs b around (instrs.BrOnNonNull _) = refl
instr_weighs b around (instrs.Rethrow _) = refl
instr_weighs b around (instrs.BrOnCast _ _ _) = refl
instr_weighs b around (instrs.BrOnCastFail _ _ _) = refl
instr_weighs b around instrs.Unreachable = plain_weighs around instrs.Unreachable (operator_at itself instrs.Unreachable) (piece_told itself b (Operator around instrs.Unreachable)) refl
instr_weighs b around instrs.ThrowRef = plain_weighs around instrs.ThrowRef (operator_at itself instrs.ThrowRef) (piece_told itself b (Operator around instrs.ThrowRef)) refl
instr_weighs b around instrs.Return = plain_weighs around instrs.Return (operator_at itself instrs.Return) (piece_told itself b (Operator around instrs.Return)) refl
instr_weighs b around instrs.Drop = plain_weighs around instrs.Drop (operator_at itself instrs.Drop) (piece_told itself b (Operator around instrs.Drop)) refl
instr_weighs b around (instrs.Select x) = plain_weighs around (instrs.Select x) (operator_at itself (instrs.Select x)) (piece_told itself b (Operator around (instrs.Select x))) refl
instr_weighs b around instrs.RefIsNull = plain_weighs around instrs.RefIsNull (operator_at itself instrs.RefIsNull) (piece_told itself b (Operator around instrs.RefIsNull)) refl
instr_weighs b around instrs.RefEq = plain_weighs around instrs.RefEq (operator_at itself instrs.RefEq) (piece_told itself b (Operator around instrs.RefEq)) refl
instr_weighs b around instrs.RefAsNonNull = plain_weighs around instrs.RefAsNonNull (operator_at itself instrs.RefAsNonNull) (piece_told itself b (Operator around instrs.RefAsNonNull)) refl
instr_weighs b around instrs.ArrayLen = plain_weighs around instrs.ArrayLen (operator_at itself instrs.ArrayLen) (piece_told itself b (Operator around instrs.ArrayLen)) refl
instr_weighs b around instrs.AnyConvertExtern = plain_weighs around instrs.AnyConvertExtern (operator_at itself instrs.AnyConvertExtern) (piece_told itself b (Operator around instrs.AnyConvertExtern)) refl
instr_weighs b around instrs.ExternConvertAny = plain_weighs around instrs.ExternConvertAny (operator_at itself instrs.ExternConvertAny) (piece_told itself b (Operator around instrs.ExternConvertAny)) refl
instr_weighs b around instrs.RefI31 = plain_weighs around instrs.RefI31 (operator_at itself instrs.RefI31) (piece_told itself b (Operator around instrs.RefI31)) refl
instr_weighs b around instrs.I31GetS = plain_weighs around instrs.I31GetS (operator_at itself instrs.I31GetS) (piece_told itself b (Operator around instrs.I31GetS)) refl
instr_weighs b around instrs.I31GetU = plain_weighs around instrs.I31GetU (operator_at itself instrs.I31GetU) (piece_told itself b (Operator around instrs.I31GetU)) refl
instr_weighs b around instrs.I64Add128 = plain_weighs around instrs.I64Add128 (operator_at itself instrs.I64Add128) (piece_told itself b (Operator around instrs.I64Add128)) refl
instr_weighs b around instrs.I64Sub128 = plain_weighs around instrs.I64Sub128 (operator_at itself instrs.I64Sub128) (piece_told itself b (Operator around instrs.I64Sub128)) refl
instr_weighs b around instrs.I8x16Swizzle = plain_weighs around instrs.I8x16Swizzle (operator_at itself instrs.I8x16Swizzle) (piece_told itself b (Operator around instrs.I8x16Swizzle)) refl
instr_weighs b around instrs.V128Bitselect = plain_weighs around instrs.V128Bitselect (operator_at itself instrs.V128Bitselect) (piece_told itself b (Operator around instrs.V128Bitselect)) refl
instr_weighs b around (instrs.TernOp x) = plain_weighs around (instrs.TernOp x) (operator_at itself (instrs.TernOp x)) (piece_told itself b (Operator around (instrs.TernOp x))) refl
instr_weighs b around (instrs.Const x) = plain_weighs around (instrs.Const x) (operator_at itself (instrs.Const x)) (piece_told itself b (Operator around (instrs.Const x))) refl
instr_weighs b around (instrs.Unop x) = plain_weighs around (instrs.Unop x) (operator_at itself (instrs.Unop x)) (piece_told itself b (Operator around (instrs.Unop x))) refl
instr_weighs b around (instrs.Binop x) = plain_weighs around (instrs.Binop x) (operator_at itself (instrs.Binop x)) (piece_told itself b (Operator around (instrs.Binop x))) refl
instr_weighs b around (instrs.I8x16Shuffle x) = plain_weighs around (instrs.I8x16Shuffle x) (operator_at itself (instrs.I8x16Shuffle x)) (piece_told itself b (Operator around (instrs.I8x16Shuffle x))) refl
instr_weighs b around instrs.AtomicFence = plain_weighs around instrs.AtomicFence (operator_at itself instrs.AtomicFence) (piece_told itself b (Operator around instrs.AtomicFence)) refl
instr_weighs b around (instrs.Throw x) = plain_weighs around (instrs.Throw x) (operator_at itself (instrs.Throw x)) (piece_told itself b (Operator around (instrs.Throw x))) refl
instr_weighs b around (instrs.Call x) = plain_weighs around (instrs.Call x) (operator_at itself (instrs.Call x)) (piece_told itself b (Operator around (instrs.Call x))) refl
instr_weighs b around (instrs.CallIndirect x y) = plain_weighs around (instrs.CallIndirect x y) (operator_at itself (instrs.CallIndirect x y)) (piece_told itself b (Operator around (instrs.CallIndirect x y))) refl
instr_weighs b around (instrs.ReturnCall x) = plain_weighs around (instrs.ReturnCall x) (operator_at itself (instrs.ReturnCall x)) (piece_told itself b (Operator around (instrs.ReturnCall x))) refl
instr_weighs b around (instrs.ReturnCallIndirect x y) = plain_weighs around (instrs.ReturnCallIndirect x y) (operator_at itself (instrs.ReturnCallIndirect x y)) (piece_told itself b (Operator around (instrs.ReturnCallIndirect x y))) refl
instr_weighs b around (instrs.CallRef x) = plain_weighs around (instrs.CallRef x) (operator_at itself (instrs.CallRef x)) (piece_told itself b (Operator around (instrs.CallRef x))) refl
instr_weighs b around (instrs.ReturnCallRef x) = plain_weighs around (instrs.ReturnCallRef x) (operator_at itself (instrs.ReturnCallRef x)) (piece_told itself b (Operator around (instrs.ReturnCallRef x))) refl
instr_weighs b around (instrs.LocalGet x) = plain_weighs around (instrs.LocalGet x) (operator_at itself (instrs.LocalGet x)) (piece_told itself b (Operator around (instrs.LocalGet x))) refl
instr_weighs b around (instrs.LocalSet x) = plain_weighs around (instrs.LocalSet x) (operator_at itself (instrs.LocalSet x)) (piece_told itself b (Operator around (instrs.LocalSet x))) refl
instr_weighs b around (instrs.LocalTee x) = plain_weighs around (instrs.LocalTee x) (operator_at itself (instrs.LocalTee x)) (piece_told itself b (Operator around (instrs.LocalTee x))) refl
instr_weighs b around (instrs.GlobalGet x) = plain_weighs around (instrs.GlobalGet x) (operator_at itself (instrs.GlobalGet x)) (piece_told itself b (Operator around (instrs.GlobalGet x))) refl
instr_weighs b around (instrs.GlobalSet x) = plain_weighs around (instrs.GlobalSet x) (operator_at itself (instrs.GlobalSet x)) (piece_told itself b (Operator around (instrs.GlobalSet x))) refl
instr_weighs b around (instrs.TableGet x) = plain_weighs around (instrs.TableGet x) (operator_at itself (instrs.TableGet x)) (piece_told itself b (Operator around (instrs.TableGet x))) refl
instr_weighs b around (instrs.TableSet x) = plain_weighs around (instrs.TableSet x) (operator_at itself (instrs.TableSet x)) (piece_told itself b (Operator around (instrs.TableSet x))) refl
instr_weighs b around (instrs.RefFunc x) = plain_weighs around (instrs.RefFunc x) (operator_at itself (instrs.RefFunc x)) (piece_told itself b (Operator around (instrs.RefFunc x))) refl
instr_weighs b around (instrs.TableInit x y) = plain_weighs around (instrs.TableInit x y) (operator_at itself (instrs.TableInit x y)) (piece_told itself b (Operator around (instrs.TableInit x y))) refl
instr_weighs b around (instrs.ElemDrop x) = plain_weighs around (instrs.ElemDrop x) (operator_at itself (instrs.ElemDrop x)) (piece_told itself b (Operator around (instrs.ElemDrop x))) refl
instr_weighs b around (instrs.TableCopy x y) = plain_weighs around (instrs.TableCopy x y) (operator_at itself (instrs.TableCopy x y)) (piece_told itself b (Operator around (instrs.TableCopy x y))) refl
instr_weighs b around (instrs.TableGrow x) = plain_weighs around (instrs.TableGrow x) (operator_at itself (instrs.TableGrow x)) (piece_told itself b (Operator around (instrs.TableGrow x))) refl
instr_weighs b around (instrs.TableSize x) = plain_weighs around (instrs.TableSize x) (operator_at itself (instrs.TableSize x)) (piece_told itself b (Operator around (instrs.TableSize x))) refl
instr_weighs b around (instrs.TableFill x) = plain_weighs around (instrs.TableFill x) (operator_at itself (instrs.TableFill x)) (piece_told itself b (Operator around (instrs.TableFill x))) refl
instr_weighs b around (instrs.Load x y z) = plain_weighs around (instrs.Load x y z) (operator_at itself (instrs.Load x y z)) (piece_told itself b (Operator around (instrs.Load x y z))) refl
instr_weighs b around (instrs.Store x y z) = plain_weighs around (instrs.Store x y z) (operator_at itself (instrs.Store x y z)) (piece_told itself b (Operator around (instrs.Store x y z))) refl
instr_weighs b around (instrs.LoadSimd x y z) = plain_weighs around (instrs.LoadSimd x y z) (operator_at itself (instrs.LoadSimd x y z)) (piece_told itself b (Operator around (instrs.LoadSimd x y z))) refl
instr_weighs b around (instrs.MemorySize x) = plain_weighs around (instrs.MemorySize x) (operator_at itself (instrs.MemorySize x)) (piece_told itself b (Operator around (instrs.MemorySize x))) refl
instr_weighs b around (instrs.MemoryGrow x) = plain_weighs around (instrs.MemoryGrow x) (operator_at itself (instrs.MemoryGrow x)) (piece_told itself b (Operator around (instrs.MemoryGrow x))) refl
instr_weighs b around (instrs.MemoryInit x y) = plain_weighs around (instrs.MemoryInit x y) (operator_at itself (instrs.MemoryInit x y)) (piece_told itself b (Operator around (instrs.MemoryInit x y))) refl
instr_weighs b around (instrs.DataDrop x) = plain_weighs around (instrs.DataDrop x) (operator_at itself (instrs.DataDrop x)) (piece_told itself b (Operator around (instrs.DataDrop x))) refl
instr_weighs b around (instrs.MemoryCopy x y) = plain_weighs around (instrs.MemoryCopy x y) (operator_at itself (instrs.MemoryCopy x y)) (piece_told itself b (Operator around (instrs.MemoryCopy x y))) refl
instr_weighs b around (instrs.MemoryFill x) = plain_weighs around (instrs.MemoryFill x) (operator_at itself (instrs.MemoryFill x)) (piece_told itself b (Operator around (instrs.MemoryFill x))) refl
instr_weighs b around (instrs.AtomicNotify x y) = plain_weighs around (instrs.AtomicNotify x y) (operator_at itself (instrs.AtomicNotify x y)) (piece_told itself b (Operator around (instrs.AtomicNotify x y))) refl
instr_weighs b around (instrs.AtomicWait x y z) = plain_weighs around (instrs.AtomicWait x y z) (operator_at itself (instrs.AtomicWait x y z)) (piece_told itself b (Operator around (instrs.AtomicWait x y z))) refl
instr_weighs b around (instrs.AtomicRmw x y z w) = plain_weighs around (instrs.AtomicRmw x y z w) (operator_at itself (instrs.AtomicRmw x y z w)) (piece_told itself b (Operator around (instrs.AtomicRmw x y z w))) refl
instr_weighs b around (instrs.Cmpxchg x y z) = plain_weighs around (instrs.Cmpxchg x y z) (operator_at itself (instrs.Cmpxchg x y z)) (piece_told itself b (Operator around (instrs.Cmpxchg x y z))) refl
instr_weighs b around (instrs.RefNull x) = plain_weighs around (instrs.RefNull x) (operator_at itself (instrs.RefNull x)) (piece_told itself b (Operator around (instrs.RefNull x))) refl
instr_weighs b around (instrs.RefTest x) = plain_weighs around (instrs.RefTest x) (operator_at itself (instrs.RefTest x)) (piece_told itself b (Operator around (instrs.RefTest x))) refl
instr_weighs b around (instrs.RefCast x) = plain_weighs around (instrs.RefCast x) (operator_at itself (instrs.RefCast x)) (piece_told itself b (Operator around (instrs.RefCast x))) refl
instr_weighs b around (instrs.StructNew x) = plain_weighs around (instrs.StructNew x) (operator_at itself (instrs.StructNew x)) (piece_told itself b (Operator around (instrs.StructNew x))) refl
instr_weighs b around (instrs.StructNewDefault x) = plain_weighs around (instrs.StructNewDefault x) (operator_at itself (instrs.StructNewDefault x)) (piece_told itself b (Operator around (instrs.StructNewDefault x))) refl
instr_weighs b around (instrs.StructGet x y) = plain_weighs around (instrs.StructGet x y) (operator_at itself (instrs.StructGet x y)) (piece_told itself b (Operator around (instrs.StructGet x y))) refl
instr_weighs b around (instrs.StructGetS x y) = plain_weighs around (instrs.StructGetS x y) (operator_at itself (instrs.StructGetS x y)) (piece_told itself b (Operator around (instrs.StructGetS x y))) refl
instr_weighs b around (instrs.StructGetU x y) = plain_weighs around (instrs.StructGetU x y) (operator_at itself (instrs.StructGetU x y)) (piece_told itself b (Operator around (instrs.StructGetU x y))) refl
instr_weighs b around (instrs.StructSet x y) = plain_weighs around (instrs.StructSet x y) (operator_at itself (instrs.StructSet x y)) (piece_told itself b (Operator around (instrs.StructSet x y))) refl
instr_weighs b around (instrs.ArrayNew x) = plain_weighs around (instrs.ArrayNew x) (operator_at itself (instrs.ArrayNew x)) (piece_told itself b (Operator around (instrs.ArrayNew x))) refl
instr_weighs b around (instrs.ArrayNewDefault x) = plain_weighs around (instrs.ArrayNewDefault x) (operator_at itself (instrs.ArrayNewDefault x)) (piece_told itself b (Operator around (instrs.ArrayNewDefault x))) refl
instr_weighs b around (instrs.ArrayNewFixed x y) = plain_weighs around (instrs.ArrayNewFixed x y) (operator_at itself (instrs.ArrayNewFixed x y)) (piece_told itself b (Operator around (instrs.ArrayNewFixed x y))) refl
instr_weighs b around (instrs.ArrayNewData x y) = plain_weighs around (instrs.ArrayNewData x y) (operator_at itself (instrs.ArrayNewData x y)) (piece_told itself b (Operator around (instrs.ArrayNewData x y))) refl
instr_weighs b around (instrs.ArrayNewElem x y) = plain_weighs around (instrs.ArrayNewElem x y) (operator_at itself (instrs.ArrayNewElem x y)) (piece_told itself b (Operator around (instrs.ArrayNewElem x y))) refl
instr_weighs b around (instrs.ArrayGet x) = plain_weighs around (instrs.ArrayGet x) (operator_at itself (instrs.ArrayGet x)) (piece_told itself b (Operator around (instrs.ArrayGet x))) refl
instr_weighs b around (instrs.ArrayGetS x) = plain_weighs around (instrs.ArrayGetS x) (operator_at itself (instrs.ArrayGetS x)) (piece_told itself b (Operator around (instrs.ArrayGetS x))) refl
instr_weighs b around (instrs.ArrayGetU x) = plain_weighs around (instrs.ArrayGetU x) (operator_at itself (instrs.ArrayGetU x)) (piece_told itself b (Operator around (instrs.ArrayGetU x))) refl
instr_weighs b around (instrs.ArraySet x) = plain_weighs around (instrs.ArraySet x) (operator_at itself (instrs.ArraySet x)) (piece_told itself b (Operator around (instrs.ArraySet x))) refl
instr_weighs b around (instrs.ArrayFill x) = plain_weighs around (instrs.ArrayFill x) (operator_at itself (instrs.ArrayFill x)) (piece_told itself b (Operator around (instrs.ArrayFill x))) refl
instr_weighs b around (instrs.ArrayCopy x y) = plain_weighs around (instrs.ArrayCopy x y) (operator_at itself (instrs.ArrayCopy x y)) (piece_told itself b (Operator around (instrs.ArrayCopy x y))) refl
instr_weighs b around (instrs.ArrayInitData x y) = plain_weighs around (instrs.ArrayInitData x y) (operator_at itself (instrs.ArrayInitData x y)) (piece_told itself b (Operator around (instrs.ArrayInitData x y))) refl
instr_weighs b around (instrs.ArrayInitElem x y) = plain_weighs around (instrs.ArrayInitElem x y) (operator_at itself (instrs.ArrayInitElem x y)) (piece_told itself b (Operator around (instrs.ArrayInitElem x y))) refl

piece_weighs : (b : List InstrSeq) (p : Piece) → weight p ≡ weight_of (role (own_seen b p))
unfolding structure_rows call_rows
piece_weighs b (Operator around i) = instr_weighs b around i
piece_weighs b Else = refl
piece_weighs b (Catch tag) = refl
piece_weighs b CatchAll = refl
piece_weighs b (Delegate outer) = refl
piece_weighs b End = refl

pub sizes_same : (b : List InstrSeq) (t : Text) → text_size t ≡ size (text_of (map (own_piece b) t))
sizes_same b [] = refl
sizes_same b (p ∷ ps) = λ at. piece_weighs b p.0 at + sizes_same b ps at
