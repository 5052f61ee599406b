-- Instructions that are operators of constant expressions.
use Rattle.std.specs.Prelude.{◌≡◌, Option, Some, Ok, refl}
use Rattle.std.specs.Option.{option_and_then}
use Rattle.std.proofs.Common.{ap, sym, ◌∙◌}
use Rattle.wasm_operators.specs.Operators.{Seen}
use Rattle.wasm_operators.specs.Names.{renamed_operator}
use Rattle.walrus_operators.specs.declared.operator.Operator.{Operator}
use Rattle.walrus_operators.specs.Operators.{seen}
use Rattle.walrus_instr.specs.declared.instr.Instr.{Instr}
use Rattle.walrus_instr.specs.declared.const_expr.ConstOp.{ConstOp}
use Rattle.walrus_pairing.specs.Looks.{Look, Or}
use Rattle.walrus_pairing.specs.Read.{instr_at}
use Rattle.walrus_pairing.proofs.Renamed.{operator_comes_back}
use Rattle.walrus_sections_into.specs.Consts.{instr_const, plain_of, plain_is}
use Rattle.walrus_sections_into.specs.Becomes.{renames_by, OpBecomes}
use Rattle.walrus_forms.specs.declared.value.RefType.{RefType}
use Rattle.walrus_forms.specs.declared.value.HeapType.{HeapType}
use Rattle.walrus_forms.specs.declared.value.HeapType.TheVariants.{Abstract, Shared, Concrete, Exact}
use Rattle.walrus_instr.specs.declared.instr.Instr.TheVariants as instrs
use Rattle.walrus_instr.specs.declared.instr.Value.{Value}
use Rattle.walrus_instr.specs.declared.instr.Value.TheVariants.{I32, I64, F32, F64, V128}
use Rattle.walrus_instr.specs.declared.const_expr.ConstOp.TheVariants as consts
use Rattle.walrus_instr.specs.Constants.{const_of}
use Rattle.walrus_pairing.specs.Write.{operator_at}
use Rattle.walrus_collections.specs.walrus_module_items.Words.{const_seen, itself}

pub value_is : (v : Value) → operator_at itself (instrs.Const v) ≡ Ok (Some (const_seen (const_of v)))
unfolding operator_at
value_is (I32 n) = refl
value_is (I64 n) = refl
value_is (F32 bits) = refl
value_is (F64 bits) = refl
value_is (V128 bits) = refl

pub null_is : (ty : RefType) → operator_at itself (instrs.RefNull ty) ≡ Ok (Some (const_seen (consts.RefNull ty)))
unfolding operator_at
null_is ty = go ty.heap_type refl
  where
    go : (h : HeapType) → ty.heap_type ≡ h → operator_at itself (instrs.RefNull ty) ≡ Ok (Some (const_seen (consts.RefNull ty)))
    go (Abstract kind) e = rw e refl
    go (Shared kind) e = rw e refl
    go (Concrete id) e = rw e refl
    go (Exact id) e = rw e refl

abbrev done : Seen → Or (Option Seen)
done s = Ok (Some s)

some_is : (a b : Seen) → done a ≡ done b → a ≡ b
some_is a b e = cc

-- what an operator is read as is the same, renamed
pub op_becomes : (look : Look) (op : Operator) (i : Instr) (c : ConstOp) → Some i ≡ plain_of (instr_at look (seen op)) → Some c ≡ instr_const i → operator_at itself i ≡ Ok (Some (const_seen c)) → OpBecomes look op c
op_becomes look op i c read form written = (
  ap (λ (o : Option Instr). option_and_then instr_const o) (sym read) ∙ sym form,
  λ features fits.
      let back = operator_comes_back (renames_by look) look itself (λ space n id there. rw there refl) features (seen op) i fits (plain_is (instr_at look (seen op)) i read) in
      some_is (const_seen c) (renamed_operator (renames_by look) (seen op)) (sym written ∙ back),
)
