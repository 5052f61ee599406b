-- Lemmas: pairing there and back, of all instructions.
use Rattle.std.specs.Prelude.{◌≡◌, ◌⊎◌, [], ◌∷◌, Option, Some, None, Ok, Err, refl}
use Rattle.std.proofs.Common.{sym, subst, inl, inr}
use Rattle.wasm_ref_types.specs.declared.value.ValType.{ValType as WrittenValue}
use Rattle.wasm_ref_types.specs.declared.value.ValType.TheVariants.{Ref as WRef}
use Rattle.wasm_ref_types.specs.declared.heap.HeapType.{HeapType as WrittenHeap}
use Rattle.wasm_ref_types.specs.Reference.{reference}
use Rattle.wasm_operators.specs.Items.{Types, ManyValues}
use Rattle.wasm_operators.specs.Operators.{Seen}
use Rattle.walrus_forms.specs.declared.value.ValType.{ValType}
use Rattle.walrus_forms.specs.declared.value.ValType.TheVariants.{I32, I64, F32, F64, V128, Ref}
use Rattle.walrus_instr.specs.declared.instr.Instr.{Instr}
use Rattle.walrus_instr.specs.declared.instr.Instr.TheVariants as instrs
use Rattle.walrus_codes.specs.Runs.{byte}
use Rattle.walrus_pairing.specs.Looks.{Look, Or}
use Rattle.walrus_pairing.specs.Types.{written_heap, written_value, read_value}
use Rattle.walrus_pairing.specs.Write.{seen_of, either, of_code, bare_code, numeric, variable, memory_op, object_op, plain_at, select, operator_at}
use Rattle.walrus_pairing.specs.Read.{instr_at}
use Rattle.walrus_pairing.specs.InstrLaws.{Undoes, IsPlain, InstrComesBack, FormsAreTold}
use Rattle.walrus_pairing.specs.Back.{some_is, ok_is, read_again, variable_back, memory_back, object_back}
use Rattle.walrus_pairing.specs.Numeric.{numeric_back, bare_back}

-- an answer is one of the two
pub either_is : (a b : Or (Option Seen)) (s : Seen) → either a b ≡ Ok (Some s) → (a ≡ Ok (Some s)) ⊎ (b ≡ Ok (Some s))
either_is (Ok None) b s e = inr e
either_is (Ok (Some t)) b s e = inl e
either_is (Err x) b s e = inl e

module _ (there back : Look) (undoes : Undoes there back) where
  value_again : (ty : ValType) (v : WrittenValue) → written_value (there Types) ty ≡ Ok v → read_value (back Types) v ≡ Ok ty
  value_again I32 v e = subst (λ w. read_value (back Types) w ≡ Ok I32) (ok_is _ v e) refl
  value_again I64 v e = subst (λ w. read_value (back Types) w ≡ Ok I64) (ok_is _ v e) refl
  value_again F32 v e = subst (λ w. read_value (back Types) w ≡ Ok F32) (ok_is _ v e) refl
  value_again F64 v e = subst (λ w. read_value (back Types) w ≡ Ok F64) (ok_is _ v e) refl
  value_again V128 v e = subst (λ w. read_value (back Types) w ≡ Ok V128) (ok_is _ v e) refl
  value_again (Ref ty) v e = at (written_heap (there Types) ty.heap_type) refl
    where
      at : (o : Or WrittenHeap) → written_heap (there Types) ty.heap_type ≡ o → read_value (back Types) v ≡ Ok (Ref ty)
      at (Ok h) w = subst (λ x. read_value (back Types) x ≡ Ok (Ref ty)) (ok_is (WRef (reference ty.nullable h)) v (rw w at e)) (rw (read_again there back undoes ty.heap_type h w) refl)
      at (Err x) w = absurd (let y = (rw w at e) in cc)

  select_back : (i : Instr) (s : Seen) → select there i ≡ Ok (Some s) → instr_at back s ≡ Ok (Some i)
  select_back (instrs.Select (Some ty)) s e = at (written_value (there Types) ty) refl
    where
      at : (o : Or WrittenValue) → written_value (there Types) ty ≡ o → instr_at back s ≡ Ok (Some (instrs.Select (Some ty)))
      at (Ok v) w = subst (λ t. instr_at back t ≡ Ok (Some (instrs.Select (Some ty)))) (some_is (seen_of (byte 0x1c) (ManyValues (v ∷ []) ∷ [])) s (rw w at e)) (rw (value_again ty v w) refl)
      at (Err x) w = absurd (let y = (rw w at e) in cc)
  select_back _ s e = absurd cc

  plain_back : (i : Instr) (s : Seen) → IsPlain i → plain_at there i ≡ Ok (Some s) → instr_at back s ≡ Ok (Some i)
  plain_back i s plain e = elim (either_is (of_code (bare_code i)) (either (numeric i) (either (variable there i) (either (memory_op there i) (object_op there i)))) s e) [
    | inl h ↦ bare_back back i s h
    | inr e1 ↦ elim (either_is (numeric i) (either (variable there i) (either (memory_op there i) (object_op there i))) s e1) [
      | inl h ↦ numeric_back back i s plain h
      | inr e2 ↦ elim (either_is (variable there i) (either (memory_op there i) (object_op there i)) s e2) [
        | inl h ↦ variable_back there back undoes i s h
        | inr e3 ↦ elim (either_is (memory_op there i) (object_op there i) s e3) [
          | inl h ↦ memory_back there back undoes i s plain h
          | inr h ↦ object_back there back undoes i s plain h
        ]
      ]
    ]
  ]

pub instr_comes_back : InstrComesBack
unfolding operator_at
instr_comes_back there back undoes i s plain e = elim (either_is (plain_at there i) (select there i) s e) [
  | inl h ↦ plain_back there back undoes i s plain h
  | inr h ↦ select_back there back undoes i s h
]

pub forms_are_told : FormsAreTold
forms_are_told i j s plain other e f =
    let all : Look = λ _ n. Some n in
    let undoes : Undoes all all = λ space m n h. sym h in
    let first = instr_comes_back all all undoes i s plain e in
    let second = instr_comes_back all all undoes j s other f in
    cc
