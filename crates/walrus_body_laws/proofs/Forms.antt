-- Lemmas: what is written for an instruction tells its form.
use Rattle.std.specs.Prelude.{ℕ, ◌≡◌, ◌⊎◌, List, [], ◌∷◌, map, slice_get, Some, None, Ok, Err, refl}
use Rattle.std.proofs.Common.{ap, subst, inl, inr, ◌∙◌}
use Rattle.wasm_operators.specs.declared.block_type.BlockType.{BlockType}
use Rattle.wasm_operators.specs.declared.clause.Clause.{Clause}
use Rattle.wasm_operators.specs.Items.{Item, Types, Labels, Names, Byte, Heap, Block, ManyLabels, ManyClauses}
use Rattle.wasm_operators.specs.declared.op_code.OpCode.{OpCode}
use Rattle.wasm_operators.specs.Operators.{Seen}
use Rattle.wasm_ref_types.specs.declared.heap.HeapType.{HeapType as WrittenHeap}
use Rattle.walrus_forms.specs.declared.value.RefType.{RefType}
use Rattle.walrus_instr.specs.declared.instr.Instr.{Instr}
use Rattle.walrus_instr.specs.declared.instr.Instr.TheVariants as instrs
use Rattle.walrus_instr.specs.declared.seq.InstrSeq.{InstrSeq}
use Rattle.walrus_codes.specs.Runs.{byte, object}
use Rattle.walrus_pairing.specs.Looks.{Look, Or, ◌>>=◌}
use Rattle.walrus_pairing.specs.Types.{written_heap}
use Rattle.walrus_pairing.specs.Write.{seen_of, op, operator_at}
use Rattle.walrus_pairing.specs.Read.{instr_at}
use Rattle.walrus_pairing.specs.InstrLaws.{IsPlain, InstrComesBack}
use Rattle.walrus_body_names.specs.walrus_body_writer.Spelled.{block, cast, clauses, flags, type_in, written_instr}
use Rattle.walrus_body_laws.specs.Forms.{control_code, ControlIsTold}

-- what was given is what is given
some_is : (s t : Seen) → op s.code s.items ≡ Ok (Some t) → s ≡ t
some_is s t e = cc

module _ (look back : Look) where
  -- a plain instruction, or one that is read as none, and its code
  abbrev Tells : Instr → Seen → Type 0
  Tells i s = ((control_code i ≡ None) × (operator_at look i ≡ Ok (Some s))) ⊎ ((control_code i ≡ Some s.code) × (instr_at back s ≡ Ok None))

  holds : (i : Instr) (code : OpCode) (items : List Item) (s : Seen) → control_code i ≡ Some code → instr_at back (seen_of code items) ≡ Ok None → op code items ≡ Ok (Some s) → Tells i s
  holds i code items s c r e =
      let is = some_is (seen_of code items) s e in
      inr (c ∙ ap (λ (z : Seen). Some z.code) is, subst (λ (z : Seen). instr_at back z ≡ Ok None) is r)

  module _ (b : List InstrSeq) (number : ℕ → ℕ) where
    opens : (i : Instr) (code k : ℕ) (s : Seen) → control_code i ≡ Some (byte code) → (block look (type_in (slice_get b k)) >>= λ ty. op (byte code) (Block ty ∷ [])) ≡ Ok (Some s) → Tells i s
    opens i code k s c e = at (block look (type_in (slice_get b k))) e
      where
        at : (o : Or BlockType) → (o >>= λ ty. op (byte code) (Block ty ∷ [])) ≡ Ok (Some s) → Tells i s
        at (Ok ty) f = holds i (byte code) (Block ty ∷ []) s c refl f
        at (Err x) f = absurd (let y = f in cc)

    casts : (i : Instr) (code k : ℕ) (source target : RefType) (s : Seen) → control_code i ≡ Some (object code) → cast look code number k source target ≡ Ok (Some s) → Tells i s
    casts i code k source target s c e = at (written_heap (look Types) source.heap_type) (written_heap (look Types) target.heap_type) e
      where
        at : (o p : Or WrittenHeap) → (o >>= λ x. p >>= λ y. op (object code) (Byte (flags source.nullable target.nullable) ∷ Names Labels (number k) ∷ Heap x ∷ Heap y ∷ [])) ≡ Ok (Some s) → Tells i s
        at (Ok x) (Ok y) f = holds i (object code) (Byte (flags source.nullable target.nullable) ∷ Names Labels (number k) ∷ Heap x ∷ Heap y ∷ []) s c refl f
        at (Ok x) (Err z) f = absurd (let y = f in cc)
        at (Err z) p f = absurd (let y = f in cc)

    tables : (i : Instr) (k : ℕ) (cs : _) (s : Seen) → control_code i ≡ Some (byte 0x1f)
        → (block look (type_in (slice_get b k)) >>= λ ty. clauses look number cs >>= λ x. op (byte 0x1f) (Block ty ∷ ManyClauses x ∷ [])) ≡ Ok (Some s) → Tells i s
    tables i k cs s c e = at (block look (type_in (slice_get b k))) (clauses look number cs) e
      where
        at : (o : Or BlockType) (p : Or (List Clause)) → (o >>= λ ty. p >>= λ x. op (byte 0x1f) (Block ty ∷ ManyClauses x ∷ [])) ≡ Ok (Some s) → Tells i s
        at (Ok ty) (Ok x) f = holds i (byte 0x1f) (Block ty ∷ ManyClauses x ∷ []) s c refl f
        at (Ok ty) (Err z) f = absurd (let y = f in cc)
        at (Err z) p f = absurd (let y = f in cc)

    branches : (i : Instr) (code n : ℕ) (s : Seen) → control_code i ≡ Some (byte code) → op (byte code) (Names Labels n ∷ []) ≡ Ok (Some s) → Tells i s
    branches i code n s c e = holds i (byte code) (Names Labels n ∷ []) s c refl e

    tells : (i : Instr) (s : Seen) → written_instr look b number i ≡ Ok (Some s) → Tells i s
    tells (instrs.Block k) s e = opens (instrs.Block k) 0x02 k s refl e
    tells (instrs.Loop k) s e = opens (instrs.Loop k) 0x03 k s refl e
    tells (instrs.IfElse k other) s e = opens (instrs.IfElse k other) 0x04 k s refl e
    tells (instrs.Try k catches) s e = opens (instrs.Try k catches) 0x06 k s refl e
    tells (instrs.TryTable k catches) s e = tables (instrs.TryTable k catches) k catches.items s refl e
    tells (instrs.Br k) s e = branches (instrs.Br k) 0x0c (number k) s refl e
    tells (instrs.BrIf k) s e = branches (instrs.BrIf k) 0x0d (number k) s refl e
    tells (instrs.BrTable other ks) s e = holds (instrs.BrTable other ks) (byte 0x0e) (ManyLabels (map number ks.items) ∷ Names Labels (number other) ∷ []) s refl refl e
    tells (instrs.BrOnNull k) s e = branches (instrs.BrOnNull k) 0xd5 (number k) s refl e
    tells (instrs.BrOnNonNull k) s e = branches (instrs.BrOnNonNull k) 0xd6 (number k) s refl e
    tells (instrs.BrOnCast k source target) s e = casts (instrs.BrOnCast k source target) 24 k source target s refl e
    tells (instrs.BrOnCastFail k source target) s e = casts (instrs.BrOnCastFail k source target) 25 k source target s refl e
    tells (instrs.Rethrow depth) s e = branches (instrs.Rethrow depth) 0x09 depth s refl e
    tells i s e = inl (refl, e)

pub control_told : InstrComesBack → ControlIsTold
control_told again look back undoes b number i j s plain other e f = both (tells look back b number i s e) (tells look back b number j s f)
  where
    one : (k : Instr) → IsPlain k → operator_at look k ≡ Ok (Some s) → instr_at back s ≡ Ok (Some k)
    one k h p = again look back undoes k s h p

    both : Tells look back i s → Tells look back j s → ((control_code i ≡ None) × (i ≡ j)) ⊎ ((control_code i ≡ Some s.code) × (control_code j ≡ Some s.code))
    both (inl x) (inl y) = inl (x.0, (let p = one i plain x.1 in let q = one j other y.1 in cc))
    both (inl x) (inr y) = absurd (let p = one i plain x.1 in let q = y.1 in cc)
    both (inr x) (inl y) = absurd (let p = x.1 in let q = one j other y.1 in cc)
    both (inr x) (inr y) = inr (x.0, y.0)
