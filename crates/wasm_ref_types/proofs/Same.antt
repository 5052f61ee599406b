-- Packed types are equal exactly where they are one.
use Rattle.std.proofs.Common.{ℕ, ◌≡◌, ◌==◌, Bool, true, false, refl, ap, sym, ◌∙◌, arith}
use Rattle.std.specs.Bool.{beq}
use Rattle.std.proofs.lemmas.Bool.{and_parts, eqb-true, eq-eqb}
use Rattle.wasm_ref_types.specs.declared.index.UnpackedIndex.{UnpackedIndex}
use Rattle.wasm_ref_types.specs.declared.index.UnpackedIndex.TheVariants.{Module, RecGroup, Id}
use Rattle.wasm_ref_types.specs.declared.heap.AbstractHeapType.{AbstractHeapType}
use Rattle.wasm_ref_types.specs.declared.heap.HeapType.{HeapType}
use Rattle.wasm_ref_types.specs.declared.heap.HeapType.TheVariants.{Abstract, Concrete, Exact}
use Rattle.wasm_ref_types.specs.contracts.index.UnpackedIndexOrd.TheImpl.{ghosts as unpacked_ord}
use Rattle.wasm_ref_types.specs.Indices.{index_kind, number_of, index_cmp, index_eq}
use Rattle.wasm_ref_types.specs.Heaps.{rank, digit, heap_form, heap_kind, heap_number}
use Rattle.wasm_ref_types.specs.Packed.{of_rank}
use Rattle.wasm_ref_types.specs.Reference.{Reference, reference, reference_eq}
use Rattle.wasm_ref_types.proofs.Bits.{of_rank-rank}

bool_same : (a b : Bool) → beq a b ≡ true → a ≡ b
bool_same false false e = refl
bool_same false true e = absurd cc
bool_same true false e = absurd cc
bool_same true true e = refl

bool_itself : (a : Bool) → beq a a ≡ true
bool_itself false = refl
bool_itself true = refl

index_parts : (a b : UnpackedIndex) → index_kind a ≡ index_kind b → number_of a ≡ number_of b → a ≡ b
index_parts (Module a) (Module b) k n = ap Module n
index_parts (Module a) (RecGroup b) k n = absurd (omega (arith, k))
index_parts (Module a) (Id b) k n = absurd (omega (arith, k))
index_parts (RecGroup a) (Module b) k n = absurd (omega (arith, k))
index_parts (RecGroup a) (RecGroup b) k n = ap RecGroup n
index_parts (RecGroup a) (Id b) k n = absurd (omega (arith, k))
index_parts (Id a) (Module b) k n = absurd (omega (arith, k))
index_parts (Id a) (RecGroup b) k n = absurd (omega (arith, k))
index_parts (Id a) (Id b) k n = ap (λ (i : ℕ). Id (record { index = i })) n

pub index-same : (a b : UnpackedIndex) → index_eq a b ≡ true → a ≡ b
index-same a b e =
    let parts = and_parts (index_kind a == index_kind b) (number_of a == number_of b) e in
    index_parts a b (eqb-true _ _ parts.0) (eqb-true _ _ parts.1)

pub index-itself : (a b : UnpackedIndex) → a ≡ b → index_eq a b ≡ true
index-itself a b e = rw e (rw (eq-eqb (index_kind b) (index_kind b) refl, eq-eqb (number_of b) (number_of b) refl) refl)

digit-same : (a b : Bool) → digit a ≡ digit b → a ≡ b
digit-same false false e = refl
digit-same false true e = absurd (omega (arith, e))
digit-same true false e = absurd (omega (arith, e))
digit-same true true e = refl

rank-same : (a b : AbstractHeapType) → rank a ≡ rank b → a ≡ b
rank-same a b e = sym (of_rank-rank a) ∙ ap of_rank e ∙ of_rank-rank b

heap_parts : (a b : HeapType) → heap_form a ≡ heap_form b → heap_kind a ≡ heap_kind b → heap_number a ≡ heap_number b → a ≡ b
heap_parts (Abstract s t) (Abstract u v) f k n = ap (λ (x : Bool). Abstract x t) (digit-same s u k) ∙ ap (λ (x : AbstractHeapType). Abstract u x) (rank-same t v n)
heap_parts (Abstract s t) (Concrete j) f k n = absurd (omega (arith, f))
heap_parts (Abstract s t) (Exact j) f k n = absurd (omega (arith, f))
heap_parts (Concrete i) (Abstract s t) f k n = absurd (omega (arith, f))
heap_parts (Concrete i) (Concrete j) f k n = ap Concrete (index_parts i j k n)
heap_parts (Concrete i) (Exact j) f k n = absurd (omega (arith, f))
heap_parts (Exact i) (Abstract s t) f k n = absurd (omega (arith, f))
heap_parts (Exact i) (Concrete j) f k n = absurd (omega (arith, f))
heap_parts (Exact i) (Exact j) f k n = ap Exact (index_parts i j k n)

pub reference-same : (a b : Reference) → reference_eq a b ≡ true → a ≡ b
reference-same a b e =
    let first = and_parts _ _ e in
    let second = and_parts _ _ first.1 in
    let third = and_parts _ _ second.1 in
    ap (λ (n : Bool). reference n a.heap_type) (bool_same a.nullable b.nullable first.0)
    ∙ ap (λ (h : HeapType). reference b.nullable h)
    (heap_parts a.heap_type b.heap_type (eqb-true _ _ second.0) (eqb-true _ _ third.0) (eqb-true _ _ third.1))

pub reference-itself : (a b : Reference) → a ≡ b → reference_eq a b ≡ true
reference-itself a b e =
    rw e (rw (
      bool_itself b.nullable,
      eq-eqb (heap_form b.heap_type) (heap_form b.heap_type) refl,
      eq-eqb (heap_kind b.heap_type) (heap_kind b.heap_type) refl,
      eq-eqb (heap_number b.heap_type) (heap_number b.heap_type) refl,
    ) refl)

pub unpacked_ord-index : (a b : UnpackedIndex) → unpacked_ord.cmp a b ≡ index_cmp a b
unpacked_ord-index (Module a) (Module b) = refl
unpacked_ord-index (Module a) (RecGroup b) = refl
unpacked_ord-index (Module a) (Id b) = refl
unpacked_ord-index (RecGroup a) (Module b) = refl
unpacked_ord-index (RecGroup a) (RecGroup b) = refl
unpacked_ord-index (RecGroup a) (Id b) = refl
unpacked_ord-index (Id a) (Module b) = refl
unpacked_ord-index (Id a) (RecGroup b) = refl
unpacked_ord-index (Id a) (Id b) = refl
