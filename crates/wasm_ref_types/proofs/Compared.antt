-- Packed reference types are compared as those that contracts see.
use Rattle.std.proofs.Common.{ℕ, ◌+◌, ◌*◌, ◌/◌, ◌%◌, ◌<◌, ◌≡◌, ◌==◌, Bool, true, false, nat_le, if◌then◌else◌, refl, ap, sym, ◌∙◌, arith, subst}
use Rattle.std.specs.Ordering.{nat_cmp, bool_cmp, is_eq}
use Rattle.wasm_ref_types.specs.declared.index.UnpackedIndex.{UnpackedIndex}
use Rattle.wasm_ref_types.specs.declared.index.UnpackedIndex.TheVariants.{Module, RecGroup, Id}
use Rattle.wasm_ref_types.specs.declared.heap.HeapType.{HeapType}
use Rattle.wasm_ref_types.specs.declared.heap.HeapType.TheVariants.{Abstract, Concrete, Exact}
use Rattle.wasm_ref_types.specs.Indices.{index_kind, number_of}
use Rattle.wasm_ref_types.specs.Heaps.{rank, digit, heap_form, heap_kind, heap_number}
use Rattle.wasm_ref_types.specs.Digits.{digits_cmp}
use Rattle.wasm_ref_types.specs.Orders.{number-ties, reference-ties}
use Rattle.wasm_ref_types.specs.Packed.{IsReference, heap_bits, heap_of, index_of, of_rank, reference_bits, reference_of}
use Rattle.wasm_ref_types.specs.Reference.{Reference, reference_cmp, reference_eq}
use Rattle.wasm_ref_types.proofs.Bits.{rank-small, seen_bits}

index_kind-small : (index : UnpackedIndex) → index_kind index < 4
index_kind-small (Module _) = omega arith
index_kind-small (RecGroup _) = omega arith
index_kind-small (Id _) = omega arith

digit-small : (test : Bool) → digit test < 4
digit-small false = omega arith
digit-small true = omega arith

heap_kind-small : (heap : HeapType) → heap_kind heap < 4
heap_kind-small (Abstract shared ty) = digit-small shared
heap_kind-small (Concrete index) = index_kind-small index
heap_kind-small (Exact index) = index_kind-small index

number_of-choice : (first second : Bool) (number : ℕ) → number_of (if first then Module number else (if second then RecGroup number else Id (record { index = number }))) ≡ number
number_of-choice true second number = refl
number_of-choice false true number = refl
number_of-choice false false number = refl

number_of-index : (bits : ℕ) → number_of (index_of bits) < 1048576
number_of-index bits = let e = number_of-choice (bits / 1048576 == 0) (bits / 1048576 == 1) (bits % 1048576) in omega arith

heap_number-choice : (abstract concrete : Bool) (shared : Bool) (rank rest : ℕ) → heap_number (if abstract then Abstract shared (of_rank rank) else (if concrete then Concrete (index_of rest) else Exact (index_of rest))) < 1048576
heap_number-choice true concrete shared rank rest = let small = rank-small (of_rank rank) in omega arith
heap_number-choice false true shared rank rest = number_of-index rest
heap_number-choice false false shared rank rest = number_of-index rest

heap_number-small : (form rest : ℕ) → heap_number (heap_of form rest) < 1048576
heap_number-small form rest = heap_number-choice (form == 0) (form == 1) (nat_le 1048576 rest) (rest % 1048576) rest

-- what any packed type meets
pub small_number : (bits : ℕ) (r : Reference) → reference_of bits ≡ r → heap_number r.heap_type < 1048576
small_number bits r e = subst (λ (s : Reference). heap_number s.heap_type < 1048576) e (heap_number-small (bits / 4194304 % 4) (bits % 4194304))

digit_cmp : (a b : Bool) → nat_cmp (digit a) (digit b) ≡ bool_cmp a b
digit_cmp false false = refl
digit_cmp false true = refl
digit_cmp true false = refl
digit_cmp true true = refl

heap_form-small : (heap : HeapType) → heap_form heap < 4
heap_form-small (Abstract _ _) = omega arith
heap_form-small (Concrete _) = omega arith
heap_form-small (Exact _) = omega arith

reference_bits-cmp : (a b : Reference) → heap_number a.heap_type < 1048576 → heap_number b.heap_type < 1048576 → nat_cmp (reference_bits a) (reference_bits b) ≡ reference_cmp a b
reference_bits-cmp a b small other =
    let k = heap_kind-small a.heap_type in
    let l = heap_kind-small b.heap_type in
    let f = heap_form-small a.heap_type in
    let g = heap_form-small b.heap_type in
    digits_cmp 16777216 (digit a.nullable) (digit b.nullable) (heap_bits a.heap_type) (heap_bits b.heap_type) (omega arith) (omega arith)
    ∙ rw (
      digit_cmp a.nullable b.nullable,
      digits_cmp 4194304 (heap_form a.heap_type) (heap_form b.heap_type) (1048576 * heap_kind a.heap_type + heap_number a.heap_type) (1048576 * heap_kind b.heap_type + heap_number b.heap_type) (omega arith) (omega arith),
      digits_cmp 1048576 (heap_kind a.heap_type) (heap_kind b.heap_type) (heap_number a.heap_type) (heap_number b.heap_type) small other,
    ) refl

pub bits_cmp : (x y : ℕ) (a b : Reference) → IsReference x → reference_of x ≡ a → IsReference y → reference_of y ≡ b → nat_cmp x y ≡ reference_cmp a b
bits_cmp x y a b h e i f =
    ap (λ (n : ℕ). nat_cmp n y) (sym (seen_bits x a h e)) ∙ ap (λ (n : ℕ). nat_cmp (reference_bits a) n) (sym (seen_bits y b i f))
    ∙ reference_bits-cmp a b (small_number x a e) (small_number y b f)

pub bits_eq : (x y : ℕ) (a b : Reference) → IsReference x → reference_of x ≡ a → IsReference y → reference_of y ≡ b → (x == y) ≡ reference_eq a b
bits_eq x y a b h e i f = number-ties x y ∙ ap is_eq (bits_cmp x y a b h e i f) ∙ sym (reference-ties a b)
