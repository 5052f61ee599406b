-- Indices and reference types as numbers of 22 and 25 bits: the number of an index, or an abstract type's place in their
-- order, in the lowest 20 bits; above it two bits of the kind of index, or of whether an abstract type is shared; above
-- those two bits of form, and at the top whether the type is nullable. So the numbers have the order of what they stand for.
-- 1048576 is 2^20, 4194304 is 2^22 and 16777216 is 2^24.
use Rattle.std.specs.Prelude.{ℕ, ◌+◌, ◌*◌, ◌/◌, ◌%◌, ◌<◌, ◌≡◌, ◌==◌, nat_le, if◌then◌else◌, refl}
use Rattle.std.proofs.Common.{arith, suc, zero, ap, sym, subst, inl, inr}
use Rattle.std.proofs.lemmas.Bool.{cases_lt, lt-leb, le-leb}
use Rattle.wasm_ref_types.specs.declared.index.UnpackedIndex.{UnpackedIndex}
use Rattle.wasm_ref_types.specs.declared.index.UnpackedIndex.TheVariants.{Module, RecGroup, Id}
use Rattle.wasm_ref_types.specs.declared.heap.HeapType.{HeapType}
use Rattle.wasm_ref_types.specs.declared.heap.HeapType.TheVariants.{Abstract, Concrete, Exact}
use Rattle.wasm_ref_types.specs.declared.heap.AbstractHeapType.{AbstractHeapType}
use Rattle.wasm_ref_types.specs.declared.heap.AbstractHeapType.TheVariants as kinds
use Rattle.wasm_ref_types.specs.Indices.{index_kind, number_of}
use Rattle.wasm_ref_types.specs.Heaps.{heap_form, heap_kind, heap_number, digit, rank}
use Rattle.wasm_ref_types.specs.Reference.{Reference}

abbrev pub index_bits : UnpackedIndex → ℕ
index_bits index = 1048576 * index_kind index + number_of index

abbrev pub of_kind : ℕ → ℕ → UnpackedIndex
of_kind kind number = if kind == 0 then Module number else (if kind == 1 then RecGroup number else Id (record { index = number }))

abbrev pub index_of : ℕ → UnpackedIndex
index_of bits = of_kind (bits / 1048576) (bits % 1048576)

-- the abstract type at a place in their order
abbrev pub of_rank : ℕ → AbstractHeapType
of_rank n =
    if n == 0 then kinds.Func
    else (if n == 1 then kinds.Extern
    else (if n == 2 then kinds.Any
    else (if n == 3 then kinds.None
    else (if n == 4 then kinds.NoExtern
    else (if n == 5 then kinds.NoFunc
    else (if n == 6 then kinds.Eq
    else (if n == 7 then kinds.Struct
    else (if n == 8 then kinds.Array
    else (if n == 9 then kinds.I31
    else (if n == 10 then kinds.Exn
    else (if n == 11 then kinds.NoExn
    else (if n == 12 then kinds.Cont
    else kinds.NoCont))))))))))))

abbrev pub heap_bits : HeapType → ℕ
heap_bits heap_type = 4194304 * heap_form heap_type + (1048576 * heap_kind heap_type + heap_number heap_type)

-- the heap type of a form, and of the 22 bits below it
abbrev pub heap_of : ℕ → ℕ → HeapType
heap_of form rest =
    if form == 0 then Abstract (nat_le 1048576 rest) (of_rank (rest % 1048576))
    else (if form == 1 then Concrete (index_of rest) else Exact (index_of rest))

abbrev pub reference_bits : Reference → ℕ
reference_bits r = 16777216 * digit r.nullable + heap_bits r.heap_type

abbrev pub reference_of : ℕ → Reference
reference_of bits = record { nullable = nat_le 16777216 bits; heap_type = heap_of (bits / 4194304 % 4) (bits % 4194304) }

index_bits-kind : (kind number : ℕ) → kind < 3 → index_bits (of_kind kind number) ≡ 1048576 * kind + number
index_bits-kind zero number h = refl
index_bits-kind (suc zero) number h = refl
index_bits-kind (suc (suc zero)) number h = refl
index_bits-kind (suc (suc (suc kind))) number h = absurd (omega arith)

pub index_bits-of : (bits : ℕ) → bits < 3145728 → index_bits (index_of bits) ≡ bits
index_bits-of bits h =
    let e = index_bits-kind (bits / 1048576) (bits % 1048576) (omega arith) in
    omega arith

-- the bits of a reference type
pub record IsReference (bits : ℕ) : Type 0 where
  pub below : bits < 33554432
  pub form : bits / 4194304 % 4 < 3
  pub kind : bits % 4194304 < 3145728
  pub abstract_kind : (bits / 4194304 % 4) ≡ 0 → (bits % 4194304 < 2097152) × (bits % 1048576 < 14)

rank-of : (n : ℕ) → n < 14 → rank (of_rank n) ≡ n
rank-of zero h = refl
rank-of (suc zero) h = refl
rank-of (suc (suc zero)) h = refl
rank-of (suc (suc (suc zero))) h = refl
rank-of (suc (suc (suc (suc zero)))) h = refl
rank-of (suc (suc (suc (suc (suc zero))))) h = refl
rank-of (suc (suc (suc (suc (suc (suc zero)))))) h = refl
rank-of (suc (suc (suc (suc (suc (suc (suc zero))))))) h = refl
rank-of (suc (suc (suc (suc (suc (suc (suc (suc zero)))))))) h = refl
rank-of (suc (suc (suc (suc (suc (suc (suc (suc (suc zero))))))))) h = refl
rank-of (suc (suc (suc (suc (suc (suc (suc (suc (suc (suc zero)))))))))) h = refl
rank-of (suc (suc (suc (suc (suc (suc (suc (suc (suc (suc (suc zero))))))))))) h = refl
rank-of (suc (suc (suc (suc (suc (suc (suc (suc (suc (suc (suc (suc zero)))))))))))) h = refl
rank-of (suc (suc (suc (suc (suc (suc (suc (suc (suc (suc (suc (suc (suc zero))))))))))))) h = refl
rank-of (suc (suc (suc (suc (suc (suc (suc (suc (suc (suc (suc (suc (suc (suc n)))))))))))))) h = absurd (omega arith)

shared-bits : (rest : ℕ) → rest < 2097152 → 1048576 * digit (nat_le 1048576 rest) + rest % 1048576 ≡ rest
shared-bits rest h = elim (cases_lt rest 1048576) [
  | inl low ↦ rw (lt-leb 1048576 rest low) (omega arith)
  | inr high ↦ rw (le-leb 1048576 rest high) (omega arith)
]

heap_bits-of : (form rest : ℕ) → form < 3 → rest < 3145728 → (form ≡ 0 → (rest < 2097152) × (rest % 1048576 < 14)) → heap_bits (heap_of form rest) ≡ 4194304 * form + rest
heap_bits-of zero rest h kind ranks =
    let e = rank-of (rest % 1048576) (ranks refl).1 in
    let f = shared-bits rest (ranks refl).0 in
    omega arith
heap_bits-of (suc zero) rest h kind ranks = ap (λ (n : ℕ). 4194304 + n) (index_bits-of rest kind)
heap_bits-of (suc (suc zero)) rest h kind ranks = ap (λ (n : ℕ). 8388608 + n) (index_bits-of rest kind)
heap_bits-of (suc (suc (suc form))) rest h kind ranks = absurd (omega arith)

top-bits : (bits : ℕ) → bits < 33554432 → 16777216 * digit (nat_le 16777216 bits) + bits % 16777216 ≡ bits
top-bits bits h = elim (cases_lt bits 16777216) [
  | inl low ↦ rw (lt-leb 16777216 bits low) (omega arith)
  | inr high ↦ rw (le-leb 16777216 bits high) (omega arith)
]

pub reference_bits-of : (bits : ℕ) → IsReference bits → reference_bits (reference_of bits) ≡ bits
reference_bits-of bits h =
    let inner : bits % 4194304 % 1048576 ≡ bits % 1048576 = omega arith in
    let e = heap_bits-of (bits / 4194304 % 4) (bits % 4194304) h.form h.kind (λ z. ((h.abstract_kind z).0, subst (λ (n : ℕ). n < 14) (sym inner) (h.abstract_kind z).1)) in
    let f = top-bits bits h.below in
    omega arith
