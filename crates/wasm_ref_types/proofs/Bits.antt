-- What the bits of reference types stand for.
use Rattle.std.proofs.Common.{ℕ, ◌+◌, ◌*◌, ◌/◌, ◌%◌, ◌<◌, ◌≡◌, true, false, nat_le, refl, ap, sym, ◌∙◌, arith}
use Rattle.std.proofs.lemmas.Bool.{lt-leb, le-leb}
use Rattle.wasm_ref_types.specs.declared.heap.HeapType.TheVariants.{Abstract}
use Rattle.wasm_ref_types.specs.declared.heap.AbstractHeapType.{AbstractHeapType}
use Rattle.wasm_ref_types.specs.declared.heap.AbstractHeapType.TheVariants as kinds
use Rattle.wasm_ref_types.specs.Heaps.{rank}
use Rattle.wasm_ref_types.specs.Packed.{IsReference, heap_of, of_rank, reference_bits, reference_bits-of, reference_of}
use Rattle.wasm_ref_types.specs.Reference.{Reference, reference}

pub of_rank-rank : (ty : AbstractHeapType) → of_rank (rank ty) ≡ ty
of_rank-rank kinds.Func = refl
of_rank-rank kinds.Extern = refl
of_rank-rank kinds.Any = refl
of_rank-rank kinds.None = refl
of_rank-rank kinds.NoExtern = refl
of_rank-rank kinds.NoFunc = refl
of_rank-rank kinds.Eq = refl
of_rank-rank kinds.Struct = refl
of_rank-rank kinds.Array = refl
of_rank-rank kinds.I31 = refl
of_rank-rank kinds.Exn = refl
of_rank-rank kinds.NoExn = refl
of_rank-rank kinds.Cont = refl
of_rank-rank kinds.NoCont = refl

pub rank-small : (ty : AbstractHeapType) → rank ty < 14
rank-small kinds.Func = omega arith
rank-small kinds.Extern = omega arith
rank-small kinds.Any = omega arith
rank-small kinds.None = omega arith
rank-small kinds.NoExtern = omega arith
rank-small kinds.NoFunc = omega arith
rank-small kinds.Eq = omega arith
rank-small kinds.Struct = omega arith
rank-small kinds.Array = omega arith
rank-small kinds.I31 = omega arith
rank-small kinds.Exn = omega arith
rank-small kinds.NoExn = omega arith
rank-small kinds.Cont = omega arith
rank-small kinds.NoCont = omega arith

-- a form and what stands below it, in the bits
pub heap_of-parts : (form rest bits : ℕ) → rest < 4194304 → bits ≡ form * 4194304 + rest → heap_of (bits / 4194304) (bits % 4194304) ≡ heap_of form rest
heap_of-parts form rest bits h e =
    let f : bits / 4194304 ≡ form = omega arith in
    let g : bits % 4194304 ≡ rest = omega arith in
    rw (f, g) refl

pub heap_of-below : (bits heap : ℕ) → heap ≡ bits % 16777216 → heap_of (heap / 4194304) (heap % 4194304) ≡ heap_of (bits / 4194304 % 4) (bits % 4194304)
heap_of-below bits heap e =
    let f : heap / 4194304 ≡ bits / 4194304 % 4 = omega arith in
    let g : heap % 4194304 ≡ bits % 4194304 = omega arith in
    rw (f, g) refl

pub reference_of-null : (heap : ℕ) → heap < 16777216 → reference_of (16777216 + heap) ≡ reference true (heap_of (heap / 4194304) (heap % 4194304))
reference_of-null heap h =
    let test : nat_le 16777216 (16777216 + heap) ≡ true = le-leb _ _ (omega arith) in
    let f : (16777216 + heap) / 4194304 % 4 ≡ heap / 4194304 = omega arith in
    let g : (16777216 + heap) % 4194304 ≡ heap % 4194304 = omega arith in
    rw (test, f, g) refl

pub reference_of-non_null : (heap : ℕ) → heap < 16777216 → reference_of (0 + heap) ≡ reference false (heap_of (heap / 4194304) (heap % 4194304))
reference_of-non_null heap h =
    let none : 0 + heap ≡ heap = omega arith in
    let test : nat_le 16777216 heap ≡ false = lt-leb _ _ h in
    let f : heap / 4194304 % 4 ≡ heap / 4194304 = omega arith in
    rw (none, test, f) refl

pub heap_of-shared : (ty : AbstractHeapType) → heap_of 0 (1048576 + rank ty) ≡ Abstract true ty
heap_of-shared ty =
    let small = rank-small ty in
    let test : nat_le 1048576 (1048576 + rank ty) ≡ true = le-leb _ _ (omega arith) in
    let f : (1048576 + rank ty) % 1048576 ≡ rank ty = omega arith in
    rw (test, f, of_rank-rank ty) refl

pub heap_of-unshared : (ty : AbstractHeapType) → heap_of 0 (0 + rank ty) ≡ Abstract false ty
heap_of-unshared ty =
    let small = rank-small ty in
    let none : 0 + rank ty ≡ rank ty = omega arith in
    let test : nat_le 1048576 (rank ty) ≡ false = lt-leb _ _ (omega arith) in
    let f : rank ty % 1048576 ≡ rank ty = omega arith in
    rw (none, test, f, of_rank-rank ty) refl

-- the bits that a type is packed in are those of the type that contracts see
pub seen_bits : (bits : ℕ) (r : Reference) → IsReference bits → reference_of bits ≡ r → reference_bits r ≡ bits
seen_bits bits r h e = ap reference_bits (sym e) ∙ reference_bits-of bits h
