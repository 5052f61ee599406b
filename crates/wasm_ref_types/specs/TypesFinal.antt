-- Lemmas: the readings of types are final.
use Rattle.std.specs.Prelude.{◌==◌, ◌||◌, Bool, true, false, ℤ, pos, negsuc, nat_lt, Option, Some, None, Ok, refl}
use Rattle.std.specs.Option.{is_some}
use Rattle.wasm_reader.specs.wasm_features.declared.WasmFeatures.{WasmFeatures}
use Rattle.wasm_reader.specs.wasm_features.Features.{has, GcTypes, SharedEverythingThreads}
use Rattle.wasm_reader.specs.declared.error.ErrorKind.TheVariants as faults
use Rattle.wasm_reader.specs.Numbers.{signed, s33_at}
use Rattle.wasm_reader.specs.Spelled.{number_at-none}
use Rattle.wasm_reader.specs.Reading.{byte_at}
use Rattle.wasm_reader.specs.Final.{IsFinalFrom, then_from, if_from, done_from, fault_from, from_start, final_from, map_final, Takes-none, then_final, done_final}
use Rattle.wasm_reader.specs.Finals.{byte_final, Takes-byte, s33_final}
use Rattle.wasm_ref_types.specs.declared.heap.AbstractHeapType.{AbstractHeapType}
use Rattle.wasm_ref_types.specs.declared.heap.HeapType.TheVariants.{Abstract, Concrete}
use Rattle.wasm_ref_types.specs.declared.index.UnpackedIndex.TheVariants.{Module}
use Rattle.wasm_ref_types.specs.declared.value.ValType.{ValType}
use Rattle.wasm_ref_types.specs.declared.value.ValType.TheVariants.{I32, I64, F32, F64, V128, Ref}
use Rattle.wasm_ref_types.specs.Begins.{Begins, if_begins, map_begins, peeked_begins}
use Rattle.wasm_ref_types.specs.ReadTypes.{abstract_byte, is_basic, gc_types, shared_types, abstract_as, abstract_at, shared_at, index_as, index_at, heap_at, long_at, reference_at, plain_at, value_at}
use Rattle.wasm_ref_types.specs.Reference.{reference}

abstract_from : (features : WasmFeatures) (ty : Option AbstractHeapType) → IsFinalFrom 1 (λ start bytes. abstract_as features ty start bytes)
abstract_from features None = fault_from 1 faults.BadByte tt
abstract_from features (Some ty) = if_from (is_basic ty || has features GcTypes) _ _ (done_from 1 ty) (fault_from 1 (faults.Feature gc_types) tt)

pub abstract_begins : (features : WasmFeatures) → Begins (abstract_at features)
unfolding abstract_at
abstract_begins features = record {
  final = from_start _ (then_from 0 1 byte_at _ byte_final Takes-byte (λ b. abstract_from features (abstract_byte b)));
  none = refl;
}

pub shared_begins : (features : WasmFeatures) → Begins (shared_at features)
unfolding shared_at
shared_begins features = record {
  final = from_start _ (then_from 0 1 byte_at _ byte_final Takes-byte (λ b.
      if_from (has features SharedEverythingThreads) _ _
      (final_from 1 _ (map_final (abstract_at features) (λ ty. Abstract true ty) (abstract_begins features).final))
      (fault_from 1 (faults.Feature shared_types) tt)));
  none = refl;
}

index_from : (n : ℤ) → IsFinalFrom 0 (λ start bytes. index_as n start bytes)
index_from (pos n) = if_from (nat_lt n 1048576) _ _ (done_from 0 (Concrete (Module n))) (fault_from 0 faults.Limit tt)
index_from (negsuc n) = fault_from 0 faults.BadByte tt

pub index_begins : Begins index_at
unfolding index_at
index_begins = record {
  final = from_start _ (then_from 0 0 s33_at _ s33_final (Takes-none s33_at s33_final) (λ n. index_from n));
  none = rw (number_at-none signed faults.TooLong 33) refl;
}

pub heap_begins : (features : WasmFeatures) → Begins (heap_at features)
unfolding heap_at
heap_begins features = peeked_begins _ (λ b.
    if_begins (is_some (abstract_byte b)) _ _ (map_begins (abstract_at features) (λ ty. Abstract false ty) (abstract_begins features))
    (if_begins (b == 0x65) _ _ (shared_begins features) index_begins))

pub long_begins : (features : WasmFeatures) (nullable : Bool) → Begins (long_at features nullable)
unfolding long_at
long_begins features nullable = record {
  final = from_start _ (then_from 0 1 byte_at _ byte_final Takes-byte (λ b.
      if_from (has features GcTypes) _ _
      (final_from 1 _ (map_final (heap_at features) (λ ty. reference nullable ty) (heap_begins features).final))
      (fault_from 1 (faults.Feature gc_types) tt)));
  none = refl;
}

pub reference_begins : (features : WasmFeatures) → Begins (reference_at features)
unfolding reference_at
reference_begins features = peeked_begins _ (λ b.
    if_begins (b == 0x63) _ _ (long_begins features true)
    (if_begins (b == 0x64) _ _ (long_begins features false)
    (if_begins (b == 0x65) _ _ (map_begins (shared_at features) (λ ty. reference true ty) (shared_begins features))
    (map_begins (abstract_at features) (λ ty. reference true (Abstract false ty)) (abstract_begins features)))))

pub plain_begins : (ty : ValType) → Begins (plain_at ty)
unfolding plain_at
plain_begins ty = record { final = then_final byte_at (λ b bytes. Ok (ty, bytes)) byte_final (λ b. done_final ty); none = refl }

pub value_begins : (features : WasmFeatures) → Begins (value_at features)
unfolding value_at
value_begins features = peeked_begins _ (λ b.
    if_begins (b == 0x7f) _ _ (plain_begins I32)
    (if_begins (b == 0x7e) _ _ (plain_begins I64)
    (if_begins (b == 0x7d) _ _ (plain_begins F32)
    (if_begins (b == 0x7c) _ _ (plain_begins F64)
    (if_begins (b == 0x7b) _ _ (plain_begins V128)
    (map_begins (reference_at features) (λ r. Ref r) (reference_begins features)))))))
