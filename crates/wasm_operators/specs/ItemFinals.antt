-- Lemmas: the readings of immediates are final.
use Rattle.std.specs.Prelude.{ℕ, ◌==◌, ◌&&◌, ◌^◌, nat_lt, Bool, true, false, ℤ, pos, negsuc, List, [], ◌∷◌, length, Ok, Err, if◌then◌else◌, refl}
use Rattle.wasm_composite_types.specs.wasm_features.declared.WasmFeatures.{WasmFeatures}
use Rattle.wasm_composite_types.specs.wasm_reader.declared.error.ErrorKind.TheVariants as faults
use Rattle.wasm_composite_types.specs.wasm_reader.Reading.{Reading, fault, ◌>>=◌, byte_at, little_at, bytes_at}
use Rattle.wasm_composite_types.specs.wasm_reader.Numbers.{signed, unsigned_at, signed_at, s33_at}
use Rattle.wasm_composite_types.specs.wasm_reader.Spelled.{number_at-none}
use Rattle.wasm_composite_types.specs.wasm_reader.Laws.{IsFinal}
use Rattle.wasm_composite_types.specs.wasm_reader.Final.{IsFinalFrom, then_from, if_from, done_from, fault_from, from_start, final_from, map_final, Takes-none, then_final, done_final, tested_final}
use Rattle.wasm_composite_types.specs.wasm_reader.Finals.{byte_final, bytes_final, little_final, Takes-byte, s33_final, unsigned_final, signed_final, vec_final}
use Rattle.wasm_composite_types.specs.wasm_ref_types.ReadTypes.{heap_at, value_at}
use Rattle.wasm_composite_types.specs.wasm_ref_types.Begins.{Begins, peeked_begins, if_begins, map_begins}
use Rattle.wasm_composite_types.specs.wasm_ref_types.TypesFinal.{heap_begins, value_begins}
use Rattle.wasm_composite_types.specs.Finals.{begun_final}
use Rattle.wasm_operators.specs.declared.block_type.BlockType.TheVariants as blocks
use Rattle.wasm_operators.specs.declared.clause.Clause.{Clause}
use Rattle.wasm_operators.specs.declared.clause.Clause.TheVariants as handlers
use Rattle.wasm_operators.specs.Items.{Item, Names, Number, S32, S64, Bits, Byte, Bytes, Heap, Block, Access, ManyLabels, ManyValues, ManyClauses, Form, index, number, s32, s64, bits, run, any_byte, below, zero_byte, heap, block, access, labels, values, clauses}
use Rattle.wasm_operators.specs.Readings.{below_at, zero_at, empty_at, type_as, type_index_at, block_at, has_memory, align_of, memory_at, access_of, access_at, tagged_at, untagged_at, clause_after, clause_at, most, item_at, items_at}

below_final : (bound : ℕ) → IsFinal (below_at bound)
unfolding below_at
below_final bound = tested_final byte_at (λ b. nat_lt b bound) faults.BadByte tt byte_final

zero_final : IsFinal zero_at
unfolding zero_at
zero_final = from_start _ (then_from 0 1 byte_at _ byte_final Takes-byte (λ b. if_from (b == 0) _ _ (done_from 1 tt) (fault_from 1 faults.BadByte tt)))

type_from : (n : ℤ) → IsFinalFrom 0 (λ start bytes. type_as n start bytes)
type_from (pos n) = if_from (nat_lt n (2 ^ 32)) _ _ (done_from 0 (blocks.Type n)) (fault_from 0 faults.BadByte tt)
type_from (negsuc n) = fault_from 0 faults.BadByte tt

type_begins : Begins type_index_at
unfolding type_index_at
type_begins = record {
  final = from_start _ (then_from 0 0 s33_at _ s33_final (Takes-none s33_at s33_final) type_from);
  none = rw (number_at-none signed faults.TooLong 33) refl;
}

empty_begins : Begins empty_at
unfolding empty_at
empty_begins = map_begins byte_at (λ _. blocks.Empty) (record { final = byte_final; none = refl })

pub block_final : (features : WasmFeatures) → IsFinal (block_at features)
unfolding block_at
block_final features = (peeked_begins _ (λ b.
    if_begins (b == 0x40) _ _ empty_begins
    (if_begins (nat_lt 0x40 b && nat_lt b 0x80) _ _ (map_begins (value_at features) blocks.Value (value_begins features)) type_begins))).final

memory_final : (flags : ℕ) → IsFinal (memory_at flags)
unfolding memory_at
memory_final flags = at (has_memory flags)
  where
    at : (b : Bool) → IsFinal (λ bytes. if b then unsigned_at 32 bytes else Ok (0, bytes))
    at true = unsigned_final 32
    at false = done_final 0

pub access_final : IsFinal access_at
unfolding access_at
access_final = then_final (unsigned_at 32) _ (unsigned_final 32) (λ flags. then_final (memory_at flags) _ (memory_final flags)
    (λ memory. map_final (unsigned_at 64) (λ offset. access_of (align_of flags) memory offset) (unsigned_final 64)))

tagged_final : (make : ℕ → ℕ → Clause) → IsFinal (tagged_at make)
tagged_final make = then_final (unsigned_at 32) _ (unsigned_final 32) (λ tag. map_final (unsigned_at 32) (make tag) (unsigned_final 32))

untagged_final : (make : ℕ → Clause) → IsFinal (untagged_at make)
untagged_final make = map_final (unsigned_at 32) make (unsigned_final 32)

clause_from : (b : ℕ) → IsFinalFrom 1 (clause_after b)
clause_from b =
    if_from (b == 0) _ _ (final_from 1 _ (tagged_final (λ tag label. handlers.Catch tag label)))
    (if_from (b == 1) _ _ (final_from 1 _ (tagged_final (λ tag label. handlers.CatchRef tag label)))
    (if_from (b == 2) _ _ (final_from 1 _ (untagged_final (λ label. handlers.CatchAll label)))
    (if_from (b == 3) _ _ (final_from 1 _ (untagged_final (λ label. handlers.CatchAllRef label)))
    (fault_from 1 faults.BadByte tt))))

pub clause_final : IsFinal clause_at
unfolding clause_at
clause_final = begun_final clause_after clause_from

item_final : (features : WasmFeatures) (form : Form) → IsFinal (item_at features form)
unfolding item_at
item_final features (index space) = map_final (unsigned_at 32) (Names space) (unsigned_final 32)
item_final features number = map_final (unsigned_at 32) Number (unsigned_final 32)
item_final features s32 = map_final (signed_at 32) S32 (signed_final 32)
item_final features s64 = map_final (signed_at 64) S64 (signed_final 64)
item_final features (bits size) = map_final (little_at size) (Bits size) (little_final size)
item_final features (run size) = map_final (bytes_at size) Bytes (bytes_final size)
item_final features any_byte = map_final byte_at Byte byte_final
item_final features (below bound) = map_final (below_at bound) Byte (below_final bound)
item_final features zero_byte = map_final zero_at (λ _. Byte 0) zero_final
item_final features heap = map_final (heap_at features) Heap (heap_begins features).final
item_final features block = map_final (block_at features) Block (block_final features)
item_final features access = map_final access_at Access access_final
item_final features labels = map_final _ ManyLabels (vec_final most (unsigned_at 32) (unsigned_final 32))
item_final features values = map_final _ ManyValues (vec_final most (value_at features) (value_begins features).final)
item_final features clauses = map_final _ ManyClauses (vec_final most clause_at clause_final)

pub items_final : (features : WasmFeatures) (forms : List Form) → IsFinal (items_at features forms)
unfolding items_at
items_final features [] = done_final []
items_final features (form ∷ forms) = then_final (item_at features form) _ (item_final features form) (λ first. map_final (items_at features forms) (λ later. first ∷ later) (items_final features forms))
