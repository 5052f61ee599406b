-- Lemmas: each reading of a type is final.
use Rattle.std.specs.Prelude.{ℕ, ◌+◌, ◌==◌, true, false, List, ◌++◌, length, Ok, Err, refl}
use Rattle.wasm_ref_types.specs.wasm_features.declared.WasmFeatures.{WasmFeatures}
use Rattle.wasm_ref_types.specs.wasm_features.Features.{Feature, GcTypes, SharedEverythingThreads, enables, constant, features_of}
use Rattle.wasm_ref_types.specs.wasm_reader.declared.error.ErrorKind.TheVariants as kinds
use Rattle.wasm_ref_types.specs.wasm_reader.Reading.{Reading, fault, ◌>>=◌, byte_at}
use Rattle.wasm_ref_types.specs.wasm_reader.Laws.{Passes, Grows, IsFinal}
use Rattle.wasm_ref_types.specs.wasm_reader.Final.{IsFinalFrom, StaysFrom, fault_then, then_final, map_final, from_start, then_from, if_from, done_from, fault_from, final_from}
use Rattle.wasm_ref_types.specs.wasm_reader.Finals.{byte_final, Takes-byte, vec_final}
use Rattle.wasm_ref_types.specs.wasm_reader.Items.{vec_at}
use Rattle.wasm_ref_types.specs.ReadTypes.{value_at}
use Rattle.wasm_ref_types.specs.Begins.{Begins, peeked_begins, if_begins, map_begins}
use Rattle.wasm_ref_types.specs.TypesFinal.{value_begins}
use Rattle.wasm_composite_types.specs.declared.field.StorageType.TheVariants.{I8, I16, Val}
use Rattle.wasm_composite_types.specs.declared.form.CompositeInnerType.TheVariants.{Func, Array, Struct}
use Rattle.wasm_composite_types.specs.Readings.{gated, storage_at, mutable_at, field_at, func_at, array_at, struct_at, form_after, form_at, composite_after, composite_at}

-- ---- fields

byte_begins : {A : Type 0} (value : A) → Begins (λ bytes. byte_at bytes >>= λ x. Ok (value, x.1))
byte_begins value = map_begins byte_at (λ _. value) (record { final = byte_final; none = refl })

pub storage_final : (features : WasmFeatures) → IsFinal (storage_at features)
unfolding storage_at
storage_final features = (peeked_begins _ (λ b.
    if_begins (b == 0x78) _ _ (byte_begins I8)
    (if_begins (b == 0x77) _ _ (byte_begins I16)
    (map_begins (value_at features) Val (value_begins features))))).final

pub mutable_final : IsFinal mutable_at
unfolding mutable_at
mutable_final = from_start _ (then_from 0 1 byte_at _ byte_final Takes-byte (λ b.
    if_from (b == 0) _ _ (done_from 1 false) (if_from (b == 1) _ _ (done_from 1 true) (fault_from 1 kinds.BadByte tt))))

pub field_final : (features : WasmFeatures) → IsFinal (field_at features)
unfolding field_at
field_final features = then_final (storage_at features) _ (storage_final features)
    (λ storage. map_final mutable_at (λ mutable. record { element_type = storage; mutable = mutable }) mutable_final)

-- ---- forms

values_final : (features : WasmFeatures) → IsFinal (vec_at 1000 (value_at features))
values_final features = vec_final 1000 (value_at features) (value_begins features).final

pub func_final : (features : WasmFeatures) → IsFinal (func_at features)
unfolding func_at
func_final features = then_final (vec_at 1000 (value_at features)) _ (values_final features)
    (λ params. map_final (vec_at 1000 (value_at features)) (λ results. record { params = params; results = results }) (values_final features))

pub array_final : (features : WasmFeatures) → IsFinal (array_at features)
unfolding array_at
array_final features = map_final (field_at features) (λ field. record { 0 = field }) (field_final features)

pub struct_final : (features : WasmFeatures) → IsFinal (struct_at features)
unfolding struct_at
struct_final features = map_final (vec_at 10000 (field_at features)) (λ fields. record { fields = fields }) (vec_final 10000 (field_at features) (field_final features))

-- what follows a byte that was read
module _ {A : Type 0} (after : ℕ → ℕ → List ℕ → Reading A) (finals : (b : ℕ) → IsFinalFrom 1 (after b)) where
  pub begun_final : IsFinal (λ bytes. byte_at bytes >>= λ b. after b.0 (length bytes) b.1)
  begun_final = from_start (λ start bytes. byte_at bytes >>= λ b. after b.0 start b.1) (then_from 0 1 byte_at (λ b start bytes. after b start bytes) byte_final Takes-byte finals)

pub gated_from : {A : Type 0} (features : WasmFeatures) (name : Feature) (reading : List ℕ → Reading A) → IsFinal reading → IsFinalFrom 1 (λ start bytes. gated features name start (reading bytes))
gated_from features name reading h = if_from (enables features name) (λ start bytes. reading bytes) (λ start bytes. Err (fault (kinds.Feature (features_of (constant name))) start))
    (final_from 1 reading h) (fault_from 1 (kinds.Feature (features_of (constant name))) tt)

form_from : (features : WasmFeatures) (b : ℕ) → IsFinalFrom 1 (form_after features b)
unfolding form_after
form_from features b =
    if_from (b == 0x60) _ _ (final_from 1 _ (map_final (func_at features) Func (func_final features)))
    (if_from (b == 0x5f) _ _ (gated_from features GcTypes _ (map_final (struct_at features) Struct (struct_final features)))
    (if_from (b == 0x5e) _ _ (gated_from features GcTypes _ (map_final (array_at features) Array (array_final features)))
    (fault_from 1 kinds.BadByte tt)))

pub form_final : (features : WasmFeatures) → IsFinal (form_at features)
unfolding form_at
form_final features = begun_final (form_after features) (form_from features)

-- a value made of what follows a byte
made_passes : {A B : Type 0} (make : A → B) (place : ℕ) (r : Reading A) → Passes place r → Passes place (r >>= λ x. Ok (make x.0, x.1))
made_passes make place (Ok x) h = h
made_passes make place (Err f) h = h

made_grows : {A B : Type 0} (make : A → B) (more : List ℕ) (before after : Reading A) → Grows more before after
    → Grows more (before >>= λ x. Ok (make x.0, x.1)) (after >>= λ x. Ok (make x.0, x.1))
made_grows make more (Ok x) after h = rw h refl
made_grows make more (Err f) after h = fault_then f.kind f.left more after (λ x. Ok (make x.0, x.1)) (λ place. made_passes make place after) h

made_stays : {A B : Type 0} (make : A → B) (start n : ℕ) (r : Reading A) → StaysFrom start n r → StaysFrom start n (r >>= λ x. Ok (make x.0, x.1))
made_stays make start n (Ok x) h = h
made_stays make start n (Err f) h = h

pub made_from : {A B : Type 0} (later : ℕ → List ℕ → Reading A) (make : A → B) → IsFinalFrom 1 later → IsFinalFrom 1 (λ start bytes. later start bytes >>= λ x. Ok (make x.0, x.1))
made_from later make h = record {
  grows = λ start bytes more room. made_grows make more (later start bytes) (later (start + length more) (bytes ++ more)) (h.grows start bytes more room);
  stays = λ start bytes room. made_stays make start (length bytes) (later start bytes) (h.stays start bytes room);
}

pub composite_from : (features : WasmFeatures) (b : ℕ) → IsFinalFrom 1 (composite_after features b)
unfolding composite_after
composite_from features b =
    if_from (b == 0x65) _ _ (gated_from features SharedEverythingThreads _ (map_final (form_at features) (λ inner. record { inner = inner; shared = true }) (form_final features)))
    (made_from (form_after features b) (λ inner. record { inner = inner; shared = false }) (form_from features b))

pub composite_final : (features : WasmFeatures) → IsFinal (composite_at features)
unfolding composite_at
composite_final features = begun_final (composite_after features) (composite_from features)
