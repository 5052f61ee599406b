-- Lemmas: what readers and validators answer.
use Rattle.std.proofs.Common.{ℕ, ◌≡◌, ◌⊎◌, ◌+◌, ◌-◌, ◌≤◌, length, Option, Some, None, Result, Ok, Err, refl, ap, sym, inl, inr, ◌∙◌, arith}
use Rattle.wasm_reader.specs.declared.error.Error.{Error}
use Rattle.wasm_reader.specs.declared.error.ErrorKind.{ErrorKind}
use Rattle.wasm_reader.specs.declared.error.ErrorKind.TheVariants as kinds
use Rattle.wasm_reader.specs.Cursor.{Window, Cursor, end_of, Forward}
use Rattle.wasm_formats.specs.Stops.{Read, stop}
use Rattle.walrus_body_nesting.specs.walrus_body_env.declared.error.BodyError.{BodyError}
use Rattle.walrus_body_nesting.specs.walrus_body_env.declared.error.BodyError.TheVariants as faults
use Rattle.walrus_body_nesting.specs.walrus_body_env.Faults.{fault_of_kind, read_fault}
use Rattle.walrus_body_nesting.specs.walrus_body_env.Faults as env
use Rattle.walrus_body_locals.specs.Calls.{IsFaultOf}

pub end_stays : (old new : Cursor) → Forward old new → end_of new ≡ end_of old
end_stays old new moves = ap (λ (w : Window). w.start + length w.bytes) moves.window

-- a fault of the reader is that of parsing
pub reader_refuses : (end : ℕ) (e : Error) → e.offset ≤ end → (read_fault e ≡ faults.Memory) ⊎ IsFaultOf end (stop (Read e.kind) (end - e.offset)) (read_fault e)
reader_refuses end e le = go e.kind
  where
    there : (f : BodyError) → f ≡ faults.Read e → IsFaultOf end (stop (Read e.kind) (end - e.offset)) f
    there f h =
        let back : end - (end - e.offset) ≡ e.offset = omega (arith, le) in
        ap (λ (k : ℕ). Some (faults.Read (record { kind = e.kind; offset = k }))) back ∙ ap (λ (z : BodyError). Some z) (sym h)

    go : (kind : ErrorKind) → (fault_of_kind kind e ≡ faults.Memory) ⊎ IsFaultOf end (stop (Read e.kind) (end - e.offset)) (fault_of_kind kind e)
    go (kinds.EndOfFile n) = inr (there (faults.Read e) refl)
    go kinds.TooLong = inr (there (faults.Read e) refl)
    go kinds.TooLarge = inr (there (faults.Read e) refl)
    go kinds.Utf8 = inr (there (faults.Read e) refl)
    go kinds.BadByte = inr (there (faults.Read e) refl)
    go kinds.Limit = inr (there (faults.Read e) refl)
    go (kinds.Feature f) = inr (there (faults.Read e) refl)
    go kinds.Trailing = inr (there (faults.Read e) refl)
    go kinds.Memory = inl refl

-- ---- a validator's answer

pub accepted : {V : Type 0} (p : Option BodyError × V) (w : V) → env.Answers p (Ok tt) w → p ≡ (None, w)
accepted (None, u) w h = ap (λ (z : _). (None, z)) (sym h.1)
accepted (Some e, u) w h = absurd (let q = h.0 in cc)

pub barred : {V : Type 0} (p : Option BodyError × V) (w : V) (e : BodyError) → env.Answers p (Err e) w → p ≡ (Some e, w)
barred (None, u) w e h = absurd (let q = h.0 in cc)
barred (Some d, u) w e h = ap (λ (z : _). (Some z, u)) (sym (same h.0)) ∙ ap (λ (z : _). (Some e, z)) (sym h.1)
  where
    same : {d e : BodyError} → (let r : Result (Unit {0}) BodyError = Err e in r ≡ Err d) → e ≡ d
    same q = cc
