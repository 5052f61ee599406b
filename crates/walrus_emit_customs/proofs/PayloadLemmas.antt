-- Bytes of names and producers that were written are what is due.
use Rattle.std.specs.Prelude.{ℕ, ◌≡◌, ◌⊎◌, List, length, Result, Ok, Err, refl}
use Rattle.std.proofs.Common.{subst, arith, inl, inr}
use Rattle.wasm_operators.proofs.Keeps.{keeps_all}
use Rattle.walrus_errors.specs.declared.error.ModuleError.{ModuleError}
use Rattle.walrus_errors.specs.declared.error.ModuleError.TheVariants.{Memory}
use Rattle.wasm_name_payloads.specs.Written as payloads
use Rattle.walrus_payload_writers.specs.Sections.{names_section}
use Rattle.walrus_payload_writers.specs.Writes as bytes
use Rattle.walrus_emit_parts.specs.Due.{Due, IsTooMany, Lacks, Refused, Writes, written}
use Rattle.walrus_emit_parts.proofs.Lemmas.{puts, refused_memory, written_size}

cause : (due : List ℕ) (e : ModuleError) → (e ≡ Memory) ⊎ bytes.IsTooMany (length due) e → (e ≡ Memory) ⊎ (Lacks (written due) e ⊎ IsTooMany (length (written due)) e)
cause due e (inl h) = inl h
cause due e (inr h) = inr (inr (h.0, omega (arith, written_size due, h.1)))

-- what `walrus_payload_writers` writes
pub payload_written : (due old new : List ℕ) (result : Result (Unit {0}) ModuleError) → bytes.Writes due old new result → Writes (written due) old new result
payload_written due old new (Ok x) h = puts old new due h
payload_written due old new (Err e) h = record { keeps = h.keeps; cause = cause due e h.cause }

pub names_written : (n m : payloads.Names) (old new : List ℕ) (result : Result (Unit {0}) ModuleError) → n ≡ m → bytes.Writes (names_section n) old new result
    → Writes (written (names_section m)) old new result
names_written n m old new result same h =
    subst (λ (k : payloads.Names). Writes (written (names_section k)) old new result) same (payload_written (names_section n) old new result h)

-- nothing was written
pub wants_memory : (due : Due) (old : List ℕ) → Refused due old old Memory
wants_memory due old = refused_memory due old old (keeps_all old old refl)
