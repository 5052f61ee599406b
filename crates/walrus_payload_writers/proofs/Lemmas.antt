-- Bytes are written one behind another.
use Rattle.std.specs.Prelude.{ℕ, ◌≡◌, ◌≤◌, ◌^◌, ◌⊎◌, List, [], ◌++◌, length, Result, Ok, Err, refl}
use Rattle.std.proofs.Common.{ap, ◌∙◌, arith, inl, inr}
use Rattle.std.proofs.lemmas.List.{append_assoc, length-append}
use Rattle.walrus_errors.specs.declared.error.ModuleError.{ModuleError}
use Rattle.walrus_errors.specs.declared.error.ModuleError.TheVariants.{Memory}
use Rattle.walrus_operators.specs.Appended.{Keeps}
use Rattle.walrus_operators.proofs.Keeps.{keeps_all, keeps_on}
use Rattle.walrus_payload_writers.specs.Writes.{IsTooMany, Refused, SizeRefused, Writes, custom_bytes}
use Rattle.wasm_reader.specs.Shortest.{u32_bytes}
use Rattle.wasm_name_payloads.specs.Written.{name_bytes}

pub refused_memory : (bytes old new : List ℕ) (e : ModuleError) → e ≡ Memory → Keeps old new → Refused bytes old new e
refused_memory bytes old new e same keeps = record { keeps = keeps; cause = inl same }

pub wider : (n m : ℕ) (e : ModuleError) → n ≤ m → (e ≡ Memory) ⊎ IsTooMany n e → (e ≡ Memory) ⊎ IsTooMany m e
wider n m e le (inl h) = inl h
wider n m e le (inr h) = inr (h.0, omega (arith, le, h.1))

-- the first of two is refused
pub refused_front : (a b old new : List ℕ) (e : ModuleError) → Refused a old new e → Refused (a ++ b) old new e
refused_front a b old new e h = record { keeps = h.keeps; cause = wider (length a) (length (a ++ b)) e (omega (arith, length-append a b)) h.cause }

pub refused_on : (a b old mid new : List ℕ) (e : ModuleError) → mid ≡ old ++ a → Refused b mid new e → Refused (a ++ b) old new e
refused_on a b old mid new e same h = record { keeps = keeps_on old mid new a same h.keeps; cause = wider (length b) (length (a ++ b)) e (omega (arith, length-append a b)) h.cause }

-- first these bytes, then those
pub writes_on : (old mid new a b : List ℕ) (result : Result (Unit {0}) ModuleError) → mid ≡ old ++ a → Writes b mid new result → Writes (a ++ b) old new result
writes_on old mid new a b (Ok x) e h = h ∙ ap (λ (l : List ℕ). l ++ b) e ∙ append_assoc old a b
writes_on old mid new a b (Err x) e h = refused_on a b old mid new x e h

pub keeps_same : (old new : List ℕ) → new ≡ old → Keeps old new
keeps_same old new e = keeps_all old new e

-- a size is refused as so many bytes are
pub size_cause : (n : ℕ) (e : ModuleError) → ((e ≡ Memory) × (n ≤ 2 ^ 30)) ⊎ IsTooMany n e → (e ≡ Memory) ⊎ IsTooMany n e
size_cause n e (inl h) = inl h.0
size_cause n e (inr h) = inr h

-- a size that is refused, before so many bytes
pub size_refused : (bytes old new : List ℕ) (e : ModuleError) → SizeRefused (length bytes) old new e → Refused (u32_bytes (length bytes) ++ bytes) old new e
size_refused bytes old new e h =
    record { keeps = h.keeps; cause = wider (length bytes) (length (u32_bytes (length bytes) ++ bytes)) e (omega (arith, length-append (u32_bytes (length bytes)) bytes)) (size_cause (length bytes) e h.cause) }

-- what was refused of contents that stand in these bytes
pub refused_inside : (part bytes old inner : List ℕ) (e : ModuleError) → Refused part [] inner e → length part ≤ length bytes → Refused bytes old old e
refused_inside part bytes old inner e h le = record { keeps = keeps_all old old refl; cause = wider (length part) (length bytes) e le h.cause }

pub custom_front : (name payload : List ℕ) → length (name_bytes name) ≤ length (custom_bytes name payload)
custom_front name payload =
    let contents = name_bytes name ++ payload in
    omega (arith, length-append (name_bytes name) payload, length-append (u32_bytes (length contents)) contents)

pub custom_back : (name payload : List ℕ) → length payload ≤ length (custom_bytes name payload)
custom_back name payload =
    let contents = name_bytes name ++ payload in
    omega (arith, length-append (name_bytes name) payload, length-append (u32_bytes (length contents)) contents)
