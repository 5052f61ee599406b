-- Canonical bytes: those of a module's sections in the order of a file, each number shortest, runs of locals maximal (Core Specification, Binary Format).
use Rattle.std.specs.Prelude.{ℕ, ◌≡◌, ◌||◌, ◌++◌, Bool, not, List, [], ◌∷◌, filter, map, Some}
use Rattle.wasm_features.specs.declared.WasmFeatures.{WasmFeatures}
use Rattle.wasm_grammar.specs.Modules.{Custom, Module}
use Rattle.wasm_modules.specs.Modules.{Reads}
use Rattle.wasm_module_bytes.specs.Bytes.{without_places}
use Rattle.wasm_name_payloads.specs.Names.{same_name}
use Rattle.wasm_ruled_modules.specs.Rules.{around_bodies}
use Rattle.wasm_section_bytes.specs.Files.{file_bytes}
use Rattle.wasm_canonical.specs.Due.{bodies_due, counts_data, items_in, sections_due}

-- custom sections called `dylink` and `dylink.0` stand before the standard ones, others behind them
abbrev pub is_linking : Custom → Bool
is_linking c = same_name c.name (0x64 ∷ 0x79 ∷ 0x6c ∷ 0x69 ∷ 0x6e ∷ 0x6b ∷ []) || same_name c.name (0x64 ∷ 0x79 ∷ 0x6c ∷ 0x69 ∷ 0x6e ∷ 0x6b ∷ 0x2e ∷ 0x30 ∷ [])

abbrev pub first_customs : Module → List Custom
first_customs m = filter is_linking (items_in m.customs)

abbrev pub last_customs : Module → List Custom
last_customs m = filter (λ c. not (is_linking c)) (items_in m.customs)

-- the bytes of a module's sections
abbrev pub bytes_due : WasmFeatures → Module → List ℕ
bytes_due features k =
    file_bytes features (tt, sections_due (bodies_due (around_bodies features (counts_data k) k) k) (counts_data k) (first_customs k) (last_customs k) k)

-- the canonical bytes of a module: places don't show in them
abbrev pub canonical_bytes : WasmFeatures → Module → List ℕ
canonical_bytes features n = bytes_due features (without_places n)

-- bytes are canonical
abbrev pub Canon : WasmFeatures → List ℕ → Type 0
Canon features bytes = (n : Module) × Reads features bytes n × (bytes ≡ canonical_bytes features n)

-- two canonical byte lists that read as one module, places aside, are equal
abbrev pub CanonicalOnce : Type 0
CanonicalOnce = (features : WasmFeatures) (a b : List ℕ) (m n : Module) → Canon features a → Canon features b → Reads features a m → Reads features b n → without_places m ≡ without_places n → a ≡ b

-- the custom sections are all there, those of dynamic linking first
abbrev pub CustomsInOrder : Module → Type 0
CustomsInOrder n = n.customs ≡ map (λ (c : Custom). Some c) (first_customs n ++ last_customs n)
