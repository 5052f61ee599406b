-- Parts of worked files, and what it means that files read or stop.
use Rattle.std.specs.Prelude.{ℕ, ◌-◌, ◌≡◌, List, [], ◌∷◌, ◌++◌, length, map, Result, Ok, Err}
use Rattle.wasm_features.specs.declared.WasmFeatures.{WasmFeatures}
use Rattle.wasm_features.specs.Features.{SharedEverythingThreads, LegacyExceptions, WideArithmetic, features_of}
use Rattle.wasm_features.specs.Sets.{default_names}
use Rattle.wasm_formats.specs.Stops.{Trouble, Stop, stop}
use Rattle.wasm_grammar.specs.Modules.{Module}
use Rattle.wasm_modules.specs.Modules.{module_at}

-- the header
abbrev pub magic : List ℕ
magic = 0x00 ∷ 0x61 ∷ 0x73 ∷ 0x6d ∷ 0x01 ∷ 0x00 ∷ 0x00 ∷ 0x00 ∷ []

-- a type without parameters and results
abbrev pub plain_type : List ℕ
plain_type = 0x01 ∷ 0x04 ∷ 0x01 ∷ 0x60 ∷ 0x00 ∷ 0x00 ∷ []

-- a function of it
abbrev pub one_function : List ℕ
one_function = 0x03 ∷ 0x02 ∷ 0x01 ∷ 0x00 ∷ []

-- which is exported as `f`
abbrev pub exported : List ℕ
exported = 0x07 ∷ 0x05 ∷ 0x01 ∷ 0x01 ∷ 0x66 ∷ 0x00 ∷ 0x00 ∷ []

abbrev pub base : List ℕ
base = magic ++ plain_type ++ one_function ++ exported

-- with a body of `end` alone
abbrev pub shortest : List ℕ
shortest = base ++ 0x0a ∷ 0x04 ∷ 0x01 ∷ 0x02 ∷ 0x00 ∷ 0x0b ∷ []

-- the features of a module that is parsed with no other wish
abbrev pub usual : WasmFeatures
usual = features_of (LegacyExceptions ∷ WideArithmetic ∷ default_names)

abbrev pub without_legacy : WasmFeatures
without_legacy = features_of (WideArithmetic ∷ default_names)

abbrev pub with_shared : WasmFeatures
with_shared = features_of (SharedEverythingThreads ∷ LegacyExceptions ∷ WideArithmetic ∷ default_names)

-- bytes, and why and at which offset they are refused
abbrev pub Refused : Type 0
Refused = List ℕ × Trouble × ℕ

abbrev pub AreRefused : WasmFeatures → List Refused → Type 0
AreRefused features rows =
    map (λ r. module_at features r.0) rows ≡ map (λ (r : Refused). (let no : Result Module Stop = Err (stop r.1 (length r.0 - r.2)) in no)) rows

-- bytes, and the module that they are
abbrev pub AreModules : WasmFeatures → List (List ℕ × Module) → Type 0
AreModules features rows = map (λ r. module_at features r.0) rows ≡ map (λ (r : List ℕ × Module). (let read : Result Module Stop = Ok r.1 in read)) rows
