-- What is written for the locals of a body, and why it isn't.
use Rattle.std.specs.Prelude.{◌≡◌, ◌⊎◌, ℕ, Bool, true, false, List, [], ◌∷◌, ◌++◌, Option, None, Result, Ok, Err}
use Rattle.std.specs.declared.alloc.Global.{Global}
use Rattle.std.specs.declared.vec.Vec.{Vec}
use Rattle.wasm_ref_types.specs.declared.value.ValType.{ValType as WrittenValue}
use Rattle.walrus_forms.specs.declared.value.ValType.{ValType}
use Rattle.wasm_formats.specs.declared.fault.Space.TheVariants as spaces
use Rattle.walrus_body_writer.specs.walrus_body_env.declared.error.BodyError.{BodyError}
use Rattle.walrus_body_writer.specs.walrus_body_env.declared.error.BodyError.TheVariants as faults
use Rattle.walrus_items.specs.declared.local.Local.{Local}
use Rattle.walrus_body_writer.specs.walrus_pairing.Answers.{IsValueAnswer}
use Rattle.walrus_body_writer.specs.walrus_pairing.Looks.{Or, ◌>>=◌}
use Rattle.walrus_body_writer.specs.walrus_pairing.Types.{written_value}
use Rattle.walrus_body_writer.specs.walrus_pairing.declared.error.PairError.{PairError}
use Rattle.walrus_body_writer.specs.walrus_pairing.declared.error.PairError.TheVariants as errors
use Rattle.walrus_operators.specs.wasm_operators.Bytes.{unsigned_bytes, value_bytes, vec_bytes}
use Rattle.walrus_body_writer.specs.Refusals.{fault_of}
use Rattle.wasm_normal_form.specs.Locals.{Key}
use Rattle.walrus_local_numbers.specs.Declared.{declared, has_lost, has_number, is_lost, key_at}

abbrev pub Run : Type 0
Run = ℕ × ValType

abbrev pub WrittenRun : Type 0
WrittenRun = ℕ × WrittenValue

-- the runs with the types that are written for theirs
abbrev pub written_runs : (ℕ → Option ℕ) → List Run → Or (List WrittenRun)
written_runs types [] = Ok []
written_runs types (r ∷ rs) = written_value types r.1 >>= λ ty. written_runs types rs >>= λ rest. Ok ((r.0, ty) ∷ rest)

abbrev pub run_bytes : WrittenRun → List ℕ
run_bytes r = unsigned_bytes r.0 ++ value_bytes r.1

-- the declarations of locals in their shortest spelling (Core Specification, binary format: code section)
abbrev pub runs_bytes : List WrittenRun → List ℕ
runs_bytes rs = vec_bytes run_bytes rs

-- the type of a run isn't written for this, and those of all before it are
abbrev pub RefusesRun : (ℕ → Option ℕ) → List Run → PairError → Type 0
RefusesRun types [] e = ⊥
RefusesRun types (r ∷ rs) e = IsValueAnswer types r.1 (Err e) ⊎ ((ty : WrittenValue) × (written_value types r.1 ≡ Ok ty) × RefusesRun types rs e)

abbrev pub IsWrittenRuns : (ℕ → Option ℕ) → List Run → Result (List WrittenRun) PairError → Type 0
IsWrittenRuns types rs (Ok ws) = written_runs types rs ≡ Ok ws
IsWrittenRuns types rs (Err e) = (e ≡ errors.Memory) ⊎ RefusesRun types rs e

-- the declarations stand behind what was written
pub record Writes (types : ℕ → Option ℕ) (rs : List Run) (old new : List ℕ) : Type 0 where
  pub runs : List WrittenRun
  pub are : written_runs types rs ≡ Ok runs
  pub bytes : new ≡ old ++ runs_bytes runs

abbrev pub runs_in : Result (Vec WrittenRun Global) PairError → Result (List WrittenRun) PairError
runs_in (Ok v) = Ok v.items
runs_in (Err e) = Err e

-- a local that is used is unknown; that memory was wanted says nothing
abbrev pub IsUnknown : List Local → (ℕ → Bool) → List ℕ → BodyError → Type 0
IsUnknown locals is_arg used faults.Memory = Unit {0}
IsUnknown locals is_arg used fault = (fault ≡ faults.Index spaces.Local None) × (has_lost locals is_arg used ≡ true)

-- one local more was looked for: unless it is an argument, it stands behind the keys
abbrev pub Finds : List Local → (ℕ → Bool) → ℕ → List Key → List Key → Result (Unit {0}) BodyError → Type 0
Finds locals is_arg id old new (Ok _) = (is_lost locals is_arg id ≡ false) × (new ≡ old ++ key_at locals (is_arg id) id)
Finds locals is_arg id old new (Err fault) = IsUnknown locals is_arg (id ∷ []) fault

abbrev pub keys_in : Result (Vec Key Global) BodyError → Result (List Key) BodyError
keys_in (Ok v) = Ok v.items
keys_in (Err fault) = Err fault

-- all that are used are known, and those are declared; or one is unknown
abbrev pub IsDeclared : List Local → List ℕ → List ℕ → Result (List Key) BodyError → Type 0
IsDeclared locals args used (Ok keys) = (keys ≡ declared locals args used) × (has_lost locals (has_number args) used ≡ false)
IsDeclared locals args used (Err fault) = IsUnknown locals (has_number args) used fault

-- a type isn't written
abbrev pub IsUnwritten : (ℕ → Option ℕ) → List Run → BodyError → Type 0
IsUnwritten types rs faults.Memory = Unit {0}
IsUnwritten types rs fault = (e : PairError) × (fault ≡ fault_of e) × RefusesRun types rs e

-- why locals aren't written: one that is used is unknown, or all are known and a type isn't written
abbrev pub IsCause : (ℕ → Option ℕ) → List Local → List ℕ → List ℕ → List Run → BodyError → Type 0
IsCause types locals args used rs fault = IsUnknown locals (has_number args) used fault ⊎ ((has_lost locals (has_number args) used ≡ false) × IsUnwritten types rs fault)
