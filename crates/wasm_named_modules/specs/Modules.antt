-- The abstract module whole (Core Specification, structure: modules; appendix Custom Sections): with its names and its producers in place of the
-- custom sections that hold them.
use Rattle.std.specs.Prelude.{ℕ, ◌<◌, ◌≡◌, ◌==◌, ◌⊎◌, ◌||◌, Bool, true, not, List, [], ◌∷◌, length, filter, Option, Some, None, if◌then◌else◌}
use Rattle.std.specs.List.{AllByRecursion, flat_map, range_with_len}
use Rattle.std.specs.Option.{option_and_then}
use Rattle.wasm_features.specs.declared.WasmFeatures.{WasmFeatures}
use Rattle.wasm_formats.specs.declared.fault.Space.{Space}
use Rattle.wasm_formats.specs.Stops.{Trouble}
use Rattle.wasm_formats.specs.Formats.{Small}
use Rattle.wasm_grammar.specs.Modules.{Custom, Module}
use Rattle.wasm_grammar.specs.States.{count_of}
use Rattle.wasm_modules.specs.Modules.{IsShort, Reads, Stops}
use Rattle.wasm_name_payloads.specs.Names.{Bearer, TheModule, AnItem, ALocal, item_in, local_count, name_of, same_name, section_name}
use Rattle.wasm_name_payloads.specs.Producers.{Field, producers_of, section_name as producers_name}
use Rattle.wasm_name_payloads.specs.Written.{NameMap, Names}

-- ---- custom sections, without those of names and producers

abbrev pub is_other : Option Custom → Bool
is_other None = true
is_other (Some c) = not (same_name c.name section_name || same_name c.name producers_name)

abbrev pub other_customs : Module → List (Option Custom)
other_customs m = filter is_other m.customs

-- ---- names: of each bearer the last one, by rising number

abbrev pub entry_if : {A : Type 0} → ℕ → Option A → List (ℕ × A)
entry_if n None = []
entry_if n (Some x) = (n, x) ∷ []

-- of the numbers below a count those that have something, each with it
abbrev pub entries_below : {A : Type 0} → ℕ → (ℕ → Option A) → List (ℕ × A)
entries_below count has = flat_map (λ n. entry_if n (has n)) (range_with_len 0 count)

abbrev pub item_names : Module → Space → NameMap
item_names m space = entries_below (count_of m space) (λ n. name_of m (item_in space n))

abbrev pub names_in_function : Module → ℕ → NameMap
names_in_function m f = entries_below (local_count m f) (λ l. name_of m (ALocal f l))

abbrev pub some_of : {A : Type 0} → List A → Option (List A)
some_of [] = None
some_of (x ∷ xs) = Some (x ∷ xs)

abbrev pub local_names : Module → List (ℕ × NameMap)
local_names m = entries_below (length m.functions) (λ f. some_of (names_in_function m f))

abbrev pub last_names : Module → Names
last_names m = record { own = name_of m TheModule; items = item_names m; locals = local_names m }

-- ---- the module

pub record NamedModule : Type 0 where
  pub items : Module
  pub names : Names
  pub producers : List Field

-- a module with what its payloads say
abbrev pub with_payloads : Module → NamedModule
with_payloads m = record { items = record m { customs = other_customs m }; names = last_names m; producers = producers_of m }

-- the bytes read as a module, and its payloads say so
abbrev pub ReadsNamed : WasmFeatures → List ℕ → NamedModule → Type 0
ReadsNamed features bytes n = (m : Module) × Reads features bytes m × (with_payloads m ≡ n)

-- the name of a bearer
abbrev pub entry_at : {A : Type 0} → ℕ → List (ℕ × A) → Option A
entry_at n [] = None
entry_at n (e ∷ entries) = if e.0 == n then Some e.1 else entry_at n entries

abbrev pub name_in : Names → Bearer → Option (List ℕ)
name_in names TheModule = names.own
name_in names (AnItem item) = entry_at item.number (names.items item.space)
name_in names (ALocal function local) = option_and_then (entry_at local) (entry_at function names.locals)

-- ---- laws

pub record ReadingNames : Type 0 where
  pub once : (features : WasmFeatures) (bytes : List ℕ) (n k : NamedModule) → ReadsNamed features bytes n → ReadsNamed features bytes k → n ≡ k
  -- no payload refuses a module
  pub always : (features : WasmFeatures) (bytes : List ℕ) (m : Module) → Reads features bytes m → ReadsNamed features bytes (with_payloads m)
  pub or_stop : (features : WasmFeatures) (bytes : List ℕ) → Small bytes → IsShort bytes
      → ((n : NamedModule) × ReadsNamed features bytes n) ⊎ ((trouble : Trouble) × (place : ℕ) × Stops features bytes trouble place)
  pub dont_stop : (features : WasmFeatures) (bytes : List ℕ) (n : NamedModule) (trouble : Trouble) (place : ℕ) → ReadsNamed features bytes n → Stops features bytes trouble place → ⊥

-- the bearer is there
abbrev pub IsHere : Module → Bearer → Type 0
IsHere m TheModule = Unit {0}
IsHere m (AnItem item) = item.number < count_of m item.space
IsHere m (ALocal function local) = local < local_count m function

-- numbers rise
abbrev pub Rise : {A : Type 0} → List (ℕ × A) → Type 0
Rise {A} [] = Unit {0}
Rise {A} (e ∷ entries) = AllByRecursion (λ (later : ℕ × A). e.0 < later.0) entries × Rise entries

pub record LastNames : Type 0 where
  -- each bearer has the last name that was read for it, also if its name was read in several sections
  pub last : (m : Module) (bearer : Bearer) → name_in (last_names m) bearer ≡ name_of m bearer
  -- what isn't there has none
  pub here : (m : Module) (bearer : Bearer) → (IsHere m bearer → ⊥) → name_in (last_names m) bearer ≡ None
  pub items_rise : (m : Module) (space : Space) → Rise (item_names m space)
  pub locals_rise : (m : Module) → Rise (local_names m) × AllByRecursion (λ (e : ℕ × NameMap). Rise e.1) (local_names m)
