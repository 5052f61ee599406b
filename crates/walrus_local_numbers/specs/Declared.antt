-- Which locals a body declares, and the numbers of all.
use Rattle.std.specs.Prelude.{ℕ, suc, ◌≡◌, ◌↔◌, Contains, ◌==◌, ◌&&◌, not, Bool, true, false, List, [], ◌∷◌, ◌++◌, map, length, nat_lt, Option, Some, None, slice_get, if◌then◌else◌}
use Rattle.std.specs.List.{filter, flat_map, list_any}
use Rattle.std.specs.List.Sorted.{IsStrictlySortedBy}
use Rattle.walrus_forms.specs.declared.value.ValType.{ValType}
use Rattle.walrus_items.specs.declared.local.Local.{Local}
use Rattle.walrus_index_maps.specs.Maps.{Indices, with_local}
use Rattle.wasm_normal_form.specs.Locals.{Key, in_order, is_equal, key_cmp, numbered}
use Rattle.walrus_forms.specs.ValueOrder.{value_cmp}

abbrev pub has_number : List ℕ → ℕ → Bool
has_number ns n = list_any (λ m. m == n) ns

abbrev pub types_of : List Local → List ValType
types_of locals = map (λ (l : Local). l.ty) locals

-- of all locals, those that are used and that are no arguments, by type, then by id
abbrev pub declared : List Local → List ℕ → List ℕ → List Key
declared locals args used = in_order (filter (λ (k : Key). has_number used k.1 && not (has_number args k.1)) (numbered 0 (types_of locals)))

-- the ids of all of a function's locals, in the order of their numbers: its arguments, then those that it declares
abbrev pub local_ids : List Local → List ℕ → List ℕ → List ℕ
local_ids locals args used = args ++ map (λ (k : Key). k.1) (declared locals args used)

-- whether a local is no argument and isn't known
abbrev pub is_lost : List Local → (ℕ → Bool) → ℕ → Bool
is_lost locals is_arg id = not (is_arg id) && not (nat_lt id (length locals))

abbrev pub has_lost : List Local → (ℕ → Bool) → List ℕ → Bool
has_lost locals is_arg used = list_any (is_lost locals is_arg) used

-- ---- numbers

-- in turn each of the ids has the next number in the function, the first of them this one
abbrev pub with_numbers : ℕ → ℕ → List ℕ → (ℕ → ℕ → Option ℕ) → ℕ → ℕ → Option ℕ
with_numbers function first [] numbers = numbers
with_numbers function first (id ∷ ids) numbers = with_numbers function (suc first) ids (with_local function id first numbers)

-- but for locals of the function, each id has the number that it had
pub record IsOfFunction (function : ℕ) (old new : Indices) : Type 0 where
  pub others : new ≡ record old { locals = new.locals }
  pub locals : (f : ℕ) → (f ≡ function → ⊥) → (id : ℕ) → new.locals f id ≡ old.locals f id

-- ---- how they are found

-- at the number stands the id
abbrev pub is_at : Option ℕ → ℕ → Bool
is_at (Some other) id = other == id
is_at None id = false

abbrev pub stands_at : List ℕ → Option ℕ → ℕ → Bool
stands_at args (Some n) id = is_at (slice_get args n) id
stands_at args None id = false

-- whether the local is an argument, where the arguments have their numbers
abbrev pub is_numbered : List ℕ → Indices → ℕ → ℕ → Bool
is_numbered args maps function id = stands_at args (maps.locals function id) id

-- a local that is no argument, with its type
abbrev pub key_in : Option Local → ℕ → List Key
key_in (Some l) id = (l.ty, id) ∷ []
key_in None id = []

abbrev pub key_at : List Local → Bool → ℕ → List Key
key_at locals true id = []
key_at locals false id = key_in (slice_get locals id) id

-- of those that are used, in their order
abbrev pub found_keys : List Local → (ℕ → Bool) → List ℕ → List Key
found_keys locals is_arg used = flat_map (λ id. key_at locals (is_arg id) id) used

-- each of the keys once, by type, then by id
pub record AreKeys (found keys : List Key) : Type 0 where
  pub rising : IsStrictlySortedBy key_cmp keys
  pub members : (k : Key) → Contains keys k ↔ Contains found k

-- ---- runs

-- one local more of a type, behind runs
abbrev pub add_last : ValType → List (ℕ × ValType) → List (ℕ × ValType)
add_last ty [] = (1, ty) ∷ []
add_last ty (run ∷ []) = if is_equal (value_cmp run.1 ty) then (suc run.0, run.1) ∷ [] else run ∷ (1, ty) ∷ []
add_last ty (run ∷ (next ∷ runs)) = run ∷ add_last ty (next ∷ runs)
