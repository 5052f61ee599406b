-- Which number each local of a function has.
use Rattle.std.specs.Prelude.{◌≡◌, ℕ, ◌+◌, true, List, map, length, Option, Some, slice_get}
use Rattle.wasm_normal_form.specs.Locals.{Key, position}
use Rattle.walrus_items.specs.declared.local.Local.{Local}
use Rattle.walrus_local_numbers.specs.Declared.{declared, has_number, local_ids, with_numbers}

-- no id stands at two places
abbrev pub IsOnce : List ℕ → Type 0
IsOnce ids = (i j id : ℕ) → slice_get ids i ≡ Some id → slice_get ids j ≡ Some id → i ≡ j

-- an argument has its place among the arguments
abbrev pub ArgumentsFirst : Type 0
ArgumentsFirst = (locals : List Local) (args used : List ℕ) (f : ℕ) (numbers : ℕ → ℕ → Option ℕ) (i id : ℕ) → IsOnce args → slice_get args i ≡ Some id
    → with_numbers f 0 (local_ids locals args used) numbers f id ≡ Some i

-- and any other local that is declared has its place among these, behind the arguments
abbrev pub OthersFollow : Type 0
OthersFollow = (locals : List Local) (args used : List ℕ) (f : ℕ) (numbers : ℕ → ℕ → Option ℕ) (id : ℕ) → has_number (map (λ (k : Key). k.1) (declared locals args used)) id ≡ true
    → with_numbers f 0 (local_ids locals args used) numbers f id ≡ Some (length args + position (declared locals args used) id)
