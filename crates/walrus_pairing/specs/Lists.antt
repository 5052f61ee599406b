-- Which operators hold lists (Core Specification, binary format: control and parametric instructions).
use Rattle.std.specs.Prelude.{ℕ, ◌≡◌, ◌==◌, ◌&&◌, ◌||◌, Bool, false}
use Rattle.std.specs.Option.{option_map_or}
use Rattle.wasm_operators.specs.declared.entry.Entry.{Entry}
use Rattle.wasm_operators.specs.Kinds.{takes_memory}
use Rattle.wasm_operators.specs.Table.{find_code}

-- whether the code, a byte alone where the prefix is 0, is that of an operator with a list among its immediates
abbrev pub holds_list : ℕ → ℕ → Bool
holds_list prefix n = option_map_or (λ (e : Entry). takes_memory e.kind) (find_code prefix n) false

-- `br_table`, the `select` with types, `try_table`
abbrev pub is_one_of_three : ℕ → Bool
is_one_of_three n = n == 0x0e || n == 0x1c || n == 0x1f

abbrev pub ListsAreThree : Type 0
ListsAreThree = (prefix n : ℕ) → holds_list prefix n ≡ (prefix == 0 && is_one_of_three n)
