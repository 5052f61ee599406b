-- Numbers that never fall where kinds rise: most kinds are told apart by them alone.
use Rattle.std.specs.Prelude.{ℕ, ◌+◌, ◌*◌, ◌/◌, ◌^◌, ◌==◌, List, [], ◌∷◌, if◌then◌else◌}
use Rattle.walrus_type_index.specs.walrus_items.walrus_forms.declared.value.ValType.{ValType}
use Rattle.walrus_type_index.specs.walrus_items.walrus_forms.Forms.{Form, FunctionForm, StructForm, ArrayForm}
use Rattle.walrus_type_index.specs.walrus_items.walrus_forms.Kinds.{Kind}
use Rattle.walrus_type_index.specs.walrus_items.walrus_forms.ValueOrder.{value_place}

-- the digit of a value type: its place among them, from 1
abbrev pub digit : ValType → ℕ
digit value = value_place value + 1

-- what the next digit counts; none counts after that of references, which it doesn't tell apart
abbrev pub next_weight : ℕ → ℕ → ℕ
next_weight digit weight = if digit == 6 then 0 else weight / 8

-- the number with the digits of these value types, the first of which counts `weight`
abbrev pub digits : List ValType → ℕ → ℕ
digits [] weight = 0
digits (value ∷ values) weight = weight * digit value + digits values (next_weight (digit value) weight)

-- the rank of a form: functions by their first parameters, then structures, then arrays
abbrev pub form_rank : Form → ℕ
form_rank (FunctionForm params results) = digits params (2 ^ 57)
form_rank (StructForm fields) = 2 ^ 60
form_rank (ArrayForm field) = 2 ^ 61

-- a kind with its rank
abbrev pub ranked : Kind → ℕ × Kind
ranked kind = (form_rank kind.form, kind)
