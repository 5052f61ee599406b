-- Function types of a table by id.
use Rattle.std.specs.Prelude.{ℕ, List, Option, Some, None}
use Rattle.std.specs.Option.{option_and_then}
use Rattle.walrus_types.specs.walrus_forms.declared.value.ValType.{ValType}
use Rattle.walrus_types.specs.walrus_forms.Forms.{Form, FunctionForm, StructForm, ArrayForm}
use Rattle.walrus_types.specs.Items.{Item}
use Rattle.walrus_types.specs.Table.{Table, type_at}

-- the parameters and results of a form, if it is a function's
abbrev pub form_params : Form → Option (List ValType)
form_params (FunctionForm params results) = Some params
form_params (StructForm fields) = None
form_params (ArrayForm field) = None

abbrev pub form_results : Form → Option (List ValType)
form_results (FunctionForm params results) = Some results
form_results (StructForm fields) = None
form_results (ArrayForm field) = None

-- those of a live function type
abbrev pub params_at : Table → ℕ → Option (List ValType)
params_at t id = option_and_then (λ (item : Item). form_params item.kind.form) (type_at t id)

abbrev pub results_at : Table → ℕ → Option (List ValType)
results_at t id = option_and_then (λ (item : Item). form_results item.kind.form) (type_at t id)
