-- The kind of a type, by which types are equal and ordered.
use Rattle.std.specs.Prelude.{ℕ, Bool, true, false, List, [], ◌++◌, Option, None}
use Rattle.std.specs.Option.{option_to_list}
use Rattle.walrus_forms.specs.declared.value.ValType.{ValType}
use Rattle.walrus_forms.specs.declared.value.FieldType.{FieldType}
use Rattle.walrus_forms.specs.Forms.{Form, FunctionForm, StructForm, ArrayForm, form_names}

-- the form of a type, whether it is final, its supertype (Core Specification, sub types), and whether
-- it is an entry type, which stands for a body's own block and is never written
pub record Kind : Type 0 where
  pub form : Form
  pub final : Bool
  pub supertype : Option ℕ
  pub entry : Bool

-- the kind of a type of this form, finality and supertype
abbrev pub declared_kind : Form → Bool → Option ℕ → Kind
declared_kind form final supertype = record { form = form; final = final; supertype = supertype; entry = false }

-- the kind of a final function type without supertype
abbrev pub function_kind : List ValType → List ValType → Kind
function_kind params results = declared_kind (FunctionForm params results) true None

-- the kind of the type of a body's own block
abbrev pub entry_kind : List ValType → Kind
entry_kind results = record { form = FunctionForm [] results; final = true; supertype = None; entry = true }

-- the kinds of final structure and array types without supertype
abbrev pub struct_kind : List FieldType → Kind
struct_kind fields = declared_kind (StructForm fields) true None

abbrev pub array_kind : FieldType → Kind
array_kind field = declared_kind (ArrayForm field) true None

-- the types that a kind names: those of its form in their order, then its supertype
abbrev pub kind_names : Kind → List ℕ
kind_names kind = form_names kind.form ++ option_to_list kind.supertype
