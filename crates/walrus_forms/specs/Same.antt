-- When two kinds are equal, as a test. `same_kind a b` is true exactly where a and b are one kind.
use Rattle.std.specs.Prelude.{◌≡◌, ◌↔◌, Bool, true, false, ◌&&◌, nat_eq}
use Rattle.std.specs.Bool.{beq}
use Rattle.std.specs.Option.{option_eq}
use Rattle.std.specs.Cmp.Lexicographic.{pointwise}
use Rattle.walrus_forms.specs.contracts.value.ValTypePartialEq.TheImpl.{ghosts as value_eq}
use Rattle.walrus_forms.specs.contracts.value.FieldTypePartialEq.TheImpl.{ghosts as field_eq}
use Rattle.walrus_forms.specs.Forms.{Form, FunctionForm, StructForm, ArrayForm}
use Rattle.walrus_forms.specs.Kinds.{Kind}

abbrev pub same_form : Form → Form → Bool
same_form (FunctionForm params results) (FunctionForm others outs) = pointwise value_eq.eq params others && pointwise value_eq.eq results outs
same_form (StructForm fields) (StructForm others) = pointwise field_eq.eq fields others
same_form (ArrayForm field) (ArrayForm other) = field_eq.eq field other
same_form _ _ = false

abbrev pub same_kind : Kind → Kind → Bool
same_kind a b = same_form a.form b.form && (beq a.final b.final && (option_eq nat_eq a.supertype b.supertype && beq a.entry b.entry))

-- the test of kinds is true exactly where they are one
abbrev pub SameKindIsEquality : Type 0
SameKindIsEquality = (a b : Kind) → (same_kind a b ≡ true) ↔ (a ≡ b)
