-- The order of types (Core Specification has none: the order in which single types are written).
use Rattle.std.specs.declared.cmp.Ordering.{Ordering}
use Rattle.std.specs.declared.cmp.Ordering.TheVariants.{Less, Greater}
use Rattle.std.specs.Ordering.{ordering_then, bool_cmp, nat_cmp}
use Rattle.std.specs.Option.{option_cmp}
use Rattle.std.specs.Cmp.Lexicographic.{slice_cmp}
use Rattle.walrus_forms.specs.contracts.value.ValTypeOrd.TheImpl.{ghosts as value_ord}
use Rattle.walrus_forms.specs.contracts.value.FieldTypeOrd.TheImpl.{ghosts as field_ord}
use Rattle.walrus_forms.specs.Forms.{Form, FunctionForm, StructForm, ArrayForm}
use Rattle.walrus_forms.specs.Kinds.{Kind}

-- functions, then structures, then arrays; functions by parameters and then results, structures by
-- their fields, as lists, a prefix first
abbrev pub form_cmp : Form → Form → Ordering
form_cmp (FunctionForm params results) (FunctionForm others outs) = ordering_then (slice_cmp value_ord.cmp params others) (slice_cmp value_ord.cmp results outs)
form_cmp (FunctionForm _ _) _ = Less
form_cmp (StructForm _) (FunctionForm _ _) = Greater
form_cmp (StructForm fields) (StructForm others) = slice_cmp field_ord.cmp fields others
form_cmp (StructForm _) (ArrayForm _) = Less
form_cmp (ArrayForm field) (ArrayForm other) = field_ord.cmp field other
form_cmp (ArrayForm _) _ = Greater

-- by form, then open before final, then by supertype, types without one first, then entry types last
abbrev pub kind_cmp : Kind → Kind → Ordering
kind_cmp a b =
    ordering_then (form_cmp a.form b.form)
    (ordering_then (bool_cmp a.final b.final)
    (ordering_then (option_cmp nat_cmp a.supertype b.supertype) (bool_cmp a.entry b.entry)))
