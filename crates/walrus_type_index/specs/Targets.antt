-- What a search looks for.
use Rattle.walrus_items.specs.walrus_forms.Kinds.{Kind, entry_kind, function_kind}
use Rattle.walrus_items.specs.Items.{kind_of}
use Rattle.walrus_type_index.specs.declared.order.Target.{Target}
use Rattle.walrus_type_index.specs.declared.order.Target.TheVariants.{Like, Function, Entry}

abbrev pub target_kind : Target → Kind
target_kind (Like ty) = kind_of ty.now
target_kind (Function params results) = function_kind params.now results.now
target_kind (Entry results) = entry_kind results.now
