use Rattle.std.proofs.Common.{List, Option, Some, ap, refl, string_bytes}
use Rattle.walrus_module.specs.walrus_types.walrus_items.declared.subtype.Type.{«Type» as TypeItem}
use Rattle.walrus_module.specs.walrus_types.walrus_items.Items.{Item, item_of}
use Rattle.walrus_module.specs.walrus_types.Table.{Table}
use Rattle.walrus_item_names.specs.Names.{type_called, bare_type}
use Rattle.walrus_item_names.proofs.Slots.{names_set, bare_set}
use Rattle.walrus_item_names.proofs.call.call_type.Goals as goal

pub returns-then-contains : goal.returns-then-contains
returns-then-contains c =
    let old = item_of c.get_mut.result.now in
    let ty : TypeItem = record c.get_mut.result.now { name = Some c.args.name } in
    record {
      names = names_set type_called c.args.id (string_bytes c.args.name) c.args.types.now.types old (item_of ty) c.get_mut.ensures.value refl;
      same = ap (λ (types : List (Option Item)). let t : Table = record c.args.types.now { types = types } in t) (bare_set bare_type c.args.id c.args.types.now.types old (item_of ty) c.get_mut.ensures.value refl);
    }
