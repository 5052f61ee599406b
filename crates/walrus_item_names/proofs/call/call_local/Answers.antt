use Rattle.std.proofs.Common.{◌≤◌, length, Some, ap, refl, string_bytes, arith}
use Rattle.std.proofs.lemmas.Option.{slice_get_past}
use Rattle.walrus_module.specs.walrus_types.walrus_items.declared.local.Local.{Local}
use Rattle.walrus_item_names.specs.Names.{local_called, bare_local}
use Rattle.walrus_item_names.proofs.Slots.{list_stays, list_set, list_bare}
use Rattle.walrus_item_names.proofs.call.call_local.Goals as goal

pub returns-then-index-as_slice : goal.returns-then-index-as_slice
returns-then-index-as_slice c =
    let old = c.get_mut.result.now in
    let local : Local = record old { name = Some c.args.name } in
    record {
      names = list_set local_called c.args.id (string_bytes c.args.name) c.args.locals.now old local c.get_mut.ensures.value refl;
      same = list_bare bare_local c.args.id c.args.locals.now old local c.get_mut.ensures.value refl;
    }

pub returns-else-index-as_slice : goal.returns-else-index-as_slice
returns-else-index-as_slice c =
    let past : length c.args.locals.now ≤ c.args.id = omega (arith, c.index.ensures, c.as_slice.ensures.len, ap length c.iter.ensures, c.if-index-as_slice.false) in
    record { names = list_stays local_called c.args.id (string_bytes c.args.name) c.args.locals.now (slice_get_past c.args.locals.now c.args.id past); same = refl }
