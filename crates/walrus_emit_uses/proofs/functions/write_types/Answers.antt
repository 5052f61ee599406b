use Rattle.std.specs.Prelude.{[]}
use Rattle.walrus_index_maps.specs.Views.{indices}
use Rattle.walrus_pairing.specs.Looks.{number_of}
use Rattle.walrus_meaning.specs.Meaning.{own_function, slots_of}
use Rattle.walrus_emit_due.specs.FunctionTypes.{type_in}
use Rattle.walrus_emit_uses.proofs.Lemmas.{no_entries, some_entries}
use Rattle.walrus_emit_uses.proofs.functions.write_types.Goals as goal

pub returns-then-is_empty : goal.returns-then-is_empty
returns-then-is_empty c = no_entries 3 (type_in (number_of (indices c.args.maps.now) 0) (slots_of (own_function []) c.args.items.now)) c.args.order.now _ c.is_empty.result c.is_empty.ensures c.if-is_empty.true

pub returns : goal.returns
returns c =
    some_entries 3 (type_in (number_of (indices c.args.maps.now) 0) (slots_of (own_function []) c.args.items.now)) c.args.order.now _ _ _ c.is_empty.result c.is_empty.ensures c.if-is_empty.false c.write_section.ensures
