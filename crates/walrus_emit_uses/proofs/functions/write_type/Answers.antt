use Rattle.walrus_index_maps.specs.Views.{indices}
use Rattle.walrus_pairing.specs.Looks.{number_of}
use Rattle.walrus_emit_uses.proofs.Lemmas.{not_live, type_refused}
use Rattle.walrus_emit_uses.proofs.functions.write_type.Goals as goal

pub returns-then-not-contains : goal.returns-then-not-contains
returns-then-not-contains c = type_refused (number_of (indices c.args.maps.now) 0) c.args.items.now c.args.id _ (not_live c.contains.result c.contains.ensures c.if-not-contains.true)
