use Rattle.walrus_index_maps.specs.Views.{indices}
use Rattle.walrus_pairing.specs.Looks.{number_of}
use Rattle.walrus_meaning.specs.Meaning.{own_table}
use Rattle.walrus_emit_due.specs.Items.{table_type}
use Rattle.walrus_emit_uses.proofs.Lemmas.{not_linked, not_live}
use Rattle.walrus_emit_uses.proofs.imports.write_table.Goals as goal

pub returns-then-not-contains : goal.returns-then-not-contains
returns-then-not-contains c = not_linked own_table (table_type (number_of (indices c.args.maps.now) 0)) c.args.items.now c.args.id _ (not_live c.contains.result c.contains.ensures c.if-not-contains.true)
