use Rattle.std.proofs.Common.{[], ◌∷◌, ◌++◌}
use Rattle.walrus_index_maps.specs.Views.{indices}
use Rattle.walrus_pairing.specs.Looks.{number_of}
use Rattle.walrus_item_meaning.specs.Meaning.{own_table}
use Rattle.walrus_module_items.specs.Words.{own_expr}
use Rattle.walrus_emit_parts.specs.Due.{written}
use Rattle.walrus_emit_parts.proofs.Lemmas.{refused_front, writes_on}
use Rattle.walrus_emit_due.specs.Values.{expr}
use Rattle.walrus_emit_due.specs.Items.{table_type}
use Rattle.walrus_emit_sections.proofs.tables.write_init.Goals as goal

pub returns-in-Err : goal.returns-in-Err
returns-in-Err c =
    let look = number_of (indices c.args.maps.now) 0 in
    refused_front (written (0x40 ∷ 0x00 ∷ [])) (table_type look (own_table c.args.item.now) ++ expr look (own_expr c.args.init.now)) _ _ _ c.in-Err.ensures

pub returns : goal.returns
returns c =
    let look = number_of (indices c.args.maps.now) 0 in
    writes_on _ _ _ (written (0x40 ∷ 0x00 ∷ [])) (table_type look (own_table c.args.item.now) ++ expr look (own_expr c.args.init.now)) _ c.in-Ok.ensures c.write_typed.ensures
