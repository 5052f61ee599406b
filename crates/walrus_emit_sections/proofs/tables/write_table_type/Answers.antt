use Rattle.std.proofs.Common.{ℕ, subst}
use Rattle.wasm_operators.specs.Items.{Types}
use Rattle.wasm_grammar.specs.TypeWords.{ref_from}
use Rattle.walrus_index_maps.specs.Views.{indices}
use Rattle.walrus_pairing.specs.Looks.{number_of}
use Rattle.walrus_item_meaning.specs.Meaning.{own_table}
use Rattle.walrus_emit_parts.specs.Due.{Writes}
use Rattle.walrus_emit_parts.proofs.Lemmas.{writes_on}
use Rattle.walrus_emit_due.specs.Values.{limits, reference}
use Rattle.walrus_emit_due.specs.Items.{table_flags}
use Rattle.walrus_emit_sections.proofs.tables.write_table_type.Goals as goal

pub returns : goal.returns
returns c =
    let it = c.args.item.now in
    let look = number_of (indices c.args.maps.now) 0 in
    writes_on _ _ _ (reference (look Types) (ref_from it.element_ty)) (limits (table_flags (own_table it)) it.initial it.maximum) _ c.in-Ok.ensures
    (subst (λ (f : ℕ). Writes (limits f it.initial it.maximum) c.write_reference.new.out.items c.write_limits.new.out.items c.write_limits.result) c.flags.ensures c.write_limits.ensures)
