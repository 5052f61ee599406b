use Rattle.std.specs.Prelude.{◌++◌}
use Rattle.walrus_index_maps.specs.Views.{indices}
use Rattle.walrus_meaning.specs.Meaning.{means}
use Rattle.walrus_module.specs.Parts.{parts}
use Rattle.walrus_module.specs.walrus_body_writer.walrus_pairing.Looks.{Look, number_of}
use Rattle.wasm_grammar.specs.Modules.{Module}
use Rattle.walrus_emit_parts.specs.Due.{Due}
use Rattle.walrus_emit_parts.proofs.Lemmas.{refused_front, writes_on}
use Rattle.walrus_emit.proofs.WholeLemmas.{refused_later}
use Rattle.walrus_emit_due.specs.DataCount.{data_count}
use Rattle.walrus_emit_due.specs.Elements.{elements}
use Rattle.walrus_emit_due.specs.Starts.{start}
use Rattle.walrus_emit.proofs.contents.write_uses.Goals as goal

pub returns-in-Err : goal.returns-in-Err
returns-in-Err g c =
    let look : Look = number_of (indices c.args.maps.now) 0 in
    let m : Module = means (parts c.args.input.now) in
    refused_front (start look m.start) _ _ _ _ c.in-Err.ensures

pub returns-in-Err-emit_elements : goal.returns-in-Err-emit_elements
returns-in-Err-emit_elements g c =
    let look : Look = number_of (indices c.args.maps.now) 0 in
    let m : Module = means (parts c.args.input.now) in
    let count : Due = data_count c.args.is_named m.segments in
    refused_later _ _ _ (start look m.start) (elements look m.tables m.elements ++ count) _ c.in-Ok.ensures
    (refused_front (elements look m.tables m.elements) count _ _ _ c.in-Err-emit_elements.ensures)

pub returns : goal.returns
returns g c =
    let look : Look = number_of (indices c.args.maps.now) 0 in
    let m : Module = means (parts c.args.input.now) in
    let count : Due = data_count c.args.is_named m.segments in
    writes_on _ _ _ (start look m.start) (elements look m.tables m.elements ++ count) _ c.in-Ok.ensures
    (writes_on _ _ _ (elements look m.tables m.elements) count _ c.in-Ok-emit_elements.ensures c.emit_data_count.ensures)
