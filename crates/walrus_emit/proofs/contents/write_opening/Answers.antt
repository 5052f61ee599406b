use Rattle.walrus_index_maps.specs.Views.{indices}
use Rattle.walrus_meaning.specs.Meaning.{means}
use Rattle.walrus_module.specs.Parts.{parts}
use Rattle.walrus_module.specs.walrus_body_writer.walrus_pairing.Looks.{Look, number_of}
use Rattle.wasm_grammar.specs.Modules.{Module}
use Rattle.walrus_emit_parts.proofs.Lemmas.{refused_front, writes_on}
use Rattle.std.specs.List.{list_any}
use Rattle.walrus_emit_numbers.specs.Numbers.{functions_at}
use Rattle.walrus_emit_numbers.specs.declared.facts.BodyFacts.{BodyFacts}
use Rattle.walrus_emit.specs.Whole.{before_code, first}
use Rattle.walrus_emit.proofs.contents.write_opening.Goals as goal

pub returns-in-Err : goal.returns-in-Err
returns-in-Err g c = refused_front (first g.B.CustomSection.own_name g.B.CustomSection.contents c.args.input.now.customs) _ _ _ _ c.in-Err.ensures

pub returns : goal.returns
returns g c =
    let look : Look = number_of (indices c.args.maps.now) 0 in
    let m : Module = means (parts c.args.input.now) in
    writes_on _ _ _ (first g.B.CustomSection.own_name g.B.CustomSection.contents c.args.input.now.customs)
    (before_code look m c.args.types.now (functions_at c.args.facts.now c.args.order.now) (list_any (λ (f : BodyFacts). f.uses_data_segments) c.args.facts.now)) _
    c.in-Ok.ensures c.write_before_code.ensures
