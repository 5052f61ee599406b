use Rattle.walrus_index_maps.specs.Views.{indices}
use Rattle.walrus_meaning.specs.Meaning.{means}
use Rattle.walrus_module.specs.Parts.{parts}
use Rattle.walrus_module.specs.walrus_body_writer.walrus_pairing.Looks.{number_of}
use Rattle.walrus_emit_code.specs.Code.{facts_at}
use Rattle.walrus_emit_customs.specs.Names.{names_due}
use Rattle.walrus_emit_parts.proofs.Lemmas.{refused_front, writes_on}
use Rattle.walrus_emit_due.specs.Items.{segments}
use Rattle.walrus_emit.specs.Whole.{payloads}
use Rattle.walrus_emit.proofs.contents.write_behind_code.Goals as goal

pub returns-in-Err : goal.returns-in-Err
returns-in-Err g c = refused_front (segments (number_of (indices c.args.maps.now) 0) (means (parts c.args.input.now)).segments) _ _ _ _ c.in-Err.ensures

pub returns : goal.returns
returns g c =
    writes_on _ _ _ (segments (number_of (indices c.args.maps.now) 0) (means (parts c.args.input.now)).segments)
    (payloads c.args.input.now (names_due (parts c.args.input.now) c.args.types.now (facts_at c.args.facts.now c.args.order.now) (indices c.args.maps.now))) _ c.in-Ok.ensures c.write_payloads.ensures
