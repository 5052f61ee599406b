use Rattle.walrus_customs.specs.Producers.{fields_of}
use Rattle.walrus_index_maps.specs.Views.{indices}
use Rattle.walrus_module.specs.Parts.{parts}
use Rattle.walrus_payload_writers.specs.Producers.{producers_section}
use Rattle.walrus_emit_code.specs.Code.{facts_at}
use Rattle.walrus_emit_customs.specs.Names.{names_due}
use Rattle.walrus_emit_parts.specs.Due.{written}
use Rattle.walrus_emit_parts.proofs.Lemmas.{refused_front, writes_on}
use Rattle.walrus_emit.specs.Whole.{if_asked}
use Rattle.walrus_emit.proofs.contents.write_payloads.Goals as goal

pub returns-in-Err : goal.returns-in-Err
returns-in-Err g c =
    refused_front (if_asked c.args.input.now.config.generate_name_section (names_due (parts c.args.input.now) c.args.types.now (facts_at c.args.facts.now c.args.order.now) (indices c.args.maps.now))) _ _ _ _
    c.in-Err.ensures

pub returns : goal.returns
returns g c =
    writes_on _ _ _ (if_asked c.args.input.now.config.generate_name_section (names_due (parts c.args.input.now) c.args.types.now (facts_at c.args.facts.now c.args.order.now) (indices c.args.maps.now)))
    (if_asked c.args.input.now.config.generate_producers_section (written (producers_section (fields_of c.args.input.now.producers)))) _ c.in-Ok.ensures c.write_made_by.ensures
