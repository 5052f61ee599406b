use Rattle.walrus_emit_parts.specs.Due.{written}
use Rattle.walrus_emit_parts.proofs.Lemmas.{refused_front}
use Rattle.walrus_emit.specs.Whole.{header}
use Rattle.walrus_emit.proofs.WrittenLemmas.{first_written}
use Rattle.walrus_emit.proofs.contents.write_first.Goals as goal

pub returns-in-Err : goal.returns-in-Err
returns-in-Err g c = refused_front (written header) _ _ _ _ c.in-Err.ensures

pub returns : goal.returns
returns g c = first_written g.B.CustomSection.own_name g.B.CustomSection.contents c.args.sections.now _ _ _ _ _ c.new-none.ensures c.in-Ok.ensures c.write_sections.ensures
