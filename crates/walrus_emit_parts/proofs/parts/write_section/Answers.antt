use Rattle.std.specs.Prelude.{[], ◌∷◌}
use Rattle.walrus_emit_parts.specs.Due.{written, sized}
use Rattle.walrus_emit_parts.proofs.Lemmas.{writes_on}
use Rattle.walrus_emit_parts.proofs.parts.write_section.Goals as goal

pub returns : goal.returns
returns g c = writes_on _ _ _ (written (c.args.id ∷ [])) (sized (g.P.Part.due c.args.part.now)) _ c.in-Ok.ensures c.write_sized.ensures
