use Rattle.std.proofs.Common.{rules}
use Rattle.walrus_emit_parts.proofs.Lemmas.{sized_is}
use Rattle.walrus_emit_parts.proofs.parts.write_sized.Goals as goal

pub returns : goal.returns
returns g c = sized_is _ _ _ (g.P.Part.due c.args.part.now) c.len-start.result _ _ (search rules) c.in-Ok.ensures (search rules) c.put_front.ensures
