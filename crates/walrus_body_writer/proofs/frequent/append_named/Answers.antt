use Rattle.std.proofs.Common.{refl}
use Rattle.walrus_body_writer.proofs.Straight.{unnamed}
use Rattle.walrus_body_writer.proofs.frequent.append_named.Goals as goal

pub returns-in-None : goal.returns-in-None
returns-in-None c = λ of e. unnamed c.args.code of c.args.n c.args.space c.args.bytes.now c.args.bytes.now c.in-None.is e refl
