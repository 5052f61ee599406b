use Rattle.std.proofs.Common.{◌∙◌, sym}
use Rattle.walrus_emit.proofs.Lasts.{left_out}
use Rattle.walrus_emit.proofs.transform.add_last.Goals as goal

pub returns-then-not-is_last : goal.returns-then-not-is_last
returns-then-not-is_last c =
    left_out c.args.pairs.now c.args.at c.args.start (0, 0) c.args.map.now.items c.requires (sym c.is_last.ensures ∙ c.if-not-is_last.true)
