use Rattle.std.proofs.Common.{refl}
use Rattle.walrus_builder.proofs.blocks.if_else_of.Goals as goal

pub returns : goal.returns
returns c = refl
