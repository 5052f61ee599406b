use Rattle.std.proofs.Common.{refl}
use Rattle.walrus_emit_parts.proofs.Lemmas.{limit_passed}
use Rattle.walrus_emit_parts.proofs.leaves.write_name.Goals as goal

pub returns-then-name-gt-MAX_NAME : goal.returns-then-name-gt-MAX_NAME
returns-then-name-gt-MAX_NAME c = limit_passed _ _ _ _ _ _ c.if-name-gt-MAX_NAME.true refl
