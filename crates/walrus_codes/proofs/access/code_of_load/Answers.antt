use Rattle.std.proofs.Common.{refl}
use Rattle.walrus_codes.proofs.access.code_of_load.Goals as goal

pub returns-in-I64-false : goal.returns-in-I64-false
returns-in-I64-false c = rw (c.in-I64-false.is, c.in-I64-false.atomic-test) refl
