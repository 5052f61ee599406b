use Rattle.std.proofs.Common.{refl}
use Rattle.walrus_codes.proofs.access.place_of.Goals as goal

pub returns-in-I32_8-clause-place : goal.returns-in-I32_8-clause-place
returns-in-I32_8-clause-place c = rw c.in-I32_8.is refl

pub returns-in-I32_16-clause-place : goal.returns-in-I32_16-clause-place
returns-in-I32_16-clause-place c = rw c.in-I32_16.is refl
