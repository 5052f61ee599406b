use Rattle.std.proofs.Common.{refl}
use Rattle.walrus_pairing.proofs.types.read_value.Goals as goal

pub returns-in-I32 : goal.returns-in-I32
returns-in-I32 c = rw c.in-I32.is refl

pub returns-in-I64 : goal.returns-in-I64
returns-in-I64 c = rw c.in-I64.is refl

pub returns-in-F32 : goal.returns-in-F32
returns-in-F32 c = rw c.in-F32.is refl

pub returns-in-F64 : goal.returns-in-F64
returns-in-F64 c = rw c.in-F64.is refl

pub returns-in-V128 : goal.returns-in-V128
returns-in-V128 c = rw c.in-V128.is refl
