use Rattle.walrus_emit_parts.specs.Due.{number}
use Rattle.walrus_emit_due.specs.Values.{optional}
use Rattle.walrus_emit_values.proofs.Lemmas.{byte_refused}
use Rattle.walrus_emit_values.proofs.limits.write_limits.Goals as goal

pub returns-in-Err-write_number : goal.returns-in-Err-write_number
returns-in-Err-write_number c = byte_refused c.args.flags (number c.args.initial) (optional c.args.maximum) _ _ _ _ c.in-Ok.ensures c.in-Err-write_number.ensures
