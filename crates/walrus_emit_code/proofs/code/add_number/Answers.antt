use Rattle.walrus_emit_parts.specs.Due.{number}
use Rattle.walrus_emit_code.proofs.CodeLemmas.{kept, written_then}
use Rattle.walrus_emit_code.proofs.code.add_number.Goals as goal

pub returns-clause-keeps : goal.returns-clause-keeps
returns-clause-keeps c = kept _ _ _ _ c.write_number.ensures

pub returns-clause-written : goal.returns-clause-written
returns-clause-written c = written_then (number c.args.n) c.args.bytes.now.items c.write_number.new.out.items c.write_number.result c.write_number.ensures
