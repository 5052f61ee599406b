use Rattle.walrus_emit_parts.specs.Due.{written}
use Rattle.walrus_emit_code.proofs.CodeLemmas.{kept, written_then}
use Rattle.walrus_emit_code.proofs.code.add_bytes.Goals as goal

pub returns-clause-keeps : goal.returns-clause-keeps
returns-clause-keeps c = kept _ _ _ _ c.write_bytes.ensures

pub returns-clause-written : goal.returns-clause-written
returns-clause-written c = written_then (written c.args.more.now) c.args.bytes.now.items c.write_bytes.new.out.items c.write_bytes.result c.write_bytes.ensures
