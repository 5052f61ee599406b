use Rattle.std.proofs.Common.{[], ◌∷◌}
use Rattle.walrus_emit_parts.specs.Due.{written}
use Rattle.walrus_emit_code.proofs.CodeLemmas.{kept, written_then}
use Rattle.walrus_emit_code.proofs.code.add_id.Goals as goal

pub returns-clause-keeps : goal.returns-clause-keeps
returns-clause-keeps c = kept _ _ _ _ c.write_byte.ensures

pub returns-clause-written : goal.returns-clause-written
returns-clause-written c = written_then (written (10 ∷ [])) c.args.bytes.now.items c.write_byte.new.out.items c.write_byte.result c.write_byte.ensures
