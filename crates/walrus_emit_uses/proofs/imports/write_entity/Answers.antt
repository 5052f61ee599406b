use Rattle.walrus_emit_due.specs.Items.{space_kind}
use Rattle.walrus_meaning.specs.Meaning.{own_brought}
use Rattle.walrus_emit_uses.proofs.Lemmas.{behind_code, code_refused}
use Rattle.walrus_emit_uses.proofs.imports.write_entity.Goals as goal

pub returns-in-Err : goal.returns-in-Err
returns-in-Err g c = code_refused c.code.result (space_kind (own_brought c.args.item.now.kind).space) _ _ _ _ c.code.ensures c.in-Err.ensures

pub returns : goal.returns
returns g c = behind_code c.code.result (space_kind (own_brought c.args.item.now.kind).space) _ _ _ _ _ c.code.ensures c.in-Ok.ensures c.write_type.ensures
