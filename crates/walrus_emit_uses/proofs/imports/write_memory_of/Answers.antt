use Rattle.walrus_meaning.specs.Meaning.{own_memory}
use Rattle.walrus_emit_due.specs.Items.{memory}
use Rattle.walrus_emit_uses.proofs.Lemmas.{not_linked, not_live}
use Rattle.walrus_emit_uses.proofs.imports.write_memory_of.Goals as goal

pub returns-then-not-contains : goal.returns-then-not-contains
returns-then-not-contains c = not_linked own_memory memory c.args.items.now c.args.id _ (not_live c.contains.result c.contains.ensures c.if-not-contains.true)
