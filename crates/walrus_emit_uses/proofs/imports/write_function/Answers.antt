use Rattle.walrus_index_maps.specs.Views.{indices}
use Rattle.walrus_pairing.specs.Looks.{number_of}
use Rattle.walrus_meaning.specs.Meaning.{own_function}
use Rattle.walrus_emit_due.specs.Imports.{function_type}
use Rattle.walrus_emit_uses.proofs.Lemmas.{not_linked, not_live}
use Rattle.walrus_emit_uses.proofs.imports.write_function.Goals as goal

pub returns-then-not-contains : goal.returns-then-not-contains
returns-then-not-contains g c =
    not_linked (own_function c.args.input.now.locals) (function_type (number_of (indices c.args.maps.now) 0)) c.args.input.now.funcs c.args.id _ (not_live c.contains.result c.contains.ensures c.if-not-contains.true)
