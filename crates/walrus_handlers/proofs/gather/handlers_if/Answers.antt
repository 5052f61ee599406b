use Rattle.walrus_handler_laws.specs.walrus_tree.walrus_builder.Functions.{seqs_of}
use Rattle.walrus_handlers.proofs.NoTries.{untried}
use Rattle.walrus_handlers.proofs.gather.handlers_if.Goals as goal

pub returns-clause-told : goal.returns-clause-told
returns-clause-told g c = λ t. untried (g.E.BodyEnv.tag_type c.args.env.now) (seqs_of c.args.body.now) t c.new.result.items (c.requires.untried c.if-any.false) c.new.ensures.items
