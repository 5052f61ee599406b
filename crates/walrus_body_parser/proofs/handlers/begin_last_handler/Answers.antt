use Rattle.walrus_body_locals.specs.wasm_body_grammar.Frames.{Caught}
use Rattle.walrus_body_locals.specs.walrus_body_nesting.Stands.{HandlesAll}
use Rattle.walrus_body_parser.proofs.Turning.{last_handler_on}
use Rattle.walrus_body_parser.proofs.Typing.{entry_turned}
use Rattle.walrus_body_parser.proofs.handlers.begin_last_handler.Goals as goal

pub returns-clause-turned : goal.returns-clause-turned
returns-clause-turned g c = λ op h.
    last_handler_on (g.S.Scope.sight c.args.scope.now) c.args.stack.now c.begin_last_handler.new.self op c.in_ok-ty.ty c.args.place h c.in_ok-check_handler.ensures.0 c.in_ok-ty.ensures.found c.requires c.in_ok-begin_last_handler.ensures.turned

pub returns-clause-entry : goal.returns-clause-entry
returns-clause-entry g c = entry_turned HandlesAll Caught c.in_ok-ty.ty c.args.place c.args.stack.now c.begin_last_handler.new.self c.requires c.in_ok-begin_last_handler.ensures.turned
