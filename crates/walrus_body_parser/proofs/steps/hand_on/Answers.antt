use Rattle.walrus_body_parser.proofs.Turning.{handed_on}
use Rattle.walrus_body_parser.proofs.Typing.{entry_handed}
use Rattle.walrus_body_parser.proofs.steps.hand_on.Goals as goal

pub returns-clause-changed : goal.returns-clause-changed
returns-clause-changed g c = λ op h.
    handed_on (g.S.Scope.sight c.args.scope.now) c.args.stack.now c.delegate.new.self op c.args.depth c.args.place c.in_ok-done.done h c.in_ok-check_delegate.ensures.0 c.requires c.in_ok-done.ensures.handed

pub returns-clause-entry : goal.returns-clause-entry
returns-clause-entry g c = entry_handed c.in_ok-done.done c.args.depth c.args.stack.now c.delegate.new.self c.in_ok-check_delegate.ensures.0 c.requires c.in_ok-done.ensures.handed
