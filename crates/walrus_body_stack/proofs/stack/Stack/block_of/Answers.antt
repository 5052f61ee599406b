use Rattle.std.proofs.Common.{ap}
use Rattle.walrus_body_stack.specs.declared.stack.Stack.{Stack}
use Rattle.walrus_body_stack.specs.Frames.{blocks}
use Rattle.walrus_body_stack.proofs.Closing.{made_catch, made_last, made_try}
use Rattle.walrus_body_stack.proofs.stack.Stack.block_of.Goals as goal

pub returns-in-Try-clause-made : goal.returns-in-Try-clause-made
returns-in-Try-clause-made c =
    let f = c.args.frame in
    let s = c.args.self.now in
    made_try f.sort f.ty f.first f.seq s.handlers s.clauses (blocks s) (blocks c.handlers.new.self) c.into_try.result c.handlers.result
    c.in-Try.is c.handlers.ensures.top (ap (λ (t : Stack). blocks t) c.handlers.ensures.rest) c.into_try.ensures

pub returns-in-Catch-clause-made : goal.returns-in-Catch-clause-made
returns-in-Catch-clause-made c =
    let f = c.args.frame in
    let s = c.args.self.now in
    made_catch f.sort f.ty f.first f.seq s.handlers s.clauses (blocks s) (blocks c.handlers-in-Catch.new.self) c.into_try-in-Catch.result c.handlers-in-Catch.result
    c.in-Catch.is c.handlers-in-Catch.ensures.top (ap (λ (t : Stack). blocks t) c.handlers-in-Catch.ensures.rest) c.into_try-in-Catch.ensures

pub returns-in-CatchAll-clause-made : goal.returns-in-CatchAll-clause-made
returns-in-CatchAll-clause-made c =
    let f = c.args.frame in
    let s = c.args.self.now in
    made_last f.sort f.ty f.first f.seq s.handlers s.clauses (blocks s) (blocks c.handlers-in-CatchAll.new.self) c.into_try-in-CatchAll.result c.handlers-in-CatchAll.result
    c.in-CatchAll.is c.handlers-in-CatchAll.ensures.top (ap (λ (t : Stack). blocks t) c.handlers-in-CatchAll.ensures.rest) c.into_try-in-CatchAll.ensures
