use Rattle.std.proofs.Common.{arith, ap}
use Rattle.std.proofs.lemmas.Result.{err_from_is_err_and}
use Rattle.wasm_types.specs.Groups.{Group}
use Rattle.wasm_types.proofs.Members.{collects_none, collects_more, collects_stops, collects_starves, collects_all}
use Rattle.wasm_types.proofs.group.RecGroup.read_members.Goals as goal

pub loop-init : goal.loop-init
loop-init c = rw (c.new-offsets.ensures.items, c.new-types.ensures.items) (collects_none c.args.reader.now c.args.count)

pub returns-in_err-offset-clause-reads : goal.returns-in_err-offset-clause-reads
returns-in_err-offset-clause-reads c =
    let p = err_from_is_err_and c.from_residual.result c.from_residual.ensures.1 in
    rw (p.1, p.2) (collects_stops c.args.reader.now c.loop.reader c.read_member.new.reader c.args.count c.loop.counter c.loop.offsets.items c.loop.types.items c.loop.invariant c.loop-test.true
    c.in_err-offset.field-0.0 c.in_err-offset.ensures.reads)

pub returns-then-is_err-clause-reads : goal.returns-then-is_err-clause-reads
returns-then-is_err-clause-reads c =
    collects_starves c.args.reader.now c.loop.reader c.read_member.new.reader c.args.count c.loop.counter c.loop.offsets.items c.loop.types.items c.loop.invariant c.loop-test.true
    c.out_of_memory.result c.in_ok-offset.ensures.reads.moves c.out_of_memory.ensures.wants c.out_of_memory.ensures.place

pub returns-then-is_err-2-clause-reads : goal.returns-then-is_err-2-clause-reads
returns-then-is_err-2-clause-reads c =
    collects_starves c.args.reader.now c.loop.reader c.read_member.new.reader c.args.count c.loop.counter c.loop.offsets.items c.loop.types.items c.loop.invariant c.loop-test.true
    c.out_of_memory-then-is_err-2.result c.in_ok-offset.ensures.reads.moves c.out_of_memory-then-is_err-2.ensures.wants c.out_of_memory-then-is_err-2.ensures.place

pub loop-preserved : goal.loop-preserved
loop-preserved c =
    rw (c.push.ensures.items, c.if-is_err.ensures.negation, c.push-in-loop.ensures.items, c.if-is_err-2.ensures.negation)
    (collects_more c.args.reader.now c.loop.reader c.read_member.new.reader c.args.count c.loop.counter c.loop.offsets.items c.loop.types.items c.loop.invariant c.loop-test.true
    c.in_ok-offset.offset c.in_ok-offset.ty c.in_ok-offset.ensures.reads c.in_ok-offset.ensures.within)

pub explicit-requires : goal.explicit-requires
explicit-requires c = c.loop.invariant.paired

pub returns-clause-reads : goal.returns-clause-reads
returns-clause-reads c =
    collects_all c.args.reader.now c.loop.reader c.args.count c.loop.counter c.loop.offsets.items c.loop.types.items c.loop.invariant (omega (arith, c.loop-test.false))
    c.explicit.result (ap (λ (g : Group). g.offsets) c.explicit.ensures) (ap (λ (g : Group). g.types) c.explicit.ensures)

pub returns-clause-within : goal.returns-clause-within
returns-clause-within c = rw c.explicit.ensures c.loop.invariant.within
