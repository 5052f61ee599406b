use Rattle.std.proofs.Common.{true, arith}
use Rattle.std.specs.Result.{is_ok}
use Rattle.walrus_type_index.proofs.ForestLemmas.{grow-may}
use Rattle.walrus_type_index.proofs.forest.Forest.reserve.Goals as goal

pub invariant_of-self : goal.invariant_of-self
invariant_of-self c =
    let i = c.self.inside in
    (grow-may (is_ok c.resize.result) i.nodes.items c.resize.new.self.items c.apart.result i.nodes.len c.args.count i.tops.items i.last _ c.self.view_is c.self.invariant c.resize.ensures.items i.nodes.ok.0
    (omega (arith, c.if-len-count.true, c.len.ensures)) (omega (arith, c.if-count.false))).holds

pub returns-in_ok-resize-clause-trees : goal.returns-in_ok-resize-clause-trees
returns-in_ok-resize-clause-trees c =
    let i = c.self.inside in
    (grow-may true i.nodes.items c.resize.new.self.items c.apart.result i.nodes.len c.args.count i.tops.items i.last _ c.self.view_is c.self.invariant c.in_ok-resize.ensures.items i.nodes.ok.0
    (omega (arith, c.if-len-count.true, c.len.ensures)) (omega (arith, c.if-count.false))).trees_are

pub returns-in_ok-resize-clause-last : goal.returns-in_ok-resize-clause-last
returns-in_ok-resize-clause-last c =
    let i = c.self.inside in
    (grow-may true i.nodes.items c.resize.new.self.items c.apart.result i.nodes.len c.args.count i.tops.items i.last _ c.self.view_is c.self.invariant c.in_ok-resize.ensures.items i.nodes.ok.0
    (omega (arith, c.if-len-count.true, c.len.ensures)) (omega (arith, c.if-count.false))).last_is
