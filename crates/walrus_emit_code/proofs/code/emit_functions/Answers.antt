use Rattle.std.proofs.Common.{rules, arith, ◌∙◌, ◌<◌, length}
use Rattle.walrus_index_maps.specs.Views.{indices}
use Rattle.walrus_emit_code.proofs.CodeLemmas.{section_written}
use Rattle.walrus_emit_code.proofs.PlaceLemmas.{section_begins, section_located, section_ranged}
use Rattle.walrus_emit_code.proofs.code.emit_functions.Goals as goal

pub returns-clause-written : goal.returns-clause-written
returns-clause-written c =
    let some : 0 < length c.args.code.now.order.now = first_of (search rules, grind (arith, c.if-is_empty.ensures, c.if-is_empty.false, c.is_empty.ensures)) in
    section_written c.args.code.now.locals.now c.args.code.now.functions.now c.args.code.now.facts.now c.args.code.now.order.now (indices c.args.emission.now.indices) _ _ _ _ _
    (search rules) some c.requires c.in_ok-add_id.ensures.written c.in_ok-write_contents.ensures.written c.in_ok-seal.ensures.written

pub returns-clause-located : goal.returns-clause-located
returns-clause-located c =
    section_located c.args.code.now.locals.now c.args.code.now.functions.now c.args.code.now.facts.now c.args.code.now.order.now c.requires (indices c.args.emission.now.indices) _ _ (search rules) c.args.code.now.keeps_places _ _
    (c.in_ok-seal.ensures.located ∙ c.in_ok-write_contents.ensures.located)

pub returns-clause-ranged : goal.returns-clause-ranged
returns-clause-ranged c =
    section_ranged c.args.code.now.locals.now c.args.code.now.functions.now c.args.code.now.facts.now c.args.code.now.order.now c.requires (indices c.args.emission.now.indices) _ _ (search rules) _ _
    (c.in_ok-seal.ensures.ranged ∙ c.in_ok-write_contents.ensures.ranged)

pub returns-clause-begins : goal.returns-clause-begins
returns-clause-begins c =
    let some : 0 < length c.args.code.now.order.now = first_of (search rules, grind (arith, c.if-is_empty.ensures, c.if-is_empty.false, c.is_empty.ensures)) in
    section_begins c.args.code.now.locals.now c.args.code.now.functions.now c.args.code.now.facts.now c.args.code.now.order.now (indices c.args.emission.now.indices) _ _ _ _ _ _
    (search rules) some c.requires c.in_ok-add_id.ensures.written c.in_ok-write_contents.ensures.written c.in_ok-seal.ensures.begins
