use Rattle.std.specs.Prelude.{ℕ}
use Rattle.walrus_index_maps.specs.Views.{indices}
use Rattle.walrus_index_maps.specs.Maps.{Indices}
use Rattle.walrus_emit_code.specs.Code.{code, facts_at}
use Rattle.walrus_emit_code.specs.Places.{code_start}
use Rattle.walrus_emit.specs.Whole.{closing, opening}
use Rattle.walrus_emit.proofs.WholeLemmas.{begins_behind, code_then}
use Rattle.walrus_emit.proofs.contents.write_all.Goals as goal

pub returns-clause-written : goal.returns-clause-written
returns-clause-written g c =
    let i : Indices = indices c.args.emission.now.indices in
    code_then (opening g.B.CustomSection.own_name g.B.CustomSection.contents c.args.input.now c.args.facts.now c.args.order.now c.args.types.now i)
    (code c.args.input.now.locals c.args.input.now.funcs i (facts_at c.args.facts.now c.args.order.now)) (λ (k : Indices). closing c.args.input.now c.args.facts.now c.args.order.now c.args.types.now k) _ _ _ _ _ _ _
    c.in_ok-write_code.ensures.numbered c.in_ok-write_opening.ensures c.in_ok-write_code.ensures.written c.write_behind_code.ensures

pub returns-clause-begins : goal.returns-clause-begins
returns-clause-begins g c =
    let i : Indices = indices c.args.emission.now.indices in
    begins_behind (λ (n : ℕ). code_start c.args.input.now.locals c.args.input.now.funcs i c.args.emission.now.code_section_start n (facts_at c.args.facts.now c.args.order.now))
    (opening g.B.CustomSection.own_name g.B.CustomSection.contents c.args.input.now c.args.facts.now c.args.order.now c.args.types.now i) _ _ _ c.write_behind_code.result c.in_ok-write_opening.ensures c.in_ok-write_code.ensures.begins
