use Rattle.std.proofs.Common.{ap, ◌∙◌}
use Rattle.walrus_index_maps.specs.Maps.{Indices}
use Rattle.walrus_body_tests.proofs.bench.numbers.Goals as goal

pub push_func-requires-clause-is_new : goal.push_func-requires-clause-is_new
push_func-requires-clause-is_new c = ap (λ (m : Indices). m.functions.number c.id.result) c.new-maps.ensures

pub push_memory-requires-clause-is_new : goal.push_memory-requires-clause-is_new
push_memory-requires-clause-is_new c =
    ap (λ (m : Indices). m.memories.number c.id-2.result) c.in_ok-push_func.ensures.given.1 ∙ ap (λ (m : Indices). m.memories.number c.id-2.result) c.new-maps.ensures

pub push_global-requires-clause-is_new : goal.push_global-requires-clause-is_new
push_global-requires-clause-is_new c =
    ap (λ (m : Indices). m.globals.number c.id-3.result) c.in_ok-push_memory.ensures.given.1 ∙ ap (λ (m : Indices). m.globals.number c.id-3.result) c.in_ok-push_func.ensures.given.1
    ∙ ap (λ (m : Indices). m.globals.number c.id-3.result) c.new-maps.ensures

pub push_tag-requires-clause-is_new : goal.push_tag-requires-clause-is_new
push_tag-requires-clause-is_new c =
    ap (λ (m : Indices). m.tags.number c.id-4.result) c.in_ok-push_global.ensures.given.1 ∙ ap (λ (m : Indices). m.tags.number c.id-4.result) c.in_ok-push_memory.ensures.given.1
    ∙ ap (λ (m : Indices). m.tags.number c.id-4.result) c.in_ok-push_func.ensures.given.1 ∙ ap (λ (m : Indices). m.tags.number c.id-4.result) c.new-maps.ensures
