use Rattle.std.proofs.Common.{◌∙◌}
use Rattle.walrus_refusals.specs.walrus_used.walrus_module.Parts.{parts}
use Rattle.walrus_passes.proofs.KeptLemmas.{has_memory, has_no_data, spares_first}
use Rattle.walrus_passes.proofs.kept.spared_memory.Goals as goal

pub returns-then-has_any : goal.returns-then-has_any
returns-then-has_any g c = has_memory (parts c.args.input.now) c.args.marks.now c.requires c.index-memories.result c.has_any.result c.if-has_any.true c.has_any.ensures

pub returns-then-not-has_any : goal.returns-then-not-has_any
returns-then-not-has_any g c = has_no_data (parts c.args.input.now) c.args.marks.now c.requires c.index-data.result c.has_any-2.result (c.index-data.ensures ∙ c.next_id.ensures) c.if-not-has_any.true c.has_any-2.ensures

pub returns : goal.returns
returns g c =
    spares_first (parts c.args.input.now) c.args.marks.now c.requires c.index-data.result c.index-memories.result c.has_any.result c.has_any-2.result (c.index-memories.ensures ∙ c.next_id-2.ensures) c.if-has_any.false c.has_any.ensures
    c.if-not-has_any.false c.has_any-2.ensures c.first_memory.result c.first_memory.ensures
