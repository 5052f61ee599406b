use Rattle.std.proofs.Common.{◌∙◌, sym, ap}
use Rattle.walrus_arena.specs.Arena.{item_at}
use Rattle.walrus_used.specs.walrus_module.Parts.{parts}
use Rattle.walrus_refusals.proofs.PastLemmas.{more_past}
use Rattle.walrus_refusals.proofs.claims.past_claims.Goals as goal

pub loop-index-preserved : goal.loop-index-preserved
loop-index-preserved g c = (
  c.in_ok-add_past.ensures.sized ∙ c.loop-index.invariant.0,
  more_past (parts c.args.input.now) c.id_counts-counts.result c.loop-index.index c.get.result.now c.brought.result c.loop-index.claims c.add_past.new.claims c.id_counts-counts.ensures.counts (ap (λ k. item_at c.args.input.now.imports k) (sym c.from_index-id.ensures) ∙ c.get.ensures) c.brought.ensures
      c.in_ok-add_past.ensures c.loop-index.invariant.1,
)
