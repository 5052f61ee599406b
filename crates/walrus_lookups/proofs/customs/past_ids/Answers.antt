use Rattle.std.proofs.Common.{◌∙◌, ℕ, List, Contains, inr, sym, subst, arith}
use Rattle.walrus_lookups.proofs.SectionLemmas.{live_listed}
use Rattle.walrus_lookups.proofs.customs.past_ids.Goals as goal

pub loop-id-init : goal.loop-id-init
loop-id-init g c = record {
  can = tt;
  ends = tt;
  met = λ id live. inr (subst (λ (xs : List ℕ). Contains xs id) (sym (c.into_iter-id-iterator.ensures.into_iter_gives ∙ c.iter-id-items.ensures)) (live_listed c.args.sections.now id live));
  bounded = omega arith;
}
