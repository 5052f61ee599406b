use Rattle.std.proofs.Common.{◌≡◌, ◌∙◌, ◌++◌, ℕ, List, replicate, ap, sym}
use Rattle.walrus_index_maps.specs.Maps.{Ids, with_skipped}
use Rattle.walrus_index_maps.specs.Runs.{nowhere}
use Rattle.walrus_index_maps.specs.Views.{ids, items_at}
use Rattle.walrus_index_maps.proofs.MapLemmas.{list_at, skipped_list}
use Rattle.walrus_index_maps.proofs.indices_to_ids.IndicesToIds.skip_locals.Goals as goal

pub returns-clause-skipped : goal.returns-clause-skipped
returns-clause-skipped c =
    let now : Ids = ids c.reach_function.new.self in
    let old : Ids = ids c.args.self.now in
    let lists = c.reach_function.new.self.locals.items in
    let at = c.number-at.result in
    let had : c.index_mut.result.now ≡ items_at lists at = sym (list_at lists at c.index_mut.result.now c.in_ok-reach_function.ensures.place (sym c.index_mut.ensures.value)) in
    ap (λ (l : ℕ → List ℕ). record now { locals = l }) (skipped_list lists at c.args.more c.skip.new.self c.in_ok-reach_function.ensures.place (c.in_ok-skip.ensures.skipped ∙ ap (λ (l : List ℕ). l ++ replicate c.args.more nowhere) had))
    ∙ ap (λ (i : Ids). record i { locals = with_skipped at c.args.more i.locals }) c.in_ok-reach_function.ensures.same
    ∙ ap (λ (k : ℕ). record old { locals = with_skipped k c.args.more old.locals }) c.number-at.ensures
