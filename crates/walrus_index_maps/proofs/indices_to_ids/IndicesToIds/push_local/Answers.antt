use Rattle.std.proofs.Common.{◌≡◌, ◌∙◌, ℕ, List, length, [], ◌∷◌, ◌++◌, Result, Ok, Err, OnErr, ap, sym}
use Rattle.walrus_index_maps.specs.Maps.{Ids, with_last}
use Rattle.walrus_index_maps.specs.Views.{ids, items_at}
use Rattle.walrus_index_maps.proofs.MapLemmas.{written_list, same_list, list_at}
use Rattle.walrus_index_maps.proofs.indices_to_ids.IndicesToIds.push_local.Goals as goal

on_err : {A E : Type 0} (r : Result A E) (P : Type 0) → P → OnErr r P
on_err (Ok x) P p = tt
on_err (Err e) P p = p

pub returns-clause-pushed : goal.returns-clause-pushed
returns-clause-pushed c =
    let now : Ids = ids c.reach_function.new.self in
    let old : Ids = ids c.args.self.now in
    let lists = c.reach_function.new.self.locals.items in
    let at = c.number-at.result in
    let had : c.index_mut.result.now ≡ items_at lists at = sym (list_at lists at c.index_mut.result.now c.in_ok-reach_function.ensures.place (sym c.index_mut.ensures.value)) in
    let same : items_at lists at ≡ old.locals c.args.function = ap (λ (i : Ids). i.locals at) c.in_ok-reach_function.ensures.same ∙ ap old.locals c.number-at.ensures in (
      c.in_ok-index.ensures.0 ∙ ap (λ (l : List ℕ). length l) (had ∙ same),
      ap (λ (l : ℕ → List ℕ). record now { locals = l }) (written_list lists at c.args.id c.push.new.self c.in_ok-reach_function.ensures.place (c.in_ok-index.ensures.1 ∙ ap (λ (l : List ℕ). l ++ c.args.id ∷ []) had))
          ∙ ap (λ (i : Ids). record i { locals = with_last at c.args.id i.locals }) c.in_ok-reach_function.ensures.same
          ∙ ap (λ (k : ℕ). record old { locals = with_last k c.args.id old.locals }) c.number-at.ensures,
    )

pub returns-in_err-index-clause-refused : goal.returns-in_err-index-clause-refused
returns-in_err-index-clause-refused c =
    let now : Ids = ids c.reach_function.new.self in
    let lists = c.reach_function.new.self.locals.items in
    let at = c.number-at.result in
    let had : c.index_mut.result.now ≡ items_at lists at = sym (list_at lists at c.index_mut.result.now c.in_ok-reach_function.ensures.place (sym c.index_mut.ensures.value)) in
    on_err _ _ (ap (λ (l : ℕ → List ℕ). record now { locals = l }) (same_list lists at c.push.new.self c.in_ok-reach_function.ensures.place (c.in_err-index.ensures ∙ had)) ∙ c.in_ok-reach_function.ensures.same)
