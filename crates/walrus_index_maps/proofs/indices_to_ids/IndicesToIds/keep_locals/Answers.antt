use Rattle.std.proofs.Common.{◌≡◌, ◌≤◌, ◌<◌, ◌∙◌, length, take, ℕ, List, rules, ap, sym, arith}
use Rattle.walrus_index_maps.specs.Maps.{Ids, with_first}
use Rattle.walrus_index_maps.specs.Views.{ids, items_at}
use Rattle.walrus_index_maps.proofs.MapLemmas.{cut_list, no_cut, list_at}
use Rattle.walrus_index_maps.proofs.indices_to_ids.IndicesToIds.keep_locals.Goals as goal

pub returns-then-at-len : goal.returns-then-at-len
returns-then-at-len c =
    let old : Ids = ids c.args.self.now in
    let lists = c.args.self.now.locals.items in
    let at = c.number-at.result in
    let inside : at < length lists = grind (arith, c.if-at-len.true, c.len.ensures, c.args.self.now.locals.ok.0) in
    let had : c.index_mut.result.now ≡ items_at lists at = sym (list_at lists at c.index_mut.result.now inside (sym c.index_mut.ensures.value)) in
    ap (λ (l : ℕ → List ℕ). record old { locals = l }) (cut_list lists at c.args.count c.truncate.new.self inside (c.truncate.ensures ∙ ap (λ (l : List ℕ). take c.args.count l) had))
    ∙ ap (λ (k : ℕ). record old { locals = with_first k c.args.count old.locals }) c.number-at.ensures

pub returns-else-at-len : goal.returns-else-at-len
returns-else-at-len c =
    let old : Ids = ids c.args.self.now in
    let lists = c.args.self.now.locals.items in
    let at = c.number-at.result in
    let outside : length lists ≤ at = grind (arith, c.if-at-len.false, c.len.ensures, c.args.self.now.locals.ok.0) in
    ap (λ (l : ℕ → List ℕ). record old { locals = l }) (no_cut lists at c.args.count outside)
    ∙ ap (λ (k : ℕ). record old { locals = with_first k c.args.count old.locals }) c.number-at.ensures
