use Rattle.std.proofs.Common.{◌∙◌, ℕ, List, Some, slice_get, rules, ap, sym}
use Rattle.walrus_index_maps.proofs.RunLemmas.{in_run, past_run}
use Rattle.walrus_index_maps.proofs.id_list.IdList.get.Goals as goal

pub returns-then-index-self : goal.returns-then-index-self
returns-then-index-self g c =
    ap (λ (k : ℕ). Some k) c.from_index.ensures
    ∙ sym (in_run c.self.inside.first c.self.inside.run c.args.index c.self.inside.rest.items c.if-index-self.true)
    ∙ ap (λ (l : List ℕ). slice_get l c.args.index) c.self.view_is

pub returns : goal.returns
returns g c =
    rw (sym c.self.view_is, past_run c.self.inside.first c.self.inside.run c.args.index c.self.inside.rest.items c.if-index-self.false) (search rules)
