use Rattle.std.proofs.Common.{◌≡◌, ◌≤◌, ◌<◌, ◌-◌, ◌∙◌, [], ◌++◌, take, ℕ, List, ap, arith, append-nil}
use Rattle.walrus_index_maps.specs.Runs.{run_from}
use Rattle.walrus_index_maps.proofs.RunLemmas.{run_cut, rest_cut}
use Rattle.walrus_index_maps.proofs.id_list.IdList.truncate.Goals as goal

pub returns-then-count-run : goal.returns-then-count-run
returns-then-count-run g c =
    let now = c.self.inside in
    let less : c.args.count ≤ now.run = omega (arith, c.if-count-run.true) in
    ap (λ (l : List ℕ). run_from now.first c.args.count ++ l) c.truncate.ensures.items
    ∙ append-nil (run_from now.first c.args.count)
    ∙ run_cut now.first now.run c.args.count now.rest.items less
    ∙ ap (λ (l : List ℕ). take c.args.count l) c.self.view_is

pub returns-else-count-run : goal.returns-else-count-run
returns-else-count-run g c =
    let now = c.self.inside in
    let more : now.run ≤ c.args.count = omega (arith, c.if-count-run.false) in
    ap (λ (l : List ℕ). run_from now.first now.run ++ l) c.truncate-else-count-run.ensures.items
    ∙ rest_cut now.first now.run c.args.count now.rest.items more
    ∙ ap (λ (l : List ℕ). take c.args.count l) c.self.view_is
