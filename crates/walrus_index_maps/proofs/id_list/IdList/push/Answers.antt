use Rattle.std.proofs.Common.{◌≡◌, ◌∙◌, ◌+◌, ◌-◌, [], ◌∷◌, ◌++◌, length, ℕ, List, ap, arith}
use Rattle.walrus_index_maps.specs.Runs.{run_from}
use Rattle.walrus_index_maps.proofs.RunLemmas.{run_length, run_pushed, rest_pushed}
use Rattle.walrus_index_maps.proofs.id_list.IdList.push.Goals as goal

pub returns-then-next-from : goal.returns-then-next-from
returns-then-next-from g c =
    let now = c.self.inside in
    let none : length now.rest.items ≡ 0 = grind (arith, c.is_empty.ensures, c.if-is_empty.true, now.rest.ok.0) in
    let next : now.first + now.run ≡ c.args.id = grind (arith, c.if-next-from.true, c.number-number.ensures, c.from-then-is_empty.ensures, c.from-then-self-lt4294967295.ensures, c.from.ensures) in
    let counted : now.run + 1 - 1 ≡ length (run_from now.first now.run ++ now.rest.items) = omega (arith, none, run_length now.first now.run now.rest.items) in (
      counted ∙ ap (λ (l : List ℕ). length l) c.self.view_is,
      run_pushed now.first now.run c.args.id now.rest.items none next ∙ ap (λ (l : List ℕ). l ++ c.args.id ∷ []) c.self.view_is,
    )

pub returns : goal.returns
returns g c =
    let now = c.self.inside in
    let counted : now.run + c.len.result ≡ length (run_from now.first now.run ++ now.rest.items) = omega (arith, c.len.ensures, now.rest.ok.0, run_length now.first now.run now.rest.items) in
    let same : c.from_index.result ≡ c.args.id = c.from_index.ensures ∙ c.number-number.ensures in (
      counted ∙ ap (λ (l : List ℕ). length l) c.self.view_is,
      ap (λ (l : List ℕ). run_from now.first now.run ++ l) (c.in_ok-push.ensures.items ∙ ap (λ (k : ℕ). now.rest.items ++ k ∷ []) same)
          ∙ rest_pushed now.first now.run c.args.id now.rest.items
          ∙ ap (λ (l : List ℕ). l ++ c.args.id ∷ []) c.self.view_is,
    )
