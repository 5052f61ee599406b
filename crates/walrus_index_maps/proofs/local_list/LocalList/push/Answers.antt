use Rattle.std.proofs.Common.{◌≡◌, ◌≤◌, ◌+◌, ◌-◌, ◌∙◌, ◌∷◌, ◌++◌, [], ℕ, List, length, ap, sym, subst, arith}
use Rattle.walrus_index_maps.proofs.SpreadLemmas.{first_rises, pushed_first, pushed_rest, pushed_run, rising_pushed, run_rises}
use Rattle.walrus_index_maps.specs.Runs.{IsRising, run_from, spread}
use Rattle.walrus_index_maps.proofs.local_list.LocalList.push.Goals as goal

pub invariant_of-self : goal.invariant_of-self
invariant_of-self c =
    let now = c.self.inside in
    record { fits = omega (arith, c.number-number.type_inv); rising = first_rises now.run now.count now.rest.items c.if-index-eq0.true c.self.invariant.rising }

pub returns-then-index-eq0 : goal.returns-then-index-eq0
returns-then-index-eq0 c =
    let now = c.self.inside in
    let p = pushed_first now.first now.run now.count c.args.id c.number-number.result now.rest.items c.if-index-eq0.true c.self.invariant.rising c.number-number.ensures in (
      p.0 ∙ ap (λ (l : List ℕ). length l) c.self.view_is,
      p.1 ∙ ap (λ (l : List ℕ). l ++ c.args.id ∷ []) c.self.view_is,
    )

pub invariant_of-self-then-next-from : goal.invariant_of-self-then-next-from
invariant_of-self-then-next-from c =
    let now = c.self.inside in
    record {
      fits = omega (arith, c.if-next-from.true, c.from-then-self-index.ensures, c.from-2.ensures, c.from.ensures, c.number-number.type_inv);
      rising = run_rises now.run now.count now.rest.items c.if-self-index.true c.self.invariant.rising;
    }

pub returns-then-next-from : goal.returns-then-next-from
returns-then-next-from c =
    let now = c.self.inside in
    let next : now.first + now.run ≡ c.args.id = omega (arith, c.if-next-from.true, c.from-then-self-index.ensures, c.from-2.ensures, c.from.ensures, c.number-number.ensures) in
    let p = pushed_run now.first now.run now.count c.args.id now.rest.items c.if-self-index.true c.self.invariant.rising next in (
      p.0 ∙ ap (λ (l : List ℕ). length l) c.self.view_is,
      p.1 ∙ ap (λ (l : List ℕ). l ++ c.args.id ∷ []) c.self.view_is,
    )

pub invariant_of-self-2 : goal.invariant_of-self-2
invariant_of-self-2 c =
    let now = c.self.inside in
    record {
      fits = c.self.invariant.fits;
      rising = subst (λ (l : List (ℕ × ℕ)). IsRising now.run (now.count + 1) l) (sym c.in_ok-push.ensures.items) (rising_pushed now.run now.count c.number-number.result now.rest.items c.self.invariant.rising);
    }

pub returns : goal.returns
returns c =
    let now = c.self.inside in
    let p = pushed_rest now.first now.run now.count c.args.id c.number-number.result now.rest.items c.self.invariant.rising c.number-number.ensures in (
      p.0 ∙ ap (λ (l : List ℕ). length l) c.self.view_is,
      ap (λ (l : List (ℕ × ℕ)). run_from now.first now.run ++ spread now.run (now.count + 1 - now.run) l) c.in_ok-push.ensures.items
          ∙ p.1 ∙ ap (λ (l : List ℕ). l ++ c.args.id ∷ []) c.self.view_is,
    )
