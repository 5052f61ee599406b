use Rattle.std.proofs.Common.{◌≡◌, ◌≤◌, ◌<◌, ◌+◌, ◌-◌, ◌∙◌, ◌++◌, ℕ, List, length, take, rules, ap, sym, subst, arith}
use Rattle.std.proofs.lemmas.Fn.{filter_same}
use Rattle.std.proofs.lemmas.List.{take_all}
use Rattle.walrus_index_maps.specs.Runs.{IsRising, run_from, spread}
use Rattle.walrus_index_maps.proofs.SpreadLemmas.{in_front, length_listed, list_cut_rest, list_cut_run, rising_cut, rising_ends}
use Rattle.walrus_index_maps.proofs.local_list.LocalList.truncate.Goals as goal

pub returns-then-count-self : goal.returns-then-count-self
returns-then-count-self c =
    let now = c.self.inside in
    list_cut_run now.first now.run (now.count - now.run) c.args.count now.rest.items c.truncate.new.self.items (omega (arith, c.if-count-self.true))
    ∙ ap (λ (l : List ℕ). take c.args.count l) c.self.view_is

pub invariant_of-self-then-count-self-2 : goal.invariant_of-self-then-count-self-2
invariant_of-self-then-count-self-2 c =
    let now = c.self.inside in
    let same : c.retain.new.self.items ≡ in_front c.args.count now.rest.items = filter_same _ _ _ (λ x b f' k. search rules) _ _ c.retain.ensures.filtered in
    record {
      fits = c.self.invariant.fits;
      rising = subst (λ (l : List (ℕ × ℕ)). IsRising now.run c.args.count l) (sym same) (rising_cut c.args.count now.run now.count now.rest.items c.if-count-self.false c.self.invariant.rising);
    }

pub returns-then-count-self-2 : goal.returns-then-count-self-2
returns-then-count-self-2 c =
    let now = c.self.inside in
    let same : c.retain.new.self.items ≡ in_front c.args.count now.rest.items = filter_same _ _ _ (λ x b f' k. search rules) _ _ c.retain.ensures.filtered in
    let le = rising_ends now.run now.count now.rest.items c.self.invariant.rising in
    ap (λ (l : List (ℕ × ℕ)). run_from now.first now.run ++ spread now.run (c.args.count - now.run) l) same
    ∙ list_cut_rest now.first now.run (now.count - now.run) c.args.count now.rest.items c.if-count-self.false (omega (arith, le, c.if-count-self-2.true))
    ∙ ap (λ (l : List ℕ). take c.args.count l) c.self.view_is

pub returns-else-count-self-2 : goal.returns-else-count-self-2
returns-else-count-self-2 c =
    let now = c.self.inside in
    let all = length_listed now.first now.run now.count now.rest.items c.self.invariant.rising ∙ ap (λ (l : List ℕ). length l) c.self.view_is in
    sym (take_all c.args.count c.args.self.now (omega (arith, all, c.if-count-self-2.false)))
