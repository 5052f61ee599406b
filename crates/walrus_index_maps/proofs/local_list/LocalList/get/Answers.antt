use Rattle.std.proofs.Common.{◌≡◌, ◌≤◌, ◌<◌, ◌+◌, ◌-◌, ◌∙◌, ℕ, List, Some, None, slice_get, ap, sym, arith}
use Rattle.walrus_index_maps.specs.Runs.{named_in, spread}
use Rattle.walrus_index_maps.proofs.RunLemmas.{in_run}
use Rattle.walrus_index_maps.proofs.SpreadLemmas.{list_get, list_past, rising_ends}
use Rattle.walrus_index_maps.proofs.local_list.LocalList.get.Goals as goal

pub returns-then-index-self : goal.returns-then-index-self
returns-then-index-self c =
    let now = c.self.inside in
    ap (λ (k : ℕ). Some k) c.from_index.ensures
    ∙ sym (in_run now.first now.run c.args.index (spread now.run (now.count - now.run) now.rest.items) c.if-index-self.true)
    ∙ ap (λ (l : List ℕ). slice_get l c.args.index) c.self.view_is

pub returns-then-index-self-2 : goal.returns-then-index-self-2
returns-then-index-self-2 c =
    let now = c.self.inside in
    let le = rising_ends now.run now.count now.rest.items c.self.invariant.rising in
    ap (λ (k : ℕ). Some k) c.id_of.ensures
    ∙ ap (λ (l : List (ℕ × ℕ)). Some (named_in c.args.index l)) c.as_slice.ensures.value
    ∙ sym (list_get now.first now.run (now.count - now.run) c.args.index now.rest.items (omega (arith, c.if-index-self.false)) (omega (arith, c.if-index-self-2.true, le)))
    ∙ ap (λ (l : List ℕ). slice_get l c.args.index) c.self.view_is

pub returns : goal.returns
returns c =
    let now = c.self.inside in
    let le = rising_ends now.run now.count now.rest.items c.self.invariant.rising in
    sym (list_past now.first now.run (now.count - now.run) c.args.index now.rest.items (omega (arith, c.if-index-self-2.false, le)))
    ∙ ap (λ (l : List ℕ). slice_get l c.args.index) c.self.view_is
