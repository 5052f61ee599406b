use Rattle.std.proofs.Common.{◌≡◌, ◌<◌, ◌≤◌, ◌∙◌, length, get_or, ℕ, List, refl, ap, sym, arith}
use Rattle.walrus_index_maps.proofs.MapLemmas.{list_at, no_list}
use Rattle.walrus_index_maps.proofs.indices_to_ids.IndicesToIds.local_count.Goals as goal

pub returns-in-Some : goal.returns-in-Some
returns-in-Some c =
    let h = c.in-Some.ensures.lookup in
    let lists = c.args.self.now.locals.items in
    let inside : c.args.function < length lists = rw (c.index.ensures, c.deref.ensures.value) at h.3.0 in
    let found : get_or lists c.args.function c.in-Some.locals.now ≡ c.in-Some.locals.now = sym (rw (c.index.ensures, c.deref.ensures.value) at h.1) in
    c.len.ensures ∙ sym (ap (λ (l : List ℕ). length l) (list_at lists c.args.function c.in-Some.locals.now inside found))

pub returns-in-None : goal.returns-in-None
returns-in-None c =
    let outside : length c.args.self.now.locals.items ≤ c.args.function = grind (arith, c.in-None.ensures, c.index.ensures, c.deref.ensures.value) in
    rw (no_list c.args.self.now.locals.items c.args.function outside) refl
