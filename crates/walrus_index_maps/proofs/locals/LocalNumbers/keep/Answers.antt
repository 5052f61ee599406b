use Rattle.std.proofs.Common.{ℕ, ◌∙◌, None, slice_index_or, sym}
use Rattle.std.proofs.lemmas.List.{get_or_default}
use Rattle.std.specs.BTreeMap.{get}
use Rattle.walrus_index_maps.specs.Views.{key_cmp}
use Rattle.walrus_index_maps.proofs.LocalLemmas.{said_kept}
use Rattle.walrus_index_maps.proofs.locals.LocalNumbers.keep.Goals as goal

pub returns-in_ok-insert-clause-same : goal.returns-in_ok-insert-clause-same
returns-in_ok-insert-clause-same c =
    let had = c.args.self.now in
    said_kept (λ (local : ℕ). slice_index_or had.last.items local None) c.args.at c.in-Some.said.function c.in-Some.said.number (get key_cmp had.earlier) (get key_cmp c.insert.new.self)
    (get_or_default had.last.items c.args.at None c.index.result.now c.requires.known ∙ sym c.index.ensures ∙ c.in-Some.is) (c.in_ok-insert.ensures.updates.0)
