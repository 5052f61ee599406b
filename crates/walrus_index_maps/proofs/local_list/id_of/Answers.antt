use Rattle.std.proofs.Common.{◌≡◌, ◌∙◌, ℕ, Ok, Err, get_or, sym, rules}
use Rattle.std.proofs.lemmas.List.Sorted.{answers_always}
use Rattle.walrus_index_maps.specs.Runs.{named_in, nowhere}
use Rattle.walrus_index_maps.proofs.SpreadLemmas.{searched}
use Rattle.walrus_index_maps.proofs.local_list.id_of.Goals as goal

pub returns-in-Ok : goal.returns-in-Ok
returns-in-Ok c =
    let facts = c.in-Ok.ensures in
    let by_key = facts.position (λ pair. pair.0) (answers_always _ _ _ (λ f a r g called. search rules)) in
    let found : named_in c.args.index c.args.named.now ≡ (get_or c.args.named.now c.in-Ok.at (0, 0)).1 =
    searched c.args.named.now c.requires.0 c.requires.1 c.args.index c.requires.2 (Ok c.in-Ok.at) facts.bound by_key in
    c.from_index.ensures ∙ sym found

pub returns-in-Err : goal.returns-in-Err
returns-in-Err c =
    let facts = c.in-Err.ensures in
    let by_key = facts.position (λ pair. pair.0) (answers_always _ _ _ (λ f a r g called. search rules)) in
    let found : named_in c.args.index c.args.named.now ≡ nowhere =
    searched c.args.named.now c.requires.0 c.requires.1 c.args.index c.requires.2 (Err c.in-Err.field-0) facts.bound by_key in
    c.from_index-in-Err.ensures ∙ sym found
