use Rattle.std.proofs.Common.{◌∙◌, Option, None, ℕ, true, ap}
use Rattle.walrus_type_index.specs.walrus_items.walrus_forms.Kinds.{function_kind}
use Rattle.walrus_type_index.specs.Places.{kinds_in, last_of}
use Rattle.walrus_type_arenas.specs.Highest.{later_of}
use Rattle.walrus_type_arenas.proofs.HighestLemmas.{finds-function}
use Rattle.walrus_type_arenas.proofs.index.found_function.Goals as goal

pub returns : goal.returns
returns c =
    let slots = c.args.types.now.slots in
    let kind = function_kind c.args.params.now c.args.results.now in
    let own : Option ℕ = last_of (kinds_in slots) kind true c.args.index.now.ids in
    c.later.ensures
    ∙ ap (λ (a : Option ℕ). later_of a c.lent_function-lent.result) (c.later-found.ensures
    ∙ ap (λ (b : Option ℕ). later_of c.latest-plain.result b) c.latest-own.ensures
    ∙ ap (λ (a : Option ℕ). later_of a own) c.latest-plain.ensures)
    ∙ ap (λ (b : Option ℕ). later_of (later_of (last_of (kinds_in slots) kind Rattle.std.proofs.Common.false c.args.index.now.ids) own) b) c.lent_function-lent.ensures
    ∙ finds-function slots c.args.lent c.args.index.now.ids kind c.requires.ordered
