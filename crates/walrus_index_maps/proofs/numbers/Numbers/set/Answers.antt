use Rattle.std.proofs.Common.{◌∙◌, ℕ, ap}
use Rattle.walrus_index_maps.specs.Maps.{numbered}
use Rattle.walrus_index_maps.specs.Views.{numbering}
use Rattle.walrus_index_maps.proofs.MapLemmas.{set_is}
use Rattle.walrus_index_maps.proofs.numbers.Numbers.set.Goals as goal

pub returns-clause-set : goal.returns-clause-set
returns-clause-set g c =
    set_is c.reach.new.self.numbers.items c.reach.new.self.given c.number-at.result c.args.number c.in_ok-reach.ensures.place
    ∙ ap (numbered c.number-at.result c.args.number) c.in_ok-reach.ensures.same
    ∙ ap (λ (k : ℕ). numbered k c.args.number (numbering c.args.self.now)) c.number-at.ensures
