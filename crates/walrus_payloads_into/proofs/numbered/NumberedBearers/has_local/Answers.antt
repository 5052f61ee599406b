use Rattle.std.proofs.Common.{◌∙◌, ap, sym, nat_lt, ℕ}
use Rattle.walrus_index_maps.specs.Views.{ids}
use Rattle.walrus_payloads_into.specs.Counted.{file_is_numbered}
use Rattle.walrus_payloads_into.proofs.numbered.NumberedBearers.has_local.Goals as goal

pub returns : goal.returns
returns c = c.has_local.ensures ∙ ap (λ (count : ℕ). nat_lt c.args.number count) (sym ((file_is_numbered (ids c.args.self.now.maps.now)).locals c.args.function))
