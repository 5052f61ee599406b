use Rattle.std.proofs.Common.{◌+◌, ◌∙◌, ◌++◌, ℕ, List, replicate, ap, arith}
use Rattle.walrus_index_maps.specs.Runs.{nowhere}
use Rattle.walrus_index_maps.proofs.SpreadLemmas.{rising_on, skipped_rest}
use Rattle.walrus_index_maps.proofs.local_list.LocalList.skip.Goals as goal

pub invariant_of-self : goal.invariant_of-self
invariant_of-self c =
    let now = c.self.inside in
    record {
      fits = c.self.invariant.fits;
      rising = rising_on now.run now.count (now.count + c.args.more) now.rest.items (omega arith) c.self.invariant.rising;
    }

pub returns-clause-skipped : goal.returns-clause-skipped
returns-clause-skipped c =
    let now = c.self.inside in
    skipped_rest now.first now.run now.count c.args.more now.rest.items c.self.invariant.rising ∙ ap (λ (l : List ℕ). l ++ replicate c.args.more nowhere) c.self.view_is
