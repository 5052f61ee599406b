use Rattle.walrus_arena.proofs.LawLemmas.{FindsLowest-any}
use Rattle.walrus_arena.proofs.laws.search_finds_lowest.Goals as goal

pub returns : goal.returns
returns g c = FindsLowest-any c.args.arena.now
