use Rattle.walrus_arena.proofs.LawLemmas.{EntriesAreLive-any}
use Rattle.walrus_arena.proofs.laws.entries_are_live.Goals as goal

pub returns-clause-entries : goal.returns-clause-entries
returns-clause-entries g c = EntriesAreLive-any c.args.arena.now
