use Rattle.walrus_meaning.proofs.MeaningLemmas.{items_seen, deletes_seen}
use Rattle.walrus_meaning.proofs.items_are_seen.Goals as goal

pub returns-clause-items : goal.returns-clause-items
returns-clause-items g c = λ see a. items_seen see a

pub returns-clause-deleted : goal.returns-clause-deleted
returns-clause-deleted g c = λ see a. deletes_seen see a
