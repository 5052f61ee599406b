use Rattle.walrus_due_laws.proofs.Memories.{memories_spelled}
use Rattle.walrus_due_laws.proofs.laws.memories_are_spelled.Goals as goal

pub returns : goal.returns
returns c = memories_spelled
