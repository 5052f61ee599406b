use Rattle.walrus_segment_readers.specs.Lists.{numbers_of, counted_as}
use Rattle.walrus_segment_readers.proofs.lists.read_functions.Goals as goal

pub returns : goal.returns
returns c = counted_as _ _ numbers_of _ _ _ c.function_count.ensures c.read_some_functions.ensures
