use Rattle.walrus_walks.proofs.Nested.{squeezed, squeezed_some, squeezed_is_rank, count_most}
use Rattle.walrus_walks.proofs.laws.ranks_fit.Goals as goal

pub returns : goal.returns
returns c b k h = (
  squeezed b h.rank,
  squeezed_is_rank b h.rank h.is_rank,
  squeezed_some b h.rank h.is_rank k h.ranked,
  λ j. count_most h.rank _ (h.rank j),
)
