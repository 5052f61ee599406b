mod AnchorLemmas
mod ListLemmas
mod OrderLemmas
mod PlaceLemmas
mod UniqueLemmas
