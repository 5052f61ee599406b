mod CodeLemmas
mod PlaceLemmas
