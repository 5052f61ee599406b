mod CodeLemmas
mod PlaceLemmas
mod SectionLemmas
