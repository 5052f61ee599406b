mod AddedLemmas
mod BodyLemmas
mod ItemLemmas
mod PickLemmas
mod RootLemmas
mod SegmentLemmas
mod ToldLemmas
mod TypeLemmas
