pub mod OperatorLemmas
pub mod Lookups
mod SegmentLemmas
