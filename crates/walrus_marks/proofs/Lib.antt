pub mod ClaimLemmas
pub mod FlagLemmas
pub mod MarkLemmas
pub mod MetLemmas
pub mod ReachLemmas
pub mod WalkLemmas
