pub mod MapLemmas
pub mod LocalLemmas
pub mod RunLemmas
pub mod SpreadLemmas
