pub mod ArenaLemmas
pub mod DenseLemmas
pub mod LawLemmas
pub mod SetLemmas
