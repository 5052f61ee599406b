pub mod CodeLemmas
pub mod RowLemmas
pub mod Computed
pub mod EdgeLemmas
