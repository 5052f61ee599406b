pub mod KeepsLemmas
pub mod ListLemmas
pub mod DeclaredLemmas
pub mod WholeLemmas
pub mod WrittenLemmas
pub mod Lasts
pub mod ToldLemmas
