pub mod Conversions
pub mod Forms
pub mod Kinds
pub mod Lends
pub mod Order
pub mod Records
pub mod Renaming
pub mod Same
pub mod Texts
pub mod Values
pub mod ValueOrder
-- Passed on to crates above, which then list this one alone.
pub use Rattle.walrus_arena.specs as walrus_arena
