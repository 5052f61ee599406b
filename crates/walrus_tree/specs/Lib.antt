pub mod Trees
pub mod Testing
pub mod Text
pub mod TextLaws
pub mod Once
-- Passed on to crates above, which then list this one alone.
pub use Rattle.walrus_builder.specs as walrus_builder
pub use Rattle.walrus_builder.specs.walrus_walks as walrus_walks
