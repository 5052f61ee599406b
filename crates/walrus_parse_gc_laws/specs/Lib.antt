pub mod Moved
pub mod Sent
pub mod SentRuled
pub mod Numbered
pub mod Ruled
pub mod RuledSent
pub mod Handed
pub mod Numbers
pub mod Texts
pub mod Stays
pub mod Served
pub mod Passed
-- Passed on to crates above, which then list this one alone.
pub use Rattle.walrus_parse_laws.specs as walrus_parse_laws
