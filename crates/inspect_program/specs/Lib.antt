pub mod Outcomes
pub mod Words
-- Passed on to crates above, which then list this one alone.
pub use Rattle.inspect_lines.specs as inspect_lines
pub use Rattle.walrus_config.specs as walrus_config
pub use Rattle.walrus_errors.specs as walrus_errors
