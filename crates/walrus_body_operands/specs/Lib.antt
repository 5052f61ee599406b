pub mod Listed
pub mod Asked
pub mod Steps
pub mod Counted
-- Passed on to crates above, which then list this one alone.
pub use Rattle.walrus_body_steps.specs.walrus_body_rules as walrus_body_rules
pub use Rattle.walrus_body_steps.specs.walrus_body_stack as walrus_body_stack
pub use Rattle.walrus_body_steps.specs as walrus_body_steps
