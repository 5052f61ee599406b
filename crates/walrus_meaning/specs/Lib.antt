pub mod Bodies
pub mod Laws
pub mod Meaning
pub use Rattle.walrus_linked.specs.walrus_module_items.Words
pub mod Told
pub mod NamesTold
-- Passed on to crates above, which then list this one alone.
pub use Rattle.walrus_linked.specs.walrus_body_writer as walrus_body_writer
pub use Rattle.walrus_linked.specs as walrus_linked
pub use Rattle.walrus_linked.specs.walrus_local_function as walrus_local_function
pub use Rattle.walrus_linked.specs.walrus_module as walrus_module
