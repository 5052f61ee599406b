pub mod ArgumentLemmas
pub mod ReplacedLemmas
