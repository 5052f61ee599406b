pub mod EditLemmas
pub mod ProducerLemmas
