pub mod MadeLemmas
pub mod RefusalLemmas
pub mod RunLemmas
