pub mod SlotLemmas
mod LinkLemmas
mod FullLemmas
