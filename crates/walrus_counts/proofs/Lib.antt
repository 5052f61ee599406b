pub mod CauseLemmas
mod BodyLemmas
