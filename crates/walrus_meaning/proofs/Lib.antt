pub mod MeaningLemmas
