mod Computed
mod OrderLemmas
mod NameLemmas
mod NamedModuleLemmas
