pub mod SpellLemmas
mod SectionLemmas
