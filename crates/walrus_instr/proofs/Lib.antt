pub mod CopyLemmas
pub mod RenamedLemmas
