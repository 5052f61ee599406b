mod DataLemmas
mod PutLemmas
mod EntryLemmas
mod FileLemmas
