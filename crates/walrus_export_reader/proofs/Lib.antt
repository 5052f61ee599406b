mod Listed
mod Sorted
mod Judged
