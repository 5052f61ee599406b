mod ToldLemmas
mod MemberLemmas
mod PlacedLemmas
