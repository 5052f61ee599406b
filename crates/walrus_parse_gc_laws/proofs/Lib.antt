pub mod ZipLemmas
mod SeqLemmas
mod WalkLemmas
mod SentTextLemmas
pub mod SentLemmas
pub mod LinkedLemmas
pub mod MeaningLemmas
pub mod MovedRules
mod HandlerLemmas
mod RuledItemLemmas
mod RuledPlaceLemmas
mod FunctionLemmas
mod RuledLemmas
mod SentNames
mod RuledSentLemmas
mod HandedLemmas
mod WrittenLemmas
mod NumbersPlaceLemmas
mod NumberLemmas
mod NumbersNameLemmas
mod NumbersTextLemmas
mod ServedNameLemmas
mod FileLemmas
mod BodyLemmas
mod StayLemmas
mod ServedLemmas
mod ValueLemmas
mod TreeLemmas
mod InexactItemLemmas
mod InstrLemmas
mod LaidLemmas
mod InexactTextLemmas
mod TypeLemmas
mod StepLemmas
mod ReadLemmas
mod InexactSentLemmas
