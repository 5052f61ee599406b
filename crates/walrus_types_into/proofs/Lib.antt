mod BelowLemmas
mod IntoLemmas
mod StandLemmas
