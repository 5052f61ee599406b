pub mod FilledGroupLemmas
pub mod ParsedLemmas
pub mod FilledFunctionLemmas
pub mod FilledItemLemmas
pub mod ExpressionLemmas
pub mod ModuleLemmas
pub mod OrderLemmas
pub mod Seeing
mod BareLemmas
mod ItemsFunctionLemmas
mod ItemLemmas
pub mod ItemsSlotLemmas
mod BroughtLemmas
pub mod LinkLemmas
pub mod ListLemmas
mod ConstLemmas
pub mod ItemsValueLemmas
pub mod ItemsTypeLemmas
mod ItemsNamedLemmas
pub mod PickLemmas
pub mod BodiesSlotLemmas
pub mod BodiesStepLemmas
pub mod WholeLemmas
mod NamingLemmas
mod MeantLemmas
mod BodiesTextLemmas
pub mod BodiesNormalLemmas
pub mod BodiesRuleLemmas
pub mod UseLemmas
mod KeyLemmas
mod RankLemmas
mod LocalsNameLemmas
mod LocalsNormalLemmas
mod PlaceLemmas
mod LocalsRuleLemmas
mod SplitLemmas
mod IdLemmas
mod LocalsBodyLemmas
mod LocalsStepLemmas
mod LocalLemmas
mod KindLemmas
mod LinkedIndexLemmas
mod LinkedValueLemmas
mod LinkedTableLemmas
mod LinkedGroupLemmas
mod LinkedLocalLemmas
mod LinkedStepLemmas
mod WalkedLemmas
mod LinkedLemmas
mod OnceLemmas
mod GroupsTableLemmas
mod FoundLemmas
mod GivenLemmas
mod FitLemmas
mod ToldLemmas
mod CatchLemmas
mod GroupsFileLemmas
mod GroupsStepLemmas
mod GroupsTextLemmas
mod ReadLemmas
mod TellLemmas
mod GroupsNamedLemmas
mod HandlerLemmas
mod MeaningFunctionLemmas
mod MeaningBodyLemmas
mod MeaningTypeLemmas
mod TypeIdLemmas
mod OwnLemmas
mod MeaningIndexLemmas
mod StandLemmas
mod MeaningFileLemmas
mod MeaningNameLemmas
mod SizeLemmas
mod MeanLemmas
-- Passed on to crates above, which then list this one alone.
pub use Rattle.walrus_body_laws.proofs as walrus_body_laws
pub use Rattle.walrus_named_bodies.proofs.walrus_file_bodies as walrus_file_bodies
pub use Rattle.walrus_named_bodies.proofs as walrus_named_bodies
