-- Laws of publishing a listing, and lemmas on slots, that other crates may cite; and the lemmas of this crate.
-- Laws of what journals replay to, that other crates may cite; and the lemmas of this crate.
pub mod PublishLaws
pub mod ApartLaws
pub mod KeptFilesLaws
pub mod DisposableLaws
pub mod SlotLemmas
pub mod SettledLemmas
pub mod TakenLemmas
pub mod SlotsAfterLemmas
pub mod SameIndexLemmas
pub mod ApartLemmas
pub mod DistinctLemmas
pub mod FewPacksLemmas
pub mod PassLemmas
mod PacksOfPathLemmas
pub mod StandsLemmas
mod KeptFilesLemmas
mod PublishLemmas
mod IndexKeysLemmas
mod MatchedLemmas
mod PositionLemmas
mod OrderedLemmas
mod SlotTableLemmas
mod TableSearchLemmas
mod TableRowLemmas
mod SlotKeyLemmas
pub mod FilterMapLemmas
mod LoopLemmas
mod CountsLemmas
mod SmallLemmas
pub mod ShapeLaws
pub mod StableLaws
pub mod NumberLaws
pub mod OriginLaws
pub mod PutLaws
pub mod ListingLaws
pub mod ShownLaws
pub mod TodoLaws
pub mod OnceLaws
pub mod OrderLaws
pub mod MissingLaws
pub mod GarbageLaws
pub mod SnapshotLaws
pub mod StableSnapshotLaws
pub mod HandleLaws
pub mod RefusalLaws
mod StableCountLemmas
mod OpenedLemmas
pub mod HandleLemmas
mod ShownLemmas
mod AnswerLemmas
mod EffectLemmas
mod StepLemmas
mod FileStepLemmas
mod SlotTurnLemmas
mod ReplayLemmas
mod TurnLemmas
mod PublishingRule
mod CountableLemmas
mod MetricsLemmas
mod StateLemmas
mod RoomLemmas
mod CoreLemmas
mod OpeningLemmas
mod CauseLemmas
