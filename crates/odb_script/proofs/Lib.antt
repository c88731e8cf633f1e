-- Laws of these lines, for callers.
pub mod LineLemmas
pub mod ChangeLemmas
pub mod OptionLemmas
pub mod ContentLemmas
pub mod ScriptLemmas
pub mod LimitLemmas
pub mod SplitLemmas
pub mod TextLemmas
mod PackLemmas
mod OpeningLemmas
mod PartLemmas
mod ToldLemmas
mod SpelledLemmas
mod ReasonOpeningLemmas
pub mod ToldLaws
pub mod RefusedLaws
pub mod PrintLemmas
