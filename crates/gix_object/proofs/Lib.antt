pub mod KindLaws
pub mod LooseLaws
pub mod IdLaws
mod PlaceLemmas
mod HeaderLemmas
mod SinkLemmas
mod IdExamples
mod LooseExamples
