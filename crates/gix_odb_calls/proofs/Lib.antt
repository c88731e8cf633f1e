mod ReplacementsLemmas
pub mod QueryLaws
