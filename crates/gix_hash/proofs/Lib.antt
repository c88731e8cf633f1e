pub mod ObjectIdLemmas
pub mod IdOrderLaws
pub mod PrefixLaws
pub mod HashLemmas
pub mod HexDigitLaws
pub mod StepsLaws
mod CallLemmas
mod PrefixLemmas
