-- Laws that the programs cite.
pub mod SessionLaws
pub mod AddsLaws
mod ReportLemmas
