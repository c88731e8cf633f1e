mod LinesLemmas
mod WrittenLemmas
mod VisitLemmas
mod WalksLemmas
mod SessionLemmas
