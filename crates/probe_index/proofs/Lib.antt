mod LinesLemmas
mod ProbeLemmas
mod SessionLemmas
