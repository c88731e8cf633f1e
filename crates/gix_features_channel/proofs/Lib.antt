pub mod EndsLemmas
pub mod PipeLemmas
pub mod PipeLaws
pub mod MessagesLemmas
mod EagerLemmas
mod SendLemmas
