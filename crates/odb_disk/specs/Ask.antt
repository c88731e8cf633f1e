-- The calls of a disk as values: what a tree answers to them, and what a disk in memory does.
pub mod Answer
pub mod InMemory
unfoldable pub use Rattle.odb_disk.specs.Ask.Answer.{
  error_of,
  error_of_write,
  meta_answer,
  file_answer,
  write_answer,
  dir_answer,
  entry_answer,
  answer_of,
  change_of_ask,
  op_of,
  path_asked,
  AnswersAsk,
  ran_out,
  state_after,
  state_told_after,
}
unfoldable pub use Rattle.odb_disk.specs.Ask.InMemory.{answer_in, is_counted, fails_now, answer_now, after_count, streams_left, after_ask, TakesLeast}
pub use Rattle.odb_disk.specs.Ask.InMemory.{IsCounted}
