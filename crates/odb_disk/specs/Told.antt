-- What a disk answered to a call, as a value.
use Rattle.std.specs.Prelude.{ℕ, List, Option, Some, None, Result, Ok, Err}
use Rattle.odb_disk.specs.declared.meta.Meta.{Meta}
use Rattle.odb_disk.specs.declared.entry.Entry.{Entry}
use Rattle.odb_disk.specs.declared.disk_error.DiskError.{DiskError}
use Rattle.odb_disk.specs.declared.ask.DiskAnswer.{DiskAnswer}
use Rattle.odb_disk.specs.declared.ask.DiskAnswer.TheVariants as answers

abbrev pub told_look : Result Meta DiskError → DiskAnswer
told_look (Ok found) = answers.Meta found
told_look (Err error) = answers.Refused error

abbrev pub told_read : Result (List ℕ × ℕ) DiskError → DiskAnswer
told_read (Ok file) = answers.File file.0 file.1
told_read (Err error) = answers.Refused error

abbrev pub told_open : Result ℕ DiskError → DiskAnswer
told_open (Ok dir) = answers.Dir dir
told_open (Err error) = answers.Refused error

abbrev pub told_next : Result (Option Entry) DiskError → DiskAnswer
told_next (Ok (Some entry)) = answers.Entry entry
told_next (Ok None) = answers.End
told_next (Err error) = answers.Refused error

abbrev pub told_write : Result (Unit {0}) DiskError → DiskAnswer
told_write (Ok x) = answers.Done
told_write (Err error) = answers.Refused error
