use Rattle.odb_disk.specs.Ask.{change_of_ask}
use Rattle.odb_mem_disk.proofs.mem_ask.change_of.Goals as goal

pub returns-in-MakeDir : goal.returns-in-MakeDir
unfolding change_of_ask
returns-in-MakeDir c = record { change = rw (c.in-MakeDir.is) (c.told_change.ensures.change _ c.change_of_make_dir.ensures.told) }

pub returns-in-NewFile : goal.returns-in-NewFile
unfolding change_of_ask
returns-in-NewFile c = record { change = rw (c.in-NewFile.is) (c.told_change-in-NewFile.ensures.change _ c.change_of_new_file.ensures.told) }

pub returns-in-Append : goal.returns-in-Append
unfolding change_of_ask
returns-in-Append c = record { change = rw (c.in-Append.is) (c.told_change-in-Append.ensures.change _ c.change_of_append.ensures.told) }

pub returns-in-Rename : goal.returns-in-Rename
unfolding change_of_ask
returns-in-Rename c = record { change = rw (c.in-Rename.is) (c.told_change-in-Rename.ensures.change _ c.change_of_rename.ensures.told) }

pub returns-in-Remove : goal.returns-in-Remove
unfolding change_of_ask
returns-in-Remove c = record { change = rw (c.in-Remove.is) (c.told_change-in-Remove.ensures.change _ c.change_of_remove.ensures.told) }
