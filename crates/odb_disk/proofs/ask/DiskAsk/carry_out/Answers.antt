use Rattle.std.proofs.Common.{◌∙◌, ap, sym}
use Rattle.odb_disk.specs.declared.ask.DiskAsk.TheVariants as asks
use Rattle.odb_disk.proofs.AskLemmas.Carried.{carried_look, carried_read, looked_state, read_state, carried_write, carried_state, asks_make_dir, asks_new_file, asks_append, asks_rename, asks_remove}
use Rattle.odb_disk.proofs.StreamAsksLemmas.{carried_open, carried_next, opened_state, taken_state, closed_state}
use Rattle.odb_disk.proofs.ask.DiskAsk.carry_out.Goals as goal

pub returns-in-Look-clause-answer : goal.returns-in-Look-clause-answer
returns-in-Look-clause-answer g c = λ _. carried_look c.in-Look.is c.look.result c.look_answer.ensures.told (g.D.Disk.state c.args.disk.now) c.look.ensures.answer

pub returns-in-Look-clause-state : goal.returns-in-Look-clause-state
returns-in-Look-clause-state g c = looked_state c.args.self.now (g.D.Disk.state c.args.disk.now) _ c.look.ensures.kept c.look_answer.result c.look.result c.look_answer.ensures.told

pub returns-in-Read-clause-answer : goal.returns-in-Read-clause-answer
returns-in-Read-clause-answer g c = λ _. carried_read c.in-Read.is c.read.result c.read_answer.ensures.told (g.D.Disk.state c.args.disk.now) c.read.ensures.answer

pub returns-in-Read-clause-state : goal.returns-in-Read-clause-state
returns-in-Read-clause-state g c = read_state c.args.self.now (g.D.Disk.state c.args.disk.now) _ c.read.ensures.kept c.read_answer.result c.read.result c.read_answer.ensures.told

pub returns-in-MakeDir-clause-answer : goal.returns-in-MakeDir-clause-answer
returns-in-MakeDir-clause-answer g c =
    λ _. carried_write (asks_make_dir c.in-MakeDir.path) c.in-MakeDir.is c.make_dir.result c.write_answer.ensures.told (g.D.Disk.state c.args.disk.now) c.make_dir.ensures.answer

pub returns-in-MakeDir-clause-state : goal.returns-in-MakeDir-clause-state
returns-in-MakeDir-clause-state g c =
    carried_state (asks_make_dir c.in-MakeDir.path) c.in-MakeDir.is c.make_dir.result c.write_answer.ensures.told (g.D.Disk.state c.args.disk.now) _ c.make_dir.ensures.made c.make_dir.ensures.kept

pub returns-in-NewFile-clause-answer : goal.returns-in-NewFile-clause-answer
returns-in-NewFile-clause-answer g c =
    λ _. carried_write (asks_new_file c.in-NewFile.path) c.in-NewFile.is c.new_file.result c.write_answer-in-NewFile.ensures.told (g.D.Disk.state c.args.disk.now) c.new_file.ensures.answer

pub returns-in-NewFile-clause-state : goal.returns-in-NewFile-clause-state
returns-in-NewFile-clause-state g c =
    carried_state (asks_new_file c.in-NewFile.path) c.in-NewFile.is c.new_file.result c.write_answer-in-NewFile.ensures.told
    (g.D.Disk.state c.args.disk.now) _ c.new_file.ensures.made c.new_file.ensures.kept

pub returns-in-Append-clause-answer : goal.returns-in-Append-clause-answer
returns-in-Append-clause-answer g c =
    let is = c.in-Append.is ∙ ap (asks.Append c.in-Append.path) (sym c.as_slice.ensures.value) in
    λ _. carried_write (asks_append c.in-Append.path c.as_slice.result.now) is c.append.result c.write_answer-in-Append.ensures.told (g.D.Disk.state c.args.disk.now) c.append.ensures.answer

pub returns-in-Append-clause-state : goal.returns-in-Append-clause-state
returns-in-Append-clause-state g c =
    let is = c.in-Append.is ∙ ap (asks.Append c.in-Append.path) (sym c.as_slice.ensures.value) in
    carried_state (asks_append c.in-Append.path c.as_slice.result.now) is c.append.result c.write_answer-in-Append.ensures.told
    (g.D.Disk.state c.args.disk.now) _ c.append.ensures.made c.append.ensures.kept

pub returns-in-Rename-clause-answer : goal.returns-in-Rename-clause-answer
returns-in-Rename-clause-answer g c =
    λ _. carried_write (asks_rename c.in-Rename.from c.in-Rename.to) c.in-Rename.is c.rename.result c.write_answer-in-Rename.ensures.told (g.D.Disk.state c.args.disk.now) c.rename.ensures.answer

pub returns-in-Rename-clause-state : goal.returns-in-Rename-clause-state
returns-in-Rename-clause-state g c =
    carried_state (asks_rename c.in-Rename.from c.in-Rename.to) c.in-Rename.is c.rename.result c.write_answer-in-Rename.ensures.told
    (g.D.Disk.state c.args.disk.now) _ c.rename.ensures.made c.rename.ensures.kept

pub returns-in-Remove-clause-answer : goal.returns-in-Remove-clause-answer
returns-in-Remove-clause-answer g c =
    λ _. carried_write (asks_remove c.in-Remove.path) c.in-Remove.is c.remove.result c.write_answer-in-Remove.ensures.told (g.D.Disk.state c.args.disk.now) c.remove.ensures.answer

pub returns-in-Remove-clause-state : goal.returns-in-Remove-clause-state
returns-in-Remove-clause-state g c =
    carried_state (asks_remove c.in-Remove.path) c.in-Remove.is c.remove.result c.write_answer-in-Remove.ensures.told (g.D.Disk.state c.args.disk.now) _ c.remove.ensures.made c.remove.ensures.kept

pub returns-in-OpenDir-clause-of_streams : goal.returns-in-OpenDir-clause-of_streams
returns-in-OpenDir-clause-of_streams g c =
    carried_open (g.D.Disk.state c.args.disk.now) (g.D.Disk.streams c.args.disk.now) _ c.in-OpenDir.is c.open_dir.result c.dir_answer.ensures.told
    c.open_dir.ensures.answer c.open_dir.ensures.opened c.open_dir.ensures.refused

pub returns-in-OpenDir-clause-state : goal.returns-in-OpenDir-clause-state
returns-in-OpenDir-clause-state g c = opened_state c.args.self.now (g.D.Disk.state c.args.disk.now) _ c.open_dir.ensures.kept c.dir_answer.result c.open_dir.result c.dir_answer.ensures.told

pub returns-in-NextEntry-clause-of_streams : goal.returns-in-NextEntry-clause-of_streams
returns-in-NextEntry-clause-of_streams g c =
    carried_next (g.D.Disk.state c.args.disk.now) (g.D.Disk.streams c.args.disk.now) _ c.in-NextEntry.is c.next_entry.result c.entry_answer.ensures.told c.next_entry.ensures.gives

pub returns-in-NextEntry-clause-state : goal.returns-in-NextEntry-clause-state
returns-in-NextEntry-clause-state g c =
    taken_state c.args.self.now (g.D.Disk.state c.args.disk.now) _ c.next_entry.ensures.kept c.entry_answer.result c.next_entry.result c.entry_answer.ensures.told

pub returns-in-CloseDir-clause-state : goal.returns-in-CloseDir-clause-state
returns-in-CloseDir-clause-state g c = closed_state c.args.self.now (g.D.Disk.state c.args.disk.now) _ c.close_dir.ensures.kept c.in-CloseDir.dir c.in-CloseDir.is
