-- `tape::writer::put_version_record` meets its contract.
use Rattle.tape.proofs.writer.put_version_record.Goals as goal

pub put_entry_record-requires : goal.put_entry_record-requires
put_entry_record-requires c = rw c.in-Entry.is at c.requires

pub put_merge_record-requires : goal.put_merge_record-requires
put_merge_record-requires c = rw c.in-Merge.is at c.requires

pub returns-in-Entry : goal.returns-in-Entry
returns-in-Entry c = rw c.in-Entry.is c.put_entry_record.ensures

pub returns-in-Merge : goal.returns-in-Merge
returns-in-Merge c = rw c.in-Merge.is c.put_merge_record.ensures
