-- `update::new_version::merge` meets its contract.
use Rattle.update.proofs.GrownStore.{merged_store}
use Rattle.update.proofs.new_version.merge.Goals as goal

pub returns : goal.returns
returns c = let a = c.args in
    merged_store a.s.now c.requires.s_value c.requires.s_bound a.c.0 c.requires.c_lt_console_count.0 c.requires.c_value.0 a.d.0 c.requires.c_lt_console_count.1 c.requires.c_value.1
    c.requires.d_value.1 c.requires.c_value_2.0 c.requires.c_value_2.1 c.requires.d_value.0 _ _ _ _ _ _ _ _ _
    (rw c.new-store.ensures at c.version_count.ensures.0) (rw c.new-store.ensures at c.head_of-receiver.ensures.0)
    (rw c.new-store.ensures at c.head_of-giver.ensures.0) (rw c.new-store.ensures at c.common_of-base.ensures.0) c.append_merge-clashes.ensures c.put_word.ensures
    c.join_commons.ensures c.put_head.ensures
