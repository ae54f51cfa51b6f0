-- `update::new_version::enter` meets its contract.
use Rattle.update.proofs.GrownStore.{entry_in_range_lem, entered_store}
use Rattle.update.proofs.new_version.enter.Goals as goal

pub returns : goal.returns
returns c = let a = c.args in
    entered_store a.s.now c.requires.s_value c.requires.s_bound a.c.0 c.requires.c_lt_console_count.0 c.requires.c_value a.code a.strip.0 a.operand
    (entry_in_range_lem _ _ _ c.requires.code_value.0 c.requires.c_lt_console_count.1 c.requires.code_value.1) _ _ _ _ _
    (rw c.new-store.ensures at c.version_count.ensures.0) (rw c.new-store.ensures at c.head_of-parent.ensures.0) c.append_entry.ensures c.put_word.ensures
    c.put_head.ensures
