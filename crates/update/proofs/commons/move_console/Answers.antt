-- `update::commons::move_console` meets its contract: the fields joined and the head written are the room after the move.
use Rattle.update.proofs.MovedStore.{moved_store}
use Rattle.update.proofs.commons.move_console.Goals as goal

pub returns : goal.returns
returns c = let a = c.args in
    rw (c.put_head.ensures, c.join_commons.ensures, c.common_in-head.ensures.0)
    (moved_store a.s.now c.requires.s_value a.c.0 a.d.0 c.requires.c_lt_console_count.0 c.requires.c_lt_console_count.1 (record { target = c.requires.d_value; ahead = c.requires.d_value_2; through = c.requires.d_value_3 }))
