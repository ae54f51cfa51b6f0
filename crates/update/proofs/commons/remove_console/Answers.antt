-- `update::commons::remove_console` meets its contract: the cleared table is that of the room without the console.
use Rattle.update.proofs.MovedStore.{left_store}
use Rattle.update.proofs.commons.remove_console.Goals as goal

pub returns : goal.returns
returns c = rw (c.put_head.ensures, c.clear_commons.ensures)
    (left_store c.args.s.now c.requires.s_value c.args.c.0 c.requires.c_lt_console_count.0 c.requires.c_lt_console_count.1 c.requires.c_value)
