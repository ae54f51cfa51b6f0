-- `update::open::open` meets its contract.
use Rattle.update.proofs.Opened.{opened}
use Rattle.update.proofs.open.open.Goals as goal

pub returns : goal.returns
returns c = rw c.row_at-row.ensures
    (opened c.args.s.now c.clear.new.dst c.put_settings.new.s c.put_word.new.s c.put_head.new.s
    c.args.settings c.store_size-end.result c.requires.settings_value c.requires.capacity_in_bounds c.store_size-end.ensures
    c.clear.ensures c.put_settings.ensures c.put_word.ensures c.put_head.ensures)
