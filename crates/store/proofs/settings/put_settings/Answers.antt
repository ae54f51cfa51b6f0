-- `store::settings::put_settings` meets its contract: the fields of the settings, one behind the other.
use mathlib.Core.Path.{refl, ◌∙◌}
use native.Mathlib.Omega.{arith}
use Rattle.buffer.specs.Field.{word}
use Rattle.buffer.proofs.Laid.{laid_one, laid_more}
use Rattle.buffer.proofs.Patches.{word_part}
use Rattle.store.specs.Layout.{capacity_at, hub_at, settings_end, hub_number}
use Rattle.store.proofs.SettingsBytes.{flag_number}
use Rattle.store.proofs.settings.put_settings.Goals as goal

pub returns : goal.returns
returns c = let a = c.args in
    let capacity = laid_one {end = hub_at} (word a.settings.capacity) (omega arith)
    (refl, c.put_word.ensures ∙ word_part a.s.now capacity_at a.settings.capacity (omega arith)) in
    let hub = word_part c.put_word.new.s hub_at (hub_number a.settings.hub) (omega (arith, capacity.kept)) in
    (laid_more {end = settings_end} (word (hub_number a.settings.hub)) capacity (omega arith)
    (refl, c.put_word-2.ensures ∙ rw (c.from.ensures ∙ flag_number a.settings.hub) hub)).put.1
