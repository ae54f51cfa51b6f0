-- `resume::soundness::gives_sound_room` meets its contract: the first test that fails answers, or else the last two.
use native.Mathlib.Omega.{arith}
use mathlib.Core.Path.{◌≡◌, refl, ap, ap₂}
use mathlib.Core.Bool.{true, ◌&&◌}
use borrow.Author.Rules.{rules}
use Rattle.laws.proofs.Logic.{clash}
use Rattle.room.specs.declared.Settings.{Settings}
use Rattle.resume.proofs.HeadsJudged.{rows_inside, behind_told, fields_low, hub_judged}
use Rattle.resume.proofs.RoomJudged.{range_facts, versions_fail, heads_fail, behind_decides}
use Rattle.resume.proofs.soundness.gives_sound_room.Goals as goal

pub returns-then-not-build_rows : goal.returns-then-not-build_rows
returns-then-not-build_rows c = let t = c.args.tape.now in
    let told = rw c.whole-whole.ensures.0 at c.build_rows.ensures in
    (versions_fail t c.whole-whole.ensures.1 c.whole-whole.ensures.2 told.0 (search rules), told.1, λ h. clash h refl)

pub returns-then-not-build_commons : goal.returns-then-not-build_commons
returns-then-not-build_commons c = let t = c.args.tape.now in
    let told = rw c.whole-whole.ensures.0 at c.build_rows.ensures in
    let based : c.build_rows.result ≡ true = search rules in (
      heads_fail t c.whole-whole.ensures.1 c.whole-whole.ensures.2 told.0 based c.build_commons.ensures.0 (search rules),
      told.1,
      λ h. clash h refl,
    )

pub heads_reach_all-requires : goal.heads_reach_all-requires
heads_reach_all-requires c = let t = c.args.tape.now in
    let k = range_facts t c.whole-whole.ensures.1 c.whole-whole.ensures.2 in
    let shown = rw c.whole-whole.ensures.0 at c.build_rows.ensures.1 in
    let ok : c.build_commons.result ≡ true = search rules in
    let header = c.build_commons.new.header in
    record {
      header_size_in_bounds = omega arith;
      by_index = rows_inside t k.rise k.named k.small shown header (omega arith) (c.build_commons.ensures.1 ok);
    }

pub hub_right-requires : goal.hub_right-requires
hub_right-requires c = let t = c.args.tape.now in
    let k = range_facts t c.whole-whole.ensures.1 c.whole-whole.ensures.2 in
    let shown = rw c.whole-whole.ensures.0 at c.build_rows.ensures.1 in
    let ok : c.build_commons.result ≡ true = search rules in
    let header = c.build_commons.new.header in
    let written = c.build_commons.ensures.1 ok in
    let low = fields_low t k.rise k.named k.small shown header (omega arith) written in
    record {
      header_size_in_bounds = omega arith;
      row_size_in_bounds = omega (arith, low 0 0 (omega arith) (omega arith), shown.long);
      by_index = λ a b l m. low a b l (omega arith);
    }

pub returns : goal.returns
returns c = let t = c.args.tape.now in
    let k = range_facts t c.whole-whole.ensures.1 c.whole-whole.ensures.2 in
    let told = rw c.whole-whole.ensures.0 at c.build_rows.ensures in
    let based : c.build_rows.result ≡ true = search rules in
    let ok : c.build_commons.result ≡ true = search rules in
    let written = c.build_commons.ensures.1 ok in
    let header = c.build_commons.new.header in
    let counted = rw c.whole-whole.ensures.0 at c.versions-versions.ensures in
    let behind = behind_told t k.rise k.named k.small told.1 header (omega arith) written (omega arith) c.heads_reach_all.ensures in
    let hub = hub_judged t k.rise k.named k.small told.1 header (omega arith) written (ap (λ (x : Settings). x.hub) (rw c.whole-whole.ensures.0 at c.settings-hub.ensures)) c.hub_right.ensures in
    (behind_decides t c.whole-whole.ensures.1 c.whole-whole.ensures.2 told.0 based c.build_commons.ensures.0 ok (ap₂ ◌&&◌ behind hub), told.1, λ _. written)
