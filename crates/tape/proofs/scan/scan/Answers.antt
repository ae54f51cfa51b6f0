-- `tape::scan::scan` meets its contract.
use mathlib.Core.Path.{◌≡◌, refl}
use native.Mathlib.Omega.{arith}
use borrow.Author.Rules.{rules}
use Rattle.std.specs.Prelude.{Some, None}
use Rattle.room.specs.declared.Settings.{Settings}
use Rattle.tape.specs.declared.Record.TheVariants.{Start}
use Rattle.tape.specs.Record.{record_in}
use Rattle.tape.specs.Tape.{content_of}
use Rattle.tape.specs.Reader.{counted_of}
use Rattle.tape.proofs.Scans.{start_without_hub, scan_started, scan_unstarted, counted_none, counted_some}
use Rattle.tape.proofs.scan.scan.Goals as goal

pub returns-in_default : goal.returns-in_default
returns-in_default c =
    let no_start : (s : Settings) → record_in c.args.tape.now ≡ Some (Start s) → ⊥ = λ s e. search rules in
    rw (scan_unstarted c.args.tape.now no_start) (refl, refl)

pub scan_on-requires : goal.scan_on-requires
scan_on-requires c =
    let start : record_in c.args.tape.now ≡ Some (Start c.in-Some-Start.settings) = search rules in
    (omega arith, start_without_hub c.args.tape.now (λ k. (omega (arith, c.type_inv.tape k))) start)

pub returns-in_err-counts : goal.returns-in_err-counts
returns-in_err-counts c =
    let start : record_in c.args.tape.now ≡ Some (Start c.in-Some-Start.settings) = search rules in
    let same = scan_started c.args.tape.now start c.read_at-first.ensures.1 in
    let counted : counted_of (content_of c.args.tape.now) ≡ None = search rules in
    rw (counted_none _ counted) (search rules)

pub invariant_of-result : goal.invariant_of-result
invariant_of-result c =
    let start : record_in c.args.tape.now ≡ Some (Start c.in-Some-Start.settings) = search rules in
    let same = scan_started c.args.tape.now start c.read_at-first.ensures.1 in
    let counted : counted_of (content_of c.args.tape.now) ≡ Some c.in_ok-counts.counts = search rules in
    counted_some _ counted

pub returns : goal.returns
returns c =
    let start : record_in c.args.tape.now ≡ Some (Start c.in-Some-Start.settings) = search rules in
    let same = scan_started c.args.tape.now start c.read_at-first.ensures.1 in
    let counted : counted_of (content_of c.args.tape.now) ≡ Some c.in_ok-counts.counts = search rules in
    rw (counted_some _ counted).0 (refl, refl)
