-- `pause::measure::versions_length` meets its contract.
use native.Mathlib.Omega.{arith}
use Prim.Native.Nat.{ℕ, ◌+◌}
use mathlib.Core.Path.{◌≡◌, refl, ◌∙◌, ap}
use lib.ListN.{length}
use Rattle.std.proofs.Common.{rules}
use Rattle.std.specs.List.{range_with_len}
use Rattle.std.proofs.lemmas.Iterator.{YieldsList-from_range, YieldsList-from_map}
use Rattle.std.proofs.lemmas.Iterator.Consumers.{sum_by_from_yields_List, fits_by_from_yields_list, YieldsList-at}
use Rattle.pause.specs.Pieces.{version_piece}
use Rattle.pause.proofs.Piled.{pieces_sum, pieces_short}
use Rattle.pause.proofs.Pieces.{version_pieces_lem, version_short}
use Rattle.pause.proofs.measure.versions_length.Goals as goal

pub returns : goal.returns
returns c =
    let s = c.args.s.now in
    let n = c.args.n in
    let total = sum_by_from_yields_List (λ (k : ℕ). length (version_piece s k)) (range_with_len 1 n) c.map.result c.sum.result c.sum.ensures.ran
    (YieldsList-from_map _ (λ (k : ℕ). length (version_piece s k)) (YieldsList-at c.map.ensures.source (YieldsList-from_range 1 (n + 1) n refl (omega arith))) c.map.ensures.closure (λ x r q k. search rules))
    ∙ pieces_sum (version_pieces_lem s) 1 (version_piece s) (λ k. let e : 1 + k ≡ k + 1 = omega arith in ap (version_piece s) e) n in
    (total, rw total (pieces_short (version_pieces_lem s) (λ k. version_short _) n))

pub sum-requires-clause-fits : goal.sum-requires-clause-fits
sum-requires-clause-fits c =
    let s = c.args.s.now in
    let n = c.args.n in
    let total = pieces_sum (version_pieces_lem s) 1 (version_piece s) (λ k. let e : 1 + k ≡ k + 1 = omega arith in ap (version_piece s) e) n in
    let short = pieces_short (version_pieces_lem s) (λ k. version_short _) n in
    fits_by_from_yields_list (λ (k : ℕ). length (version_piece s k)) (range_with_len 1 n) c.map.result _
    (YieldsList-from_map _ (λ (k : ℕ). length (version_piece s k)) (YieldsList-at c.map.ensures.source (YieldsList-from_range 1 (n + 1) n refl (omega arith))) c.map.ensures.closure (λ x r q k. search rules))
    (omega arith)
