-- `pause::measure::heads_length` meets its contract.
use native.Mathlib.Omega.{arith}
use Prim.Native.Nat.{ℕ}
use mathlib.Core.Path.{refl, ◌∙◌}
use lib.ListN.{length}
use Rattle.std.proofs.Common.{rules}
use Rattle.std.specs.List.{range_with_len}
use Rattle.std.proofs.lemmas.Iterator.{YieldsList-from_range, YieldsList-from_map}
use Rattle.std.proofs.lemmas.Iterator.Consumers.{sum_by_from_yields_List, fits_by_from_yields_list, YieldsList-at}
use Rattle.command.specs.Code.{console_count}
use Rattle.pause.specs.Pieces.{head_piece}
use Rattle.pause.proofs.Piled.{pieces_sum, pieces_short}
use Rattle.pause.proofs.Pieces.{head_pieces_lem, head_piece_short}
use Rattle.pause.proofs.measure.heads_length.Goals as goal

pub returns : goal.returns
returns c =
    let r = c.args.store.now in
    let total = sum_by_from_yields_List (λ (k : ℕ). length (head_piece r k)) (range_with_len 0 console_count) c.map.result c.sum.result c.sum.ensures.ran
    (YieldsList-from_map _ (λ (k : ℕ). length (head_piece r k)) (YieldsList-at c.map.ensures.source (YieldsList-from_range 0 console_count console_count refl refl)) c.map.ensures.closure (λ x r q k. search rules))
    ∙ pieces_sum (head_pieces_lem r) 0 (head_piece r) (λ k. search rules) console_count in
    (total, rw total (pieces_short (head_pieces_lem r) (head_piece_short r) console_count))

pub sum-requires-clause-fits : goal.sum-requires-clause-fits
sum-requires-clause-fits c =
    let r = c.args.store.now in
    let total = pieces_sum (head_pieces_lem r) 0 (head_piece r) (λ k. search rules) console_count in
    let short = pieces_short (head_pieces_lem r) (head_piece_short r) console_count in
    fits_by_from_yields_list (λ (k : ℕ). length (head_piece r k)) (range_with_len 0 console_count) c.map.result _
    (YieldsList-from_map _ (λ (k : ℕ). length (head_piece r k)) (YieldsList-at c.map.ensures.source (YieldsList-from_range 0 console_count console_count refl refl)) c.map.ensures.closure (λ x r q k. search rules))
    (omega arith)
