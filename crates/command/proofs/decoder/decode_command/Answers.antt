-- `command::decoder::decode_command` meets its contract.
use mathlib.Core.Path.{◌≡◌, refl, ap, ◌∙◌}
use native.Mathlib.Omega.{arith}
use borrow.Author.Rules.{rules}
use Rattle.std.specs.Prelude.{Ok, Err}
use Rattle.refusal.specs.declared.Refusal.TheVariants.{NoCommand, WrongLength}
use Rattle.refusal.proofs.Numbers.{number_given}
use Rattle.command.proofs.Decodes.{refused_empty, refused_code, refused_length, refused_numbers, decoded}
use Rattle.command.proofs.Encoded.{decoded_bytes_lem}
use Rattle.command.proofs.decoder.decode_command.Goals as goal

pub returns-in_err-refuse_if : goal.returns-in_err-refuse_if
returns-in_err-refuse_if c =
    let e : c.from_residual.result ≡ Err NoCommand = search rules in
    decoded_bytes_lem _ _ (λ k. (omega (arith, c.type_inv.s k))) (rw e (refused_empty _ (search rules)))

pub returns-in_err-kind : goal.returns-in_err-kind
returns-in_err-kind c =
    let e : c.from_residual-in_err-kind.result ≡ Err NoCommand = search rules in
    decoded_bytes_lem _ _ (λ k. (omega (arith, c.type_inv.s k))) (rw e (refused_code _ c.from-code.result (search rules) (search rules)))

pub returns-in_err-refuse_if-2 : goal.returns-in_err-refuse_if-2
returns-in_err-refuse_if-2 c =
    let e : c.from_residual-in_err-refuse_if-2.result ≡ Err WrongLength = search rules in
    decoded_bytes_lem _ _ (λ k. (omega (arith, c.type_inv.s k)))
    (rw e (refused_length _ c.from-code.result (search rules) c.in_ok-kind.kind (search rules) _ c.widths_of-shape.ensures.0 _ c.length_of.ensures (search rules)))

pub returns-in_err-numbers_refused : goal.returns-in_err-numbers_refused
returns-in_err-numbers_refused c =
    let r = c.in_err-numbers_refused.field-0.0 in
    let e : c.from_residual-in_err-numbers_refused.result ≡ Err r = search rules in
    decoded_bytes_lem _ _ (λ k. (omega (arith, c.type_inv.s k)))
    (rw e (refused_numbers _ c.from-code.result (search rules) c.in_ok-kind.kind (search rules) _ c.widths_of-shape.ensures.0 _ c.length_of.ensures (search rules)
    _ c.operands_of-o.ensures _ (search rules) (omega (arith, number_given r))))

pub returns : goal.returns
returns c =
    decoded_bytes_lem _ _ (λ k. (omega (arith, c.type_inv.s k)))
    (ap Ok c.command_from.ensures
    ∙ decoded _ c.from-code.result (search rules) c.in_ok-kind.kind (search rules) _ c.widths_of-shape.ensures.0 _ c.length_of.ensures (search rules)
    _ c.operands_of-o.ensures 0 (search rules) refl)
