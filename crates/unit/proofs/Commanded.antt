-- What the call of a command answers: by its bytes, or else by the store, and where it is carried out; and what it writes, from the refusal
-- that is found.
-- Assumes nothing.
use Prim.Native.Nat.{ℕ, ◌<◌}
use mathlib.Core.Path.{◌≡◌, refl, sym, ◌∙◌, ap, subst}
use mathlib.Core.Bool.{Bool, true, false, cond}
use mathlib.Core.List.{List, []}
use native.Mathlib.Omega.{arith}
use borrow.Author.Tests.{not-false}
use lib.Dec.{eqb}
use Rattle.buffer.specs.Field.{overwrite}
use Rattle.refusal.specs.Refusal.{first_refusal, first_of}
use Rattle.refusal.proofs.Refusals.{none_given}
use Rattle.command.specs.declared.Command.{Command}
use Rattle.std.specs.Prelude.{Result, Ok, Err}
use Rattle.command.specs.Decode.{command_refusal, decode, refusal_of, command_bytes}
use Rattle.command.specs.Decoding.{InRange}
use Rattle.command.proofs.Ranges.{command_in, decode_told, whole_told, refused_told, decode_range}
use Rattle.command.proofs.Encoded.{bytes_decode}
use Rattle.room.specs.Step.{version_free, state_tests, step_refusal, step, clash_count}
use Rattle.store.specs.Layout.{encode, room_in, holds_store}
use Rattle.unit.specs.declared.Reply.{Reply}
use Rattle.unit.specs.Calls.{replied, written, command_tests, step_outcome, command_outcome}
use Rattle.unit.proofs.Answered.{Went, written_refused, written_done}

-- the number of what was decoded, where that is a refusal
pub refused_as : (s : List ℕ) (d : Result Command ℕ) (m n : ℕ) → d ≡ decode s → d ≡ Err m → n ≡ refusal_of d → Err n ≡ decode s
refused_as s d m n found told number = ap Err (number ∙ ap refusal_of told) ∙ sym told ∙ found

-- bytes that hold a store are refused by its room alone
pub held_refused : (store : List ℕ) (c : Command) → holds_store store ≡ true → first_refusal (command_tests store c) ≡ step_refusal (room_in store) c
unfolding first_refusal step_refusal
held_refused store c h = rw h

-- whatever its bytes, a command is answered by them, or else by the store
pub answered_by : (store s : List ℕ)
    → (command_outcome store s).reply.answer ≡ first_of (command_refusal s) (first_refusal (command_tests store (command_in s)))
unfolding command_outcome step_outcome
answered_by store s = rw (decode_told s) (go (eqb (command_refusal s) 0))
  where
    go : (b : Bool)
        → (step_outcome store (cond b (Ok (command_in s)) (Err (command_refusal s)))).reply.answer
        ≡ cond b (first_refusal (command_tests store (command_in s))) (command_refusal s)
    go true = refl
    go false = refl

-- a command in range on bytes that hold a store, which its room does not refuse
pub carried_out : (store : List ℕ) (c : Command) → InRange c → holds_store store ≡ true → step_refusal (room_in store) c ≡ 0
    → command_outcome store (command_bytes c) ≡ written 0 (clash_count (room_in store) c) (encode (step (room_in store) c)) store
unfolding command_outcome step_outcome
carried_out store c range held unrefused = rw (bytes_decode c range, held_refused store c held, unrefused)

-- and only such a one is answered with 0: with c the command that the bytes say by their code and numbers
pub record Carried (store : List ℕ) (c : Command) : Type 0 where
  pub range : InRange c
  pub held : holds_store store ≡ true
  pub unrefused : step_refusal (room_in store) c ≡ 0

pub carried : (store bytes : List ℕ) (c : Command) → command_in bytes ≡ c → (command_outcome store bytes).reply.answer ≡ 0 → Carried store c
unfolding command_outcome step_outcome state_tests
carried store bytes c says h = subst (Carried store) says (go (decode bytes) refl h)
  where
    go : (d : Result Command ℕ) → decode bytes ≡ d → (step_outcome store d).reply.answer ≡ 0 → Carried store (command_in bytes)
    go (Err n) e h = absurd (omega (arith, refused_told bytes n (sym e)))
    go (Ok k) e h =
        let held = not-false _ (none_given 11 _ _ (omega arith) h).0 in
        subst (Carried store) (sym (whole_told bytes k e).1)
        (record { range = decode_range bytes k e; held = held; unrefused = sym (held_refused store k held) ∙ h })

-- the refusal found in the state of the room, or none
module _ (store : List ℕ) (c : Command) (held : holds_store store ≡ true) {free : Bool} {n : ℕ} (f : free ≡ version_free (room_in store))
    (found : n ≡ first_refusal (state_tests (room_in store) free c)) where
  pub is_step_refusal : n ≡ step_refusal (room_in store) c
  unfolding step_refusal
  is_step_refusal = rw f at found

  is_first : n ≡ first_refusal (command_tests store c)
  is_first = is_step_refusal ∙ sym (held_refused store c held)

  pub turned_down : 0 < n → Went (replied n 0) store (step_outcome store (Ok c))
  unfolding step_outcome
  turned_down p = written_refused (clash_count (room_in store) c) (encode (step (room_in store) c)) store is_first p

  pub stepped : n ≡ 0 → {clashes : ℕ} {t : List ℕ} → (t ≡ overwrite (encode (step (room_in store) c)) store) × (clashes ≡ clash_count (room_in store) c)
      → Went (replied 0 clashes) t (step_outcome store (Ok c))
  unfolding step_outcome
  stepped none done = written_done (clash_count (room_in store) c) (encode (step (room_in store) c)) store is_first none done.1 done.0

module _ (store command : List ℕ) where
  pub undecoded : (n : ℕ) → Err n ≡ decode command → Went (replied n 0) store (command_outcome store command)
  unfolding command_outcome step_outcome
  undecoded n h = rw (← h) (written_refused 0 [] store refl (refused_told command n h))

  module _ (c : Command) (e : Ok c ≡ decode command) where
    pub nothing_held : holds_store store ≡ false → Went (replied 11 0) store (command_outcome store command)
    unfolding command_outcome step_outcome first_refusal
    nothing_held h = rw (← e, h) (refl, refl)

    pub executed : (r : Reply) (t : List ℕ) → Went r t (step_outcome store (Ok c)) → Went r t (command_outcome store command)
    unfolding command_outcome
    executed r t went = rw (← e) went
