-- A command that is decoded whole has the paper's bytes, and the paper's bytes of a command in range decode to that command.
-- Assumes nothing.
use Prim.Native.Nat.{ℕ, zero, suc, ◌+◌, ◌≤◌, ◌<◌}
use mathlib.Core.Path.{◌≡◌, refl, sym, ◌∙◌, ap}
use mathlib.Core.Bool.{true, ◌&&◌}
use mathlib.Core.List.{List, [], ◌∷◌, ◌++◌}
use native.Mathlib.Nat.{zero-add}
use native.Mathlib.Omega.{arith}
use lib.ListN.{length, get_or, length-append}
use lib.Seq.{ext_get_or}
use borrow.Author.Tests.{eqb-true, ne_eqb, lt-ltb}
use Rattle.laws.proofs.Logic.{and_l, and_r}
use Rattle.buffer.specs.Field.{word}
use Rattle.buffer.proofs.Fields.{bytes_word}
use Rattle.buffer.proofs.Stands.{Stands}
use Rattle.buffer.proofs.Parts.{Bytes, stands_join, stands_one, word_stands}
use Rattle.refusal.specs.Refusal.{first_refusal}
use Rattle.command.specs.declared.Kind.{Kind}
use Rattle.command.specs.declared.Kind.TheVariants as kind_is
use Rattle.std.specs.Prelude.{Option, Some, None, Result, Ok, Err}
use Rattle.command.specs.declared.Widths.{Widths}
use Rattle.command.specs.declared.Operands.{Operands}
use Rattle.command.specs.declared.Command.{Command}
use Rattle.command.specs.declared.Command.TheVariants.{Fork, Entry, Merge, FastForward, Leave, MakeHub}
use Rattle.command.specs.Code.{console_count, fork_command, merge_command, fast_forward_command, leave_command, make_hub_command, kind_of, kind_refusal, widths, shape_of, shape_refusal, length_of, number_at, operands_of, is_entry_code, is_strip, is_operand}
use Rattle.command.specs.Decode.{code_in, operands_in, two_console_tests, entry_number_tests, leave_number_tests, number_tests, command_of, decode, refusal_of, operand_bytes, command_bytes, decoded_bytes}
use Rattle.command.specs.Decoding.{narrow, TwoConsoles, InRange}
use Rattle.command.proofs.Limits.{each_entry, operand_below}
use Rattle.command.proofs.CodeKinds.{Says, kind_says, kind_entry}
use Rattle.command.proofs.Shapes.{kind_shape, narrow_shape}
use Rattle.command.proofs.Decodes.{passed, decoded}
use Rattle.command.proofs.Ranges.{command_by, whole_told, refused_told}

-- the bytes of a number of a width of at most two, and of all numbers that follow a code
abbrev number_bytes : ℕ → ℕ → List ℕ
number_bytes zero x = []
number_bytes (suc zero) x = x ∷ []
number_bytes (suc (suc n)) x = word x

abbrev shape_bytes : Option Widths → Operands → List ℕ
shape_bytes None o = []
shape_bytes (Some w) o =
    number_bytes w.first o.first ++ (number_bytes w.second o.second ++ (number_bytes w.third o.third ++ number_bytes w.fourth o.fourth))

number_length : (width x : ℕ) → width ≤ 2 → length (number_bytes width x) ≡ width
number_length zero x h = refl
number_length (suc zero) x h = refl
number_length (suc (suc n)) x h = omega arith

-- what is read from bytes stands there
number_stands : (s : List ℕ) (at width : ℕ) → Bytes s → width ≤ 2 → Stands s at (number_bytes width (number_at s at width))
unfolding number_at
number_stands s at zero b h = record { read = λ i p. absurd (omega arith) }
number_stands s at (suc zero) b h = stands_one refl
number_stands s at (suc (suc zero)) b h = word_stands at b
number_stands s at (suc (suc (suc n))) b h = absurd (omega arith)

-- a list as long as its code says is the code and the numbers that are read behind it
spelled : (s : List ℕ) (shape : Option Widths) → Bytes s → narrow shape → shape_refusal 1 shape ≡ 0 → length s ≡ length_of shape
    → code_in s ∷ shape_bytes shape (operands_of shape s) ≡ s
unfolding length_of operands_of
spelled s (Some w) bytes fits known long =
    let a = w.first in
    let b = w.second in
    let c = w.third in
    let d = w.fourth in
    let la = number_length a (number_at s 1 a) fits.0 in
    let lb = number_length b (number_at s (1 + a) b) fits.1 in
    let lc = number_length c (number_at s (1 + a + b) c) fits.2 in
    let ld = number_length d (number_at s (1 + a + b + c) d) fits.3 in
    let fourth = number_stands s (1 + a + b + c) d bytes fits.3 in
    let third = stands_join _ _ (number_stands s (1 + a + b) c bytes fits.2) fourth (omega arith) in
    let second = stands_join _ _ (number_stands s (1 + a) b bytes fits.1) third (omega arith) in
    let first = stands_join _ _ (number_stands s 1 a bytes fits.0) second (omega arith) in
    let h = stands_join (code_in s ∷ []) _ (stands_one refl) first refl in
    ext_get_or 0 _ s (simp length-append (omega arith)) (λ i p. sym (h.read i p) ∙ ap (λ (k : ℕ). get_or s k 0) (zero-add i))
spelled s None bytes fits known long = absurd (omega arith)

-- the paper's bytes of a command are its code and the bytes of the numbers that follow
spells : (k : Option Kind) (code : ℕ) (o : Operands) → Says code k → kind_refusal k ≡ 0 → command_bytes (command_by k code o) ≡ code ∷ shape_bytes (shape_of code) o
unfolding command_bytes operand_bytes shape_of
spells (Some kind_is.Fork) code o e z = rw e
spells (Some kind_is.Entry) code o e z =
    each_entry (λ n. command_bytes (command_of kind_is.Entry n o) ≡ n ∷ shape_bytes (shape_of n) o) refl refl refl refl refl refl refl code e
spells (Some kind_is.Merge) code o e z = rw e
spells (Some kind_is.FastForward) code o e z = rw e
spells (Some kind_is.Leave) code o e z = rw e
spells (Some kind_is.MakeHub) code o e z = rw e
spells None code o e z = absurd (omega arith)

pub decode_bytes : (s : List ℕ) (c : Command) → Bytes s → decode s ≡ Ok c → command_bytes c ≡ s
decode_bytes s c bytes h =
    let w = whole_told s c h in
    let p = passed s w.0 in
    let code = code_in s in
    let says = kind_says code in
    rw (← w.1)
    (spells (kind_of code) code (operands_in s) says p.0
    ∙ spelled s (shape_of code) bytes (narrow_shape code) (kind_shape (kind_of code) code says p.0) p.1)

-- what is decoded, with its bytes where it is not refused
pub decoded_bytes_lem : (s : List ℕ) (d : Result Command ℕ) → Bytes s → d ≡ decode s → (d ≡ decode s) × (refusal_of d ≡ 0 → decoded_bytes d ≡ s)
decoded_bytes_lem s (Ok c) bytes h = (h, λ z. decode_bytes s c bytes (sym h))
decoded_bytes_lem s (Err n) bytes h = (h, λ z. absurd (let given = refused_told s n h in omega arith))

abbrev three_numbers : ℕ → ℕ → ℕ → Operands
three_numbers a b c = record { first = a; second = b; third = c; fourth = 0 }

-- a fork, a merge and a fast-forward pass their tests
pair_passes : (a b : ℕ) → TwoConsoles a b → 0 ≡ first_refusal (two_console_tests (three_numbers a b 0))
unfolding first_refusal
pair_passes a b two = simp (lt-ltb a console_count two.0, lt-ltb b console_count two.1, ne_eqb a b two.2)

pair_decodes : (k : Kind) (code a b : ℕ) → kind_of code ≡ Some k → widths 1 1 0 0 ≡ shape_of code
    → 0 ≡ first_refusal (number_tests k code (three_numbers a b 0))
    → decode (code ∷ a ∷ b ∷ []) ≡ Ok (command_of k code (three_numbers a b 0))
unfolding length_of operands_of number_at
pair_decodes k code a b e shape passes =
    sym (decoded (code ∷ a ∷ b ∷ []) code refl k e _ shape 3 refl refl (three_numbers a b 0) refl 0 passes refl)

-- and so does a leave
leave_passes : (a : ℕ) → (a < console_count) × (0 < a) → 0 ≡ first_refusal (leave_number_tests (three_numbers a 0 0))
unfolding first_refusal
leave_passes a h = simp (lt-ltb a console_count h.0, ne_eqb a 0 (omega arith))

leave_decodes : (a : ℕ) → (a < console_count) × (0 < a) → decode (leave_command ∷ a ∷ []) ≡ Ok (Leave (record { 0 = a }))
unfolding kind_of shape_of length_of operands_of number_at
leave_decodes a h =
    sym
    (decoded (leave_command ∷ a ∷ []) leave_command refl kind_is.Leave refl (widths 1 0 0 0) refl 2 refl refl (three_numbers a 0 0) refl
    0 (leave_passes a h) refl)

-- the command without operands has no tests to pass
hub_decodes : decode (make_hub_command ∷ []) ≡ Ok MakeHub
unfolding kind_of shape_of length_of operands_of number_at first_refusal
hub_decodes =
    sym
    (decoded (make_hub_command ∷ []) make_hub_command refl kind_is.MakeHub refl (widths 0 0 0 0) refl 1 refl refl (three_numbers 0 0 0) refl
    0 refl refl)

-- an entry passes its tests, is as long as its code says, and has its numbers where they are read
module _ (a code b x : ℕ) (h : (a < console_count) × (is_entry_code code && is_strip b && is_operand code x ≡ true)) where
  entry_code : is_entry_code code ≡ true
  entry_code = search (and_l, and_r)

  carried : is_operand code x ≡ true
  carried = search (and_l, and_r)

  entry_passes : 0 ≡ first_refusal (entry_number_tests code (three_numbers a b x))
  unfolding first_refusal
  entry_passes =
      let strip : is_strip b ≡ true = search (and_l, and_r) in
      simp (lt-ltb a console_count h.0, strip, carried)

  entry_long : length (code ∷ a ∷ b ∷ operand_bytes code x) ≡ length_of (shape_of code)
  unfolding operand_bytes length_of shape_of
  entry_long =
      each_entry (λ n. length (n ∷ a ∷ b ∷ operand_bytes n x) ≡ length_of (shape_of n)) refl refl refl refl refl refl refl code entry_code

  entry_reads : three_numbers a b x ≡ operands_of (shape_of code) (code ∷ a ∷ b ∷ operand_bytes code x)
  unfolding operand_bytes operands_of number_at is_operand shape_of
  entry_reads =
      let Word-back = ap (three_numbers a b) (sym (bytes_word x (omega (arith, operand_below code x carried)))) in
      let none : is_operand 6 x ≡ true → three_numbers a b x ≡ three_numbers a b 0 = λ z. ap (three_numbers a b) (eqb-true x 0 z) in
      each_entry (λ n. is_operand n x ≡ true → three_numbers a b x ≡ operands_of (shape_of n) (n ∷ a ∷ b ∷ operand_bytes n x))
      (λ z. Word-back) (λ z. Word-back) (λ z. refl) (λ z. refl) none none none code entry_code carried

  entry_decodes : decode (code ∷ a ∷ b ∷ operand_bytes code x) ≡ Ok (Entry (record { 0 = a }) code (record { 0 = b }) x)
  entry_decodes =
      sym
      (decoded (code ∷ a ∷ b ∷ operand_bytes code x) code refl kind_is.Entry (sym (kind_entry code entry_code))
      (shape_of code) refl _ refl entry_long (three_numbers a b x) entry_reads 0 entry_passes refl)

pub bytes_decode : (c : Command) → InRange c → decode (command_bytes c) ≡ Ok c
unfolding kind_of shape_of command_bytes
bytes_decode (Fork new old) h = pair_decodes kind_is.Fork fork_command new.0 old.0 refl refl (pair_passes new.0 old.0 h)
bytes_decode (Entry console code strip operand) h = entry_decodes console.0 code strip.0 operand h
bytes_decode (Merge receiver giver) h =
    pair_decodes kind_is.Merge merge_command receiver.0 giver.0 refl refl (pair_passes receiver.0 giver.0 h)
bytes_decode (FastForward receiver giver) h =
    pair_decodes kind_is.FastForward fast_forward_command receiver.0 giver.0 refl refl (pair_passes receiver.0 giver.0 h)
bytes_decode (Leave console) h = leave_decodes console.0 h
bytes_decode MakeHub h = hub_decodes
