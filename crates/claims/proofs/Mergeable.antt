-- What the question of which two can merge or fast-forward says is true, whatever is true is said, and the command that it names is accepted.
-- Assumes nothing.
use Prim.Native.Nat.{ℕ, ◌<◌}
use mathlib.Core.Path.{◌≡◌, refl, sym, ◌∙◌, ap, ap₂, subst}
use mathlib.Core.Logic.{inl, inr}
use mathlib.Core.Bool.{Bool, true, false, not, ◌&&◌, ◌||◌, and-false}
use mathlib.Core.List.{List, [], ◌∷◌, ◌++◌}
use native.Mathlib.Omega.{arith}
use native.Mathlib.Decide.{ℕ_discrete}
use borrow.Author.Tests.{eqb-true, ne_eqb, lt-ltb, not-false}
use lib.Dec.{eqb}
use Rattle.laws.proofs.Logic.{decide, refuted, and_l, and_r, and_i, and_rest}
use Rattle.refusal.specs.Refusal.{◌when◌, first_refusal, first_of}
use Rattle.refusal.proofs.Refusals.{none_applies, first_append, first_none}
use Rattle.command.specs.Code.{console_count, merge_command, fast_forward_command, kind_of, shape_of, length_of, operands_of, number_at, is_console}
use Rattle.command.specs.declared.Operands.{Operands}
use Rattle.command.specs.Decode.{two_console_tests, command_refusal}
use Rattle.command.proofs.Ranges.{two_consoles}
use Rattle.room.specs.Room.{Room, present, head}
use Rattle.room.specs.Step.{version_free, merge_tests, fast_forward_tests, state_tests}
use Rattle.room.specs.Mergeable.{Verdict, all_agree, stuck, merge, fast_forward, number_of, can_merge, can_fast_forward, pair_number, first_pair, heads_agree, mergeable}
use Rattle.room.proofs.Sound.{Sound}
use Rattle.room.proofs.Steps.{common_self}
use Rattle.room.proofs.Mergeable.{eighteen_last, one_kind_lem, merge_number, forward_number, neither_number, same_number, numbered_by, no_pair_lem, none_paired, pair_first, pair_found, pair_answered, none_answered, agree_heads, heads_agree_lem, other_head, agree_none}
use Rattle.store.specs.Layout.{room_in, holds_store}
use Rattle.store.proofs.Whole.{whole_sound}
use Rattle.unit.specs.declared.Reply.{Reply}
use Rattle.unit.specs.Calls.{replied, holds_no_store, common_reply, mergeable_reply}
use Rattle.claims.specs.Mergeable.{answer_for, merges_if_free, fast_forwards, Neither, NeitherBefore, head_reply, OneHead, Stuck, IsTrue, NamesConsoles, IsAccepted, Says, MergeableTold}
use Rattle.unit.proofs.Answered.{pair_allowed, pair_answered as common-answered}
use Rattle.unit.proofs.Commanded.{answered_by}

-- The tests of both commands before those of the room.
abbrev consoles : ℕ → ℕ → Operands
consoles c d = record { first = c; second = d; third = 0; fourth = 0 }

abbrev asked_tests : List ℕ → ℕ → ℕ → List (ℕ × Bool)
asked_tests store c d = two_console_tests (consoles c d) ++ (11 when holds_no_store store ∷ [])

abbrev asked : List ℕ → ℕ → ℕ → Bool
asked store c d = eqb (first_refusal (asked_tests store c d)) 0

-- what it says that they refuse nothing
record Asked (store : List ℕ) (c d : ℕ) : Type 0 where
  receiver : c < console_count
  giver : d < console_count
  two : c ≡ d → ⊥
  held : holds_store store ≡ true

-- nothing refuses the one and then the other; the same of a merge but for 18, which none of the first tests gives
none_of_two : (x y : ℕ) → eqb (first_of x y) 0 ≡ eqb x 0 && eqb y 0
none_of_two x y = elim (decide (eqb x 0)) [ inl t ↦ rw t | inr f ↦ rw f f ]

none_but_18 : (three six eleven : Bool) (y : ℕ) → let x : ℕ = first_refusal (3 when three ∷ 6 when six ∷ 11 when eleven ∷ []) in
    eqb (first_of x y) 0 || eqb (first_of x y) 18 ≡ eqb x 0 && (eqb y 0 || eqb y 18)
unfolding first_refusal
none_but_18 true six eleven y = refl
none_but_18 false true eleven y = refl
none_but_18 false false true y = refl
none_but_18 false false false y = refl

module _ (store : List ℕ) (c d : ℕ) where
  abbrev room : Room
  room = room_in store

  asked_facts : asked store c d ≡ true → Asked store c d
  asked_facts h =
      let none = first_none _ _ (sym (first_append (two_console_tests (consoles c d)) (11 when holds_no_store store ∷ []) refl) ∙ eqb-true _ 0 h) in
      let two = two_consoles (consoles c d) none.0 in
      record { receiver = two.0; giver = two.1; two = two.2; held = not-false _ (none_applies _ refl none.1).0 }

  facts_asked : Asked store c d → asked store c d ≡ true
  unfolding first_refusal
  facts_asked a = rw (lt-ltb c console_count a.receiver, lt-ltb d console_count a.giver, ne_eqb c d a.two, a.held)

  -- the answers of both commands, and what they say of the room
  grouped : (tests : List (ℕ × Bool))
      → first_of (first_refusal (two_console_tests (consoles c d))) (first_refusal (11 when holds_no_store store ∷ tests))
      ≡ first_of (first_refusal (asked_tests store c d)) (first_refusal tests)
  grouped tests =
      sym (first_append (two_console_tests (consoles c d)) (11 when holds_no_store store ∷ tests) refl) ∙ first_append (asked_tests store c d) tests refl

  merge_answer : answer_for store merge_command c d ≡ first_of (first_refusal (asked_tests store c d)) (first_refusal (merge_tests room (version_free room) c d))
  unfolding command_refusal kind_of shape_of length_of operands_of number_at state_tests first_refusal
  merge_answer = answered_by store (merge_command ∷ c ∷ d ∷ []) ∙ grouped (merge_tests room (version_free room) c d)

  forward_answer : answer_for store fast_forward_command c d ≡ first_of (first_refusal (asked_tests store c d)) (first_refusal (fast_forward_tests room c d))
  unfolding command_refusal kind_of shape_of length_of operands_of number_at state_tests first_refusal
  forward_answer = answered_by store (fast_forward_command ∷ c ∷ d ∷ []) ∙ grouped (fast_forward_tests room c d)

  merges_is : merges_if_free store c d ≡ asked store c d && can_merge room c d
  merges_is =
      rw merge_answer
      (none_but_18 (not (is_console c) || not (is_console d)) (eqb c d) (holds_no_store store) (first_refusal (merge_tests room (version_free room) c d))
      ∙ ap (λ (b : Bool). asked store c d && b) (eighteen_last room c d (version_free room)))

  forwards_is : fast_forwards store c d ≡ asked store c d && can_fast_forward room c d
  unfolding state_tests
  forwards_is = rw forward_answer (none_of_two (first_refusal (asked_tests store c d)) (first_refusal (fast_forward_tests room c d)))

  -- what both say where they are true
  both_asked : {t b : Bool} → t ≡ asked store c d && b → t ≡ true → Asked store c d × (b ≡ true)
  both_asked {t} {b} e h = let both = sym e ∙ h in (asked_facts (and_l _ _ both), and_r (asked store c d) b both)

  refused_not : {t b : Bool} → t ≡ asked store c d && b → (Asked store c d → b ≡ true → ⊥) → t ≡ false
  refused_not e never = refuted _ (λ t. let both = both_asked e t in never both.0 both.1)

  -- a merge that would be accepted is, where a version is free
  merge_free : asked store c d ≡ true → can_merge room c d ≡ true → version_free room ≡ true → answer_for store merge_command c d ≡ 0
  unfolding state_tests
  merge_free ask can free = rw (merge_answer, eqb-true (first_refusal (asked_tests store c d)) 0 ask, free) (eqb-true _ 0 can)

  -- a pair of two consoles has a number exactly where one of the two would be accepted
  numbered_not : c < console_count → d < console_count → holds_store store ≡ true → Neither store c d → pair_number room c d ≡ 0
  numbered_not l m held neither =
      elim (ℕ_discrete c d) [
        | yes e ↦ same_number room c d e
        | no two ↦
            let ask = facts_asked (record { receiver = l; giver = m; two = two; held = held }) in
            neither_number room c d (and_rest _ _ ask (sym merges_is ∙ neither.0)) (and_rest _ _ ask (sym forwards_is ∙ neither.1))
      ]

  not_numbered : (c < console_count → d < console_count → holds_store store ≡ true → pair_number room c d ≡ 0) → Neither store c d
  not_numbered none =
      let zero : Asked store c d → pair_number room c d ≡ 0 = λ a. none a.receiver a.giver a.held in (
        refused_not merges_is (λ a t. absurd (omega (arith, zero a, merge_number room c d a.two t))),
        refused_not forwards_is (λ a t. absurd (omega (arith, zero a, forward_number room c d a.two t))),
      )

-- bytes that hold a store
module _ (store : List ℕ) (held : holds_store store ≡ true) where
  abbrev r : Room
  r = room_in store

  s : Sound r
  s = whole_sound store held

  pub told : mergeable_reply store ≡ replied 0 (mergeable (room_in store))
  unfolding mergeable_reply first_refusal
  told = rw held

  head_told : (c : ℕ) → c < console_count → present (room_in store) c ≡ true → head_reply store c ≡ replied 0 (head (room_in store) c)
  head_told c l p = common-answered store c c (record { first = l; second = l; held = held; here = p; there = p }) ∙ ap (replied 0) (common_self r s c p)

  -- every head is one version
  pub one_head_lem : heads_agree (room_in store) ≡ true → OneHead store
  unfolding common_reply
  one_head_lem agree = record {
    sound = held;
    same = λ c d here there.
        let a = pair_allowed store c c refl here in
        let b = pair_allowed store d d refl there in
        head_told c a.first a.here
        ∙ ap (replied 0) (agree_heads r agree c a.first a.here ∙ sym (agree_heads r agree d b.first b.here))
        ∙ sym (head_told d b.first b.here);
  }

  one_agrees : OneHead store → heads_agree r ≡ true
  one_agrees one =
      heads_agree_lem r (λ c l p.
      let own = head_told c l p in
      let first = head_told 0 (omega arith) s.first in
      ap (λ (x : Reply). x.count) (sym own ∙ one.same c 0 (ap (λ (x : Reply). x.answer) own) (ap (λ (x : Reply). x.answer) first) ∙ first))

  stuck_room : first_pair r ≡ 0 → heads_agree r ≡ false → Stuck store
  stuck_room none differ =
      let found = other_head r differ in
      let own = head_told found.0 found.1 found.2 in
      let first = head_told 0 (omega arith) s.first in
      record {
        no_pair = λ c d. not_numbered store c d (λ l m h. none_paired r none c d l m);
        one = found.0;
        other = 0;
        one_is_here = ap (λ (x : Reply). x.answer) own;
        other_is_here = ap (λ (x : Reply). x.answer) first;
        two_heads = λ same. found.3 (ap (λ (x : Reply). x.count) (sym own ∙ same ∙ first));
      }

  -- what is true, and its number
  abbrev Verdicted : Type 0
  Verdicted = (v : Verdict) × NamesConsoles v × IsTrue store v × (mergeable r ≡ number_of v)

  no_pair_verdict : first_pair r ≡ 0 → Verdicted
  no_pair_verdict none =
      elim (decide (heads_agree r)) [
        | inl t ↦ (all_agree, tt, one_head_lem t, none_answered r none t)
        | inr f ↦ (stuck, tt, stuck_room none f, none_answered r none f)
      ]

  pair_verdict : (first_pair r ≡ 0 → ⊥) → Verdicted
  pair_verdict given =
      let pair = pair_found r given in
      let c = pair.receiver in
      let d = pair.giver in
      let by = numbered_by r c d (λ z. given (pair.numbered ∙ z)) in
      let ask = facts_asked store c d (record { receiver = pair.receiver_console; giver = pair.giver_console; two = by.0; held = held }) in
      let number = pair_answered r given ∙ pair.numbered in
      let first : NeitherBefore store c d = λ e f before. not_numbered store e f (λ l m h. pair.first e f l m before) in
      elim by.1 [
        | inl can ↦ (
          merge c d,
          (pair.receiver_console, pair.giver_console),
          record { accepted = merges_is store c d ∙ and_i _ _ ask can; first = first },
          number ∙ merge_number r c d by.0 can,
        )
        | inr can ↦ (
          fast_forward c d,
          (pair.receiver_console, pair.giver_console),
          record { accepted = forwards_is store c d ∙ and_i _ _ ask can; first = first },
          number ∙ forward_number r c d by.0 can,
        )
      ]

  verdict : Verdicted
  verdict = elim (ℕ_discrete (first_pair r) 0) [ yes none ↦ no_pair_verdict none | no given ↦ pair_verdict given ]

  -- whatever is true is said
  pub agree_said : heads_agree (room_in store) ≡ true → mergeable (room_in store) ≡ number_of all_agree
  agree_said agree = none_answered r (agree_none r s agree) agree

  stuck_said : Stuck store → mergeable r ≡ number_of stuck
  stuck_said here =
      let none = no_pair_lem r (λ c d l m. numbered_not store c d l m held (here.no_pair c d)) in
      let differ = refuted (heads_agree r) (λ t. here.two_heads ((one_head_lem t).same here.one here.other here.one_is_here here.other_is_here)) in
      none_answered r none differ

-- and so is a pair
module _ (store : List ℕ) (c d : ℕ) where
  pair_said : Asked store c d → {n : ℕ} → pair_number (room_in store) c d ≡ n → 0 < n → NeitherBefore store c d
      → (holds_store store ≡ true) × ((c < console_count) × (d < console_count)) × (mergeable (room_in store) ≡ n)
  pair_said a e given first =
      let is_first = pair_first (room_in store) c d a.receiver a.giver (omega arith) (λ e f l m before. numbered_not store e f l m a.held (first e f before)) in
      (a.held, (a.receiver, a.giver), pair_answered (room_in store) (omega arith) ∙ is_first ∙ e)

-- verdicts that name consoles are told apart by their numbers
same_verdict : (v w : Verdict) → NamesConsoles v → NamesConsoles w → number_of v ≡ number_of w → v ≡ w
same_verdict all_agree all_agree p q e = refl
same_verdict all_agree stuck p q e = absurd (omega arith)
same_verdict all_agree (merge c d) p q e = absurd (omega arith)
same_verdict all_agree (fast_forward c d) p q e = absurd (omega arith)
same_verdict stuck all_agree p q e = absurd (omega arith)
same_verdict stuck stuck p q e = refl
same_verdict stuck (merge c d) p q e = absurd (omega arith)
same_verdict stuck (fast_forward c d) p q e = absurd (omega arith)
same_verdict (merge a b) all_agree p q e = absurd (omega arith)
same_verdict (merge a b) stuck p q e = absurd (omega arith)
same_verdict (merge a b) (merge c d) p q e = ap₂ merge (omega arith) (omega arith)
same_verdict (merge a b) (fast_forward c d) p q e = absurd (omega arith)
same_verdict (fast_forward a b) all_agree p q e = absurd (omega arith)
same_verdict (fast_forward a b) stuck p q e = absurd (omega arith)
same_verdict (fast_forward a b) (merge c d) p q e = absurd (omega arith)
same_verdict (fast_forward a b) (fast_forward c d) p q e = ap₂ fast_forward (omega arith) (omega arith)

module _ (store : List ℕ) where
  -- the bytes of a true verdict hold a store, it names consoles, and its number is the room's
  abbrev Numbered : Verdict → Type 0
  Numbered v = (holds_store store ≡ true) × NamesConsoles v × (mergeable (room_in store) ≡ number_of v)

  number_said : (v : Verdict) → IsTrue store v → Numbered v
  unfolding common_reply
  number_said all_agree one = (one.sound, tt, agree_said store one.sound (one_agrees store one.sound one))
  number_said stuck here = let held = (pair_allowed store here.one here.one refl here.one_is_here).held in (held, tt, stuck_said store held here)
  number_said (merge c d) pair =
      let m = both_asked store c d (merges_is store c d) pair.accepted in
      pair_said store c d m.0 (merge_number (room_in store) c d m.0.two m.1) (omega arith) pair.first
  number_said (fast_forward c d) pair =
      let m = both_asked store c d (forwards_is store c d) pair.accepted in
      pair_said store c d m.0 (forward_number (room_in store) c d m.0.two m.1) (omega arith) pair.first

  said : (v : Verdict) → IsTrue store v → Says store v
  said v t = let n = number_said v t in told store n.0 ∙ ap (replied 0) n.2

  refused : holds_store store ≡ false → mergeable_reply store ≡ replied 11 0
  unfolding mergeable_reply first_refusal
  refused f = rw f

  only_true_lem : (v : Verdict) → NamesConsoles v → Says store v → IsTrue store v
  only_true_lem v names says =
      elim (decide (holds_store store)) [
        | inl held ↦
            let w = verdict store held in
            let same = ap (λ (x : Reply). x.count) (sym (told store held) ∙ says) in
            subst (IsTrue store) (same_verdict w.0 v w.1 names (sym w.3 ∙ same)) w.2
        | inr f ↦ let n : ◌≡◌ {A = ℕ} 11 0 = ap (λ (x : Reply). x.answer) (sym (refused f) ∙ says) in absurd (omega arith)
      ]

  accepted : (v : Verdict) → IsTrue store v → IsAccepted store v
  accepted all_agree t = tt
  accepted stuck t = tt
  accepted (merge c d) t = λ free. let m = both_asked store c d (merges_is store c d) t.accepted in merge_free store c d (facts_asked store c d m.0) m.1 free
  accepted (fast_forward c d) t = eqb-true _ 0 t.accepted

  pub mergeable_told : MergeableTold store
  mergeable_told = record {
    said = said;
    only_true = only_true_lem;
    always = λ held. let w = verdict store held in (w.0, w.1, w.2);
    only_one = λ v w t u.
        let m = number_said v t in
        let n = number_said w u in
        same_verdict v w m.1 n.1 (sym m.2 ∙ n.2);
    refused = refused;
    one_kind = λ c d t.
        let m = both_asked store c d (merges_is store c d) t in
        forwards_is store c d ∙ rw (one_kind_lem (room_in store) c d m.1) (and-false (asked store c d));
    accepted = λ v names says. accepted v (only_true_lem v names says);
  }
