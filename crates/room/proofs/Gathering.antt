-- "With n consoles and n − 1 versions free, at most 2(n − 1) accepted commands bring all to one head: 0 takes from each, then each from 0."
-- That the list of these commands does it, and that each of them names two different consoles.
-- Assumes nothing.
use Prim.Native.Nat.{ℕ, zero, suc, pred, ◌+◌, ◌≤◌, ◌<◌}
use mathlib.Core.Path.{◌≡◌, refl, sym, ◌∙◌, ap, subst}
use mathlib.Core.Logic.{inl, inr}
use mathlib.Core.Bool.{Bool, true, ◌||◌}
use mathlib.Core.List.{List, [], ◌∷◌, ◌++◌}
use native.Mathlib.Omega.{arith}
use native.Mathlib.Decide.{ℕ_discrete}
use borrow.Author.Tests.{eqb-true, eq-eqb, eqb-false, lt-ltb, not-false}
use lib.Dec.{eqb}
use lib.ListN.{length, length-append}
use Rattle.laws.proofs.Logic.{decide, either, refuted, and_l, and_r, and_i, implies_e, or_none_l, or_none_r}
use Rattle.graph.specs.Below.{count_below}
use Rattle.graph.specs.declared.Node.{Node}
use Rattle.graph.specs.Graph.{merge, version_count, ancestor, is_some}
use Rattle.graph.proofs.Below.{more, count_rises}
use Rattle.graph.proofs.Parent.{receiver, giver}
use Rattle.graph.proofs.Ancestor.{ancestor_above, ancestor_self, ancestor_trans}
use Rattle.command.specs.declared.Command.{Command}
use Rattle.command.specs.Code.{console_count}
use Rattle.command.specs.Decoding.{TwoConsoles, InRange}
use Rattle.room.specs.Room.{Room, head_of, present, head}
use Rattle.room.specs.Sound.{sound_room}
use Rattle.room.specs.Step.{absent, behind, version_free, state_tests, step_refusal, moved, step}
use Rattle.room.specs.Mergeable.{merge_of_two, forward_of_two, agrees, heads_agree}
use Rattle.room.specs.Gathering.{consoles_in, versions_free, hub_takes, hub_gives, after_all, all_accepted, for_each, all_taken, gathering, Gathers}
use Rattle.room.proofs.Sound.{Sound, present_console, sound_facts}
use Rattle.room.proofs.Moves.{Follows, there, back, number, slot_other, source, onto, kept, new_number}
use Rattle.room.proofs.Steps.{head_named, step_sound}
use Rattle.room.proofs.Mergeable.{heads_agree_lem}
use Rattle.room.proofs.Hub.{hub_kept, same_head, hub_forwards, hub_forwarded, hub_merges}

-- each of some commands could be sent
abbrev pub AllInRange : List Command → Type 0
AllInRange [] = Unit {0}
AllInRange (c ∷ commands) = InRange c × AllInRange commands

-- another console than 0
abbrev Other : ℕ → Type 0
Other c = (0 < c) × (c < console_count)

first_hub : (c : ℕ) → Other c → TwoConsoles 0 c
first_hub c o = (omega arith, o.1, omega arith)

second_hub : (c : ℕ) → Other c → TwoConsoles c 0
second_hub c o = (o.1, omega arith, omega arith)

-- commands one after the other
all_ranged : (xs ys : List Command) → AllInRange xs → AllInRange ys → AllInRange (xs ++ ys)
all_ranged [] ys h k = k
all_ranged (x ∷ xs) ys h k = (h.0, all_ranged xs ys h.1 k)

after_append : (r : Room) (xs ys : List Command) → after_all r (xs ++ ys) ≡ after_all (after_all r xs) ys
unfolding after_all
after_append r [] ys = refl
after_append r (x ∷ xs) ys = after_append (step r x) xs ys

accepted_append : (r : Room) (xs ys : List Command) → all_accepted r xs ≡ true → all_accepted (after_all r xs) ys ≡ true → all_accepted r (xs ++ ys) ≡ true
unfolding after_all all_accepted
accepted_append r [] ys h k = k
accepted_append r (x ∷ xs) ys h k =
    and_i (eqb (step_refusal r x) 0) _ (and_l _ _ h) (accepted_append (step r x) xs ys (and_r (eqb (step_refusal r x) 0) _ h) k)

-- and those for each of the others
each_ranged : (commands : Room → ℕ → List Command) → ((r : Room) (c : ℕ) → Other c → AllInRange (commands r c))
    → (n : ℕ) (r : Room) (c : ℕ) → 0 < c → c + n ≡ console_count → AllInRange (for_each commands r c n)
unfolding for_each
each_ranged commands h zero r c not-0 sum = tt
each_ranged commands h (suc n) r c not-0 sum =
    all_ranged (commands r c) _ (h r c (not-0, omega arith)) (each_ranged commands h n _ (suc c) (omega arith) (omega arith))

takes_ranged : (r : Room) (c : ℕ) → Other c → AllInRange (hub_takes r c)
unfolding hub_takes
takes_ranged r c o =
    let two = first_hub c o in
    either AllInRange (absent r c || behind r c 0) (λ _. tt) (either InRange (behind r 0 c) (λ _. two) two, tt)

gives_ranged : (r : Room) (c : ℕ) → Other c → AllInRange (hub_gives r c)
unfolding hub_gives
gives_ranged r c o = either AllInRange (agrees r c) (λ _. tt) (second_hub c o, tt)

pub gathering_ranged : (r : Room) → AllInRange (gathering r)
unfolding gathering
gathering_ranged r =
    all_ranged (all_taken r) _ (each_ranged hub_takes takes_ranged (pred console_count) r 1 (omega arith) refl)
    (each_ranged hub_gives gives_ranged (pred console_count) _ 1 (omega arith) refl)

-- where one console moves, and is present before and after, the same consoles are present
same_present : {r' r : Room} (c : ℕ) → ((k : ℕ) → (k ≡ c → ⊥) → Follows r' r k k) → present r' c ≡ true → present r c ≡ true
    → (k : ℕ) → present r' k ≡ present r k
same_present {r'} {r} c others after before k =
    elim (ℕ_discrete k c) [
      | yes e ↦ ap (present r') e ∙ after ∙ sym (ap (present r) e ∙ before)
      | no ne ↦ ap is_some (others k ne).slot
    ]

own_head : (r : Room) → Sound r → (c : ℕ) → present r c ≡ true → behind r c c ≡ true
own_head r s c p = ancestor_self r.versions (head r c) (head_named r s c p)

-- what it does that console 0 takes from console c: its head is ahead of all that it was and of the head of c, and at most one version is made
record Takes (r r' : Room) (c : ℕ) : Type 0 where
  others : (k : ℕ) → (k ≡ 0 → ⊥) → Follows r' r k k
  heard : (d : ℕ) → behind r d 0 ≡ true → ancestor r'.versions (head r d) (head r' 0) ≡ true
  own : ancestor r'.versions (head r c) (head r' 0) ≡ true
  cost : versions_free r ≤ versions_free r' + 1

module _ (r : Room) (s : Sound r) (c : ℕ) (p : present r c ≡ true) where
  forward_takes : behind r 0 c ≡ true → Takes r (step r (forward_of_two 0 c)) c
  unfolding step
  forward_takes b =
      let there = number (onto r s 0 c (omega arith)) in
      record {
        others = slot_other r 0 (head_of r c);
        heard = λ d h. rw there (ancestor_trans r.versions (head r d) (head r 0) (head r c) h b);
        own = rw there (own_head r s c p);
        cost = omega arith;
      }

  merge_takes : Takes r (step r (merge_of_two 0 c)) c
  unfolding step
  merge_takes =
      let n : Node = merge (head r 0) (head r c) in
      let there = new_number r s 0 s.first n in
      record {
        others = kept r 0 n;
        heard = λ d h. rw there (ancestor_above r.versions (head r d) receiver h);
        own = rw there (ancestor_above r.versions (head r c) giver (own_head r s c p));
        cost = omega arith;
      }

-- the consoles that were there at the start are counted
module _ (here : ℕ → Bool) where
  -- what every one of the commands keeps
  record Hubbed (r : Room) : Type 0 where
    sound : sound_room r ≡ true
    hub : r.settings.hub ≡ true
    who : (k : ℕ) → present r k ≡ here k

  -- these commands are accepted, they are at most one for each present console from c to d, and after them those below d are done
  record Leads (Done : ℕ → Room → Type 0) (c d : ℕ) (r : Room) (commands : List Command) : Type 0 where
    accepted : all_accepted r commands ≡ true
    few : length commands + count_below c here ≤ count_below d here
    after : Done d (after_all r commands)

  counted : (c : ℕ) → here c ≡ true → count_below (suc c) here ≡ count_below c here + 1
  unfolding count_below
  counted c p = rw p

  module _ (Done : ℕ → Room → Type 0) where
    leads_none : (c d : ℕ) (r : Room) → c ≤ d → Done d r → Leads Done c d r []
    unfolding all_accepted after_all
    leads_none c d r l i = record { accepted = refl; few = omega (arith, count_rises c d here l); after = i }

    leads_one : (c : ℕ) (r : Room) (x : Command) → here c ≡ true → step_refusal r x ≡ 0 → Done (suc c) (step r x) → Leads Done c (suc c) r (x ∷ [])
    unfolding all_accepted after_all
    leads_one c r x p h i = record { accepted = and_i _ _ (eq-eqb _ 0 h) refl; few = omega (arith, counted c p); after = i }

    leads_on : (c d e : ℕ) (r : Room) (xs ys : List Command) → Leads Done c d r xs → Leads Done d e (after_all r xs) ys → Leads Done c e r (xs ++ ys)
    leads_on c d e r xs ys one two = record {
      accepted = accepted_append r xs ys one.accepted two.accepted;
      few = omega (arith, one.few, two.few, length-append xs ys);
      after = rw after_append two.after;
    }

    leads_each : (commands : Room → ℕ → List Command)
        → ((r : Room) (c : ℕ) → Other c → Done c r → Leads Done c (suc c) r (commands r c))
        → (n : ℕ) (r : Room) (c : ℕ) → 0 < c → c + n ≡ console_count → Done c r → Leads Done c console_count r (for_each commands r c n)
    unfolding for_each
    leads_each commands h zero r c not-0 sum i =
        leads_none c console_count r (omega arith) (let last : c ≡ console_count = omega arith in subst (λ k. Done k r) last i)
    leads_each commands h (suc n) r c not-0 sum i =
        let first = h r c (not-0, omega arith) i in
        leads_on c (suc c) console_count r (commands r c) _ first (leads_each commands h n _ (suc c) (omega arith) (omega arith) first.after)

  hubbed_step : (r : Room) (x : Command) → Hubbed r → InRange x → step_refusal r x ≡ 0 → ((k : ℕ) → present (step r x) k ≡ present r k) → Hubbed (step r x)
  hubbed_step r x h range accepted same = record {
    sound = step_sound r x h.sound range accepted;
    hub = hub_kept r x h.hub;
    who = λ k. same k ∙ h.who k;
  }

  -- "0 takes from each": it has taken from those below c, and a version is free for each of the others
  record Taking (c : ℕ) (r : Room) : Type 0 where
    stays : Hubbed r
    taken : (d : ℕ) → d < c → present r d ≡ true → behind r d 0 ≡ true
    free : count_below console_count here ≤ versions_free r + count_below c here

  module _ (r : Room) (c : ℕ) (o : Other c) (t : Taking c r) (p : present r c ≡ true) where
    listed : here c ≡ true
    listed = sym (t.stays.who c) ∙ p

    room_left : version_free r ≡ true
    room_left = lt-ltb (version_count r.versions) r.settings.capacity (omega (arith, t.free, counted c listed, count_rises (suc c) console_count here (omega arith)))

    -- a command by which 0 takes from c
    taken_from : (x : Command) → InRange x → step_refusal r x ≡ 0 → Takes r (step r x) c → Leads Taking c (suc c) r (x ∷ [])
    taken_from x range accepted takes =
        let r' : Room = step r x in
        let s = sound_facts r t.stays.sound in
        let s' = sound_facts r' (step_sound r x t.stays.sound range accepted) in
        leads_one Taking c r x listed accepted (record {
          stays = hubbed_step r x t.stays range accepted (same_present 0 takes.others s'.first s.first);
          taken = more (λ d. present r' d ≡ true → behind r' d 0 ≡ true) c
              (λ d below q. elim (ℕ_discrete d 0) [
                | yes e ↦ rw e (own_head r' s' 0 s'.first)
                | no ne ↦ rw (number (takes.others d ne)) (takes.heard d (t.taken d below (back (takes.others d ne) q)))
              ])
              (λ q. rw (number (takes.others c (omega arith))) takes.own);
          free = omega (arith, t.free, takes.cost, counted c listed);
        })

  take_from : (r : Room) (c : ℕ) → Other c → Taking c r → Leads Taking c (suc c) r (hub_takes r c)
  unfolding hub_takes step_refusal state_tests
  take_from r c o t =
      let s = sound_facts r t.stays.sound in
      elim (decide (absent r c || behind r c 0)) [
        | inl done ↦
            rw done (leads_none Taking c (suc c) r (omega arith) (record {
              stays = t.stays;
              taken = more (λ d. present r d ≡ true → behind r d 0 ≡ true) c t.taken (implies_e (present r c) (behind r c 0) done);
              free = omega (arith, t.free, count_rises c (suc c) here (omega arith));
            }))
        | inr due ↦
            let p : present r c ≡ true = not-false _ (or_none_l _ _ due) in
            let ahead = or_none_r (absent r c) _ due in
            let two = first_hub c o in
            elim (decide (behind r 0 c)) [
              | inl b ↦ rw (due, b) (taken_from r c o t p (forward_of_two 0 c) two (hub_forwards r s c p ahead b) (forward_takes r s c p b))
              | inr b ↦
                  rw (due, b)
                  (taken_from r c o t p (merge_of_two 0 c) two (hub_merges r s c p t.stays.hub (room_left r c o t p) ahead b) (merge_takes r s c p))
            ]
      ]

  -- "then each from 0": those below c are on its head
  record Giving (c : ℕ) (r : Room) : Type 0 where
    stays : Hubbed r
    taken : (d : ℕ) → present r d ≡ true → behind r d 0 ≡ true
    given : (d : ℕ) → d < c → present r d ≡ true → head r d ≡ head r 0

  given_to : (r : Room) (c : ℕ) → Other c → Giving c r → present r c ≡ true → step_refusal r (forward_of_two c 0) ≡ 0
      → Giving (suc c) (step r (forward_of_two c 0))
  unfolding step
  given_to r c o g p accepted =
      let s = sound_facts r g.stays.sound in
      let r' : Room = moved r c (head_of r 0) in
      let others = slot_other r c (head_of r 0) in
      let on-hub = onto r s c 0 o.1 in
      let hub-same : head r' 0 ≡ head r 0 = number (others 0 (omega arith)) in
      record {
        stays = hubbed_step r (forward_of_two c 0) g.stays (second_hub c o) accepted (same_present c others (there on-hub s.first) p);
        taken = λ d q.
            let from = source r s c o.1 (head_of r 0) 0 refl d in
            rw (number from.1, hub-same) (g.taken from.0 (back from.1 q));
        given = more (λ d. present r' d ≡ true → head r' d ≡ head r' 0) c
            (λ d below q. let f = others d (omega arith) in number f ∙ g.given d below (back f q) ∙ sym hub-same)
            (λ _. number on-hub ∙ sym hub-same);
      }

  give_to : (r : Room) (c : ℕ) → Other c → Giving c r → Leads Giving c (suc c) r (hub_gives r c)
  unfolding hub_gives step_refusal state_tests
  give_to r c o g =
      elim (decide (agrees r c)) [
        | inl done ↦
            rw done (leads_none Giving c (suc c) r (omega arith) (record {
              stays = g.stays;
              taken = g.taken;
              given = more (λ d. present r d ≡ true → head r d ≡ head r 0) c g.given (λ p. eqb-true _ _ (implies_e (present r c) _ done p));
            }))
        | inr due ↦
            let p : present r c ≡ true = not-false _ (or_none_l _ _ due) in
            let b = g.taken c p in
            let ahead = refuted (behind r 0 c) (λ t. eqb-false _ _ (or_none_r (absent r c) _ due) (same_head r c 0 b t)) in
            let accepted = hub_forwarded r (sound_facts r g.stays.sound) c p ahead b in
            rw due (leads_one Giving c r (forward_of_two c 0) (sym (g.stays.who c) ∙ p) accepted (given_to r c o g p accepted))
      ]

  second_half : (r : Room) → Taking console_count r → Leads Giving 1 console_count r (for_each hub_gives r 1 (pred console_count))
  second_half r t =
      leads_each Giving hub_gives give_to (pred console_count) r 1 (omega arith) refl
      (record {
        stays = t.stays;
        taken = λ d p. t.taken d (present_console r d (sound_facts r t.stays.sound).sixteen p) p;
        given = λ d l p. ap (head r) (omega arith);
      })

  -- from a room with these consoles, and a version free for each but 0
  module _ (r : Room) (start : Hubbed r) (free : pred (count_below console_count here) ≤ versions_free r) where
    one_counted : count_below 1 here ≡ 1
    unfolding count_below
    one_counted = rw (sym (start.who 0) ∙ (sound_facts r start.sound).first)

    first_half : Leads Taking 1 console_count r (all_taken r)
    first_half =
        let s = sound_facts r start.sound in
        leads_each Taking hub_takes take_from (pred console_count) r 1 (omega arith) refl
        (record {
          stays = start;
          taken = λ d l p. let e : d ≡ 0 = omega arith in rw e (own_head r s 0 s.first);
          free = omega (arith, one_counted);
        })

pub hub_gathers : (r : Room) → sound_room r ≡ true → r.settings.hub ≡ true → pred (consoles_in r) ≤ versions_free r → Gathers r
unfolding gathering
hub_gathers r sound hub free =
    let start : Hubbed (present r) r = record { sound = sound; hub = hub; who = λ k. refl } in
    let r' : Room = after_all r (all_taken r) in
    let one = first_half (present r) r start free in
    let two = second_half (present r) r' one.after in
    let all-given : List Command = for_each hub_gives r' 1 (pred console_count) in
    record {
      few = omega (arith, one.few, two.few, one_counted (present r) r start free, length-append (all_taken r) all-given);
      accepted = accepted_append r (all_taken r) all-given one.accepted two.accepted;
      one_head = ap heads_agree (after_append r (all_taken r) all-given) ∙ heads_agree_lem _ two.after.given;
      all_here = λ c. ap (λ (x : Room). present x c) (after_append r (all_taken r) all-given) ∙ two.after.stays.who c;
    }
