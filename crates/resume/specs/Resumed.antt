-- What resume answers, and what stands in the lent buffer afterwards.
use Rattle.std.specs.Prelude.{ℕ, cond, List, [], ◌∷◌, ◌++◌, eqb, ltb, length}
use Rattle.std.proofs.Math.Option.{Option}
use Rattle.buffer.specs.Field.{overwrite}
use Rattle.refusal.specs.Refusal.{◌when◌, first_refusal}
use Rattle.store.specs.Layout.{store_size, encode}
use Rattle.tape.specs.Tape.{Content, tape_tests, room_of, told}

-- 7 to 10, and then "19 lent output or store buffer too short."
abbrev pub resume_refusal : Option Content → List ℕ → ℕ
resume_refusal o store = first_refusal (tape_tests o ++ (19 when ltb (length store) (store_size (told o).settings.capacity) ∷ []))

-- "A refusal returns its number, counts 0, and changes no lent byte."
unfoldable pub resumed_store : Option Content → List ℕ → List ℕ
resumed_store o store = cond (eqb (resume_refusal o store) 0) (overwrite (encode (room_of (told o))) store) store
