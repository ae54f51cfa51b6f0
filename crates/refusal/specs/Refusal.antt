-- "Of several that apply, the lowest is given.", save where a request says when its own number is tested. The refusals that a call can give
-- stand in lists, in the order in which they are tested, and the first that applies is given, or 0 where none does. Every list of the
-- definitions rises, and so do a command's two, by its bytes and by the store, one behind the other, but for 20, which the bytes give before 11,
-- and 22, which stands right behind 13.
use Rattle.std.specs.Prelude.{ℕ, Bool, cond, List, [], ◌∷◌, eqb}

infix 68 ◌when◌
-- a refusal, and whether its case is there
abbrev pub ◌when◌ : ℕ → Bool → ℕ × Bool
number when applies = (number, applies)

unfoldable pub first_refusal : List (ℕ × Bool) → ℕ
first_refusal [] = 0
first_refusal (r ∷ later) = cond r.1 r.0 (first_refusal later)

-- of two refusals the first that is there
abbrev pub first_of : ℕ → ℕ → ℕ
first_of one other = cond (eqb one 0) other one
