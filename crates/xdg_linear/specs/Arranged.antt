-- What the arrangements of words are seen as, what they keep, and what a call does.
use Rattle.std.specs.Prelude.{◌≡◌, ◌↔◌, ℕ, Bool, true, false, List, [], ◌∷◌, ◌++◌, Option, Some, None}
use Rattle.xdg_facts.specs.Order.{AtMost}
use Rattle.xdg_problem.specs.declared.parts.SentenceWord.{SentenceWord}
use Rattle.xdg_linear.specs.Arrangements.{IsArrangement, IsNext, IsLast}
use Rattle.xdg_linear.specs.Listed.{ArePassed}
use Rattle.xdg_linear.specs.Ranks.{ranks_of, words_at}

-- the words, and the arrangement that was reached last, if one was
pub record Arranged : Type 0 where
  pub words : List SentenceWord
  pub present : Option (List ℕ)

-- numbers are shown once the first call was made
abbrev pub shown : Bool → List ℕ → Option (List ℕ)
shown false numbers = None
shown true numbers = Some numbers

-- the numbers are an arrangement, and before the first call the least
pub record IsHeld (words : List SentenceWord) (begun : Bool) (numbers : List ℕ) : Type 0 where
  pub arrangement : IsArrangement (ranks_of words) numbers
  pub least : begun ≡ false → (other : List ℕ) → IsArrangement (ranks_of words) other → AtMost numbers other

-- the arrangements so far with the one that a call reached, if it did
abbrev pub with_reached : Bool → List (List ℕ) → Option (List ℕ) → List (List ℕ)
with_reached false passed present = passed
with_reached true passed None = passed
with_reached true passed (Some numbers) = passed ++ numbers ∷ []

-- the words in the order of an arrangement, of equal ones each time the one that stands first in the input
abbrev pub words_in : List SentenceWord → Option (List ℕ) → List SentenceWord
words_in words None = []
words_in words (Some numbers) = words_at words numbers

-- those in the order of the present one
abbrev pub arranged : Arranged → List SentenceWord
arranged s = words_in s.words s.present

-- what a call does that answers whether it reached an arrangement
pub record Advances (old : Arranged) (more : Bool) (new : Arranged) : Type 0 where
  pub words : new.words ≡ old.words
  -- the least of those after the one that was present is present
  pub next : more ≡ true → (numbers : List ℕ) × (new.present ≡ Some numbers) × IsNext (ranks_of old.words) old.present numbers
  -- the answer is no exactly where there is none, and then nothing changes
  pub last : (more ≡ false) ↔ IsLast (ranks_of old.words) old.present
  pub same : more ≡ false → new ≡ old
  -- to the arrangements so far the one that was reached comes, and no other
  pub passed : (xs : List (List ℕ)) → ArePassed (ranks_of old.words) old.present xs
      → ArePassed (ranks_of new.words) new.present (with_reached more xs new.present)
