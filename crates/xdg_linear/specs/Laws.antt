-- The list of all arrangements: words have one, and what has been passed is a front of it.
use Rattle.std.specs.Prelude.{◌≡◌, ℕ, ◌<◌, List, [], ◌++◌, Option, length, map}
use Rattle.xdg_facts.specs.Listing.{IsListing}
use Rattle.xdg_problem.specs.declared.parts.SentenceWord.{SentenceWord}
use Rattle.xdg_linear.specs.Arrangements.{IsArrangement, IsLast}
use Rattle.xdg_linear.specs.Listed.{AreArrangements, ArePassed, AreLeft}
use Rattle.xdg_linear.specs.Ranks.{ranks_of}

-- there is one list of all arrangements, and no other
pub record HasOneList (words : List SentenceWord) : Type 0 where
  pub members : List (List ℕ)
  pub are : AreArrangements (ranks_of words) members
  pub only : (xs : List (List ℕ)) → AreArrangements (ranks_of words) xs → members ≡ xs

-- any words have one
abbrev pub OneList : Type 0
OneList = (words : List SentenceWord) → HasOneList words

-- what has been passed is a front of all, and what is left is the rest
abbrev pub PassedFirst : Type 0
PassedFirst =
    (ranks : List ℕ) (present : Option (List ℕ)) (passed all : List (List ℕ)) → ArePassed ranks present passed → AreArrangements ranks all
    → (rest : List (List ℕ)) × (all ≡ passed ++ rest) × AreLeft ranks present rest

-- where none comes after the present one, all have been passed
abbrev pub PassedAll : Type 0
PassedAll =
    (ranks : List ℕ) (present : Option (List ℕ)) (passed : List (List ℕ)) → ArePassed ranks present passed → IsLast ranks present → AreArrangements ranks passed

-- as many values as there are words, at as many places
abbrev pub shape_of : List SentenceWord → List ℕ
shape_of words = map (λ word. length words) words

-- where there are words, the list of all is the listing of the arrangements
abbrev pub AreListed : Type 0
AreListed =
    (words : List SentenceWord) (all : List (List ℕ)) → 0 < length words → AreArrangements (ranks_of words) all
    → IsListing (shape_of words) (IsArrangement (ranks_of words)) [] all
