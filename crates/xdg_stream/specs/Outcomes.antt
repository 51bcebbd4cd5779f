-- What a run answers, against any listing of the counted prefixes and any of the solutions.
use Rattle.std.specs.Prelude.{◌≡◌, ℕ, List, length, take, Option}
use Rattle.xdg_facts.specs.Listing.{IsListing}
use Rattle.xdg_facts.specs.Whole.{Whole}
use Rattle.xdg_facts.specs.Endings.{IsEnding}
use Rattle.xdg_facts.specs.declared.Ending.{Ending}

-- the answers are the first of the solutions, the ending is the one that the two lists have, and they have no other
pub record IsOutcome (shape : List ℕ) (P : List ℕ → Type 0) (start : List ℕ) (b : ℕ) (wanted : Option ℕ) (ending : Ending) (answers : List (List ℕ)) : Type 0
  where
    pub first : (counted solutions : List (List ℕ)) → IsListing shape P start counted → IsListing shape (Whole shape P) start solutions
        → answers ≡ take (length answers) solutions
    pub ends : (counted solutions : List (List ℕ)) → IsListing shape P start counted → IsListing shape (Whole shape P) start solutions
        → IsEnding ending shape b wanted counted solutions (length answers)
    pub only : (counted solutions : List (List ℕ)) → IsListing shape P start counted → IsListing shape (Whole shape P) start solutions
        → (other : Ending) (m : ℕ) → IsEnding other shape b wanted counted solutions m → (other ≡ ending) × (m ≡ length answers)
