-- The three ways in which answers can end: m of them, for a budget b and a wanted number n, where there is one.
use Rattle.std.specs.Prelude.{◌≡◌, ℕ, ◌<◌, ◌≤◌, Bool, true, List, length, filter, Option, Some, None}
use Rattle.xdg_facts.specs.Listing.{IsListing}
use Rattle.xdg_facts.specs.Whole.{Whole, is_whole, reach}
use Rattle.xdg_facts.specs.declared.Ending.{Ending}
use Rattle.xdg_facts.specs.declared.Ending.TheVariants as endings

-- no number is wanted, or m is below it
abbrev pub IsBelow : ℕ → Option ℕ → Type 0
IsBelow m None = Unit {0}
IsBelow m (Some n) = m < n

-- no number is wanted, or m is at most it
abbrev pub IsUpTo : ℕ → Option ℕ → Type 0
IsUpTo m None = Unit {0}
IsUpTo m (Some n) = m ≤ n

-- a number is wanted, and m is it
abbrev pub IsAt : ℕ → Option ℕ → Type 0
IsAt m None = ⊥
IsAt m (Some n) = m ≡ n

-- the named ending, where the budget reaches so many of all solutions, which stand among so many counted prefixes
abbrev pub IsEndingOf : Ending → (reached counted all b : ℕ) → Option ℕ → ℕ → Type 0
-- all solutions, the budget covers all counted prefixes, and no more solutions were wanted
IsEndingOf endings.Complete reached counted all b wanted m = (m ≡ all) × (counted ≤ b) × IsBelow m wanted
-- as many as wanted, and the budget reaches them
IsEndingOf endings.First reached counted all b wanted m = IsAt m wanted × (m ≤ reached)
-- as many as the budget reaches, fewer than wanted, and a counted prefix is beyond the budget
IsEndingOf endings.Spent reached counted all b wanted m = (m ≡ reached) × (b < counted) × IsBelow m wanted

-- the same over the lists of the counted prefixes and of the solutions
abbrev pub IsEnding : Ending → List ℕ → ℕ → Option ℕ → List (List ℕ) → List (List ℕ) → ℕ → Type 0
IsEnding ending shape b wanted counted solutions m = IsEndingOf ending (reach shape b counted) (length counted) (length solutions) b wanted m

-- over the list of the counted prefixes, of which the solutions are the whole ones, there is one ending with one number of
-- answers, and no other
pub record HasOneEnding (shape : List ℕ) (b : ℕ) (wanted : Option ℕ) (counted : List (List ℕ)) : Type 0 where
  pub ending : Ending
  pub number : ℕ
  pub is : IsEnding ending shape b wanted counted (filter (is_whole shape) counted) number
  pub only : (other : Ending) (m : ℕ) → IsEnding other shape b wanted counted (filter (is_whole shape) counted) m → (other ≡ ending) × (m ≡ number)

-- each budget, each wanted number and each list have one ending
abbrev pub OneEnding : Type 0
OneEnding = (shape : List ℕ) (b : ℕ) (wanted : Option ℕ) (counted : List (List ℕ)) → HasOneEnding shape b wanted counted

-- the whole ones in the list of all that pass a test are the list of the whole ones that pass it
abbrev pub WholeListed : Type 0
WholeListed =
    (shape : List ℕ) (test : List ℕ → Bool) (start : List ℕ) (counted : List (List ℕ)) → IsListing shape (λ x. test x ≡ true) start counted
    → IsListing shape (Whole shape (λ x. test x ≡ true)) start (filter (is_whole shape) counted)
