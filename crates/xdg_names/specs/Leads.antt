-- Where uses lead, and what numbers of strong components are.
use Rattle.std.specs.Prelude.{◌≡◌, ℕ, ◌<◌, ◌≤◌, List, [], ◌∷◌, length, slice_index_or}
use Rattle.xdg_names.specs.declared.graph.Use.{Use}
use Rattle.xdg_facts.specs.Membership.{In}

-- the uses that stand in the definition a
abbrev pub uses_of : List (List Use) → ℕ → List Use
uses_of g a = slice_index_or g a []

-- each use in turn stands in the definition to which the one before leads
abbrev pub IsPath : List (List Use) → ℕ → List Use → ℕ → Type 0
IsPath g a [] b = a ≡ b
IsPath g a (u ∷ us) b = In (uses_of g a) u × IsPath g u.to us b

-- a is b, or leads to it
abbrev pub Leads : List (List Use) → ℕ → ℕ → Type 0
Leads g a b = (us : List Use) × IsPath g a us b

-- each use leads to a definition
abbrev pub IsGraph : List (List Use) → Type 0
IsGraph g = (a : ℕ) (u : Use) → In (uses_of g a) u → u.to < length g

-- the number at a place, and 0 past the end
abbrev pub number : List ℕ → ℕ → ℕ
number ns a = slice_index_or ns a 0

-- The numbers of the strong components of a graph, and an order in which they never fall.
pub record AreComponents (g : List (List Use)) (numbers order : List ℕ) : Type 0 where
  pub graph : IsGraph g
  pub len : length numbers ≡ length g
  -- of one number only where each leads to the other
  pub same : (a b : ℕ) → a < length g → b < length g → number numbers a ≡ number numbers b → Leads g a b
  -- a use never leads to a greater number
  pub down : (a : ℕ) (u : Use) → In (uses_of g a) u → number numbers u.to ≤ number numbers a
  -- each definition stands in the order once
  pub placed : (a : ℕ) → a < length g → In order a
  pub count : length order ≡ length g
  pub within : (i : ℕ) → i < length order → number order i < length g
  pub rises : (i j : ℕ) → i < j → j < length order → number numbers (number order i) ≤ number numbers (number order j)
