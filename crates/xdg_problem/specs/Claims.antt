-- What formulas claim, as trees, and which of them go with a problem.
use Rattle.std.specs.Prelude.{◌≡◌, ℕ, ◌<◌, Bool, List, [], ◌∷◌, length, slice_index_or, Contains}
use Rattle.xdg_problem.specs.declared.parts.Parts.{Parts}
use Rattle.xdg_problem.specs.Arguments.{label_count, attr_count, value_count}
use Rattle.xdg_problem.specs.Places.{nodes}
use Rattle.xdg_problem.specs.declared.formula.Formula.{Formula}
use Rattle.xdg_problem.specs.declared.formula.Formula.TheOpen.{Formula-F}
use Rattle.xdg_problem.specs.declared.formula.Formula.TheFolds.{fold-Formula}

-- A claim about nodes, which names stand for. Names, dimensions, labels, attributes and values are numbers.
mutual
  pub data Claim : Type 0 where
    -- it is false
    negation : Claim → Claim
    -- all are true
    conjunction : Claims → Claim
    -- one or more are true
    disjunction : Claims → Claim
    -- it is true whichever node the name stands for
    every : (name : ℕ) → Claim → Claim
    -- it is true where the name stands for some node
    some : (name : ℕ) → Claim → Claim
    -- an edge of a dimension with a label leads from one node to another
    joined : (dim mother label daughter : ℕ) → Claim
    -- a path of one or more edges of a dimension does
    above : (dim upper lower : ℕ) → Claim
    -- the first stands before the second
    left : (first second : ℕ) → Claim
    -- both are one node
    same : (first second : ℕ) → Claim
    -- an attribute of the node has a value
    valued : (name dim attr value : ℕ) → Claim
    -- the node's entry is one for which a table says so
    fitting : (name : ℕ) → List (List Bool) → Claim

  pub data Claims : Type 0 where
    none : Claims
    claim_then : Claim → Claims → Claims

abbrev pub claims_of : List Claim → Claims
claims_of [] = none
claims_of (c ∷ cs) = claim_then c (claims_of cs)

abbrev pub layer : Formula-F Claim → Claim
layer (Formula-F.Not c) = negation c
layer (Formula-F.And cs) = conjunction (claims_of cs)
layer (Formula-F.Or cs) = disjunction (claims_of cs)
layer (Formula-F.Every name c) = every name c
layer (Formula-F.Any name c) = some name c
layer (Formula-F.Edge dim mother label daughter) = joined dim.0 mother label.0 daughter
layer (Formula-F.Above dim upper lower) = above dim.0 upper lower
layer (Formula-F.Left first second) = left first second
layer (Formula-F.Same first second) = same first second
layer (Formula-F.Attr name dim attr value) = valued name dim.0 attr.0 value
layer (Formula-F.Feat name table) = fitting name table

-- what a formula claims
abbrev pub claim : Formula → Claim
claim = fold-Formula Claim layer

-- ---- claims that go with a problem

-- a table says something for each candidate of each node
pub record IsTable (parts : Parts) (table : List (List Bool)) : Type 0 where
  pub count : length table ≡ nodes parts
  pub each : (v : ℕ) → v < nodes parts → length (slice_index_or table v []) ≡ length (slice_index_or parts.candidates v [])

-- what a claim names is there: its dimensions, labels, attributes and values are those of the problem, and its tables are for
-- the problem's candidates
abbrev mutual
  pub IsOf : Parts → Claim → Type 0
  IsOf parts (negation c) = IsOf parts c
  IsOf parts (conjunction cs) = EachIsOf parts cs
  IsOf parts (disjunction cs) = EachIsOf parts cs
  IsOf parts (every name c) = IsOf parts c
  IsOf parts (some name c) = IsOf parts c
  IsOf parts (joined dim mother label daughter) = (dim < length parts.dims) × (label < label_count parts dim)
  IsOf parts (above dim upper lower) = dim < length parts.dims
  IsOf parts (left first second) = Unit {0}
  IsOf parts (same first second) = Unit {0}
  IsOf parts (valued name dim attr value) = (dim < length parts.dims) × (attr < attr_count parts dim) × (value < value_count parts dim attr)
  IsOf parts (fitting name table) = IsTable parts table

  pub EachIsOf : Parts → Claims → Type 0
  EachIsOf parts none = Unit {0}
  EachIsOf parts (claim_then c cs) = IsOf parts c × EachIsOf parts cs

-- each name of a claim is bound: by a quantifier around it, or it is one of those in scope
abbrev mutual
  pub IsBound : List ℕ → Claim → Type 0
  IsBound scope (negation c) = IsBound scope c
  IsBound scope (conjunction cs) = EachIsBound scope cs
  IsBound scope (disjunction cs) = EachIsBound scope cs
  IsBound scope (every name c) = IsBound (name ∷ scope) c
  IsBound scope (some name c) = IsBound (name ∷ scope) c
  IsBound scope (joined dim mother label daughter) = Contains scope mother × Contains scope daughter
  IsBound scope (above dim upper lower) = Contains scope upper × Contains scope lower
  IsBound scope (left first second) = Contains scope first × Contains scope second
  IsBound scope (same first second) = Contains scope first × Contains scope second
  IsBound scope (valued name dim attr value) = Contains scope name
  IsBound scope (fitting name table) = Contains scope name

  pub EachIsBound : List ℕ → Claims → Type 0
  EachIsBound scope none = Unit {0}
  EachIsBound scope (claim_then c cs) = IsBound scope c × EachIsBound scope cs

-- a formula goes with a problem: what it names is there, and each of its names is bound
pub record Suits (parts : Parts) (formula : Formula) : Type 0 where
  pub is_of : IsOf parts (claim formula)
  pub bound : IsBound [] (claim formula)
