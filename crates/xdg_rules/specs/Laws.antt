-- What the rules of all principles keep.
use Rattle.std.specs.Prelude.{◌≡◌, ◌⊎◌, ◌↔◌, ℕ, Bool, List, length, All}
use Rattle.xdg_facts.specs.Closed.{Closed}
use Rattle.xdg_facts.specs.Fits.{Fits}
use Rattle.xdg_facts.specs.Listing.{HasOneListing}
use Rattle.xdg_problem.specs.declared.analysis.Analysis.{Analysis}
use Rattle.xdg_problem.specs.declared.parts.Group.{Group}
use Rattle.xdg_problem.specs.declared.parts.Parts.{Parts}
use Rattle.xdg_problem.specs.Analyses.{IsAnalysis}
use Rattle.xdg_problem.specs.Live.{Live}
use Rattle.xdg_problem.specs.Relations.{Relation}
use Rattle.xdg_problem.specs.Solutions.{IsSolution}
use Rattle.xdg_problem.specs.Vectors.{shape, vector, analysis_of}
use Rattle.xdg_problem.specs.Boxes.{Has, IsBox, LiesIn, IsSingle, IsIn, without}
use Rattle.xdg_rules.specs.Rules.{Takes, IsClosedFor, IsClosed}
use Rattle.xdg_rules.specs.Boxed.{only, first_numbers, Boxed, IsGreatestClosed, HasNoClosed}

-- a box of the shape that is closed for a principle use, lies in another box, and has a value there
pub record IsInside (parts : Parts) (group : Group) (box : List (List Bool)) (d v : ℕ) : Type 0 where
  pub small : List (List Bool)
  pub is : IsBox (shape parts) small
  pub closed : IsClosedFor parts group small
  pub lies : LiesIn small box
  pub remains : Has small d v

-- what a principle use keeps of every box
pub record RuleLaws (parts : Parts) (group : Group) : Type 0 where
  -- what it takes from a box remains in no box inside that is closed for it
  pub monotone : (small large : List (List Bool)) → IsBox (shape parts) small → LiesIn small large → IsClosedFor parts group small → (d v : ℕ)
      → Takes parts group large d v → Has small d v → ⊥
  -- a box inside that is closed for it lies in the box without what it takes
  pub without_taken : (small large : List (List Bool)) → IsBox (shape parts) small → LiesIn small large → IsClosedFor parts group small → (d v : ℕ)
      → Takes parts group large d v → LiesIn small (without large d v)
  -- where it takes all that remains no box inside is closed for it
  pub none_left : (small large : List (List Bool)) → IsBox (shape parts) small → LiesIn small large → IsClosedFor parts group small
      → ((d v : ℕ) → Has large d v → Takes parts group large d v) → ⊥
  -- a box whose values all remain in boxes inside that are closed for it is closed for it
  pub covered : (box : List (List Bool)) → ((d v : ℕ) → Has box d v → IsInside parts group box d v) → IsClosedFor parts group box
  -- the box of an analysis is closed for it exactly where the analysis satisfies it
  pub single : (analysis : Analysis) → IsAnalysis parts analysis
      → IsClosedFor parts group (only (shape parts) (vector parts analysis)) ↔ Relation parts group analysis
  -- a box of single values is closed for it exactly where their analysis satisfies it
  pub alone : (box : List (List Bool)) → IsBox (shape parts) box → IsSingle box
      → IsClosedFor parts group box ↔ Relation parts group (analysis_of parts (first_numbers box))
  -- it takes no value of an analysis of the box that satisfies it
  pub stays : (box : List (List Bool)) (analysis : Analysis) → IsAnalysis parts analysis → IsIn box (vector parts analysis) → Relation parts group analysis
      → (d v : ℕ) → Takes parts group box d v → Has (only (shape parts) (vector parts analysis)) d v → ⊥

-- what each principle use keeps
abbrev pub EachRuleLaws : Parts → Type 0
EachRuleLaws parts = All (RuleLaws parts) parts.groups

-- what closed boxes and boxed prefixes keep
pub record BoxedLaws (parts : Parts) : Type 0 where
  -- in each box lies a greatest closed one, or none
  pub greatest : (box : List (List Bool)) → ((inside : List (List Bool)) × IsGreatestClosed parts box inside) ⊎ HasNoClosed parts box
  -- a prefix is boxed exactly where a closed box lies in the box that has its numbers and all values of the later decisions
  pub inside : (prefix : List ℕ) → Fits (shape parts) prefix
      → Boxed parts prefix ↔ ((box : List (List Bool)) × IsBox (shape parts) box × IsClosed parts box × LiesIn box (only (shape parts) prefix))
  -- each front of a boxed prefix is boxed
  pub fronts : Closed (Boxed parts)
  -- each boxed prefix is live
  pub live : (prefix : List ℕ) → Boxed parts prefix → Live parts prefix
  -- a whole vector is boxed exactly where its analysis is a solution
  pub whole : (numbers : List ℕ) → Fits (shape parts) numbers → length numbers ≡ length (shape parts)
      → Boxed parts numbers ↔ IsSolution parts (analysis_of parts numbers)
  -- from any start on they have one list
  pub listed : (start : List ℕ) → HasOneListing (shape parts) (Boxed parts) start
  -- the vector of each solution is boxed
  pub solutions : (analysis : Analysis) → IsSolution parts analysis → Boxed parts (vector parts analysis)
