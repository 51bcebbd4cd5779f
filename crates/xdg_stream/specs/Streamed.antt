-- What a stream is seen as, how far it has come, and what a call does.
use Rattle.std.specs.Prelude.{◌≡◌, ◌≢◌, ℕ, ◌+◌, ◌<◌, ◌≤◌, List, [], ◌∷◌, ◌++◌, Option, Some, None}
use Rattle.std.specs.Iterator.{Count, at_most}
use Rattle.xdg_facts.specs.Answered.{Drawn}
use Rattle.xdg_facts.specs.Closed.{NoneAfter, SomeAfter}
use Rattle.xdg_facts.specs.Order.{Less, AtMost}
use Rattle.xdg_problem.specs.declared.analysis.Analysis.{Analysis}
use Rattle.xdg_problem.specs.declared.parts.Parts.{Parts}
use Rattle.xdg_problem.specs.Analyses.{IsAnalysis}
use Rattle.xdg_problem.specs.Problems.{IsProblem}
use Rattle.xdg_problem.specs.Solutions.{IsSolution}
use Rattle.xdg_problem.specs.Vectors.{shape, vector, analysis_of}
use Rattle.xdg_rules.specs.Boxed.{Boxed}
use Rattle.xdg_stream.specs.Lawful.{IsLawful}
use Rattle.xdg_stream.specs.Place.{place, Next}
use Rattle.xdg_stream.specs.declared.search.Step.{Step}
use Rattle.xdg_stream.specs.declared.search.Step.TheVariants as steps

-- the parts of the sentence, the start, the budget, how many boxed prefixes were charged, the one that was charged last, the vector
-- that was found last, and how the stream has ended, if it has; before anything was charged or found the start stands in both places
pub record Streamed : Type 0 where
  pub parts : Parts
  pub start : List ℕ
  pub budget : ℕ
  pub charged : ℕ
  pub front : List ℕ
  pub last : List ℕ
  pub ended : Option Step

-- a stream by these
abbrev pub seen : Parts → List ℕ → ℕ → ℕ → List ℕ → List ℕ → Option Step → Streamed
seen parts start budget charged front last ended =
    record { parts = parts; start = start; budget = budget; charged = charged; front = front; last = last; ended = ended }

-- the analysis behind which a stream begins belongs to the sentence, if there is one
abbrev pub IsStart : Parts → Option Analysis → Type 0
IsStart parts None = Unit {0}
IsStart parts (Some analysis) = IsAnalysis parts analysis

-- its vector; without an analysis the empty one, which comes before all
abbrev pub start_vector : Parts → Option Analysis → List ℕ
start_vector parts None = []
start_vector parts (Some analysis) = vector parts analysis

-- what is left behind the front, where the stream has ended
abbrev pub Leaves : Option Step → Parts → List ℕ → ℕ → ℕ → Type 0
Leaves None parts front charged budget = Unit {0}
Leaves (Some steps.Found) parts front charged budget = ⊥
-- no boxed prefix
Leaves (Some steps.End) parts front charged budget = NoneAfter (shape parts) (Boxed parts) front
-- the budget is charged, and a boxed prefix is left
Leaves (Some steps.Spent) parts front charged budget = (charged ≡ budget) × SomeAfter (shape parts) (Boxed parts) front

-- Exactly the boxed prefixes after the start and not after the front are charged, each once, within the budget; the answers are
-- the whole ones among them, and no solution comes after the last and not after the front.
pub record IsCharged (s : Streamed) (answers : List (List ℕ)) : Type 0 where
  pub drawn : Drawn (shape s.parts) (Boxed s.parts) s.start s.front s.charged answers
  pub within : s.charged ≤ s.budget
  pub reached : AtMost s.last s.front
  pub between : (a : Analysis) → IsSolution s.parts a → Less s.last (vector s.parts a) → Less s.front (vector s.parts a)
  pub leaves : Leaves s.ended s.parts s.front s.charged s.budget

-- the vector of the least solution after the last
pub record IsNext (parts : Parts) (last found : List ℕ) : Type 0 where
  pub after : Less last found
  pub solution : IsSolution parts (analysis_of parts found)
  pub is_vector : vector parts (analysis_of parts found) ≡ found
  pub least : (a : Analysis) → IsSolution parts a → Less last (vector parts a) → AtMost found (vector parts a)

-- no solution comes after the last
abbrev pub HasNone : Parts → List ℕ → Type 0
HasNone parts last = (a : Analysis) → IsSolution parts a → Less last (vector parts a) → ⊥

-- the answers with what a call found, if it found something
abbrev pub with_found : Step → List (List ℕ) → List ℕ → List (List ℕ)
with_found steps.Found answers last = answers ++ last ∷ []
with_found steps.End answers last = answers
with_found steps.Spent answers last = answers

-- what a call that answers with a step does to a stream
pub record Advances (old : Streamed) (step : Step) (new : Streamed) : Type 0 where
  pub given : (new.parts ≡ old.parts) × (new.start ≡ old.start) × (new.budget ≡ old.budget)
  -- to the answers so far the one that was found comes, and no other
  pub charged : (answers : List (List ℕ)) → IsCharged old answers → IsCharged new (with_found step answers new.last)
  pub rises : old.charged ≤ new.charged
  -- the least solution after the last was found, and it is what was charged last: nothing behind it is charged
  pub found : step ≡ steps.Found → (old.ended ≡ None) × (new.ended ≡ None) × (new.front ≡ new.last) × IsNext old.parts old.last new.last
  pub costs : step ≡ steps.Found → old.charged < new.charged
  -- the stream has ended so, and the last stays
  pub stops : step ≢ steps.Found → (new.ended ≡ Some step) × (new.last ≡ old.last)
  pub none : step ≡ steps.End → HasNone old.parts old.last
  -- where it had ended before the call, the same again
  pub repeats : (other : Step) → old.ended ≡ Some other → (step ≡ other) × (new ≡ old)

-- as an iterator: a step where the stream hasn't ended, and nothing more where it has
abbrev pub Gives : Streamed → Option Step → Streamed → Type 0
Gives old None new = (new ≡ old) × ((step : Step) × (old.ended ≡ Some step))
Gives old (Some step) new = (old.ended ≡ None) × Advances old step new

-- how many steps may still come: each but the last finds a solution, which is charged
abbrev pub steps_left : Option Step → ℕ → Count
steps_left None unspent = at_most (unspent + 1)
steps_left (Some step) unspent = at_most 0

-- what a stream keeps: it goes on right behind the front, and has room for the numbers of each prefix
pub record IsStream (s : Streamed) (numbers : List ℕ) (value room : ℕ) : Type 0 where
  pub problem : IsProblem s.parts
  pub lawful : IsLawful (shape s.parts) (Boxed s.parts) numbers s.front room s.ended s.charged s.budget
  pub answers : List (List ℕ)
  pub so_far : IsCharged s answers
  pub next : s.ended ≡ None → Next (shape s.parts) (Boxed s.parts) s.front (place numbers value)
