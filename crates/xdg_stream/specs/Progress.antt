-- What the calls of a search have come to together, since its start.
use Rattle.std.specs.Prelude.{◌≡◌, ℕ, List, Option, None}
use Rattle.xdg_facts.specs.Answered.{Drawn}
use Rattle.xdg_stream.specs.Problem.{SameProblem}
use Rattle.xdg_stream.specs.Place.{place, Next}
use Rattle.xdg_stream.specs.declared.search.Step.{Step}

-- The answers are the whole ones among the charged prefixes, which are those from the start on up to `front`; and the search
-- goes on right behind it. shape and P are the problem as the start found it, later and Q as the search has it now.
pub record Progress (shape : List ℕ) (P : List ℕ → Type 0) (start : List ℕ) (later : List ℕ) (Q : List ℕ → Type 0) (numbers : List ℕ) (value : ℕ)
    (done : Option Step) (charged : ℕ) (answers : List (List ℕ)) : Type 0 where
  pub same : SameProblem shape P later Q
  pub front : List ℕ
  pub drawn : Drawn shape P start front charged answers
  pub next : done ≡ None → Next shape P front (place numbers value)
