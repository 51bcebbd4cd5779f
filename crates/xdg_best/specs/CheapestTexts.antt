-- What a search for the cheapest analysis prints.
use Rattle.std.specs.Prelude.{ℕ, Bool, true, false, List, [], ◌∷◌, ◌++◌, Option, Some, None, codes, decimal}
use Rattle.xdg_best.specs.declared.rounds.BestAnswer.{BestAnswer}
use Rattle.xdg_problem.specs.declared.analysis.Analysis.{Analysis}
use Rattle.xdg_problem.specs.declared.parts.Parts.{Parts}
use Rattle.xdg_text.specs.Blocks.{block}
use Rattle.xdg_text.specs.Lines.{line}

-- the line of a cost
abbrev pub cost_line : ℕ → List ℕ
cost_line cost = line (codes "cost") (decimal cost ∷ [])

-- what was found as block 1, and its cost, or nothing where nothing was
abbrev pub find_text : Parts → Option Analysis → ℕ → List ℕ
find_text parts None cost = []
find_text parts (Some analysis) cost = block parts 1 analysis ++ cost_line cost

abbrev pub found_text : Parts → BestAnswer → List ℕ
found_text parts answer = find_text parts answer.found answer.cost

-- `spent` where the budget is, else `none` where nothing was found, else nothing
abbrev pub end_text : Bool → Option Analysis → List ℕ
end_text true found = line (codes "spent") []
end_text false None = line (codes "none") []
end_text false (Some analysis) = []

abbrev pub last_text : BestAnswer → List ℕ
last_text answer = end_text answer.spent answer.found

abbrev pub answer_text : Parts → BestAnswer → List ℕ
answer_text parts answer = found_text parts answer ++ last_text answer
