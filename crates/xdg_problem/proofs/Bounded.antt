-- How many entries and edges an analysis has at most.
use Rattle.std.proofs.Common.{ℕ, ◌≤◌, ◌+◌, List, [], ◌∷◌, cond, length, subst, arith, Bool, true, false}
use Rattle.std.specs.Prelude.{◌==◌}
use Rattle.xdg_problem.specs.declared.analysis.Analysis.{Analysis}
use Rattle.xdg_problem.specs.declared.analysis.Edge.{Edge}
use Rattle.xdg_problem.specs.declared.parts.Parts.{Parts}
use Rattle.xdg_problem.specs.Analyses.{IsAnalysis}
use Rattle.xdg_problem.specs.Places.{places}
use Rattle.xdg_problem.specs.Problems.{IsProblem}
use Rattle.xdg_problem.specs.Vectors.{shape, chosen, vector, analysis_of}
use Rattle.xdg_problem.proofs.EntryPlaces.{length_entries}
use Rattle.xdg_problem.proofs.VectorFacts.{length_shape, analysis_vector}

put_longer : (chooses : Bool) (e : Edge) (edges : List Edge) (n : ℕ) → length edges ≤ n → length (cond chooses (e ∷ edges) edges) ≤ n + 1
put_longer true e edges n few = omega (arith, few)
put_longer false e edges n few = omega (arith, few)

-- no more edges are chosen than there are places
chosen_few : (places : List Edge) (numbers : List ℕ) → length (chosen places numbers) ≤ length places
chosen_few [] numbers = omega arith
chosen_few (place ∷ places) [] = omega arith
chosen_few (place ∷ places) (number ∷ numbers) =
    let few = put_longer (number == 0) place (chosen places numbers) (length places) (chosen_few places numbers) in
    omega (arith, few)

pub entries_few : (parts : Parts) (analysis : Analysis) → IsProblem parts → IsAnalysis parts analysis → length analysis.entries ≤ 128
entries_few parts analysis problem is =
    let each = length_entries parts.candidates analysis.entries is.entries in
    let count = problem.candidates_each in
    let most = problem.most in
    omega (arith, each, count, most)

pub edges_few : (parts : Parts) (analysis : Analysis) → IsProblem parts → IsAnalysis parts analysis → length analysis.edges ≤ length (shape parts)
edges_few parts analysis problem is =
    let numbers = vector parts analysis in
    let few : length (analysis_of parts numbers).edges ≤ length (places parts) = chosen_few (places parts) _ in
    let all = length_shape parts in
    subst (λ a. length a.edges ≤ length (shape parts)) (analysis_vector parts analysis problem is) (omega (arith, few, all))
