-- Analyses and whole vectors are one to one.
use Rattle.xdg_problem.specs.declared.parts.Parts.{Parts}
use Rattle.xdg_problem.specs.OneToOne.{IsOneToOne}
use Rattle.xdg_problem.specs.Problems.{IsProblem}
use Rattle.xdg_problem.proofs.VectorFacts.{vector_fits, length_vector, analysis_fits, vector_analysis, analysis_vector}

pub one_to_one : (parts : Parts) → IsProblem parts → IsOneToOne parts
one_to_one parts p = record {
  fits = λ a h. vector_fits parts a p h;
  whole = λ a h. length_vector parts a p h;
  analysis = λ x f l. analysis_fits parts x p f l;
  back = λ x f l. vector_analysis parts x p f l;
  forth = λ a h. analysis_vector parts a p h;
}
