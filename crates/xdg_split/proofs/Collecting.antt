-- What a stream has found so far, kept.
use Rattle.std.proofs.Common.{◌≡◌, ℕ, ◌+◌, List, [], ◌∷◌, ◌++◌, length, map, refl, ap, ap₂, sym, ◌∙◌, subst, arith, length-append, Some, None}
use Rattle.std.specs.Prelude.{Option}
use Rattle.std.proofs.lemmas.List.{length-map}
use Rattle.xdg_split.specs.Written.{IsSome}
use Rattle.xdg_split.proofs.FoundSoFar.{all_answers, first_answers, map_more, spent_answers}
use Rattle.xdg_facts.specs.Endings.{IsAt, IsBelow}
use Rattle.xdg_facts.specs.declared.Ending.{Ending}
use Rattle.xdg_facts.specs.declared.Ending.TheVariants as endings
use Rattle.xdg_problem.specs.declared.analysis.Analysis.{Analysis}
use Rattle.xdg_problem.specs.declared.parts.Parts.{Parts}
use Rattle.xdg_problem.specs.Problems.{IsProblem}
use Rattle.xdg_problem.specs.Vectors.{analysis_of}
use Rattle.xdg_stream.specs.declared.search.Step.TheVariants as steps
use Rattle.xdg_split.specs.Asked.{Asked, asked}
use Rattle.xdg_split.specs.Finds.{AreFound}
use Rattle.xdg_split.specs.Splits.{IsSplit}
use Rattle.xdg_split.proofs.Together.{split_single}
use Rattle.xdg_stream.specs.Streamed.{Advances, IsCharged, Streamed}
use Rattle.xdg_stream.proofs.Streaming.{end_found, spent_found}
use Rattle.xdg_facts.proofs.Wanted.{below_more}

-- The analyses of the vectors that a stream has found are kept, and the stream goes on.
pub record Collected (wanted : Option ℕ) (parts : Parts) (budget : ℕ) (s : Streamed) (found : List Analysis) : Type 0 where
  pub problem : s.parts ≡ parts
  pub begun : s.start ≡ []
  pub spends : s.budget ≡ budget
  pub vectors : List (List ℕ)
  pub so_far : IsCharged s vectors
  pub below : IsBelow (length vectors) wanted
  pub found_are : found ≡ map (analysis_of parts) vectors

pub below_some : (wanted : Option ℕ) → IsSome wanted → IsBelow 0 wanted
below_some None some = tt
below_some (Some n) some = omega (arith, some)

pub collected_none : (wanted : Option ℕ) (s : Streamed) (found : List Analysis) → IsSome wanted → s.start ≡ [] → IsCharged s [] → found ≡ [] → Collected wanted s.parts s.budget s found
collected_none wanted s found some begun charged none = record {
  problem = refl;
  begun = begun;
  spends = refl;
  vectors = [];
  so_far = charged;
  below = below_some wanted some;
  found_are = none;
}

module _ {wanted : Option ℕ} {parts : Parts} {budget : ℕ} {s t : Streamed} {found : List Analysis} (k : Collected wanted parts budget s found) where
  -- nothing more was found
  pub collected_end : Advances s steps.End t → AreFound parts budget wanted endings.Complete found
  collected_end step = record {
    vectors = k.vectors;
    answered = all_answers wanted parts [] budget t k.vectors (step.given.0 ∙ k.problem) (step.given.1 ∙ k.begun) (step.given.2 ∙ k.spends) (step.charged k.vectors k.so_far) (step.stops end_found).0 k.below;
    found_are = k.found_are;
  }

  pub collected_spent : Advances s steps.Spent t → AreFound parts budget wanted endings.Spent found
  collected_spent step = record {
    vectors = k.vectors;
    answered = spent_answers wanted parts [] budget t k.vectors (step.given.0 ∙ k.problem) (step.given.1 ∙ k.begun) (step.given.2 ∙ k.spends) (step.charged k.vectors k.so_far) (step.stops spent_found).0 k.below;
    found_are = k.found_are;
  }

  -- an analysis more was found
  module _ (step : Advances s steps.Found t) (new : List Analysis) (grown : new ≡ found ++ analysis_of t.parts t.last ∷ []) where
    abbrev vectors : List (List ℕ)
    vectors = k.vectors ++ t.last ∷ []

    new_are : new ≡ map (analysis_of parts) vectors
    new_are = grown ∙ ap₂ (λ xs (p : Parts). xs ++ analysis_of p t.last ∷ []) k.found_are (step.given.0 ∙ k.problem) ∙ sym (map_more parts k.vectors t.last)

    many : length new ≡ length vectors
    many = ap length new_are ∙ length-map vectors (analysis_of parts)

    one_more : length vectors ≡ length k.vectors + 1
    one_more = let l = length-append k.vectors (t.last ∷ []) in omega (arith, l)

    pub collected_first : (n : ℕ) → n ≡ length new → wanted ≡ Some n → AreFound parts budget wanted endings.First new
    collected_first n is e = record {
      vectors = vectors;
      answered = first_answers wanted parts [] budget t vectors (step.given.0 ∙ k.problem) (step.given.1 ∙ k.begun) (step.given.2 ∙ k.spends) (step.charged k.vectors k.so_far) (subst (IsAt (length vectors)) (sym e) (sym (is ∙ many)));
      found_are = new_are;
    }

    pub collected_more : (n : ℕ) → n ≡ length new → (wanted ≡ Some n → ⊥) → Collected wanted parts budget t new
    collected_more n is other = record {
      problem = step.given.0 ∙ k.problem;
      begun = step.given.1 ∙ k.begun;
      spends = step.given.2 ∙ k.spends;
      vectors = vectors;
      so_far = step.charged k.vectors k.so_far;
      below = below_more wanted (length k.vectors) (length vectors) k.below one_more (λ e. other (e ∙ ap Some (sym (is ∙ many))));
      found_are = new_are;
    }

-- what the search of a job finds is what the job comes to
pub searched : (parts held : Parts) (budget own : ℕ) (first : Option ℕ) (job : Asked) (ending : Ending) (found : List Analysis) → IsProblem parts → held ≡ parts → own ≡ budget → asked parts budget first ≡ job
    → AreFound held own first ending found → IsSplit job.first (job ∷ []) ending found
searched parts held budget own first job ending found is same_parts same_budget asks f =
    let here : AreFound parts budget first ending found = subst (λ p. AreFound p budget first ending found) same_parts (subst (λ b. AreFound held b first ending found) same_budget f) in
    subst (λ j. IsSplit j.first (j ∷ []) ending found) asks (split_single (asked parts budget first) is ending found here)
