-- What is kept of boxes is kept of analyses.
use Rattle.std.proofs.Common.{◌≡◌, ◌≢◌, ℕ, suc, ◌<◌, Bool, List, [], ◌∷◌, All, length, sym, ◌∙◌, arith, subst}
use Rattle.xdg_problem.specs.declared.analysis.Analysis.{Analysis}
use Rattle.xdg_problem.specs.declared.parts.Parts.{Parts}
use Rattle.xdg_problem.specs.Analyses.{IsAnalysis}
use Rattle.xdg_problem.specs.Boxes.{IsBox, IsIn, LiesIn}
use Rattle.xdg_problem.specs.Problems.{IsProblem}
use Rattle.xdg_problem.specs.Relations.{Relation}
use Rattle.xdg_problem.specs.Vectors.{shape, vector}
use Rattle.xdg_problem.proofs.VectorFacts.{vector_fits, length_vector}
use Rattle.xdg_rules.specs.Boxed.{only}
use Rattle.xdg_rules.specs.Rules.{IsClosedFor}
use Rattle.xdg_rules.proofs.RuleLaws.{rule_laws}
use Rattle.xdg_rules.proofs.Single.{agrees_in, only_agrees, only_box, only_lies}
use Rattle.xdg_store.specs.States.{State, Known}
use Rattle.xdg_propcore.specs.Fixed.{IsClosedByAll, Settles}
use Rattle.xdg_propcore.specs.Steps.{Keeps, KeepsBoxes}
use Rattle.xdg_propcore.specs.Uses.{Satisfies, no_use, use_at}
use Rattle.xdg_propcore.specs.declared.fixpoint.Fixpoint.{Fixpoint}
use Rattle.xdg_propcore.specs.declared.fixpoint.Fixpoint.TheVariants as fixpoints
use Rattle.xdg_propcore.specs.declared.moved.Moved.{Moved}
use Rattle.xdg_store.proofs.Boxed.{length_box}

in_larger : (small large : List (List Bool)) (x : List ℕ) → length small ≡ length large → LiesIn small large → IsIn small x → IsIn large x
in_larger [] [] [] e l h = tt
in_larger [] [] (n ∷ x) e l h = h
in_larger [] (row ∷ large) x e l h = absurd (omega (arith, e))
in_larger (row ∷ small) [] x e l h = absurd (omega (arith, e))
in_larger (row ∷ small) (more ∷ large) [] e l h = h
in_larger (row ∷ small) (more ∷ large) (n ∷ x) e l (h, rest) = (l 0 n h, in_larger small large x (omega (arith, e)) (λ d v k. l (suc d) v k) rest)

module _ (parts : Parts) (problem : IsProblem parts) (analysis : Analysis) (is : IsAnalysis parts analysis) where
  -- the box of the analysis
  abbrev single : List (List Bool)
  single = only (shape parts) (vector parts analysis)

  single_box : IsBox (shape parts) single
  single_box = only_box (shape parts) (vector parts analysis) (vector_fits parts analysis problem is) (length_vector parts analysis problem is)

  single_lies : (box : List (List Bool)) → IsIn box (vector parts analysis) → LiesIn single box
  single_lies box h = only_lies (shape parts) (vector parts analysis) box (vector_fits parts analysis problem is) (length_vector parts analysis problem is) h

  single_in : (box : List (List Bool)) → IsBox (shape parts) box → LiesIn single box → IsIn box (vector parts analysis)
  single_in box box_is lies =
      let mine = agrees_in single (vector parts analysis) (length_box (shape parts) single single_box ∙ sym (length_vector parts analysis problem is)) (only_agrees (shape parts) (vector parts analysis) (vector_fits parts analysis problem is)) in
      in_larger single box (vector parts analysis) (length_box (shape parts) single single_box ∙ sym (length_box (shape parts) box box_is)) lies mine

  single_closed : (number : ℕ) → number < length parts.groups → Relation parts (use_at parts number) analysis → IsClosedFor parts (use_at parts number) single
  single_closed number within relation = ((rule_laws parts problem (use_at parts number) (problem.groups number no_use within)).single analysis is).1 relation

-- a step that keeps closed boxes keeps analyses
pub keeps_boxes : (stands : Parts → ℕ → Type 0) (moved : Moved) (old new : State) → Known new → new.parts ≡ old.parts → KeepsBoxes stands old.parts moved old.now new.now → Keeps stands moved old new
keeps_boxes stands moved old new known same keeps = record {
  boxes = keeps;
  analyses = λ number mine analysis is relation inside.
      let problem : IsProblem old.parts = subst IsProblem same known.problem in
      let box_is : IsBox (shape old.parts) new.now = subst (λ q. IsBox (shape q) new.now) same known.is_box in
      let k = keeps number mine (single old.parts problem analysis is) (single_box old.parts problem analysis is) (single_closed old.parts problem analysis is number mine.0 relation) (single_lies old.parts problem analysis is old.now inside) in
      (k.0, single_in old.parts problem analysis is new.now box_is k.1);
}

module _ {P : Type 0} (stands : P → Parts → ℕ → Type 0) (props : List P) (old new : State) (known : Known new) (same : new.parts ≡ old.parts) (analysis : Analysis) (is : IsAnalysis old.parts analysis) (satisfies : All (λ p. Satisfies (stands p) old.parts analysis) props) (inside : IsIn old.now (vector old.parts analysis)) where
  problem : IsProblem old.parts
  problem = subst IsProblem same known.problem

  closed : IsClosedByAll stands props old.parts (single old.parts problem analysis is)
  closed = record {
    is = single_box old.parts problem analysis is;
    closed = λ at d l number mine. single_closed old.parts problem analysis is number mine.0 (satisfies at d l number mine);
  }

  pub all_kept : (fixpoint : Fixpoint) → Settles fixpoint stands props old new → (fixpoint ≢ fixpoints.Dead) × IsIn new.now (vector old.parts analysis)
  all_kept fixpoints.Settled greatest = (λ e. cc, single_in old.parts problem analysis is new.now (subst (λ q. IsBox (shape q) new.now) same known.is_box) (greatest.greatest (single old.parts problem analysis is) closed (single_lies old.parts problem analysis is old.now inside)))
  all_kept fixpoints.Dead none = absurd (none (single old.parts problem analysis is) closed (single_lies old.parts problem analysis is old.now inside))
