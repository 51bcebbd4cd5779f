-- The laws of the rules and of boxed prefixes, all of them.
use Rattle.std.proofs.Common.{◌≡◌, ℕ, ◌↔◌, Bool, List, length, sym, subst, ap, ◌∙◌, arith}
use Rattle.std.proofs.lemmas.List.{length-map}
use Rattle.xdg_facts.specs.Fits.{Fits}
use Rattle.xdg_problem.specs.declared.analysis.Analysis.{Analysis}
use Rattle.xdg_problem.specs.declared.parts.Group.{Group}
use Rattle.xdg_problem.specs.declared.parts.Parts.{Parts}
use Rattle.xdg_problem.specs.Analyses.{IsAnalysis}
use Rattle.xdg_problem.specs.Problems.{IsProblem, IsGroup}
use Rattle.xdg_problem.specs.Relations.{Relation}
use Rattle.xdg_problem.specs.Solutions.{IsSolution}
use Rattle.xdg_problem.specs.Vectors.{shape, vector, analysis_of}
use Rattle.xdg_problem.proofs.VectorFacts.{analysis_fits, analysis_vector, vector_fits, length_vector}
use Rattle.xdg_problem.proofs.WholeTests.{whole_live}
use Rattle.xdg_problem.specs.Boxes.{Has, IsBox, LiesIn, IsSingle, IsIn, without}
use Rattle.xdg_rules.specs.Rules.{first_true, Takes, IsClosedFor, IsClosed}
use Rattle.xdg_rules.specs.Boxed.{only, first_numbers, Boxed}
use Rattle.xdg_rules.specs.Laws.{IsInside, RuleLaws, EachRuleLaws, BoxedLaws}
use Rattle.xdg_rules.proofs.ClosedLive.{boxed_live, boxed_closed}
use Rattle.xdg_rules.proofs.DecidingClosed.{one_boxed_list}
use Rattle.xdg_rules.proofs.Greatest.{greatest_closed}
use Rattle.xdg_rules.proofs.Monotone.{monotone}
use Rattle.xdg_problem.proofs.BoxWithout.{lies_without}
use Rattle.xdg_rules.proofs.Sizes.{some_value}
use Rattle.xdg_rules.proofs.Single.{single_agrees, only_agrees, only_box, only_lies, agrees_lies, lies_agrees}
use Rattle.xdg_rules.proofs.Solved.{closed_is_relation}

module _ (parts : Parts) (problem : IsProblem parts) where
  module _ (group : Group) (group_is : IsGroup parts group) where
    without_taken : (small large : List (List Bool)) → IsBox (shape parts) small → LiesIn small large → IsClosedFor parts group small → (d v : ℕ) → Takes parts group large d v → LiesIn small (without large d v)
    without_taken small large is lies closed d v takes = lies_without small large d v lies (monotone parts group small large problem group_is is lies closed d v takes)

    none_left : (small large : List (List Bool)) → IsBox (shape parts) small → LiesIn small large → IsClosedFor parts group small → ((d v : ℕ) → Has large d v → Takes parts group large d v) → ⊥
    none_left small large is lies closed all =
        let some = some_value parts small problem is in
        monotone parts group small large problem group_is is lies closed 0 some.0 (all 0 some.0 (lies 0 some.0 some.1)) some.1

    covered : (box : List (List Bool)) → ((d v : ℕ) → Has box d v → IsInside parts group box d v) → IsClosedFor parts group box
    covered box inside d v has takes =
        let in_small = inside d v has in
        monotone parts group in_small.small box problem group_is in_small.is in_small.lies in_small.closed d v takes in_small.remains

    -- the box of a whole vector
    whole_single : (x : List ℕ) → Fits (shape parts) x → length x ≡ length (shape parts) → IsClosedFor parts group (only (shape parts) x) ↔ Relation parts group (analysis_of parts x)
    whole_single x fits whole = closed_is_relation parts group group_is (only (shape parts) x) x problem (only_box (shape parts) x fits whole) whole (only_agrees (shape parts) x fits)

    single : (analysis : Analysis) → IsAnalysis parts analysis → IsClosedFor parts group (only (shape parts) (vector parts analysis)) ↔ Relation parts group analysis
    single analysis is = subst (λ a. IsClosedFor parts group (only (shape parts) (vector parts analysis)) ↔ Relation parts group a) (analysis_vector parts analysis problem is) (whole_single (vector parts analysis) (vector_fits parts analysis problem is) (length_vector parts analysis problem is))

    alone : (box : List (List Bool)) → IsBox (shape parts) box → IsSingle box → IsClosedFor parts group box ↔ Relation parts group (analysis_of parts (first_numbers box))
    alone box is ones =
        let long : length box ≡ length (shape parts) = sym (length-map box length) ∙ ap length is.sizes in
        closed_is_relation parts group group_is box (first_numbers box) problem is (length-map box first_true ∙ long) (single_agrees box (λ d l. is.filled d (omega (arith, l, long))) ones)

    stays : (box : List (List Bool)) (analysis : Analysis) → IsAnalysis parts analysis → IsIn box (vector parts analysis) → Relation parts group analysis → (d v : ℕ) → Takes parts group box d v → Has (only (shape parts) (vector parts analysis)) d v → ⊥
    stays box analysis is lies relation =
        let fits = vector_fits parts analysis problem is in
        let whole = length_vector parts analysis problem is in
        monotone parts group (only (shape parts) (vector parts analysis)) box problem group_is (only_box (shape parts) (vector parts analysis) fits whole) (only_lies (shape parts) (vector parts analysis) box fits whole lies) ((single analysis is).1 relation)

    pub rule_laws : RuleLaws parts group
    rule_laws = record {
      monotone = λ small large is lies closed. monotone parts group small large problem group_is is lies closed;
      without_taken = without_taken;
      none_left = none_left;
      covered = covered;
      single = single;
      alone = alone;
      stays = stays;
    }

  pub each_rule_laws : EachRuleLaws parts
  each_rule_laws k d within = rule_laws _ (problem.groups k d within)

  boxed_solution : (x : List ℕ) → Fits (shape parts) x → length x ≡ length (shape parts) → Boxed parts x → IsSolution parts (analysis_of parts x)
  boxed_solution x fits whole boxed = record {
    fits = analysis_fits parts x problem fits whole;
    each = whole_live parts x problem fits whole (boxed_live parts x problem boxed);
  }

  solution_boxed : (x : List ℕ) → Fits (shape parts) x → length x ≡ length (shape parts) → IsSolution parts (analysis_of parts x) → Boxed parts x
  solution_boxed x fits whole solution = record {
    box = only (shape parts) x;
    is = only_box (shape parts) x fits whole;
    closed = λ k d l. (whole_single _ (problem.groups k d l) x fits whole).1 (solution.each k d l);
    agrees = only_agrees (shape parts) x fits;
  }

  boxed_inside : (prefix : List ℕ) → Fits (shape parts) prefix → Boxed parts prefix ↔ ((box : List (List Bool)) × IsBox (shape parts) box × IsClosed parts box × LiesIn box (only (shape parts) prefix))
  boxed_inside prefix fits = (
    λ boxed. (boxed.box, boxed.is, boxed.closed, agrees_lies (shape parts) boxed.box prefix boxed.is boxed.agrees),
    λ inside. record { box = inside.0; is = inside.1; closed = inside.2; agrees = lies_agrees (shape parts) prefix inside.0 fits inside.1 inside.3 },
  )

  pub boxed_laws : BoxedLaws parts
  boxed_laws = record {
    greatest = greatest_closed parts problem;
    inside = boxed_inside;
    fronts = boxed_closed parts;
    live = λ prefix boxed. boxed_live parts prefix problem boxed;
    whole = λ x fits whole. (boxed_solution x fits whole, solution_boxed x fits whole);
    listed = one_boxed_list parts problem;
    solutions = λ analysis solution. solution_boxed (vector parts analysis) (vector_fits parts analysis problem solution.fits) (length_vector parts analysis problem solution.fits) (subst (IsSolution parts) (sym (analysis_vector parts analysis problem solution.fits)) solution);
  }
