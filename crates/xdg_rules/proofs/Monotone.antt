-- The monotone law: what a principle use takes from a box remains in no closed box that lies in it.
use Rattle.std.proofs.Common.{◌≡◌, ℕ, inl, inr, Bool, false, List, refl, arith}
use Rattle.xdg_problem.specs.declared.parts.Group.{Group}
use Rattle.xdg_problem.specs.declared.parts.Parts.{Parts}
use Rattle.xdg_problem.specs.declared.parts.Principle.{Principle}
use Rattle.xdg_problem.specs.declared.parts.Principle.TheVariants as principles
use Rattle.xdg_problem.specs.Arguments.{first_dim}
use Rattle.xdg_problem.specs.Claims.{claim}
use Rattle.xdg_problem.specs.Problems.{IsProblem, IsGroup}
use Rattle.xdg_problem.specs.Truths.{unbound}
use Rattle.xdg_problem.specs.Vectors.{shape}
use Rattle.xdg_problem.specs.Boxes.{Has, IsBox, LiesIn}
use Rattle.xdg_rules.specs.Rules.{TakesForRoot, TakesBy, Takes, IsClosedFor}
use Rattle.xdg_rules.proofs.Shrinking.{may_among, must_among, may_less, must_less}
use Rattle.xdg_rules.proofs.Antitone.{lies_at, valency_entry, one_mother, no_root, two_roots, no_cycle, one_label, antitone}
use Rattle.xdg_rules.proofs.Counting.{valency_full, valency_needed}
use Rattle.xdg_rules.proofs.Rooted.{root_found, only_mother}
use Rattle.xdg_rules.proofs.Failing.{fails_small}
use Rattle.xdg_rules.proofs.Narrowing.{narrower}
use Rattle.xdg_rules.proofs.Costing.{costs_lie, cost_more, bound_kept}

module _ (parts : Parts) (group : Group) (small large : List (List Bool)) (problem : IsProblem parts) (group_is : IsGroup parts group) (is : IsBox (shape parts) small) (lies : LiesIn small large) where
  for_root : (d v : ℕ) → (TakesForRoot parts group small d v → ⊥) → TakesForRoot parts group large d v → ⊥
  for_root d v keeps (inl found) = root_found parts group small large is lies d v (λ r. keeps (inl r)) (λ r. keeps (inr (inl r))) found
  for_root d v keeps (inr (inl none)) = keeps (inr (inl (no_root parts group small large (must_among parts small large is lies (first_dim group)) none)))
  for_root d v keeps (inr (inr (inl only))) = only_mother parts group small large is lies d v (λ r. keeps (inr (inr (inl r)))) (λ r. keeps (inr (inr (inr r)))) only
  for_root d v keeps (inr (inr (inr two))) = keeps (inr (inr (inr (two_roots parts group small large (may_among parts small large is lies (first_dim group)) two))))

  -- where the rules of a principle take nothing that remains in the small box
  taken_by : (principle : Principle) → group.principle ≡ principle → ((d v : ℕ) → Has small d v → TakesBy principle parts group small d v → ⊥) → (d v : ℕ) → Has small d v → TakesBy principle parts group large d v → ⊥
  taken_by principles.Tree same keeps d v has (inl mother) = keeps d v has (inl (one_mother parts group small large (must_among parts small large is lies (first_dim group)) d v mother))
  taken_by principles.Tree same keeps d v has (inr (inl root)) = for_root d v (λ r. keeps d v has (inr (inl r))) root
  taken_by principles.Tree same keeps d v has (inr (inr cycle)) = keeps d v has (inr (inr (no_cycle parts group small large (must_among parts small large is lies (first_dim group)) d v cycle)))
  taken_by principles.Dag same keeps d v has (inl cycle) = keeps d v has (inl (no_cycle parts group small large (must_among parts small large is lies (first_dim group)) d v cycle))
  taken_by principles.Dag same keeps d v has (inr (inl root)) = for_root d v (λ r. keeps d v has (inr (inl (root.0, r)))) root.1
  taken_by principles.Dag same keeps d v has (inr (inr label)) = keeps d v has (inr (inr (label.0, one_label parts group small large (must_among parts small large is lies (first_dim group)) d v label.1)))
  taken_by principles.Valency same keeps d v has (inl entry) = keeps d v has (inl
      (valency_entry parts group small large (may_less parts small large is lies (first_dim group)) (must_less parts small large is lies (first_dim group)) d v entry))
  taken_by principles.Valency same keeps d v has (inr (inl full)) = valency_full parts group small large problem is lies (λ e c there entry. keeps e c there (inl entry)) d v (λ r. keeps d v has (inr (inl r))) full
  taken_by principles.Valency same keeps d v has (inr (inr needed)) = valency_needed parts group small large problem is lies (λ e c there entry. keeps e c there (inl entry)) d v (λ r. keeps d v has (inr (inr r))) needed
  taken_by (principles.Rule formula) same keeps d v has taken = keeps d v has (narrower parts small large is lies (claim formula) false unbound taken)
  taken_by (principles.Bound costs bound) same keeps d v has (inl reached) = keeps d v has (inl (let more = cost_more parts costs small large problem is (costs_lie parts small large lies) in omega (arith, reached, more)))
  taken_by (principles.Bound costs bound) same keeps d v has (inr place) =
      bound_kept parts costs small large problem is (costs_lie parts small large lies) bound d v (λ reached. keeps d v has (inl reached)) (λ rule. keeps d v has (inr rule)) has place
  taken_by principle same keeps d v has taken = keeps d v has (antitone parts group group_is small large is principle same tt (lies_at principle parts group small large lies) d v taken)

  pub monotone : IsClosedFor parts group small → (d v : ℕ) → Takes parts group large d v → Has small d v → ⊥
  monotone closed d v taken has = elim taken [
    | inl failing ↦ closed d v has (inl (fails_small parts group small large problem group_is is (lies_at group.principle parts group small large lies) failing))
    | inr by ↦ taken_by group.principle refl (λ e x there r. closed e x there (inr r)) d v has by
  ]
