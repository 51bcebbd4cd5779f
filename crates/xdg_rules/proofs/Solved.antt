-- A box that agrees with a whole vector is closed for a principle use exactly where the vector's analysis satisfies it.
use Rattle.std.proofs.Common.{◌≡◌, ℕ, ◌<◌, ◌↔◌, inl, inr, Bool, List, [], length, refl, sym, subst, arith}
use Rattle.std.specs.Prelude.{All}
use Rattle.xdg_problem.specs.declared.conditions.Condition.{Condition}
use Rattle.xdg_problem.specs.declared.conditions.Condition.TheVariants as conditions
use Rattle.xdg_problem.specs.declared.parts.Group.{Group}
use Rattle.xdg_problem.specs.declared.parts.Parts.{Parts}
use Rattle.xdg_problem.specs.declared.parts.Principle.{Principle}
use Rattle.xdg_problem.specs.declared.parts.Principle.TheVariants as principles
use Rattle.xdg_problem.specs.Arguments.{truth_of}
use Rattle.xdg_problem.specs.Asking.{AsksWhole}
use Rattle.xdg_problem.specs.Problems.{IsProblem, IsGroup, IsSuited}
use Rattle.xdg_problem.specs.Relations.{Relation}
use Rattle.xdg_problem.specs.Vectors.{shape, entry_places, entries_at, edges_in, analysis_of}
use Rattle.xdg_facts.proofs.Each.{one_kept, two_kept, three_kept, chosen_kept}
use Rattle.xdg_problem.proofs.WholeTests.{use_live, whole_stands}
use Rattle.xdg_problem.specs.Boxes.{Has, IsBox, Agrees}
use Rattle.xdg_rules.specs.Rules.{FailsTest, TakesBy, IsClosedFor}
use Rattle.xdg_rules.proofs.Agreeing.{holds_passes}
use Rattle.xdg_rules.proofs.Asked.{rule_takes_none, bound_takes_none}
use Rattle.xdg_rules.proofs.ClosedLive.{closed_live_for}
use Rattle.xdg_rules.proofs.Whole.{whole_fits}
use Rattle.xdg_rules.proofs.SoundTree.{Kept, one_mother, for_root, no_cycle, one_label, valency_entry, valency_full, valency_needed}
use Rattle.xdg_rules.proofs.SoundValues.{agr_values, agreement_values, government_values, daughter_order, about_head, of_head}
use Rattle.xdg_rules.proofs.SoundPaths.{projectivity_reach, climbing_reach, barriers_reach, linking_reach, linking_not_daughter}
use Rattle.xdg_problem.specs.Principles.{attr_arguments, conditions_for, linking_of, way_in}

module _ (parts : Parts) (group : Group) (group_is : IsGroup parts group) (box : List (List Bool)) (x : List ℕ) (problem : IsProblem parts) (is : IsBox (shape parts) box) (whole : length x ≡ length (shape parts)) (agrees : Agrees box x) where
  abbrev Holds : Condition → Type 0
  Holds condition = Kept parts group box x problem is whole agrees condition

  abbrev Whole : Principle → Type 0
  Whole principle = AsksWhole principle parts (entry_places parts.candidates (entries_at parts.candidates x)) (analysis_of parts x).attrs (edges_in parts x)

  -- a principle use that takes at least so many attributes
  takes_attrs : (principle : Principle) (count : ℕ) → group.principle ≡ principle → count < attr_arguments principle → count < attr_arguments group.principle
  takes_attrs principle count same l = subst (λ p. count < attr_arguments p) (sym same) l

  keeps_by : (principle : Principle) → group.principle ≡ principle → All Holds (conditions_for principle group.truths) → (d v : ℕ) → Has box d v → TakesBy principle parts group box d v → ⊥
  keeps_by principles.Tree same all d v has taken =
      let kept = (three_kept Holds conditions.Cycle conditions.Roots conditions.Mothers).1 all in
      elim taken [
        | inl mother ↦ one_mother parts group box x problem is whole agrees kept.2 d v has mother
        | inr (inl root) ↦ for_root parts group box x problem is whole agrees kept.1 d v has root
        | inr (inr cycle) ↦ no_cycle parts group box x problem is whole agrees kept.0 d v has cycle
      ]
  keeps_by principles.Dag same all d v has taken =
      let kept = (chosen_kept Holds (truth_of group.truths 0) (truth_of group.truths 1) conditions.Cycle conditions.Roots conditions.Pair).1 all in
      elim taken [
        | inl cycle ↦ no_cycle parts group box x problem is whole agrees kept.0 d v has cycle
        | inr (inl root) ↦ for_root parts group box x problem is whole agrees (kept.1 root.0) d v has root.1
        | inr (inr label) ↦ one_label parts group box x problem is whole agrees (kept.2 label.0) d v has label.1
      ]
  keeps_by principles.Valency same all d v has taken =
      let kept = (two_kept Holds conditions.InCount conditions.OutCount).1 all in
      elim taken [
        | inl entry ↦ valency_entry parts group box x problem is whole agrees kept.0 kept.1 d v has entry
        | inr (inl full) ↦ valency_full parts group box x problem is whole agrees d v has full
        | inr (inr needed) ↦ valency_needed parts group box x problem is whole agrees d v has needed
      ]
  keeps_by principles.Order same all d v has taken =
      let kept = (one_kept Holds conditions.Order).1 all in
      let known = takes_attrs principles.Order 0 same (omega arith) in
      elim taken [
        | inl daughters ↦ daughter_order parts group group_is box x problem is whole agrees kept d v has daughters
        | inr (inl about) ↦ about_head parts group group_is box x problem is whole agrees known kept d v has about
        | inr (inr head) ↦ of_head parts group group_is box x problem is whole agrees known kept d v has head
      ]
  keeps_by principles.Projectivity same all d v has taken = projectivity_reach parts group box x problem is whole agrees ((one_kept Holds conditions.Between).1 all) d v has taken
  keeps_by principles.Agr same all d v has taken = agr_values parts group group_is box x problem is whole agrees (takes_attrs principles.Agr 0 same (omega arith)) ((one_kept Holds conditions.Agr).1 all) d v has taken
  keeps_by principles.Agreement same all d v has taken = agreement_values parts group group_is box x problem is whole agrees (takes_attrs principles.Agreement 1 same (omega arith)) ((one_kept Holds conditions.Agree).1 all) d v has taken
  keeps_by principles.Government same all d v has taken = government_values parts group group_is box x problem is whole agrees (takes_attrs principles.Government 0 same (omega arith)) ((one_kept Holds conditions.Govern).1 all) d v has taken
  keeps_by principles.Climbing same all d v has taken = climbing_reach parts group box x problem is whole agrees ((one_kept Holds conditions.Below).1 all) d v has taken
  keeps_by principles.Barriers same all d v has taken = barriers_reach parts group box x problem is whole agrees ((one_kept Holds conditions.Blocked).1 all) d v has taken
  keeps_by principles.LinkingNotDaughter same all d v has taken = linking_not_daughter parts group box x problem is whole agrees same ((one_kept Holds conditions.Link).1 all) d v has taken
  keeps_by (principles.Rule formula) same all d v has taken =
      rule_takes_none parts group box x problem is whole agrees formula (subst (λ p. IsSuited p parts) same group_is.suits) (subst Whole same ((one_kept Holds conditions.Rule).1 all [] refl)) taken
  keeps_by (principles.Bound costs bound) same all d v has taken = bound_takes_none parts group box x problem is whole agrees costs bound (subst Whole same ((one_kept Holds conditions.Bound).1 all [] refl)) d v has taken
  keeps_by principles.Graph same all d v has taken = absurd taken
  keeps_by principles.Entries same all d v has taken = absurd taken
  keeps_by principle same all d v has taken = linking_reach parts group box x problem is whole agrees principle (way_in (linking_of principle)) same (λ e asks. asks) ((one_kept Holds conditions.Link).1 all) d v has taken

  -- no test fails, where the relation holds
  passes_tests : Relation parts group (analysis_of parts x) → FailsTest parts group box → ⊥
  passes_tests relation failing =
      let fits = whole_fits parts box x is agrees in
      let stands = whole_stands parts x problem fits whole group group_is failing.test failing.is in
      let live = (use_live parts x problem fits whole group group_is).1 relation in
      failing.fails ((holds_passes parts box x agrees group failing.test stands).0 (live.tests failing.test failing.is stands))

  pub relation_closed : Relation parts group (analysis_of parts x) → IsClosedFor parts group box
  relation_closed relation d v has (inl failing) = passes_tests relation failing
  relation_closed relation d v has (inr by) = keeps_by group.principle refl relation d v has by

  pub closed_relation : IsClosedFor parts group box → Relation parts group (analysis_of parts x)
  closed_relation closed = (use_live parts x problem (whole_fits parts box x is agrees) whole group group_is).0 (closed_live_for parts box x problem is agrees group group_is closed)

  pub closed_is_relation : IsClosedFor parts group box ↔ Relation parts group (analysis_of parts x)
  closed_is_relation = (closed_relation, relation_closed)
