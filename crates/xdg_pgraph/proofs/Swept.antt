-- Where the rules of a principle use were run and took nothing the box is closed.
use Rattle.std.proofs.Common.{◌≡◌, ℕ, inl, inr, Bool, List, sym, ap, subst, arith}
use Rattle.xdg_problem.specs.declared.parts.Group.{Group}
use Rattle.xdg_problem.specs.declared.parts.Parts.{Parts}
use Rattle.xdg_problem.specs.declared.parts.Principle.{Principle}
use Rattle.xdg_problem.specs.declared.parts.Principle.TheVariants as principles
use Rattle.xdg_problem.specs.Arguments.{first_dim, label_count, truth_of}
use Rattle.xdg_problem.specs.Boxes.{Has, IsBox}
use Rattle.xdg_problem.specs.Problems.{IsGroup, IsProblem}
use Rattle.xdg_problem.specs.Vectors.{shape}
use Rattle.xdg_rules.specs.Rules.{IsClosedFor, Takes, TakesBy}
use Rattle.xdg_store.specs.States.{State, Known}
use Rattle.xdg_propcore.specs.Passes.{Progress}
use Rattle.xdg_propcore.specs.Sweeps.{Sweeps}
use Rattle.xdg_propcore.proofs.Sweeping.{sweeps_skip}
use Rattle.xdg_pgraph.specs.Bundles.{AreLabelsDone, IsLabelDone, IsWayDone}
use Rattle.xdg_pgraph.specs.declared.bundle.Way.{Way}
use Rattle.xdg_pgraph.specs.declared.bundle.Way.TheVariants as ways
use Rattle.xdg_pgraph.specs.Family.{IsOfFamily}
use Rattle.xdg_pgraph.specs.Musts.{AreMustsDone, ByMusts, RestsIf, RunsBut}
use Rattle.xdg_pgraph.specs.Ruling.{Runs, RunsFor, ByTree, ByDag}
use Rattle.xdg_pgraph.proofs.Branching.{IsBranching, is_rooted, others_rule, rule_parts}
use Rattle.xdg_pgraph.proofs.Bundled.{bundles_closed}
use Rattle.xdg_pgraph.proofs.Closing.{closed_by_rules}

at_way : (parts : Parts) (group : Group) (label : ℕ) (box : List (List Bool)) → IsLabelDone parts group label box → (way : Way) → IsWayDone way parts group label box
at_way parts group label box done ways.Out = done.0
at_way parts group label box done ways.In = done.1

module _ (group : Group) (p q : Progress) (old new : State) (is : IsGroup old.parts group) (family : IsOfFamily group.principle) (same : new.parts ≡ old.parts) (known : Known new) (dim : ℕ) (on : dim ≡ first_dim group) where
  closes : (principle : Principle) → group.principle ≡ principle → ((d v : ℕ) → Has new.now d v → TakesBy principle old.parts group new.now d v → ⊥) → IsClosedFor old.parts group new.now
  closes principle principle_is none = closed_by_rules old.parts group new.now (subst IsProblem same known.problem) (subst (λ parts. IsBox (shape parts) new.now) same known.is_box) family (subst (λ z. (d v : ℕ) → Has new.now d v → TakesBy z old.parts group new.now d v → ⊥) (sym principle_is) none)

  -- the rules of a principle were run
  ruled : (principle : Principle) → group.principle ≡ principle
      → (((box : List (List Bool)) (d v : ℕ) → TakesBy principle old.parts group box d v → Takes old.parts group box d v) → Runs (TakesBy principle old.parts group) group p old q new)
      → Sweeps group (IsClosedFor old.parts group) p old q new
  ruled principle principle_is run =
      let runs = run (λ box d v rule. inr (subst (λ z. TakesBy z old.parts group box d v) (sym principle_is) rule)) in
      record {
        goes = runs.goes;
        known = known;
        done = λ quiet. closes principle principle_is (λ d v h rule. runs.done quiet d v rule h);
      }

  pub tree_swept : group.principle ≡ principles.Tree → RunsFor ByTree dim p old q new → Sweeps group (IsClosedFor old.parts group) p old q new
  tree_swept principle_is c = ruled principles.Tree principle_is (c group is (sym on))

  -- of a dag, whose truth values are those that were read
  pub dag_swept : (rooted disjoint : Bool) → rooted ≡ truth_of group.truths 0 → disjoint ≡ truth_of group.truths 1 → group.principle ≡ principles.Dag → RunsFor (ByDag rooted disjoint) dim p old q new → Sweeps group (IsClosedFor old.parts group) p old q new
  dag_swept rooted disjoint rooted_is disjoint_is principle_is c =
      let run = subst (λ r. RunsFor (ByDag r (truth_of group.truths 1)) dim p old q new) rooted_is (subst (λ k. RunsFor (ByDag rooted k) dim p old q new) disjoint_is c) in
      ruled principles.Dag principle_is (run group is (sym on))

  -- where the edges that must be are those of before, and the rules that go by the others were run
  pub lasts : (principle : Principle) → group.principle ≡ principle → IsBranching principle → AreMustsDone old.parts group old.now → (daughters : List ℕ) → RestsIf daughters old.parts group old.now →
      (rooted : Bool) → rooted ≡ is_rooted principle group → RunsBut daughters rooted dim p old q new → Sweeps group (IsClosedFor old.parts group) p old q new
  lasts principle principle_is branching musts daughters rests rooted rooted_is c =
      let run = subst (λ r. RunsBut daughters r dim p old q new) rooted_is c in
      let runs = run group is (sym on) (λ box d v rule. inr (subst (λ z. TakesBy z old.parts group box d v) (sym principle_is) (others_rule old.parts group box d v principle branching rule))) rests in
      record {
        goes = runs.goes;
        known = known;
        done = λ quiet. closes principle principle_is (λ d v h rule. elim (rule_parts old.parts group new.now d v principle branching rule) [
          | inl left ↦
              let still = subst (λ box. (d v : ℕ) → Has box d v → ByMusts principle old.parts group box d v → ⊥) (sym (runs.goes.quiet quiet).1)
              (subst (λ z. (d v : ℕ) → Has old.now d v → ByMusts z old.parts group old.now d v → ⊥) principle_is musts) in
              still d v h left
          | inr others ↦ runs.done quiet d v others h
        ]);
      }

  pub valency_swept : (labels : ℕ) → labels ≡ label_count old.parts dim → group.principle ≡ principles.Valency → Sweeps group (AreLabelsDone labels old.parts group) p old q new → Sweeps group (IsClosedFor old.parts group) p old q new
  valency_swept labels labels_are principle_is sweep = sweeps_skip group (AreLabelsDone labels old.parts group) (IsClosedFor old.parts group) p old q new sweep
      (λ done. closes principles.Valency principle_is (bundles_closed old.parts group new.now (λ way node label within label_known.
      at_way old.parts group label new.now (done label (let count = ap (label_count old.parts) on in omega (arith, labels_are, count, label_known))) way node within)))
