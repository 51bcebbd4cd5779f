-- Rules of trees and of dags together.
use Rattle.std.proofs.Common.{◌≡◌, ℕ, ◌<◌, ◌⊎◌, inl, inr, Bool, true, false, List, sym, ◌∙◌, subst, arith}
use Rattle.std.proofs.lemmas.Bool.{false≢true}
use Rattle.xdg_facts.specs.Rises.{has}
use Rattle.xdg_rules.specs.Rules.{TakesForRoot, OneMother, NoCycle}
use Rattle.xdg_store.specs.States.{State}
use Rattle.xdg_propcore.specs.Passes.{Progress}
use Rattle.xdg_propcore.proofs.Passing.{goes_none}
use Rattle.xdg_pgraph.specs.declared.plane.Plane.{Plane}
use Rattle.xdg_pgraph.specs.Musts.{IsSettled, RunsBut}
use Rattle.xdg_pgraph.specs.Planes.{IsPlane}
use Rattle.xdg_pgraph.specs.Ruling.{RunsFor, ForRoot, ForOthers, OthersIf, RootIf, LabelIf, ByTree, ByDag}
use Rattle.xdg_pgraph.proofs.Branching.{root_parts, root_whole}
use Rattle.xdg_pgraph.proofs.Ruled.{Rule, both_run, part_none, wanted_runs}

-- one of two rules
abbrev Either : Rule → Rule → Rule
Either A B parts group box d v = A parts group box d v ⊎ B parts group box d v

pub root_runs : (dim : ℕ) (a b c : Progress) (s t u : State) → RunsFor ForRoot dim a s b t → RunsFor ForOthers dim b t c u → RunsFor TakesForRoot dim a s c u
root_runs dim a b c s t u = both_run dim a b c s t u ForRoot ForOthers TakesForRoot root_whole root_parts

pub tree_runs : (dim : ℕ) (a b c e f : Progress) (s t u v w : State) → RunsFor OneMother dim a s b t → RunsFor ForRoot dim b t c u → RunsFor ForOthers dim c u e v → RunsFor NoCycle dim e v f w → RunsFor ByTree dim a s f w
tree_runs dim a b c e f s t u v w one two three four = both_run dim a b f s t w OneMother (Either TakesForRoot NoCycle) ByTree (λ parts group box d x h. h) (λ parts group box d x h. h) one
    (both_run dim b e f t v w TakesForRoot NoCycle (Either TakesForRoot NoCycle) (λ parts group box d x h. h) (λ parts group box d x h. h) (root_runs dim b c e t u v two three) four)

pub dag_runs : (dim : ℕ) (a b c e : Progress) (s t u v : State) (rooted disjoint : Bool) → RunsFor (RootIf rooted) dim a s b t → RunsFor (LabelIf disjoint) dim b t c u → RunsFor NoCycle dim c u e v
    → RunsFor (ByDag rooted disjoint) dim a s e v
dag_runs dim a b c e s t u v rooted disjoint one two = both_run dim a c e s u v (Either (RootIf rooted) (LabelIf disjoint)) NoCycle (ByDag rooted disjoint)
    (λ parts group box d x h. elim h [ inl more ↦ inr more | inr cycle ↦ inl cycle ])
    (λ parts group box d x h. elim h [ inl cycle ↦ inr cycle | inr more ↦ inl more ])
    (both_run dim a b c s t u (RootIf rooted) (LabelIf disjoint) (Either (RootIf rooted) (LabelIf disjoint)) (λ parts group box d x h. h) (λ parts group box d x h. h) one two)

-- ---- the rules that go by the edges that may be, where only some nodes need be looked at

module _ (daughters : List ℕ) (wanted : Bool) (plane : Plane) (p q : Progress) (old new : State) where
  pub others_unwanted : wanted ≡ false → RunsBut daughters wanted plane.dim.0 p old p old
  others_unwanted no_wish group is on takes rests = part_none (OthersIf wanted) (OthersIf wanted) plane.dim.0 p old (λ group on quiet d v a h. false≢true (sym no_wish ∙ a.0)) group is on takes

  pub others_settled : IsPlane old.parts plane → ((w : ℕ) → w < plane.nodes → has daughters w ≡ true → IsSettled old.parts old.now plane.dim.0 w) → RunsBut daughters wanted plane.dim.0 p old p old
  others_settled plane_is settled group is on takes rests = record {
    goes = goes_none group p old;
    done = λ z d v a h. rests (λ box e x b. takes box e x (a.0, b)) (λ w l there. subst (λ k. IsSettled old.parts old.now k w) (sym on) (settled w (let n = plane_is.nodes_is in omega (arith, l, n)) there)) d v h a.1;
  }

  pub others_run : wanted ≡ true → RunsFor ForOthers plane.dim.0 p old q new → RunsBut daughters wanted plane.dim.0 p old q new
  others_run wish c group is on takes rests = wanted_runs plane.dim.0 p q old new ForOthers wanted wish c group is on takes
