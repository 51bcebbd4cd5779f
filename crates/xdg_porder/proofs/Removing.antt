-- Items that are taken, one by one.
use Rattle.std.proofs.Common.{◌≡◌, ◌≢◌, ℕ, ◌<◌, ◌==◌, ◌&&◌, inl, inr, Bool, true, false, List, refl, sym, ap, ◌∙◌, arith, subst}
use Rattle.std.specs.Prelude.{not}
use Rattle.std.proofs.lemmas.Bool.{ne_eqb, false≢true, eq-eqb}
use Rattle.xdg_problem.specs.declared.parts.Group.{Group}
use Rattle.xdg_problem.specs.declared.parts.Parts.{Parts}
use Rattle.xdg_problem.specs.Analyses.{IsPlace}
use Rattle.xdg_problem.specs.Arguments.{first_dim}
use Rattle.xdg_problem.specs.Boxes.{Has, edge_decision}
use Rattle.xdg_problem.specs.Places.{edge, nodes}
use Rattle.xdg_problem.specs.Problems.{IsGroup}
use Rattle.xdg_rules.specs.Rules.{Takes, attr_of_node}
use Rattle.xdg_store.specs.InRange.{HasValue}
use Rattle.xdg_store.specs.States.{State, Known}
use Rattle.xdg_propcore.specs.Passes.{Progress, Clears, Goes}
use Rattle.xdg_propcore.specs.Sweeps.{Sweeps}
use Rattle.xdg_propcore.proofs.Aimed.{ByOne}
use Rattle.xdg_propcore.proofs.Sweeping.{sweeps_start, sweeps_skip, sweeps_both, sweeps_taken}
use Rattle.xdg_porder.specs.Items.{IsAtNode, IsReady, MayOwn, NoneFollow, NoneStand, TakesEdges, TakesItems, edge_to}
use Rattle.xdg_graph.specs.Slots.{IsSlot, decision_of}
use Rattle.xdg_graph.specs.declared.slot.Slot.{Slot}
use Rattle.xdg_graph.proofs.SlotValues.{slot_below}
use Rattle.xdg_facts.specs.Rises.{has}
use Rattle.xdg_facts.proofs.Sets.{both}

-- what is ready stays so
pub ready_later : (group : Group) (Done : List (List Bool) → Type 0) (p : Progress) (old : State) (q : Progress) (new : State) → IsReady group old → Sweeps group Done p old q new → IsReady group new
ready_later group Done p old q new ready a = record { known = a.known; group_is = subst (λ parts. IsGroup parts group) (sym a.goes.extends.same) ready.group_is }

pub node_later : (group : Group) (u : ℕ) (Done : List (List Bool) → Type 0) (p : Progress) (old : State) (q : Progress) (new : State) → IsAtNode group u old → Sweeps group Done p old q new → IsAtNode group u new
node_later group u Done p old q new at a = ((ready_later group Done p old q new at.0.0 a, at.0.1), subst (λ (parts : Parts). u < nodes parts) (sym a.goes.extends.same) at.1)

-- ---- edges

-- that the edge to a node is present
abbrev pub EdgeAt : ℕ → ℕ → ℕ → Parts → ℕ → ℕ → ℕ → Type 0
EdgeAt dim u label parts v d x = (d ≡ edge_decision parts (edge dim u label v)) × (x ≡ 0)

pub edge_place : (group : Group) (u label : ℕ) (set : List ℕ) (old : State) → TakesEdges group u label set old → (dim v : ℕ) (now : Parts) → now ≡ old.parts → dim ≡ first_dim group → has set v ≡ true → IsPlace now (edge dim u label v)
edge_place group u label set old takes dim v now same on there = subst (λ parts. IsPlace parts (edge dim u label v)) (sym same) (subst (λ d. IsPlace old.parts (edge d u label v)) (sym on) (takes.2 v there).0)

pub edges_taken : (group : Group) (u label dim : ℕ) (set : List ℕ) (p q : Progress) (old new : State) → dim ≡ first_dim group → IsReady group old → TakesEdges group u label set old → Known new
    → Clears (ByOne (λ v. has set v ≡ true) (EdgeAt dim u label old.parts)) p old q new → Sweeps group (NoneFollow old.parts group u label set) p old q new
edges_taken group u label dim set p q old new on ready takes known c = record {
  goes = c.goes group takes.0 ready.group_is takes.1 (λ d x (v, there, aim).
      subst (λ i. Takes old.parts group takes.0 i x) (sym (aim.0 ∙ decision_is v)) (subst (λ y. Takes old.parts group takes.0 (edge_decision old.parts (edge_to group u label v)) y) (sym aim.1) (takes.2 v there).1));
  known = known;
  done = λ quiet v there may. c.gone quiet (edge_decision old.parts (edge_to group u label v)) 0 (v, there, (sym (decision_is v), refl)) may;
} where
  decision_is : (v : ℕ) → edge_decision old.parts (edge dim u label v) ≡ edge_decision old.parts (edge_to group u label v)
  decision_is v = ap (λ d. edge_decision old.parts (edge d u label v)) on

-- ---- own labels

abbrev pub OwnGone : Parts → Group → ℕ → ℕ → Bool → List (List Bool) → Type 0
OwnGone parts group u label asked box = asked ≡ true → MayOwn parts group box u label → ⊥

pub own_unasked : (group : Group) (u label : ℕ) (asked : Bool) (p : Progress) (s : State) → Known s → asked ≡ false → Sweeps group (OwnGone s.parts group u label asked) p s p s
own_unasked group u label asked p s known not_so = sweeps_start group (OwnGone s.parts group u label asked) p s known (λ so. absurd (false≢true (sym not_so ∙ so)))

pub own_value : (group : Group) (u label wide : ℕ) (s : State) (slot : Slot) → Known s → IsSlot s.parts slot → decision_of s.parts slot ≡ attr_of_node s.parts group 0 u → wide ≡ label → MayOwn s.parts group s.now u label → HasValue s.parts slot.node.0 slot.dim.0 slot.attr.0 wide
own_value group u label wide s slot known is same widened own =
    let l = slot_below s slot label known is (subst (λ d. Has s.now d label) (sym same) own) in
    let c = is.count_is in
    record { node_in = is.node_in; dim_in = is.dim_in; attr_in = is.attr_in; value_in = omega (arith, l, c, widened) }

pub own_taken : (group : Group) (u label wide : ℕ) (asked : Bool) (p : Progress) (s : State) (slot : Slot) (q : Progress) (new : State) → IsReady group s → decision_of s.parts slot ≡ attr_of_node s.parts group 0 u → wide ≡ label → Takes s.parts group s.now (attr_of_node s.parts group 0 u) label
    → ((g : Group) → IsGroup s.parts g → Takes s.parts g s.now (decision_of s.parts slot) wide → Goes g p s q new) → Known new → (Has new.now (decision_of s.parts slot) wide → q.dead ≡ true) → Sweeps group (OwnGone s.parts group u label asked) p s q new
own_taken group u label wide asked p s slot q new ready same widened takes goes known gone =
    sweeps_taken group (λ box. Unit {0}) (OwnGone s.parts group u label asked) p s p s q new (decision_of s.parts slot) wide (sweeps_start group (λ box. Unit {0}) p s ready.known tt)
    (goes group ready.group_is (subst (λ d. Takes s.parts group s.now d wide) (sym same) (subst (λ x. Takes s.parts group s.now (attr_of_node s.parts group 0 u) x) (sym widened) takes)))
    known gone (λ none not so own. not (subst (λ d. Has new.now d wide) (sym same) (subst (λ x. Has new.now (attr_of_node s.parts group 0 u) x) (sym widened) own)))

-- ---- both

module _ (group : Group) (u label : ℕ) (refused daughters : List ℕ) (own : Bool) (p : Progress) (old : State) (at : IsAtNode group u old) (takes : TakesItems group u label refused old) (own_is : own ≡ has refused u) (left_is : (n : ℕ) → has daughters n ≡ (not (n == u) && has refused n)) where
  differs : (v : ℕ) → not (v == u) ≡ true → v ≢ u
  differs v h same = false≢true (sym (ap not (eq-eqb v u same)) ∙ h)

  other : (v : ℕ) → v ≢ u → has refused v ≡ true → has daughters v ≡ true
  other v differ there = left_is v ∙ (both (not (v == u)) (has refused v)).1 (ap not (ne_eqb v u differ), there)

  pub own_takes : own ≡ true → MayOwn old.parts group old.now u label × Takes old.parts group old.now (attr_of_node old.parts group 0 u) label
  own_takes so = takes.0 (sym own_is ∙ so)

  module _ (q : Progress) (mid : State) (a : Sweeps group (OwnGone old.parts group u label own) p old q mid) where
    pub edges_take : TakesEdges group u label daughters mid
    edges_take = (
      old.now,
      a.goes.extends.inside,
      λ v there.
          let two = (both (not (v == u)) (has refused v)).0 (sym (left_is v) ∙ there) in
          let t = takes.1 v two.1 (differs v two.0) in
          subst (λ parts. IsPlace parts (edge_to group u label v) × Takes parts group old.now (edge_decision parts (edge_to group u label v)) 0) (sym a.goes.extends.same) t,
    )

    pub items_gone : (r : Progress) (new : State) → Sweeps group (NoneFollow mid.parts group u label daughters) q mid r new → Sweeps group (NoneStand old.parts group u label refused) p old r new
    items_gone r new b =
        let c = subst (λ parts. Sweeps group (NoneFollow parts group u label daughters) q mid r new) a.goes.extends.same b in
        sweeps_skip group (λ box. OwnGone old.parts group u label own box × NoneFollow old.parts group u label daughters box) (NoneStand old.parts group u label refused) p old r new
        (sweeps_both group (OwnGone old.parts group u label own) (NoneFollow old.parts group u label daughters) p old q mid r new a c)
        (λ done v there stands. elim stands [
          | inl here ↦ done.0 (own_is ∙ subst (λ k. has refused k ≡ true) here.0 there) here.1
          | inr follows ↦ done.1 v (other v (λ same. follows.0.differ (sym same)) there) follows.1
        ])
