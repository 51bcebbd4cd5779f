-- Edges across nodes, taken by a table.
use Rattle.std.proofs.Common.{◌≡◌, ℕ, ◌<◌, ◌↔◌, ◌&&◌, inl, inr, Bool, true, List, [], get_or, refl, sym, ◌∙◌, arith, subst}
use Rattle.xdg_nodeset.specs.Tables.{InTable}
use Rattle.xdg_problem.specs.declared.analysis.Edge.{Edge}
use Rattle.xdg_problem.specs.declared.parts.Group.{Group}
use Rattle.xdg_problem.specs.declared.parts.Parts.{Parts}
use Rattle.xdg_problem.specs.declared.parts.Principle.TheVariants as principles
use Rattle.xdg_problem.specs.Analyses.{IsPlace}
use Rattle.xdg_problem.specs.Arguments.{first_dim}
use Rattle.xdg_problem.specs.Asking.{IsBetween}
use Rattle.xdg_problem.specs.Boxes.{IsBox, edge_decision}
use Rattle.xdg_problem.specs.Paths.{Above}
use Rattle.xdg_problem.specs.Places.{nodes}
use Rattle.xdg_problem.specs.Vectors.{shape}
use Rattle.xdg_problem.proofs.PlaceOrder.{place_is}
use Rattle.xdg_problem.proofs.Walks.{above_edge}
use Rattle.xdg_rules.specs.Rules.{Takes, TakesBy, may_edges}
use Rattle.xdg_rules.proofs.Among.{above_among}
use Rattle.xdg_rules.proofs.Shrinking.{may_among, may_exact}
use Rattle.xdg_store.specs.States.{State}
use Rattle.xdg_propcore.specs.Passes.{Progress}
use Rattle.xdg_propcore.specs.Sweeps.{Sweeps}
use Rattle.xdg_propcore.proofs.Sweeping.{sweeps_start}
use Rattle.xdg_graph.specs.Edges.{edge_labels}
use Rattle.xdg_porder.specs.Across.{AreLabelsDone, Crosses, IsAcrossNode, IsLabelDone, IsTabled}
use Rattle.xdg_porder.specs.Items.{MayFollow, NoneFollow, TakesEdges, edge_to}
use Rattle.xdg_porder.proofs.Removing.{ready_later}
use Rattle.xdg_facts.specs.Rises.{has}
use Rattle.xdg_facts.proofs.Sets.{both}

-- a node between two nodes of the sentence is one
pub between_within : (u v w n : ℕ) → IsBetween u v w → u < n → v < n → w < n
between_within u v w n between a b = elim between [
  | inl up ↦ (let x = up.1 in omega (arith, x, b))
  | inr down ↦ (let x = down.1 in omega (arith, x, a))
]

pub tabled_later : (group : Group) (table : List (List ℕ)) (Done : List (List Bool) → Type 0) (p : Progress) (old : State) (q : Progress) (new : State) → IsTabled group table old → Sweeps group Done p old q new → IsTabled group table new
tabled_later group table Done p old q new at a =
    let same = a.goes.extends.same in
    let box_is : IsBox (shape old.parts) new.now = subst (λ parts. IsBox (shape parts) new.now) same a.known.is_box in
    record {
      ready = ready_later group Done p old q new at.ready a;
      projective = at.projective;
      covers = subst (λ parts. (x y : ℕ) → Above (may_edges parts new.now (first_dim group)) x y → InTable table x y) (sym same)
          (λ x y above. at.covers x y (above_among (may_edges old.parts new.now (first_dim group)) (may_edges old.parts old.now (first_dim group)) (may_among old.parts new.now old.now box_is a.goes.extends.inside (first_dim group)) x y above));
    }

pub across_later : (group : Group) (table : List (List ℕ)) (u : ℕ) (Done : List (List Bool) → Type 0) (p : Progress) (old : State) (q : Progress) (new : State) → IsAcrossNode group table u old → Sweeps group Done p old q new → IsAcrossNode group table u new
across_later group table u Done p old q new at a = (tabled_later group table Done p old q new at.0 a, subst (λ (parts : Parts). u < nodes parts) (sym a.goes.extends.same) at.1)

-- what is taken: an edge across a node that can't be below its mother
pub across_taken : (parts : Parts) (group : Group) (box : List (List Bool)) (e : Edge) (w : ℕ) → group.principle ≡ principles.Projectivity → IsPlace parts e → e.dim.0 ≡ first_dim group
    → IsBetween e.mother.0 e.daughter.0 w → (Above (may_edges parts box (first_dim group)) e.mother.0 w → ⊥) → Takes parts group box (edge_decision parts e) 0
across_taken parts group box e w projective is on between apart = inr (subst (λ q. TakesBy q parts group box (edge_decision parts e) 0) (sym projective) (record {
  place = e;
  is = (place_is parts e is, on);
  says = (refl, refl);
  node = w;
  within = between_within e.mother.0 e.daughter.0 w (nodes parts) between is.mother is.daughter;
  between = between;
  apart = apart;
}))

module _ (group : Group) (table : List (List ℕ)) (u : ℕ) (s : State) (at : IsAcrossNode group table u s) (reached across : List ℕ) (reached_is : reached ≡ get_or table u [])
    (across_is : (x : ℕ) → (has across x ≡ true) ↔ ((x < 128) × (has reached x ≡ true) × Crosses u reached x)) where
  -- a daughter across a node that isn't reached is one of those across
  pub in_across : (label v w : ℕ) → MayFollow s.parts group s.now u label v → IsBetween u v w → (InTable table u w → ⊥) → has across v ≡ true
  in_across label v w follows between out =
      let few = at.0.ready.known.problem.most in
      let below = follows.0.daughter in
      let e = edge_to group u label v in
      let edges = may_edges s.parts s.now (first_dim group) in
      let above : Above edges u v = above_edge edges e ((may_exact s.parts s.now (first_dim group) e).1 ((place_is s.parts e follows.0, refl), follows.1)) in
      (across_is v).1 (omega (arith, few, below), subst (λ set. has set v ≡ true) (sym reached_is) (at.0.covers u v above), (w, between, λ h. out (subst (λ set. has set w ≡ true) reached_is h)))

  pub across_none : ((v : ℕ) → has across v ≡ true → ⊥) → (p : Progress) → Sweeps group (AreLabelsDone s.parts group table u (edge_labels s.parts (first_dim group))) p s p s
  across_none none p = sweeps_start group (AreLabelsDone s.parts group table u (edge_labels s.parts (first_dim group))) p s at.0.ready.known
      (λ label l v follows w between out. none v (in_across label v w follows between out))

  module _ (label : ℕ) (refused follow : List ℕ) (follow_is : (v : ℕ) → (has follow v ≡ true) ↔ MayFollow s.parts group s.now u label v)
      (refused_is : (n : ℕ) → has refused n ≡ (has follow n && has across n)) where
    pub across_takes : TakesEdges group u label refused s
    across_takes = (
      s.now,
      (λ d v h. h),
      λ v there.
          let two = (both (has follow v) (has across v)).0 (sym (refused_is v) ∙ there) in
          let (is, may) = (follow_is v).0 two.0 in
          let (small, known, (w, between, out)) = (across_is v).0 two.1 in
          (is, across_taken s.parts group s.now (edge_to group u label v) w at.0.projective is refl between (λ above. out (subst (λ set. has set w ≡ true) (sym reached_is) (at.0.covers u w above)))),
    )

    pub across_done : (p q : Progress) (new : State) → Sweeps group (NoneFollow s.parts group u label refused) p s q new → Sweeps group (IsLabelDone s.parts group table u label) p s q new
    across_done p q new a = record {
      goes = a.goes;
      known = a.known;
      done = λ quiet v follows w between out.
          let before = subst (λ box. MayFollow s.parts group box u label v) (a.goes.quiet quiet).1 follows in
          a.done quiet v (refused_is v ∙ (both (has follow v) (has across v)).1 ((follow_is v).1 before, in_across label v w before between out)) follows.1;
    }
