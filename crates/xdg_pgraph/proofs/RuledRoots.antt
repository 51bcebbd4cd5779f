-- The rules of roots, step by step.
use Rattle.std.proofs.Common.{◌≡◌, ℕ, ◌<◌, ◌≤◌, inl, inr, List, [], ◌∷◌, length, get_or, sym, ◌∙◌, ap, subst, arith}
use Rattle.std.specs.Prelude.{Contains}
use Rattle.xdg_problem.specs.declared.analysis.Edge.{Edge}
use Rattle.xdg_problem.specs.declared.parts.Group.{Group}
use Rattle.xdg_problem.specs.declared.parts.Parts.{Parts}
use Rattle.xdg_problem.specs.Arguments.{first_dim}
use Rattle.xdg_problem.specs.Paths.{roots}
use Rattle.xdg_problem.specs.Places.{nodes}
use Rattle.xdg_rules.proofs.Among.{root_contained}
use Rattle.xdg_rules.specs.Rules.{IsPlaceOn, must_edges}
use Rattle.xdg_store.specs.States.{State}
use Rattle.xdg_propcore.specs.Passes.{Progress, Clears, EachValue}
use Rattle.xdg_pgraph.specs.declared.entered.Roots.{Roots}
use Rattle.xdg_pgraph.specs.declared.entered.Roots.TheVariants as rootss
use Rattle.xdg_pgraph.specs.declared.found.Found.TheVariants as founds
use Rattle.xdg_pgraph.specs.declared.plane.Plane.{Plane}
use Rattle.xdg_pgraph.specs.Planes.{IsPlane}
use Rattle.xdg_pgraph.specs.Seeking.{Aims, ToNode, RootsAre}
use Rattle.xdg_pgraph.specs.Ruling.{RunsFor, ForRoot}
use Rattle.xdg_pgraph.proofs.Ruled.{Never, Rule, part_cleared, part_none}
use Rattle.xdg_facts.proofs.Contained.{contains_head}
use Rattle.xdg_pgraph.proofs.Rising.{node_below}

-- a node that is the only root is a node
pub root_within : (n : ℕ) (edges : List Edge) (found : Roots) (w : ℕ) → RootsAre (roots n edges) found → found ≡ rootss.One w → w < n
root_within n edges found w are is =
    let one : roots n edges ≡ w ∷ [] = subst (RootsAre (roots n edges)) is are in
    node_below n w (root_contained n edges w (subst (λ xs. Contains xs w) (sym one) (contains_head w []))).0

-- the roots by the edges of a dimension
pub roots_same : (parts : Parts) (plane : Plane) (edges : ℕ → List Edge) (k : ℕ) → IsPlane parts plane → k ≡ plane.dim.0 → roots (nodes parts) (edges k) ≡ roots plane.nodes (edges plane.dim.0)
roots_same parts plane edges k plane_is on = ap (λ j. roots (nodes parts) (edges j)) on ∙ ap (λ n. roots n (edges plane.dim.0)) (sym plane_is.nodes_is)

module _ (plane : Plane) (p q : Progress) (old new : State) (plane_is : IsPlane old.parts plane) where
  abbrev dim : ℕ
  dim = plane.dim.0

  -- what is cleared, where all of it is taken by the rule, and the rule takes nothing else
  pub all_cleared : (TakesRule : Rule) (Aim : ℕ → ℕ → Type 0) → Clears Aim p old q new → ((group : Group) → first_dim group ≡ dim → (d v : ℕ) → Aim d v → TakesRule old.parts group old.now d v) → ((group : Group) → first_dim group ≡ dim → (d v : ℕ) → TakesRule old.parts group old.now d v → Aim d v) → RunsFor TakesRule dim p old q new
  all_cleared TakesRule Aim c to from = part_cleared dim p p q old old new TakesRule Never TakesRule Aim (λ group on lies. to group on) (λ group on d v a. inr (from group on d v a))
      (part_none TakesRule Never dim p old (λ group on quiet d v none h. none)) c

  must_roots : (group : Group) → first_dim group ≡ dim → roots (nodes old.parts) (must_edges old.parts old.now (first_dim group)) ≡ roots plane.nodes (must_edges old.parts old.now dim)
  must_roots group on = roots_same old.parts plane (must_edges old.parts old.now) (first_dim group) plane_is on

  pub no_root_runs : (found : Roots) → RootsAre (roots plane.nodes (must_edges old.parts old.now dim)) found → found ≡ rootss.Nothing → Clears EachValue p old q new → RunsFor ForRoot dim p old q new
  no_root_runs found are is c = all_cleared ForRoot EachValue c (λ group on d v a. inr (must_roots group on ∙ subst (RootsAre (roots plane.nodes (must_edges old.parts old.now dim))) is are)) (λ group on d v a. tt)

  pub one_root_runs : (found : Roots) (w : ℕ) → RootsAre (roots plane.nodes (must_edges old.parts old.now dim)) found → found ≡ rootss.One w → Clears (Aims old.parts dim founds.More (ToNode w)) p old q new → RunsFor ForRoot dim p old q new
  one_root_runs found w are is c =
      let one : roots plane.nodes (must_edges old.parts old.now dim) ≡ w ∷ [] = subst (RootsAre (roots plane.nodes (must_edges old.parts old.now dim))) is are in
      all_cleared ForRoot (Aims old.parts dim founds.More (ToNode w)) c
      (λ group on d v a. inl (record { place = a.place; is = subst (λ k. IsPlaceOn old.parts k a.place) (sym on) a.is; says = a.says; root = must_roots group on ∙ one ∙ ap (λ k. k ∷ []) (sym a.aimed) }))
      (λ group on d v a. elim a [
        | inl r ↦ record { place = r.place; is = subst (λ k. IsPlaceOn old.parts k r.place) on r.is; aimed = ap (λ xs. get_or xs 0 0) (sym r.root ∙ must_roots group on ∙ one); other = tt; says = r.says }
        | inr none ↦ absurd (let e = ap length (sym none ∙ must_roots group on ∙ one) in omega (arith, e))
      ])

  pub more_roots_run : (found : Roots) → RootsAre (roots plane.nodes (must_edges old.parts old.now dim)) found → found ≡ rootss.More → RunsFor ForRoot dim p old p old
  more_roots_run found are is = part_none ForRoot ForRoot dim p old (λ group on quiet d v a h.
      let many : 2 ≤ length (roots plane.nodes (must_edges old.parts old.now dim)) = subst (RootsAre (roots plane.nodes (must_edges old.parts old.now dim))) is are in
      let same = must_roots group on in
      elim a [
        | inl r ↦ (let e = ap length (sym r.root ∙ same) in omega (arith, e, many))
        | inr none ↦ (let e = ap length (sym none ∙ same) in omega (arith, e, many))
      ])
