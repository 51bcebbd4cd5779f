-- The one edge that may lead into a node.
use Rattle.std.proofs.Common.{◌≡◌, ℕ, ◌≤◌, inl, inr, Bool, false, List, [], ◌∷◌, length, refl, sym, ◌∙◌, ap, subst, arith}
use Rattle.std.specs.Prelude.{Contains, filter, ◌==◌}
use Rattle.std.proofs.lemmas.Bool.{eq-eqb, eqb-true}
use Rattle.std.proofs.lemmas.List.Sums.{length-filter}
use Rattle.xdg_problem.specs.declared.analysis.Edge.{Edge}
use Rattle.xdg_problem.specs.declared.parts.Group.{Group}
use Rattle.xdg_problem.specs.declared.parts.Parts.{Parts}
use Rattle.xdg_problem.specs.Analyses.{Before, IsPlace}
use Rattle.xdg_problem.specs.Arguments.{first_dim}
use Rattle.xdg_problem.specs.Boxes.{IsBox, LiesIn, edge_decision}
use Rattle.xdg_problem.specs.Paths.{mothers, roots}
use Rattle.xdg_problem.specs.Places.{nodes}
use Rattle.xdg_problem.specs.Vectors.{shape}
use Rattle.xdg_facts.proofs.Filters.{filter_contained}
use Rattle.xdg_facts.proofs.InOrder.{ordered_filter}
use Rattle.xdg_facts.proofs.Contained.{contains_head, contains_none}
use Rattle.xdg_facts.proofs.Keeping.{counts_one, counts_two}
use Rattle.xdg_problem.proofs.PlaceOrder.{places_ordered, is_place}
use Rattle.xdg_rules.specs.Rules.{OnlyMother, may_edges}
use Rattle.xdg_rules.proofs.Among.{roots_among}
use Rattle.xdg_rules.proofs.Shrinking.{may_be, may_among}
use Rattle.xdg_store.specs.States.{State, Known}
use Rattle.xdg_propcore.specs.Passes.{Progress, Clears, EachValue}
use Rattle.xdg_propcore.proofs.Passing.{clears_none, clears_like}
use Rattle.xdg_pgraph.specs.declared.entered.Roots.{Roots}
use Rattle.xdg_pgraph.specs.declared.entered.Roots.TheVariants as rootss
use Rattle.xdg_pgraph.specs.declared.found.Found.{Found}
use Rattle.xdg_pgraph.specs.declared.found.Found.TheVariants as founds
use Rattle.xdg_graph.specs.declared.which.Which.TheVariants as whichs
use Rattle.xdg_pgraph.specs.declared.plane.Plane.{Plane}
use Rattle.xdg_pgraph.specs.Planes.{IsPlane}
use Rattle.xdg_pgraph.specs.Seeking.{Finds, Into, NoneOnly, Only, RootsAre}
use Rattle.xdg_pgraph.specs.Ruling.{RunsFor, ForOthers}
use Rattle.xdg_pgraph.proofs.PlaneFacts.{which_place}
use Rattle.xdg_pgraph.proofs.Ruled.{AtNode, Outside, RunsPart, node_cleared, part_none}
use Rattle.xdg_pgraph.proofs.RuledRoots.{all_cleared, roots_same}
use Rattle.xdg_pgraph.proofs.TreeTests.{two_of}
use Rattle.xdg_facts.specs.Rises.{has}
use Rattle.xdg_facts.proofs.Sets.{still_out}

-- ---- how many edges lead into a node

module _ (parts : Parts) (box : List (List Bool)) (dim w : ℕ) where
  abbrev may : List Edge
  may = may_edges parts box dim

  pub one_mother_there : (f : Edge) → Finds (Into may w) (founds.One f) → mothers may w ≡ 1
  one_mother_there f found =
      let into : Edge → Bool = λ e. e.daughter.0 == w in
      let some = counts_one into f may found.0.0 (eq-eqb f.daughter.0 w found.0.1) in
      let same = length-filter into may in
      let only : (e : Edge) → Contains (filter into may) e → f ≡ e = λ e c. (let both = filter_contained into may e c in found.1 e (both.0, eqb-true e.daughter.0 w both.1)) in
      elim (two_of (filter into may) (ordered_filter Before into may (ordered_filter Before (may_be parts box dim) _ (places_ordered parts)))) [
        | inl most ↦ omega (arith, some, same, most)
        | inr (a, b, c, d, differ) ↦ absurd (differ (sym (only a c) ∙ only b d))
      ]

  pub not_more : Finds (Into may w) founds.More → mothers may w ≡ 1 → ⊥
  not_more found one = (let two = counts_two (λ (e : Edge). e.daughter.0 == w) found.0 found.1 may found.2.0 found.3.0 found.4 (eq-eqb found.0.daughter.0 w found.2.1) (eq-eqb found.1.daughter.0 w found.3.1) in omega (arith, two, one))

  pub only_nothing : (p : Progress) (s : State) (found : Found) → found ≡ founds.Nothing → Finds (Into may w) found → Clears (Only parts may w) p s p s
  only_nothing p s found is f = clears_none (Only parts may w) p s (λ d v a. subst (Finds (Into may w)) is f a.place (a.among, a.into))

  pub only_more : (p : Progress) (s : State) (found : Found) → found ≡ founds.More → Finds (Into may w) found → Clears (Only parts may w) p s p s
  only_more p s found is f = clears_none (Only parts may w) p s (λ d v a. not_more (subst (Finds (Into may w)) is f) a.one)

  pub only_one : (p q : Progress) (old new : State) (found : Found) (e : Edge) → found ≡ founds.One e → Finds (Into may w) found → Clears (λ d v. (d ≡ edge_decision parts e) × (v ≡ 1)) p old q new → Clears (Only parts may w) p old q new
  only_one p q old new found e is f c =
      let g = subst (Finds (Into may w)) is f in
      clears_like (λ d v. (d ≡ edge_decision parts e) × (v ≡ 1)) (Only parts may w) p q old new
      (λ d v t. record { place = e; among = g.0.0; into = g.0.1; one = one_mother_there e g; says = t })
      (λ d v a. (a.says.0 ∙ ap (edge_decision parts) (sym (g.1 a.place (a.among, a.into))), a.says.1))
      c

  pub only_place : (found : Found) (e : Edge) → found ≡ founds.One e → Finds (Into may w) found → IsPlace parts e
  only_place found e is f = is_place parts e (which_place whichs.May parts box dim e (subst (Finds (Into may w)) is f).0.0).0

-- ---- the rule, for daughters outside a set

abbrev pub only_daughter : AtNode OnlyMother
only_daughter parts group box d v rule = rule.place.daughter.0

only_of : (parts : Parts) (group : Group) (box : List (List Bool)) (d v dim w : ℕ) → first_dim group ≡ dim → (rule : OnlyMother parts group box d v) → rule.place.daughter.0 ≡ w → Only parts (may_edges parts box dim) w d v
only_of parts group box d v dim w on rule at = subst (λ k. Only parts (may_edges parts box k) w d v) on
    (record { place = rule.place; among = rule.may; into = at; one = ap (mothers (may_edges parts box (first_dim group))) (sym at) ∙ rule.only; says = rule.says })

module _ (plane : Plane) (p q r : Progress) (old mid new : State) (root : ℕ) (there : Contains (roots plane.nodes (may_edges old.parts old.now plane.dim.0)) root) where
  abbrev dim : ℕ
  dim = plane.dim.0

  pub only_start : (left : List ℕ) → ((v : ℕ) → has left v ≡ false → NoneOnly old.parts old.now dim v) → RunsPart OnlyMother (Outside OnlyMother only_daughter left) dim p old p old
  only_start left none = part_none OnlyMother (Outside OnlyMother only_daughter left) dim p old (λ group on quiet d v x. none x.0.place.daughter.0 x.1 d v (only_of old.parts group old.now d v dim x.0.place.daughter.0 on x.0 refl))

  module _ (left rest : List ℕ) (w : ℕ) (first : left ≡ w ∷ rest) (plane_is : IsPlane old.parts plane) (same : mid.parts ≡ old.parts) (known : Known mid) where
    root_stays : LiesIn mid.now old.now → Contains (roots (nodes old.parts) (may_edges old.parts mid.now dim)) root
    root_stays lies = roots_among (may_edges old.parts mid.now dim) (may_edges old.parts old.now dim) (may_among old.parts mid.now old.now (subst (λ z. IsBox (shape z) mid.now) same known.is_box) lies dim) (nodes old.parts) root
        (subst (λ n. Contains (roots n (may_edges old.parts old.now dim)) root) plane_is.nodes_is there)

    pub only_turn : RunsPart OnlyMother (Outside OnlyMother only_daughter left) dim p old q mid → Clears (Only old.parts (may_edges old.parts mid.now dim) w) q mid r new
        → RunsPart OnlyMother (Outside OnlyMother only_daughter rest) dim p old r new
    only_turn = node_cleared OnlyMother only_daughter dim p q r old mid new (λ n. has left n ≡ false) (λ n. has rest n ≡ false) w (still_out left rest w first) (Only old.parts (may_edges old.parts mid.now dim) w)
        (λ group on lies d v only.
        let h = subst (λ k. Only old.parts (may_edges old.parts mid.now k) w d v) (sym on) only in
        record {
          place = h.place;
          may = h.among;
          says = h.says;
          only = ap (mothers (may_edges old.parts mid.now (first_dim group))) h.into ∙ h.one;
          other = root;
          root = subst (λ k. Contains (roots (nodes old.parts) (may_edges old.parts mid.now k)) root) (sym on) (root_stays lies);
        })
        (λ group on d v. only_of old.parts group mid.now d v dim w on)

-- ---- by the number of the roots

module _ (plane : Plane) (p q : Progress) (old new : State) (plane_is : IsPlane old.parts plane) where
  may_roots : (box : List (List Bool)) (group : Group) → first_dim group ≡ plane.dim.0 → roots (nodes old.parts) (may_edges old.parts box (first_dim group)) ≡ roots plane.nodes (may_edges old.parts box plane.dim.0)
  may_roots box group on = roots_same old.parts plane (may_edges old.parts box) (first_dim group) plane_is on

  pub no_root_left : (found : Roots) → RootsAre (roots plane.nodes (may_edges old.parts old.now plane.dim.0)) found → found ≡ rootss.Nothing → RunsFor ForOthers plane.dim.0 p old p old
  no_root_left found are is = part_none ForOthers ForOthers plane.dim.0 p old (λ group on quiet d v a h.
      let none : roots (nodes old.parts) (may_edges old.parts old.now (first_dim group)) ≡ [] = may_roots old.now group on ∙ subst (RootsAre (roots plane.nodes (may_edges old.parts old.now plane.dim.0))) is are in
      elim a [
        | inl rule ↦ contains_none rule.other (subst (λ xs. Contains xs rule.other) none rule.root)
        | inr two ↦ (let e = ap length none in omega (arith, two, e))
      ])

  pub one_root_left : (found : Roots) (w : ℕ) → RootsAre (roots plane.nodes (may_edges old.parts old.now plane.dim.0)) found → found ≡ rootss.One w → ((root : ℕ) → Contains (roots plane.nodes (may_edges old.parts old.now plane.dim.0)) root → RunsFor OnlyMother plane.dim.0 p old q new) → RunsFor ForOthers plane.dim.0 p old q new
  one_root_left found w are is each group is_group on takes =
      let one : roots plane.nodes (may_edges old.parts old.now plane.dim.0) ≡ w ∷ [] = subst (RootsAre (roots plane.nodes (may_edges old.parts old.now plane.dim.0))) is are in
      let a = each w (subst (λ xs. Contains xs w) (sym one) (contains_head w [])) group is_group on (λ box d v x. takes box d v (inl x)) in
      record {
        goes = a.goes;
        done = λ z d v c h. elim c [
          | inl rule ↦ a.done z d v rule h
          | inr two ↦ (let e = ap length (ap (λ box. roots (nodes old.parts) (may_edges old.parts box (first_dim group))) (a.goes.quiet z).1 ∙ may_roots old.now group on ∙ one) in omega (arith, two, e))
        ];
      }

  pub more_roots_left : (found : Roots) → RootsAre (roots plane.nodes (may_edges old.parts old.now plane.dim.0)) found → found ≡ rootss.More → Clears EachValue p old q new → RunsFor ForOthers plane.dim.0 p old q new
  more_roots_left found are is c = all_cleared plane p q old new plane_is ForOthers EachValue c
      (λ group on d v aim. (let two : 2 ≤ length (roots plane.nodes (may_edges old.parts old.now plane.dim.0)) = subst (RootsAre (roots plane.nodes (may_edges old.parts old.now plane.dim.0))) is are in let e = ap length (may_roots old.now group on) in inr (omega (arith, two, e))))
      (λ group on d v a. tt)
