-- Searches for edges, step by step.
use Rattle.std.proofs.Common.{◌≡◌, ℕ, ◌+◌, ◌<◌, ◌≤◌, ◌⊎◌, ◌↔◌, inl, inr, Bool, true, IsTrue, List, [], ◌∷◌, length, refl, sym, ◌∙◌, ap, subst, arith}
use Rattle.std.specs.Prelude.{Contains}
use Rattle.std.proofs.lemmas.List.{nil_from_length}
use Rattle.xdg_facts.proofs.Rising.{head_in, head_or_tail, no_member}
use Rattle.xdg_nodeset.specs.Nodes.{IsNodes}
use Rattle.xdg_problem.specs.declared.analysis.Edge.{Edge}
use Rattle.xdg_problem.specs.declared.parts.Parts.{Parts}
use Rattle.xdg_problem.specs.Places.{edge}
use Rattle.xdg_problem.proofs.Edges.{edge_equal}
use Rattle.xdg_pgraph.specs.declared.found.Found.{Found}
use Rattle.xdg_pgraph.specs.declared.found.Found.TheVariants as founds
use Rattle.xdg_graph.specs.declared.which.Which.{Which}
use Rattle.xdg_pgraph.specs.declared.plane.Plane.{Plane}
use Rattle.xdg_pgraph.specs.Planes.{IsPlane}
use Rattle.xdg_graph.specs.Edges.{edges_of}
use Rattle.xdg_pgraph.specs.Seeking.{Finds, IsMore, Joins, Into, IntoWith, found_with, found_merged}
use Rattle.xdg_pgraph.proofs.Below.{Below, below_apart, below_cases, below_last, below_more}
use Rattle.xdg_pgraph.proofs.Looked.{finds_like, finds_with, finds_merged}
use Rattle.xdg_pgraph.proofs.PlaneFacts.{which_on, which_place}
use Rattle.xdg_facts.specs.Rises.{has}
use Rattle.xdg_facts.proofs.Sets.{two_in}

-- those with one of the first labels
abbrev pub FirstLabels : (Edge → Type 0) → ℕ → Edge → Type 0
FirstLabels P l = Below (λ e. e.label.0) P l

found_all : (P : Edge → Type 0) (l : ℕ) (found : Found) → ((e : Edge) → P e → e.label.0 < l) → Finds (FirstLabels P l) found → Finds P found
found_all P l found all = finds_like (FirstLabels P l) P found (λ e j. j.0) (λ e j. (j, all e j))

-- two are enough
pub into_two : (P : Edge → Type 0) (l : ℕ) (found : Found) → IsMore found → Finds (FirstLabels P l) found → Finds P found
into_two P l founds.Nothing more f = absurd more
into_two P l (founds.One e) more f = absurd more
into_two P l founds.More more f = (f.0, f.1, f.2.0, f.3.0, f.4)

-- ---- as the code goes

module _ (which : Which) (parts : Parts) (box : List (List Bool)) (plane : Plane) where
  abbrev those : List Edge
  those = edges_of which parts box plane.dim.0

  those_on : (e : Edge) → Contains those e → e.dim.0 ≡ plane.dim.0
  those_on e c = (which_place which parts box plane.dim.0 e c).1

  -- the edges from a node to another, label by label
  module _ (u v l : ℕ) (e : Edge) (found : Found) (is : e ≡ edge plane.dim.0 u l v) (so_far : Finds (FirstLabels (Joins those u v) l) found) where
    abbrev First : ℕ → Edge → Type 0
    First = FirstLabels (Joins those u v)

    label_cases : (f : Edge) → First (l + 1) f → First l f ⊎ (e ≡ f)
    label_cases f j = elim (below_cases (λ g. g.label.0) (Joins those u v) l f j) [
      | inl before ↦ inl before
      | inr (here, k) ↦ inr (is ∙ sym (edge_equal f (edge plane.dim.0 u l v) (those_on f here.0) here.1.0 k here.1.1))
    ]

    pub joined_yes : (new : Found) → Contains (edges_of which parts box e.dim.0) e → new ≡ found_with found e → Finds (First (l + 1)) new
    joined_yes new c new_is = rw (new_is, is) (finds_with (First l) (First (l + 1)) found (edge plane.dim.0 u l v) (below_more (λ f. f.label.0) (Joins those u v) l)
        ((rw is at c, (refl, refl)), omega arith) (rw is at label_cases) (λ j. (let b = j.1 in omega (arith, b))) so_far)

    pub joined_not : (Contains (edges_of which parts box e.dim.0) e → ⊥) → Finds (First (l + 1)) found
    joined_not none = finds_like (First l) (First (l + 1)) found (below_more (λ f. f.label.0) (Joins those u v) l)
        (λ f j. elim (label_cases f j) [ inl k ↦ k | inr same ↦ absurd (none (rw same (subst (λ d. Contains (edges_of which parts box d) f) (sym (those_on f j.0.0)) j.0.0))) ]) so_far

  -- those into a node, label by label
  pub into_turn : (v l : ℕ) (found more new : Found) → Finds (IntoWith those v l) more → new ≡ found_merged found more → Finds (FirstLabels (Into those v) l) found → Finds (FirstLabels (Into those v) (l + 1)) new
  into_turn v l found more new j new_is f =
      let label : Edge → ℕ = λ e. e.label.0 in
      rw new_is (finds_merged (FirstLabels (Into those v) l) (IntoWith those v l) (FirstLabels (Into those v) (l + 1)) found more (below_more label (Into those v) l)
      (below_last label (Into those v) l) (below_cases label (Into those v) l) (below_apart label (Into those v) l) f j)

  -- those with one label into a node, by the set of their mothers
  module _ (v l : ℕ) (mothers : List ℕ) (exact : (m : ℕ) → IsTrue (has mothers m) ↔ Contains those (edge plane.dim.0 m l v)) where
    this_mother : (e : Edge) (m : ℕ) → IntoWith those v l e → e.mother.0 ≡ m → edge plane.dim.0 m l v ≡ e
    this_mother e m i k = sym (edge_equal e (edge plane.dim.0 m l v) (those_on e i.0.0) k i.1 i.0.1)

    mother_in : (e : Edge) → IntoWith those v l e → has mothers e.mother.0 ≡ true
    mother_in e i = (exact e.mother.0).1 (subst (Contains those) (sym (this_mother e e.mother.0 i refl)) i.0.0)

    edge_in : (m : ℕ) → has mothers m ≡ true → IntoWith those v l (edge plane.dim.0 m l v)
    edge_in m h = (((exact m).0 h, refl), refl)

    pub none_found : mothers ≡ [] → Finds (IntoWith those v l) founds.Nothing
    none_found none e i = no_member mothers e.mother.0 none (mother_in e i)

    pub one_found : (m : ℕ) (rest : List ℕ) (f : Edge) → mothers ≡ m ∷ rest → length mothers ≤ 1 → f ≡ edge plane.dim.0 m l v → Finds (IntoWith those v l) (founds.One f)
    one_found m rest f is few f_is = rw f_is (
      edge_in m (head_in mothers rest m is),
      λ e i. this_mother e m i (elim (head_or_tail mothers rest m e.mother.0 is (mother_in e i)) [
        | inl same ↦ sym same
        | inr later ↦ absurd (no_member rest e.mother.0 (nil_from_length rest (let n : length mothers ≡ length (m ∷ rest) = ap length is in omega (arith, n, few))) later)
      ]),
    )

    pub more_found : IsNodes mothers → 1 < length mothers → Finds (IntoWith those v l) founds.More
    more_found nodes two = (let t = two_in mothers nodes.rises two in (edge plane.dim.0 t.0 l v, edge plane.dim.0 t.1 l v, edge_in t.0 t.2, edge_in t.1 t.3, λ same. t.4 (ap (λ (e : Edge). e.mother.0) same)))

  module _ (plane_is : IsPlane parts plane) where
    pub joined_end : (u v l : ℕ) (found : Found) → plane.labels ≤ l → Finds (FirstLabels (Joins those u v) l) found → Finds (Joins those u v) found
    joined_end u v l found all = found_all (Joins those u v) l found (λ e j. (let k = (which_on which parts box plane plane_is e j.0).label in omega (arith, k, all)))

    pub into_end : (v l : ℕ) (found : Found) → plane.labels ≤ l → Finds (FirstLabels (Into those v) l) found → Finds (Into those v) found
    into_end v l found all = found_all (Into those v) l found (λ e j. (let k = (which_on which parts box plane plane_is e j.0).label in omega (arith, k, all)))
