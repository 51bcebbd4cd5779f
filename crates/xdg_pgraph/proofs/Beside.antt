-- An edge beside another one that must be: the rule of one mother, by the node into which both lead, and the rule of one label, by both their nodes.
use Rattle.std.proofs.Common.{◌≡◌, ◌≢◌, ℕ, ◌+◌, ◌<◌, ◌≤◌, ◌&&◌, inl, inr, Bool, false, List, ◌∷◌, refl, sym, ◌∙◌, subst, arith}
use Rattle.std.specs.Prelude.{Contains}
use Rattle.std.proofs.lemmas.Bool.{false≢true}
use Rattle.xdg_facts.specs.Rises.{has}
use Rattle.xdg_problem.specs.declared.analysis.Edge.{Edge}
use Rattle.xdg_problem.specs.declared.parts.Group.{Group}
use Rattle.xdg_problem.specs.declared.parts.Parts.{Parts}
use Rattle.xdg_problem.specs.Arguments.{first_dim}
use Rattle.xdg_problem.specs.Boxes.{Has}
use Rattle.xdg_rules.specs.Rules.{IsPlaceOn, OneLabel, OneMother, may_edges, must_edges}
use Rattle.xdg_rules.proofs.DecidingBoxes.{decided_edges}
use Rattle.xdg_store.specs.States.{State}
use Rattle.xdg_propcore.specs.Passes.{Progress, Clears}
use Rattle.xdg_propcore.proofs.Passing.{clears_like}
use Rattle.xdg_pgraph.specs.declared.entered.Entered.{Entered}
use Rattle.xdg_pgraph.specs.declared.found.Found.{Found}
use Rattle.xdg_pgraph.specs.declared.found.Found.TheVariants as founds
use Rattle.xdg_pgraph.specs.declared.plane.Plane.{Plane}
use Rattle.xdg_pgraph.specs.Entering.{Leaving, Tells}
use Rattle.xdg_pgraph.specs.Planes.{IsOnPlane, IsPlane}
use Rattle.xdg_pgraph.specs.Ruling.{RunsFor, OneLabelOf}
use Rattle.xdg_pgraph.specs.Seeking.{Aims, Doubled, Finds, FromTo, Into, IsOther, ToNode}
use Rattle.xdg_pgraph.proofs.Ruled.{AtNode, AtThose, Outside, Rule, RunsPart, node_cleared, nodes_all, part_like, part_none, part_then}
use Rattle.xdg_pgraph.proofs.Skipped.{must_may, place_may}
use Rattle.xdg_facts.proofs.Numbers.{up_to}
use Rattle.xdg_facts.proofs.Sets.{both, still_out}

-- ---- an edge beside which another was found

other_of : (P : Edge → Type 0) (found : Found) → Finds P found → (place : Edge) → IsOther found place → (other : Edge) × P other × (place ≢ other)
other_of P founds.Nothing f place o = absurd o
other_of P (founds.One g) f place o = (g, f.0, λ same. o (sym same))
other_of P founds.More f place o = elim (decided_edges place f.0) [
  | inl same ↦ (f.1, f.3, λ e. f.4 (sym same ∙ e))
  | inr differ ↦ (f.0, f.2, differ)
]

is_other : (P : Edge → Type 0) (found : Found) → Finds P found → (place other : Edge) → P other → place ≢ other → IsOther found place
is_other P founds.Nothing f place other p differ = f other p
is_other P (founds.One g) f place other p differ = λ same. differ (sym same ∙ f.1 other p)
is_other P founds.More f place other p differ = tt

pub doubled_clears : (parts : Parts) (dim : ℕ) (P : Edge → Type 0) (edges : List Edge) (found : Found) (p q : Progress) (old new : State) → Finds (λ e. Contains edges e × P e) found
    → Clears (Aims parts dim found P) p old q new → Clears (Doubled parts dim edges P) p old q new
doubled_clears parts dim P edges found p q old new f = clears_like (Aims parts dim found P) (Doubled parts dim edges P) p q old new
    (λ d x a. (let o = other_of (λ e. Contains edges e × P e) found f a.place a.other in record { place = a.place; is = a.is; from = a.aimed; other = o.0; among = o.1.0; differs = o.2; joins = o.1.1; says = a.says }))
    (λ d x a. record { place = a.place; is = a.is; aimed = a.from; other = is_other (λ e. Contains edges e × P e) found f a.place a.other (a.among, a.joins) a.differs; says = a.says })

-- ---- as the two rules say it

-- the value that says that one of some edges is present, beside which another of them must be
abbrev pub Beside : (Edge → Type 0) → Parts → List (List Bool) → ℕ → ℕ → ℕ → Type 0
Beside P parts box d v dim = Doubled parts dim (must_edges parts box dim) P d v

module _ (parts : Parts) (group : Group) (box : List (List Bool)) (d v dim : ℕ) (on : first_dim group ≡ dim) where
  mother_beside : (w : ℕ) (rule : OneMother parts group box d v) → ToNode w rule.place → Beside (ToNode w) parts box d v dim
  mother_beside w r at = subst (Beside (ToNode w) parts box d v) on
      (record { place = r.place; is = r.is; from = at; other = r.other; among = r.must; differs = r.differs; joins = sym r.both ∙ at; says = r.says })

  pub beside_mother : (w : ℕ) → Beside (ToNode w) parts box d v dim → OneMother parts group box d v
  beside_mother w beside =
      let b = subst (Beside (ToNode w) parts box d v) (sym on) beside in
      record { place = b.place; is = b.is; says = b.says; other = b.other; must = b.among; differs = b.differs; both = b.from ∙ sym b.joins }

  label_beside : (u w : ℕ) (rule : OneLabel parts group box d v) → FromTo u w rule.place → Beside (FromTo u w) parts box d v dim
  label_beside u w r at = subst (Beside (FromTo u w) parts box d v) on
      (record { place = r.place; is = r.is; from = at; other = r.other; among = r.must; differs = r.differs; joins = (sym r.mother ∙ at.0, sym r.daughter ∙ at.1); says = r.says })

  pub beside_label : (u w : ℕ) → Beside (FromTo u w) parts box d v dim → OneLabelOf (λ e. e.mother.0 ≡ u) parts group box d v
  beside_label u w beside =
      let b = subst (Beside (FromTo u w) parts box d v) (sym on) beside in
      record {
        rule = record { place = b.place; is = b.is; says = b.says; other = b.other; must = b.among; differs = b.differs; mother = b.from.0 ∙ sym b.joins.0; daughter = b.from.1 ∙ sym b.joins.1 };
        of = b.from.0;
      }

-- ---- nodes at which nothing is left

-- of edges of a kind: into a node that isn't crowded, as one is with an edge that must be and two that may be, none is to be taken
module _ (Kind : List Edge → Edge → Type 0) (P : Edge → Type 0) (w : ℕ) (into : (e : Edge) → P e → ToNode w e) (of : (edges : List Edge) (e : Edge) → Contains edges e → P e → Kind edges e)
    (parts : Parts) (box : List (List Bool)) (dim : ℕ) (must may : Entered) (crowded : List ℕ)
    (m : Tells (Kind (must_edges parts box dim)) must) (y : Tells (Kind (may_edges parts box dim)) may) (is : (n : ℕ) → has crowded n ≡ (has must.some n && has may.more n)) where
  not_crowded : has crowded w ≡ false → (d v : ℕ) → Beside P parts box d v dim → Has box d v → ⊥
  not_crowded none d v b h =
      let place = of (may_edges parts box dim) b.place (place_may parts box dim b.place d v b.is b.says h) b.from in
      let other = of (may_edges parts box dim) b.other (must_may parts box dim b.other b.among) b.joins in
      false≢true (sym none ∙ is w ∙ (both (has must.some w) (has may.more w)).1 (
        (m.once w).1 (b.other, of (must_edges parts box dim) b.other b.among b.joins, into b.other b.joins),
        (y.twice w).1 (record { first = b.place; one = (place, into b.place b.from); second = b.other; two = (other, into b.other b.joins); differ = b.differs }),
      ))

-- ---- one mother: over the nodes of a set

abbrev pub its_daughter : AtNode OneMother
its_daughter parts group box d v rule = rule.place.daughter.0

pub one_mother_start : (dim : ℕ) (p : Progress) (s : State) (must may : Entered) (left : List ℕ) → Tells (Contains (must_edges s.parts s.now dim)) must → Tells (Contains (may_edges s.parts s.now dim)) may
    → ((n : ℕ) → has left n ≡ (has must.some n && has may.more n)) → RunsPart OneMother (Outside OneMother its_daughter left) dim p s p s
one_mother_start dim p s must may left m y is = part_none OneMother (Outside OneMother its_daughter left) dim p s (λ group on quiet d v x.
    let w : ℕ = x.0.place.daughter.0 in
    not_crowded (λ edges. Contains edges) (ToNode w) w (λ e at. at) (λ edges e c at. c) s.parts s.now dim must may left m y is x.1 d v (mother_beside s.parts group s.now d v dim on w x.0 refl))

pub one_mother_turn : (dim : ℕ) (p q r : Progress) (old mid new : State) (left rest : List ℕ) (w : ℕ) (found : Found) → left ≡ w ∷ rest → Finds (Into (must_edges old.parts mid.now dim) w) found
    → RunsPart OneMother (Outside OneMother its_daughter left) dim p old q mid → Clears (Aims old.parts dim found (ToNode w)) q mid r new → RunsPart OneMother (Outside OneMother its_daughter rest) dim p old r new
one_mother_turn dim p q r old mid new left rest w found first f a c = node_cleared OneMother its_daughter dim p q r old mid new (λ n. has left n ≡ false) (λ n. has rest n ≡ false) w (still_out left rest w first)
    (Doubled old.parts dim (must_edges old.parts mid.now dim) (ToNode w))
    (λ group on lies d v. beside_mother old.parts group mid.now d v dim on w)
    (λ group on d v. mother_beside old.parts group mid.now d v dim on w)
    a (doubled_clears old.parts dim (ToNode w) (must_edges old.parts mid.now dim) found q r mid new f c)

-- ---- one label: from each node, to each other

-- for the edges out of a node
abbrev FromNode : ℕ → Rule
FromNode u = OneLabelOf (λ e. e.mother.0 ≡ u)

abbrev daughter_from : (u : ℕ) → AtNode (FromNode u)
daughter_from u parts group box d v x = x.rule.place.daughter.0

-- of these, those to nodes below a bound
abbrev pub LabelsInto : ℕ → ℕ → Rule
LabelsInto u k = AtThose (FromNode u) (daughter_from u) (λ n. n < k)

abbrev label_mother : AtNode OneLabel
label_mother parts group box d v rule = rule.place.mother.0

-- for the edges out of nodes below a bound
abbrev pub LabelsBelow : ℕ → Rule
LabelsBelow k = AtThose OneLabel label_mother (λ n. n < k)

pub label_turn : (dim : ℕ) (p q r : Progress) (old mid new : State) (u w : ℕ) → RunsPart (FromNode u) (LabelsInto u w) dim p old q mid → Clears (Doubled old.parts dim (must_edges old.parts mid.now dim) (FromTo u w)) q mid r new
    → RunsPart (FromNode u) (LabelsInto u (w + 1)) dim p old r new
label_turn dim p q r old mid new u w = node_cleared (FromNode u) (daughter_from u) dim p q r old mid new (λ n. n < w) (λ n. n < w + 1) w (up_to w) (Doubled old.parts dim (must_edges old.parts mid.now dim) (FromTo u w))
    (λ group on lies d v. beside_label old.parts group mid.now d v dim on u w)
    (λ group on d v x at. label_beside old.parts group mid.now d v dim on u w x.rule (x.of, at))

pub label_skip : (dim : ℕ) (p q : Progress) (old new : State) (u w : ℕ) (must may : Entered) (crowded : List ℕ) → Tells (Leaving (must_edges old.parts old.now dim) u) must → Tells (Leaving (may_edges old.parts old.now dim) u) may
    → ((n : ℕ) → has crowded n ≡ (has must.some n && has may.more n)) → has crowded w ≡ false → RunsPart (FromNode u) (LabelsInto u w) dim p old q new → RunsPart (FromNode u) (LabelsInto u (w + 1)) dim p old q new
label_skip dim p q old new u w must may crowded m y is none = part_like dim p q old new (FromNode u) (LabelsInto u w) (FromNode u) (LabelsInto u (w + 1)) (λ group on box d v x. x)
    (λ group on d v x h. elim (up_to w x.0.rule.place.daughter.0 x.1) [
      | inl before ↦ (x.0, before)
      | inr at ↦ absurd (not_crowded (λ edges. Leaving edges u) (FromTo u w) w (λ e from. from.1) (λ edges e c from. (c, from.0)) old.parts old.now dim must may crowded m y is none d v
          (label_beside old.parts group old.now d v dim on u w x.0.rule (x.0.of, at)) h)
    ])

-- the edges out of one node more
pub label_more : (dim : ℕ) (p q r : Progress) (old mid new : State) (u : ℕ) → RunsPart OneLabel (LabelsBelow u) dim p old q mid → RunsFor (FromNode u) dim q mid r new → RunsPart OneLabel (LabelsBelow (u + 1)) dim p old r new
label_more dim p q r old mid new u = part_then OneLabel (LabelsBelow u) (FromNode u) (FromNode u) (LabelsBelow (u + 1)) dim p q r old mid new (λ group on lies box d v x. x.rule)
    (λ group on d v x h. elim (up_to u x.0.place.mother.0 x.1) [ inl before ↦ inl (x.0, before) | inr at ↦ inr (record { rule = x.0; of = at }) ])

module _ (plane : Plane) (p q : Progress) (old new : State) (plane_is : IsPlane old.parts plane) where
  on_plane : (group : Group) → first_dim group ≡ plane.dim.0 → (d v : ℕ) (rule : OneLabel old.parts group old.now d v) → IsOnPlane plane rule.place
  on_plane group on d v rule = (plane_is.exact rule.place).0 (subst (λ k. IsPlaceOn old.parts k rule.place) on rule.is)

  pub labels_from : (u k : ℕ) → plane.nodes ≤ k → RunsPart (FromNode u) (LabelsInto u k) plane.dim.0 p old q new → RunsFor (FromNode u) plane.dim.0 p old q new
  labels_from u k all = nodes_all (FromNode u) (daughter_from u) plane.dim.0 p q old new (λ n. n < k) (λ group on d v x. (let l = (on_plane group on d v x.rule).daughter in omega (arith, l, all)))

  pub labels_all : (k : ℕ) → plane.nodes ≤ k → RunsPart OneLabel (LabelsBelow k) plane.dim.0 p old q new → RunsFor OneLabel plane.dim.0 p old q new
  labels_all k all = nodes_all OneLabel label_mother plane.dim.0 p q old new (λ n. n < k) (λ group on d v rule. (let l = (on_plane group on d v rule).mother in omega (arith, l, all)))
