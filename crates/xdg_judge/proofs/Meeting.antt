-- Edges that join two nodes, by sets.
use Rattle.std.proofs.Common.{◌≡◌, ℕ, ◌⊎◌, ◌↔◌, inl, inr, Bool, true, List, [], refl, sym, ◌∙◌, ap, subst}
use Rattle.std.specs.Prelude.{IsTrue, Contains, slice_index_or}
use Rattle.std.specs.List.{Any}
use Rattle.xdg_problem.specs.declared.analysis.Edge.{Edge}
use Rattle.xdg_problem.specs.Paths.{Above, IsDaughter}
use Rattle.xdg_judge.specs.declared.links.Links.{Links}
use Rattle.xdg_judge.specs.declared.paths.Way.{Way}
use Rattle.xdg_judge.specs.declared.paths.Way.TheVariants as ways
use Rattle.xdg_judge.specs.Joining.{IsEnd, IsLed, IsJoined, sets_for}
use Rattle.xdg_nodeset.specs.Tables.{InTable, Meet}
use Rattle.xdg_judge.specs.Links.{AreLinks}
use Rattle.xdg_facts.proofs.Facts.{both_steps}
use Rattle.xdg_facts.specs.Rises.{has}

-- by the sets of a dimension's edges, some edge joins two nodes exactly where one does

module _ (edges : List Edge) (links : Links) (labels : List ℕ) (are : AreLinks edges links) where
  -- by the sets of the node that the edge leaves, or enters, where its other end is one of the ends
  led_down : (u : ℕ) (End Ends : ℕ → Type 0) → ((x : ℕ) → End x ↔ Ends x)
      → Any (λ label. (x : ℕ) × (has (slice_index_or (slice_index_or links.down.by_label u []) label []) x ≡ true) × End x) labels ↔ Any (λ e. Contains labels e.label.0 × ((e.mother.0 ≡ u) × Ends e.daughter.0)) edges
  led_down u End Ends same = (
    λ (k, label, l, at, (x, set, end)). let (j, e, m, is, (mo, la, d)) = (are.down.by_label u label x).0 set in (j, e, m, is, (subst (Contains labels) (sym la) (k, l, at), (mo, subst Ends (sym d) ((same x).0 end)))),
    λ (j, e, m, is, ((k, l, at), (mo, end))). (k, e.label.0, l, at, (e.daughter.0, (are.down.by_label u e.label.0 e.daughter.0).1 (j, e, m, is, (mo, refl, refl)), (same e.daughter.0).1 end)),
  )

  led_up : (v : ℕ) (End Ends : ℕ → Type 0) → ((x : ℕ) → End x ↔ Ends x)
      → Any (λ label. (x : ℕ) × (has (slice_index_or (slice_index_or links.up.by_label v []) label []) x ≡ true) × End x) labels ↔ Any (λ e. Contains labels e.label.0 × (Ends e.mother.0 × (e.daughter.0 ≡ v))) edges
  led_up v End Ends same = (
    λ (k, label, l, at, (x, set, end)). let (j, e, m, is, (d, la, mo)) = (are.up.by_label v label x).0 set in (j, e, m, is, (subst (Contains labels) (sym la) (k, l, at), (subst Ends (sym mo) ((same x).0 end), d))),
    λ (j, e, m, is, ((k, l, at), (end, d))). (k, e.label.0, l, at, (e.mother.0, (are.up.by_label v e.label.0 e.mother.0).1 (j, e, m, is, (d, refl, refl)), (same e.mother.0).1 end)),
  )

  -- it is the node itself, or a path leads there
  far_or_same : (x y : ℕ) (Far Leads : Type 0) → Far ↔ Leads → (Far ⊎ (y ≡ x)) ↔ ((x ≡ y) ⊎ Leads)
  far_or_same x y Far Leads same = (
    λ end. elim end [ inl far ↦ inr (same.0 far) | inr is ↦ inl (sym is) ],
    λ end. elim end [ inl is ↦ inr (sym is) | inr leads ↦ inl (same.1 leads) ],
  )

  pub led_exact : (way : Way) (u v : ℕ) → IsLed way links labels u v ↔ IsJoined way edges labels u v
  led_exact ways.Into u v = both_steps (led_up v (InTable links.up.next v) (InTable links.up.next v) (λ x. (λ end. end, λ end. end))) (
    λ (j, e, m, is, (label, (end, d))). (j, e, m, is, (label, d)),
    λ (j, e, m, is, (label, d)). (j, e, m, is, (label, ((are.up.next v e.mother.0).1 (j, e, m, is, (d, refl)), d))),
  )
  led_exact ways.Straight u v = led_down u (λ x. v ≡ x) (λ x. x ≡ v) (λ x. (sym, sym))
  led_exact ways.First u v = led_down u (λ x. InTable links.up.far v x ⊎ (v ≡ x)) (λ x. (x ≡ v) ⊎ Above edges x v) (λ x. far_or_same x v (InTable links.up.far v x) (Above edges x v) (are.up.far v x))
  led_exact ways.Last u v = led_up v (λ x. InTable links.down.far u x ⊎ (u ≡ x)) (λ x. (x ≡ u) ⊎ Above edges u x) (λ x. far_or_same x u (InTable links.down.far u x) (Above edges u x) (are.down.far u x))
  led_exact ways.Sister u v = led_up v (InTable links.up.next u) (λ x. IsDaughter edges x u) (λ x. (
    λ end. let (i, f, n, here, (fd, fm)) = (are.up.next u x).0 end in (i, f, n, here, (fm, fd)),
    λ (i, f, n, here, (fm, fd)). (are.up.next u x).1 (i, f, n, here, (fd, fm)),
  ))

-- the sets that a way takes, and the ends that it allows
pub led_of : (way q : Way) (links : Links) (labels : List ℕ) (u v : ℕ) (b : Bool) (sets : List (List ℕ)) (ends : List ℕ) → way ≡ q → sets ≡ sets_for q links u v → ((x : ℕ) → (has ends x ≡ true) ↔ IsEnd way links u v x) → IsTrue b ↔ Any (λ label. Meet (slice_index_or sets label []) ends) labels → IsTrue b ↔ IsLed way links labels u v
led_of way q links labels u v b sets ends is same end h =
    let all : sets ≡ sets_for way links u v = same ∙ ap (λ w. sets_for w links u v) (sym is) in
    subst (λ z. IsTrue b ↔ Any (λ label. (x : ℕ) × (has (slice_index_or z label []) x ≡ true) × IsEnd way links u v x) labels) all (
      λ t. let (k, label, l, at, (x, i, e)) = h.0 t in (k, label, l, at, (x, i, (end x).0 e)),
      λ (k, label, l, at, (x, i, e)). h.1 (k, label, l, at, (x, i, (end x).1 e)),
    )
