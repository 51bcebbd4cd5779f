-- What paths lead to, step by step.
use Rattle.std.proofs.Common.{◌≡◌, ◌≢◌, ℕ, ◌<◌, ◌≤◌, ◌↔◌, ◌&&◌, Bool, true, IsTrue, List, [], length, get_or, refl, sym, ◌∙◌, subst, arith}
use Rattle.std.specs.Prelude.{Contains}
use Rattle.xdg_facts.specs.Rises.{has}
use Rattle.xdg_nodeset.specs.Tables.{InTable}
use Rattle.xdg_problem.specs.declared.analysis.Edge.{Edge}
use Rattle.xdg_problem.specs.declared.parts.Parts.{Parts}
use Rattle.xdg_problem.specs.Paths.{Above, IsDaughter}
use Rattle.xdg_facts.proofs.Contained.{any_of}
use Rattle.xdg_rules.specs.Rules.{IsPlaceOn, NoCycle, may_edges, must_edges}
use Rattle.xdg_rules.proofs.Shrinking.{may_exact}
use Rattle.xdg_propcore.proofs.Aimed.{ByOne}
use Rattle.xdg_store.specs.States.{State}
use Rattle.xdg_propcore.specs.Passes.{Progress, Clears}
use Rattle.xdg_pgraph.specs.declared.found.Found.TheVariants as founds
use Rattle.xdg_pgraph.specs.declared.plane.Plane.{Plane}
use Rattle.xdg_pgraph.specs.Planes.{IsPlane}
use Rattle.xdg_pgraph.specs.Ruling.{RunsFor}
use Rattle.xdg_pgraph.specs.Seeking.{Aims, Backs, BacksInto, FromTo}
use Rattle.xdg_propcore.proofs.Passing.{clears_none}
use Rattle.xdg_pgraph.proofs.RuledRoots.{all_cleared}
use Rattle.xdg_pgraph.proofs.Taken.{aims_all}
use Rattle.xdg_facts.proofs.Sets.{both, none_in}

-- what is cleared by a table of paths is what the rule takes
pub cycles_run : (plane : Plane) (p q : Progress) (old new : State) (far : List (List ℕ)) → IsPlane old.parts plane → ((a b : ℕ) → InTable far a b ↔ Above (must_edges old.parts old.now plane.dim.0) a b) → Clears (Aims old.parts plane.dim.0 founds.More (Backs far)) p old q new → RunsFor NoCycle plane.dim.0 p old q new
cycles_run plane p q old new far plane_is exact c = all_cleared plane p q old new plane_is NoCycle (Aims old.parts plane.dim.0 founds.More (Backs far)) c
    (λ group on d v a. record { place = a.place; is = subst (λ k. IsPlaceOn old.parts k a.place) (sym on) a.is; says = a.says; back = subst (λ k. Above (must_edges old.parts old.now k) a.place.daughter.0 a.place.mother.0) (sym on) ((exact a.place.daughter.0 a.place.mother.0).0 a.aimed) })
    (λ group on d v r. record { place = r.place; is = subst (λ k. IsPlaceOn old.parts k r.place) on r.is; aimed = (exact r.place.daughter.0 r.place.mother.0).1 (subst (λ k. Above (must_edges old.parts old.now k) r.place.daughter.0 r.place.mother.0) on r.back); other = tt; says = r.says })

-- ---- edges that close a cycle, one after another

-- the mothers of a node to which a table leads from it
module _ (plane : Plane) (far : List (List ℕ)) (v : ℕ) (parts : Parts) (box : List (List Bool)) (mothers below back : List ℕ) (exact : (x : ℕ) → IsTrue (has mothers x) ↔ IsDaughter (may_edges parts box plane.dim.0) x v) (below_is : below ≡ get_or far v []) (met : (x : ℕ) → has back x ≡ (has mothers x && has below x)) where
  pub back_far : (u : ℕ) → has back u ≡ true → InTable far v u
  back_far u h = subst (λ s. has s u ≡ true) below_is ((both (has mothers u) (has below u)).0 (sym (met u) ∙ h)).1

  pub back_between : (u : ℕ) → IsPlane parts plane → has back u ≡ true → (u < plane.nodes) × (u ≢ v)
  back_between u plane_is h =
      let (j, e, within, at, (m, d)) = (exact u).0 ((both (has mothers u) (has below u)).0 (sym (met u) ∙ h)).0 in
      let on = (plane_is.exact e).0 ((may_exact parts box plane.dim.0 e).0 (j, within, at)).0 in
      (let l = on.mother in omega (arith, l, m), λ same. on.differ (m ∙ same ∙ sym d))

  back_has : (e : Edge) → Contains (may_edges parts box plane.dim.0) e → BacksInto far v e → has back e.mother.0 ≡ true
  back_has e may b = met e.mother.0 ∙ (both (has mothers e.mother.0) (has below e.mother.0)).1 (
    (exact e.mother.0).1 (any_of (λ f. (f.mother.0 ≡ e.mother.0) × (f.daughter.0 ≡ v)) (may_edges parts box plane.dim.0) e may (refl, b.0)),
    subst (λ s. has s e.mother.0 ≡ true) (sym below_is) (subst (λ k. InTable far k e.mother.0) b.0 b.1),
  )

-- they are the mothers of all edges into the node that are to go
pub back_all : (plane : Plane) (far : List (List ℕ)) (v : ℕ) (p q : Progress) (old new : State) (mothers below back : List ℕ)
    → ((x : ℕ) → IsTrue (has mothers x) ↔ IsDaughter (may_edges old.parts old.now plane.dim.0) x v) → below ≡ get_or far v [] → ((x : ℕ) → has back x ≡ (has mothers x && has below x))
    → Clears (ByOne (λ x. has back x ≡ true) (λ x. Aims old.parts plane.dim.0 founds.More (FromTo x v))) p old q new → Clears (Aims old.parts plane.dim.0 founds.More (BacksInto far v)) p old q new
back_all plane far v p q old new mothers below back exact below_is met = aims_all old.parts plane.dim.0 founds.More (λ x. has back x ≡ true) (λ x. FromTo x v) (BacksInto far v)
    (λ x e on there from. (from.1, subst (λ k. InTable far e.daughter.0 k) (sym from.0) (subst (λ k. InTable far k x) (sym from.1) (back_far plane far v old.parts old.now mothers below back exact below_is met x there))))
    p q old new
    (λ e may on b. (e.mother.0, back_has plane far v old.parts old.now mothers below back exact below_is met e may b, (refl, b.0)))

-- the table leads nowhere from a node
pub back_none : (plane : Plane) (far : List (List ℕ)) (v : ℕ) (p : Progress) (s : State) (below : List ℕ) → below ≡ get_or far v [] → length below ≡ 0 → Clears (Aims s.parts plane.dim.0 founds.More (BacksInto far v)) p s p s
back_none plane far v p s below below_is none = clears_none (Aims s.parts plane.dim.0 founds.More (BacksInto far v)) p s
    (λ d x a. none_in below a.place.mother.0 none (subst (λ set. has set a.place.mother.0 ≡ true) (sym below_is) (subst (λ k. InTable far k a.place.mother.0) a.aimed.0 a.aimed.1)))

-- those into each node
pub backs_all : (plane : Plane) (far : List (List ℕ)) (k : ℕ) (p q : Progress) (old new : State) → IsPlane old.parts plane → plane.nodes ≤ k
    → Clears (ByOne (λ x. x < k) (λ x. Aims old.parts plane.dim.0 founds.More (BacksInto far x))) p old q new → Clears (Aims old.parts plane.dim.0 founds.More (Backs far)) p old q new
backs_all plane far k p q old new plane_is all = aims_all old.parts plane.dim.0 founds.More (λ x. x < k) (λ x. BacksInto far x) (Backs far)
    (λ x e on less b. b.1)
    p q old new
    (λ e may on b. (e.daughter.0, (let l = ((plane_is.exact e).0 on).daughter in omega (arith, l, all)), (refl, b)))
