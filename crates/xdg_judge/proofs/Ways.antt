-- Edges that join two nodes, and the words of the principles.
use Rattle.std.proofs.Common.{◌≡◌, ℕ, ◌⊎◌, ◌↔◌, inl, inr, Bool, List, [], ◌∷◌, refl, sym, subst, arith}
use Rattle.std.specs.Prelude.{IsTrue, All, Contains}
use Rattle.std.proofs.lemmas.List.Elements.{All-nil, All-cons, All-head, All-tail, All-append}
use Rattle.xdg_problem.specs.declared.analysis.Edge.{Edge}
use Rattle.xdg_problem.specs.declared.parts.Linking.{Linking}
use Rattle.xdg_problem.specs.declared.parts.Linking.TheVariants as linkings
use Rattle.xdg_problem.specs.Asking.{IsInItem, IsLinked}
use Rattle.xdg_problem.specs.Paths.{Leads, Above, AboveByFirst, AboveByLast, IsDaughterBy, IsDaughterByAny, AreSistersByAny}
use Rattle.xdg_judge.specs.declared.paths.Way.TheVariants as ways
use Rattle.xdg_judge.specs.Joining.{IsJoined, IsLed}
use Rattle.xdg_judge.specs.Links.{AreLinks}
use Rattle.xdg_judge.specs.declared.links.Links.{Links}
use Rattle.xdg_judge.proofs.Meeting.{led_exact}
use Rattle.xdg_facts.proofs.Facts.{both_steps}
use Rattle.xdg_problem.proofs.Walks.{leads_append, by_last}
use Rattle.xdg_facts.proofs.Contained.{contains_one}

first_joined : (edges : List Edge) (labels : List ℕ) (u v : ℕ) → IsJoined ways.First edges labels u v → AboveByFirst edges u labels v
first_joined edges labels u v (k, e, l, at, (label, (m, inl d))) = record { first = e; rest = []; label = label; along = All-cons (Contains edges) e [] (k, l, at) (All-nil (Contains edges)); leads = (m, d) }
first_joined edges labels u v (k, e, l, at, (label, (m, inr a))) = record { first = e; rest = a.path; label = label; along = All-cons (Contains edges) e a.path (k, l, at) a.along; leads = (m, a.leads) }

joined_first_on : (edges : List Edge) (e : Edge) (rest : List Edge) (v : ℕ) → All (Contains edges) rest → Leads e.daughter.0 rest v → (e.daughter.0 ≡ v) ⊎ Above edges e.daughter.0 v
joined_first_on edges e [] v along leads = inl leads
joined_first_on edges e (f ∷ rest) v along leads = inr (record { path = f ∷ rest; some = omega arith; along = along; leads = leads })

joined_first : (edges : List Edge) (labels : List ℕ) (u v : ℕ) → AboveByFirst edges u labels v → IsJoined ways.First edges labels u v
joined_first edges labels u v a =
    let c = All-head (Contains edges) a.first a.rest a.along in
    (c.0, a.first, c.1, c.2, (a.label, (a.leads.0, joined_first_on edges a.first a.rest v (All-tail (Contains edges) a.first a.rest a.along) a.leads.1)))

last_joined : (edges : List Edge) (labels : List ℕ) (u v : ℕ) → IsJoined ways.Last edges labels u v → AboveByLast edges u labels v
last_joined edges labels u v (k, e, l, at, (label, (inl m, d))) = record { front = []; last = e; label = label; along = All-cons (Contains edges) e [] (k, l, at) (All-nil (Contains edges)); leads = (m, d) }
last_joined edges labels u v (k, e, l, at, (label, (inr a, d))) = record {
  front = a.path;
  last = e;
  label = label;
  along = All-append (Contains edges) a.path (e ∷ []) a.along (All-cons (Contains edges) e [] (k, l, at) (All-nil (Contains edges)));
  leads = leads_append a.path (e ∷ []) u e.mother.0 v a.leads (refl, d);
}

pub last_exact : (edges : List Edge) (labels : List ℕ) (u v : ℕ) → IsJoined ways.Last edges labels u v ↔ AboveByLast edges u labels v
last_exact edges labels u v = (last_joined edges labels u v, by_last edges labels u v)

first_exact : (edges : List Edge) (labels : List ℕ) (u v : ℕ) → IsJoined ways.First edges labels u v ↔ AboveByFirst edges u labels v
first_exact edges labels u v = (first_joined edges labels u v, joined_first edges labels u v)

straight_exact : (edges : List Edge) (labels : List ℕ) (u v : ℕ) → IsJoined ways.Straight edges labels u v ↔ IsDaughterByAny edges u labels v
straight_exact edges labels u v = (λ (k, e, l, at, (label, (m, d))). (k, e, l, at, (m, label, d)), λ (k, e, l, at, (m, label, d)). (k, e, l, at, (label, (m, d))))

sister_exact : (edges : List Edge) (labels : List ℕ) (u v : ℕ) → IsJoined ways.Sister edges labels u v ↔ AreSistersByAny edges u labels v
sister_exact edges labels u v = (
  λ (k, e, l, at, (label, ((k2, f, l2, at2, (m, d)), ev))). (k2, f, l2, at2, (d, (k, e, l, at, (sym m, label, ev)))),
  λ (k2, f, l2, at2, (d, (k, e, l, at, (m, label, ev)))). (k, e, l, at, (label, ((k2, f, l2, at2, (sym m, d)), ev))),
)

-- what each way of linking asks, by the sets of a dimension's edges
abbrev pub IsLinkedBy : Linking → Links → List ℕ → ℕ → ℕ → Type 0
IsLinkedBy linkings.End links labels u v = IsLed ways.Into links labels u v
IsLinkedBy linkings.Daughter links labels u v = IsLed ways.Straight links labels u v
IsLinkedBy linkings.Mother links labels u v = IsLed ways.Straight links labels v u
IsLinkedBy linkings.BelowStart links labels u v = IsLed ways.First links labels u v
IsLinkedBy linkings.AboveStart links labels u v = IsLed ways.First links labels v u
IsLinkedBy linkings.Sisters links labels u v = IsLed ways.Sister links labels u v

linked_exact : (way : Linking) (edges : List Edge) (links : Links) (labels : List ℕ) (u v : ℕ) → AreLinks edges links → IsLinkedBy way links labels u v ↔ IsLinked way edges u labels v
linked_exact linkings.End edges links labels u v are = led_exact edges links labels are ways.Into u v
linked_exact linkings.Daughter edges links labels u v are = both_steps (led_exact edges links labels are ways.Straight u v) (straight_exact edges labels u v)
linked_exact linkings.Mother edges links labels u v are = both_steps (led_exact edges links labels are ways.Straight v u) (straight_exact edges labels v u)
linked_exact linkings.BelowStart edges links labels u v are = both_steps (led_exact edges links labels are ways.First u v) (first_exact edges labels u v)
linked_exact linkings.AboveStart edges links labels u v are = both_steps (led_exact edges links labels are ways.First v u) (first_exact edges labels v u)
linked_exact linkings.Sisters edges links labels u v are = both_steps (led_exact edges links labels are ways.Sister u v) (sister_exact edges labels u v)

-- where the way is known
pub linked_as : (way known : Linking) (b : Bool) (edges : List Edge) (links : Links) (labels : List ℕ) (u v : ℕ) → way ≡ known → AreLinks edges links → IsTrue b ↔ IsLinkedBy known links labels u v → IsTrue b ↔ IsLinked way edges u labels v
linked_as way known b edges links labels u v is are told = subst (λ w. IsTrue b ↔ IsLinked w edges u labels v) (sym is) (both_steps told (linked_exact known edges links labels u v are))

-- x stands in an item as the node itself, as a daughter, or below one

pub item_yield : (edges : List Edge) (yields : Type 0) (own u label x : ℕ) (b : Bool) → ((own ≡ label) × (x ≡ u) → ⊥) → (IsDaughterBy edges u label x → ⊥) → yields → IsTrue b ↔ IsJoined ways.First edges (label ∷ []) u x → IsTrue b ↔ IsInItem edges yields own u label x
item_yield edges yields own u label x b n d y h = (λ t. there (h.0 t), λ i. h.1 (back i)) where
  there : IsJoined ways.First edges (label ∷ []) u x → IsInItem edges yields own u label x
  there (k, e, l, at, (c, (m, inl s))) = inr (inl (k, e, l, at, (m, contains_one label e.label.0 c, s)))
  there (k, e, l, at, (c, (m, inr a))) = inr (inr (y, (e.daughter.0, (k, e, l, at, (m, contains_one label e.label.0 c, refl)), a)))

  back : IsInItem edges yields own u label x → IsJoined ways.First edges (label ∷ []) u x
  back (inl s) = absurd (n (sym s.0, s.1))
  back (inr (inl e)) = absurd (d e)
  back (inr (inr (z, (v, (k, e, l, at, (m, s, w)), a)))) = (k, e, l, at, ((0, omega arith, sym s), (m, inr (subst (λ q. Above edges q x) (sym w) a))))
