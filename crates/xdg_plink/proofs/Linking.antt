-- What the table leads to is what a way of linking asks.
use Rattle.std.proofs.Common.{◌≡◌, ℕ, ◌⊎◌, inl, inr, List, [], ◌∷◌, refl, sym, ◌∙◌, subst, arith}
use Rattle.std.specs.Prelude.{Contains, All}
use Rattle.std.proofs.lemmas.List.Elements.{All-nil, All-cons, All-head, All-tail}
use Rattle.xdg_nodeset.specs.Tables.{InTable}
use Rattle.xdg_problem.specs.declared.analysis.Edge.{Edge}
use Rattle.xdg_problem.specs.declared.parts.Linking.{Linking}
use Rattle.xdg_problem.specs.declared.parts.Linking.TheVariants as linkings
use Rattle.xdg_problem.specs.Asking.{IsLinked}
use Rattle.xdg_problem.specs.Paths.{Leads, Above, AboveByFirst, IsDaughter, IsDaughterByAny, IsEnteredByAny, AreSistersByAny}
use Rattle.xdg_plink.specs.Ways.{IsLed, Covers, Keeps}

module _ (edges : List Edge) (table : List (List ℕ)) (labels : List ℕ) (u v : ℕ) where
  into_led : IsEnteredByAny edges labels v → IsLed linkings.End edges table labels u v
  into_led (k, e, l, at, ((i, n, is), d)) = (i, e.label.0, n, is, (e.mother.0, (k, e, l, at, (refl, refl, d)), tt))

  into_linked : IsLed linkings.End edges table labels u v → IsEnteredByAny edges labels v
  into_linked (i, label, n, is, (x, (k, e, l, at, (m, b, d)), end)) = (k, e, l, at, (subst (Contains labels) (sym b) (i, n, is), d))

  straight_led : IsDaughterByAny edges u labels v → IsLed linkings.Daughter edges table labels u v
  straight_led (k, e, l, at, (m, (i, n, is), d)) = (i, e.label.0, n, is, (v, (k, e, l, at, (m, refl, d)), refl))

  straight_linked : IsLed linkings.Daughter edges table labels u v → IsDaughterByAny edges u labels v
  straight_linked (i, label, n, is, (x, (k, e, l, at, (m, b, d)), end)) = (k, e, l, at, (m, subst (Contains labels) (sym b) (i, n, is), d ∙ sym end))

  rest_end : ((from to : ℕ) → Above edges to from → InTable table from to) → (e : Edge) (rest : List Edge) → All (Contains edges) rest → Leads e.daughter.0 rest v → InTable table v e.daughter.0 ⊎ (v ≡ e.daughter.0)
  rest_end covers e [] along leads = inr (sym leads)
  rest_end covers e (f ∷ rest) along leads = inl (covers v e.daughter.0 (record { path = f ∷ rest; some = omega arith; along = along; leads = leads }))

  first_led : ((from to : ℕ) → Above edges to from → InTable table from to) → AboveByFirst edges u labels v → IsLed linkings.BelowStart edges table labels u v
  first_led covers a =
      let c = All-head (Contains edges) a.first a.rest a.along in
      (a.label.0, a.first.label.0, a.label.1, a.label.2, (a.first.daughter.0, (c.0, a.first, c.1, c.2, (a.leads.0, refl, refl)), rest_end covers a.first a.rest (All-tail (Contains edges) a.first a.rest a.along) a.leads.1))

  first_linked : ((from to : ℕ) → InTable table from to → Above edges to from) → IsLed linkings.BelowStart edges table labels u v → AboveByFirst edges u labels v
  first_linked keeps (i, label, n, is, (x, (k, e, l, at, (m, b, d)), inl far)) =
      let above = keeps v x far in
      record { first = e; rest = above.path; label = subst (Contains labels) (sym b) (i, n, is); along = All-cons (Contains edges) e above.path (k, l, at) above.along; leads = (m, subst (λ z. Leads z above.path v) (sym d) above.leads) }
  first_linked keeps (i, label, n, is, (x, (k, e, l, at, (m, b, d)), inr here)) =
      record { first = e; rest = []; label = subst (Contains labels) (sym b) (i, n, is); along = All-cons (Contains edges) e [] (k, l, at) (All-nil (Contains edges)); leads = (m, d ∙ sym here) }

  sister_led : ((from to : ℕ) → IsDaughter edges to from → InTable table from to) → AreSistersByAny edges u labels v → IsLed linkings.Sisters edges table labels u v
  sister_led covers (j, f, g, here, (du, (k, e, l, at, (m, (i, n, is), d)))) = (i, e.label.0, n, is, (e.mother.0, (k, e, l, at, (refl, refl, d)), covers u e.mother.0 (j, f, g, here, (sym m, du))))

  sister_linked : ((from to : ℕ) → InTable table from to → IsDaughter edges to from) → IsLed linkings.Sisters edges table labels u v → AreSistersByAny edges u labels v
  sister_linked keeps (i, label, n, is, (x, (k, e, l, at, (m, b, d)), end)) = (let (j, f, g, here, (fm, fd)) = keeps u x end in (j, f, g, here, (fd, (k, e, l, at, (m ∙ sym fm, subst (Contains labels) (sym b) (i, n, is), d)))))

-- what is linked is led to, where the table has enough
pub linked_led : (way : Linking) (edges : List Edge) (table : List (List ℕ)) (labels : List ℕ) (u v : ℕ) → Covers way edges table → IsLinked way edges u labels v → IsLed way edges table labels u v
linked_led linkings.End edges table labels u v covers h = into_led edges table labels u v h
linked_led linkings.Daughter edges table labels u v covers h = straight_led edges table labels u v h
linked_led linkings.Mother edges table labels u v covers h = straight_led edges table labels v u h
linked_led linkings.BelowStart edges table labels u v covers h = first_led edges table labels u v covers h
linked_led linkings.AboveStart edges table labels u v covers h = first_led edges table labels v u covers h
linked_led linkings.Sisters edges table labels u v covers h = sister_led edges table labels u v covers h

-- what is led to is linked, where the table has no more than that
pub led_linked : (way : Linking) (edges : List Edge) (table : List (List ℕ)) (labels : List ℕ) (u v : ℕ) → Keeps way edges table → IsLed way edges table labels u v → IsLinked way edges u labels v
led_linked linkings.End edges table labels u v keeps h = into_linked edges table labels u v h
led_linked linkings.Daughter edges table labels u v keeps h = straight_linked edges table labels u v h
led_linked linkings.Mother edges table labels u v keeps h = straight_linked edges table labels v u h
led_linked linkings.BelowStart edges table labels u v keeps h = first_linked edges table labels u v keeps h
led_linked linkings.AboveStart edges table labels u v keeps h = first_linked edges table labels v u keeps h
led_linked linkings.Sisters edges table labels u v keeps h = sister_linked edges table labels u v keeps h
