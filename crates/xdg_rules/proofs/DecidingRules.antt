-- What a rule takes from a box can be decided of each value.
use Rattle.std.proofs.Common.{◌≡◌, ℕ, ◌+◌, ◌<◌, ◌⊎◌, inl, inr, Bool, false, List, [], ◌∷◌, length, refl, sym, subst, Option, None, Some}
use Rattle.std.specs.Prelude.{Contains}
use Rattle.xdg_problem.specs.declared.analysis.Edge.{Edge}
use Rattle.xdg_problem.specs.declared.parts.Group.{Group}
use Rattle.xdg_problem.specs.declared.parts.Linking.{Linking}
use Rattle.xdg_problem.specs.declared.parts.Parts.{Parts}
use Rattle.xdg_problem.specs.declared.parts.Principle.{Principle}
use Rattle.xdg_problem.specs.declared.parts.Principle.TheVariants as principles
use Rattle.xdg_problem.specs.Arguments.{first_dim, second_dim, label_count, order_of, truth_of}
use Rattle.xdg_problem.specs.Claims.{claim}
use Rattle.xdg_problem.specs.Costs.{CostLists}
use Rattle.xdg_problem.specs.Features.{in_row, out_row, set_row, map_row}
use Rattle.xdg_problem.specs.Paths.{edges_into, edges_out_of, mothers, roots, Above}
use Rattle.xdg_problem.specs.Places.{nodes, places}
use Rattle.xdg_problem.specs.Truths.{unbound}
use Rattle.xdg_facts.proofs.Decided.{Decided, decided_both, decided_equal, decided_less, decided_most, decided_contains, decided_either, decided_true, decided_not, triple_decided, decided_as, decided_lists, decided_some_below, decided_in, decided_among}
use Rattle.xdg_problem.proofs.DecidingAsks.{decided_between, decided_linked}
use Rattle.xdg_problem.proofs.DecidingPaths.{starts, decided_above}
use Rattle.xdg_problem.specs.Boxes.{entry_decision, edge_decision}
use Rattle.xdg_problem.specs.Principles.{linking_of}
use Rattle.xdg_rules.specs.Rules.{may_edges, must_edges, IsPlaceOn, SaysPresent, SaysAbsent, EachEntry, HasNoneWithin, ValencyEntry, ValencyFull, ValencyNeeded, OneMother, RootFound, OnlyMother, NoCycle, OneLabel, attr_of_node, AgrValues, AgreementValues, GovernmentValues, DaughterOrder, HeadOffends, AboutHead, OfHead, ProjectivityReach, ClimbingReach, BarriersReach, LinkingReach, LinkingNotDaughter, TakesForRoot, TakesBy, TakesLinked}
use Rattle.xdg_rules.specs.Bounds.{edge_cost, least_cost, BoundPlace}
use Rattle.xdg_rules.proofs.Apart.{decided_makes}
use Rattle.xdg_rules.proofs.DecidingBoxes.{decided_has, decided_remaining, decided_some, decided_only, decided_each_entry, decided_edges, decided_none_within, decided_greatest, decided_least, decided_comes}

-- some place of a dimension
decided_placed : (parts : Parts) (dim : ℕ) (P : Edge → Type 0) → ((e : Edge) → Decided (P e)) → Decided ((e : Edge) × IsPlaceOn parts dim e × P e)
decided_placed parts dim P each = decided_as _ _
    (decided_in (places parts) (λ e. (e.dim.0 ≡ dim) × P e) (λ e. decided_both (e.dim.0 ≡ dim) (P e) (decided_equal e.dim.0 dim) (each e)))
    (λ some. (some.0, (some.1, some.2.0), some.2.1))
    (λ some. (some.0, some.1.0, (some.1.1, some.2)))

module _ (parts : Parts) (group : Group) (box : List (List Bool)) (d v : ℕ) where
  abbrev one : ℕ
  one = first_dim group

  abbrev two : ℕ
  two = second_dim group

  abbrev may : ℕ → List Edge
  may dim = may_edges parts box dim

  abbrev must : ℕ → List Edge
  must dim = must_edges parts box dim

  says_present : (e : Edge) → Decided (SaysPresent parts e d v)
  says_present e = decided_both (d ≡ edge_decision parts e) (v ≡ 0) (decided_equal d (edge_decision parts e)) (decided_equal v 0)

  says_absent : (e : Edge) → Decided (SaysAbsent parts e d v)
  says_absent e = decided_both (d ≡ edge_decision parts e) (v ≡ 1) (decided_equal d (edge_decision parts e)) (decided_equal v 1)

  apart : (edges : List Edge) (u w : ℕ) → Decided (Above edges u w → ⊥)
  apart edges u w = decided_not (Above edges u w) (decided_above edges u w)

  -- a place that may not be present, and more
  placed : (dim : ℕ) (P : Edge → Type 0) → ((e : Edge) → Decided (P e)) → Decided ((e : Edge) × IsPlaceOn parts dim e × (SaysPresent parts e d v × P e))
  placed dim P each = decided_placed parts dim (λ e. SaysPresent parts e d v × P e) (λ e. decided_both (SaysPresent parts e d v) (P e) (says_present e) (each e))

  valency_entry : Decided (ValencyEntry parts group box d v)
  valency_entry = decided_as _ _
      (decided_some_below _ (nodes parts) (λ u. decided_both _ _ (decided_equal d (entry_decision u)) (decided_some_below _ (label_count parts one) (λ l. decided_either
      (HasNoneWithin (out_row group u v l) (edges_out_of (must one) u l) (edges_out_of (may one) u l)) (HasNoneWithin (in_row group u v l) (edges_into (must one) u l) (edges_into (may one) u l))
      (decided_none_within _ _ _) (decided_none_within _ _ _)))))
      (λ s. record { node = s.0; within = s.1; label = s.2.1.0; known = s.2.1.1; is = s.2.0; none = s.2.1.2 })
      (λ r. (r.node, r.within, (r.is, (r.label, r.known, r.none))))

  valency_full : Decided (ValencyFull parts group box d v)
  valency_full = decided_as _ _
      (placed one _ (λ e. decided_both _ _ (decided_not _ (decided_among decided_edges (must one) e)) (decided_either _ _
      (decided_greatest box e.mother.0 (λ c. out_row group e.mother.0 c e.label.0) (edges_out_of (must one) e.mother.0 e.label.0))
      (decided_greatest box e.daughter.0 (λ c. in_row group e.daughter.0 c e.label.0) (edges_into (must one) e.daughter.0 e.label.0)))))
      (λ s. record { place = s.0; is = s.1; says = s.2.0; free = s.2.1.0; full = s.2.1.1 })
      (λ r. (r.place, r.is, (r.says, (r.free, r.full))))

  valency_needed : Decided (ValencyNeeded parts group box d v)
  valency_needed = decided_as _ _
      (decided_in (may one) _ (λ e. decided_both _ _ (says_absent e) (decided_either _ _
      (decided_least box e.mother.0 (λ c. out_row group e.mother.0 c e.label.0) (edges_out_of (may one) e.mother.0 e.label.0))
      (decided_least box e.daughter.0 (λ c. in_row group e.daughter.0 c e.label.0) (edges_into (may one) e.daughter.0 e.label.0)))))
      (λ s. record { place = s.0; may = s.1; says = s.2.0; needed = s.2.1 })
      (λ r. (r.place, r.may, (r.says, r.needed)))

  one_mother : Decided (OneMother parts group box d v)
  one_mother = decided_as _ _
      (placed one _ (λ e. decided_in (must one) _ (λ o. decided_both _ _ (decided_not _ (decided_edges e o)) (decided_equal e.daughter.0 o.daughter.0))))
      (λ s. record { place = s.0; is = s.1; says = s.2.0; other = s.2.1.0; must = s.2.1.1; differs = s.2.1.2.0; both = s.2.1.2.1 })
      (λ r. (r.place, r.is, (r.says, (r.other, r.must, (r.differs, r.both)))))

  root_found : Decided (RootFound parts group box d v)
  root_found = decided_as _ _
      (placed one _ (λ e. decided_lists (roots (nodes parts) (must one)) (e.daughter.0 ∷ [])))
      (λ s. record { place = s.0; is = s.1; says = s.2.0; root = s.2.1 })
      (λ r. (r.place, r.is, (r.says, r.root)))

  only_mother : Decided (OnlyMother parts group box d v)
  only_mother = decided_as _ _
      (decided_in (may one) _ (λ e. decided_both _ _ (says_absent e) (decided_both _ _ (decided_equal (mothers (may one) e.daughter.0) 1) (decided_in (roots (nodes parts) (may one)) (λ o. Unit {0}) (λ o. inl tt)))))
      (λ s. record { place = s.0; may = s.1; says = s.2.0; only = s.2.1.0; other = s.2.1.1.0; root = s.2.1.1.1 })
      (λ r. (r.place, r.may, (r.says, (r.only, (r.other, r.root, tt)))))

  for_root : Decided (TakesForRoot parts group box d v)
  for_root = decided_either _ _ root_found (decided_either _ _ (decided_lists (roots (nodes parts) (must one)) []) (decided_either _ _ only_mother (decided_most 2 (length (roots (nodes parts) (may one))))))

  no_cycle : Decided (NoCycle parts group box d v)
  no_cycle = decided_as _ _
      (placed one _ (λ e. decided_above (must one) e.daughter.0 e.mother.0))
      (λ s. record { place = s.0; is = s.1; says = s.2.0; back = s.2.1 })
      (λ r. (r.place, r.is, (r.says, r.back)))

  one_label : Decided (OneLabel parts group box d v)
  one_label = decided_as _ _
      (placed one _ (λ e. decided_in (must one) _ (λ o. decided_both _ _ (decided_not _ (decided_edges e o)) (decided_both _ _ (decided_equal e.mother.0 o.mother.0) (decided_equal e.daughter.0 o.daughter.0)))))
      (λ s. record { place = s.0; is = s.1; says = s.2.0; other = s.2.1.0; must = s.2.1.1; differs = s.2.1.2.0; mother = s.2.1.2.1.0; daughter = s.2.1.2.1.1 })
      (λ r. (r.place, r.is, (r.says, (r.other, r.must, (r.differs, (r.mother, r.daughter))))))

  abbrev attr : ℕ → ℕ → ℕ
  attr argument node = attr_of_node parts group argument node

  agr_values : Decided (AgrValues parts group box d v)
  agr_values = decided_as _ _
      (decided_some_below _ (nodes parts) (λ u. decided_either _ _
      (decided_both _ _ (decided_equal d (attr 0 u)) (decided_each_entry box u _ (λ c. decided_not _ (decided_contains (set_row group u c) v))))
      (decided_both _ _ (decided_equal d (entry_decision u)) (decided_remaining box (attr 0 u) _ (λ x. decided_not _ (decided_contains (set_row group u v) x))))))
      (λ s. record { node = s.0; within = s.1; lacks = s.2 })
      (λ r. (r.node, r.within, r.lacks))

  -- the mother's set has the label of the edge, for each remaining entry
  named : (e : Edge) (node : ℕ) → Decided (EachEntry box node (λ c. Contains (set_row group node c) e.label.0))
  named e node = decided_each_entry box node _ (λ c. decided_contains (set_row group node c) e.label.0)

  agreement_values : Decided (AgreementValues parts group box d v)
  agreement_values = decided_as _ _
      (decided_placed parts one _ (λ e. decided_both _ _ (named e e.mother.0) (decided_either _ _
      (decided_both _ _ (says_present e) (decided_remaining box (attr 0 e.mother.0) _ (λ x. decided_not _ (decided_has box (attr 1 e.daughter.0) x))))
      (decided_both _ _ (decided_among decided_edges (must one) e) (decided_either _ _
      (decided_both _ _ (decided_equal d (attr 0 e.mother.0)) (decided_not _ (decided_has box (attr 1 e.daughter.0) v)))
      (decided_both _ _ (decided_equal d (attr 1 e.daughter.0)) (decided_not _ (decided_has box (attr 0 e.mother.0) v))))))))
      (λ s. record { place = s.0; is = s.1; asks = s.2.0; lacks = s.2.1 })
      (λ r. (r.place, r.is, (r.asks, r.lacks)))

  -- each remaining entry of the mother has labels in a map at the label of the edge
  mapped : (e : Edge) → Decided (EachEntry box e.mother.0 (λ c. 0 < length (map_row group e.mother.0 c e.label.0)))
  mapped e = decided_each_entry box e.mother.0 _ (λ c. decided_less 0 (length (map_row group e.mother.0 c e.label.0)))

  government_values : Decided (GovernmentValues parts group box d v)
  government_values = decided_as _ _
      (decided_placed parts one _ (λ e. decided_both _ _ (mapped e) (decided_either _ _
      (decided_both _ _ (says_present e) (decided_each_entry box e.mother.0 _ (λ c. decided_remaining box (attr 0 e.daughter.0) _ (λ x. decided_not _ (decided_contains (map_row group e.mother.0 c e.label.0) x)))))
      (triple_decided _ _ _ (decided_among decided_edges (must one) e) (decided_equal d (attr 0 e.daughter.0)) (decided_each_entry box e.mother.0 _ (λ c. decided_not _ (decided_contains (map_row group e.mother.0 c e.label.0) v)))))))
      (λ s. record { place = s.0; is = s.1; governs = s.2.0; lacks = s.2.1 })
      (λ r. (r.place, r.is, (r.governs, r.lacks)))

  daughter_order : Decided (DaughterOrder parts group box d v)
  daughter_order = decided_as _ _
      (placed one _ (λ e. decided_in (must one) _ (λ o. decided_both _ _ (decided_equal e.mother.0 o.mother.0) (decided_either _ _
      (decided_both _ _ (decided_comes (order_of group) o.label.0 e.label.0) (decided_most e.daughter.0 o.daughter.0))
      (decided_both _ _ (decided_comes (order_of group) e.label.0 o.label.0) (decided_most o.daughter.0 e.daughter.0))))))
      (λ s. record { place = s.0; is = s.1; says = s.2.0; other = s.2.1.0; must = s.2.1.1; mother = s.2.1.2.0; wrong = s.2.1.2.1 })
      (λ r. (r.place, r.is, (r.says, (r.other, r.must, (r.mother, r.wrong)))))

  head_offends : (x : ℕ) (e : Edge) → Decided (HeadOffends group x e)
  head_offends x e = decided_either _ _
      (decided_both _ _ (decided_comes (order_of group) e.label.0 x) (decided_less e.mother.0 e.daughter.0))
      (decided_both _ _ (decided_comes (order_of group) x e.label.0) (decided_less e.daughter.0 e.mother.0))

  about_head : Decided (AboutHead parts group box d v)
  about_head = decided_as _ _
      (placed one _ (λ e. decided_some box (attr 0 e.mother.0) _ (λ x. decided_both _ _ (decided_only box (attr 0 e.mother.0) x) (head_offends x e))))
      (λ s. record { place = s.0; is = s.1; says = s.2.0; own = s.2.1.0; remains = s.2.1.1; only = s.2.1.2.0; offends = s.2.1.2.1 })
      (λ r. (r.place, r.is, (r.says, (r.own, r.remains, (r.only, r.offends)))))

  of_head : Decided (OfHead parts group box d v)
  of_head = decided_as _ _
      (decided_in (must one) _ (λ e. decided_both _ _ (decided_equal d (attr 0 e.mother.0)) (head_offends v e)))
      (λ s. record { place = s.0; must = s.1; is = s.2.0; offends = s.2.1 })
      (λ r. (r.place, r.must, (r.is, r.offends)))

  projectivity_reach : Decided (ProjectivityReach parts group box d v)
  projectivity_reach = decided_as _ _
      (placed one _ (λ e. decided_some_below _ (nodes parts) (λ w. decided_both _ _ (decided_between e.mother.0 e.daughter.0 w) (apart (may one) e.mother.0 w))))
      (λ s. record { place = s.0; is = s.1; says = s.2.0; node = s.2.1.0; within = s.2.1.1; between = s.2.1.2.0; apart = s.2.1.2.1 })
      (λ r. (r.place, r.is, (r.says, (r.node, r.within, (r.between, r.apart)))))

  climbing_reach : Decided (ClimbingReach parts group box d v)
  climbing_reach = decided_as _ _
      (placed one _ (λ e. apart (may two) e.mother.0 e.daughter.0))
      (λ s. record { place = s.0; is = s.1; says = s.2.0; apart = s.2.1 })
      (λ r. (r.place, r.is, (r.says, r.apart)))

  -- a barrier of an edge: its label is blocked there, and its daughter out of reach
  abbrev Reach : Edge → ℕ → Type 0
  Reach e w = EachEntry box w (λ c. Contains (set_row group w c) e.label.0) × (Above (may one) w e.daughter.0 → ⊥)

  decided_reach : (e : Edge) (w : ℕ) → Decided (Reach e w)
  decided_reach e w = decided_both _ _ (named e w) (apart (may one) w e.daughter.0)

  -- the barrier is the mother, or the mother of an edge that must be, and above
  abbrev Barrier : Edge → Type 0
  Barrier e = Reach e e.mother.0 ⊎ ((f : Edge) × Contains (must two) f × (Above (must two) f.mother.0 e.mother.0 × Reach e f.mother.0))

  barrier_rule : (e : Edge) → IsPlaceOn parts two e → SaysPresent parts e d v → Barrier e → BarriersReach parts group box d v
  barrier_rule e on says (inl here) = record { place = e; is = on; says = says; barrier = e.mother.0; above = inl refl; blocks = here.0; apart = here.1 }
  barrier_rule e on says (inr over) = record { place = e; is = on; says = says; barrier = over.0.mother.0; above = inr over.2.0; blocks = over.2.1.0; apart = over.2.1.1 }

  barrier_at : (e : Edge) (w : ℕ) → (w ≡ e.mother.0) ⊎ Above (must two) w e.mother.0 → Reach e w → Barrier e
  barrier_at e w (inl here) reach = inl (subst (Reach e) here reach)
  barrier_at e w (inr over) reach =
      let first = starts (must two) over.path w e.mother.0 over.some over.along over.leads in
      inr (first.0, first.1, (subst (λ k. Above (must two) k e.mother.0) (sym first.2.0) over, subst (Reach e) (sym first.2.0) reach))

  barriers_reach : Decided (BarriersReach parts group box d v)
  barriers_reach = decided_as _ _
      (placed two Barrier (λ e. decided_either _ _ (decided_reach e e.mother.0) (decided_in (must two) _ (λ f. decided_both _ _ (decided_above (must two) f.mother.0 e.mother.0) (decided_reach e f.mother.0)))))
      (λ s. barrier_rule s.0 s.1 s.2.0 s.2.1)
      (λ r. (r.place, r.is, (r.says, barrier_at r.place r.barrier r.above (r.blocks, r.apart))))

  linking_reach : (way : Linking) → Decided (LinkingReach parts group box way d v)
  linking_reach way = decided_as _ _
      (placed one _ (λ e. decided_both _ _ (mapped e) (decided_each_entry box e.mother.0 _ (λ c. decided_not _ (decided_linked way (may two) e.mother.0 (map_row group e.mother.0 c e.label.0) e.daughter.0)))))
      (λ s. record { place = s.0; is = s.1; says = s.2.0; links = s.2.1.0; apart = s.2.1.1 })
      (λ r. (r.place, r.is, (r.says, (r.links, r.apart))))

  linking_not_daughter : Decided (LinkingNotDaughter parts group box d v)
  linking_not_daughter = decided_as _ _
      (decided_placed parts one _ (λ e. decided_both _ _ (named e e.mother.0)
      (decided_placed parts two _ (λ o. decided_both _ _ (decided_equal e.mother.0 o.mother.0) (decided_both _ _ (decided_equal e.daughter.0 o.daughter.0) (decided_either _ _
      (decided_both _ _ (says_present e) (decided_among decided_edges (must two) o))
      (decided_both _ _ (says_present o) (decided_among decided_edges (must one) e))))))))
      (λ s. record { place = s.0; is = s.1; other = s.2.1.0; other_is = s.2.1.1; mother = s.2.1.2.0; daughter = s.2.1.2.1.0; keeps = s.2.0; one = s.2.1.2.1.1 })
      (λ r. (r.place, r.is, (r.keeps, (r.other, r.other_is, (r.mother, (r.daughter, r.one))))))

  bound_place : (costs : CostLists) (bound : ℕ) → Decided (BoundPlace parts costs bound box d v)
  bound_place costs bound = decided_as _ _
      (decided_in (places parts) _ (λ e. decided_both _ _ (says_present e) (decided_both _ _ (decided_has box (edge_decision parts e) 1) (decided_most bound (least_cost parts costs box + edge_cost costs e)))))
      (λ s. record { place = s.0; is = s.1; says = s.2.0; free = s.2.1.0; reaches = s.2.1.1 })
      (λ r. (r.place, r.is, (r.says, (r.free, r.reaches))))

  decided_way : (linking : Option Linking) → Decided (TakesLinked linking parts group box d v)
  decided_way None = inr (λ none. none)
  decided_way (Some way) = linking_reach way

  pub decided_by : (principle : Principle) → Decided (TakesBy principle parts group box d v)
  decided_by principles.Tree = decided_either _ _ one_mother (decided_either _ _ for_root no_cycle)
  decided_by principles.Dag = decided_either _ _ no_cycle (decided_either _ _ (decided_both _ _ (decided_true (truth_of group.truths 0)) for_root) (decided_both _ _ (decided_true (truth_of group.truths 1)) one_label))
  decided_by principles.Valency = decided_either _ _ valency_entry (decided_either _ _ valency_full valency_needed)
  decided_by principles.Order = decided_either _ _ daughter_order (decided_either _ _ about_head of_head)
  decided_by principles.Projectivity = projectivity_reach
  decided_by principles.Agr = agr_values
  decided_by principles.Agreement = agreement_values
  decided_by principles.Government = government_values
  decided_by principles.Climbing = climbing_reach
  decided_by principles.Barriers = barriers_reach
  decided_by principles.LinkingNotDaughter = linking_not_daughter
  decided_by (principles.Rule formula) = decided_makes parts box (claim formula) false unbound
  decided_by (principles.Bound costs bound) = decided_either _ _ (decided_most bound (least_cost parts costs box)) (bound_place costs bound)
  decided_by principle = decided_way (linking_of principle)
