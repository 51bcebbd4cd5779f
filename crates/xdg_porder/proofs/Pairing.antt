-- Two labels of an order, the items with them, and what order takes of these.
use Rattle.std.proofs.Common.{◌≡◌, ◌≢◌, ℕ, zero, suc, ◌<◌, inl, inr, true, List, [], ◌∷◌, length, get_or, refl, sym, ap, ◌∙◌, arith, subst}
use Rattle.std.specs.Prelude.{Contains, AllPairs}
use Rattle.std.proofs.lemmas.List.{get_or_default, get_or-map, length-map}
use Rattle.xdg_base.specs.declared.ids.LabelId.{LabelId}
use Rattle.xdg_problem.specs.declared.parts.Group.{Group}
use Rattle.xdg_problem.specs.declared.parts.Parts.{Parts}
use Rattle.xdg_problem.specs.declared.parts.Principle.TheVariants as principles
use Rattle.xdg_problem.specs.Analyses.{IsPlace}
use Rattle.xdg_problem.specs.Arguments.{first_dim, order_of, label_count}
use Rattle.xdg_problem.specs.Boxes.{Has, Must, edge_decision}
use Rattle.xdg_problem.specs.Problems.{IsGroup}
use Rattle.xdg_problem.proofs.PlaceOrder.{place_is}
use Rattle.xdg_problem.specs.declared.analysis.Edge.{Edge}
use Rattle.xdg_rules.specs.Rules.{ComesBefore, HeadOffends, Takes, TakesBy, attr_of_node, must_edges}
use Rattle.xdg_rules.proofs.Shrinking.{must_exact}
use Rattle.xdg_store.specs.States.{State, Known}
use Rattle.xdg_porder.specs.Items.{AreWrong, IsAtNode, IsWrong, MayStand, MustStand, TakesItems, edge_to, label_at}
use Rattle.xdg_facts.specs.Rises.{has}
use Rattle.xdg_problem.specs.Principles.{IsOrderFor}

-- ---- labels that come before others

-- what holds of each label and each later one holds of two of which the first comes before the second
pub pairs_before : (R : ℕ → ℕ → Type 0) (order : List ℕ) (l m : ℕ) → AllPairs R order → ComesBefore order l m → R l m
pairs_before R [] l m all comes = absurd comes
pairs_before R (label ∷ order) l m all comes = elim comes [
  | inl (same, (k, within, at)) ↦ subst (λ z. R z m) same (subst (R label) at (all 0 (suc k) m (omega arith) (omega (arith, within))))
  | inr later ↦ pairs_before R order l m (λ i j d a b. all (suc i) (suc j) d (omega (arith, a)) (omega (arith, b))) later
]

-- the label at a place comes before those at later places
at_comes : (order : List ℕ) (i j : ℕ) → i < j → j < length order → ComesBefore order (get_or order i 0) (get_or order j 0)
at_comes [] i j l m = absurd (omega (arith, m))
at_comes (label ∷ order) zero zero l m = absurd (omega (arith, l))
at_comes (label ∷ order) zero (suc j) l m = inl (refl, (j, omega (arith, m), get_or_default order j (get_or order j 0) 0 (omega (arith, m))))
at_comes (label ∷ order) (suc i) zero l m = absurd (omega (arith, l))
at_comes (label ∷ order) (suc i) (suc j) l m = inr (at_comes order i j (omega (arith, l)) (omega (arith, m)))

pub comes : (group : Group) (i j : ℕ) → i < j → j < length group.order → ComesBefore (order_of group) (label_at group i) (label_at group j)
comes group i j less within = at_comes (order_of group) i j less (let c = length-map group.order (λ (label : LabelId). label.0) in omega (arith, within, c))

-- labels of which one comes before the other differ
pub comes_differ : (parts : Parts) (group : Group) → IsGroup parts group → group.principle ≡ principles.Order → (l m : ℕ) → ComesBefore (order_of group) l m → l ≢ m
comes_differ parts group is same l m comes =
    let both : IsOrderFor principles.Order (label_count parts (first_dim group)) group.order = subst (λ p. IsOrderFor p (label_count parts (first_dim group)) group.order) same is.order in
    pairs_before (λ a b. a ≢ b) (order_of group) l m (λ i j d less within equal.
    let count = length-map group.order (λ (label : LabelId). label.0) in
    let first = get_or-map (λ (label : LabelId). label.0) group.order i (record { 0 = 0 }) d (omega (arith, less, within, count)) in
    let second = get_or-map (λ (label : LabelId). label.0) group.order j (record { 0 = 0 }) d (omega (arith, within, count)) in
    both.1 i j (record { 0 = 0 }) less (omega (arith, within, count)) (ap (λ n. record { 0 = n }) (sym first ∙ equal ∙ second))) comes

-- ---- the wrong side

pub wrong_back : (group : Group) (l m v w : ℕ) → IsWrong group l m v w → IsWrong group m l w v
wrong_back group l m v w (inl after) = inr after
wrong_back group l m v w (inr before) = inl before

-- under its own label a mother stands beside a daughter as two items do
pub head_wrong : (group : Group) (x : ℕ) (place : Edge) → HeadOffends group x place → IsWrong group x place.label.0 place.mother.0 place.daughter.0
head_wrong group x place (inl after) = inl (after.0, (let l = after.1 in omega (arith, l)))
head_wrong group x place (inr before) = inr (before.0, (let l = before.1 in omega (arith, l)))

wrong_head : (group : Group) (x : ℕ) (place : Edge) → place.mother.0 ≢ place.daughter.0 → IsWrong group x place.label.0 place.mother.0 place.daughter.0 → HeadOffends group x place
wrong_head group x place apart (inl after) = inl (after.0, (let l = after.1 in omega (arith, l, apart)))
wrong_head group x place apart (inr before) = inr (before.0, (let l = before.1 in omega (arith, l, apart)))

-- ---- what is taken

module _ (group : Group) (u l m : ℕ) (s : State) (at : IsAtNode group u s) where
  known_is : Known s
  known_is = at.0.0.known

  takes_by : (d x : ℕ) → TakesBy principles.Order s.parts group s.now d x → Takes s.parts group s.now d x
  takes_by d x rule = inr (subst (λ p. TakesBy p s.parts group s.now d x) (sym at.0.1) rule)

  differ : (v w : ℕ) → IsWrong group l m v w → l ≢ m
  differ v w wrong = elim wrong [
    | inl after ↦ (λ same. comes_differ s.parts group at.0.0.group_is at.0.1 m l after.0 (sym same))
    | inr before ↦ comes_differ s.parts group at.0.0.group_is at.0.1 l m before.0
  ]

  must_of : (label v : ℕ) → IsPlace s.parts (edge_to group u label v) → Must s.parts s.now (edge_to group u label v) → Contains (must_edges s.parts s.now (first_dim group)) (edge_to group u label v)
  must_of label v is must = (must_exact s.parts s.now (first_dim group) (edge_to group u label v) known_is.is_box).1 ((place_is s.parts (edge_to group u label v) is, refl), must)

  -- the node itself goes, as an item
  pub own_goes : (w : ℕ) → MustStand s.parts group s.now u m w → IsWrong group l m u w → Has s.now (attr_of_node s.parts group 0 u) l → Takes s.parts group s.now (attr_of_node s.parts group 0 u) l
  own_goes w must wrong own = elim must [
    | inl (here, (has, only)) ↦ absurd (differ u w wrong (only l own))
    | inr (is, must) ↦ takes_by (attr_of_node s.parts group 0 u) l (inr (inr (record {
      place = edge_to group u m w;
      must = must_of m w is must;
      is = refl;
      offends = wrong_head group l (edge_to group u m w) is.differ wrong;
    })))
  ]

  -- a daughter goes
  pub edge_goes : (v w : ℕ) → IsPlace s.parts (edge_to group u l v) → MustStand s.parts group s.now u m w → IsWrong group l m v w → Takes s.parts group s.now (edge_decision s.parts (edge_to group u l v)) 0
  edge_goes v w is must wrong = elim must [
    | inl (here, (has, only)) ↦ takes_by (edge_decision s.parts (edge_to group u l v)) 0 (inr (inl (record {
      place = edge_to group u l v;
      is = (place_is s.parts (edge_to group u l v) is, refl);
      says = (refl, refl);
      own = m;
      remains = has;
      only = only;
      offends = wrong_head group m (edge_to group u l v) is.differ (wrong_back group l m v u (subst (IsWrong group l m v) here wrong));
    })))
    | inr (other_is, must) ↦ takes_by (edge_decision s.parts (edge_to group u l v)) 0 (inl (record {
      place = edge_to group u l v;
      is = (place_is s.parts (edge_to group u l v) is, refl);
      says = (refl, refl);
      other = edge_to group u m w;
      must = must_of m w other_is must;
      mother = refl;
      wrong = wrong;
    }))
  ]

-- items on the wrong side are taken
pub items_go : (group : Group) (u l : ℕ) (s : State) → IsAtNode group u s → (set refused : List ℕ) → AreWrong group u l set s → ((v : ℕ) → has refused v ≡ true → (has set v ≡ true) × MayStand s.parts group s.now u l v) → TakesItems group u l refused s
items_go group u l s at set refused wrong here = (
  λ there. (let (within, may) = here u there in let (m, w, must, is) = wrong u within in elim may [
    | inl (same, own) ↦ (own, own_goes group u l m s at w must is own)
    | inr (place, may) ↦ absurd (place.differ refl)
  ]),
  λ v there other. (let (within, may) = here v there in let (m, w, must, is) = wrong v within in elim may [
    | inl (same, own) ↦ absurd (other same)
    | inr (place, may) ↦ (place, edge_goes group u l m s at v w place must is)
  ]),
)
