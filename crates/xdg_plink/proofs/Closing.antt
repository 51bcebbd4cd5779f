-- Where nothing is left to take at each place, the box is closed for the principle use.
use Rattle.std.proofs.Common.{ℕ, inl, inr, Bool, List, refl, ap, arith, subst, sym}
use Rattle.xdg_problem.specs.declared.analysis.Edge.{Edge}
use Rattle.xdg_problem.specs.declared.parts.Group.{Group}
use Rattle.xdg_problem.specs.declared.parts.Parts.{Parts}
use Rattle.xdg_problem.specs.declared.parts.Principle.{Principle}
use Rattle.xdg_problem.specs.Arguments.{first_dim}
use Rattle.xdg_problem.specs.Boxes.{IsBox}
use Rattle.xdg_problem.specs.Places.{nodes}
use Rattle.xdg_problem.specs.Vectors.{shape}
use Rattle.xdg_problem.proofs.PlaceOrder.{is_place}
use Rattle.xdg_rules.specs.Rules.{IsClosedFor, IsPlaceOn, TakesBy}
use Rattle.xdg_plink.specs.Family.{IsLinking}
use Rattle.xdg_plink.specs.Steps.{AreMothersDone, IsDoneAt, IsExact, TakesAt}
use Rattle.xdg_plink.specs.Untouched.{AreOthersDone, IsFree}
use Rattle.xdg_plink.specs.declared.near.Near.{Near}
use Rattle.xdg_graph.specs.Edges.{edge_labels}
use Rattle.xdg_graph.proofs.Labelled.{label_below}
use Rattle.xdg_plink.proofs.Failing.{closed_by_rules}
use Rattle.xdg_plink.proofs.Reaching.{is_reach, reach_or_apart}

-- each rule takes at a place
at_place : (p : Principle) → IsLinking p → (parts : Parts) (group : Group) (box : List (List Bool)) (d v : ℕ) → TakesBy p parts group box d v → (place : Edge) × IsPlaceOn parts (first_dim group) place × TakesAt p parts group box place d v
at_place p l parts group box d v t = elim (reach_or_apart p l) [
  | inl reaches ↦
      (let reach = is_reach p reaches in
      let rule = (reach.takes parts group box d v).0 t in
      (rule.place, rule.is, (reach.at parts group box rule.place d v).1 (rule, refl)))
  | inr apart ↦
      (let rule = subst (λ q. TakesBy q parts group box d v) apart t in
      (rule.place, rule.is, subst (λ q. TakesAt q parts group box rule.place d v) (sym apart) (rule, refl)))
]

pub closed_by_places : (parts : Parts) (group : Group) (box : List (List Bool)) → IsBox (shape parts) box → IsLinking group.principle → ((e : Edge) → IsPlaceOn parts (first_dim group) e → IsDoneAt parts group e box) → IsClosedFor parts group box
closed_by_places parts group box is linking done =
    closed_by_rules parts group box is linking (λ d x h rule. (let (e, on, takes) = at_place group.principle linking parts group box d x rule in done e on d x h takes))

pub all_done : (parts : Parts) (group : Group) (table : List (List ℕ)) (box : List (List Bool)) → IsBox (shape parts) box → IsLinking group.principle → IsExact parts group table box → AreMothersDone parts group table (nodes parts) box → IsClosedFor parts group box
all_done parts group table box is linking exact done = closed_by_places parts group box is linking (λ e on.
    let place = is_place parts e on.0 in
    let below = label_below parts e place in
    let same = ap (edge_labels parts) on.1 in
    done e.mother.0 place.mother e.label.0 (omega (arith, below, same)) exact e on refl refl)

-- so it is where nothing was lost near any
pub closed_free : (near : Near) (parts : Parts) (group : Group) (box : List (List Bool)) → IsBox (shape parts) box → IsLinking group.principle → AreOthersDone near parts group box → ((u v : ℕ) → IsFree near u v) → IsClosedFor parts group box
closed_free near parts group box is linking others free = closed_by_places parts group box is linking (λ e on. others e on (free e.mother.0 e.daughter.0))
