-- Which decision has a number: that of an entry, or of an attribute, is the decision on it. For an edge it is `on_edge` of the store.
use Rattle.std.proofs.Common.{◌≡◌, ℕ, ◌+◌, ◌*◌, ◌<◌, length, ap, arith, subst}
use Rattle.xdg_base.specs.declared.ids.AttrId.{AttrId}
use Rattle.xdg_base.specs.declared.ids.DimId.{DimId}
use Rattle.xdg_base.specs.declared.ids.NodeId.{NodeId}
use Rattle.xdg_problem.specs.declared.parts.Parts.{Parts}
use Rattle.xdg_problem.specs.Arguments.{attr_count, attr_place}
use Rattle.xdg_problem.specs.Boxes.{entry_decision, attr_decision}
use Rattle.xdg_problem.specs.Places.{nodes}
use Rattle.xdg_problem.specs.Problems.{IsProblem}
use Rattle.xdg_problem.proofs.PlaceOrder.{place_is}
use Rattle.xdg_store.specs.Decisions.{IsDecision, number_of}
use Rattle.xdg_store.specs.declared.decision.Decision.{Decision}
use Rattle.xdg_store.specs.declared.decision.Decision.TheVariants as decisions
use Rattle.xdg_propcore.specs.Kinds.{attr_kind, edge_kind, entry_kind, kind_of}
use Rattle.xdg_propcore.proofs.DecisionKinds.{kind_of_attr, kind_of_edge, kind_of_entry}
use Rattle.xdg_facts.proofs.Numbers.{same_row, same_column}

module _ (parts : Parts) (problem : IsProblem parts) (P : Decision → Type 0) where
  few : (node : ℕ) → node < nodes parts → node < length parts.candidates
  few node l = (let each = problem.candidates_each in omega (arith, each, l))

  abbrev kind : Decision → ℕ
  kind (decisions.Entry it) = entry_kind
  kind (decisions.Attr on it which) = attr_kind on.0
  kind (decisions.Place e) = edge_kind e.dim.0

  kind_is : (d : Decision) → IsDecision parts d → kind_of parts (number_of parts d) ≡ kind d
  kind_is (decisions.Entry it) is = kind_of_entry parts it.0 (few it.0 is)
  kind_is (decisions.Attr on it which) is = kind_of_attr parts on.0 it.0 which.0 is.0 is.1 is.2
  kind_is (decisions.Place e) is = kind_of_edge parts e (place_is parts e is)

  pub by_entry : (node : ℕ) → node < nodes parts → ((it : NodeId) → it.0 ≡ node → P (decisions.Entry it)) → (d : Decision) → IsDecision parts d → number_of parts d ≡ entry_decision node → P d
  by_entry node l here (decisions.Entry it) is e = here it e
  by_entry node l here d is e = absurd (omega (arith, kind_is d is, kind_of_entry parts node (few node l), ap (kind_of parts) e))

  pub by_attr : (dim node attr : ℕ) → dim < length parts.dims → node < nodes parts → attr < attr_count parts dim
      → ((on : DimId) (it : NodeId) (which : AttrId) → on.0 ≡ dim → it.0 ≡ node → which.0 ≡ attr → P (decisions.Attr on it which)) → (d : Decision) → IsDecision parts d → number_of parts d ≡ attr_decision parts dim node attr → P d
  by_attr dim node attr l m a there (decisions.Attr on it which) is e =
      let here : on.0 ≡ dim = omega (arith, kind_is (decisions.Attr on it which) is, kind_of_attr parts dim node attr l m a, ap (kind_of parts) e) in
      let alike : attr_place parts dim it.0 which.0 ≡ attr_place parts dim node attr = (let q = ap (λ z. attr_place parts z it.0 which.0) here in omega (arith, e, q)) in
      let within : which.0 < attr_count parts dim = subst (λ z. which.0 < attr_count parts z) here is.2 in
      let cells : it.0 * attr_count parts dim + which.0 ≡ node * attr_count parts dim + attr = omega (arith, alike) in
      let row = same_row it.0 which.0 node attr (attr_count parts dim) within a cells in
      there on it which here row (same_column it.0 which.0 node attr (attr_count parts dim) row cells)
  by_attr dim node attr l m a there d is e = absurd (omega (arith, kind_is d is, kind_of_attr parts dim node attr l m a, ap (kind_of parts) e))
