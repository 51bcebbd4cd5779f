-- Decisions by their numbers, and the decisions of edges that have lost values.
use Rattle.std.proofs.Common.{◌≡◌, ℕ, ◌<◌, ◌≤◌, inl, inr, Bool, List, Contains, length, get_or, sym, ap, ◌∙◌, arith, subst}
use Rattle.std.specs.Prelude.{◌⊎◌}
use Rattle.std.proofs.lemmas.Bool.{cases_Bool, false≢true}
use Rattle.std.proofs.lemmas.List.{get_or_default}
use Rattle.xdg_problem.specs.declared.analysis.Edge.{Edge}
use Rattle.xdg_problem.specs.declared.parts.Parts.{Parts}
use Rattle.xdg_problem.specs.Analyses.{IsPlace}
use Rattle.xdg_problem.specs.Arguments.{attr_count}
use Rattle.xdg_problem.specs.Boxes.{Has, IsBox, entry_decision, attr_decision, edge_decision}
use Rattle.xdg_problem.specs.Places.{nodes}
use Rattle.xdg_problem.specs.Problems.{IsProblem}
use Rattle.xdg_problem.specs.Vectors.{shape}
use Rattle.xdg_problem.proofs.PlaceOrder.{is_place}
use Rattle.xdg_rules.specs.Rules.{has, may_edges, must_edges}
use Rattle.xdg_rules.proofs.Shrinking.{may_exact, must_exact}
use Rattle.xdg_store.specs.Decisions.{IsDecision, number_of}
use Rattle.xdg_store.specs.Naming.{Names}
use Rattle.xdg_store.specs.declared.decision.Decision.{Decision}
use Rattle.xdg_store.specs.declared.decision.Decision.TheVariants as decisions
use Rattle.xdg_store.proofs.Kept.{on_edge}
use Rattle.xdg_propcore.proofs.ByNumber.{by_attr, by_entry}
use Rattle.xdg_formula_value.specs.Lost.{IsAttrOf, IsEntryOf, LosesOne}

module _ (parts : Parts) (problem : IsProblem parts) where
  -- ---- a decision by its number

  pub entry_of : (d : Decision) (node : ℕ) → node < nodes parts → IsDecision parts d → number_of parts d ≡ entry_decision node → IsEntryOf d node
  entry_of d node l is e = by_entry parts problem (λ k. IsEntryOf k node) node l (λ it same. same) d is e

  pub attr_of : (d : Decision) (dim node attr : ℕ) → dim < length parts.dims → node < nodes parts → attr < attr_count parts dim → IsDecision parts d
      → number_of parts d ≡ attr_decision parts dim node attr → IsAttrOf d dim node attr
  attr_of d dim node attr l m a is e = by_attr parts problem (λ k. IsAttrOf k dim node attr) dim node attr l m a (λ on it which one two three. (one, two, three)) d is e

  -- ---- what was lost

  module _ (old new : List (List Bool)) (old_is : IsBox (shape parts) old) (new_is : IsBox (shape parts) new) (removed : List Decision) (all : Names parts old new removed) where
    -- the decision of an edge that has lost a value
    pub lost_edge : (e : Edge) (v : ℕ) → IsPlace parts e → Has old (edge_decision parts e) v → (Has new (edge_decision parts e) v → ⊥) → Contains removed (decisions.Place e)
    lost_edge e v place was isnt =
        let found = all.all (edge_decision parts e) v was isnt in
        subst (Contains removed) (on_edge parts found.0 e problem place (subst (IsDecision parts) found.1.2 (all.each found.1.0 found.0 found.1.1)) found.2) found.1

-- ---- edges that must be, or may be, before and since

-- an edge has lost a value
abbrev pub HasLost : Parts → List (List Bool) → List (List Bool) → ℕ → Edge → Type 0
HasLost parts old new v e = IsPlace parts e × Has old (edge_decision parts e) v × (Has new (edge_decision parts e) v → ⊥)

module _ (parts : Parts) (old new : List (List Bool)) (old_is : IsBox (shape parts) old) (new_is : IsBox (shape parts) new) (dim : ℕ) where
  -- an edge that must be had to be before, or it has lost that it is absent
  pub must_since : (f : Edge) → Contains (must_edges parts new dim) f → Contains (must_edges parts old dim) f ⊎ HasLost parts old new 1 f
  must_since f is =
      let now = (must_exact parts new dim f new_is).0 is in
      elim (cases_Bool (has old (edge_decision parts f) 1)) [
        | inl was ↦ inr (is_place parts f now.0.0, was, now.1)
        | inr gone ↦ inl ((must_exact parts old dim f old_is).1 (now.0, λ there. false≢true (sym gone ∙ there)))
      ]

  -- an edge that might be may still be, or it has lost that it is present
  pub may_since : (f : Edge) → Contains (may_edges parts old dim) f → Contains (may_edges parts new dim) f ⊎ HasLost parts old new 0 f
  may_since f is =
      let then = (may_exact parts old dim f).0 is in
      elim (cases_Bool (has new (edge_decision parts f) 0)) [
        | inl there ↦ inl ((may_exact parts new dim f).1 (then.0, there))
        | inr gone ↦ inr (is_place parts f then.0.0, then.1, λ there. false≢true (sym gone ∙ there))
      ]

-- ---- where values of one decision were lost

abbrev edge_in : Decision → Edge → Edge
edge_in (decisions.Place e) other = e
edge_in decision other = other

-- of at most one decision there are no two
none_else : (few : List Decision) → length few ≤ 1 → (c d : Decision) → Contains few c → Contains few d → c ≡ d
none_else few most c d first second =
    let l = first.1 in
    let m = second.1 in
    let at : first.0 ≡ second.0 = omega (arith, most, l, m) in
    sym first.2 ∙ ap (λ k. get_or few k c) at ∙ get_or_default few second.0 c d second.1 ∙ second.2

-- two edges that have lost values are one
pub same_lost : (parts : Parts) (problem : IsProblem parts) (old new : List (List Bool)) → IsBox (shape parts) old → IsBox (shape parts) new → LosesOne parts old new
    → (e f : Edge) (v w : ℕ) → HasLost parts old new v e → HasLost parts old new w f → f ≡ e
same_lost parts problem old new old_is new_is one e f v w lost other = ap (λ d. edge_in d e)
    (none_else one.0 one.1 (decisions.Place f) (decisions.Place e)
    (lost_edge parts problem old new old_is new_is one.0 one.2 f w other.0 other.1 other.2)
    (lost_edge parts problem old new old_is new_is one.0 one.2 e v lost.0 lost.1 lost.2))
