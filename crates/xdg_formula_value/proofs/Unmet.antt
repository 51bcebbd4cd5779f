-- What a box makes of a claim is as before where no decision that has lost values concerns the claim.
use Rattle.std.proofs.Common.{◌≡◌, ℕ, inl, inr, Bool, true, false, List, Contains, refl, sym, ◌∙◌, subst}
use Rattle.std.specs.Prelude.{not}
use Rattle.std.proofs.lemmas.Bool.{cases_Bool, false≢true}
use Rattle.xdg_problem.specs.declared.analysis.Edge.{Edge}
use Rattle.xdg_problem.specs.declared.parts.Parts.{Parts}
use Rattle.xdg_problem.specs.Boxes.{Has, IsBox, entry_decision, attr_decision, edge_decision}
use Rattle.xdg_problem.specs.Claims.{Claim, negation, conjunction, disjunction, every, some, joined, above, left, same, valued, fitting, Claims, none, claim_then, IsOf, EachIsOf}
use Rattle.xdg_problem.specs.Places.{edge, places}
use Rattle.xdg_problem.specs.Problems.{IsProblem}
use Rattle.xdg_problem.specs.Truths.{bound, AreNodes}
use Rattle.xdg_problem.specs.Vectors.{shape}
use Rattle.xdg_problem.proofs.PlaceOrder.{is_place}
use Rattle.xdg_rules.specs.Rules.{has, may_edges, must_edges}
use Rattle.xdg_rules.specs.Worths.{Makes, MakesEach, MakesSome}
use Rattle.xdg_problem.proofs.Bindings.{bound_nodes}
use Rattle.xdg_rules.proofs.Shrinking.{may_exact, must_exact}
use Rattle.xdg_store.specs.Decisions.{IsDecision, number_of}
use Rattle.xdg_store.specs.Naming.{Names}
use Rattle.xdg_store.specs.declared.decision.Decision.{Decision}
use Rattle.xdg_store.specs.declared.decision.Decision.TheVariants as decisions
use Rattle.xdg_formula_value.specs.Lost.{AsksIf, EachAsksIf, Concerns, ConcernsSome, IsAttrOf, IsEdgeOf, IsEntryOf, LosesOne}
use Rattle.xdg_formula_value.proofs.Losing.{attr_of, entry_of, lost_edge}
use Rattle.xdg_formula_value.proofs.Moved.{path_before, path_behind}

module _ (parts : Parts) (problem : IsProblem parts) (old new : List (List Bool)) (old_is : IsBox (shape parts) old) (new_is : IsBox (shape parts) new) (removed : List Decision) (all : Names parts old new removed) where
  stays : (P : Decision → Type 0) (d v : ℕ) → ((decision : Decision) → Contains removed decision → P decision → ⊥) → ((decision : Decision) → IsDecision parts decision → number_of parts decision ≡ d → P decision) → Has old d v → Has new d v
  stays P d v unmet meets remains = elim (cases_Bool (has new d v)) [
    | inl there ↦ there
    | inr gone ↦ absurd (
        let found = all.all d v remains (λ there. false≢true (sym gone ∙ there)) in
        unmet found.0 found.1 (meets found.0 (subst (IsDecision parts) found.1.2 (all.each found.1.0 found.0 found.1.1)) found.2)
        )
  ]

  module _ (dim mother label daughter : ℕ) (unmet : (d : Decision) → Contains removed d → IsEdgeOf d dim mother label daughter → ⊥) where
    abbrev at : Edge
    at = edge dim mother label daughter

    edge_stays : (v : ℕ) → Contains (places parts) at → Has old (edge_decision parts at) v → Has new (edge_decision parts at) v
    edge_stays v place remains = elim (cases_Bool (has new (edge_decision parts at) v)) [
      | inl there ↦ there
      | inr gone ↦ absurd (unmet (decisions.Place at) (lost_edge parts problem old new old_is new_is removed all at v (is_place parts at place) remains (λ there. false≢true (sym gone ∙ there))) (refl, refl, refl, refl))
    ]

    must_before : Contains (must_edges parts new dim) at → Contains (must_edges parts old dim) at
    must_before is =
        let now = (must_exact parts new dim at new_is).0 is in
        (must_exact parts old dim at old_is).1 (now.0, λ there. now.1 (edge_stays 1 now.0.0 there))

    may_before : (Contains (may_edges parts new dim) at → ⊥) → Contains (may_edges parts old dim) at → ⊥
    may_before isnt is =
        let then = (may_exact parts old dim at).0 is in
        isnt ((may_exact parts new dim at).1 (then.0, edge_stays 0 then.0.0 then.1))

  -- no decision that has lost a value is one that concerns a claim
  abbrev pub IsUnmet : Claim → (ℕ → ℕ) → Type 0
  IsUnmet c b = (d : Decision) → Contains removed d → Concerns parts old new d c b → ⊥

  abbrev AreUnmet : Claims → (ℕ → ℕ) → Type 0
  AreUnmet cs b = (d : Decision) → Contains removed d → ConcernsSome parts old new d cs b → ⊥

  mutual
    pub made_before : (c : Claim) (truth : Bool) (b : ℕ → ℕ) → AreNodes parts b → IsOf parts c → AsksIf (LosesOne parts old new) c → IsUnmet c b → Makes parts new c truth b → Makes parts old c truth b
    made_before (negation c) truth b are suits asks unmet makes = made_before c (not truth) b are suits asks unmet makes
    made_before (conjunction cs) true b are suits asks unmet makes = each_before cs true b are suits asks unmet makes
    made_before (conjunction cs) false b are suits asks unmet makes = some_before cs false b are suits asks unmet makes
    made_before (disjunction cs) true b are suits asks unmet makes = some_before cs true b are suits asks unmet makes
    made_before (disjunction cs) false b are suits asks unmet makes = each_before cs false b are suits asks unmet makes
    made_before (every name c) true b are suits asks unmet makes = λ node l. made_before c true (bound b name node) (bound_nodes parts b name node are l) suits asks (λ d among meets. unmet d among (node, meets)) (makes node l)
    made_before (every name c) false b are suits asks unmet makes =
        (makes.0, makes.1, made_before c false (bound b name makes.0) (bound_nodes parts b name makes.0 are makes.1) suits asks (λ d among meets. unmet d among (makes.0, meets)) makes.2)
    made_before (some name c) true b are suits asks unmet makes =
        (makes.0, makes.1, made_before c true (bound b name makes.0) (bound_nodes parts b name makes.0 are makes.1) suits asks (λ d among meets. unmet d among (makes.0, meets)) makes.2)
    made_before (some name c) false b are suits asks unmet makes = λ node l. made_before c false (bound b name node) (bound_nodes parts b name node are l) suits asks (λ d among meets. unmet d among (node, meets)) (makes node l)
    made_before (joined dim mother label daughter) true b are suits asks unmet makes = must_before dim (b mother) label (b daughter) unmet makes
    made_before (joined dim mother label daughter) false b are suits asks unmet makes = may_before dim (b mother) label (b daughter) unmet makes
    made_before (above dim upper lower) true b are suits asks unmet makes = path_before parts problem old new old_is new_is asks removed all dim (b upper) (b lower) unmet makes
    made_before (above dim upper lower) false b are suits asks unmet makes = path_behind parts problem old new old_is new_is asks removed all dim (b upper) (b lower) unmet makes
    made_before (left first second) truth b are suits asks unmet makes = makes
    made_before (same first second) truth b are suits asks unmet makes = makes
    made_before (valued name dim attr value) truth b are suits asks unmet makes =
        λ v remains. makes v (stays (λ d. IsAttrOf d dim (b name) attr) (attr_decision parts dim (b name) attr) v unmet (λ d is e. attr_of parts problem d dim (b name) attr suits.0 (are name) suits.1 is e) remains)
    made_before (fitting name table) truth b are suits asks unmet makes =
        λ c remains. makes c (stays (λ d. IsEntryOf d (b name)) (entry_decision (b name)) c unmet (λ d is e. entry_of parts problem d (b name) (are name) is e) remains)

    each_before : (cs : Claims) (truth : Bool) (b : ℕ → ℕ) → AreNodes parts b → EachIsOf parts cs → EachAsksIf (LosesOne parts old new) cs → AreUnmet cs b → MakesEach parts new cs truth b → MakesEach parts old cs truth b
    each_before none truth b are suits asks unmet makes = tt
    each_before (claim_then c cs) truth b are suits asks unmet makes =
        (made_before c truth b are suits.0 asks.0 (λ d among meets. unmet d among (inl meets)) makes.0, each_before cs truth b are suits.1 asks.1 (λ d among meets. unmet d among (inr meets)) makes.1)

    some_before : (cs : Claims) (truth : Bool) (b : ℕ → ℕ) → AreNodes parts b → EachIsOf parts cs → EachAsksIf (LosesOne parts old new) cs → AreUnmet cs b → MakesSome parts new cs truth b → MakesSome parts old cs truth b
    some_before none truth b are suits asks unmet makes = makes
    some_before (claim_then c cs) truth b are suits asks unmet makes = elim makes [
      | inl here ↦ inl (made_before c truth b are suits.0 asks.0 (λ d among meets. unmet d among (inl meets)) here)
      | inr later ↦ inr (some_before cs truth b are suits.1 asks.1 (λ d among meets. unmet d among (inr meets)) later)
    ]
