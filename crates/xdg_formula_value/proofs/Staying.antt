-- While a box loses values of other kinds than those at which a formula looks, it makes the formula no more than before.
use Rattle.std.proofs.Common.{◌≡◌, ℕ, inl, inr, Bool, true, false, ◌&&◌, List, refl, sym, ap, ◌∙◌, arith, subst}
use Rattle.std.specs.Prelude.{Contains, not, ◌==◌}
use Rattle.std.specs.Int.{bit_at}
use Rattle.std.proofs.lemmas.Bool.{cases_Bool, eqb-true, false≢true}
use Rattle.std.proofs.lemmas.List.Elements.{All-weaker, All-contains_itself}
use Rattle.xdg_problem.specs.declared.analysis.Edge.{Edge}
use Rattle.xdg_problem.specs.declared.formula.Formula.{Formula}
use Rattle.xdg_problem.specs.declared.parts.Group.{Group}
use Rattle.xdg_problem.specs.declared.parts.Parts.{Parts}
use Rattle.xdg_problem.specs.declared.parts.Principle.{Principle}
use Rattle.xdg_problem.specs.declared.parts.Principle.TheVariants as principles
use Rattle.xdg_problem.specs.Arguments.{first_dim, label_count}
use Rattle.xdg_problem.specs.Boxes.{Has, IsBox, LiesIn, attr_decision, entry_decision, edge_decision}
use Rattle.xdg_problem.specs.Claims.{Claim, negation, conjunction, disjunction, every, some, joined, above, left, same, valued, fitting, Claims, none, claim_then, claim, IsOf, EachIsOf, Suits}
use Rattle.xdg_problem.specs.Paths.{Above}
use Rattle.xdg_problem.specs.Places.{edge, nodes, places}
use Rattle.xdg_problem.specs.Problems.{IsProblem, IsGroup, IsSuited}
use Rattle.xdg_problem.specs.Tests.{Test, IsTestOf, linked}
use Rattle.xdg_problem.specs.Truths.{bound, unbound, AreNodes}
use Rattle.xdg_problem.specs.Vectors.{shape}
use Rattle.xdg_facts.proofs.Filters.{filter_alike}
use Rattle.xdg_rules.specs.Rules.{has, may_edges, must_edges, FailsTest, TakesBy, Takes, IsClosedFor}
use Rattle.xdg_rules.specs.Worths.{Makes, MakesEach, MakesSome, RuleFalse}
use Rattle.xdg_problem.proofs.Bindings.{bound_nodes}
use Rattle.xdg_rules.proofs.Sizes.{some_value}
use Rattle.xdg_propcore.specs.Kinds.{kind_of, edge_kind}
use Rattle.xdg_propcore.specs.Losses.{LosesOutside}
use Rattle.xdg_propcore.specs.Uses.{IsClosedBy, StandsFor, use_at, no_use}
use Rattle.xdg_propcore.proofs.DecisionKinds.{kind_of_entry, kind_of_attr, kind_of_edge}
use Rattle.xdg_formula_value.specs.ClaimKinds.{SomeKindOf, HasKinds}
use Rattle.xdg_formula_value.specs.Standing.{IsRule, HasKindsOf, stands_for}
use Rattle.xdg_formula_value.specs.declared.rule_prop.RuleProp.{RuleProp}
use Rattle.xdg_facts.proofs.Truths.{same_and, same_both}

module _ (parts : Parts) (problem : IsProblem parts) (wakes : ℕ) (old new : List (List Bool)) (inside : LiesIn new old)
    (outside : LosesOutside parts wakes old new) where
  -- values of the kinds that wake stay
  stays : (d v : ℕ) → bit_at wakes (kind_of parts d) ≡ 1 → Has old d v → Has new d v
  stays d v woken remains = elim (cases_Bool (has new d v)) [
    | inl there ↦ there
    | inr gone ↦ absurd (let quiet = outside d v (remains, λ there. false≢true (sym gone ∙ there)) in omega (arith, woken, quiet))
  ]

  same_has : (d v : ℕ) → bit_at wakes (kind_of parts d) ≡ 1 → has new d v ≡ has old d v
  same_has d v woken = elim (cases_Bool (has old d v)) [
    | inl there ↦ stays d v woken there ∙ sym there
    | inr gone ↦ elim (cases_Bool (has new d v)) [
      | inl there ↦ absurd (false≢true (sym gone ∙ inside d v there))
      | inr none_left ↦ none_left ∙ sym gone
    ]
  ]

  module _ (dim : ℕ) (woken : bit_at wakes (edge_kind dim) ≡ 1) where
    edge_woken : (e : Edge) → Contains (places parts) e → e.dim.0 ≡ dim → bit_at wakes (kind_of parts (edge_decision parts e)) ≡ 1
    edge_woken e place on = subst (λ k. bit_at wakes k ≡ 1) (sym (kind_of_edge parts e place ∙ ap edge_kind on)) woken

    same_must : must_edges parts new dim ≡ must_edges parts old dim
    same_must =
        filter_alike (λ e. (e.dim.0 == dim) && (has new (edge_decision parts e) 0 && not (has new (edge_decision parts e) 1)))
        (λ e. (e.dim.0 == dim) && (has old (edge_decision parts e) 0 && not (has old (edge_decision parts e) 1))) (places parts)
        (All-weaker (Contains (places parts)) _ (λ e place. same_both (e.dim.0 == dim) (has new (edge_decision parts e) 0) (has new (edge_decision parts e) 1) (has old (edge_decision parts e) 0) (has old (edge_decision parts e) 1)
        (λ on. same_has (edge_decision parts e) 0 (edge_woken e place (eqb-true e.dim.0 dim on)))
        (λ on. same_has (edge_decision parts e) 1 (edge_woken e place (eqb-true e.dim.0 dim on)))) (places parts) (All-contains_itself (places parts)))

    same_may : may_edges parts new dim ≡ may_edges parts old dim
    same_may =
        filter_alike (λ e. (e.dim.0 == dim) && has new (edge_decision parts e) 0) (λ e. (e.dim.0 == dim) && has old (edge_decision parts e) 0) (places parts)
        (All-weaker (Contains (places parts)) _ (λ e place. same_and (e.dim.0 == dim) (has new (edge_decision parts e) 0) (has old (edge_decision parts e) 0)
        (λ on. same_has (edge_decision parts e) 0 (edge_woken e place (eqb-true e.dim.0 dim on)))) (places parts) (All-contains_itself (places parts)))

  mutual
    pub made_before : (c : Claim) (truth : Bool) (b : ℕ → ℕ) → IsOf parts c → AreNodes parts b → HasKinds c wakes → Makes parts new c truth b
        → Makes parts old c truth b
    made_before (negation c) truth b suits are kinds makes = made_before c (not truth) b suits are kinds makes
    made_before (conjunction cs) true b suits are kinds makes = each_before cs true b suits are kinds makes
    made_before (conjunction cs) false b suits are kinds makes = some_before cs false b suits are kinds makes
    made_before (disjunction cs) true b suits are kinds makes = some_before cs true b suits are kinds makes
    made_before (disjunction cs) false b suits are kinds makes = each_before cs false b suits are kinds makes
    made_before (every name c) true b suits are kinds makes =
        λ node within. made_before c true (bound b name node) suits (bound_nodes parts b name node are within) kinds (makes node within)
    made_before (every name c) false b suits are kinds makes =
        (makes.0, makes.1, made_before c false (bound b name makes.0) suits (bound_nodes parts b name makes.0 are makes.1) kinds makes.2)
    made_before (some name c) true b suits are kinds makes =
        (makes.0, makes.1, made_before c true (bound b name makes.0) suits (bound_nodes parts b name makes.0 are makes.1) kinds makes.2)
    made_before (some name c) false b suits are kinds makes =
        λ node within. made_before c false (bound b name node) suits (bound_nodes parts b name node are within) kinds (makes node within)
    made_before (joined dim mother label daughter) true b suits are kinds makes =
        subst (λ es. Contains es (edge dim (b mother) label (b daughter))) (same_must dim (kinds (edge_kind dim) refl)) makes
    made_before (joined dim mother label daughter) false b suits are kinds makes =
        subst (λ es. Contains es (edge dim (b mother) label (b daughter)) → ⊥) (same_may dim (kinds (edge_kind dim) refl)) makes
    made_before (above dim upper lower) true b suits are kinds makes =
        subst (λ es. Above es (b upper) (b lower)) (same_must dim (kinds (edge_kind dim) refl)) makes
    made_before (above dim upper lower) false b suits are kinds makes =
        subst (λ es. Above es (b upper) (b lower) → ⊥) (same_may dim (kinds (edge_kind dim) refl)) makes
    made_before (left first second) truth b suits are kinds makes = makes
    made_before (same first second) truth b suits are kinds makes = makes
    made_before (valued name dim attr value) truth b suits are kinds makes =
        λ v remains. makes v
        (stays (attr_decision parts dim (b name) attr) v
        (kinds (kind_of parts (attr_decision parts dim (b name) attr)) (kind_of_attr parts dim (b name) attr suits.0 (are name) suits.1)) remains)
    made_before (fitting name table) truth b suits are kinds makes =
        λ c remains. makes c
        (stays (entry_decision (b name)) c
        (kinds (kind_of parts (entry_decision (b name)))
        (kind_of_entry parts (b name) (let each = problem.candidates_each in let l = are name in omega (arith, each, l))))
        remains)

    each_before : (cs : Claims) (truth : Bool) (b : ℕ → ℕ) → EachIsOf parts cs → AreNodes parts b → ((kind : ℕ) → SomeKindOf cs kind → bit_at wakes kind ≡ 1)
        → MakesEach parts new cs truth b → MakesEach parts old cs truth b
    each_before none truth b suits are kinds makes = tt
    each_before (claim_then c cs) truth b suits are kinds makes = (
      made_before c truth b suits.0 are (λ kind is. kinds kind (inl is)) makes.0,
      each_before cs truth b suits.1 are (λ kind is. kinds kind (inr is)) makes.1,
    )

    some_before : (cs : Claims) (truth : Bool) (b : ℕ → ℕ) → EachIsOf parts cs → AreNodes parts b → ((kind : ℕ) → SomeKindOf cs kind → bit_at wakes kind ≡ 1)
        → MakesSome parts new cs truth b → MakesSome parts old cs truth b
    some_before none truth b suits are kinds makes = makes
    some_before (claim_then c cs) truth b suits are kinds makes = elim makes [
      | inl here ↦ inl (made_before c truth b suits.0 are (λ kind is. kinds kind (inl is)) here)
      | inr later ↦ inr (some_before cs truth b suits.1 are (λ kind is. kinds kind (inr is)) later)
    ]

-- ---- a rule

-- it has no tests
untested : (formula : Formula) (truths : List Bool) (n labels : ℕ) (test : Test) → IsTestOf (principles.Rule formula) truths n labels test → ⊥
untested formula truths n labels (linked way u l v) named = named
untested formula truths n labels test named = named

module _ (parts : Parts) (group : Group) (box : List (List Bool)) where
  no_test : (p : Principle) → IsRule p → group.principle ≡ p → FailsTest parts group box → ⊥
  no_test (principles.Rule formula) rule is failing = untested formula group.truths (nodes parts) (label_count parts (first_dim group)) failing.test
      (subst (λ p. IsTestOf p group.truths (nodes parts) (label_count parts (first_dim group)) failing.test) is failing.is)
  no_test p rule is failing = absurd rule

  -- where its formula isn't false the box is closed for it
  pub closed_for_rule : (formula : Formula) → group.principle ≡ principles.Rule formula → (RuleFalse parts formula box → ⊥) → IsClosedFor parts group box
  closed_for_rule formula is not_false d v remains (inl failing) = no_test (principles.Rule formula) tt is failing
  closed_for_rule formula is not_false d v remains (inr by) = not_false (subst (λ p. TakesBy p parts group box d v) is by)

  -- where it is, all is taken
  pub rule_takes : (formula : Formula) → group.principle ≡ principles.Rule formula → RuleFalse parts formula box → (d v : ℕ) → Takes parts group box d v
  rule_takes formula is fails d v = inr (subst (λ p. TakesBy p parts group box d v) (sym is) fails)

  -- so it isn't where the box is closed
  pub rule_not_false : (formula : Formula) → IsProblem parts → IsBox (shape parts) box → group.principle ≡ principles.Rule formula → IsClosedFor parts group box
      → RuleFalse parts formula box → ⊥
  rule_not_false formula problem is_box is closed fails =
      (let some_left = some_value parts box problem is_box in closed 0 some_left.0 some_left.1 (rule_takes formula is fails 0 some_left.0))

closed_still : (parts : Parts) (problem : IsProblem parts) (group : Group) (group_is : IsGroup parts group) (wakes : ℕ) (old new : List (List Bool))
    → IsBox (shape parts) old → LiesIn new old → LosesOutside parts wakes old new
    → (p : Principle) → IsRule p → HasKindsOf p wakes → group.principle ≡ p → IsClosedFor parts group old → IsClosedFor parts group new
closed_still parts problem group group_is wakes old new old_is inside outside (principles.Rule formula) rule kinds is closed =
    let suits : Suits parts formula = subst (λ q. IsSuited q parts) is group_is.suits in
    closed_for_rule parts group new formula is (λ fails. rule_not_false parts group old formula problem old_is is closed
    (made_before parts problem wakes old new inside outside (claim formula) false unbound suits.is_of (λ name. problem.some) kinds fails))
closed_still parts problem group group_is wakes old new old_is inside outside p rule kinds is closed = absurd rule

-- where the propagator is still, it stays so while the box loses values of other kinds
pub rule_stays : (p : RuleProp) (parts : Parts) (number : ℕ) (old new : List (List Bool)) → IsProblem parts → StandsFor (stands_for p) parts number
    → IsBox (shape parts) old → IsBox (shape parts) new → LiesIn new old
    → LosesOutside parts p.wakes.0 old new → IsClosedBy (stands_for p) parts old → IsClosedBy (stands_for p) parts new
rule_stays p parts number old new problem stands old_is new_is inside outside still k here =
    closed_still parts problem (use_at parts k) (problem.groups k no_use here.0) p.wakes.0 old new old_is inside outside (use_at parts k).principle here.1.rule
    here.1.kinds refl (still k here)
