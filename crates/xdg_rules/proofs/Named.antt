-- What a claim is goes by the nodes for which its bound names stand, and by no others.
use Rattle.std.proofs.Common.{◌≡◌, ℕ, ◌<◌, inl, inr, Bool, true, false, cond, List, ◌∷◌, sym, subst, ap, ◌∙◌}
use Rattle.std.specs.Prelude.{Contains, not, slice_index, ◌==◌}
use Rattle.std.proofs.lemmas.Bool.{eq-eqb}
use Rattle.xdg_problem.specs.declared.analysis.Edge.{Edge}
use Rattle.xdg_problem.specs.declared.parts.Parts.{Parts}
use Rattle.xdg_problem.specs.Arguments.{attr_place}
use Rattle.xdg_problem.specs.Boxes.{attr_decision}
use Rattle.xdg_problem.specs.Paths.{edges_on, IsDaughterBy, Above}
use Rattle.xdg_problem.specs.Places.{edge}
use Rattle.xdg_facts.proofs.Contained.{contains_cases}
use Rattle.xdg_rules.specs.Rules.{may_edges, must_edges, EachEntry}
use Rattle.xdg_problem.specs.Claims.{Claim, negation, conjunction, disjunction, every, some, joined, above, left, same, valued, fitting, Claims, none, claim_then, IsBound, EachIsBound}
use Rattle.xdg_problem.specs.Truths.{bound, says, IsTrueOf, EachTrueOf, SomeTrueOf, HasTruth}
use Rattle.xdg_rules.specs.Worths.{EachValue, Makes, MakesEach, MakesSome}
use Rattle.xdg_rules.specs.WorthLaws.{Agree}

turned : (scope : List ℕ) (a b : ℕ → ℕ) → Agree scope a b → Agree scope b a
turned scope a b agree name within = sym (agree name within)

-- where both bind a further name to the same node they agree on it too
bound_agree : (scope : List ℕ) (a b : ℕ → ℕ) (name node : ℕ) → Agree scope a b → Agree (name ∷ scope) (bound a name node) (bound b name node)
bound_agree scope a b name node agree other within = elim (contains_cases name scope other within) [
  | inl is ↦ (let same_name = eq-eqb other name (sym is) in ap (λ t. cond t node (a other)) same_name ∙ sym (ap (λ t. cond t node (b other)) same_name))
  | inr later ↦ ap (cond (other == name) node) (agree other later)
]

-- a relation of two nodes that both bindings name
pair_like : (R : ℕ → ℕ → Type 0) (scope : List ℕ) (a b : ℕ → ℕ) → Agree scope a b → (x y : ℕ) → Contains scope x × Contains scope y → R (a x) (a y) → R (b x) (b y)
pair_like R scope a b agree x y within holds = subst (R (b x)) (agree y within.1) (subst (λ k. R k (a y)) (agree x within.0) holds)

module _ (parts : Parts) (entries attrs : List ℕ) (edges : List Edge) where
  mutual
    pub true_like : (scope : List ℕ) (c : Claim) (a b : ℕ → ℕ) → IsBound scope c → Agree scope a b → IsTrueOf parts entries attrs edges c a → IsTrueOf parts entries attrs edges c b
    true_like scope (negation c) a b names agree fails = λ holds. fails (true_like scope c b a names (turned scope a b agree) holds)
    true_like scope (conjunction cs) a b names agree all = each_like scope cs a b names agree all
    true_like scope (disjunction cs) a b names agree one = some_like scope cs a b names agree one
    true_like scope (every name c) a b names agree all = λ node within. true_like (name ∷ scope) c (bound a name node) (bound b name node) names (bound_agree scope a b name node agree) (all node within)
    true_like scope (some name c) a b names agree found = (found.0, found.1, true_like (name ∷ scope) c (bound a name found.0) (bound b name found.0) names (bound_agree scope a b name found.0 agree) found.2)
    true_like scope (joined dim mother label daughter) a b names agree by = pair_like (λ u v. IsDaughterBy (edges_on dim edges) u label v) scope a b agree mother daughter names by
    true_like scope (above dim upper lower) a b names agree path = pair_like (Above (edges_on dim edges)) scope a b agree upper lower names path
    true_like scope (left first second) a b names agree before = pair_like (λ u v. u < v) scope a b agree first second names before
    true_like scope (same first second) a b names agree is = pair_like (λ u v. u ≡ v) scope a b agree first second names is
    true_like scope (valued name dim attr value) a b names agree is = subst (λ u. slice_index attrs (attr_place parts dim u attr) ≡ value) (agree name names) is
    true_like scope (fitting name table) a b names agree is = subst (λ u. says table u (slice_index entries u) ≡ true) (agree name names) is

    each_like : (scope : List ℕ) (cs : Claims) (a b : ℕ → ℕ) → EachIsBound scope cs → Agree scope a b → EachTrueOf parts entries attrs edges cs a → EachTrueOf parts entries attrs edges cs b
    each_like scope none a b names agree all = tt
    each_like scope (claim_then c cs) a b names agree all = (true_like scope c a b names.0 agree all.0, each_like scope cs a b names.1 agree all.1)

    some_like : (scope : List ℕ) (cs : Claims) (a b : ℕ → ℕ) → EachIsBound scope cs → Agree scope a b → SomeTrueOf parts entries attrs edges cs a → SomeTrueOf parts entries attrs edges cs b
    some_like scope none a b names agree one = one
    some_like scope (claim_then c cs) a b names agree one = elim one [ inl here ↦ inl (true_like scope c a b names.0 agree here) | inr later ↦ inr (some_like scope cs a b names.1 agree later) ]

module _ (parts : Parts) (box : List (List Bool)) where
  mutual
    pub makes_like : (scope : List ℕ) (c : Claim) (truth : Bool) (a b : ℕ → ℕ) → IsBound scope c → Agree scope a b → Makes parts box c truth a → Makes parts box c truth b
    makes_like scope (negation c) truth a b names agree makes = makes_like scope c (not truth) a b names agree makes
    makes_like scope (conjunction cs) true a b names agree makes = makes_each_like scope cs true a b names agree makes
    makes_like scope (conjunction cs) false a b names agree makes = makes_some_like scope cs false a b names agree makes
    makes_like scope (disjunction cs) true a b names agree makes = makes_some_like scope cs true a b names agree makes
    makes_like scope (disjunction cs) false a b names agree makes = makes_each_like scope cs false a b names agree makes
    makes_like scope (every name c) true a b names agree makes = λ node within. makes_like (name ∷ scope) c true (bound a name node) (bound b name node) names (bound_agree scope a b name node agree) (makes node within)
    makes_like scope (every name c) false a b names agree makes = (makes.0, makes.1, makes_like (name ∷ scope) c false (bound a name makes.0) (bound b name makes.0) names (bound_agree scope a b name makes.0 agree) makes.2)
    makes_like scope (some name c) true a b names agree makes = (makes.0, makes.1, makes_like (name ∷ scope) c true (bound a name makes.0) (bound b name makes.0) names (bound_agree scope a b name makes.0 agree) makes.2)
    makes_like scope (some name c) false a b names agree makes = λ node within. makes_like (name ∷ scope) c false (bound a name node) (bound b name node) names (bound_agree scope a b name node agree) (makes node within)
    makes_like scope (joined dim mother label daughter) true a b names agree must = pair_like (λ u v. Contains (must_edges parts box dim) (edge dim u label v)) scope a b agree mother daughter names must
    makes_like scope (joined dim mother label daughter) false a b names agree off = pair_like (λ u v. Contains (may_edges parts box dim) (edge dim u label v) → ⊥) scope a b agree mother daughter names off
    makes_like scope (above dim upper lower) true a b names agree path = pair_like (Above (must_edges parts box dim)) scope a b agree upper lower names path
    makes_like scope (above dim upper lower) false a b names agree off = pair_like (λ u v. Above (may_edges parts box dim) u v → ⊥) scope a b agree upper lower names off
    makes_like scope (left first second) truth a b names agree makes = pair_like (λ u v. HasTruth truth (u < v)) scope a b agree first second names makes
    makes_like scope (same first second) truth a b names agree makes = pair_like (λ u v. HasTruth truth (u ≡ v)) scope a b agree first second names makes
    makes_like scope (valued name dim attr value) truth a b names agree makes = subst (λ u. EachValue box (attr_decision parts dim u attr) (λ v. HasTruth truth (v ≡ value))) (agree name names) makes
    makes_like scope (fitting name table) truth a b names agree makes = subst (λ u. EachEntry box u (λ c. HasTruth truth (says table u c ≡ true))) (agree name names) makes

    makes_each_like : (scope : List ℕ) (cs : Claims) (truth : Bool) (a b : ℕ → ℕ) → EachIsBound scope cs → Agree scope a b → MakesEach parts box cs truth a → MakesEach parts box cs truth b
    makes_each_like scope none truth a b names agree makes = tt
    makes_each_like scope (claim_then c cs) truth a b names agree makes = (makes_like scope c truth a b names.0 agree makes.0, makes_each_like scope cs truth a b names.1 agree makes.1)

    makes_some_like : (scope : List ℕ) (cs : Claims) (truth : Bool) (a b : ℕ → ℕ) → EachIsBound scope cs → Agree scope a b → MakesSome parts box cs truth a → MakesSome parts box cs truth b
    makes_some_like scope none truth a b names agree makes = makes
    makes_some_like scope (claim_then c cs) truth a b names agree makes = elim makes [ inl here ↦ inl (makes_like scope c truth a b names.0 agree here) | inr later ↦ inr (makes_some_like scope cs truth a b names.1 agree later) ]
