-- When a box is closed for a bound, and that it stays so while it loses no entries and no edges.
use Rattle.std.proofs.Common.{◌≡◌, ℕ, ◌<◌, inl, inr, zero, suc, Bool, List, refl, sym, arith, subst}
use Rattle.std.specs.Int.{bit_at}
use Rattle.xdg_problem.specs.declared.parts.Group.{Group}
use Rattle.xdg_problem.specs.declared.parts.Parts.{Parts}
use Rattle.xdg_problem.specs.declared.parts.Principle.{Principle}
use Rattle.xdg_problem.specs.declared.parts.Principle.TheVariants as principles
use Rattle.xdg_problem.specs.Arguments.{first_dim, label_count}
use Rattle.xdg_problem.specs.Boxes.{Has, IsBox, LiesIn, entry_decision, edge_decision}
use Rattle.xdg_problem.specs.Costs.{CostLists}
use Rattle.xdg_problem.specs.Places.{nodes}
use Rattle.xdg_problem.specs.Problems.{IsProblem}
use Rattle.xdg_problem.specs.Tests.{Test, IsTestOf, linked}
use Rattle.xdg_problem.specs.Vectors.{shape}
use Rattle.xdg_problem.proofs.PlaceOrder.{is_place}
use Rattle.xdg_problem.proofs.PlacePlans.{dim_within}
use Rattle.xdg_propcore.specs.Kinds.{kind_of, edge_kind}
use Rattle.xdg_propcore.specs.Losses.{LosesOutside}
use Rattle.xdg_propcore.specs.Uses.{IsClosedBy, StandsFor, use_at}
use Rattle.xdg_propcore.proofs.DecisionKinds.{kind_of_entry, kind_of_edge}
use Rattle.xdg_rules.specs.Bounds.{BoundReached, BoundPlace}
use Rattle.xdg_rules.specs.Rules.{FailsTest, TakesBy, IsClosedFor}
use Rattle.xdg_rules.proofs.Sizes.{some_value}
use Rattle.xdg_rules.proofs.Costing.{CostsLie, cost_more}
use Rattle.xdg_propcore.proofs.Losing.{kept_or_lost}
use Rattle.xdg_engine.specs.Bounding.{HoldsBound, bound_stands}
use Rattle.xdg_engine.specs.declared.cost_prop.CostProp.{CostProp}

-- a bound has no tests
untested : (costs : CostLists) (bound : ℕ) (truths : List Bool) (n labels : ℕ) (test : Test) → IsTestOf (principles.Bound costs bound) truths n labels test → ⊥
untested costs bound truths n labels (linked way u l v) named = named
untested costs bound truths n labels test named = named

no_test : (parts : Parts) (group : Group) (box : List (List Bool)) (costs : CostLists) (bound : ℕ) → group.principle ≡ principles.Bound costs bound
    → FailsTest parts group box → ⊥
no_test parts group box costs bound is failing = untested costs bound group.truths (nodes parts) (label_count parts (first_dim group)) failing.test
    (subst (λ p. IsTestOf p group.truths (nodes parts) (label_count parts (first_dim group)) failing.test) is failing.is)

-- where it takes nothing the box is closed
pub closed_for_bound : (parts : Parts) (group : Group) (box : List (List Bool)) (costs : CostLists) (bound : ℕ) → group.principle ≡ principles.Bound costs bound
    → (BoundReached parts costs bound box → ⊥) → ((d v : ℕ) → Has box d v → BoundPlace parts costs bound box d v → ⊥) → IsClosedFor parts group box
closed_for_bound parts group box costs bound is below none d v remains (inl failing) = no_test parts group box costs bound is failing
closed_for_bound parts group box costs bound is below none d v remains (inr by) =
    elim (subst (λ p. TakesBy p parts group box d v) is by) [ inl reached ↦ below reached | inr place ↦ none d v remains place ]

-- each bit of an edge kind is set
edge_bit : (dim : ℕ) → dim < 8 → bit_at 87381 (edge_kind dim) ≡ 1
edge_bit zero l = refl
edge_bit (suc zero) l = refl
edge_bit (suc (suc zero)) l = refl
edge_bit (suc (suc (suc zero))) l = refl
edge_bit (suc (suc (suc (suc zero)))) l = refl
edge_bit (suc (suc (suc (suc (suc zero))))) l = refl
edge_bit (suc (suc (suc (suc (suc (suc zero)))))) l = refl
edge_bit (suc (suc (suc (suc (suc (suc (suc zero))))))) l = refl
edge_bit (suc (suc (suc (suc (suc (suc (suc (suc dim)))))))) l = absurd (omega (arith, l))

module _ (parts : Parts) (problem : IsProblem parts) (old new : List (List Bool)) (inside : LiesIn new old) (outside : LosesOutside parts 87381 old new) where
  stays : (d v : ℕ) → bit_at 87381 (kind_of parts d) ≡ 1 → Has old d v → Has new d v
  stays d v woken = kept_or_lost old new d v (λ lost. (let quiet = outside d v lost in omega (arith, woken, quiet)))

  costs_stay : CostsLie parts old new
  costs_stay = record {
    entries = λ node c within. stays (entry_decision node) c
        (subst (λ k. bit_at 87381 k ≡ 1) (sym (kind_of_entry parts node (let each = problem.candidates_each in omega (arith, each, within)))) refl);
    edges = λ dim e on v. stays (edge_decision parts e) v (subst (λ k. bit_at 87381 k ≡ 1) (sym (kind_of_edge parts e on.0))
        (edge_bit e.dim.0 (let dim_in = dim_within parts e (is_place parts e on.0) in let few = problem.dims_most in omega (arith, dim_in, few))));
  }

  closed_still : (group : Group) (p : Principle) (mine : ℕ) (entries labels : List (List ℕ)) → IsBox (shape parts) old → HoldsBound p parts mine entries labels
      → group.principle ≡ p → IsClosedFor parts group old → IsClosedFor parts group new
  closed_still group (principles.Bound costs bound) mine entries labels old_is holds is closed =
      let more = cost_more parts costs old new problem old_is costs_stay in
      let some = some_value parts old problem old_is in
      let takes : (d v : ℕ) → Has old d v → TakesBy (principles.Bound costs bound) parts group old d v
      → ⊥ = λ d v remains by. closed d v remains (inr (subst (λ q. TakesBy q parts group old d v) (sym is) by)) in
      closed_for_bound parts group new costs bound is
      (λ reached. takes 0 some.0 some.1 (inl (omega (arith, reached, more))))
      (λ d v remains rule. takes d v (inside d v remains) (inr (record {
        place = rule.place;
        is = rule.is;
        says = rule.says;
        free = inside (edge_decision parts rule.place) 1 rule.free;
        reaches = (let reaches = rule.reaches in omega (arith, reaches, more));
      })))
  closed_still group p mine entries labels old_is holds is closed = absurd holds

-- where the propagator is still, it stays so while the box loses values of other kinds
pub bound_stays : (p : CostProp) (parts : Parts) (number : ℕ) (old new : List (List Bool)) → IsProblem parts → StandsFor (bound_stands p) parts number
    → IsBox (shape parts) old → IsBox (shape parts) new → LiesIn new old
    → LosesOutside parts 87381 old new → IsClosedBy (bound_stands p) parts old → IsClosedBy (bound_stands p) parts new
bound_stays p parts number old new problem stands old_is new_is inside outside still k here =
    closed_still parts problem old new inside outside (use_at parts k) (use_at parts k).principle p.bound p.entries p.labels old_is here.1.holds refl
    (still k here)
