-- The sample problem is a problem, and what a test asks of it is in range.
use Rattle.std.proofs.Common.{◌≡◌, ◌≢◌, ◌<◌, ◌-◌, ℕ, zero, suc, List, [], ◌∷◌, refl, subst, sym, ap, arith, lit<, lit≤, codes, true, false, nat_eq, get_or}
use Rattle.xdg_base.specs.declared.ids.EntryNo.{EntryNo}
use Rattle.xdg_problem.specs.declared.parts.AttrPlan.{AttrPlan}
use Rattle.xdg_problem.specs.declared.parts.DimPlan.{DimPlan}
use Rattle.xdg_problem.specs.declared.parts.Parts.{Parts}
use Rattle.xdg_problem.specs.declared.parts.Shown.{Shown}
use Rattle.xdg_problem.specs.declared.parts.Shown.TheVariants as shown
use Rattle.xdg_problem.specs.Analyses.{IsPlace}
use Rattle.xdg_problem.specs.Places.{edge}
use Rattle.xdg_problem.specs.Problems.{IsProblem, IsDim, IsAttr, IsGroup, AreCandidates, HasConstant}
use Rattle.xdg_store.specs.Example.{colour, plan, small}
use Rattle.xdg_store.specs.InRange.{HasCandidate, HasEdges, HasValue}
use Rattle.xdg_facts.proofs.Lists.{all_one, all_two, all_none, pairs_one, pairs_two}

two_candidates : AreCandidates (record { 0 = 3 } ∷ record { 0 = 5 } ∷ [])
two_candidates = record { some = lit< tt; most = lit≤ tt; rising = pairs_two (λ (a b : EntryNo). a.0 < b.0) (record { 0 = 3 }) (record { 0 = 5 }) (lit< tt); small = all_two (λ (e : EntryNo). e.0 < 4294967295) (record { 0 = 3 }) (record { 0 = 5 }) (lit< tt) (lit< tt) }

abbrev first_byte : Shown → ℕ
first_byte (shown.One text) = get_or text 0 0
first_byte (shown.Many texts) = 0

pub differ_values : (shown.One (codes "x")) ≢ (shown.One (codes "y"))
differ_values same = let h : true ≡ false = ap (λ v. nat_eq (first_byte v) 120) same in cc

is_colour : IsAttr colour
is_colour = record { some = lit< tt; most = lit≤ tt; shown_as = all_two HasConstant (shown.One (codes "x")) (shown.One (codes "y")) tt tt; differ = pairs_two (λ (a b : Shown). a ≢ b) (shown.One (codes "x")) (shown.One (codes "y")) differ_values }

is_plan : IsDim plan
is_plan = record { labels_most = lit≤ tt; labels_differ = pairs_one (λ (a b : List ℕ). a ≢ b) (codes "l"); attrs_most = lit≤ tt; attrs_differ = pairs_one (λ (a b : AttrPlan). a.name ≢ b.name) colour; attrs = all_one IsAttr colour is_colour }

is_problem : IsProblem small
is_problem = record {
  some = lit< tt;
  most = lit≤ tt;
  candidates_each = refl;
  candidates = all_two AreCandidates (record { 0 = 3 } ∷ record { 0 = 5 } ∷ []) (record { 0 = 3 } ∷ record { 0 = 5 } ∷ []) two_candidates two_candidates;
  dims_most = lit≤ tt;
  dims_differ = pairs_one (λ (a b : DimPlan). a.name ≢ b.name) plan;
  dims = all_one IsDim plan is_plan;
  groups = all_none (IsGroup small);
}

pub small_problem : (parts : Parts) → parts ≡ small → IsProblem parts
small_problem parts is = subst IsProblem (sym is) is_problem

candidate_of : (node place : ℕ) → node < 2 → place < 2 → HasCandidate small node place
candidate_of zero place l m = record { node_in = l; place_in = m }
candidate_of (suc zero) place l m = record { node_in = l; place_in = m }
candidate_of (suc (suc node)) place l m = absurd (omega (arith, l))

pub has_candidate : (parts : Parts) (node place : ℕ) → parts ≡ small → node < 2 → place < 2 → HasCandidate parts node place
has_candidate parts node place is l m = subst (λ p. HasCandidate p node place) (sym is) (candidate_of node place l m)

pub has_value : (parts : Parts) (node value : ℕ) → parts ≡ small → node < 2 → value < 2 → HasValue parts node 0 0 value
has_value parts node value is l m = subst (λ p. HasValue p node 0 0 value) (sym is) (record { node_in = l; dim_in = lit< tt; attr_in = lit< tt; value_in = m })

pub has_place : (parts : Parts) (mother : ℕ) → parts ≡ small → mother < 2 → IsPlace parts (edge 0 mother 0 (1 - mother))
has_place parts mother is l = subst (λ p. IsPlace p (edge 0 mother 0 (1 - mother))) (sym is) (record { plan = plan; plan_is = refl; graph = refl; label = lit< tt; mother = l; daughter = omega (arith, l); differ = λ e. omega (arith, l, e) })

pub has_edges : (parts : Parts) (node : ℕ) → parts ≡ small → node < 2 → HasEdges parts 0 node 0
has_edges parts node is l = subst (λ p. HasEdges p 0 node 0) (sym is) (record { dim_in = lit< tt; graph = refl; node_in = l; label_in = lit< tt })
