-- Bundles of which nothing was lost: there valency takes no more than before.
use Rattle.std.proofs.Common.{◌≡◌, ℕ, ◌<◌, inl, inr, Bool, true, List, [], length, sym, ap, subst, arith}
use Rattle.std.specs.Prelude.{IsTrue, nat_lt, slice_index_or, ◌&&◌, ◌||◌, ◌↔◌}
use Rattle.std.proofs.lemmas.Bool.{cases_lt, lt-ltb, ltb-true}
use Rattle.std.proofs.lemmas.List.{get_or_past}
use Rattle.xdg_problem.specs.declared.analysis.Edge.{Edge}
use Rattle.xdg_problem.specs.declared.parts.DimPlan.{DimPlan}
use Rattle.xdg_problem.specs.declared.parts.Group.{Group}
use Rattle.xdg_problem.specs.declared.parts.Parts.{Parts}
use Rattle.xdg_problem.specs.declared.parts.Principle.TheVariants as principles
use Rattle.xdg_problem.specs.Arguments.{first_dim, label_count, no_plan}
use Rattle.xdg_problem.specs.Boxes.{LiesIn, entry_decision, edge_decision}
use Rattle.xdg_problem.specs.Places.{nodes}
use Rattle.xdg_problem.specs.Problems.{IsProblem}
use Rattle.xdg_problem.proofs.PlaceOrder.{is_place}
use Rattle.xdg_rules.specs.Rules.{IsClosedFor}
use Rattle.xdg_store.specs.States.{State}
use Rattle.xdg_propcore.specs.Passes.{Progress, IsQuiet}
use Rattle.xdg_propcore.specs.Sweeps.{Sweeps}
use Rattle.xdg_propcore.proofs.Turns.{AreDone}
use Rattle.xdg_propcore.specs.Touching.{HasAll, HasTouched, MarksEdge}
use Rattle.xdg_nodeset.specs.Tables.{InTable}
use Rattle.xdg_propcore.specs.declared.touched.Touched.{Touched}
use Rattle.xdg_pgraph.specs.Bundles.{IsBundleDone, IsWayDone, near_node}
use Rattle.xdg_pgraph.specs.Untouched.{AreOthersDone, IsTouched, side}
use Rattle.xdg_pgraph.specs.declared.bundle.Way.{Way}
use Rattle.xdg_pgraph.specs.declared.bundle.Way.TheVariants as ways
use Rattle.xdg_pgraph.proofs.Bundled.{closed_bundles}
use Rattle.xdg_pgraph.proofs.BundlesStay.{bundle_stays}
use Rattle.xdg_facts.proofs.Rising.{no_member}
use Rattle.xdg_facts.proofs.Truths.{either}
use Rattle.xdg_facts.specs.Rises.{has as has_node}
use Rattle.xdg_propcore.proofs.Losing.{kept_or_lost}
use Rattle.xdg_facts.proofs.Sets.{both, either as one_of}

-- ---- what is lost of a bundle

side_of : (way : Way) (t : Touched) (e : Edge) → MarksEdge t e → InTable (side way t) e.label.0 (near_node way e)
side_of ways.Out t e both = both.out
side_of ways.In t e both = both.into

pub others_stay : (t : Touched) (parts : Parts) (group : Group) (old new : List (List Bool)) → group.principle ≡ principles.Valency → LiesIn new old → HasTouched parts (first_dim group) old new t → IsClosedFor parts group old → AreOthersDone t parts group new
others_stay t parts group old new principle lies touched closed way node label within known free = bundle_stays parts group old new lies way node label
    (λ c. kept_or_lost old new (entry_decision node) c (λ lost. free (inl (touched.entries node c within lost))))
    (λ e place on near_is label_is v. kept_or_lost old new (edge_decision parts e) v (λ lost.
    free (inr (subst (λ n. InTable (side way t) label n) near_is (subst (λ l. InTable (side way t) l (near_node way e)) label_is (side_of way t e (touched.edges e v (is_place parts e place) on lost)))))))
    (closed_bundles parts group old principle closed way node label within known)

-- nothing was
pub others_none : (t : Touched) (parts : Parts) (group : Group) (box : List (List Bool)) → IsProblem parts → HasAll t → AreOthersDone t parts group box
others_none t parts group box problem all way node label within known free = absurd (free (inl (all.entries node (let most = problem.most in omega (arith, within, most)))))

-- ---- the nodes of which something was lost

-- of the bundles with a label those nodes of the sentence that have lost an entry, or stand in the table
pub touched_in : (way : Way) (t : Touched) (label node count : ℕ) (edges lost all met : List ℕ) → edges ≡ slice_index_or (side way t) label [] → ((n : ℕ) → has_node lost n ≡ (has_node t.entries n || has_node edges n)) → ((n : ℕ) → has_node all n ≡ nat_lt n count) → ((n : ℕ) → has_node met n ≡ (has_node lost n && has_node all n)) → IsTrue (has_node met node) ↔ ((node < count) × IsTouched way t node label)
touched_in way t label node count edges lost all met edges_are lost_is all_is met_is = rw (met_is node, lost_is node, all_is node, edges_are) (
  λ h. (let two = (both _ (nat_lt node count)).0 h in (ltb-true node count two.1, (one_of (has_node t.entries node) _).0 two.0)),
  λ (within, touched). (both _ (nat_lt node count)).1 ((one_of (has_node t.entries node) _).1 touched, lt-ltb node count within),
)

-- ---- one node after another

-- at the others nothing is left to take
pub nodes_swept : (way : Way) (label : ℕ) (t : Touched) (group : Group) (first left : List ℕ) (p q : Progress) (old new : State) → label < label_count old.parts (first_dim group)
    → ((v : ℕ) → v < nodes old.parts → IsTouched way t v label → has_node first v ≡ true) → (IsQuiet p → AreOthersDone t old.parts group old.now) → left ≡ []
    → Sweeps group (AreDone (λ v. IsBundleDone way old.parts group v label) first left) p old q new → Sweeps group (IsWayDone way old.parts group label) p old q new
nodes_swept way label t group first left p q old new known there others none a = record {
  goes = a.goes;
  known = a.known;
  done = λ quiet node within.
      let same = a.goes.quiet quiet in
      elim (either (has_node first node)) [
        | inl swept ↦ a.done quiet node swept (no_member left node none)
        | inr gone ↦ subst (λ box. AreOthersDone t old.parts group box) (sym same.1) (others same.0) way node label within known (λ touched. gone (there node within touched))
      ];
}

-- ---- labels

pub few_labels : (parts : Parts) (dim label : ℕ) → IsProblem parts → label < label_count parts dim → label < 32
few_labels parts dim label problem known = elim (cases_lt dim (length parts.dims)) [
  | inl within ↦ (let most = (problem.dims dim no_plan within).labels_most in omega (arith, known, most))
  | inr past ↦ absurd (let none : label_count parts dim ≡ 0 = ap (λ (plan : DimPlan). length plan.labels) (get_or_past parts.dims dim no_plan past) in omega (arith, known, none))
]
