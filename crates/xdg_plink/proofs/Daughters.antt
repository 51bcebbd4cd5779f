-- The daughters of a node by a label, one after another, and those near which nothing was lost.
use Rattle.std.proofs.Common.{◌≡◌, ◌≢◌, ℕ, ◌<◌, ◌↔◌, ◌&&◌, IsTrue, Bool, true, List, length, refl, sym, ◌∙◌, subst}
use Rattle.xdg_problem.specs.declared.parts.Group.{Group}
use Rattle.xdg_problem.specs.declared.parts.Parts.{Parts}
use Rattle.xdg_problem.specs.Analyses.{IsPlace}
use Rattle.xdg_problem.specs.Arguments.{first_dim}
use Rattle.xdg_problem.specs.Boxes.{May}
use Rattle.xdg_problem.specs.Places.{edge, nodes}
use Rattle.xdg_problem.specs.Problems.{IsGroup}
use Rattle.xdg_problem.proofs.PlaceOrder.{is_place}
use Rattle.xdg_store.specs.States.{State, Known}
use Rattle.xdg_propcore.specs.Passes.{IsQuiet, Progress}
use Rattle.xdg_propcore.specs.Sweeps.{Sweeps}
use Rattle.xdg_propcore.proofs.Passing.{goes_none}
use Rattle.xdg_graph.specs.Edges.{edge_labels}
use Rattle.xdg_graph.proofs.Labelled.{place_between}
use Rattle.xdg_plink.specs.Family.{IsLinking}
use Rattle.xdg_plink.specs.Steps.{IsLabelDone, IsOnPlace}
use Rattle.xdg_plink.specs.Untouched.{AreNear, AreOthersDone, AreOthersDoneAt, ArePlaces, IsFree}
use Rattle.xdg_plink.specs.declared.near.Near.{Near}
use Rattle.xdg_plink.proofs.Present.{takes_present}
use Rattle.xdg_facts.specs.Rises.{has}
use Rattle.xdg_problem.proofs.Edges.{edge_equal}
use Rattle.xdg_facts.proofs.Sets.{both, none_in}

-- ---- a set without nodes

module _ (near : Near) (parts : Parts) (box : List (List Bool)) (dim u label : ℕ) (set : List ℕ) (within : u < nodes parts) (known : label < edge_labels parts dim) (exact : (v : ℕ) → IsTrue (has set v) ↔ ((v < nodes parts) × (u ≢ v) × May parts box (edge dim u label v))) where
  each_place : ArePlaces parts dim u label set
  each_place v there = (let all = (exact v).0 there in place_between parts dim u label v within all.0 all.1 known)

  -- all
  pub all_near : AreNear near parts box dim u label set
  all_near = record { each = each_place; others = λ v in_parts differ may out. absurd (out ((exact v).1 (in_parts, differ, may))) }

  -- those to the ends
  pub some_near : (met : List ℕ) → ((v : ℕ) → has met v ≡ (has set v && has near.ends v)) → (has near.mothers u ≡ true → ⊥) → AreNear near parts box dim u label met
  some_near met met_is free = record {
    each = λ v there. each_place v ((both (has set v) (has near.ends v)).0 (sym (met_is v) ∙ there)).0;
    others = λ v in_parts differ may out. (free, λ start end. out (met_is v ∙ (both (has set v) (has near.ends v)).1 ((exact v).1 (in_parts, differ, may), end)));
  }

module _ (near : Near) (parts : Parts) (group : Group) (box : List (List Bool)) (dim u label : ℕ) (set : List ℕ) (dim_is : dim ≡ first_dim group) (linking : IsLinking group.principle) where
  -- nothing is left at the places to the others
  pub done_at_others : AreNear near parts box dim u label set → AreOthersDone near parts group box → AreOthersDoneAt parts group u label set box
  done_at_others is others e on mother label_is out d x remains takes =
      let place = is_place parts e on.0 in
      let may = takes_present parts group box e group.principle linking d x remains takes in
      let same = edge_equal e (edge dim u label e.daughter.0) (on.1 ∙ sym dim_is) mother label_is refl in
      others e on (subst (λ i. IsFree near i e.daughter.0) (sym mother) (is.others e.daughter.0 place.daughter (λ q. place.differ (mother ∙ q)) (subst (May parts box) same may) out)) d x remains takes

-- where there is none nothing is left at the label
pub label_skipped : (near : Near) (group : Group) (table : List (List ℕ)) (dim u label : ℕ) (set : List ℕ) (p : Progress) (s : State) → Known s → dim ≡ first_dim group → IsLinking group.principle → AreNear near s.parts s.now dim u label set → length set ≡ 0 → (IsQuiet p → AreOthersDone near s.parts group s.now) → Sweeps group (IsLabelDone s.parts group table u label) p s p s
label_skipped near group table dim u label set p s known dim_is linking is empty others = record {
  goes = goes_none group p s;
  known = known;
  done = λ quiet exact e on mother label_is. done_at_others near s.parts group s.now dim u label set dim_is linking is (others quiet) e on mother label_is (none_in set e.daughter.0 empty);
}

-- a place is one later
pub on_later : (group : Group) (dim u label v : ℕ) (Done : List (List Bool) → Type 0) (p : Progress) (old : State) (q : Progress) (mid : State) → dim ≡ first_dim group → IsGroup old.parts group → IsPlace old.parts (edge (first_dim group) u label v) → Sweeps group Done p old q mid → IsOnPlace group (edge dim u label v) mid
on_later group dim u label v Done p old q mid dim_is is place a = record {
  known = a.known;
  group_is = subst (λ parts. IsGroup parts group) (sym a.goes.extends.same) is;
  place_is = subst (λ parts. IsPlace parts (edge dim u label v)) (sym a.goes.extends.same) (subst (λ i. IsPlace old.parts (edge i u label v)) (sym dim_is) place);
  on = dim_is;
}
