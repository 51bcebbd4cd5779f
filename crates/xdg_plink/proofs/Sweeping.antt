-- Parts of a step, one after another.
use Rattle.std.proofs.Common.{◌≡◌, ℕ, ◌<◌, ◌↔◌, inr, Bool, true, false, IsTrue, List, refl, sym, ◌∙◌, subst}
use Rattle.std.proofs.lemmas.Bool.{false≢true}
use Rattle.xdg_problem.specs.declared.analysis.Edge.{Edge}
use Rattle.xdg_problem.specs.declared.parts.Group.{Group}
use Rattle.xdg_problem.specs.declared.parts.Linking.{Linking}
use Rattle.xdg_problem.specs.declared.parts.Linking.TheVariants as linkings
use Rattle.xdg_problem.specs.declared.parts.Parts.{Parts}
use Rattle.xdg_problem.specs.Analyses.{IsPlace}
use Rattle.xdg_problem.specs.Arguments.{first_dim, second_dim}
use Rattle.xdg_problem.specs.Boxes.{Has, IsBox, LiesIn, edge_decision}
use Rattle.xdg_problem.specs.Features.{map_row}
use Rattle.xdg_problem.specs.Problems.{IsGroup}
use Rattle.xdg_problem.specs.Vectors.{shape}
use Rattle.xdg_facts.proofs.Contained.{any_of}
use Rattle.xdg_problem.proofs.PlaceOrder.{place_is}
use Rattle.xdg_rules.specs.Rules.{Takes, may_edges}
use Rattle.xdg_rules.proofs.Among.{above_among}
use Rattle.xdg_rules.proofs.Shrinking.{may_among}
use Rattle.xdg_store.specs.States.{State, Known}
use Rattle.xdg_propcore.specs.Passes.{Progress, Goes}
use Rattle.xdg_propcore.proofs.Sweeping.{sweeps_start}
use Rattle.xdg_plink.specs.Family.{Reaches}
use Rattle.xdg_propcore.specs.Sweeps.{Sweeps}
use Rattle.xdg_plink.specs.Steps.{Asks, DoneAt, IsCut, IsExact, IsReady, TakesAt}
use Rattle.xdg_plink.specs.Ways.{Covers, way_of}
use Rattle.xdg_plink.proofs.Linking.{linked_led, led_linked}
use Rattle.xdg_plink.proofs.Reaching.{is_reach}

-- ---- what the table covers

above_less : (parts : Parts) (small large : List (List Bool)) (dim : ℕ) (table : List (List ℕ)) → IsBox (shape parts) small → LiesIn small large → Covers linkings.BelowStart (may_edges parts large dim) table → Covers linkings.BelowStart (may_edges parts small dim) table
above_less parts small large dim table is lies covers = λ from to above. covers from to (above_among (may_edges parts small dim) (may_edges parts large dim) (may_among parts small large is lies dim) to from above)

covers_less : (way : Linking) (parts : Parts) (small large : List (List Bool)) (dim : ℕ) (table : List (List ℕ)) → IsBox (shape parts) small → LiesIn small large → Covers way (may_edges parts large dim) table → Covers way (may_edges parts small dim) table
covers_less linkings.BelowStart parts small large dim table is lies covers = above_less parts small large dim table is lies covers
covers_less linkings.AboveStart parts small large dim table is lies covers = above_less parts small large dim table is lies covers
covers_less linkings.Sisters parts small large dim table is lies covers = λ from to (k, e, l, at, (m, d)). covers from to (any_of (λ f. (f.mother.0 ≡ to) × (f.daughter.0 ≡ from)) (may_edges parts large dim) e (may_among parts small large is lies dim e (k, l, at)) (m, d))
covers_less way parts small large dim table is lies covers = tt

-- it stays so
pub ready_later : (group : Group) (table : List (List ℕ)) (Done : List (List Bool) → Type 0) (p : Progress) (old : State) (q : Progress) (new : State) → IsReady group table old → Sweeps group Done p old q new → IsReady group table new
ready_later group table Done p old q new ready a = record {
  known = a.known;
  group_is = subst (λ parts. IsGroup parts group) (sym a.goes.extends.same) ready.group_is;
  linking = ready.linking;
  covers = subst (λ parts. Covers (way_of group.principle) (may_edges parts new.now (second_dim group)) table) (sym a.goes.extends.same)
      (covers_less (way_of group.principle) old.parts new.now old.now (second_dim group) table (subst (λ parts. IsBox (shape parts) new.now) a.goes.extends.same a.known.is_box) a.goes.extends.inside ready.covers);
}

-- ---- one place

module _ (group : Group) (table : List (List ℕ)) (p : Progress) (s : State) (place : Edge) (ready : IsReady group table s) (reaches : Reaches group.principle) where
  abbrev box : List (List Bool)
  box = s.now

  -- where it is not to go, the rule doesn't take it
  cut_of : IsExact s.parts group table box → (d v : ℕ) → Has box d v → TakesAt group.principle s.parts group box place d v → IsCut s.parts group table box place
  cut_of exact d v has takes =
      let (rule, same) = ((is_reach group.principle reaches).at s.parts group box place d v).0 takes in
      subst (λ e. IsCut s.parts group table box e) same (
        subst (λ i. Has box i 0) rule.says.0 (subst (λ x. Has box d x) rule.says.1 has),
        λ c remains led. rule.apart c remains (led_linked (way_of group.principle) (may_edges s.parts box (second_dim group)) table (map_row group rule.place.mother.0 c rule.place.label.0) rule.place.mother.0 rule.place.daughter.0 exact led),
      )

  pub cut_none : (b : Bool) → b ≡ false → IsTrue b ↔ IsCut s.parts group table box place → Sweeps group (DoneAt s.parts group table place) p s p s
  cut_none b fails exactly = sweeps_start group (DoneAt s.parts group table place) p s ready.known (λ exact d v has takes. false≢true (sym fails ∙ exactly.1 (cut_of exact d v has takes)))

  -- where it is, the rule takes it
  pub cut_takes : IsPlace s.parts place → place.dim.0 ≡ first_dim group → Asks group.principle group box place.mother.0 place.label.0 → IsCut s.parts group table box place → Takes s.parts group box (edge_decision s.parts place) 0
  cut_takes is on asks cut = inr (((is_reach group.principle reaches).takes s.parts group box (edge_decision s.parts place) 0).1 (record {
    place = place;
    is = (place_is s.parts place is, on);
    says = (refl, refl);
    links = ((is_reach group.principle reaches).asks group box place.mother.0 place.label.0).0 asks;
    apart = λ c remains link. cut.1 c remains (linked_led (way_of group.principle) (may_edges s.parts box (second_dim group)) table (map_row group place.mother.0 c place.label.0) place.mother.0 place.daughter.0 ready.covers link);
  }))

  pub cut_taken : (q : Progress) (new : State) → Known new → new.parts ≡ s.parts → Goes group p s q new → (Has new.now (edge_decision s.parts place) 0 → q.dead ≡ true) → Sweeps group (DoneAt s.parts group table place) p s q new
  cut_taken q new known same goes gone = record {
    goes = goes;
    known = known;
    done = λ quiet exact d v has takes.
        let (rule, at) = ((is_reach group.principle reaches).at s.parts group new.now place d v).0 takes in
        let here : Has new.now (edge_decision s.parts place) 0 = subst (λ e. Has new.now (edge_decision s.parts e) 0) at (subst (λ i. Has new.now i 0) rule.says.0 (subst (λ x. Has new.now d x) rule.says.1 has)) in
        false≢true (sym quiet.1 ∙ gone here);
  }

-- ---- loops

-- a number below those of the sentence stays so
pub below_later : (group : Group) (Done : List (List Bool) → Type 0) (count : Parts → ℕ) (k : ℕ) (p : Progress) (old : State) (q : Progress) (new : State) → k < count old.parts → Sweeps group Done p old q new → k < count new.parts
below_later group Done count k p old q new l a = subst (λ parts. k < count parts) (sym a.goes.extends.same) l
