-- What keeps two edges apart, at one place.
use Rattle.std.proofs.Common.{◌≡◌, ℕ, ◌<◌, ◌≤◌, ◌+◌, ◌↔◌, inl, inr, Bool, true, IsTrue, List, refl, ap, sym, ◌∙◌, arith, subst}
use Rattle.std.specs.Prelude.{Contains}
use Rattle.std.proofs.lemmas.Bool.{false≢true}
use Rattle.xdg_problem.specs.declared.analysis.Edge.{Edge}
use Rattle.xdg_problem.specs.declared.parts.Group.{Group}
use Rattle.xdg_problem.specs.declared.parts.Parts.{Parts}
use Rattle.xdg_problem.specs.declared.parts.Principle.TheVariants as principles
use Rattle.xdg_problem.specs.Analyses.{IsPlace}
use Rattle.xdg_problem.specs.Arguments.{first_dim, second_dim}
use Rattle.xdg_problem.specs.Boxes.{Has, IsBox, Must, edge_decision}
use Rattle.xdg_problem.specs.Features.{set_row}
use Rattle.xdg_problem.specs.Places.{edge}
use Rattle.xdg_problem.specs.Problems.{IsGroup}
use Rattle.xdg_problem.specs.Vectors.{shape}
use Rattle.xdg_problem.proofs.PlaceOrder.{is_place, place_is}
use Rattle.xdg_rules.specs.Rules.{EachEntry, LinkingNotDaughter, SaysPresent, Takes, TakesBy}
use Rattle.xdg_rules.proofs.Shrinking.{must_exact}
use Rattle.xdg_store.specs.States.{State, Known}
use Rattle.xdg_propcore.specs.Passes.{Progress, Clears, Goes}
use Rattle.xdg_propcore.proofs.Passing.{goes_both}
use Rattle.xdg_propcore.specs.Sweeps.{Sweeps}
use Rattle.xdg_plink.specs.Steps.{AsksApart, CanPart, IsDoneAt, IsFirstDone, IsSecondDone, MustJoin, TakesAt}
use Rattle.xdg_graph.specs.Edges.{edge_labels}
use Rattle.xdg_graph.proofs.Labelled.{label_below, place_between}
use Rattle.xdg_propcore.proofs.Sweeping.{sweeps_skip, sweeps_start}
use Rattle.xdg_propcore.proofs.Turns.{below_more, below_next}
use Rattle.xdg_problem.proofs.Edges.{edge_equal}

-- a value that says that an edge is present
present_here : (parts : Parts) (box : List (List Bool)) (e : Edge) (d v : ℕ) → SaysPresent parts e d v → Has box d v → Has box (edge_decision parts e) 0
present_here parts box e d v says has = subst (λ i. Has box i 0) says.0 (subst (λ x. Has box d x) says.1 has)

module _ (parts : Parts) (group : Group) (box : List (List Bool)) (is : IsBox (shape parts) box) (same : group.principle ≡ principles.LinkingNotDaughter) (place : Edge) (place_at : IsPlace parts place) (on : place.dim.0 ≡ first_dim group) where
  -- the rule, where one of two edges is to go
  rule_takes : (d v : ℕ) → LinkingNotDaughter parts group box d v → Takes parts group box d v
  rule_takes d v rule = inr (subst (λ p. TakesBy p parts group box d v) (sym same) rule)

  abbrev Asks : Type 0
  Asks = EachEntry box place.mother.0 (λ c. Contains (set_row group place.mother.0 c) place.label.0)

  -- the edge of the second dimension is a place
  other_place : (label : ℕ) → label < edge_labels parts (second_dim group) → IsPlace parts (edge (second_dim group) place.mother.0 label place.daughter.0)
  other_place label l = place_between parts (second_dim group) place.mother.0 label place.daughter.0 place_at.mother place_at.daughter place_at.differ l

  pub first_takes : Asks → MustJoin parts box (second_dim group) place.mother.0 place.daughter.0 (edge_labels parts (second_dim group)) → Takes parts group box (edge_decision parts place) 0
  first_takes keeps (label, l, must) =
      let other = edge (second_dim group) place.mother.0 label place.daughter.0 in
      let other_is = place_is parts other (other_place label l) in
      rule_takes (edge_decision parts place) 0 (record {
        place = place;
        is = (place_is parts place place_at, on);
        other = other;
        other_is = (other_is, refl);
        mother = refl;
        daughter = refl;
        keeps = keeps;
        one = inl ((refl, refl), (must_exact parts box (second_dim group) other is).1 ((other_is, refl), must));
      })

  pub second_takes : (dim label : ℕ) → dim ≡ second_dim group → label < edge_labels parts (second_dim group) → Asks → Must parts box place → Takes parts group box (edge_decision parts (edge dim place.mother.0 label place.daughter.0)) 0
  second_takes dim label at l keeps must =
      subst (λ i. Takes parts group box (edge_decision parts (edge i place.mother.0 label place.daughter.0)) 0) (sym at)
      (let other = edge (second_dim group) place.mother.0 label place.daughter.0 in
      rule_takes (edge_decision parts other) 0 (record {
        place = place;
        is = (place_is parts place place_at, on);
        other = other;
        other_is = (place_is parts other (other_place label l), refl);
        mother = refl;
        daughter = refl;
        keeps = keeps;
        one = inr ((refl, refl), (must_exact parts box (first_dim group) place is).1 ((place_is parts place place_at, on), must));
      }))

  -- the other edge of the rule, by its label
  other_of : (d v : ℕ) (rule : LinkingNotDaughter parts group box d v) → rule.place ≡ place → rule.other ≡ edge (second_dim group) place.mother.0 rule.other.label.0 place.daughter.0
  other_of d v rule at =
      edge_equal rule.other (edge (second_dim group) place.mother.0 rule.other.label.0 place.daughter.0) rule.other_is.1 (sym rule.mother ∙ ap (λ (e : Edge). e.mother.0) at) refl (sym rule.daughter ∙ ap (λ (e : Edge). e.daughter.0) at)

  other_label : (d v : ℕ) (rule : LinkingNotDaughter parts group box d v) → rule.other.label.0 < edge_labels parts (second_dim group)
  other_label d v rule = (let l = label_below parts rule.other (is_place parts rule.other rule.other_is.0) in let e = ap (edge_labels parts) rule.other_is.1 in omega (arith, l, e))

  -- where none must join the nodes, the edge stays
  pub first_none : (MustJoin parts box (second_dim group) place.mother.0 place.daughter.0 (edge_labels parts (second_dim group)) → ⊥) → IsFirstDone parts group place box
  first_none none d v has rule at says must = none (rule.other.label.0, other_label d v rule, subst (Must parts box) (other_of d v rule at) ((must_exact parts box (second_dim group) rule.other is).0 must).1)

  pub first_gone : (Has box (edge_decision parts place) 0 → ⊥) → IsFirstDone parts group place box
  first_gone gone d v has rule at says must = gone (subst (λ e. Has box (edge_decision parts e) 0) at (present_here parts box rule.place d v says has))

  -- where each is gone, the others have gone
  pub second_gone : ((label : ℕ) → label < edge_labels parts (second_dim group) → Has box (edge_decision parts (edge (second_dim group) place.mother.0 label place.daughter.0)) 0 → ⊥) → IsSecondDone parts group place box
  second_gone gone d v has rule at says = gone rule.other.label.0 (other_label d v rule) (subst (λ e. Has box (edge_decision parts e) 0) (other_of d v rule at) (present_here parts box rule.other d v says has))

  -- both edges are done
  pub done_both : IsFirstDone parts group place box → IsSecondDone parts group place box → IsDoneAt parts group place box
  done_both first second d v has takes =
      let (rule, at) = subst (λ p. TakesAt p parts group box place d v) same takes in
      elim rule.one [
        | inl here ↦ first d v has rule at here.0 here.1
        | inr here ↦ second d v has rule at here.0
      ]

  -- the edge needn't be
  pub done_first : (Must parts box place → ⊥) → IsFirstDone parts group place box → IsDoneAt parts group place box
  done_first free first d v has takes =
      let (rule, at) = subst (λ p. TakesAt p parts group box place d v) same takes in
      elim rule.one [
        | inl here ↦ first d v has rule at here.0 here.1
        | inr here ↦ free (subst (Must parts box) at ((must_exact parts box (first_dim group) rule.place is).0 here.1).1)
      ]

-- ---- edges that must be, label by label

abbrev pub NoneJoins : Parts → List (List Bool) → ℕ → ℕ → ℕ → ℕ → Type 0
NoneJoins parts box dim u v k = (label : ℕ) → label < k → Must parts box (edge dim u label v) → ⊥

pub none_joins_first : (parts : Parts) (box : List (List Bool)) (dim u v : ℕ) → NoneJoins parts box dim u v 0
none_joins_first parts box dim u v label l = absurd (omega (arith, l))

pub none_joins_next : (parts : Parts) (box : List (List Bool)) (dim u v k : ℕ) → NoneJoins parts box dim u v k → (Must parts box (edge dim u k v) → ⊥) → NoneJoins parts box dim u v (k + 1)
none_joins_next parts box dim u v k = below_more (λ label b. Must parts b (edge dim u label v) → ⊥) k box

pub one_joins : (parts : Parts) (box : List (List Bool)) (dim u v label n : ℕ) → label < n → Must parts box (edge dim u label v) → IsTrue true ↔ MustJoin parts box dim u v n
one_joins parts box dim u v label n l must = (λ t. (label, l, must), λ m. refl)

-- ---- parts of the step

-- of the edges of the second dimension that join the same nodes those with the first labels are gone
abbrev pub SecondBelow : Parts → Edge → ℕ → ℕ → List (List Bool) → Type 0
SecondBelow parts place dim k box = (label : ℕ) → label < k → Has box (edge_decision parts (edge dim place.mother.0 label place.daughter.0)) 0 → ⊥

new_box : (group : Group) (p q : Progress) (old new : State) → Goes group p old q new → Known new → IsBox (shape old.parts) new.now
new_box group p q old new goes known = subst (λ parts. IsBox (shape parts) new.now) goes.extends.same known.is_box

module _ (group : Group) (place : Edge) (p : Progress) (old : State) (can : CanPart group place old) where
  module _ (asks : AsksApart group place old.now) where
    pub first_kept : (dim : ℕ) → dim ≡ second_dim group → (MustJoin old.parts old.now dim place.mother.0 place.daughter.0 (edge_labels old.parts dim) → ⊥) → Sweeps group (IsFirstDone old.parts group place) p old p old
    first_kept dim at none = sweeps_start group (IsFirstDone old.parts group place) p old can.0.known
        (first_none old.parts group old.now can.0.known.is_box can.1 place can.0.place_is can.0.on (subst (λ i. MustJoin old.parts old.now i place.mother.0 place.daughter.0 (edge_labels old.parts i) → ⊥) at none))

    pub first_taken : (dim : ℕ) (q : Progress) (new : State) → dim ≡ second_dim group → MustJoin old.parts old.now dim place.mother.0 place.daughter.0 (edge_labels old.parts dim) → Known new
        → ((g : Group) → IsGroup old.parts g → Takes old.parts g old.now (edge_decision old.parts place) 0 → Goes g p old q new) → (Has new.now (edge_decision old.parts place) 0 → q.dead ≡ true) → Sweeps group (IsFirstDone old.parts group place) p old q new
    first_taken dim q new at joins known clause gone =
        let takes = first_takes old.parts group old.now can.0.known.is_box can.1 place can.0.place_is can.0.on asks (subst (λ i. MustJoin old.parts old.now i place.mother.0 place.daughter.0 (edge_labels old.parts i)) at joins) in
        let goes = clause group can.0.group_is takes in
        record {
          goes = goes;
          known = known;
          done = λ quiet. first_gone old.parts group new.now (new_box group p q old new goes known) can.1 place can.0.place_is can.0.on (λ has. false≢true (sym quiet.1 ∙ gone has));
        }

    module _ (must : Must old.parts old.now place) (dim : ℕ) (at : dim ≡ second_dim group) where
      abbrev other : ℕ → Edge
      other label = edge dim place.mother.0 label place.daughter.0

      pub second_turn : (k : ℕ) (q : Progress) (mid : State) (r : Progress) (new : State) → k < edge_labels old.parts dim → Sweeps group (SecondBelow old.parts place dim k) p old q mid → Clears (λ d v. (d ≡ edge_decision mid.parts (other k)) × (v ≡ 0)) q mid r new → Known new → Sweeps group (SecondBelow old.parts place dim (k + 1)) p old r new
      second_turn k q mid r new l a clears known = below_next group (λ parts label box. Has box (edge_decision parts (other label)) 0 → ⊥) k p old q mid r new a
          (record { goes = goes; known = known; done = λ quiet. clears.gone quiet (edge_decision mid.parts (other k)) 0 (refl, refl) }) where
            same : mid.parts ≡ old.parts
            same = a.goes.extends.same

            takes : Takes old.parts group old.now (edge_decision old.parts (other k)) 0
            takes = second_takes old.parts group old.now can.0.known.is_box can.1 place can.0.place_is can.0.on dim k at (subst (λ i. k < edge_labels old.parts i) at l) asks must

            aimed : (d v : ℕ) → (d ≡ edge_decision mid.parts (other k)) × (v ≡ 0) → Takes mid.parts group old.now d v
            aimed d v aim = subst (λ parts. Takes parts group old.now d v) (sym same)
                (subst (λ i. Takes old.parts group old.now i v) (sym (aim.0 ∙ ap (λ parts. edge_decision parts (other k)) same))
                (subst (λ x. Takes old.parts group old.now (edge_decision old.parts (other k)) x) (sym aim.1) takes))

            goes : Goes group q mid r new
            goes = clears.goes group old.now (subst (λ parts. IsGroup parts group) (sym same) can.0.group_is) a.goes.extends.inside aimed

      pub second_end : (k : ℕ) (q : Progress) (new : State) → edge_labels old.parts dim ≤ k → Sweeps group (SecondBelow old.parts place dim k) p old q new → Sweeps group (IsSecondDone old.parts group place) p old q new
      second_end k q new all a = sweeps_skip group (SecondBelow old.parts place dim k) (IsSecondDone old.parts group place) p old q new a
          (λ done. second_gone old.parts group new.now (new_box group p q old new a.goes a.known) can.1 place can.0.place_is can.0.on
          (subst (λ i. (label : ℕ) → label < edge_labels old.parts i → Has new.now (edge_decision old.parts (edge i place.mother.0 label place.daughter.0)) 0 → ⊥) at (λ label l. done label (omega (arith, l, all)))))

  -- the first part alone
  pub part_first_only : (q : Progress) (new : State) → Sweeps group (IsFirstDone old.parts group place) p old q new → (Must new.parts new.now place → ⊥) → Sweeps group (IsDoneAt old.parts group place) p old q new
  part_first_only q new a free = sweeps_skip group (IsFirstDone old.parts group place) (IsDoneAt old.parts group place) p old q new a
      (done_first old.parts group new.now (new_box group p q old new a.goes a.known) can.1 place can.0.place_is can.0.on (subst (λ parts. Must parts new.now place → ⊥) a.goes.extends.same free))

  -- both parts
  pub part_both : (q : Progress) (mid : State) (r : Progress) (new : State) → Sweeps group (IsFirstDone old.parts group place) p old q mid → Sweeps group (IsSecondDone mid.parts group place) q mid r new → Sweeps group (IsDoneAt old.parts group place) p old r new
  part_both q mid r new a b = record {
    goes = goes_both group p q r old mid new a.goes b.goes;
    known = b.known;
    done = λ quiet. (let z = b.goes.quiet quiet in done_both old.parts group new.now (subst (λ parts. IsBox (shape parts) new.now) (b.goes.extends.same ∙ a.goes.extends.same) b.known.is_box) can.1 place can.0.place_is can.0.on (subst (IsFirstDone old.parts group place) (sym z.1) (a.done z.0)) (subst (λ parts. IsSecondDone parts group place new.now) a.goes.extends.same (b.done quiet)));
  }
