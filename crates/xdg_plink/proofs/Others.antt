-- Places near which nothing was lost: nothing is left to take there, as before.
use Rattle.std.proofs.Common.{◌≡◌, ℕ, ◌<◌, inr, Bool, true, List, sym, ap, ◌∙◌, arith, subst}
use Rattle.std.specs.Prelude.{Contains}
use Rattle.std.specs.List.{Any}
use Rattle.xdg_problem.specs.declared.analysis.Edge.{Edge}
use Rattle.xdg_problem.specs.declared.parts.Group.{Group}
use Rattle.xdg_problem.specs.declared.parts.Linking.{Linking}
use Rattle.xdg_problem.specs.declared.parts.Linking.TheVariants as linkings
use Rattle.xdg_problem.specs.declared.parts.Parts.{Parts}
use Rattle.xdg_problem.specs.declared.parts.Principle.TheVariants as principles
use Rattle.xdg_problem.specs.Arguments.{first_dim, second_dim}
use Rattle.xdg_problem.specs.Asking.{IsLinked}
use Rattle.xdg_problem.specs.Boxes.{IsBox, LiesIn}
use Rattle.xdg_problem.specs.Paths.{IsDaughterByAny}
use Rattle.xdg_problem.specs.Problems.{IsProblem}
use Rattle.xdg_problem.specs.Vectors.{shape}
use Rattle.xdg_facts.proofs.Contained.{any_of, any_weaker}
use Rattle.xdg_problem.proofs.PlaceOrder.{is_place}
use Rattle.xdg_rules.specs.Rules.{IsClosedFor, TakesBy, may_edges}
use Rattle.xdg_rules.proofs.Among.{linked_among}
use Rattle.xdg_propcore.specs.Touching.{HasTouched, MarksEdge}
use Rattle.xdg_propcore.specs.declared.touched.Touched.{Touched}
use Rattle.xdg_plink.specs.Family.{Reaches}
use Rattle.xdg_plink.specs.Steps.{TakesAt}
use Rattle.xdg_plink.specs.Untouched.{AreLinksFree, AreOthersDone, HasJoins, HasLinks, IsFree}
use Rattle.xdg_plink.specs.Ways.{way_of}
use Rattle.xdg_plink.specs.declared.near.Near.{Near}
use Rattle.xdg_rules.proofs.Antitone.{EntriesLie, LinksLie, linking_reach, linking_not_daughter}
use Rattle.xdg_plink.proofs.Reaching.{is_reach}
use Rattle.xdg_facts.specs.Rises.{has}
use Rattle.xdg_propcore.proofs.Losing.{entry_kept, may_kept, must_kept}

module _ (parts : Parts) (old new : List (List Bool)) (dim : ℕ) (t : Touched) (touched : HasTouched parts dim old new t) where
  any_kept : (P : Edge → Type 0) → ((e : Edge) → P e → MarksEdge t e → ⊥) → Any P (may_edges parts old dim) → Any P (may_edges parts new dim)
  any_kept P free a = any_of P (may_edges parts new dim) a.1 (may_kept parts old new dim t touched a.1 (free a.1 a.4) (a.0, a.2, a.3)) a.4

  daughter_kept : (u : ℕ) (labels : List ℕ) (v : ℕ) → (has t.mothers u ≡ true → has t.daughters v ≡ true → ⊥) → IsDaughterByAny (may_edges parts old dim) u labels v → IsDaughterByAny (may_edges parts new dim) u labels v
  daughter_kept u labels v free = any_kept (λ e. (e.mother.0 ≡ u) × Contains labels e.label.0 × (e.daughter.0 ≡ v))
      (λ e at marks. free (subst (λ i. has t.mothers i ≡ true) at.0 marks.mother) (subst (λ i. has t.daughters i ≡ true) at.2 marks.daughter))

  path_kept : (way : Linking) (u v : ℕ) → ((x : ℕ) → has t.daughters x ≡ true → ⊥) → (labels : List ℕ) → IsLinked way (may_edges parts old dim) u labels v → IsLinked way (may_edges parts new dim) u labels v
  path_kept way u v free labels = linked_among (may_edges parts old dim) (may_edges parts new dim) (λ e c. may_kept parts old new dim t touched e (λ marks. free e.daughter.0 marks.daughter) c) way u labels v

  linked_kept : (way : Linking) (u v : ℕ) → AreLinksFree way t u v → (labels : List ℕ) → IsLinked way (may_edges parts old dim) u labels v → IsLinked way (may_edges parts new dim) u labels v
  linked_kept linkings.End u v free labels link = any_kept (λ e. Contains labels e.label.0 × (e.daughter.0 ≡ v)) (λ e at marks. free (subst (λ i. has t.daughters i ≡ true) at.1 marks.daughter)) link
  linked_kept linkings.Daughter u v free labels link = daughter_kept u labels v free link
  linked_kept linkings.Mother u v free labels link = daughter_kept v labels u free link
  linked_kept linkings.BelowStart u v free labels link = path_kept linkings.BelowStart u v free labels link
  linked_kept linkings.AboveStart u v free labels link = path_kept linkings.AboveStart u v free labels link
  linked_kept linkings.Sisters u v free labels link =
      any_weaker (λ e. (e.daughter.0 ≡ u) × IsDaughterByAny (may_edges parts old dim) e.mother.0 labels v) (λ e. (e.daughter.0 ≡ u) × IsDaughterByAny (may_edges parts new dim) e.mother.0 labels v) (may_edges parts new dim)
      (λ e there. (there.0, daughter_kept e.mother.0 labels v (λ m d. free.1 d) there.1))
      (any_kept (λ e. (e.daughter.0 ≡ u) × IsDaughterByAny (may_edges parts old dim) e.mother.0 labels v) (λ e at marks. free.0 (subst (λ i. has t.daughters i ≡ true) at.0 marks.daughter)) link)

-- ---- what was closed is done where nothing was lost

module _ (parts : Parts) (group : Group) (problem : IsProblem parts) (old new : List (List Bool)) (lies : LiesIn new old) (closed : IsClosedFor parts group old) (near : Near) (second : Touched) (touched : HasTouched parts (second_dim group) old new second) where
  pub links_stay : Reaches group.principle → HasLinks near (way_of group.principle) second → AreOthersDone near parts group new
  links_stay reaches links e on free d v remains takes =
      let (rule, same) = ((is_reach group.principle reaches).at parts group new e d v).0 takes in
      let place = is_place parts e on.0 in
      let kept = links e.mother.0 e.daughter.0 (let most = problem.most in let within = place.mother in omega (arith, within, most)) free in
      closed d v (lies d v remains) (inr (((is_reach group.principle reaches).takes parts group old d v).1 (linking_reach parts group old new (way_of group.principle) d v rule
      (subst (λ (f : Edge). EntriesLie parts group old new f.mother.0) (sym same) (λ c. entry_kept parts old new (second_dim group) second touched e.mother.0 c place.mother kept.0))
      (subst (LinksLie parts group old new (way_of group.principle)) (sym same) (linked_kept parts old new (second_dim group) second touched (way_of group.principle) e.mother.0 e.daughter.0 kept.1)))))

  pub joins_stay : group.principle ≡ principles.LinkingNotDaughter → IsBox (shape parts) old → IsBox (shape parts) new → (first : Touched) → HasTouched parts (first_dim group) old new first → HasJoins near first second → AreOthersDone near parts group new
  joins_stay apart was is first touched_first joins e on free d v remains takes =
      let (rule, same) = subst (λ p. TakesAt p parts group new e d v) apart takes in
      let place = is_place parts e on.0 in
      let kept = joins e.mother.0 e.daughter.0 free in
      let mother : rule.place.mother.0 ≡ e.mother.0 = ap (λ (f : Edge). f.mother.0) same in
      let daughter : rule.place.daughter.0 ≡ e.daughter.0 = ap (λ (f : Edge). f.daughter.0) same in
      closed d v (lies d v remains) (inr (subst (λ p. TakesBy p parts group old d v) (sym apart) (linking_not_daughter parts group old new d v rule
      (subst (λ (f : Edge). EntriesLie parts group old new f.mother.0) (sym same) (λ c. entry_kept parts old new (second_dim group) second touched e.mother.0 c place.mother kept.0))
      (must_kept parts old new (first_dim group) first touched_first was is rule.place (λ marks. kept.1 (subst (λ i. has first.mothers i ≡ true) mother marks.mother) (subst (λ i. has first.daughters i ≡ true) daughter marks.daughter)))
      (must_kept parts old new (second_dim group) second touched was is rule.other (λ marks. kept.2 (subst (λ i. has second.mothers i ≡ true) (sym rule.mother ∙ mother) marks.mother) (subst (λ i. has second.daughters i ≡ true) (sym rule.daughter ∙ daughter) marks.daughter))))))

-- where all may have been lost there is nothing to show
pub others_none : (near : Near) (parts : Parts) (group : Group) (box : List (List Bool)) → IsProblem parts → ((u v : ℕ) → u < 128 → IsFree near u v → ⊥) → AreOthersDone near parts group box
others_none near parts group box problem all e on free = absurd (all e.mother.0 e.daughter.0 (let most = problem.most in let within = (is_place parts e on.0).mother in omega (arith, within, most)) free)
