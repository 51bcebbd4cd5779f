-- The ends of a step.
use Rattle.std.proofs.Common.{◌≡◌, ℕ, ◌↔◌, Bool, true, List, inl, refl, sym, ◌∙◌, subst}
use Rattle.std.proofs.lemmas.Bool.{false≢true}
use Rattle.xdg_nodeset.specs.Tables.{InTable}
use Rattle.xdg_problem.specs.declared.parts.Group.{Group}
use Rattle.xdg_problem.specs.declared.parts.Parts.{Parts}
use Rattle.xdg_problem.specs.declared.parts.Principle.{Principle}
use Rattle.xdg_problem.specs.declared.parts.Principle.TheVariants as principles
use Rattle.xdg_problem.specs.Arguments.{first_dim, truth_of}
use Rattle.xdg_problem.specs.Boxes.{Has, IsBox}
use Rattle.xdg_problem.specs.Paths.{Above}
use Rattle.xdg_problem.specs.Places.{nodes}
use Rattle.xdg_problem.specs.Problems.{IsGroup}
use Rattle.xdg_problem.specs.Vectors.{shape}
use Rattle.xdg_rules.specs.Rules.{FailsTest, IsClosedFor, Takes, may_edges}
use Rattle.xdg_store.specs.States.{State}
use Rattle.xdg_propcore.specs.Passes.{Progress, Goes}
use Rattle.xdg_propcore.specs.Sweeps.{Sweeps}
use Rattle.xdg_propcore.proofs.Sweeping.{sweeps_skip, sweeps_both}
use Rattle.xdg_porder.specs.Across.{AreNodesDone, IsTabled}
use Rattle.xdg_porder.specs.Family.{IsOfFamily}
use Rattle.xdg_porder.specs.Items.{AreMothersDone, IsOrdering, IsReady}
use Rattle.xdg_porder.proofs.Closing.{order_closed, across_closed, all_reached}

-- all was taken, since a test fails
pub failed_all : (group : Group) (Done : List (List Bool) → Type 0) (p : Progress) (s : State) (q : Progress) → IsReady group s → FailsTest s.parts group s.now → ((g : Group) → IsGroup s.parts g → ((d v : ℕ) → Has s.now d v → Takes s.parts g s.now d v) → Goes g p s q s) → q.dead ≡ true → Sweeps group Done p s q s
failed_all group Done p s q ready failing goes dead = record { goes = goes group ready.group_is (λ d v h. inl failing); known = ready.known; done = λ quiet. absurd (false≢true (sym quiet.1 ∙ dead)) }

pub order_ends : (group : Group) (p : Progress) (old : State) (q : Progress) (mid : State) (r : Progress) (new : State) → IsOrdering group old → Sweeps group (AreMothersDone old.parts group (nodes old.parts)) p old q mid → Sweeps group (λ box. truth_of group.truths 0 ≡ true → FailsTest mid.parts group box → ⊥) q mid r new → Sweeps group (IsClosedFor old.parts group) p old r new
order_ends group p old q mid r new at a b =
    let c = subst (λ parts. Sweeps group (λ box. truth_of group.truths 0 ≡ true → FailsTest parts group box → ⊥) q mid r new) a.goes.extends.same b in
    let both = sweeps_both group (AreMothersDone old.parts group (nodes old.parts)) (λ box. truth_of group.truths 0 ≡ true → FailsTest old.parts group box → ⊥) p old q mid r new a c in
    sweeps_skip group (λ box. AreMothersDone old.parts group (nodes old.parts) box × (truth_of group.truths 0 ≡ true → FailsTest old.parts group box → ⊥)) (IsClosedFor old.parts group) p old r new both
    (λ done. order_closed old.parts group new.now (subst (λ parts. IsBox (shape parts) new.now) both.goes.extends.same both.known.is_box) at.1 done.0 done.1)

-- the table of the box
pub table_at : (parts : Parts) (box : List (List Bool)) (table : List (List ℕ)) (dim first : ℕ) → dim ≡ first → ((a b : ℕ) → InTable table a b ↔ Above (may_edges parts box dim) a b) → (a b : ℕ) → InTable table a b ↔ Above (may_edges parts box first) a b
table_at parts box table dim first same exact = subst (λ d. (a b : ℕ) → InTable table a b ↔ Above (may_edges parts box d) a b) same exact

pub tabled : (group : Group) (table : List (List ℕ)) (dim : ℕ) (s : State) → IsReady group s → group.principle ≡ principles.Projectivity → dim ≡ first_dim group → ((a b : ℕ) → InTable table a b ↔ Above (may_edges s.parts s.now dim) a b) → IsTabled group table s
tabled group table dim s ready flat same exact = record { ready = ready; projective = flat; covers = λ a b. (table_at s.parts s.now table dim (first_dim group) same exact a b).1 }

pub across_ends : (group : Group) (table : List (List ℕ)) (dim : ℕ) (p : Progress) (old : State) (q : Progress) (new : State) → group.principle ≡ principles.Projectivity → dim ≡ first_dim group → ((a b : ℕ) → InTable table a b ↔ Above (may_edges old.parts old.now dim) a b) → Sweeps group (AreNodesDone old.parts group table (nodes old.parts)) p old q new → Sweeps group (IsClosedFor old.parts group) p old q new
across_ends group table dim p old q new flat same exact a = record {
  goes = a.goes;
  known = a.known;
  done = λ quiet.
      let stays = (a.goes.quiet quiet).1 in
      let exact_now = subst (λ box. (x y : ℕ) → InTable table x y ↔ Above (may_edges old.parts box (first_dim group)) x y) (sym stays) (table_at old.parts old.now table dim (first_dim group) same exact) in
      let box_is = subst (λ parts. IsBox (shape parts) new.now) a.goes.extends.same a.known.is_box in
      across_closed old.parts group new.now box_is (all_reached old.parts group new.now box_is table exact_now (a.done quiet)) flat;
}

-- a principle of the family that is not order
pub not_order : (p : Principle) → IsOfFamily p → (p ≡ principles.Order → ⊥) → p ≡ principles.Projectivity
not_order principles.Order family other = absurd (other refl)
not_order principles.Projectivity family other = refl
not_order p family other = absurd family
