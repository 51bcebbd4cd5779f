-- Nodes of which nothing was lost: there order takes no more than before.
use Rattle.std.proofs.Common.{◌≡◌, ℕ, ◌<◌, ◌+◌, ◌||◌, inl, inr, Bool, true, List, [], ◌∷◌, refl, sym, ◌∙◌, ap, subst, arith}
use Rattle.xdg_problem.specs.declared.parts.Group.{Group}
use Rattle.xdg_problem.specs.declared.parts.Parts.{Parts}
use Rattle.xdg_problem.specs.declared.parts.Principle.TheVariants as principles
use Rattle.xdg_problem.specs.Arguments.{attr_of, first_dim}
use Rattle.xdg_problem.specs.Boxes.{Has, IsBox, LiesIn, edge_decision}
use Rattle.xdg_problem.specs.Places.{nodes}
use Rattle.xdg_problem.proofs.AttrPlaces.{attr_dim_within}
use Rattle.xdg_problem.specs.Problems.{IsGroup, IsProblem}
use Rattle.xdg_problem.specs.Vectors.{shape}
use Rattle.xdg_rules.specs.Rules.{IsClosedFor, attr_of_node}
use Rattle.xdg_store.specs.States.{State}
use Rattle.xdg_propcore.specs.Passes.{Progress, IsQuiet}
use Rattle.xdg_propcore.specs.Sweeps.{Sweeps}
use Rattle.xdg_propcore.specs.Touching.{HasTouched}
use Rattle.xdg_propcore.specs.declared.touched.Touched.{Touched}
use Rattle.xdg_porder.specs.Items.{AreMothersDone, AreOthersDone, IsAtNode, IsNodeDone, IsWrong, MayStand, MustStand, edge_to, label_at}
use Rattle.xdg_propcore.proofs.Passing.{goes_none}
use Rattle.xdg_propcore.proofs.Turns.{below_next, quiet_later}
use Rattle.xdg_porder.proofs.Pairing.{comes, edge_goes, own_goes}
use Rattle.xdg_facts.proofs.Truths.{or_true}
use Rattle.xdg_facts.specs.Rises.{has}
use Rattle.xdg_propcore.proofs.Losing.{kept_or_lost}
use Rattle.xdg_problem.specs.Principles.{attr_arguments}

-- ---- where the box is closed nothing is left

module _ (parts : Parts) (group : Group) (box : List (List Bool)) (problem : IsProblem parts) (box_is : IsBox (shape parts) box) (group_is : IsGroup parts group) (order : group.principle ≡ principles.Order) (closed : IsClosedFor parts group box) (u : ℕ) (within : u < nodes parts) where
  abbrev here : State
  here = record { parts = parts; now = box; history = box ∷ []; turns = 0 }

  at : IsAtNode group u here
  at = ((record { known = record { problem = problem; is_box = box_is; some = omega arith; last = refl }; group_is = group_is }, order), within)

  none_wrong : (l m v w : ℕ) → MayStand parts group box u l v → MustStand parts group box u m w → IsWrong group l m v w → ⊥
  none_wrong l m v w may must wrong = elim may [
    | inl (same, own) ↦ closed (attr_of_node parts group 0 u) l own (own_goes group u l m here at w must (subst (λ z. IsWrong group l m z w) same wrong) own)
    | inr (is, present) ↦ closed (edge_decision parts (edge_to group u l v)) 0 present (edge_goes group u l m here at v w is must wrong)
  ]

  pub closed_node : IsNodeDone parts group u box
  closed_node i j less m =
      let first = comes group i j less m in (
        (λ v w may must o. none_wrong (label_at group j) (label_at group i) v w may must (inl (first, o))),
        (λ v w may must o. none_wrong (label_at group i) (label_at group j) v w may must (inr (first, o))),
      )

-- ---- what is lost of a node

module _ (parts : Parts) (group : Group) (group_is : IsGroup parts group) (order : group.principle ≡ principles.Order) (old new : List (List Bool)) (lies : LiesIn new old) (t : Touched) (touched : HasTouched parts (first_dim group) old new t) (u : ℕ) (within : u < nodes parts) (out : has t.mothers u ≡ true → ⊥) (own : has t.attrs u ≡ true → ⊥) where
  own_stays : (x : ℕ) → Has old (attr_of_node parts group 0 u) x → Has new (attr_of_node parts group 0 u) x
  own_stays x = kept_or_lost old new (attr_of_node parts group 0 u) x (λ lost.
      (let some : 0 < attr_arguments group.principle = subst (λ p. 0 < attr_arguments p) (sym order) (omega arith) in
      own (touched.attrs u (attr_of group 0) x (attr_dim_within parts group group_is 0 some) within (group_is.attrs 0 (record { 0 = 0 }) (let c = group_is.attrs_count in omega (arith, c, some))) lost)))

  may_before : (label v : ℕ) → MayStand parts group new u label v → MayStand parts group old u label v
  may_before label v (inl (same, may)) = inl (same, lies (attr_of_node parts group 0 u) label may)
  may_before label v (inr (is, may)) = inr (is, lies (edge_decision parts (edge_to group u label v)) 0 may)

  must_before : (label v : ℕ) → MustStand parts group new u label v → MustStand parts group old u label v
  must_before label v (inl (same, (may, only))) = inl (same, (lies (attr_of_node parts group 0 u) label may, λ x h. only x (own_stays x h)))
  must_before label v (inr (is, must)) = inr (is, λ h. must (kept_or_lost old new (edge_decision parts (edge_to group u label v)) 1 (λ lost. out (touched.edges (edge_to group u label v) 1 is refl lost).mother) h))

  pub node_stays : IsNodeDone parts group u old → IsNodeDone parts group u new
  node_stays before i j less m = (
    (λ v w may must o. (before i j less m).0 v w (may_before (label_at group j) v may) (must_before (label_at group i) w must) o),
    (λ v w may must o. (before i j less m).1 v w (may_before (label_at group i) v may) (must_before (label_at group j) w must) o),
  )

-- ---- all that was left alone

pub others_stay : (set : List ℕ) (t : Touched) (parts : Parts) (group : Group) (old new : List (List Bool)) → IsProblem parts → IsBox (shape parts) old → IsGroup parts group → group.principle ≡ principles.Order → LiesIn new old → HasTouched parts (first_dim group) old new t → ((n : ℕ) → has set n ≡ (has t.mothers n || has t.attrs n)) → IsClosedFor parts group old → AreOthersDone set parts group new
others_stay set t parts group old new problem old_is is order lies touched members closed u within free =
    node_stays parts group is order old new lies t touched u within
    (λ h. free (members u ∙ ap (λ b. b || has t.attrs u) h))
    (λ h. free (members u ∙ ap (λ b. has t.mothers u || b) h ∙ or_true (has t.mothers u)))
    (closed_node parts group old problem old_is is order closed u within)

-- nothing was
pub others_none : (set : List ℕ) (parts : Parts) (group : Group) (box : List (List Bool)) → IsProblem parts → ((n : ℕ) → n < 128 → has set n ≡ true) → AreOthersDone set parts group box
others_none set parts group box problem all u within free = absurd (free (all u (let most = problem.most in omega (arith, within, most))))

-- a node where nothing is left to take
pub node_skipped : (set : List ℕ) (group : Group) (k : ℕ) (p : Progress) (old : State) (q : Progress) (mid : State) → k < nodes old.parts → (has set k ≡ true → ⊥) → (IsQuiet p → AreOthersDone set old.parts group old.now) → Sweeps group (AreMothersDone old.parts group k) p old q mid → Sweeps group (AreMothersDone old.parts group (k + 1)) p old q mid
node_skipped set group k p old q mid within free others a = below_next group (λ parts u. IsNodeDone parts group u) k p old q mid q mid a (record {
  goes = goes_none group q mid;
  known = a.known;
  done = quiet_later group (λ parts. IsNodeDone parts group k) (AreMothersDone old.parts group k) p old q mid (λ quiet. others quiet k within free) a;
})
