-- The front of the empty prefix.
use Rattle.std.proofs.Common.{◌≡◌, ℕ, ◌<◌, ◌≤◌, ◌+◌, inl, inr, Bool, List, [], ◌∷◌, length, refl, sym, ◌∙◌, arith, subst}
use Rattle.std.specs.Prelude.{slice_index_or}
use Rattle.xdg_problem.specs.declared.analysis.Edge.{Edge}
use Rattle.xdg_problem.specs.declared.parts.Parts.{Parts}
use Rattle.xdg_problem.specs.Boxes.{LiesIn, full}
use Rattle.xdg_problem.specs.Places.{places}
use Rattle.xdg_problem.specs.Vectors.{shape}
use Rattle.xdg_propcore.specs.Fixed.{IsClosedByAll, IsGreatest}
use Rattle.xdg_store.specs.States.{State}
use Rattle.xdg_stream.specs.Fronted.{HasFront}
use Rattle.xdg_propcore.specs.Uses.{AllStandIn}
use Rattle.xdg_stream.specs.Levels.{IsLevel, AreLevels}
use Rattle.xdg_stream.proofs.Longer.{root_settled, root_dead}
use Rattle.xdg_stream.proofs.Fronts.{levels_first}

module _ {P : Type 0} (stands : P → Parts → ℕ → Type 0) (props : List P) (q : Parts) (all : AllStandIn stands props q) (mid new : State) (parts_is : mid.parts ≡ q) (full_is : mid.now ≡ full (shape q)) (same : new.parts ≡ mid.parts) (edge_places : List Edge) (listed : edge_places ≡ places q) (numbers : List ℕ) (none : numbers ≡ []) (mark_room number_room : ℕ) (for_numbers : length (shape q) ≤ number_room) (for_marks : length (shape q) < mark_room) where
  opened : (marks : List ℕ) → AreLevels q new.history marks [] → HasFront new.parts new.history edge_places marks numbers mark_room number_room
  opened marks levels = subst (λ z. HasFront z new.history edge_places marks numbers mark_room number_room) (sym (same ∙ parts_is)) (record {
    listed = listed;
    levels = subst (AreLevels q new.history marks) (sym none) levels;
    for_numbers = for_numbers;
    for_marks = for_marks;
  })

  pub open_settled : (marks : List ℕ) (mark : ℕ) → IsGreatest stands props mid.parts mid.now new.now → mark + 1 ≡ length new.history → slice_index_or new.history mark [] ≡ new.now → marks ≡ mark ∷ [] → HasFront new.parts new.history edge_places marks numbers mark_room number_room
  open_settled marks mark greatest newest last is =
      let here : IsGreatest stands props q (full (shape q)) new.now = subst (λ b. IsGreatest stands props q b new.now) full_is (subst (λ z. IsGreatest stands props z mid.now new.now) parts_is greatest) in
      let level : IsLevel q [] (slice_index_or new.history mark []) = subst (IsLevel q []) (sym last) (root_settled stands props q all new.now here) in
      opened marks (subst (λ m. AreLevels q new.history m []) (sym is) (inl (levels_first q new.history mark (omega (arith, newest)) level)))

  pub open_dead : (marks : List ℕ) → ((box : List (List Bool)) → IsClosedByAll stands props mid.parts box → LiesIn box mid.now → ⊥) → marks ≡ [] → HasFront new.parts new.history edge_places marks numbers mark_room number_room
  open_dead marks dead is =
      let here : (box : List (List Bool)) → IsClosedByAll stands props q box → LiesIn box (full (shape q)) → ⊥ = subst (λ b. (box : List (List Bool)) → IsClosedByAll stands props q box → LiesIn box b → ⊥) full_is (subst (λ z. (box : List (List Bool)) → IsClosedByAll stands props z box → LiesIn box mid.now → ⊥) parts_is dead) in
      opened marks (inr (is, refl, root_dead stands props q all here))
