-- What holds of the box of each front, as fronts come and go.
use Rattle.std.proofs.Common.{◌≡◌, ℕ, ◌<◌, ◌≤◌, ◌+◌, Bool, List, [], ◌∷◌, ◌++◌, length, map, take, ap, sym, ◌∙◌, arith, subst}
use Rattle.std.specs.Prelude.{slice_index, slice_index_or}
use Rattle.std.proofs.lemmas.List.{append-nil, append_assoc, get_or_append_left, get_or-take, length-take-le}
use Rattle.xdg_problem.specs.declared.analysis.Edge.{Edge}
use Rattle.xdg_problem.specs.declared.parts.Parts.{Parts}
use Rattle.xdg_propcore.specs.Steps.{Extends}
use Rattle.xdg_store.specs.States.{State}
use Rattle.xdg_stream.specs.Levels.{AreAll}
use Rattle.xdg_stream.proofs.Marked.{marks_cut, marks_with}
use Rattle.xdg_stream.proofs.Pushing.{Top, has_levels, mark_in}

module _ (Calm : Parts → List (List Bool) → Type 0) where
  -- ---- more fronts, and fewer

  -- further fronts with one box
  pub calm_more : (parts : Parts) (history : List (List (List Bool))) (marks marks' added : List ℕ) (mark : ℕ) → AreAll Calm parts history marks → Calm parts (slice_index_or history mark []) → marks' ≡ marks ++ map (λ _. mark) added → AreAll Calm parts history marks'
  calm_more parts history marks marks' added mark all here is = subst (AreAll Calm parts history) (sym is) (runs marks added all)
    where
      runs : (marks added : List ℕ) → AreAll Calm parts history marks → AreAll Calm parts history (marks ++ map (λ _. mark) added)
      runs marks [] all = subst (AreAll Calm parts history) (sym (append-nil marks)) all
      runs marks (x ∷ added) all = subst (AreAll Calm parts history) (append_assoc marks (mark ∷ []) (map (λ _. mark) added))
          (runs (marks ++ mark ∷ []) added (marks_with (λ k m. Calm parts (slice_index_or history m [])) marks all mark here))

  -- one more
  pub calm_with : (parts : Parts) (history : List (List (List Bool))) (marks marks' : List ℕ) (mark : ℕ) → AreAll Calm parts history marks → Calm parts (slice_index_or history mark []) → marks' ≡ marks ++ mark ∷ [] → AreAll Calm parts history marks'
  calm_with parts history marks marks' mark all here is = calm_more parts history marks marks' (0 ∷ []) mark all here is

  -- the first ones, so many
  pub calm_cut : (parts : Parts) (history : List (List (List Bool))) (marks marks' : List ℕ) (n : ℕ) → AreAll Calm parts history marks → marks' ≡ take n marks → AreAll Calm parts history marks'
  calm_cut parts history marks marks' n all is = subst (AreAll Calm parts history) (sym is) (marks_cut (λ k m. Calm parts (slice_index_or history m [])) marks all n)

  -- there is none
  pub calm_none : (parts : Parts) (history : List (List (List Bool))) (marks : List ℕ) → marks ≡ [] → AreAll Calm parts history marks
  calm_none parts history marks none k l = absurd (let e = ap length none in omega (arith, e, l))

  -- ---- back to the last one

  module _ {old mid : State} {edge_places : List Edge} {marks numbers : List ℕ} {mark_room number_room at mark : ℕ} (top : Top old mid edge_places marks numbers mark_room number_room at mark) (all : AreAll Calm old.parts old.history marks) where
    below : (k : ℕ) → k < length marks → slice_index marks k ≤ slice_index marks at
    below k l = (let is = top.is in (has_levels top).rising k at (omega (arith, l, is)) (omega (arith, is)))

    pub calm_undone : AreAll Calm mid.parts mid.history marks
    calm_undone k l =
        let b = below k l in
        let box : slice_index_or mid.history (slice_index marks k) [] ≡ slice_index_or old.history (slice_index marks k) [] = ap (λ g. slice_index_or g (slice_index marks k) []) top.undone ∙ get_or-take (slice_index marks at + 1) old.history (slice_index marks k) [] (omega (arith, b)) in
        subst (Calm mid.parts) (sym box) (subst (λ q. Calm q (slice_index_or old.history (slice_index marks k) [])) (sym top.same) (all k l))

    pub calm_top : Calm mid.parts mid.now
    calm_top = (let is = top.is in subst (Calm mid.parts) (sym top.now_is) (subst (λ q. Calm q (slice_index_or old.history (slice_index marks at) [])) (sym top.same) (all at (omega (arith, is)))))

    pub calm_at_top : Calm mid.parts (slice_index_or mid.history mark [])
    calm_at_top = (let is = top.is in subst (λ i. Calm mid.parts (slice_index_or mid.history i [])) (sym top.mark_is) (calm_undone at (omega (arith, is))))

    -- later boxes change nothing
    pub calm_grown : (new : State) → Extends mid new → AreAll Calm new.parts new.history marks
    calm_grown new extends k l =
        let b = below k l in
        let within = mark_in top in
        let long : length mid.history ≡ slice_index marks at + 1 = ap length top.undone ∙ length-take-le (slice_index marks at + 1) old.history (omega (arith, within)) in
        let box : slice_index_or new.history (slice_index marks k) [] ≡ slice_index_or mid.history (slice_index marks k) [] = ap (λ g. slice_index_or g (slice_index marks k) []) extends.grown ∙ get_or_append_left mid.history extends.more [] (slice_index marks k) (omega (arith, b, long)) in
        subst (Calm new.parts) (sym box) (subst (λ q. Calm q (slice_index_or mid.history (slice_index marks k) [])) (sym extends.same) (calm_undone k l))
