-- The nodes up to the last node of a set, and from its first on.
use Rattle.std.proofs.Common.{◌≡◌, ℕ, ◌<◌, ◌≤◌, ◌+◌, ◌++◌, ◌↔◌, inl, inr, true, List, [], ◌∷◌, sym, ◌∙◌, arith, subst}
use Rattle.std.specs.Prelude.{not, ◌≢◌, ◌==◌, ◌||◌, ◌&&◌}
use Rattle.std.proofs.lemmas.Bool.{eqb-true, eq-eqb}
use Rattle.xdg_nodeset.specs.Nodes.{IsNodes}
use Rattle.xdg_porder.specs.Across.{Crosses}
use Rattle.xdg_porder.proofs.Gathering.{nodes_small}
use Rattle.xdg_facts.proofs.Truths.{left_out}
use Rattle.xdg_facts.proofs.Rising.{has_next, head_in}
use Rattle.xdg_facts.specs.Rises.{has, Rises}
use Rattle.xdg_facts.proofs.Sets.{both, either, end_exact, least, greatest}

pub last_small : (ends front : List ℕ) (end : ℕ) → IsNodes ends → ends ≡ front ++ end ∷ [] → end < 128
last_small ends front end nodes is = nodes_small ends nodes end (subst (λ s. has s end ≡ true) (sym is) (has_next front [] end))

pub left_exact : (ends front set : List ℕ) (end : ℕ) → IsNodes ends → ends ≡ front ++ end ∷ [] → ((v : ℕ) → (has set v ≡ true) ↔ (v ≤ end))
    → (v : ℕ) → (has set v ≡ true) ↔ ((w : ℕ) × (has ends w ≡ true) × (v ≤ w))
left_exact ends front set end nodes is = end_exact (λ v w. v ≤ w) ends set end (subst (λ s. has s end ≡ true) (sym is) (has_next front [] end))
    (λ v w there l. (let m = greatest 0 128 w front end (subst (Rises 0 128) is nodes.rises) (subst (λ s. has s w ≡ true) is there) in omega (arith, l, m)))

pub right_exact : (ends rest set : List ℕ) (end : ℕ) → IsNodes ends → ends ≡ end ∷ rest → ((v : ℕ) → (has set v ≡ true) ↔ ((end ≤ v) × (v < 128)))
    → (v : ℕ) → (has set v ≡ true) ↔ ((w : ℕ) × (has ends w ≡ true) × ((w ≤ v) × (v < 128)))
right_exact ends rest set end nodes is = end_exact (λ v w. (w ≤ v) × (v < 128)) ends set end (head_in ends rest end is) (λ v w there at.
    let rises : Rises 0 128 (end ∷ rest) = subst (Rises 0 128) is nodes.rises in
    let m = least end 128 w (end ∷ rest) (omega arith, rises.1, rises.2) (subst (λ s. has s w ≡ true) is there) in
    let l = at.0 in
    (omega (arith, l, m), at.1))

-- ---- crossing

module _ (u : ℕ) (small : u < 128) (reached known : List ℕ) (known_is : (n : ℕ) → has known n ≡ ((n == u) || has reached n)) where
  -- a node of some nodes is neither u nor reached
  gap_exact : (some gaps : List ℕ) → ((n : ℕ) → has gaps n ≡ (has some n && not (has known n))) → (w : ℕ)
      → (has gaps w ≡ true) ↔ ((has some w ≡ true) × (w ≢ u) × (has reached w ≡ true → ⊥))
  gap_exact some gaps is w = (
    λ h. (let two = (left_out (has some w) (has known w)).0 (sym (is w) ∙ h) in (
      two.0,
      (λ same. two.1 (known_is w ∙ (either (w == u) (has reached w)).1 (inl (eq-eqb w u same)))),
      λ there. two.1 (known_is w ∙ (either (w == u) (has reached w)).1 (inr there)),
    )),
    λ (here, other, out). is w ∙ (left_out (has some w) (has known w)).1 (
      here,
      λ h. elim ((either (w == u) (has reached w)).0 (sym (known_is w) ∙ h)) [
        | inl same ↦ other (eqb-true w u same)
        | inr there ↦ out there
      ],
    ),
  )

  pub crossed_exact : (ahead behind ahead_gaps behind_gaps right left all found : List ℕ)
      → ((v : ℕ) → (has ahead v ≡ true) ↔ ((u ≤ v) × (v < 128))) → ((v : ℕ) → (has behind v ≡ true) ↔ (v ≤ u))
      → ((n : ℕ) → has ahead_gaps n ≡ (has ahead n && not (has known n))) → ((n : ℕ) → has behind_gaps n ≡ (has behind n && not (has known n)))
      → ((v : ℕ) → (has right v ≡ true) ↔ ((w : ℕ) × (has ahead_gaps w ≡ true) × ((w ≤ v) × (v < 128))))
      → ((v : ℕ) → (has left v ≡ true) ↔ ((w : ℕ) × (has behind_gaps w ≡ true) × (v ≤ w)))
      → ((n : ℕ) → has all n ≡ (has left n || has right n)) → ((n : ℕ) → has found n ≡ (has all n && has reached n))
      → (x : ℕ) → (has found x ≡ true) ↔ ((x < 128) × (has reached x ≡ true) × Crosses u reached x)
  crossed_exact ahead behind ahead_gaps behind_gaps right left all found ahead_is behind_is ahead_gaps_are behind_gaps_are right_is left_is all_is found_is x = (
    λ h.
        let two = (both (has all x) (has reached x)).0 (sym (found_is x) ∙ h) in
        elim ((either (has left x) (has right x)).0 (sym (all_is x) ∙ two.0)) [
          | inl here ↦
              let (w, gap, at) = (left_is x).0 here in
              let (there, other, out) = (gap_exact behind behind_gaps behind_gaps_are w).0 gap in
              let below = (behind_is w).0 there in
              let apart = not_reached w out two.1 in
              (omega (arith, at, below, small), two.1, (w, inr (omega (arith, at, apart), omega (arith, below, other)), out))
          | inr here ↦
              let (w, gap, (at, few)) = (right_is x).0 here in
              let (there, other, out) = (gap_exact ahead ahead_gaps ahead_gaps_are w).0 gap in
              let above = ((ahead_is w).0 there).0 in
              let apart = not_reached w out two.1 in
              (few, two.1, (w, inl (omega (arith, above, other), omega (arith, at, apart)), out))
        ],
    λ (few, there, (w, between, out)). found_is x ∙ (both (has all x) (has reached x)).1 (
      all_is x ∙ (either (has left x) (has right x)).1 (elim between [
        | inl up ↦ (let a = up.0 in let b = up.1 in inr ((right_is x).1 (
          w,
          (gap_exact ahead ahead_gaps ahead_gaps_are w).1 ((ahead_is w).1 (omega (arith, a), omega (arith, b, few)), (λ same. omega (arith, same, a)), out),
          (omega (arith, b), few),
        )))
        | inr down ↦ (let a = down.0 in let b = down.1 in inl ((left_is x).1 (
          w,
          (gap_exact behind behind_gaps behind_gaps_are w).1 ((behind_is w).1 (omega (arith, b)), (λ same. omega (arith, same, b)), out),
          omega (arith, a),
        )))
      ]),
      there,
    ),
  ) where
    not_reached : (w : ℕ) → (has reached w ≡ true → ⊥) → has reached x ≡ true → w ≢ x
    not_reached w out there same = out (subst (λ k. has reached k ≡ true) (sym same) there)
