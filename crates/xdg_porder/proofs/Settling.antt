-- Edges that are decided, and labels whose items stand in order.
use Rattle.std.proofs.Common.{◌≡◌, ℕ, ◌<◌, ◌≤◌, ◌+◌, ◌↔◌, ◌||◌, ◌&&◌, inl, inr, Bool, true, false, IsTrue, List, [], sym, ◌∙◌, arith, subst}
use Rattle.std.specs.Prelude.{not}
use Rattle.std.proofs.lemmas.Bool.{cases_Bool, cases_lt, false≢true}
use Rattle.xdg_nodeset.specs.Tables.{InTable, Meet}
use Rattle.xdg_problem.specs.declared.parts.Group.{Group}
use Rattle.xdg_problem.specs.declared.parts.Parts.{Parts}
use Rattle.xdg_porder.specs.Items.{MayFollow, MustFollow}
use Rattle.xdg_porder.specs.Yields.{IsLabelSettled}
use Rattle.xdg_facts.proofs.Truths.{left_out}
use Rattle.xdg_facts.proofs.Rising.{no_member}
use Rattle.xdg_facts.specs.Rises.{has}
use Rattle.xdg_facts.proofs.Sets.{either}

-- where no node is left that may follow and needn't
pub settled_exact : (parts : Parts) (group : Group) (box : List (List Bool)) (u label : ℕ) (may must free : List ℕ) (b : Bool) → ((v : ℕ) → (has may v ≡ true) ↔ MayFollow parts group box u label v) → ((v : ℕ) → (has must v ≡ true) ↔ MustFollow parts group box u label v) → ((v : ℕ) → has free v ≡ (has may v && not (has must v))) → IsTrue b ↔ ((v : ℕ) → has free v ≡ true → ⊥) → IsTrue b ↔ IsLabelSettled parts group u label box
settled_exact parts group box u label may must free b may_is must_is free_is exact = (
  λ t v is here. elim (cases_Bool (has must v)) [
    | inl there ↦ ((must_is v).0 there).1
    | inr out ↦ absurd (exact.0 t v (free_is v ∙ (left_out (has may v) (has must v)).1 ((may_is v).1 (is, here), λ h. false≢true (sym out ∙ h))))
  ],
  λ settled. exact.1 (λ v h. (let two = (left_out (has may v) (has must v)).0 (sym (free_is v) ∙ h) in let (is, here) = (may_is v).0 two.0 in two.1 ((must_is v).1 (is, settled v is here)))),
)

pub below_of : (P : ℕ → Type 0) (table : List (List ℕ)) (follow below : List ℕ) → ((v : ℕ) → (has follow v ≡ true) ↔ P v) → ((x : ℕ) → (has below x ≡ true) ↔ ((v : ℕ) × (has follow v ≡ true) × InTable table v x)) → (x : ℕ) → (has below x ≡ true) ↔ ((v : ℕ) × P v × InTable table v x)
below_of P table follow below p exact x = (
  λ h. (let (v, there, i) = (exact x).0 h in (v, (p v).0 there, i)),
  λ (v, there, i). (exact x).1 (v, (p v).1 there, i),
)

-- ---- one label of an order after another, where S i x says that x stands below an item with the label at the place i

-- the nodes at or left of those with the first labels
abbrev pub Reached : (ℕ → ℕ → Type 0) → ℕ → List ℕ → Type 0
Reached S k set = (v : ℕ) → (has set v ≡ true) ↔ ((i x : ℕ) × (i < k) × S i x × (v ≤ x))

-- the first labels are in order
abbrev pub InOrder : (ℕ → ℕ → Type 0) → ℕ → Type 0
InOrder S k = (i j x y : ℕ) → i < j → j < k → S i x → S j y → y ≤ x → ⊥

pub order_start : (S : ℕ → ℕ → Type 0) (set : List ℕ) → set ≡ [] → Reached S 0 set × InOrder S 0
order_start S set empty = (
  λ v. (λ h. absurd (no_member set v empty h), λ (i, x, l, s, at). absurd (omega (arith, l))),
  λ i j x y less within. absurd (omega (arith, within)),
)

module _ (S : ℕ → ℕ → Type 0) (k : ℕ) (set below : List ℕ) (overlaps : Bool) (before : Reached S k set × InOrder S k) (below_is : (x : ℕ) → (has below x ≡ true) ↔ S k x)
    (meets : IsTrue overlaps ↔ Meet set below) where
  pub order_broken : (n : ℕ) → k < n → overlaps ≡ true → (i j x y : ℕ) × (i < j) × (j < n) × S i x × S j y × (y ≤ x)
  order_broken n within here =
      let (y, left, there) = meets.0 here in
      let (i, x, less, first, at) = (before.0 y).0 left in
      (i, k, x, y, less, within, first, (below_is y).0 there, at)

  pub order_next : (left more : List ℕ) → ((v : ℕ) → (has left v ≡ true) ↔ ((w : ℕ) × (has below w ≡ true) × (v ≤ w))) → ((n : ℕ) → has more n ≡ (has set n || has left n))
      → overlaps ≡ false → Reached S (k + 1) more × InOrder S (k + 1)
  order_next left more left_is is apart = (
    λ v. (
      λ h. elim ((either (has set v) (has left v)).0 (sym (is v) ∙ h)) [
        | inl old ↦ (let (i, x, less, s, at) = (before.0 v).0 old in (i, x, omega (arith, less), s, at))
        | inr new ↦ (let (x, there, at) = (left_is v).0 new in (k, x, omega arith, (below_is x).0 there, at))
      ],
      λ (i, x, less, s, at). is v ∙ (either (has set v) (has left v)).1 (elim (cases_lt i k) [
        | inl sooner ↦ inl ((before.0 v).1 (i, x, sooner, s, at))
        | inr past ↦ (let e : i ≡ k = omega (arith, less, past) in inr ((left_is v).1 (x, (below_is x).1 (subst (λ j. S j x) e s), at)))
      ]),
    ),
    λ i j x y less within first second at. elim (cases_lt j k) [
      | inl sooner ↦ before.1 i j x y less sooner first second at
      | inr past ↦
          let e : j ≡ k = omega (arith, within, past) in
          false≢true (sym apart ∙ meets.1 (y, (before.0 y).1 (i, x, omega (arith, less, e), first, at), (below_is y).1 (subst (λ m. S m y) e second)))
    ],
  )
