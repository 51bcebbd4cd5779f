-- What holds of many tuples at once.
use Rattle.std.proofs.Common.{◌≡◌, ℕ, ◌+◌, ◌<◌, ◌≤◌, ◌&&◌, inl, inr, Bool, true, List, length, get_or, map, sym, ◌∙◌, ap, subst, arith}
use Rattle.std.specs.Prelude.{AllPairs, nat_lt}
use Rattle.std.proofs.lemmas.Bool.{lt-ltb}
use Rattle.std.proofs.lemmas.List.{get_or_default}
use Prim.Native.Nat.{min, max}
use Rattle.xdg_base.specs.declared.ids.LabelId.{LabelId}
use Rattle.xdg_problem.specs.declared.analysis.Edge.{Edge}
use Rattle.xdg_problem.specs.Asking.{IsBetween, IsInItem}
use Rattle.xdg_problem.specs.Paths.{Above, IsDaughterBy}
use Rattle.xdg_judge.specs.declared.links.Links.{Links}
use Rattle.xdg_judge.specs.Links.{AreLinks}
use Rattle.xdg_nodeset.specs.Tables.{InTable}
use Rattle.xdg_facts.proofs.InOrder.{pairs_mapped}
use Rattle.xdg_facts.proofs.Numbers.{all_next}
use Rattle.xdg_facts.specs.Rises.{has}

is_between : (u v w : ℕ) → IsBetween u v w → (nat_lt (min u v) w && nat_lt w (max u v)) ≡ true
is_between u v w h =
    let low : min u v < w = elim h [ inl (l, m) ↦ omega (arith, l, m) | inr (l, m) ↦ omega (arith, l, m) ] in
    let high : w < max u v = elim h [ inl (l, m) ↦ omega (arith, l, m) | inr (l, m) ↦ omega (arith, l, m) ] in
    ap (λ b. b && nat_lt w (max u v)) (lt-ltb (min u v) w low) ∙ lt-ltb w (max u v) high

pub enclosed : (edges : List Edge) (links : Links) (u v a b w : ℕ) (between : List ℕ) → AreLinks edges links → ((n : ℕ) → has between n ≡ (nat_lt (min a b) n && nat_lt n (max a b))) → ((n : ℕ) → has between n ≡ true → InTable links.down.far u n) → a ≡ u → b ≡ v → IsBetween u v w → Above edges u w
enclosed edges links u v a b w between are members all ea eb h =
    (are.down.far u w).0 (all w (members w ∙ (ap (λ z. nat_lt (min z b) w && nat_lt w (max z b)) ea ∙ (ap (λ z. nat_lt (min u z) w && nat_lt w (max u z)) eb ∙ is_between u v w h))))

-- the nodes of an item, one after another, behind a place

pub record Passed (InItem : ℕ → Type 0) (bound next i : ℕ) : Type 0 where
  pub low : bound ≤ next
  pub each : (x : ℕ) → x < i → InItem x → (bound ≤ x) × (x < next)

pub passed_here : (InItem : ℕ → Type 0) (bound next i : ℕ) → bound ≤ i → Passed InItem bound next i → Passed InItem bound (i + 1) (i + 1)
passed_here InItem bound next i l p = record {
  low = omega (arith, l);
  each = all_next (λ x. InItem x → (bound ≤ x) × (x < i + 1)) i (λ x m h. ((p.each x m h).0, omega (arith, m))) (λ _. (l, omega arith));
}

pub passed_over : (InItem : ℕ → Type 0) (bound next i : ℕ) → (InItem i → ⊥) → Passed InItem bound next i → Passed InItem bound next (i + 1)
passed_over InItem bound next i none p = record { low = p.low; each = all_next (λ x. InItem x → (bound ≤ x) × (x < next)) i p.each (λ h. absurd (none h)) }

pub passed_end : (InItem : ℕ → Type 0) (bound next i size n : ℕ) → Passed InItem bound next i → size ≤ i → size ≡ n → (bound ≤ next) × ((x : ℕ) → x < n → InItem x → (bound ≤ x) × (x < next))
passed_end InItem bound next i size n p l e = (p.low, λ x m h. p.each x (omega (arith, m, l, e)) h)

pub passed_none : (edges : List Edge) (yields : Type 0) (own u label bound n : ℕ) → (own ≡ label → ⊥) → ((v : ℕ) → IsDaughterBy edges u label v → ⊥) → (bound ≤ bound) × ((x : ℕ) → x < n → IsInItem edges yields own u label x → (bound ≤ x) × (x < bound))
passed_none edges yields own u label bound n other none = (omega arith, λ x l h. absurd (elim h [ inl s ↦ other (sym s.0) | inr (inl d) ↦ none x d | inr (inr z) ↦ none z.1.0 z.1.1 ]))

-- the items of an order, one after another

pub record Settled (InItem : ℕ → ℕ → Type 0) (labels : List LabelId) (size i bound : ℕ) : Type 0 where
  pub before : (j : ℕ) (d : LabelId) (x : ℕ) → j < i → x < size → InItem (get_or labels j d).0 x → x < bound
  pub kept : (j k : ℕ) (d : LabelId) (x y : ℕ) → j < k → k < i → x < size → y < size → InItem (get_or labels j d).0 x → InItem (get_or labels k d).0 y → x < y

pub settled_start : (InItem : ℕ → ℕ → Type 0) (labels : List LabelId) (size : ℕ) → Settled InItem labels size 0 0
settled_start InItem labels size = record { before = λ j d x l. absurd (omega (arith, l)); kept = λ j k d x y l m. absurd (omega (arith, m)) }

pub settled_more : (InItem : ℕ → ℕ → Type 0) (labels : List LabelId) (size i bound next : ℕ) (label : LabelId) → i < length labels → label ≡ get_or labels i label → Settled InItem labels size i bound → (bound ≤ next) × ((x : ℕ) → x < size → InItem label.0 x → (bound ≤ x) × (x < next)) → Settled InItem labels size (i + 1) next
settled_more InItem labels size i bound next label l at s p = record {
  before = λ j d x m. all_next (λ j. (d : LabelId) (x : ℕ) → x < size → InItem (get_or labels j d).0 x → x < next) i (λ j m d x n h. let b = s.before j d x m n h in let q = p.0 in omega (arith, b, q))
      (λ d x n h. (p.1 x n (here d x h)).1) j m d x;
  kept = λ j k d x y m n. all_next (λ k. (j : ℕ) (d : LabelId) (x y : ℕ) → j < k → x < size → y < size → InItem (get_or labels j d).0 x → InItem (get_or labels k d).0 y → x < y) i (λ k n j d x y m. s.kept j k d x y m n)
      (λ j d x y m lx ly h g. let b = s.before j d x m lx h in let q = (p.1 y ly (here d y g)).0 in omega (arith, b, q)) k n j d x y m;
} where
  here : (d : LabelId) (x : ℕ) → InItem (get_or labels i d).0 x → InItem label.0 x
  here d x h = subst (λ (z : LabelId). InItem z.0 x) (sym (at ∙ get_or_default labels i label d l)) h

pub settled_end : (InItem : ℕ → ℕ → Type 0) (labels : List LabelId) (size i bound x y : ℕ) → Settled InItem labels size i bound → length labels ≤ i → x < size → y < size → AllPairs (λ (e l : LabelId). InItem e.0 x → InItem l.0 y → x < y) labels
settled_end InItem labels size i bound x y s l lx ly = λ j k d m p h g. s.kept j k d x y m (omega (arith, p, l)) lx ly h g

-- the labels of an order as numbers
pub settled_same : (edges : List Edge) (yields wanted : Bool) (own value u x y : ℕ) (labels order : List LabelId) → yields ≡ wanted → own ≡ value → labels ≡ order → AllPairs (λ (e l : LabelId). IsInItem edges (yields ≡ true) own u e.0 x → IsInItem edges (yields ≡ true) own u l.0 y → x < y) labels → AllPairs (λ e l. IsInItem edges (wanted ≡ true) value u e x → IsInItem edges (wanted ≡ true) value u l y → x < y) (map (λ (label : LabelId). label.0) order)
settled_same edges yields wanted own value u x y labels order f g i h =
    (pairs_mapped (λ e l. IsInItem edges (wanted ≡ true) value u e x → IsInItem edges (wanted ≡ true) value u l y → x < y) (λ (label : LabelId). label.0) order).1 (rw (← f, ← g, ← i) h)
