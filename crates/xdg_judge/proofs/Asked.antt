-- What a condition asks of a tuple, from what is read and tested.
use Rattle.std.proofs.Common.{◌≡◌, ℕ, ◌+◌, ◌<◌, ◌↔◌, ◌==◌, inl, inr, Bool, true, false, List, length, get_or, map, ap, sym, ◌∙◌, subst, arith}
use Rattle.std.specs.Prelude.{IsTrue, not, Contains, AllPairs, slice_index}
use Rattle.std.proofs.lemmas.Bool.{cases_Bool, eq-eqb, eqb-true, false≢true}
use Rattle.std.proofs.lemmas.List.{get_or_default}
use Rattle.xdg_base.specs.declared.ids.LabelId.{LabelId}
use Rattle.xdg_problem.specs.declared.analysis.Edge.{Edge}
use Rattle.xdg_problem.specs.declared.conditions.Condition.{Condition}
use Rattle.xdg_problem.specs.declared.parts.Group.{Group}
use Rattle.xdg_problem.specs.declared.parts.Parts.{Parts}
use Rattle.xdg_problem.specs.Arguments.{attr_place}
use Rattle.xdg_problem.specs.Asking.{IsInItem}
use Rattle.xdg_problem.specs.Features.{row}
use Rattle.xdg_problem.specs.Paths.{AboveByLast}
use Rattle.xdg_judge.specs.declared.paths.Way.TheVariants as ways
use Rattle.xdg_judge.specs.declared.links.Links.{Links}
use Rattle.xdg_judge.specs.Joining.{IsLed}
use Rattle.xdg_judge.specs.Links.{AreLinks}
use Rattle.xdg_facts.proofs.InOrder.{pairs_mapped}
use Rattle.xdg_facts.proofs.Numbers.{all_next}
use Rattle.xdg_judge.proofs.Meeting.{led_exact}
use Rattle.xdg_judge.proofs.Ways.{last_exact}
use Rattle.xdg_facts.proofs.Facts.{both_steps, denied}

pub row_same : (group : Group) (v w c d a l m : ℕ) (xs : List ℕ) → xs ≡ row group v c a l → v ≡ w → c ≡ d → l ≡ m → xs ≡ row group w d a m
row_same group v w c d a l m xs h e f g = h ∙ (ap (λ z. row group z c a l) e ∙ (ap (λ z. row group w z a l) f ∙ ap (λ z. row group w d a z) g))

pub value_same : (parts : Parts) (attrs : List ℕ) (dim d node a b r : ℕ) → r ≡ slice_index attrs (attr_place parts dim node a) → dim ≡ d → a ≡ b → r ≡ slice_index attrs (attr_place parts d node b)
value_same parts attrs dim d node a b r h e f = h ∙ (ap (λ z. slice_index attrs (attr_place parts z node a)) e ∙ ap (λ z. slice_index attrs (attr_place parts d node z)) f)

-- where the premises of what is asked hold, a test of the conclusion is enough

pub agree_end : (D : Type 0) (xs ys : List ℕ) (l m wanted value first second : ℕ) → D → Contains xs m → xs ≡ ys → m ≡ l → wanted ≡ first → value ≡ second → IsTrue (wanted == value) ↔ (D → Contains ys l → first ≡ second)
agree_end D xs ys l m wanted value first second d c f g i j = (
  λ t x y. sym i ∙ (eqb-true wanted value t ∙ j),
  λ h. eq-eqb wanted value (i ∙ (h d (subst (λ z. Contains z l) f (subst (Contains xs) g c)) ∙ sym j)),
)

pub govern_end : (b : Bool) (D : Type 0) (xs ys : List ℕ) (m value second : ℕ) → D → xs ≡ ys → (length xs ≡ 0 → ⊥) → m ≡ value → value ≡ second → IsTrue b ↔ Contains xs m → IsTrue b ↔ (D → 0 < length ys → Contains ys second)
govern_end b D xs ys m value second d f some g i h = (
  λ t x y. subst (λ z. Contains z second) f (subst (Contains xs) (g ∙ i) (h.0 t)),
  λ k. h.1 (subst (λ z. Contains z m) (sym f) (subst (Contains ys) (sym (g ∙ i)) (k d (let q = ap length f in let r : length xs ≡ 0 → ⊥ = some in omega (arith, q, r))))),
)

pub blocked_end : (b : Bool) (links : Links) (edges : List Edge) (A : Type 0) (xs ys : List ℕ) (w v : ℕ) → AreLinks edges links → xs ≡ ys → (A → ⊥) → IsTrue b ↔ IsLed ways.Last links xs w v → IsTrue (not b) ↔ (AboveByLast edges w ys v → A)
blocked_end b links edges A xs ys w v are g none h =
    denied b (AboveByLast edges w ys v) A (subst (λ z. IsTrue b ↔ AboveByLast edges w z v) g (both_steps h (both_steps (led_exact edges links xs are ways.Last w v) (last_exact edges xs w v)))) none

-- the labels of an order, one after another: whether x stands in an item of an earlier one, and none with y comes later
pub record Ordering (InX InY : ℕ → Type 0) (labels : List LabelId) (i : ℕ) (seen : Bool) : Type 0 where
  pub some : seen ≡ true → (j : ℕ) × (e : LabelId) × (j < i) × (e ≡ get_or labels j e) × InX e.0
  pub none : seen ≡ false → (j : ℕ) (d : LabelId) → j < i → InX (get_or labels j d).0 → ⊥
  pub kept : (j k : ℕ) (d : LabelId) → j < k → k < i → InX (get_or labels j d).0 → InY (get_or labels k d).0 → ⊥

more_kept : (InX InY : ℕ → Type 0) (labels : List LabelId) (i : ℕ) (seen : Bool) (label : LabelId) → i < length labels → label ≡ get_or labels i label → Ordering InX InY labels i seen → (seen ≡ true → InY label.0 → ⊥)
    → (j k : ℕ) (d : LabelId) → j < k → k < i + 1 → InX (get_or labels j d).0 → InY (get_or labels k d).0 → ⊥
more_kept InX InY labels i seen label l at o n j k d m p =
    all_next (λ k. (j : ℕ) (d : LabelId) → j < k → InX (get_or labels j d).0 → InY (get_or labels k d).0 → ⊥) i (λ k p j d m. o.kept j k d m p)
    (λ j d m x y. elim (cases_Bool seen) [ inl s ↦ n s (subst (λ (z : LabelId). InY z.0) (sym (at ∙ get_or_default labels i label d l)) y) | inr f ↦ o.none f j d m x ]) k p j d m

pub ordering_seen : (InX InY : ℕ → Type 0) (labels : List LabelId) (i : ℕ) (seen : Bool) (label : LabelId) → i < length labels → label ≡ get_or labels i label → Ordering InX InY labels i seen → (seen ≡ true → InY label.0 → ⊥) → InX label.0 → Ordering InX InY labels (i + 1) true
ordering_seen InX InY labels i seen label l at o n x = record {
  some = λ e. (i, label, omega arith, at, x);
  none = λ e. absurd (false≢true (sym e));
  kept = more_kept InX InY labels i seen label l at o n;
}

pub ordering_same : (InX InY : ℕ → Type 0) (labels : List LabelId) (i : ℕ) (seen : Bool) (label : LabelId) → i < length labels → label ≡ get_or labels i label → Ordering InX InY labels i seen → (seen ≡ true → InY label.0 → ⊥) → (InX label.0 → ⊥) → Ordering InX InY labels (i + 1) seen
ordering_same InX InY labels i seen label l at o n x = record {
  some = λ e. let h = o.some e in (h.0, h.1, (let m = h.2 in omega (arith, m)), h.3, h.4);
  none = λ e j d m. all_next (λ j. (d : LabelId) → InX (get_or labels j d).0 → ⊥) i (λ j m d. o.none e j d m) (λ d y. x (subst (λ (z : LabelId). InX z.0) (sym (at ∙ get_or_default labels i label d l)) y)) j m d;
  kept = more_kept InX InY labels i seen label l at o n;
}

pub ordering_broken : (InX InY : ℕ → Type 0) (labels : List LabelId) (i : ℕ) (seen : Bool) (label : LabelId) → i < length labels → label ≡ get_or labels i label → Ordering InX InY labels i seen → seen ≡ true → InY label.0 → IsTrue false ↔ AllPairs (λ a b. InX a.0 → InY b.0 → ⊥) labels
ordering_broken InX InY labels i seen label l at o s y = (
  λ t. absurd (false≢true t),
  λ a. let h = o.some s in absurd (a h.0 i h.1 h.2 l (subst (λ (z : LabelId). InX z.0) h.3 h.4) (subst (λ (z : LabelId). InY z.0) (at ∙ get_or_default labels i label h.1 l) y)),
)

abbrev pub zero_label : LabelId
zero_label = record { 0 = 0 }

-- where y does not stand to the right of x, the order allows no two such labels
pub order_end : (b : Bool) (InX InY : ℕ → Type 0) (labels : List LabelId) (x y : ℕ) → (x < y → ⊥) → IsTrue b ↔ AllPairs (λ (e l : LabelId). InX e.0 → InY l.0 → ⊥) labels → IsTrue b ↔ AllPairs (λ e l. InX e → InY l → x < y) (map (λ (label : LabelId). label.0) labels)
order_end b InX InY labels x y n h =
    let numbered = pairs_mapped (λ e l. InX e → InY l → x < y) (λ (label : LabelId). label.0) labels in (
      λ t. numbered.1 (λ j k d m p xs ys. absurd (h.0 t j k d m p xs ys)),
      λ a. h.1 (λ j k d m p xs ys. n (numbered.0 a j k d m p xs ys)),
    )

pub ordered_same : (b : Bool) (E : List Edge) (yields wanted : Bool) (own value u x y : ℕ) (labels order : List LabelId) → yields ≡ wanted → own ≡ value → labels ≡ order → IsTrue b ↔ AllPairs (λ (e l : LabelId). IsInItem E (yields ≡ true) own u e.0 x → IsInItem E (yields ≡ true) own u l.0 y → ⊥) labels → IsTrue b ↔ AllPairs (λ (e l : LabelId). IsInItem E (wanted ≡ true) value u e.0 x → IsInItem E (wanted ≡ true) value u l.0 y → ⊥) order
ordered_same b E yields wanted own value u x y labels order f g i h = rw (← f, ← g, ← i) h

pub arm : (P : Condition → Type 0) (condition q : Condition) → condition ≡ q → P q → P condition
arm P condition q is h = subst P (sym is) h
