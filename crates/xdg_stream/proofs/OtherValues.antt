-- The other values of a block of 64: their bits, and their removal.
use Rattle.std.proofs.Common.{◌≡◌, ◌≢◌, ℕ, ◌<◌, ◌+◌, ◌-◌, ◌*◌, ◌/◌, ◌%◌, ◌^◌, ◌↔◌, ap, sym, ◌∙◌, arith, subst}
use Rattle.std.specs.Prelude.{slice_index}
use Rattle.std.specs.Int.{bit_at, bit_not, w64}
use Rattle.std.proofs.Math.Nat.{mod-lt}
use Rattle.std.proofs.lemmas.Nat.{one_shl, pow_pos}
use Rattle.std.proofs.lemmas.Nat.Bits.{bit_at-pow_other, bit_at-pow_same, bit_at_not, bit_at_ones}
use Rattle.xdg_problem.specs.declared.analysis.Edge.{Edge}
use Rattle.xdg_problem.specs.Analyses.{IsPlace}
use Rattle.xdg_problem.specs.Boxes.{Has, edge_decision}
use Rattle.xdg_problem.specs.Vectors.{shape}
use Rattle.xdg_problem.proofs.PlaceOrder.{place_is}
use Rattle.xdg_rules.proofs.Sizes.{edge_size, edge_values}
use Rattle.xdg_store.specs.Change.{IsTaken, Removes, RemovesAll}
use Rattle.xdg_store.specs.Decisions.{IsDecision, number_of}
use Rattle.xdg_store.specs.States.{State, Known}
use Rattle.xdg_store.specs.declared.change.Change.{Change}
use Rattle.xdg_store.specs.declared.change.Change.TheVariants as changes
use Rattle.xdg_store.specs.declared.decision.Decision.{Decision}
use Rattle.xdg_store.specs.declared.decision.Decision.TheVariants as decisions
use Rattle.xdg_propcore.proofs.Shrinking.{one_removed}
use Rattle.xdg_stream.specs.Others.{IsOther}

-- ---- a bit for each

-- the value is in another block
pub all_others : (block value : ℕ) → value / 64 ≢ block → (x : ℕ) → IsTaken block 18446744073709551615 x ↔ IsOther block value x
all_others block value outside x = (
  λ t. (t.from, t.below, λ same. outside (let from = t.from in let below = t.below in omega (arith, from, below, same))),
  λ o. record { from = o.0; below = o.1; bit = bit_at_ones 64 (x - block * 64) (let from = o.0 in let below = o.1 in omega (arith, from, below)) },
)

-- it is in this one
module _ (block value : ℕ) (inside : value / 64 ≡ block) where
  abbrev one : ℕ
  one = 1 * 2 ^ (value % 64) % 2 ^ 64

  bit_is : (i : ℕ) → i < 64 → bit_at (bit_not w64 one) i ≡ 1 - bit_at (2 ^ (value % 64)) i
  bit_is i l = bit_at_not w64 one i (mod-lt (1 * 2 ^ (value % 64)) (pow_pos 64)) l ∙ ap (λ z. 1 - bit_at z i) (one_shl (value % 64) 64 (omega arith))

  taken_other : (x : ℕ) → IsTaken block (bit_not w64 one) x → x ≢ value
  taken_other x t same =
      let from = t.from in
      let below = t.below in
      let at : x - block * 64 ≡ value % 64 = omega (arith, from, same, inside) in
      let bit = t.bit in
      let is = bit_is (x - block * 64) (omega (arith, from, below)) in
      let set = ap (bit_at (2 ^ (value % 64))) at ∙ bit_at-pow_same (value % 64) in
      omega (arith, bit, is, set)

  pub but_others : (x : ℕ) → IsTaken block (bit_not w64 one) x ↔ IsOther block value x
  but_others x = (
    λ t. (t.from, t.below, taken_other x t),
    λ o.
        let from = o.0 in
        let below = o.1 in
        let is = bit_is (x - block * 64) (omega (arith, from, below)) in
        let unset = bit_at-pow_other (value % 64) (x - block * 64) (λ at. o.2 (omega (arith, from, at, inside))) in
        record { from = from; below = below; bit = (omega (arith, is, unset)) },
  )

-- ---- a removal of other values

-- of the same values, as far as they remain
pub removes_like : (change : Change) (old new : State) (d : ℕ) (A B : ℕ → Type 0) → ((x : ℕ) → Has old.now d x → A x ↔ B x) → RemovesAll change old new d A → RemovesAll change old new d B
removes_like changes.Same old new d A B like r = (λ x b h. r.0 x ((like x h).1 b) h, r.1)
removes_like changes.Changed old new d A B like r =
    let some = r.0 in
    let s = r.1 in (
      (some.0, (like some.0 some.2).0 some.1, some.2),
      record {
        parts = s.parts;
        turns = s.turns;
        grown = s.grown;
        inside = s.inside;
        others = s.others;
        gone = λ x b h. s.gone x ((like x (s.inside d x h)).1 b) h;
        left = λ x none h. s.left x (λ a. none ((like x h).0 a)) h;
      },
    )
removes_like changes.Emptied old new d A B like r = (λ x h. (like x h).0 (r.0 x h), r.1)

-- of an entry or an attribute
pub block_removed : (change : Change) (old new : State) (decision named : Decision) (block value others : ℕ) → decision ≡ named → ((x : ℕ) → IsTaken block others x ↔ IsOther block value x) → RemovesAll change old new (number_of old.parts named) (IsTaken block others) → RemovesAll change old new (number_of old.parts decision) (IsOther block value)
block_removed change old new decision named block value others is like r = subst (λ z. RemovesAll change old new (number_of old.parts z) (IsOther block value)) (sym is) (removes_like change old new (number_of old.parts named) (IsTaken block others) (IsOther block value) (λ x h. like x) r)

-- the values of an edge place are 0 and 1
other_edge : (old : State) (e : Edge) (block value other : ℕ) → Known old → IsPlace old.parts e → block * 64 < slice_index (shape old.parts) (edge_decision old.parts e) → value < slice_index (shape old.parts) (edge_decision old.parts e) → other + value ≡ 1 → (x : ℕ) → Has old.now (edge_decision old.parts e) x → (x ≡ other) ↔ IsOther block value x
other_edge old e block value other known is first within sum x h =
    let place = place_is old.parts e is in
    let size = edge_size old.parts e place in
    let small = edge_values old.parts old.now known.is_box e place x h in (
      λ same. (omega (arith, first, size), omega (arith, small), λ equal. omega (arith, same, sum, equal)),
      λ o. (let differs = o.2 in omega (arith, small, within, size, sum, differs)),
    )

-- of an edge
pub edge_removed : (change : Change) (old new : State) (decision : Decision) (e : Edge) (block value other : ℕ) → decision ≡ decisions.Place e → Known old → IsDecision old.parts decision → block * 64 < slice_index (shape old.parts) (number_of old.parts decision) → value < slice_index (shape old.parts) (number_of old.parts decision) → other + value ≡ 1 → Removes change old new (edge_decision old.parts e) other → RemovesAll change old new (number_of old.parts decision) (IsOther block value)
edge_removed change old new decision e block value other same known is first within sum r =
    let like = other_edge old e block value other known (subst (IsDecision old.parts) same is) (subst (λ z. block * 64 < slice_index (shape old.parts) (number_of old.parts z)) same first) (subst (λ z. value < slice_index (shape old.parts) (number_of old.parts z)) same within) sum in
    subst (λ z. RemovesAll change old new (number_of old.parts z) (IsOther block value)) (sym same) (removes_like change old new (edge_decision old.parts e) (λ x. x ≡ other) (IsOther block value) like (one_removed change old new (edge_decision old.parts e) other r))
