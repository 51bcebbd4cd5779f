-- The entries of some classes that allow no number between two.
use Rattle.std.proofs.Common.{◌≡◌, ◌≢◌, ℕ, ◌<◌, ◌≤◌, ◌+◌, ◌-◌, ◌*◌, ◌↔◌, inl, inr, List, length, slice_index_or, get_or, refl, sym, subst, arith}
use Rattle.std.specs.Prelude.{[], ◌∷◌}
use lib.Bits.{bit_or}
use Rattle.std.specs.Int.{bit_at}
use Rattle.std.proofs.lemmas.Nat.Bits.{bit_at-zero}
use Rattle.xdg_facts.proofs.Bits.{has_right, or_left_bit, either_bit}
use Rattle.xdg_problem.specs.declared.parts.Group.{Group}
use Rattle.xdg_problem.specs.declared.parts.Parts.{Parts}
use Rattle.xdg_problem.specs.Boxes.{entry_decision}
use Rattle.xdg_problem.specs.Places.{nodes}
use Rattle.xdg_rules.specs.Rules.{HasNoneWithin}
use Rattle.xdg_store.specs.Change.{IsTaken}
use Rattle.xdg_store.specs.InRange.{HasCandidate}
use Rattle.xdg_store.specs.States.{State}
use Rattle.xdg_propcore.specs.Passes.{Progress, Clears}
use Rattle.xdg_propcore.proofs.Passing.{clears_like}
use Rattle.xdg_pgraph.specs.declared.allowances.Class.{Class}
use Rattle.xdg_pgraph.specs.declared.bundle.Bundle.{Bundle}
use Rattle.xdg_pgraph.specs.Allowances.{AreClasses, HasClasses}
use Rattle.xdg_pgraph.specs.Bounding.{AreBarred}
use Rattle.xdg_pgraph.specs.Bundles.{Barred, numbers_of}
use Rattle.xdg_pgraph.proofs.Classed.{IsIn, class_is, each_in, in_last, in_more, last_or, none_in}

-- a word has the entries of the first classes that are so
abbrev pub Gathers : Group → Bundle → ℕ → ℕ → List Class → ℕ → ℕ → Type 0
Gathers group bundle least most classes k bits =
    (c : ℕ) → (bit_at bits c ≡ 1) ↔ (IsIn classes k c × HasNoneWithin (numbers_of bundle.way group bundle.node bundle.label c) least most)

module _ (count : ℕ) (group : Group) (bundle : Bundle) (classes : List Class) (are : AreClasses count group bundle classes) (least most : ℕ) where
  abbrev None : ℕ → Type 0
  None c = HasNoneWithin (numbers_of bundle.way group bundle.node bundle.label c) least most

  pub gather_start : Gathers group bundle least most classes 0 0
  gather_start c = (λ bit. absurd (let z = bit_at-zero c in omega (arith, bit, z)), λ both. absurd (none_in classes c both.0))

  module _ (k : ℕ) (d : Class) (within : k < length classes) (bits : ℕ) where
    abbrev class : Class
    class = slice_index_or classes k d

    -- its entries allow what the first of them allows
    alike : (c : ℕ) → bit_at class.entries c ≡ 1 → None c ↔ None class.first
    alike c mine =
        let same = ((class_is count group bundle classes are k d within).each c mine).1 in
        (subst (λ row. HasNoneWithin row least most) same, subst (λ row. HasNoneWithin row least most) (sym same))

    -- a class that allows some
    pub gather_skip : (None class.first → ⊥) → Gathers group bundle least most classes k bits → Gathers group bundle least most classes (k + 1) bits
    gather_skip some g c = (
      λ bit. (let both = (g c).0 bit in (in_more classes k c both.0, both.1)),
      λ both. elim (last_or count group bundle classes are k d within c both.0) [
        | inl before ↦ (g c).1 (before, both.1)
        | inr mine ↦ absurd (some ((alike c mine).0 both.1))
      ],
    )

    -- and one that allows none
    pub gather_more : None class.first → Gathers group bundle least most classes k bits → Gathers group bundle least most classes (k + 1) (bit_or bits class.entries)
    gather_more none g c = (
      λ bit. elim (either_bit bits class.entries c bit) [
        | inl old ↦ (let both = (g c).0 old in (in_more classes k c both.0, both.1))
        | inr mine ↦ (in_last count group bundle classes are k d within c mine, (alike c mine).1 none)
      ],
      λ both. elim (last_or count group bundle classes are k d within c both.0) [
        | inl before ↦ or_left_bit bits class.entries c ((g c).1 (before, both.1))
        | inr mine ↦ has_right bits class.entries c mine
      ],
    )

  -- of all
  pub gathered : (k bits : ℕ) → length classes ≤ k → Gathers group bundle least most classes k bits → AreBarred count group bundle least most bits
  gathered k bits all g c = (
    λ bit.
        let both = (g c).0 bit in
        let i = both.0 in
        let is = i.is in
        (((are.right i.place i.class i.within).each c (subst (λ (x : Class). bit_at x.entries c ≡ 1) (sym is) i.member)).0, both.1),
    λ both. (g c).1 (each_in count group bundle classes are c k both.0 all, both.1),
  )

-- ---- they are taken

-- a node with classes of its entries has an entry
pub has_first : (parts : Parts) (group : Group) (bundle : Bundle) (classes : List Class) → bundle.node < nodes parts → classes ≢ [] → HasClasses parts group bundle classes → HasCandidate parts bundle.node (0 * 64)
has_first parts group bundle [] node some have = absurd (some refl)
has_first parts group bundle (class ∷ rest) node some have = record { node_in = node; place_in = (let f = ((have some).right 0 class (omega arith)).first in omega (arith, f)) }

-- all at once
pub barred_at_once : (parts : Parts) (group : Group) (bundle : Bundle) (classes : List Class) (least most bits : ℕ) (p q : Progress) (old new : State) → AreClasses (length (get_or parts.candidates bundle.node [])) group bundle classes → AreBarred (length (get_or parts.candidates bundle.node [])) group bundle least most bits → Clears (λ d v. (d ≡ entry_decision bundle.node) × IsTaken 0 bits v) p old q new → Clears (Barred parts group bundle least most) p old q new
barred_at_once parts group bundle classes least most bits p q old new are barred = clears_like (λ d v. (d ≡ entry_decision bundle.node) × IsTaken 0 bits v) (Barred parts group bundle least most) p q old new
    (λ d v a.
    let place : v - 0 * 64 ≡ v = omega arith in
    let both = (barred v).0 (subst (λ i. bit_at bits i ≡ 1) place a.1.bit) in
    (a.0, both.0, both.1))
    (λ d v b.
    let place : v ≡ v - 0 * 64 = omega arith in
    let few = are.few in
    let below = b.1 in
    (b.0, record { from = omega arith; below = omega (arith, below, few); bit = subst (λ i. bit_at bits i ≡ 1) place ((barred v).1 (b.1, b.2)) }))
