-- The entries of some classes, class by class.
use Rattle.std.proofs.Common.{◌≡◌, ℕ, ◌<◌, ◌≤◌, ◌+◌, ◌^◌, ◌⊎◌, ◌↔◌, inl, inr, Bool, List, length, slice_index_or, sym, ◌∙◌, ap, subst, arith}
use lib.Bits.{bit_and}
use Rattle.std.specs.Int.{bit_at, trailing_zeros, w64}
use Rattle.std.proofs.lemmas.Bool.{cases_eq}
use Rattle.std.proofs.lemmas.List.{get_or_default}
use Rattle.std.proofs.lemmas.Nat.{and_le_r}
use Rattle.std.proofs.lemmas.Nat.Bits.{bit_at-trailing_zeros, bit_at-zero}
use Rattle.xdg_problem.specs.declared.parts.Group.{Group}
use Rattle.xdg_problem.specs.Boxes.{Has, entry_decision}
use Rattle.xdg_pgraph.specs.declared.allowances.Class.{Class}
use Rattle.xdg_pgraph.specs.declared.bundle.Bundle.{Bundle}
use Rattle.xdg_pgraph.specs.Allowances.{AreClasses, IsClass}
use Rattle.xdg_pgraph.specs.Bundles.{numbers_of}
use Rattle.xdg_facts.proofs.Bits.{both_bits}
use Rattle.xdg_facts.proofs.Numbers.{up_to}

-- one of the first classes has an entry
pub record IsIn (classes : List Class) (k c : ℕ) : Type 0 where
  pub class : Class
  pub place : ℕ
  pub before : place < k
  pub within : place < length classes
  pub is : slice_index_or classes place class ≡ class
  pub member : bit_at class.entries c ≡ 1

pub none_in : (classes : List Class) (c : ℕ) → IsIn classes 0 c → ⊥
none_in classes c i = (let l = i.before in omega (arith, l))

pub in_more : (classes : List Class) (k c : ℕ) → IsIn classes k c → IsIn classes (k + 1) c
in_more classes k c i = record { class = i.class; place = i.place; before = (let l = i.before in omega (arith, l)); within = i.within; is = i.is; member = i.member }

module _ (count : ℕ) (group : Group) (bundle : Bundle) (classes : List Class) (are : AreClasses count group bundle classes) where
  -- each candidate is in one of them
  pub each_in : (c k : ℕ) → c < count → length classes ≤ k → IsIn classes k c
  each_in c k l all =
      let found = are.cover c l in
      let within : found.1.0 < length classes = found.1.1 in
      record { class = found.0; place = found.1.0; before = omega (arith, within, all); within = within; is = found.1.2; member = found.2 }

  module _ (k : ℕ) (d : Class) (within : k < length classes) where
    -- a class
    abbrev class_at : Class
    class_at = slice_index_or classes k d

    pub class_is : IsClass count group bundle class_at
    class_is = are.right k d within

    -- it has an entry, or one before does
    pub last_or : (c : ℕ) → IsIn classes (k + 1) c → IsIn classes k c ⊎ (bit_at class_at.entries c ≡ 1)
    last_or c i = elim (up_to k i.place i.before) [
      | inl less ↦ inl (record { class = i.class; place = i.place; before = less; within = i.within; is = i.is; member = i.member })
      | inr at ↦
          let same : i.class ≡ class_at = sym i.is ∙ ap (λ p. slice_index_or classes p i.class) at ∙ get_or_default classes k i.class d within in
          inr (subst (λ (x : Class). bit_at x.entries c ≡ 1) same i.member)
    ]

    pub in_last : (c : ℕ) → bit_at class_at.entries c ≡ 1 → IsIn classes (k + 1) c
    in_last c bit = record { class = class_at; place = k; before = omega arith; within = within; is = get_or_default classes k class_at d within; member = bit }

  module _ (box : List (List Bool)) (remain : ℕ) (told : (c : ℕ) → c < 64 → c < count → (bit_at remain c ≡ 1) ↔ Has box (entry_decision bundle.node) c) (k : ℕ) (d : Class) (within : k < length classes) where
    abbrev class : Class
    class = slice_index_or classes k d

    here : IsClass count group bundle class
    here = class_is k d within

    -- none of its entries remains
    pub class_gone : bit_and class.entries remain ≡ 0 → (c : ℕ) → IsIn classes (k + 1) c → Has box (entry_decision bundle.node) c → IsIn classes k c
    class_gone none c i has = elim (last_or k d within c i) [
      | inl before ↦ before
      | inr mine ↦ absurd (
          let few = are.few in
          let below = (here.each c mine).0 in
          let there = (both_bits class.entries remain c).1 (mine, (told c (omega (arith, below, few)) below).1 has) in
          let zero = ap (λ n. bit_at n c) none ∙ bit_at-zero c in
          omega (arith, there, zero))
    ]

    -- some do
    pub class_left : remain < 2 ^ 64 → (bit_and class.entries remain ≡ 0 → ⊥) → (c : ℕ) × Has box (entry_decision bundle.node) c × (numbers_of bundle.way group bundle.node bundle.label c ≡ numbers_of bundle.way group bundle.node bundle.label class.first)
    class_left small some =
        let fewer : bit_and class.entries remain ≤ remain = and_le_r class.entries remain in
        let c : ℕ = trailing_zeros w64 (bit_and class.entries remain) in
        let bit = bit_at-trailing_zeros w64 (bit_and class.entries remain) (elim (cases_eq (bit_and class.entries remain) 0) [ inl none ↦ absurd (some none) | inr other ↦ omega (arith, other) ]) (omega (arith, fewer, small)) in
        let two = (both_bits class.entries remain c).0 bit.1 in
        let mine = here.each c two.0 in
        (c, (told c bit.0 mine.0).0 two.1, mine.1)

    pub class_next : (c : ℕ) → IsIn classes (k + 1) c → Has box (entry_decision bundle.node) c → IsIn classes k c ⊎ (numbers_of bundle.way group bundle.node bundle.label c ≡ numbers_of bundle.way group bundle.node bundle.label class.first)
    class_next c i has = elim (last_or k d within c i) [ inl before ↦ inl before | inr mine ↦ inr (here.each c mine).1 ]
