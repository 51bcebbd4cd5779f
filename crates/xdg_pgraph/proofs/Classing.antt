-- Classes of entries by the numbers of edges that they allow.
use Rattle.std.proofs.Common.{◌≡◌, ℕ, ◌<◌, ◌≤◌, ◌+◌, ◌⊎◌, inl, inr, List, [], ◌∷◌, ◌++◌, length, get_or, set, take, refl, ap, sym, ◌∙◌, arith, subst}
use Rattle.std.proofs.lemmas.Bool.{cases_eq, cases_lt}
use Rattle.std.proofs.lemmas.List.{get_or_append_left, get_or_default, get_or_push, get_or-set_same, get_or-set_other, get_or-take, length-set, length-take-le, length_push, same_lists}
use Rattle.std.proofs.lemmas.Nat.Bits.{bit_at_or, bit_at_set_other, bit_at_set_same, bit_at-zero}
use Rattle.std.specs.Int.{bit_at, w64}
use Rattle.xdg_facts.proofs.Bits.{or_left_bit}
use Rattle.xdg_problem.specs.declared.parts.Group.{Group}
use Rattle.xdg_pgraph.specs.declared.allowances.Class.{Class}
use Rattle.xdg_pgraph.specs.declared.bundle.Bundle.{Bundle}
use Rattle.xdg_pgraph.specs.Allowances.{AreClasses, IsClass, Keeps, bit_of, with_entry}
use Rattle.xdg_pgraph.specs.Bundles.{numbers_of}
use lib.Bits.{bit_or}

has_alone : (k i : ℕ) → bit_at (bit_of k) i ≡ bit_at (bit_or 0 (bit_of k)) i
has_alone k i = (let e = bit_at_or 0 (bit_of k) i in let z = bit_at-zero i in omega (arith, e, z))

has_only : (entries k c : ℕ) → k < 64 → bit_at (bit_or entries (bit_of k)) c ≡ 1 → (bit_at entries c ≡ 1) ⊎ (c ≡ k)
has_only entries k c small bit = elim (cases_eq c k) [
  | inl same ↦ inr same
  | inr other ↦ inl (sym (bit_at_set_other w64 entries k small c other) ∙ bit)
]

-- a class among the first so many
pub take_set : (classes : List Class) (count at : ℕ) (class : Class) → count ≤ length classes → take count (set classes at class) ≡ set (take count classes) at class
take_set classes count at class room =
    let all : length (take count (set classes at class)) ≡ count = length-take-le count (set classes at class) (let e = length-set classes at class in omega (arith, e, room)) in
    let front : length (take count classes) ≡ count = length-take-le count classes room in
    same_lists (take count (set classes at class)) (set (take count classes) at class)
    (let e = length-set (take count classes) at class in omega (arith, all, front, e))
    (λ k d l.
    let within : k < count = omega (arith, l, all) in
    get_or-take count (set classes at class) k d within
    ∙ elim (cases_eq k at) [
      | inl e ↦
          subst (λ i. get_or (set classes at class) i d ≡ get_or (set (take count classes) at class) i d) (sym e)
          (get_or-set_same classes at class d (omega (arith, within, room, e)) ∙ sym (get_or-set_same (take count classes) at class d (omega (arith, within, front, e))))
      | inr f ↦ get_or-set_other classes at k class d f ∙ (sym (get_or-take count classes k d within) ∙ sym (get_or-set_other (take count classes) at k class d f))
    ])

module _ (group : Group) (bundle : Bundle) where
  abbrev pub numbers : ℕ → List ℕ
  numbers k = numbers_of bundle.way group bundle.node bundle.label k

  -- among more candidates
  later : (k : ℕ) (class : Class) → IsClass k group bundle class → IsClass (k + 1) group bundle class
  later k class is = record {
    first = (let f = is.first in omega (arith, f));
    each = λ c bit. (let e = is.each c bit in (let l = e.0 in omega (arith, l), e.1));
    kept = is.kept;
  }

  joined : (k : ℕ) (class : Class) → k < 64 → numbers k ≡ numbers class.first → IsClass k group bundle class → IsClass (k + 1) group bundle (with_entry class k)
  joined k class small same is = record {
    first = (let f = is.first in omega (arith, f));
    each = λ c bit. elim (has_only class.entries k c small bit) [
      | inl old ↦ (let e = is.each c old in (let l = e.0 in omega (arith, l), e.1))
      | inr new ↦ (omega (arith, new), ap numbers new ∙ same)
    ];
    kept = record { spans = is.kept.spans; whole = is.kept.whole };
  }

  alone : (k : ℕ) (class : Class) → k < 64 → class.entries ≡ bit_of k → class.first ≡ k → Keeps (numbers k) class → IsClass (k + 1) group bundle class
  alone k class small entries_are first_is kept = record {
    first = omega (arith, first_is);
    each = λ c bit. elim (cases_eq c k) [
      | inl same ↦ (omega (arith, same), ap numbers (same ∙ sym first_is))
      | inr other ↦ absurd (let b = subst (λ w. bit_at w c ≡ 1) entries_are bit in let set = bit_at_set_other w64 0 k small c other in let e = has_alone k c in let z = bit_at-zero c in omega (arith, b, set, e, z))
    ];
    kept = subst (λ n. Keeps (numbers n) class) (sym first_is) kept;
  }

  -- before the first entry
  pub classes_none : AreClasses 0 group bundle []
  classes_none = record {
    few = omega arith;
    cover = λ c l. absurd (omega (arith, l));
    right = λ i d l. absurd (omega (arith, l));
  }

  -- the next entry is added to a class
  pub classes_join : (k at : ℕ) (classes : List Class) (class : Class) → k < 64 → at < length classes → class ≡ get_or classes at class → numbers k ≡ numbers class.first → AreClasses k group bundle classes → AreClasses (k + 1) group bundle (set classes at (with_entry class k))
  classes_join k at classes class small within is same are =
      let new = with_entry class k in
      let more = set classes at new in
      let long : length more ≡ length classes = length-set classes at new in
      record {
        few = omega (arith, small);
        cover = λ c l. elim (cases_eq c k) [
          | inl e ↦ (new, (at, omega (arith, within, long), get_or-set_same classes at new new within), subst (λ i. bit_at (bit_or class.entries (bit_of k)) i ≡ 1) (sym e) (bit_at_set_same w64 class.entries k small))
          | inr f ↦
              let old = are.cover c (omega (arith, l, f)) in
              let place = old.1.0 in
              let here = old.1.1 in
              elim (cases_eq place at) [
                | inl e ↦
                    let found : old.0 ≡ class = sym (subst (λ i. get_or classes i old.0 ≡ old.0) e old.1.2) ∙ get_or_default classes at old.0 class within ∙ sym is in
                    (new, (at, omega (arith, within, long), get_or-set_same classes at new new within), or_left_bit class.entries (bit_of k) c (subst (λ (it : Class). bit_at it.entries c ≡ 1) found old.2))
                | inr g ↦ (old.0, (place, omega (arith, here, long), get_or-set_other classes at place new old.0 g ∙ old.1.2), old.2)
              ]
        ];
        right = λ i d l. elim (cases_eq i at) [
          | inl e ↦ subst (IsClass (k + 1) group bundle) (sym (subst (λ j. get_or more j d ≡ new) (sym e) (get_or-set_same classes at new d within))) (joined k class small same (subst (IsClass k group bundle) (sym is) (are.right at class within)))
          | inr g ↦ subst (IsClass (k + 1) group bundle) (sym (get_or-set_other classes at i new d g)) (later k (get_or classes i d) (are.right i d (omega (arith, l, long))))
        ];
      }

  -- it has a class of its own
  pub classes_open : (k : ℕ) (classes : List Class) (new : Class) → k < 64 → new.entries ≡ bit_of k → new.first ≡ k → Keeps (numbers k) new → AreClasses k group bundle classes → AreClasses (k + 1) group bundle (classes ++ new ∷ [])
  classes_open k classes new small entries_are first_is kept are =
      let more = classes ++ new ∷ [] in
      let long : length more ≡ length classes + 1 = length_push classes new in
      record {
        few = omega (arith, small);
        cover = λ c l. elim (cases_eq c k) [
          | inl e ↦ (new, (length classes, omega (arith, long), get_or_push classes new new (length classes) refl), subst (λ w. bit_at w c ≡ 1) (sym entries_are) (subst (λ i. bit_at (bit_of k) i ≡ 1) (sym e) (has_alone k k ∙ bit_at_set_same w64 0 k small)))
          | inr f ↦
              let old = are.cover c (omega (arith, l, f)) in
              let place = old.1.0 in
              let here = old.1.1 in
              (old.0, (place, omega (arith, here, long), get_or_append_left classes (new ∷ []) old.0 place here ∙ old.1.2), old.2)
        ];
        right = λ i d l. elim (cases_lt i (length classes)) [
          | inl before ↦ subst (IsClass (k + 1) group bundle) (sym (get_or_append_left classes (new ∷ []) d i before)) (later k (get_or classes i d) (are.right i d before))
          | inr behind ↦
              let last : i ≡ length classes = omega (arith, l, long, behind) in
              subst (IsClass (k + 1) group bundle) (sym (subst (λ j. get_or more j d ≡ new) (sym last) (get_or_push classes new d (length classes) refl))) (alone k new small entries_are first_is kept)
        ];
      }
