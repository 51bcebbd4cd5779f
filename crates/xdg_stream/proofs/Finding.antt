-- The steps by which a run of forced numbers is found, and its end.
use Rattle.std.proofs.Common.{◌≡◌, ◌≢◌, ℕ, ◌<◌, ◌+◌, ◌-◌, ◌↔◌, inl, inr, Bool, false, not, List, [], ◌∷◌, ◌++◌, Option, Some, None, length, map, refl, ap, sym, ◌∙◌, arith, subst, suc, length-append}
use Rattle.std.specs.Prelude.{IsTrue, slice_index_or}
use Rattle.std.proofs.lemmas.Bool.{cases_Bool, false≢true, not-true}
use Rattle.std.proofs.lemmas.List.{append_assoc, length-map, map-append}
use Rattle.xdg_problem.specs.Boxes.{Has}
use Rattle.xdg_stream.specs.Runs.{Adds, AreAlone, IsAlone}

-- ---- whether a value remains

-- what isn't gone remains
pub not_gone : (box : List (List Bool)) (d v : ℕ) (gone : Bool) → (IsTrue gone ↔ (Has box d v → ⊥)) → IsTrue (not gone) ↔ Has box d v
not_gone box d v gone tells = (
  λ e. elim (cases_Bool (slice_index_or (slice_index_or box d []) v false)) [
    | inl has ↦ has
    | inr none ↦ absurd (false≢true (sym (not-true gone e) ∙ tells.1 (λ has. false≢true (sym none ∙ has))))
  ],
  λ has. elim (cases_Bool gone) [
    | inl is ↦ absurd (tells.0 is has)
    | inr is ↦ ap not is
  ],
)

-- ---- the one value that remains

-- of the values below i that remain the one found is all
abbrev pub FoundBelow : List (List Bool) → ℕ → ℕ → Option ℕ → Type 0
FoundBelow box d i None = (x : ℕ) → x < i → Has box d x → ⊥
FoundBelow box d i (Some v) = Has box d v × ((x : ℕ) → x < i → Has box d x → x ≡ v)

-- ---- the numbers that are added

-- what is added behind what was added is added too
alone_both : (box : List (List Bool)) (d : ℕ) (xs ys : List ℕ) → AreAlone box d xs → AreAlone box (d + length xs) ys → AreAlone box d (xs ++ ys)
alone_both box d [] ys all more = (let e : d + 0 ≡ d = omega arith in subst (λ k. AreAlone box k ys) e more)
alone_both box d (x ∷ xs) ys all more = (let e : d + suc (length xs) ≡ (d + 1) + length xs = omega arith in (all.0, alone_both box (d + 1) xs ys all.1 (subst (λ k. AreAlone box k ys) e more)))

pub adds_both : (box : List (List Bool)) (mark : ℕ) (marks numbers marks' numbers' marks'' numbers'' : List ℕ) (most m n : ℕ) → Adds box mark marks numbers marks' numbers' most m → Adds box mark marks' numbers' marks'' numbers'' (most - m) n → Adds box mark marks numbers marks'' numbers'' most (m + n)
adds_both box mark marks numbers marks' numbers' marks'' numbers'' most m n a b = record {
  added = a.added ++ b.added;
  numbers_are = b.numbers_are ∙ ap (λ z. z ++ b.added) a.numbers_are ∙ append_assoc numbers a.added b.added;
  marks_are = b.marks_are ∙ ap (λ z. z ++ map (λ _. mark) b.added) a.marks_are ∙ append_assoc marks (map (λ _. mark) a.added) (map (λ _. mark) b.added) ∙ ap (λ z. marks ++ z) (sym (map-append (λ _. mark) a.added b.added));
  count = (let e = length-append a.added b.added in let c = a.count in let d = b.count in omega (arith, e, c, d));
  within = (let v = a.within in let w = b.within in omega (arith, v, w));
  alone = alone_both box (length numbers) a.added b.added a.alone (
      let e = ap length a.numbers_are in
      let f = length-append numbers a.added in
      let place : length numbers' ≡ length numbers + length a.added = omega (arith, e, f) in
      subst (λ k. AreAlone box k b.added) place b.alone
      );
}

-- one more
pub adds_one : (box : List (List Bool)) (mark : ℕ) (marks numbers marks' numbers' marks'' numbers'' : List ℕ) (most n at v : ℕ) → Adds box mark marks numbers marks' numbers' most n → n ≢ most → at ≡ length numbers' → IsAlone box at v → marks'' ≡ marks' ++ mark ∷ [] → numbers'' ≡ numbers' ++ v ∷ [] → Adds box mark marks numbers marks'' numbers'' most (n + 1)
adds_one box mark marks numbers marks' numbers' marks'' numbers'' most n at v adds more here one marks_are numbers_are = adds_both box mark marks numbers marks' numbers' marks'' numbers'' most n 1 adds (record {
  added = v ∷ [];
  numbers_are = numbers_are;
  marks_are = marks_are;
  count = refl;
  within = (let w = adds.within in omega (arith, w, more));
  alone = (subst (λ k. IsAlone box k v) here one, tt);
})

pub one_longer : (numbers more : List ℕ) (v at : ℕ) → at ≡ length numbers → more ≡ numbers ++ v ∷ [] → at + 1 ≡ length more
one_longer numbers more v at is more_is = (let e = ap length more_is in let f = length-append numbers (v ∷ []) in omega (arith, e, f, is))

-- how many marks and numbers there are
pub adds_lengths : (box : List (List Bool)) (mark : ℕ) (marks numbers marks' numbers' : List ℕ) (most n : ℕ) → Adds box mark marks numbers marks' numbers' most n → (length marks' ≡ length marks + n) × (length numbers' ≡ length numbers + n)
adds_lengths box mark marks numbers marks' numbers' most n a =
    let c = a.count in
    let m = ap length a.marks_are in
    let k = length-append marks (map (λ _. mark) a.added) in
    let l = length-map a.added (λ (x : ℕ). mark) in
    let p = ap length a.numbers_are in
    let q = length-append numbers a.added in
    (omega (arith, c, m, k, l), omega (arith, c, p, q))
