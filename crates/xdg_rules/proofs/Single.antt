-- The box of a vector's values: it is a box that agrees with the vector, and it lies in each box in which the vector lies.
use Rattle.std.proofs.Common.{◌≡◌, ℕ, ◌+◌, ◌<◌, ◌↔◌, zero, suc, Bool, true, false, List, [], ◌∷◌, length, map, refl, sym, ap₂, ◌∙◌, arith, subst}
use Rattle.std.specs.Prelude.{slice_index, slice_index_or, ◌==◌}
use Rattle.std.proofs.lemmas.Bool.{eq-eqb, eqb-true, false≢true}
use Rattle.std.proofs.lemmas.List.{length-map, get_or-replicate}
use Rattle.xdg_facts.specs.Fits.{Fits}
use Rattle.xdg_problem.specs.Places.{numbers_from, below}
use Rattle.xdg_problem.proofs.Ordered.{numbers_length}
use Rattle.xdg_problem.specs.Boxes.{full, Has, IsBox, IsSingle, LiesIn, IsIn, Agrees}
use Rattle.xdg_rules.specs.Boxed.{one_value, only, first_numbers}
use Rattle.xdg_rules.specs.Rules.{first_true}
use Rattle.xdg_rules.proofs.Failing.{first_only}
use Rattle.xdg_rules.proofs.Sizes.{within_sizes}
use Rattle.xdg_facts.proofs.Fitting.{fits_length}
use Rattle.xdg_facts.proofs.Lists.{true_within}

-- the flag at k is that of the number k behind the first
pub flag_from : (test : ℕ → Bool) (first count k : ℕ) → slice_index_or (map test (numbers_from first count)) k false ≡ true → test (first + k) ≡ true
flag_from test first zero k flag = absurd (false≢true flag)
flag_from test first (suc count) zero flag = subst (λ n. test n ≡ true) (omega arith) flag
flag_from test first (suc count) (suc k) flag = subst (λ n. test n ≡ true) (omega arith) (flag_from test (suc first) count k flag)

pub from_flag : (test : ℕ → Bool) (first count k : ℕ) → k < count → test (first + k) ≡ true → slice_index_or (map test (numbers_from first count)) k false ≡ true
from_flag test first zero k l passes = absurd (omega (arith, l))
from_flag test first (suc count) zero l passes = subst (λ n. test n ≡ true) (omega arith) passes
from_flag test first (suc count) (suc k) l passes = from_flag test (suc first) count k (omega (arith, l)) (subst (λ n. test n ≡ true) (omega arith) passes)

one_value_is : (size x : ℕ) → x < size → (v : ℕ) → (slice_index_or (one_value size x) v false ≡ true) ↔ (v ≡ x)
one_value_is size x l v = (
  λ flag. (let e = eqb-true (0 + v) x (flag_from (λ k. k == x) 0 size v flag) in omega (arith, e)),
  λ e. from_flag (λ k. k == x) 0 size v (omega (arith, l, e)) (eq-eqb (0 + v) x (omega (arith, e))),
)

pub only_agrees : (sizes x : List ℕ) → Fits sizes x → Agrees (only sizes x) x
only_agrees sizes [] fits = tt
only_agrees [] (a ∷ x) fits = absurd fits
only_agrees (size ∷ sizes) (a ∷ x) fits = (one_value_is size a fits.0, only_agrees sizes x fits.1)

one_value_length : (size x : ℕ) → length (one_value size x) ≡ size
one_value_length size x = length-map (below size) (λ v. v == x) ∙ numbers_length 0 size

only_sizes : (sizes x : List ℕ) → length x ≡ length sizes → map length (only sizes x) ≡ sizes
only_sizes [] [] whole = refl
only_sizes (size ∷ sizes) (a ∷ x) whole = ap₂ (λ n ns. n ∷ ns) (one_value_length size a) (only_sizes sizes x (omega (arith, whole)))
only_sizes sizes x whole = absurd (omega (arith, whole))

-- the box of a whole vector has the vector's number for each decision
only_has : (sizes x : List ℕ) → Fits sizes x → (d : ℕ) → d < length x → Has (only sizes x) d (slice_index x d)
only_has sizes [] fits d l = absurd (omega (arith, l))
only_has [] (a ∷ x) fits d l = absurd fits
only_has (size ∷ sizes) (a ∷ x) fits zero l = (one_value_is size a fits.0 a).1 refl
only_has (size ∷ sizes) (a ∷ x) fits (suc d) l = only_has sizes x fits.1 d (omega (arith, l))

pub only_box : (sizes x : List ℕ) → Fits sizes x → length x ≡ length sizes → IsBox sizes (only sizes x)
only_box sizes x fits whole = record {
  sizes = only_sizes sizes x whole;
  filled = λ d l. (slice_index x d, only_has sizes x fits d (omega (arith, l, whole)));
}

-- where the vector lies in a box, its own box lies there too
pub only_lies : (sizes x : List ℕ) (box : List (List Bool)) → Fits sizes x → length x ≡ length sizes → IsIn box x → LiesIn (only sizes x) box
only_lies [] [] box fits whole lies d v has = absurd (false≢true has)
only_lies (size ∷ sizes) (a ∷ x) (row ∷ box) fits whole lies zero v has = subst (λ k. slice_index_or row k false ≡ true) (sym ((one_value_is size a fits.0 v).0 has)) lies.0
only_lies (size ∷ sizes) (a ∷ x) (row ∷ box) fits whole lies (suc d) v has = only_lies sizes x box fits.1 (omega (arith, whole)) lies.1 d v has
only_lies sizes x box fits whole lies d v has = absurd (grind arith)

-- a vector lies in a box that agrees with it
pub agrees_in : (box : List (List Bool)) (x : List ℕ) → length box ≡ length x → Agrees box x → IsIn box x
agrees_in [] [] same agrees = tt
agrees_in (row ∷ box) (a ∷ x) same agrees = ((agrees.0 a).1 refl, agrees_in box x (omega (arith, same)) agrees.1)
agrees_in box x same agrees = absurd (omega (arith, same))

-- what a box of all values has
full_has : (sizes : List ℕ) (d v : ℕ) → v < slice_index sizes d → Has (full sizes) d v
full_has [] d v l = absurd (omega (arith, l))
full_has (size ∷ sizes) zero v l = get_or-replicate size v true false l
full_has (size ∷ sizes) (suc d) v l = full_has sizes d v l

-- a box that agrees with a prefix lies in the box of the prefix
agreeing_lies : (box : List (List Bool)) (p : List ℕ) → Agrees box p → LiesIn box (only (map length box) p)
agreeing_lies box [] agrees d v has = full_has (map length box) d v (within_sizes box d v has)
agreeing_lies [] (x ∷ p) agrees d v has = absurd agrees
agreeing_lies (row ∷ box) (x ∷ p) agrees zero v has = (one_value_is (length row) x (true_within row x ((agrees.0 x).1 refl)) v).1 ((agrees.0 v).0 has)
agreeing_lies (row ∷ box) (x ∷ p) agrees (suc d) v has = agreeing_lies box p agrees.1 d v has

pub agrees_lies : (sizes : List ℕ) (box : List (List Bool)) (p : List ℕ) → IsBox sizes box → Agrees box p → LiesIn box (only sizes p)
agrees_lies sizes box p is agrees = subst (λ ns. LiesIn box (only ns p)) is.sizes (agreeing_lies box p agrees)

-- and a box that lies there agrees with the prefix, if it has a value for each decision
lying_agrees : (sizes p : List ℕ) (box : List (List Bool)) → Fits sizes p → ((d : ℕ) → d < length p → (v : ℕ) × Has box d v) → LiesIn box (only sizes p) → Agrees box p
lying_agrees sizes [] box fits filled lies = tt
lying_agrees [] (x ∷ p) box fits filled lies = absurd fits
lying_agrees (size ∷ sizes) (x ∷ p) [] fits filled lies = absurd (false≢true (filled 0 (omega arith)).1)
lying_agrees (size ∷ sizes) (x ∷ p) (row ∷ box) fits filled lies =
    let some = filled 0 (omega arith) in
    let value : (v : ℕ) → slice_index_or row v false ≡ true → v ≡ x = λ v flag. (one_value_is size x fits.0 v).0 (lies 0 v flag) in (
      λ v. (value v, λ e. subst (λ k. slice_index_or row k false ≡ true) (value some.0 some.1 ∙ sym e) some.1),
      lying_agrees sizes p box fits.1 (λ d l. filled (suc d) (omega (arith, l))) (λ d v has. lies (suc d) v has),
    )

pub lies_agrees : (sizes p : List ℕ) (box : List (List Bool)) → Fits sizes p → IsBox sizes box → LiesIn box (only sizes p) → Agrees box p
lies_agrees sizes p box fits is lies = lying_agrees sizes p box fits (λ d l. is.filled d (let short = fits_length sizes p fits in omega (arith, l, short))) lies

-- a box of single values agrees with them
pub single_agrees : (box : List (List Bool)) → ((d : ℕ) → d < length box → (v : ℕ) × Has box d v) → IsSingle box → Agrees box (first_numbers box)
single_agrees [] filled single = tt
single_agrees (row ∷ box) filled single =
    let some = filled 0 (omega arith) in
    let first : first_true row ≡ some.0 = first_only row some.0 some.1 (λ x flag. single 0 some.0 x some.1 flag) in (
      λ v. (λ flag. single 0 some.0 v some.1 flag ∙ sym first, λ e. subst (λ k. slice_index_or row k false ≡ true) (sym (e ∙ first)) some.1),
      single_agrees box (λ d l. filled (suc d) (omega (arith, l))) (λ d v x here there. single (suc d) v x here there),
    )
