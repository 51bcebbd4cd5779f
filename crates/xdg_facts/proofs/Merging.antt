-- Rising lists of numbers: which are the same, and two of them put together, number by number.
use Rattle.std.proofs.Common.{List, ℕ, ◌≤◌, ◌+◌, [], ◌∷◌, arith, get_or, suc, ap, ◌≡◌, subst, ◌<◌, zero, sym, refl, ◌∙◌, inl, inr, ◌⊎◌, ◌++◌, drop, length, ap₂, map}
use Rattle.std.specs.Prelude.{false, ◌||◌, Bool, true, nat_lt, ◌&&◌, ◌==◌, Contains, filter}
use Rattle.std.proofs.lemmas.Bool.{ne_eqb, le-ltb, lt-ltb, cases_lt, cases_eq, eq-eqb, true≢false, cond_both}
use Rattle.std.proofs.lemmas.List.{append-nil, drop_all}
use Rattle.std.specs.List.{AllByRecursion}
use Rattle.std.specs.List.Sorted.{IsStrictlyIncreasing}
use Rattle.xdg_facts.proofs.Contained.{contains_none, contains_cases, contains_head}
use Rattle.xdg_facts.proofs.Each.{each_contained, each_weaker, each_both, each_map}
use Rattle.xdg_facts.proofs.InOrder.{Ordered}
use Rattle.xdg_facts.proofs.Lists.{contains_more}
use Rattle.xdg_facts.proofs.Rising.{rises_of, rises_sooner}
use Rattle.xdg_facts.proofs.Truths.{and_false, and_swap, or_true, or_false, or_assoc}
use Rattle.xdg_facts.specs.Rises.{has, Rises, numbers_below}

-- the list rises strictly, from low on
abbrev pub RisesFrom : ℕ → List ℕ → Type 0
RisesFrom low [] = Unit {0}
RisesFrom low (n ∷ s) = (low ≤ n) × RisesFrom (n + 1) s

pub rises_weaker : (sooner low : ℕ) (s : List ℕ) → sooner ≤ low → RisesFrom low s → RisesFrom sooner s
rises_weaker sooner low [] order r = tt
rises_weaker sooner low (n ∷ s) order (a, b) = (omega (arith, order, a), b)

-- one place further on
step_in : (x : ℕ) (s : List ℕ) (k : ℕ) → get_or (x ∷ s) (suc k + 1) 0 ≡ get_or s (k + 1) 0
step_in x s k = let e : suc k + 1 ≡ suc (k + 1) = omega arith in ap (λ z. get_or (x ∷ s) z 0) e

from_increasing : (low x : ℕ) (s : List ℕ) → low ≤ x → IsStrictlyIncreasing (x ∷ s) → RisesFrom low (x ∷ s)
from_increasing low x [] above rising = (above, tt)
from_increasing low x (y ∷ s) above rising =
    let step : x < y = rising 0 (omega arith) in
    (above, from_increasing (x + 1) y s (omega (arith, step)) (λ k h. subst (λ z. get_or (y ∷ s) k 0 < z) (step_in x (y ∷ s) k) (rising (suc k) (omega (arith, h)))))

pub rises_of_increasing : (s : List ℕ) → IsStrictlyIncreasing s → RisesFrom 0 s
rises_of_increasing [] rising = tt
rises_of_increasing (x ∷ s) rising = from_increasing 0 x s (omega arith) rising

pub increasing_of_rises : (low : ℕ) (s : List ℕ) → RisesFrom low s → IsStrictlyIncreasing s
increasing_of_rises low (x ∷ y ∷ s) (a, (b, c)) zero h = omega (arith, b)
increasing_of_rises low (x ∷ y ∷ s) (a, rest) (suc k) h = subst (λ z. get_or (y ∷ s) k 0 < z) (sym (step_in x (y ∷ s) k)) (increasing_of_rises (x + 1) (y ∷ s) rest k (omega (arith, h)))
increasing_of_rises low s r k h = absurd (omega (arith, h))

pub absent : (low n : ℕ) (s : List ℕ) → n < low → RisesFrom low s → has s n ≡ false
absent low n [] below r = refl
absent low n (m ∷ s) below (a, b) = ap (λ t. t || has s n) (ne_eqb m n (λ e. omega (arith, e, a, below))) ∙ absent (m + 1) n s (omega (arith, a, below)) b

abbrev pub chosen : {A : Type 0} → Bool → Bool → A → A → A → A
chosen less more a b c = elim less [ true ↦ a | false ↦ elim more [ true ↦ b | false ↦ c ] ]

pub by_order : {A : Type 0} (P : A → Type 0) (x y : ℕ) (a b c : A) → (x < y → P a) → (y < x → P b) → (x ≡ y → P c) → P (chosen (nat_lt x y) (nat_lt y x) a b c)
by_order P x y a b c less more same = elim (cases_lt x y) [
  | inl h ↦ subst (λ t. P (chosen t (nat_lt y x) a b c)) (sym (lt-ltb x y h)) (less h)
  | inr h ↦ subst (λ t. P (chosen t (nat_lt y x) a b c)) (sym (le-ltb x y h)) (elim (cases_lt y x) [
    | inl k ↦ subst (λ t. P (elim t [ true ↦ b | false ↦ c ])) (sym (lt-ltb y x k)) (more k)
    | inr k ↦ subst (λ t. P (elim t [ true ↦ b | false ↦ c ])) (sym (le-ltb y x k)) (same (omega (arith, h, k)))
  ])
]

-- a number that stands in one list alone, before others: of either list it is one, of both it isn't
abbrev pub kept : Bool → ℕ → List ℕ → List ℕ
kept true x s = x ∷ s
kept false x s = s

-- what is left of one list, where nothing is left of the other
abbrev pub left_over : Bool → List ℕ → List ℕ
left_over true s = s
left_over false s = []

-- x before a, and another list, in their order; `rest` is what a and a list make together
abbrev pub together_from : Bool → ℕ → List ℕ → (List ℕ → List ℕ) → List ℕ → List ℕ
together_from either x a rest [] = left_over either (x ∷ a)
together_from either x a rest (y ∷ b) = elim (nat_lt x y) [
  | true ↦ kept either x (rest (y ∷ b))
  | false ↦ elim (nat_lt y x) [ true ↦ kept either y (together_from either x a rest b) | false ↦ x ∷ rest b ]
]

-- the numbers of either of two rising lists, or of both, in their order
abbrev pub together : Bool → List ℕ → List ℕ → List ℕ
together either [] b = left_over either b
together either (x ∷ a) b = together_from either x a (together either a) b

-- a number stands in either, or in both
abbrev pub stands : Bool → Bool → Bool → Bool
stands true s t = s || t
stands false s t = s && t

pass_first : (x n : ℕ) (a b : Bool) → (x ≡ n → b ≡ false) → (a && b) ≡ (((x == n) || a) && b)
pass_first x n a b none = elim (cases_eq x n) [
  | inl e ↦ ap (λ z. a && z) (none e) ∙ and_false a ∙ sym (ap (λ z. ((x == n) || a) && z) (none e) ∙ and_false ((x == n) || a))
  | inr other ↦ sym (ap (λ z. (z || a) && b) (ne_eqb x n other))
]

pub swapped : (either a b : Bool) → stands either a b ≡ stands either b a
swapped true true b = sym (or_true b)
swapped true false b = sym (or_false b)
swapped false a b = and_swap a b

first_kept : (either : Bool) (x n : ℕ) (a b : Bool) (s : List ℕ) → has s n ≡ stands either a b → (x ≡ n → b ≡ false) → has (kept either x s) n ≡ stands either ((x == n) || a) b
first_kept true x n a b s is none = ap (λ z. (x == n) || z) is ∙ sym (or_assoc (x == n) a b)
first_kept false x n a b s is none = is ∙ pass_first x n a b none

both_stand : (either b c d : Bool) → (b || stands either c d) ≡ stands either (b || c) (b || d)
both_stand true true c d = refl
both_stand true false c d = refl
both_stand false true c d = refl
both_stand false false c d = refl

kept_rises : (either : Bool) (low x : ℕ) (s : List ℕ) → low ≤ x → RisesFrom (x + 1) s → RisesFrom low (kept either x s)
kept_rises true low x s above r = (above, r)
kept_rises false low x s above r = rises_weaker low (x + 1) s (omega (arith, above)) r

-- the list rises from low on, and these stand in it
abbrev pub Are : Bool → ℕ → List ℕ → List ℕ → List ℕ → Type 0
Are either low a b c = RisesFrom low c × ((n : ℕ) → has c n ≡ stands either (has a n) (has b n))

from_are : (either : Bool) (x : ℕ) (a : List ℕ) → RisesFrom (x + 1) a → ((b : List ℕ) → RisesFrom (x + 1) b → Are either (x + 1) a b (together either a b))
    → (low : ℕ) (b : List ℕ) → low ≤ x → RisesFrom low b → Are either low (x ∷ a) b (together either (x ∷ a) b)
from_are true x a r rest low [] h k = ((h, r), λ n. sym (or_false (has (x ∷ a) n)))
from_are false x a r rest low [] h k = (tt, λ n. sym (and_false (has (x ∷ a) n)))
from_are either x a r rest low (y ∷ b) h k = by_order (Are either low (x ∷ a) (y ∷ b)) x y _ _ _
    (λ less. let t = rest (y ∷ b) (omega (arith, less), k.1) in (
      kept_rises either low x (together either a (y ∷ b)) h t.0,
      λ n. first_kept either x n (has a n) (has (y ∷ b) n) _ (t.1 n) (λ e. absent y n (y ∷ b) (omega (arith, e, less)) (omega arith, k.1)),
    ))
    (λ more. let t = from_are either x a r rest (y + 1) b (omega (arith, more)) k.1 in (
      kept_rises either low y (together either (x ∷ a) b) k.0 t.0,
      λ n. first_kept either y n (has b n) (has (x ∷ a) n) _ (t.1 n ∙ swapped either (has (x ∷ a) n) (has b n)) (λ e. absent x n (x ∷ a) (omega (arith, e, more)) (omega arith, r))
          ∙ swapped either (has (y ∷ b) n) (has (x ∷ a) n),
    ))
    (λ same. let t = rest b (subst (λ z. RisesFrom (z + 1) b) (sym same) k.1) in (
      (h, t.0),
      λ n. ap (λ z. (x == n) || z) (t.1 n) ∙ both_stand either (x == n) (has a n) (has b n) ∙ ap (λ z. stands either (has (x ∷ a) n) ((z == n) || has b n)) same,
    ))

together_are : (either : Bool) (low : ℕ) (a b : List ℕ) → RisesFrom low a → RisesFrom low b → Are either low a b (together either a b)
together_are true low [] b h k = (k, λ n. refl)
together_are false low [] b h k = (tt, λ n. refl)
together_are either low (x ∷ a) b h k = from_are either x a h.1 (λ c r. together_are either (x + 1) a c h.1 r) low b h.0 k

pub together_is : (either : Bool) (a b c : List ℕ) → IsStrictlyIncreasing a → IsStrictlyIncreasing b → c ≡ together either a b → IsStrictlyIncreasing c × ((n : ℕ) → has c n ≡ stands either (has a n) (has b n))
together_is either a b c h k is =
    let t = together_are either 0 a b (rises_of_increasing a h) (rises_of_increasing b k) in
    rw is (increasing_of_rises 0 (together either a b) t.0, t.1)

one_left : (either : Bool) (rest more : List ℕ) → (rest ≡ []) ⊎ (more ≡ []) → left_over either (rest ++ more) ≡ together either rest more
one_left either [] more h = refl
one_left either (x ∷ rest) [] h = ap (left_over either) (append-nil (x ∷ rest))
one_left either (x ∷ rest) (y ∷ more) h = absurd (elim h [ inl e ↦ cc | inr e ↦ cc ])

-- what is made, with what is left where nothing is left of one list
pub ended : (either : Bool) (xs ys made : List ℕ) (i j : ℕ) → (length xs ≤ i) ⊎ (length ys ≤ j) → made ++ together either (drop i xs) (drop j ys) ≡ together either xs ys
    → made ++ left_over either (drop i xs ++ drop j ys) ≡ together either xs ys
ended either xs ys made i j h is = ap (λ s. made ++ s) (one_left either (drop i xs) (drop j ys) (elim h [ inl k ↦ inl (drop_all i xs k) | inr k ↦ inr (drop_all j ys k) ])) ∙ is

pub has_head : (x : ℕ) (s : List ℕ) (n : ℕ) → x ≡ n → has (x ∷ s) n ≡ true
has_head x s n is = ap (λ t. t || has s n) (eq-eqb x n is)

pub has_after : (x : ℕ) (s : List ℕ) (n : ℕ) → (x ≡ n → ⊥) → has (x ∷ s) n ≡ has s n
has_after x s n other = ap (λ t. t || has s n) (ne_eqb x n other)

pub members_same : (low : ℕ) (a b : List ℕ) → RisesFrom low a → RisesFrom low b → ((n : ℕ) → has a n ≡ has b n) → a ≡ b
members_same low [] [] h k same = refl
members_same low [] (y ∷ b) h k same = absurd (true≢false (sym (has_head y b y refl) ∙ sym (same y)))
members_same low (x ∷ a) [] h k same = absurd (true≢false (sym (has_head x a x refl) ∙ same x))
members_same low (x ∷ a) (y ∷ b) h k same = elim (cases_eq x y) [
  | inl i ↦ ap₂ (λ n s. n ∷ s) i (members_same (x + 1) a b h.1 (subst (λ n. RisesFrom (n + 1) b) (sym i) k.1) (λ n. elim (cases_eq x n) [
    | inl j ↦ absent (x + 1) n a (omega (arith, j)) h.1 ∙ sym (absent (y + 1) n b (omega (arith, i, j)) k.1)
    | inr other ↦ sym (has_after x a n other) ∙ same n ∙ has_after y b n (λ j. other (i ∙ j))
  ]))
  | inr other ↦ elim (cases_lt x y) [
    | inl less ↦ absurd (true≢false (sym (has_head x a x refl) ∙ same x ∙ absent y x (y ∷ b) less (omega arith, k.1)))
    | inr more ↦ absurd (true≢false (sym (has_head y b y refl) ∙ sym (same y) ∙ absent x y (x ∷ a) (omega (arith, more, other)) (omega arith, h.1)))
  ]
]

pub increasing_same : (a b : List ℕ) → IsStrictlyIncreasing a → IsStrictlyIncreasing b → ((n : ℕ) → has a n ≡ has b n) → a ≡ b
increasing_same a b h k same = members_same 0 a b (rises_of_increasing a h) (rises_of_increasing b k) same

pub from_rises : (low bound : ℕ) (s : List ℕ) → Rises low bound s → RisesFrom low s
from_rises low bound [] r = tt
from_rises low bound (n ∷ s) r = (r.0, from_rises (n + 1) bound s r.2)

pub numbers_increase : (bound : ℕ) (p : ℕ → Bool) → IsStrictlyIncreasing (numbers_below bound p)
numbers_increase bound p = increasing_of_rises 0 (numbers_below bound p) (from_rises 0 bound (numbers_below bound p) (rises_of bound p))

abbrev pub AreRising : List ℕ → Type 0
AreRising xs = Ordered (λ a b. a < b) xs

-- rising lists of the same numbers are the same
pub rising_same : (s t : List ℕ) → AreRising s → AreRising t → ((n : ℕ) → Contains s n → Contains t n) → ((n : ℕ) → Contains t n → Contains s n) → s ≡ t
rising_same [] [] so to there back = refl
rising_same [] (y ∷ t) so to there back = absurd (contains_none y (back y (contains_head y t)))
rising_same (x ∷ s) [] so to there back = absurd (contains_none x (there x (contains_head x s)))
rising_same (x ∷ s) (y ∷ t) so to there back = ap₂ (λ n ns. n ∷ ns) same (rising_same s t so.1 to.1 (rest x y s t same so.0 there) (rest y x t s (sym same) to.0 back))
  where
    first : (x y : ℕ) (s t : List ℕ) → AllByRecursion (λ m. y < m) t → Contains (y ∷ t) x → y ≤ x
    first x y s t above c = elim (contains_cases y t x c) [ inl e ↦ omega (arith, e) | inr later ↦ (let l = each_contained (λ m. y < m) t x above later in omega (arith, l)) ]

    same : x ≡ y
    same = (let l = first x y s t to.0 (there x (contains_head x s)) in let m = first y x t s so.0 (back y (contains_head y t)) in omega (arith, l, m))

    rest : (x y : ℕ) (s t : List ℕ) → x ≡ y → AllByRecursion (λ m. x < m) s → ((n : ℕ) → Contains (x ∷ s) n → Contains (y ∷ t) n) → (n : ℕ) → Contains s n → Contains t n
    rest x y s t e above within n c = elim (contains_cases y t n (within n (contains_more x s n c))) [
      | inl f ↦ absurd (let l = each_contained (λ m. x < m) s n above c in omega (arith, l, e, f))
      | inr later ↦ later
    ]

rises_from : (low bound : ℕ) (s : List ℕ) → Rises low bound s → AllByRecursion (λ n. low ≤ n) s
rises_from low bound [] r = tt
rises_from low bound (n ∷ s) r = (r.0, each_weaker (λ m. n + 1 ≤ m) (λ m. low ≤ m) s (λ m l. (let k = r.0 in omega (arith, l, k))) (rises_from (n + 1) bound s r.2))

pub rises_ordered : (low bound : ℕ) (s : List ℕ) → Rises low bound s → AreRising s
rises_ordered low bound [] r = tt
rises_ordered low bound (n ∷ s) r = (each_weaker (λ m. n + 1 ≤ m) (λ m. n < m) s (λ m l. omega (arith, l)) (rises_from (n + 1) bound s r.2), rises_ordered (n + 1) bound s r.2)

-- where a later element has a greater number
pub map_rising : {X : Type 0} (R : X → X → Type 0) (P : X → Type 0) (f : X → ℕ) → ((x y : X) → P x → P y → R x y → f x < f y) → (xs : List X) → AllByRecursion P xs → Ordered R xs → AreRising (map f xs)
map_rising R P f more [] all ordered = tt
map_rising R P f more (x ∷ xs) all ordered = (
  each_map (λ n. f x < n) f xs (each_weaker (λ y. P y × R x y) (λ y. f x < f y) xs (λ y both. more x y all.0 both.0 both.1) (each_both P (R x) xs all.1 ordered.0)),
  map_rising R P f more xs all.1 ordered.1,
)

pub filter_rises : (p : ℕ → Bool) (low bound : ℕ) (s : List ℕ) → Rises low bound s → Rises low bound (filter p s)
filter_rises p low bound [] r = tt
filter_rises p low bound (x ∷ s) r =
    let rest = filter_rises p (x + 1) bound s r.2 in
    cond_both (p x) (x ∷ filter p s) (filter p s) (λ l. Rises low bound l) (λ t. (r.0, r.1, rest)) (λ t. rises_sooner low (x + 1) bound (filter p s) (omega (arith, r.0)) rest)

-- what stands in a list and passes the test
pub has_filter : (p : ℕ → Bool) (s : List ℕ) (n : ℕ) → has (filter p s) n ≡ (has s n && p n)
has_filter p [] n = refl
has_filter p (x ∷ s) n = elim (cases_eq x n) [
  | inl i ↦ cond_both (p x) (x ∷ filter p s) (filter p s) (λ l. has l n ≡ (has (x ∷ s) n && p n))
      (λ t. has_head x (filter p s) n i ∙ sym (ap₂ (λ y z. y && z) (has_head x s n i) (ap p (sym i) ∙ t)))
      (λ t. has_filter p s n ∙ ap (λ y. has s n && y) (ap p (sym i) ∙ t) ∙ and_false (has s n) ∙ sym (ap₂ (λ y z. y && z) (has_head x s n i) (ap p (sym i) ∙ t)))
  | inr other ↦ cond_both (p x) (x ∷ filter p s) (filter p s) (λ l. has l n ≡ (has (x ∷ s) n && p n))
      (λ t. has_after x (filter p s) n other ∙ has_filter p s n ∙ ap (λ y. y && p n) (sym (has_after x s n other)))
      (λ t. has_filter p s n ∙ ap (λ y. y && p n) (sym (has_after x s n other)))
]
