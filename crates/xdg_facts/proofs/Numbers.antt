-- Numbers.
use Rattle.std.proofs.Common.{ℕ, ◌+◌, ◌<◌, inl, inr, sym, subst, arith, ◌≡◌, ◌⊎◌, min, zero, suc, replicate, refl, ◌≤◌, ◌*◌, [], ◌∷◌, Contains, lit<, ap, ◌/◌, ◌%◌, ◌∙◌, ◌-◌, List, length, ◌↔◌, cond, Bool, true}
use Rattle.std.proofs.lemmas.Bool.{cases_eq, eqb-false, eqb-true, false≢true}
use Rattle.std.specs.Prelude.{false, ◌==◌, slice_index}
use Prim.Native.Nat.{max}
use Rattle.std.proofs.Math.Nat.{mul-add-div_right, mul-add-mod_self_right, mul-lt-mul_of_pos_left}
use Rattle.std.proofs.lemmas.Nat.{mod-mul-add, div-mul-add, div-add-mod'}
use Rattle.xdg_facts.proofs.Lists.{empty_list}

pub all_next : (Q : ℕ → Type 0) (i : ℕ) → ((k : ℕ) → k < i → Q k) → Q i → (k : ℕ) → k < i + 1 → Q k
all_next Q i h q k l = elim (cases_eq k i) [ inl e ↦ subst Q (sym e) q | inr ne ↦ h k (omega (arith, l, ne)) ]

pub zero_below_one : (q : ℕ) → q < 1 → q ≡ 0
zero_below_one q within = omega (arith, within)

pub unset : (q : ℕ) → q < 2 → (q == 1) ≡ false → q ≡ 0
unset q within clear = let other = eqb-false q 1 clear in omega (arith, within, other)

pub below_two : (x : ℕ) → x < 2 → (x ≡ 0) ⊎ (x ≡ 1)
below_two x within = elim (cases_eq x 0) [ inl e ↦ inl e | inr other ↦ inr (omega (arith, within, other)) ]

pub below_one : (a most : ℕ) → min (min a most + 1) most ≡ min (1 + a) most
below_one a most = omega arith

pub zeros : (count name : ℕ) → slice_index (replicate count 0) name ≡ 0
zeros zero name = refl
zeros (suc count) zero = refl
zeros (suc count) (suc name) = zeros count name

pub doubled_only : (q p : ℕ) → q * (p * 2) ≡ (q * 2 + 0) * p
doubled_only q p = grind arith

pub alone : (so_far most : ℕ) → so_far ≤ most → so_far ≡ min (so_far * 1) most
alone so_far most within = omega (arith, within)

pub doubled : (q p : ℕ) → p + q * (p * 2) ≡ (q * 2 + 1) * p
doubled q p = grind arith

pub some_after : (s m n : ℕ) → n < s * m → 0 < m
some_after s zero n below = absurd (omega (arith, below))
some_after s (suc m) n below = omega arith

pub grown : (a b most : ℕ) → most ≤ a → most ≤ a * suc b
grown a b most beyond = omega (arith, beyond)

pub has_first : Contains {X = ℕ} (0 ∷ []) 0
has_first = (0, lit< tt, refl)

pub max_zero : (x : ℕ) → max x 0 ≡ x
max_zero x = omega arith

pub zero_max : (x : ℕ) → max 0 x ≡ x
zero_max x = omega arith

-- what is below the next number is below this one, or is this one
pub up_to : (k n : ℕ) → n < k + 1 → (n < k) ⊎ (n ≡ k)
up_to k n less = elim (cases_eq n k) [ inl same ↦ inr same | inr other ↦ inl (omega (arith, less, other)) ]

pub less_all : (Q : ℕ → Type 0) (i n : ℕ) → ((k : ℕ) → k < i → Q k) → n ≤ i → (k : ℕ) → k < n → Q k
less_all Q i n h le k l = h k (omega (arith, l, le))

-- of two places in a table of rows that are the same the rows are the same, and the places in them
pub row_and_column : (m a n b w : ℕ) → a < w → b < w → m * w + a ≡ n * w + b → (m ≡ n) × (a ≡ b)
row_and_column m a n b w l k e = (sym (div-mul-add m w a l) ∙ ap (λ i. i / w) e ∙ div-mul-add n w b k, sym (mod-mul-add m w a l) ∙ ap (λ i. i % w) e ∙ mod-mul-add n w b k)

pub same_row : (m a n b w : ℕ) → a < w → b < w → m * w + a ≡ n * w + b → m ≡ n
same_row m a n b w l k e = (row_and_column m a n b w l k e).0

pub not_more : (m n : ℕ) → (m < n → ⊥) → n ≤ m
not_more m n h = omega arith

pub fewer : (k m n a b : ℕ) → k < m → a ≤ n → k * (1 + n) + a < m * (1 + n) + b
fewer k m n a b h l = grind arith

pub scaled : (k m n : ℕ) → k ≤ m → k * n ≤ m * n
scaled k m n h = grind arith

pub counted_back : (n k : ℕ) → k < n → n - 1 - (n - 1 - k) ≡ k
counted_back n k within = omega (arith, within)

regroup : (q a t r : ℕ) → q * (a * (t * r)) ≡ q * a * t * r
regroup q a t r = grind arith

pub some_factor : (a t r : ℕ) → 0 < a * (t * r) → 0 < r
some_factor a t zero some = absurd (omega (arith, some))
some_factor a t (suc r) some = omega arith

pub lowest : (n p a t r : ℕ) → 0 < r → p ≡ a * (t * r) → n % p / r % t ≡ n / r % t
lowest n p a t r some is =
    let e : n ≡ n / p * a * t * r + n % p = sym (div-add-mod' n p) ∙ ap (λ m. n / p * m + n % p) is ∙ ap (λ m. m + n % p) (regroup (n / p) a t r) in
    let f : n / r ≡ n / p * a * t + n % p / r = ap (λ m. m / r) e ∙ mul-add-div_right {m = r} some (n / p * a * t) (n % p) in
    sym (ap (λ m. m % t) f ∙ mul-add-mod_self_right (n / p * a) t (n % p / r))

pub both_positive : (m n : ℕ) → 0 < m → 0 < n → 0 < m * n
both_positive m n h k = omega (arith, mul-lt-mul_of_pos_left {m = 0} {n = n} {k = m} k h)

pub is_none : (n : ℕ) (test : Bool) → test ≡ (n == 0) → test ≡ true → n ≡ 0
is_none n test tells is = eqb-true n 0 (sym tells ∙ is)

pub is_some : (n : ℕ) (test : Bool) → test ≡ (n == 0) → test ≡ false → 0 < n
is_some n test tells is = (let other = eqb-false n 0 (sym tells ∙ is) in omega (arith, other))

pub left_after : (n k w r s : ℕ) → r ≡ (n - k) * w → k < n → s + w ≡ r → s ≡ (n - (k + 1)) * w
left_after n k w r s e l t =
    let q : n - k ≡ suc (n - (k + 1)) = omega arith in
    let p : r ≡ suc (n - (k + 1)) * w = subst (λ i. r ≡ i * w) q e in
    let m : suc (n - (k + 1)) * w ≡ w + (n - (k + 1)) * w = grind arith in
    omega (arith, p, m, t)

pub wide_enough : (n k w r : ℕ) → r ≡ (n - k) * w → k < n → w ≤ r
wide_enough n k w r e l =
    let q : n - k ≡ suc (n - (k + 1)) = omega arith in
    let p : r ≡ suc (n - (k + 1)) * w = subst (λ i. r ≡ i * w) q e in
    let m : suc (n - (k + 1)) * w ≡ w + (n - (k + 1)) * w = grind arith in
    omega (arith, p, m)

-- where there is room, no bytes are given exactly where none are left
pub ends_exactly : (cut room count : ℕ) (left : List ℕ) → 0 < cut → 0 < room → count ≡ min cut (min room (length left)) → (count ≡ 0) ↔ (left ≡ [])
ends_exactly cut room count left some_cut some_room is =
    (λ none. empty_list left (omega (arith, none, is, some_cut, some_room)), λ none. omega (arith, is, ap (λ z. length z) none))

-- as many as there is room for, at most as many as there are
pub at_most : (room there count : ℕ) → count ≡ min room (min room there) → count ≡ min room there
at_most room there count is = omega (arith, is)

pub same_rest : (first one other : ℕ) → first + one ≡ first + other → one ≡ other
same_rest first one other e = omega arith

pub same_size : (one other : ℕ) → suc one ≡ suc other → one ≡ other
same_size one other e = omega arith

pub all_some : (a s r n : ℕ) → n < a * (s * r) → (0 < s) × (0 < r) × (r ≤ a * (s * r))
all_some (suc a) (suc s) (suc r) n below = (omega arith, omega arith, omega arith)
all_some a s r n below = absurd (omega (arith, below))

pub digits_more : (a s n p r t : ℕ) → 0 < p → a * (s * p) + (n * p + r) ≡ t → (a * s + n ≤ t) × ((a * s + n) * p + r ≡ t)
digits_more a s n zero r t some is = absurd (omega (arith, some))
digits_more a s n (suc p) r t some is = (omega (arith, is), omega (arith, is))

pub cond_most : (b : Bool) (n : ℕ) → n ≤ 32 → cond b n 0 ≤ 32
cond_most true n few = few
cond_most false n few = omega arith

pub cond_labels : (b : Bool) (n k : ℕ) → k < cond b n 0 → (b ≡ true) × (k < n)
cond_labels true n k l = (refl, l)
cond_labels false n k l = absurd (omega (arith, l))

pub labels_cond : (b : Bool) (n k : ℕ) → b ≡ true → k < n → k < cond b n 0
labels_cond true n k e l = l
labels_cond false n k e l = absurd (false≢true e)

-- two names are bound in either order
pub cond_swapped : (at_other at_name : Bool) (node v rest : ℕ) → (at_other ≡ true → at_name ≡ true → ⊥) → cond at_other node (cond at_name v rest) ≡ cond at_name v (cond at_other node rest)
cond_swapped true true node v rest differ = absurd (differ refl refl)
cond_swapped true false node v rest differ = refl
cond_swapped false true node v rest differ = refl
cond_swapped false false node v rest differ = refl

-- a name that is bound cond_again
pub cond_again : (same : Bool) (node new rest : ℕ) → cond same new (cond same node rest) ≡ cond same new rest
cond_again true node new rest = refl
cond_again false node new rest = refl

-- of cells in one row
pub same_column : (m a n b w : ℕ) → m ≡ n → m * w + a ≡ n * w + b → a ≡ b
same_column m a n b w rows e = (let q = ap (λ z. z * w) rows in omega (arith, e, q))
