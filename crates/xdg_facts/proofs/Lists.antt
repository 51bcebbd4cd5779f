-- Lists.
use Rattle.std.proofs.Common.{ℕ, List, [], ◌∷◌, ◌++◌, ◌+◌, ◌<◌, length, arith, length-append, ◌≡◌, refl, zero, suc, get_or, Bool, true, false, cond, Some, drop, add-one, drop-cons, sym, ap, All, AllPairs, map, slice_set, ◌∙◌, ap₂, None, Option, ◌≤◌, swap, set, below_more, subst, nat_lt, replicate, inl, inr, ◌↔◌}
use Rattle.std.specs.List.{AllByRecursion, AllZip, range_with_len, flat_map, position}
use Rattle.std.specs.Prelude.{slice_index, Contains, slice_get, IfSome, slice_index_or, ◌==◌, option_map}
use Rattle.std.proofs.lemmas.List.Elements.{All-nil, All-cons, All-head, All-tail}
use Rattle.std.proofs.Math.ListN.{get_or-append}
use Rattle.std.proofs.lemmas.Bool.{false≢true, lt-ltb, eq-eqb, ne_eqb, cases_eq}
use Rattle.std.proofs.lemmas.List.{ext_get_or, get_or-map, length-map, get_or_default, get_or-set_same, get_or-set_other, length-set, get_or_append_left}
use Rattle.std.proofs.lemmas.List.FromFn.{length-map-range_with_len, get_or-map-range_with_len}
use Rattle.std.proofs.lemmas.List.Sums.{position_or_len_is}
use Rattle.std.proofs.lemmas.Option.{slice_get-map}

pub some_behind : (q : List ℕ) (v : ℕ) → 0 < length (q ++ v ∷ [])
some_behind q v = let a = length-append q (v ∷ []) in omega (arith, a)

pub length_more : {A : Type 0} (xs : List A) (x : A) → length (xs ++ x ∷ []) ≡ length xs + 1
length_more xs x = length-append xs (x ∷ [])

pub last_at : (p : List ℕ) (v : ℕ) → slice_index (p ++ v ∷ []) (length p) ≡ v
last_at [] v = refl
last_at (x ∷ p) v = last_at p v

pub empty_list : (xs : List ℕ) → length xs ≡ 0 → xs ≡ []
empty_list [] h = refl
empty_list (x ∷ xs) h = absurd (omega arith)

pub all_at : (P : ℕ → Type 0) (xs : List ℕ) (q : ℕ) → AllByRecursion P xs → q < length xs → P (get_or xs q 0)
all_at P [] q each w = absurd (omega arith)
all_at P (x ∷ xs) zero each w = each.0
all_at P (x ∷ xs) (suc q) each w = all_at P xs q each.1 (omega arith)

pub kept : {X : Type 0} (b : Bool) (y : X) (ys : List X) (x : X) → Contains ys x → Contains (cond b (y ∷ ys) ys) x
kept true y ys x h = (let within : h.0 < length ys = h.1 in (suc h.0, omega arith, h.2))
kept false y ys x h = h

pub from_place : {X : Type 0} (xs : List X) (k : ℕ) (x : X) → k < length xs → x ≡ get_or xs k x → drop k xs ≡ x ∷ drop (k + 1) xs
from_place xs k x within is = rw (add-one, drop-cons xs k x) (ap (λ y. y ∷ drop (suc k) xs) (sym is))

pub any_default : {X : Type 0} (xs : List X) (i : ℕ) (d e : X) → i < length xs → get_or xs i d ≡ get_or xs i e
any_default [] i d e within = absurd (omega (arith, within))
any_default (x ∷ xs) zero d e within = refl
any_default (x ∷ xs) (suc i) d e within = any_default xs i d e (omega (arith, within))

pub some_at : {A : Type 0} (xs : List A) (k : ℕ) → k < length xs → (x : A) × (slice_get xs k ≡ Some x)
some_at [] k h = absurd (omega (arith, h))
some_at (x ∷ xs) zero h = (x, refl)
some_at (x ∷ xs) (suc k) h = some_at xs k (omega (arith, h))

pub all_cons : {X : Type 0} (P : X → Type 0) (x : X) (xs : List X) → P x → All P xs → All P (x ∷ xs)
all_cons P x xs h t zero d within = h
all_cons P x xs h t (suc k) d within = t k d (omega (arith, within))

pub all_one : {X : Type 0} (P : X → Type 0) (x : X) → P x → All P (x ∷ [])
all_one P x p zero d within = p
all_one P x p (suc k) d within = absurd (omega (arith, within))

pub all_before : {X : Type 0} (P : X → Type 0) (xs ys : List X) → All P (xs ++ ys) → All P xs
all_before P [] ys all = All-nil P
all_before P (x ∷ xs) ys all = All-cons P x xs (All-head P x (xs ++ ys) all) (all_before P xs ys (All-tail P x (xs ++ ys) all))

pub all_two : {X : Type 0} (P : X → Type 0) (x y : X) → P x → P y → All P (x ∷ y ∷ [])
all_two P x y p q zero d within = p
all_two P x y p q (suc zero) d within = q
all_two P x y p q (suc (suc k)) d within = absurd (omega (arith, within))

pub all_none : {X : Type 0} (P : X → Type 0) → All P []
all_none P = All-nil P

pub pairs_one : {X : Type 0} (R : X → X → Type 0) (x : X) → AllPairs R (x ∷ [])
pairs_one R x i j d before within = absurd (omega (arith, before, within))

pub pairs_two : {X : Type 0} (R : X → X → Type 0) (x y : X) → R x y → AllPairs R (x ∷ y ∷ [])
pairs_two R x y r zero zero d before within = absurd (omega (arith, before))
pairs_two R x y r zero (suc zero) d before within = r
pairs_two R x y r i (suc (suc k)) d before within = absurd (omega (arith, within))
pairs_two R x y r (suc i) zero d before within = absurd (omega (arith, before))
pairs_two R x y r (suc i) (suc zero) d before within = absurd (omega (arith, before))

pub pairs_none : {X : Type 0} (R : X → X → Type 0) → AllPairs R []
pairs_none R i j d order within = absurd (omega (arith, within))

pub contains_more : {X : Type 0} (y : X) (xs : List X) (x : X) → Contains xs x → Contains (y ∷ xs) x
contains_more y xs x (k, l, e) = (suc k, omega (arith, l), e)

pub head_of : {B : Type 0} (x y : B) (xs ys : List B) → x ∷ xs ≡ y ∷ ys → x ≡ y
head_of x y xs ys h = cc

pub tail_of : {B : Type 0} (x y : B) (xs ys : List B) → x ∷ xs ≡ y ∷ ys → xs ≡ ys
tail_of x y xs ys h = cc

pub zip_more : {A B : Type 0} (R : A → B → Type 0) (xs : List A) (ys : List B) (x : A) (y : B) → AllZip R xs ys → R x y → AllZip R (xs ++ x ∷ []) (ys ++ y ∷ [])
zip_more R [] [] x y z r = (r, tt)
zip_more R [] (b ∷ ys) x y z r = absurd z
zip_more R (a ∷ xs) [] x y z r = absurd z
zip_more R (a ∷ xs) (b ∷ ys) x y z r = (z.0, zip_more R xs ys x y z.1 r)

pub zip_length : {A B : Type 0} (R : A → B → Type 0) (xs : List A) (ys : List B) → AllZip R xs ys → length xs ≡ length ys
zip_length R [] [] h = refl
zip_length R [] (y ∷ ys) h = absurd h
zip_length R (x ∷ xs) [] h = absurd h
zip_length R (x ∷ xs) (y ∷ ys) h = ap suc (zip_length R xs ys h.1)

pub fused : {A B C : Type 0} (f : B → C) (g : A → B) (xs : List A) → map f (map g xs) ≡ map (λ x. f (g x)) xs
fused f g [] = refl
fused f g (x ∷ xs) = ap (λ ys. f (g x) ∷ ys) (fused f g xs)

pub set_same : {A : Type 0} (xs : List A) (k : ℕ) (x : A) → k < length xs → slice_get (slice_set xs k x) k ≡ Some x
set_same [] k x h = absurd (omega (arith, h))
set_same (y ∷ xs) zero x h = refl
set_same (y ∷ xs) (suc k) x h = set_same xs k x (omega (arith, h))

pub set_other : {A : Type 0} (xs : List A) (k j : ℕ) (x : A) → (j ≡ k → ⊥) → slice_get (slice_set xs k x) j ≡ slice_get xs j
set_other [] k j x ne = refl
set_other (y ∷ xs) zero zero x ne = absurd (ne refl)
set_other (y ∷ xs) zero (suc j) x ne = refl
set_other (y ∷ xs) (suc k) zero x ne = refl
set_other (y ∷ xs) (suc k) (suc j) x ne = set_other xs k j x (λ e. ne (ap suc e))

-- a default that is pushed changes nothing
pub default_pushed : {A : Type 0} (xs : List A) (d : A) (j : ℕ) → get_or (xs ++ d ∷ []) j d ≡ get_or xs j d
default_pushed [] d zero = refl
default_pushed [] d (suc j) = refl
default_pushed (x ∷ xs) d zero = refl
default_pushed (x ∷ xs) d (suc j) = default_pushed xs d j

pub from_zero : (i : ℕ) → 0 + i ≡ i
from_zero i = omega arith

pub all_places : {X : Type 0} (f : ℕ → X) (d : X) (xs : List X) (count : ℕ) → count ≡ length xs → ((i : ℕ) → i < length xs → f i ≡ get_or xs i d) → map f (range_with_len 0 count) ≡ xs
all_places f d xs count size each =
    let long = length-map-range_with_len f 0 count in
    ext_get_or d (map f (range_with_len 0 count)) xs (long ∙ size)
    (λ i within. get_or-map-range_with_len f 0 count i i d (omega (arith, within, long)) (from_zero i) ∙ each i (omega (arith, within, long, size)))

-- what two functions make of two lists is the same where it is at each place
pub maps_agree : {A B : Type 0} (f g : A → B) (xs ys : List A) (d : A) → length xs ≡ length ys → ((i : ℕ) → i < length xs → f (get_or xs i d) ≡ g (get_or ys i d)) → map f xs ≡ map g ys
maps_agree f g xs ys d size same =
    let long = length-map xs f in
    ext_get_or (f d) (map f xs) (map g ys) (long ∙ size ∙ sym (length-map ys g)) (λ i inside.
    let within : i < length xs = omega (arith, long, inside) in
    get_or-map f xs i d (f d) within ∙ same i within ∙ sym (get_or-map g ys i d (f d) (omega (arith, size, within))))

-- and then it is at each place
pub map_place : {A B : Type 0} (f g : A → B) (xs : List A) (d : A) (i : ℕ) → i < length xs → map f xs ≡ map g xs → f (get_or xs i d) ≡ g (get_or xs i d)
map_place f g xs d i within e = sym (get_or-map f xs i d (f d) within) ∙ ap (λ l. get_or l i (f d)) e ∙ get_or-map g xs i d (f d) within

pub if_some : {A : Type 0} (P : A → Type 0) (o : Option A) → ((x : A) → o ≡ Some x → P x) → IfSome o P
if_some P None h = tt
if_some P (Some x) h = h x refl

pub some_numbers : (ns : List ℕ) → (ns ≡ [] → ⊥) → 0 < length ns
some_numbers [] h = absurd (h refl)
some_numbers (n ∷ ns) h = omega arith

-- nothing comes of types that are none
pub nothing_each : {A B : Type 0} (g : A → List B) → ((x : A) → g x ≡ []) → (xs : List A) → flat_map g xs ≡ []
nothing_each g none [] = refl
nothing_each g none (x ∷ xs) = ap (λ l. l ++ flat_map g xs) (none x) ∙ nothing_each g none xs

-- one operand, and two
pub single : (xs : List (List ℕ)) (x : List ℕ) → slice_get xs 0 ≡ Some x → length xs ≤ 1 → xs ≡ x ∷ []
single [] x e few = absurd cc
single (y ∷ []) x e few = let is : y ≡ x = cc in ap (λ z. z ∷ []) is
single (y ∷ z ∷ xs) x e few = absurd (omega (arith, few))

pub double : (xs : List (List ℕ)) (x y : List ℕ) → slice_get xs 0 ≡ Some x → slice_get xs 1 ≡ Some y → length xs ≤ 2 → xs ≡ x ∷ y ∷ []
double [] x y e f few = absurd cc
double (a ∷ []) x y e f few = absurd cc
double (a ∷ b ∷ []) x y e f few = let first : a ≡ x = cc in let second : b ≡ y = cc in ap₂ (λ p q. p ∷ q ∷ []) first second
double (a ∷ b ∷ c ∷ xs) x y e f few = absurd (omega (arith, few))

-- what is added at the end stands behind the others
pub get_last : {X : Type 0} (xs : List X) (x : X) → slice_get (xs ++ x ∷ []) (length xs) ≡ Some x
get_last [] x = refl
get_last (a ∷ xs) x = get_last xs x

-- what stands at a place stands there still where more is added at the end
pub get_more : {X : Type 0} (xs ys : List X) (i : ℕ) (x : X) → slice_get xs i ≡ Some x → slice_get (xs ++ ys) i ≡ Some x
get_more [] ys i x e = absurd (let bad : None ≡ Some x = e in cc)
get_more (a ∷ xs) ys zero x e = e
get_more (a ∷ xs) ys (suc i) x e = get_more xs ys i x e

pub swap_is : (xs : List ℕ) (p q : ℕ) → p < length xs → q < length xs → swap xs p q ≡ set (set xs p (get_or xs q 0)) q (get_or xs p 0)
swap_is [] p q wp wq = absurd (omega arith)
swap_is (d ∷ ys) p q wp wq =
    let one = get_or_default (d ∷ ys) q d 0 wq in
    let other = get_or_default (d ∷ ys) p d 0 wp in
    ap (λ z. set (set (d ∷ ys) p z) q (get_or (d ∷ ys) p d)) one ∙ ap (λ z. set (set (d ∷ ys) p (get_or (d ∷ ys) q 0)) q z) other

-- what was set is read, also past the end where the default is the same
pub set_read : {X : Type 0} (xs : List X) (at : ℕ) (x default : X) → (length xs ≤ at → default ≡ x) → get_or (set xs at x) at default ≡ x
set_read [] at x default past = past (omega arith)
set_read (y ∷ xs) zero x default past = refl
set_read (y ∷ xs) (suc at) x default past = set_read xs at x default (λ behind. past (omega arith))

-- where there is no member at a place
pub none_at : {A : Type 0} (members : List A) (place : ℕ) (none : A) → slice_get members place ≡ None → get_or members place none ≡ none
none_at [] place none is = refl
none_at (x ∷ members) zero none is = absurd cc
none_at (x ∷ members) (suc place) none is = none_at members place none is

pub all_behind : {X : Type 0} (P : X → Type 0) (xs ys : List X) → All P (xs ++ ys) → All P ys
all_behind P [] ys all = all
all_behind P (x ∷ xs) ys all = all_behind P xs ys (All-tail P x (xs ++ ys) all)

pub one_set : {X : Type 0} (P : ℕ → X → Type 0) (xs : List X) (k : ℕ) (x none : X) {count : ℕ} → length xs ≡ count → k < count → P k x → ((i : ℕ) → i < k → P i (get_or xs i none))
    → (length (set xs k x) ≡ count) × ((i : ℕ) → i < k + 1 → P i (get_or (set xs k x) i none))
one_set P xs k x none same l here before = (
  length-set xs k x ∙ same,
  below_more (λ i. P i (get_or (set xs k x) i none)) k (λ i m. subst (P i) (sym (get_or-set_other xs k i x none (λ e. omega (arith, e, m)))) (before i m))
      (subst (P k) (sym (get_or-set_same xs k x none (omega (arith, l, same)))) here),
)

pub true_within : (row : List Bool) (v : ℕ) → get_or row v false ≡ true → v < length row
true_within [] v h = cc
true_within (x ∷ row) zero h = omega arith
true_within (x ∷ row) (suc v) h = let e = true_within row v h in omega (arith, e)

-- the first of different items that passes a test of equality is the item
pub position_of : {X : Type 0} (p : X → Bool) (xs : List X) (k : ℕ) (d : X) → k < length xs → p (get_or xs k d) ≡ true → ((j : ℕ) → j < k → p (get_or xs j d) ≡ false) → position p xs ≡ Some k
position_of p xs k d within here before =
    let is = position_or_len_is p xs k d (omega (arith, within)) before (λ _. here) in
    ap (λ n. cond (nat_lt n (length xs)) (Some n) None) is ∙ ap (λ t. cond t (Some k) None) (lt-ltb k (length xs) within)

pub none_left : {X : Type 0} (xs : List X) (n : ℕ) → length xs ≡ n → n ≡ 0 → xs ≡ []
none_left [] n e none = refl
none_left (x ∷ xs) n e none = absurd (omega (arith, e, none))

pub counted_more : (found : List (List ℕ)) (x : List ℕ) (count : ℕ) → count ≡ length found → count + 1 ≡ length (found ++ x ∷ [])
counted_more found x count e = let l = length-append found (x ∷ []) in omega (arith, l, e)

-- what stands at a place is one thing
pub same_got : {X : Type 0} (xs : List X) (k : ℕ) (x y : X) → x ≡ get_or xs k x → slice_get xs k ≡ Some y → x ≡ y
same_got [] k x y is stands = absurd cc
same_got (z ∷ xs) zero x y is stands = cc
same_got (z ∷ xs) (suc k) x y is stands = same_got xs k x y is stands

pub each_mark : (mark n : ℕ) → map (λ (number : ℕ). mark) (replicate n 1) ≡ replicate n mark
each_mark mark zero = refl
each_mark mark (suc n) = ap (λ z. mark ∷ z) (each_mark mark n)

pub all_true : (size v : ℕ) → v < size → slice_index_or (replicate size true) v false ≡ true
all_true zero v l = absurd (omega (arith, l))
all_true (suc size) zero l = refl
all_true (suc size) (suc v) l = all_true size v (omega (arith, l))

pub front_of : (p : List ℕ) (v d : ℕ) → d < length p → slice_index (p ++ v ∷ []) d ≡ slice_index p d
front_of p v d l = get_or_append_left p (v ∷ []) 0 d l

pub within_of : (xs : List ℕ) (d v : ℕ) → v < slice_index xs d → d < length xs
within_of [] d v l = absurd (omega (arith, l))
within_of (x ∷ xs) zero v l = omega arith
within_of (x ∷ xs) (suc d) v l = (let k = within_of xs d v l in omega (arith, k))

pub first_of_full : (size : ℕ) → 1 ≤ size → get_or (replicate size true) 0 false ≡ true
first_of_full zero l = absurd (omega (arith, l))
first_of_full (suc size) l = refl

pub count_at : (row : List ℕ) (b j m : ℕ) → j ≡ b → j < length row → slice_index (slice_set row j (slice_index row j + 1)) m ≡ slice_index row m + cond (b == m) 1 0
count_at row b j m e l = elim (cases_eq m j) [
  | inl f ↦ ap (slice_index (slice_set row j (slice_index row j + 1))) f ∙ get_or-set_same row j (slice_index row j + 1) 0 l ∙ ap₂ (λ i t. slice_index row i + cond t 1 0) (sym f) (sym (eq-eqb b m (sym e ∙ sym f)))
  | inr g ↦ (
      let same : slice_index (slice_set row j (slice_index row j + 1)) m ≡ slice_index row m = get_or-set_other row j m (slice_index row j + 1) 0 g in
      let none : ◌≡◌ {A = ℕ} (cond (b == m) 1 0) 0 = ap (λ q. cond q 1 0) (ne_eqb b m (λ q. g (sym q ∙ sym e))) in
      omega (arith, same, none))
]

pub map_at : {A B : Type 0} (f : A → B) (xs : List A) (k : ℕ) (x : A) → slice_get xs k ≡ Some x → slice_get (map f xs) k ≡ Some (f x)
map_at f xs k x is = slice_get-map f xs k ∙ ap (option_map f) is

pub row_without : (row : List Bool) (v w : ℕ) → (get_or (set row v false) w false ≡ true) ↔ ((get_or row w false ≡ true) × (w ≡ v → ⊥))
row_without row v w = elim (cases_eq w v) [
  | inl same ↦ (λ h. absurd (false≢true (sym (set_read row v false false (λ past. refl)) ∙ subst (λ k. get_or (set row v false) k false ≡ true) same h)), λ h. absurd (h.1 same))
  | inr other ↦ rw (get_or-set_other row v w false false other) (λ h. (h, other), λ h. h.0)
]

-- one place more has the same
pub filled_more : (marks : List (Option ℕ)) (mark : Option ℕ) (at : ℕ) → at < length marks → ((place : ℕ) → place < at → get_or marks place None ≡ mark) → (place : ℕ) → place < at + 1 → get_or (set marks at mark) place None ≡ mark
filled_more marks mark at within before place l = elim (cases_eq place at) [
  | inl q ↦ ap (λ i. get_or (set marks at mark) i None) q ∙ get_or-set_same marks at mark None within
  | inr f ↦ get_or-set_other marks at place mark None f ∙ before place (omega (arith, l, f))
]

-- an entry with the place of a row keeps it
pub still : (places : List ℕ) (place row first : ℕ) → (first < length places) × (get_or places first 0 ≡ row) → (first < length (places ++ place ∷ [])) × (get_or (places ++ place ∷ []) first 0 ≡ row)
still places place row first (within, is) = (let size = length_more places place in omega (arith, size, within), get_or-append places (place ∷ []) 0 first within ∙ is)
