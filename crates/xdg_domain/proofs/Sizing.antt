-- The sizes of the fields of a tuple type, one after the other.
use Rattle.std.proofs.Common.{◌≡◌, ℕ, ◌<◌, ◌≤◌, ◌+◌, ◌-◌, ◌*◌, ◌^◌, ◌/◌, ◌%◌, zero, suc, List, [], ◌∷◌, length, get_or, take, drop, length-drop, min, refl, ap, ap₂, sym, ◌∙◌, arith, subst, add-one}
use Rattle.std.proofs.Math.Nat.{min-eq_left, mod-lt, mul_assoc}
use Rattle.std.proofs.lemmas.List.{drop_more, drop_all, at_drop_more, at_drop_all}
use Rattle.xdg_domain.specs.Tuples.{index, places, InRange}
use Rattle.xdg_domain.proofs.TupleNumbers.{index_below, later_sizes, place_at}
use Rattle.xdg_domain.specs.declared.types.Ty.{Ty}
use Rattle.xdg_domain.specs.Shapes.{domain, Shapes, no_shape, shape_then, AreDomains, shape, sizes, constants, product}
use Rattle.xdg_domain.specs.Values.{AllBelow}
use Rattle.xdg_domain.specs.Sized.{sizes_of}
use Rattle.xdg_facts.proofs.Numbers.{alone, all_some, digits_more}
use Rattle.xdg_facts.proofs.Capped.{capped_mul}

pub length_sizes : (types : List Ty) → length (sizes_of types) ≡ length types
length_sizes [] = refl
length_sizes (t ∷ ts) = ap suc (length_sizes ts)

pub drop_sizes : (k : ℕ) (types : List Ty) → sizes_of (drop k types) ≡ drop k (sizes_of types)
drop_sizes zero types = refl
drop_sizes (suc k) [] = refl
drop_sizes (suc k) (t ∷ ts) = drop_sizes k ts

pub size_at : (types : List Ty) (k : ℕ) (t : Ty) → k < length types → t ≡ get_or types k t → get_or (sizes_of types) k 0 ≡ length (constants (shape t))
size_at [] k t within is = absurd (omega (arith, within))
size_at (u ∷ us) zero t within is = ap (λ x. length (constants (shape x))) (sym is)
size_at (u ∷ us) (suc k) t within is = size_at us k t (omega (arith, within)) is

pub sizes_next : (types : List Ty) (k : ℕ) (t : Ty) → k < length types → t ≡ get_or types k t → sizes_of (drop k types) ≡ length (constants (shape t)) ∷ sizes_of (drop (k + 1) types)
sizes_next types k t within is = at_drop_more sizes_of types k t within ∙ ap (λ (u : Ty). length (constants (shape u)) ∷ sizes_of (drop (k + 1) types)) (sym is)

-- one more factor of the product, which stops at the greatest number
pub tuples_more : (types : List Ty) (k : ℕ) (t : Ty) (so_far size next most whole : ℕ) → k < length types → t ≡ get_or types k t → size ≡ length (constants (shape t)) → next ≡ min (so_far * size) most
    → min (so_far * product (sizes_of (drop k types))) most ≡ whole → min (next * product (sizes_of (drop (k + 1) types))) most ≡ whole
unfolding product
tuples_more types k t so_far size next most whole within is sized grown before =
    let p = product (sizes_of (drop (k + 1) types)) in
    let s = length (constants (shape t)) in
    ap (λ m. min (m * p) most) (grown ∙ ap (λ m. min (so_far * m) most) sized)
    ∙ capped_mul (so_far * s) p most
    ∙ ap (λ m. min m most) (mul_assoc so_far s p)
    ∙ ap (λ ss. min (so_far * product ss) most) (sym (sizes_next types k t within is))
    ∙ before

pub tuples_done : (types : List Ty) (k so_far most whole : ℕ) → length types ≤ k → so_far ≤ most → min (so_far * product (sizes_of (drop k types))) most ≡ whole → so_far ≡ whole
unfolding product
tuples_done types k so_far most whole ended within before = alone so_far most within ∙ sym (at_drop_all (λ (ts : List Ty). min (so_far * product (sizes_of ts)) most) types k ended) ∙ before

-- ---- the number of a tuple, field by field

in_range_length : (ss ns : List ℕ) → InRange ss ns → length ns ≡ length ss
in_range_length [] [] range = refl
in_range_length (s ∷ ss) (n ∷ ns) range = ap suc (in_range_length ss ns range.1)
in_range_length ss ns range = absurd range

in_step : (types : List Ty) (numbers : List ℕ) (k : ℕ) → k < length types → InRange (sizes_of (drop k types)) (drop k numbers) → k < length numbers
in_step types numbers k within range =
    let same = in_range_length (sizes_of (drop k types)) (drop k numbers) range in
    omega (arith, within, same, length_sizes (drop k types), length-drop k types, length-drop k numbers)

-- one field more: the number so far stays small, and what is left stays in range
pub record Turned (types : List Ty) (numbers : List ℕ) (k a size n whole : ℕ) : Type 0 where
  pub scaled : a * size ≤ whole
  pub added : a * size + n ≤ whole
  pub range : InRange (sizes_of (drop (k + 1) types)) (drop (k + 1) numbers)
  pub number : (a * size + n) * product (sizes_of (drop (k + 1) types)) + index (sizes_of (drop (k + 1) types)) (drop (k + 1) numbers) ≡ whole

pub turn : (types : List Ty) (numbers : List ℕ) (k : ℕ) (t : Ty) (a size n whole : ℕ) → k < length types → t ≡ get_or types k t → size ≡ length (constants (shape t)) → n ≡ get_or numbers k 0 → whole < 1025
    → InRange (sizes_of (drop k types)) (drop k numbers) → a * product (sizes_of (drop k types)) + index (sizes_of (drop k types)) (drop k numbers) ≡ whole → Turned types numbers k a size n whole
unfolding index product
turn types numbers k t a size n whole within is sized said small range before =
    let s = length (constants (shape t)) in
    let ss = sizes_of (drop (k + 1) types) in
    let ns = drop (k + 1) numbers in
    let cut : drop k numbers ≡ n ∷ ns = drop_more numbers k 0 (in_step types numbers k within range) ∙ ap (λ m. m ∷ ns) (sym said) in
    let both : (s ∷ ss ≡ sizes_of (drop k types)) = sym (sizes_next types k t within is) in
    let range_now : InRange (s ∷ ss) (n ∷ ns) = subst (λ l. InRange (s ∷ ss) l) cut (subst (λ l. InRange l (drop k numbers)) (sym both) range) in
    let before_now : a * product (s ∷ ss) + index (s ∷ ss) (n ∷ ns) ≡ whole = ap₂ (λ l m. a * product l + index l m) both (sym cut) ∙ before in
    let below = index_below ss ns range_now.1 in
    let got = digits_more a s n (product ss) (index ss ns) whole (omega (arith, below)) before_now in
    let exact : a * size ≡ a * s = ap (λ m. a * m) sized in
    record {
      scaled = rw exact (omega (arith, got.0));
      added = rw exact (got.0);
      range = range_now.1;
      number = rw exact (got.1);
    }

pub turned_all : (types : List Ty) (numbers : List ℕ) (k a whole : ℕ) → length types ≤ k → InRange (sizes_of (drop k types)) (drop k numbers) → a * product (sizes_of (drop k types)) + index (sizes_of (drop k types)) (drop k numbers) ≡ whole → a ≡ whole
unfolding index product
turned_all types numbers k a whole ended range before =
    let end : drop k types ≡ [] = drop_all k types ended in
    let last : a * product (sizes_of []) + index (sizes_of []) (drop k numbers) ≡ whole = subst (λ (l : List Ty). a * product (sizes_of l) + index (sizes_of l) (drop k numbers) ≡ whole) end before in
    omega (arith, last)

-- ---- one constant of a tuple

pub domains_small : (ss : Shapes) → AreDomains ss → AllBelow 65 (sizes ss)
domains_small no_shape h = tt
domains_small (shape_then (domain cs) ss) h = (omega (arith, h.0.0), domains_small ss h.1)
domains_small (shape_then s ss) h = absurd h.0

below_at : (bound : ℕ) (ns : List ℕ) (k : ℕ) → k < length ns → AllBelow bound ns → get_or ns k 0 < bound
below_at bound [] k within h = absurd (omega (arith, within))
below_at bound (n ∷ ns) zero within h = h.0
below_at bound (n ∷ ns) (suc k) within h = below_at bound ns k (omega (arith, within)) h.1

pub record OnePlace (types : List Ty) (n k many size : ℕ) : Type 0 where
  pub later : 0 < many
  pub some : 0 < size
  pub small : n / many % size < 256
  pub is : n / many % size ≡ get_or (places (sizes_of types) n) k 0

pub one_place : (types more : List Ty) (n k : ℕ) (t : Ty) (many size : ℕ) → AllBelow 65 (sizes_of types) → product (sizes_of types) ≤ 1024 → n < product (sizes_of types) → k < length types → t ≡ get_or types k t → more ≡ drop (k + 1) types
    → many ≡ min (product (sizes_of more)) (2 ^ 64 - 1) → size ≡ length (constants (shape t)) → OnePlace types n k many size
one_place types more n k t many size small few below within is rest counted sized =
    let ss = sizes_of types in
    let inner : k < length ss = omega (arith, length_sizes types, within) in
    let s = get_or ss k 0 in
    let r = product (drop (suc k) ss) in
    let parts = later_sizes ss k inner in
    let some = all_some (product (take k ss)) s r n (subst (λ m. n < m) parts below) in
    let little : s < 65 = below_at 65 ss k inner small in
    let same : size ≡ s = sized ∙ sym (size_at types k t within is) in
    let one : product (sizes_of more) ≡ r = ap (λ l. product (sizes_of l)) rest ∙ ap (λ j. product (sizes_of (drop j types))) (add-one k) ∙ ap product (drop_sizes (suc k) types) in
    let fits : r ≤ 2 ^ 64 - 1 = omega (arith, some.2, parts, few) in
    let those : many ≡ r = counted ∙ ap (λ m. min m (2 ^ 64 - 1)) one ∙ min-eq_left fits in
    let low : n / many % size < s = subst (λ m. n / many % m < s) (sym same) (mod-lt (n / many) some.0) in
    record {
      later = rw those some.1;
      some = rw same some.0;
      small = omega (arith, low, little);
      is = ap₂ (λ a b. n / a % b) those same ∙ sym (place_at ss n k below inner);
    }
