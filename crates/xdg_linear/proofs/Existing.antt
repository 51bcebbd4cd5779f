-- Words have a list of all their arrangements: the listing of the vectors that are arrangements.
use Rattle.std.proofs.Common.{◌≡◌, ◌<◌, ◌≤◌, ◌+◌, ◌⊎◌, inl, inr, ℕ, zero, suc, List, [], ◌∷◌, ◌==◌, Bool, true, false, cond, length, map, refl, ap, sym, ◌∙◌, arith, get_or, bytes_eq}
use Rattle.std.proofs.lemmas.Bool.{cases_eq, cases_lt}
use Rattle.std.proofs.lemmas.List.{length-map}
use Rattle.std.specs.Cmp.Lexicographic.{bytes_decides}
use Rattle.std.specs.List.{AllByRecursion}
use Rattle.xdg_facts.specs.Fits.{Fits}
use Rattle.xdg_facts.specs.Listing.{RisesFrom, IsListing}
use Rattle.xdg_facts.specs.Order.{Less}
use Rattle.xdg_facts.proofs.Exists.{decided_listing_within}
use Rattle.xdg_problem.specs.declared.parts.SentenceWord.{SentenceWord}
use Rattle.xdg_linear.specs.Arrangements.{times, IsArrangement}
use Rattle.xdg_linear.specs.Laws.{HasOneList, OneList, AreListed, shape_of}
use Rattle.xdg_linear.specs.Listed.{Rises, AreArrangements}
use Rattle.xdg_linear.specs.Ranks.{rank_of, ranks_of}
use Rattle.xdg_linear.proofs.Ends.{no_more}
use Rattle.xdg_linear.proofs.Fronts.{all_unique, rises_tail}
use Rattle.xdg_linear.proofs.Times.{at_times, times-same, times-other}
use Rattle.xdg_facts.proofs.Each.{each_weaker}
use Rattle.xdg_facts.specs.Membership.{In}
use Rattle.xdg_facts.proofs.Decided.{decided_below}

-- ---- ranks are below the number of words

-- a word of the text stands at k, so the first stands there or before
pub rank_place : (words : List SentenceWord) (k : ℕ) (d : SentenceWord) (text : List ℕ) → k < length words → bytes_eq (get_or words k d).text text ≡ true → rank_of words text ≤ k
rank_place [] k d text w same = absurd (omega arith)
rank_place (word ∷ words) zero d text w same =
    let e : cond (bytes_eq word.text text) 0 (1 + rank_of words text) ≡ 0 = ap (λ b. cond b 0 (1 + rank_of words text)) same in
    omega (arith, e)
rank_place (word ∷ words) (suc k) d text w same = earlier (bytes_eq word.text text) (rank_of words text) (rank_place words k d text (omega arith) same) where
  earlier : (b : Bool) (rest : ℕ) → rest ≤ k → cond b 0 (1 + rest) ≤ suc k
  earlier true rest le = omega arith
  earlier false rest le = omega arith

all_mapped : (P : ℕ → Type 0) (f : SentenceWord → ℕ) (words : List SentenceWord) → ((k : ℕ) (d : SentenceWord) → k < length words → P (f (get_or words k d))) → AllByRecursion P (map f words)
all_mapped P f [] each = tt
all_mapped P f (word ∷ words) each = (each 0 word (omega arith), all_mapped P f words (λ k d lt. each (suc k) d (omega arith)))

pub ranks_below : (words : List SentenceWord) → AllByRecursion (λ rank. rank < length words) (ranks_of words)
ranks_below words = all_mapped (λ rank. rank < length words) (λ word. rank_of words word.text) words each where
  each : (k : ℕ) (d : SentenceWord) → k < length words → rank_of words (get_or words k d).text < length words
  each k d lt =
      let own : bytes_eq (get_or words k d).text (get_or words k d).text ≡ true = (bytes_decides (get_or words k d).text (get_or words k d).text).1 refl in
      let first = rank_place words k d (get_or words k d).text lt own in
      omega (arith, first)

-- ---- and so are the numbers of arrangements

times_more : (n x : ℕ) (xs : List ℕ) → times n xs ≤ times n (x ∷ xs)
times_more n x xs = more (cond (x == n) 1 0) (times n xs) where
  more : (j k : ℕ) → k ≤ j + k
  more j k = omega arith

all_stand : (xs ys : List ℕ) → ((n : ℕ) → times n xs ≤ times n ys) → AllByRecursion (λ x. 0 < times x ys) xs
all_stand [] ys within = tt
all_stand (x ∷ xs) ys within = (
  (let here = within x in let same = times-same x xs in omega (arith, here, same)),
  all_stand xs ys (λ n. (let here = within n in let more = times_more n x xs in omega (arith, here, more))),
)

pub arrangement_each : (P : ℕ → Type 0) (ranks numbers : List ℕ) → IsArrangement ranks numbers → AllByRecursion P ranks → AllByRecursion P numbers
arrangement_each P ranks numbers h each = each_weaker (λ x. 0 < times x ranks) P numbers (λ x stands. at_times P x ranks stands each) (all_stand numbers ranks (λ n. (let e = h.each n in omega (arith, e))))

fits_wide : (n : ℕ) (words : List SentenceWord) (numbers : List ℕ) → length numbers ≡ length words → AllByRecursion (λ x. x < n) numbers → Fits (map (λ word. n) words) numbers
fits_wide n words [] size each = tt
fits_wide n [] (x ∷ xs) size each = absurd (omega arith)
fits_wide n (word ∷ words) (x ∷ xs) size each = (each.0, fits_wide n words xs (omega arith) each.1)

size_words : (words : List SentenceWord) (numbers : List ℕ) → IsArrangement (ranks_of words) numbers → length numbers ≡ length words
size_words words numbers h = h.size ∙ length-map words (λ word. rank_of words word.text)

fits_shape : (words : List SentenceWord) (numbers : List ℕ) → IsArrangement (ranks_of words) numbers → Fits (shape_of words) numbers
fits_shape words numbers h = fits_wide (length words) words numbers (size_words words numbers h) (arrangement_each (λ x. x < length words) (ranks_of words) numbers h (ranks_below words))

-- ---- whether numbers are an arrangement is decided

fits_below : (n : ℕ) (words : List SentenceWord) (numbers : List ℕ) → Fits (map (λ word. n) words) numbers → AllByRecursion (λ x. x < n) numbers
fits_below n words [] fits = tt
fits_below n [] (x ∷ xs) fits = absurd fits
fits_below n (word ∷ words) (x ∷ xs) fits = (fits.0, fits_below n words xs fits.1)

none_times : (b n : ℕ) (xs : List ℕ) → AllByRecursion (λ x. x < b) xs → b ≤ n → times n xs ≡ 0
none_times b n [] each le = refl
none_times b n (x ∷ xs) each le =
    let small : x < b = each.0 in
    times-other n x xs (λ e. (omega arith)) ∙ none_times b n xs each.1 le

arrangement_or : (words : List SentenceWord) (numbers : List ℕ) → Fits (shape_of words) numbers → IsArrangement (ranks_of words) numbers ⊎ (IsArrangement (ranks_of words) numbers → ⊥)
arrangement_or words numbers fits = elim (cases_eq (length numbers) (length (ranks_of words))) [
  | inl size ↦ elim (decided_below Same (length words) (λ n. cases_eq (times n numbers) (times n (ranks_of words)))) [
    | inl each ↦ inl (record { size = size; each = λ n. everywhere each n })
    | inr not ↦ inr (λ h. not (λ n lt. h.each n))
  ]
  | inr ne ↦ inr (λ h. ne h.size)
] where
  Same : ℕ → Type 0
  Same n = times n numbers ≡ times n (ranks_of words)

  everywhere : ((n : ℕ) → n < length words → times n numbers ≡ times n (ranks_of words)) → (n : ℕ) → times n numbers ≡ times n (ranks_of words)
  everywhere each n = elim (cases_lt n (length words)) [
    | inl lt ↦ each n lt
    | inr le ↦ none_times (length words) n numbers (fits_below (length words) words numbers fits) le ∙ sym (none_times (length words) n (ranks_of words) (ranks_below words) le)
  ]

-- ---- the list

above_none : (words : List SentenceWord) (numbers : List ℕ) → 0 < length words → IsArrangement (ranks_of words) numbers → Less [] numbers
above_none words [] some h = let e = size_words words [] h in absurd (omega (arith, e))
above_none words (x ∷ xs) some h = tt

rises_none : (words : List SentenceWord) (all : List (List ℕ)) → 0 < length words → Rises all → AllByRecursion (IsArrangement (ranks_of words)) all → RisesFrom [] all
rises_none words [] some r each = tt
rises_none words (x ∷ xs) some r each = (above_none words x some each.0, r)

pub are_listed : AreListed
are_listed words all some h = record {
  rises = rises_none words all some h.rises h.each;
  each = each_weaker (IsArrangement (ranks_of words)) (λ x. Fits (shape_of words) x × IsArrangement (ranks_of words) x) all (λ x a. (fits_shape words x a, a)) h.each;
  all = λ x fits a less. h.all x a;
}

only_none : (numbers : List ℕ) → IsArrangement [] numbers → In ([] ∷ []) numbers
only_none [] h = inl refl
only_none (x ∷ xs) h = absurd (no_more x xs h)

listed_all : (words : List SentenceWord) (all : List (List ℕ)) → 0 < length words → IsListing (shape_of words) (IsArrangement (ranks_of words)) [] all → AreArrangements (ranks_of words) all
listed_all words all some i = record {
  rises = rises_tail [] all i.rises;
  each = each_weaker (λ x. Fits (shape_of words) x × IsArrangement (ranks_of words) x) (IsArrangement (ranks_of words)) all (λ x k. k.1) i.each;
  all = λ x a. i.all x (fits_shape words x a) a (above_none words x some a);
}

has_one : (words : List SentenceWord) (all : List (List ℕ)) → AreArrangements (ranks_of words) all → HasOneList words
has_one words all h = record { members = all; are = h; only = λ xs k. all_unique (IsArrangement (ranks_of words)) all xs h k }

pub one_list : OneList
one_list [] = has_one [] ([] ∷ []) (record { rises = tt; each = (record { size = refl; each = λ n. refl }, tt); all = only_none })
one_list (word ∷ words) =
    let i = decided_listing_within (shape_of (word ∷ words)) (IsArrangement (ranks_of (word ∷ words))) [] (arrangement_or (word ∷ words)) in
    has_one (word ∷ words) i.0 (listed_all (word ∷ words) i.0 (omega arith) i.1)
