-- What the arrangements of words keep over a call, and what they lend.
use Rattle.std.proofs.Common.{◌≡◌, ◌<◌, ℕ, zero, suc, List, [], ◌∷◌, Some, None, Bool, true, false, length, refl, sym, ap, ◌∙◌, subst, arith, get_or, slice_get, IsSome, IsPermutation, IsSorted, nat_cmp}
use Rattle.std.proofs.lemmas.List.{length-map}
use Rattle.std.proofs.lemmas.List.Sorted.{IsNonDecreasingBy-from_sort}
use Rattle.std.specs.List.{AllByRecursion, cons_option}
use Rattle.xdg_problem.specs.declared.parts.SentenceWord.{SentenceWord}
use Rattle.xdg_linear.specs.Arranged.{Arranged, Advances, IsHeld, arranged, shown, words_in}
use Rattle.xdg_linear.specs.Arrangements.{IsArrangement, IsNext, IsLast}
use Rattle.xdg_linear.specs.Ranks.{rank_of, ranks_of, words_at}
use Rattle.xdg_linear.proofs.Ends.{climbing_least}
use Rattle.xdg_linear.proofs.Existing.{arrangement_each, ranks_below}
use Rattle.xdg_linear.proofs.Reaching.{advances_more, advances_last}
use Rattle.xdg_linear.proofs.Times.{arrangement_permuted, arrangement_joined, arrangement_back}
use Rattle.xdg_facts.proofs.Lists.{all_at, some_at}
use Rattle.xdg_facts.proofs.Sorting.{climbs_from}

abbrev pub seen : List SentenceWord → Bool → List ℕ → Arranged
seen words begun numbers = record { words = words; present = shown begun numbers }

-- ---- the start

-- the sorted ranks are the least arrangement
pub held_sorted : (words : List SentenceWord) (ranks sorted : List ℕ) → ranks ≡ ranks_of words → IsPermutation ranks sorted → IsSorted nat_cmp sorted → IsHeld words false sorted
held_sorted words ranks sorted are moved rising =
    let h : IsArrangement (ranks_of words) sorted = subst (λ z. IsArrangement z sorted) are (arrangement_permuted ranks sorted moved) in
    let climbs = climbs_from sorted (λ i j le lt. IsNonDecreasingBy-from_sort (λ x. x) sorted rising i j 0 le lt) in
    record {
      arrangement = h;
      least = λ e other k. climbing_least sorted other climbs (arrangement_joined sorted (ranks_of words) other (arrangement_back (ranks_of words) sorted h) k);
    }

-- ---- a call

-- the first call shows the least
pub first_shown : (words : List SentenceWord) (numbers : List ℕ) → IsHeld words false numbers → Advances (record { words = words; present = None }) true (record { words = words; present = Some numbers })
first_shown words numbers held = advances_more (record { words = words; present = None }) (record { words = words; present = Some numbers }) true numbers refl refl refl (record {
  arrangement = held.arrangement;
  after = tt;
  least = λ other h a. held.least refl other h;
})

module _ (words : List SentenceWord) (old new : List ℕ) (h : IsArrangement (ranks_of words) old) where
  next_of : IsNext old (Some old) new → IsNext (ranks_of words) (Some old) new
  next_of next = record {
    arrangement = arrangement_joined (ranks_of words) old new h next.arrangement;
    after = next.after;
    least = λ other k a. next.least other (arrangement_joined old (ranks_of words) other (arrangement_back (ranks_of words) old h) k) a;
  }

  last_of : IsLast old (Some old) → IsLast (ranks_of words) (Some old)
  last_of last = λ other k a. last other (arrangement_joined old (ranks_of words) other (arrangement_back (ranks_of words) old h) k) a

-- a later call puts the next one in the place of the present one, or there is none

pub later_shown : (words : List SentenceWord) (begun : Bool) (old new : List ℕ) (more : Bool) → IsHeld words begun old → (more ≡ true → IsNext old (Some old) new) → (more ≡ false → (new ≡ old) × IsLast old (Some old)) →
    Advances (record { words = words; present = Some old }) more (record { words = words; present = Some new })
later_shown words begun old new true held next last = advances_more (record { words = words; present = Some old }) (record { words = words; present = Some new }) true new refl refl refl (next_of words old new held.arrangement (next refl))
later_shown words begun old new false held next last = advances_last (record { words = words; present = Some old }) (record { words = words; present = Some new }) false refl (ap (λ z. seen words true z) (last refl).0) (last_of words old new held.arrangement (last refl).1)

-- ---- the same, by what the code has at hand

pub first_call : (s : Arranged) (words : List SentenceWord) (begun : Bool) (numbers : List ℕ) → s ≡ seen words begun numbers → begun ≡ false → IsHeld words begun numbers → Advances s true (seen words true numbers)
first_call s words begun numbers is not_begun held =
    let fresh : s ≡ seen words false numbers = is ∙ ap (λ b. seen words b numbers) not_begun in
    subst (λ z. Advances z true (seen words true numbers)) (sym fresh) (first_shown words numbers (subst (λ b. IsHeld words b numbers) not_begun held))

pub later_call : (s : Arranged) (words : List SentenceWord) (begun : Bool) (kept old new put : List ℕ) (more : Bool) → s ≡ seen words begun kept → begun ≡ true → old ≡ kept → put ≡ new → IsHeld words begun kept → (more ≡ true → IsNext old (Some old) new) → (more ≡ false → (new ≡ old) × IsLast old (Some old)) →
    Advances s more (seen words begun put)
later_call s words begun kept old new put more is is_begun is_old is_put held next last =
    let present : s ≡ seen words true old = is ∙ ap (λ b. seen words b kept) is_begun ∙ ap (λ z. seen words true z) (sym is_old) in
    let after : seen words begun put ≡ seen words true new = ap (λ b. seen words b put) is_begun ∙ ap (λ z. seen words true z) is_put in
    subst (λ z. Advances z more (seen words begun put)) (sym present) (subst (λ z. Advances (seen words true old) more z) (sym after) (later_shown words begun old new more (subst (λ z. IsHeld words begun z) (sym is_old) held) next last))

-- ---- what is lent

pub shown_some : (begun : Bool) (numbers : List ℕ) → IsSome (shown begun numbers) → shown begun numbers ≡ Some numbers
shown_some true numbers some = refl
shown_some false numbers some = let h : false ≡ true = some in cc

pub held_size : (words : List SentenceWord) (begun : Bool) (numbers : List ℕ) → IsHeld words begun numbers → length numbers ≡ length words
held_size words begun numbers held = held.arrangement.size ∙ length-map words (λ word. rank_of words word.text)

held_below : (words : List SentenceWord) (begun : Bool) (numbers : List ℕ) → IsHeld words begun numbers → AllByRecursion (λ x. x < length words) numbers
held_below words begun numbers held = arrangement_each (λ x. x < length words) (ranks_of words) numbers held.arrangement (ranks_below words)

-- each number is the place of a word
pub held_within : (words : List SentenceWord) (begun : Bool) (numbers : List ℕ) (place : ℕ) → IsHeld words begun numbers → place < length words → get_or numbers place 0 < length words
held_within words begun numbers place held lt =
    let size = held_size words begun numbers held in
    all_at (λ x. x < length words) numbers place (held_below words begun numbers held) (omega (arith, size))

get_some : (words : List SentenceWord) (k : ℕ) (d : SentenceWord) → k < length words → slice_get words k ≡ Some (get_or words k d)
get_some [] k d lt = absurd (omega arith)
get_some (word ∷ words) zero d lt = refl
get_some (word ∷ words) (suc k) d lt = get_some words k d (omega arith)

get_words : (words : List SentenceWord) (numbers : List ℕ) (place : ℕ) → AllByRecursion (λ x. x < length words) numbers → place < length numbers → slice_get (words_at words numbers) place ≡ slice_get words (get_or numbers place 0)
get_words words [] place each lt = absurd (omega arith)
get_words words (x ∷ xs) zero each lt =
    let word = some_at words x each.0 in
    ap (λ o. slice_get (cons_option o (words_at words xs)) 0) word.1 ∙ sym word.1
get_words words (x ∷ xs) (suc k) each lt =
    let word = some_at words x each.0 in
    ap (λ o. slice_get (cons_option o (words_at words xs)) (suc k)) word.1 ∙ get_words words xs k each.1 (omega arith)

-- the place that is read of the numbers is that of a word
pub word_within : (s : Arranged) (words lent : List SentenceWord) (begun : Bool) (numbers read : List ℕ) (place at : ℕ) → s ≡ seen words begun numbers → lent ≡ words → read ≡ numbers → at ≡ get_or read place 0 → IsHeld words begun numbers → place < length s.words → at < length lent
word_within s words lent begun numbers read place at is is_lent is_read is_at held lt =
    let inside : place < length words = subst (λ z. place < length z.words) is lt in
    let within : get_or numbers place 0 < length words = held_within words begun numbers place held inside in
    let same : at ≡ get_or numbers place 0 = is_at ∙ ap (λ z. get_or z place 0) is_read in
    subst (λ z. at < length z) (sym is_lent) (subst (λ k. k < length words) (sym same) within)

-- and that word is the one at the place of the present arrangement
pub word_lent : (s : Arranged) (words lent : List SentenceWord) (begun : Bool) (numbers read : List ℕ) (place at : ℕ) (word : SentenceWord) → s ≡ seen words begun numbers → lent ≡ words → read ≡ numbers → at ≡ get_or read place 0 → IsHeld words begun numbers → place < length s.words → IsSome s.present → word ≡ get_or lent at word →
    slice_get (arranged s) place ≡ Some word
word_lent s words lent begun numbers read place at word is is_lent is_read is_at held lt some is_word =
    let inside : place < length words = subst (λ z. place < length z.words) is lt in
    let size = held_size words begun numbers held in
    let same : at ≡ get_or numbers place 0 = is_at ∙ ap (λ z. get_or z place 0) is_read in
    let begins : shown begun numbers ≡ Some numbers = shown_some begun numbers (subst (λ z. IsSome z.present) is some) in
    let read_word : word ≡ get_or words (get_or numbers place 0) word = is_word ∙ ap (λ z. get_or z at word) is_lent ∙ ap (λ k. get_or words k word) same in
    ap (λ z. slice_get (arranged z) place) is ∙ ap (λ o. slice_get (words_in words o) place) begins ∙ get_words words numbers place (held_below words begun numbers held) (omega (arith, size)) ∙ get_some words (get_or numbers place 0) word (held_within words begun numbers place held inside) ∙ ap Some (sym read_word)
