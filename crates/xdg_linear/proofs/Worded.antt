-- As lists of texts the arrangements are those that have each text as often as the words have it.
use Rattle.std.proofs.Common.{◌≡◌, ◌<◌, ◌≤◌, ◌+◌, inl, inr, ℕ, suc, List, [], ◌∷◌, ◌==◌, Some, cond, length, map, refl, sym, ap, ◌∙◌, subst, arith, slice_get, bytes_eq, eq-eqb, ne_eqb, one-add}
use Rattle.std.proofs.lemmas.Bool.{cases_lt}
use Rattle.std.proofs.lemmas.List.{length-map}
use Rattle.std.specs.List.{AllByRecursion, cons_option}
use Rattle.xdg_problem.specs.declared.parts.SentenceWord.{SentenceWord}
use Rattle.xdg_linear.specs.Arrangements.{times, IsArrangement}
use Rattle.xdg_linear.specs.Ranks.{rank_of, ranks_of, words_at}
use Rattle.xdg_linear.specs.Texts.{texts_of, texts_at, text_times, HasEachText, TextsArranged}
use Rattle.xdg_linear.proofs.Existing.{arrangement_each}
use Rattle.xdg_linear.proofs.Times.{at_times}
use Rattle.xdg_facts.proofs.Texts.{is_same, text_or}

-- ---- the first word of a text

-- the word at a place, by its text
abbrev pub StandsAt : List SentenceWord → List ℕ → ℕ → Type 0
StandsAt words text rank = (word : SentenceWord) × (slice_get words rank ≡ Some word) × (word.text ≡ text)

first_stands : (words : List SentenceWord) (text : List ℕ) → rank_of words text < length words → StandsAt words text (rank_of words text)
first_stands [] text lt = absurd (omega arith)
first_stands (word ∷ words) text lt = elim (text_or word.text text) [
  | inl same ↦ (let here : 0 ≡ rank_of (word ∷ words) text = sym (ap (λ b. cond b 0 (1 + rank_of words text)) same.0) in subst (StandsAt (word ∷ words) text) here (word, refl, same.1))
  | inr other ↦ (
      let behind : rank_of (word ∷ words) text ≡ 1 + rank_of words text = ap (λ b. cond b 0 (1 + rank_of words text)) other.0 in
      let place : suc (rank_of words text) ≡ rank_of (word ∷ words) text = sym (one-add (rank_of words text)) ∙ sym behind in
      subst (StandsAt (word ∷ words) text) place (first_stands words text (omega (arith, place, lt)))
      )
]

-- a text that stands among the words
abbrev Stands : List SentenceWord → List ℕ → Type 0
Stands words text = rank_of words text < length words

-- texts of one rank are one, if one of them stands among the words
rank_injective : (words : List SentenceWord) (one other : List ℕ) → Stands words one → rank_of words one ≡ rank_of words other → one ≡ other
rank_injective words one other stands e =
    let first = first_stands words one stands in
    let second = first_stands words other (subst (λ k. k < length words) e stands) in
    let got : Some first.0 ≡ Some second.0 = sym first.1 ∙ ap (slice_get words) e ∙ second.1 in
    let same : first.0 ≡ second.0 = cc in
    sym first.2 ∙ ap (λ word. word.text) same ∙ second.2

-- a text is another exactly where its rank is
rank_tells : (words : List SentenceWord) (one other : List ℕ) → Stands words one → bytes_eq one other ≡ (rank_of words one == rank_of words other)
rank_tells words one other stands = elim (text_or one other) [
  | inl same ↦ same.0 ∙ sym (eq-eqb (rank_of words one) (rank_of words other) (ap (rank_of words) same.1))
  | inr differs ↦ differs.0 ∙ sym (ne_eqb (rank_of words one) (rank_of words other) (λ e. differs.1 (rank_injective words one other stands e)))
]

-- ---- ranks of texts

abbrev IsRank : List SentenceWord → ℕ → Type 0
IsRank words rank = (text : List ℕ) × Stands words text × (rank_of words text ≡ rank)

all_stand : (P : List ℕ → Type 0) (texts : List (List ℕ)) → ((text : List ℕ) → 0 < text_times text texts → P text) → AllByRecursion P texts
all_stand P [] each = tt
all_stand P (text ∷ texts) each = (
  each text (let own : text_times text (text ∷ texts) ≡ 1 + text_times text texts = ap (λ b. cond b 1 0 + text_times text texts) (is_same text text refl) in omega (arith, own)),
  all_stand P texts (λ other lt. each other (more (cond (bytes_eq text other) 1 0) (text_times other texts) lt)),
) where
  more : (j k : ℕ) → 0 < k → 0 < j + k
  more j k lt = omega arith

-- the words' texts stand among the words: those of the last words, where others stand before them
text_within : (words : List SentenceWord) (text : List ℕ) → 0 < text_times text (texts_of words) → Stands words text
text_within [] text some = absurd (omega arith)
text_within (word ∷ words) text some = elim (text_or word.text text) [
  | inl same ↦ (let here : rank_of (word ∷ words) text ≡ 0 = ap (λ b. cond b 0 (1 + rank_of words text)) same.0 in omega (arith, here))
  | inr differs ↦ (
      let none : text_times text (texts_of (word ∷ words)) ≡ 0 + text_times text (texts_of words) = ap (λ b. cond b 1 0 + text_times text (texts_of words)) differs.0 in
      let behind : rank_of (word ∷ words) text ≡ 1 + rank_of words text = ap (λ b. cond b 0 (1 + rank_of words text)) differs.0 in
      let rest : rank_of words text < length words = text_within words text (omega (arith, none)) in
      omega (arith, behind, rest)
      )
]

all_within : (words : List SentenceWord) → AllByRecursion (Stands words) (texts_of words)
all_within words = all_stand (Stands words) (texts_of words) (text_within words)

ranks_mapped : (words some : List SentenceWord) → map (λ word. rank_of words word.text) some ≡ map (rank_of words) (texts_of some)
ranks_mapped words [] = refl
ranks_mapped words (word ∷ more) = ap (λ z. rank_of words word.text ∷ z) (ranks_mapped words more)

mapped_ranks : (words : List SentenceWord) (texts : List (List ℕ)) → AllByRecursion (Stands words) texts → AllByRecursion (IsRank words) (map (rank_of words) texts)
mapped_ranks words [] each = tt
mapped_ranks words (text ∷ texts) each = ((text, each.0, refl), mapped_ranks words texts each.1)

-- as often as a text stands among texts its rank stands among theirs
times_mapped : (words : List SentenceWord) (text : List ℕ) (texts : List (List ℕ)) → AllByRecursion (Stands words) texts → text_times text texts ≡ times (rank_of words text) (map (rank_of words) texts)
times_mapped words text [] each = refl
times_mapped words text (other ∷ others) each =
    ap (λ b. cond b 1 0 + text_times text others) (rank_tells words other text each.0) ∙ ap (λ k. cond (rank_of words other == rank_of words text) 1 0 + k) (times_mapped words text others each.1)

module _ (words : List SentenceWord) where
  own_ranks : ranks_of words ≡ map (rank_of words) (texts_of words)
  own_ranks = ranks_mapped words words

  all_ranks : AllByRecursion (IsRank words) (ranks_of words)
  all_ranks = subst (AllByRecursion (IsRank words)) (sym own_ranks) (mapped_ranks words (texts_of words) (all_within words))

  own_times : (text : List ℕ) → text_times text (texts_of words) ≡ times (rank_of words text) (ranks_of words)
  own_times text = times_mapped words text (texts_of words) (all_within words) ∙ ap (times (rank_of words text)) (sym own_ranks)

  -- ---- the texts at ranks

  one_text : (rank : ℕ) (rest : List ℕ) → IsRank words rank → (text : List ℕ) × Stands words text × (rank_of words text ≡ rank) × (texts_at words (rank ∷ rest) ≡ text ∷ texts_at words rest)
  one_text rank rest is =
      let first = first_stands words is.0 is.1 in
      let got : slice_get words rank ≡ Some first.0 = sym (ap (slice_get words) is.2) ∙ first.1 in
      (is.0, is.1, is.2, ap (λ o. texts_of (cons_option o (words_at words rest))) got ∙ ap (λ text. text ∷ texts_at words rest) first.2)

  texts_stand : (numbers : List ℕ) → AllByRecursion (IsRank words) numbers → AllByRecursion (Stands words) (texts_at words numbers)
  texts_stand [] each = tt
  texts_stand (x ∷ xs) each = let one = one_text x xs each.0 in subst (AllByRecursion (Stands words)) (sym one.3) (one.1, texts_stand xs each.1)

  -- their ranks are these ranks
  ranks_back : (numbers : List ℕ) → AllByRecursion (IsRank words) numbers → map (rank_of words) (texts_at words numbers) ≡ numbers
  ranks_back [] each = refl
  ranks_back (x ∷ xs) each =
      let one = one_text x xs each.0 in
      ap (map (rank_of words)) one.3 ∙ ap (λ k. k ∷ map (rank_of words) (texts_at words xs)) one.2 ∙ ap (λ z. x ∷ z) (ranks_back xs each.1)

  -- and the texts at the ranks of texts are these texts
  texts_back : (texts : List (List ℕ)) → AllByRecursion (Stands words) texts → texts_at words (map (rank_of words) texts) ≡ texts
  texts_back [] each = refl
  texts_back (text ∷ texts) each =
      let first = first_stands words text each.0 in
      ap (λ o. texts_of (cons_option o (words_at words (map (rank_of words) texts)))) first.1 ∙ ap (λ z. z ∷ texts_at words (map (rank_of words) texts)) first.2 ∙ ap (λ z. text ∷ z) (texts_back texts each.1)

  -- ---- the law

  ranks_each : (numbers : List ℕ) → IsArrangement (ranks_of words) numbers → AllByRecursion (IsRank words) numbers
  ranks_each numbers h = arrangement_each (IsRank words) (ranks_of words) numbers h all_ranks

  texts_right : (numbers : List ℕ) → IsArrangement (ranks_of words) numbers → HasEachText words (texts_at words numbers)
  texts_right numbers h =
      let back = ranks_back numbers (ranks_each numbers h) in
      record {
        size = sym (length-map (texts_at words numbers) (rank_of words)) ∙ ap length back ∙ h.size ∙ length-map words (λ word. rank_of words word.text);
        each = λ text. times_mapped words text (texts_at words numbers) (texts_stand numbers (ranks_each numbers h)) ∙ ap (times (rank_of words text)) back ∙ h.each (rank_of words text) ∙ sym (own_times text);
      }

  texts_within : (texts : List (List ℕ)) → HasEachText words texts → AllByRecursion (Stands words) texts
  texts_within texts h = all_stand (Stands words) texts (λ text some. text_within words text (let same = h.each text in omega (arith, same)))

  -- a rank stands among those of the texts as often as among those of the words
  same_times : (texts : List (List ℕ)) (h : HasEachText words texts) (n : ℕ) → IsRank words n → times n (map (rank_of words) texts) ≡ times n (ranks_of words)
  same_times texts h n is =
      subst (λ k. times k (map (rank_of words) texts) ≡ times k (ranks_of words)) is.2 (sym (times_mapped words is.0 texts (texts_within texts h)) ∙ h.each is.0 ∙ own_times is.0)

  texts_arrangement : (texts : List (List ℕ)) → HasEachText words texts → IsArrangement (ranks_of words) (map (rank_of words) texts)
  texts_arrangement texts h = record {
    size = length-map texts (rank_of words) ∙ h.size ∙ sym (length-map words (λ word. rank_of words word.text));
    each = each;
  } where
    each : (n : ℕ) → times n (map (rank_of words) texts) ≡ times n (ranks_of words)
    each n = elim (cases_lt 0 (times n (ranks_of words))) [
      | inl some ↦ same_times texts h n (at_times (IsRank words) n (ranks_of words) some all_ranks)
      | inr none ↦ elim (cases_lt 0 (times n (map (rank_of words) texts))) [
        | inl some ↦ same_times texts h n (at_times (IsRank words) n (map (rank_of words) texts) some (mapped_ranks words texts (texts_within texts h)))
        | inr absent ↦ (let one : times n (ranks_of words) ≤ 0 = none in let other : times n (map (rank_of words) texts) ≤ 0 = absent in omega arith)
      ]
    ]

pub texts_arranged : TextsArranged
texts_arranged words = record {
  right = texts_right words;
  every = λ texts h. (map (rank_of words) texts, texts_arrangement words texts h, texts_back words texts (texts_within words texts h));
  once = λ one other h k e. sym (ranks_back words one (ranks_each words one h)) ∙ ap (map (rank_of words)) e ∙ ranks_back words other (ranks_each words other k);
}
