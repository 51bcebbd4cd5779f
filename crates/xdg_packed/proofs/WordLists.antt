-- The places of words, while further ones are added.
use Rattle.std.proofs.Common.{◌≡◌, ℕ, suc, ◌+◌, ◌<◌, Bool, true, false, cond, ◌||◌, not, if◌then◌else◌, List, [], ◌∷◌, ◌++◌, length, get_or, map, take, filter, refl, sym, ap, ap₂, subst, inl, inr, ◌∙◌, arith, Some, None, true≢false, slice_set}
use Rattle.std.specs.Prelude.{Option, bytes_eq, option_map}
use Rattle.std.specs.List.{range_with_len}
use Rattle.std.proofs.Math.Bool.{or-false}
use Rattle.std.proofs.Math.ListN.{get_or-append}
use Rattle.std.proofs.Math.Seq.{get_or-append_seam}
use Rattle.std.proofs.lemmas.Bool.{cases_Bool}
use Rattle.std.proofs.lemmas.List.{append-nil, map-append, length-map, length-append, length-take-le, get_or-map}
use Rattle.std.proofs.lemmas.List.Elements.{filter-append}
use Rattle.std.proofs.lemmas.Slice.Eq.{bytes_eq-Decides}
use Rattle.xdg_base.specs.declared.ids.EntryNo.{EntryNo}
use Rattle.xdg_names.specs.Texts.{has_text, place_of}
use Rattle.xdg_names.proofs.Texts.{has_text-append, place_of-Some, place_of-None, differ_more, no_text, stands-has_text}
use Rattle.xdg_packed.specs.Lexicon.{Entry, number, places_of, numbers_of, word_of}
use Rattle.xdg_packed.specs.Words.{IsWordIndex}
use Rattle.xdg_packed.proofs.Packs.{added_last}
use Rattle.xdg_facts.proofs.Texts.{either_way}
use Rattle.xdg_facts.proofs.Truths.{agree_in, none_in, none_or}
use Rattle.xdg_facts.proofs.Lists.{any_default}
use Rattle.xdg_facts.proofs.Fronts.{map_next}
use Rattle.xdg_facts.proofs.Sorting.{range_more}
use Rattle.xdg_facts.specs.Membership.{Differ}

-- ---- places and numbers

-- a word more stands at the last place
places_more : (words : List (List ℕ)) (last word : List ℕ) → places_of (words ++ last ∷ []) word ≡ places_of words word ++ cond (bytes_eq last word) (length words ∷ []) []
places_more words last word =
    let all = words ++ last ∷ [] in
    let test : ℕ → Bool = λ place. bytes_eq (get_or all place []) word in
    ap (λ n. filter test (range_with_len 0 n)) (length-append words (last ∷ []))
    ∙ ap (filter test) (sym (range_more (length words)))
    ∙ filter-append test (range_with_len 0 (length words)) (length words ∷ [])
    ∙ ap₂ (λ places here. places ++ cond here (length words ∷ []) [])
    (agree_in test (λ place. bytes_eq (get_or words place []) word) 0 (length words) (λ place _ within. ap (λ w. bytes_eq w word) (get_or-append words (last ∷ []) [] place (omega (arith, within)))))
    (ap (λ w. bytes_eq w word) (get_or-append_seam words last [] []))

-- no place of a word that doesn't stand there
pub numbers_none : (words : List (List ℕ)) (word : List ℕ) → has_text words word ≡ false → numbers_of words word ≡ []
numbers_none words word none =
    ap (map number) (agree_in (λ place. bytes_eq (get_or words place []) word) (λ _. false) 0 (length words) (λ place _ within. elim (cases_Bool (bytes_eq (get_or words place []) word)) [
      | inl t ↦ absurd (true≢false (sym (stands-has_text words word place (omega (arith, within)) ((bytes_eq-Decides (get_or words place []) word).0 t)) ∙ none))
      | inr f ↦ f
    ])
    ∙ none_in (λ _. false) 0 (length words) (λ _. refl))

numbers_more : (words : List (List ℕ)) (last word : List ℕ) → numbers_of (words ++ last ∷ []) word ≡ numbers_of words word ++ cond (bytes_eq last word) (number (length words) ∷ []) []
numbers_more words last word =
    ap (map number) (places_more words last word)
    ∙ map-append number (places_of words word) (cond (bytes_eq last word) (length words ∷ []) [])
    ∙ ap (λ l. numbers_of words word ++ l) (by (bytes_eq last word))
  where
    by : (b : Bool) → map number (cond b (length words ∷ []) []) ≡ cond b (number (length words) ∷ []) []
    by true = refl
    by false = refl

-- ---- places among words

pub place_inside : (words : List (List ℕ)) (word : List ℕ) (place count : ℕ) → place_of words word ≡ Some place → count ≡ length words → place < count
place_inside words word place count found same =
    let at = place_of-Some words word place found in
    omega (arith, at.0, same)

-- as many lists as words
pub as_many : (said words : List (List ℕ)) (numbers : List (List EntryNo)) → IsWordIndex said words numbers → length numbers ≡ length words
as_many said words numbers index = ap length index.numbered ∙ length-map words (numbers_of said)

pub word_found : (said words : List (List ℕ)) (numbers : List (List EntryNo)) (word : List ℕ) (place : ℕ) → IsWordIndex said words numbers → place_of words word ≡ Some place → get_or numbers place [] ≡ numbers_of said word
word_found said words numbers word place index found =
    let at = place_of-Some words word place found in
    ap (λ ns. get_or ns place []) index.numbered ∙ get_or-map (numbers_of said) words place [] [] at.0 ∙ ap (numbers_of said) at.1

pub word_unknown : (said words : List (List ℕ)) (numbers : List (List EntryNo)) (word : List ℕ) → IsWordIndex said words numbers → place_of words word ≡ None → numbers_of said word ≡ []
word_unknown said words numbers word index found = numbers_none said word (sym (index.all word) ∙ place_of-None words word found)

pub place_within : (said words : List (List ℕ)) (numbers : List (List EntryNo)) (word : List ℕ) (place : ℕ) → IsWordIndex said words numbers → place_of words word ≡ Some place → place < length numbers
place_within said words numbers word place index found = place_inside words word place (length numbers) found (as_many said words numbers index)

-- ---- one word more

module _ (said : List (List ℕ)) (last : List ℕ) where
  abbrev before : List ℕ → List EntryNo
  before word = numbers_of said word

  abbrev after : List ℕ → List EntryNo
  after word = numbers_of (said ++ last ∷ []) word

  -- the last word has one number more
  same_word : (word : List ℕ) → bytes_eq last word ≡ true → after word ≡ before word ++ number (length said) ∷ []
  same_word word is = numbers_more said last word ∙ ap (λ b. before word ++ cond b (number (length said) ∷ []) []) is

  -- each other word keeps its numbers
  pub other_word : (word : List ℕ) → bytes_eq last word ≡ false → after word ≡ before word
  other_word word is = numbers_more said last word ∙ ap (λ b. before word ++ cond b (number (length said) ∷ []) []) is ∙ append-nil (before word)

  -- and it has one place more
  pub own_count : length (places_of (said ++ last ∷ []) last) ≡ length (places_of said last) + 1
  own_count =
      sym (length-map (places_of (said ++ last ∷ []) last) number)
      ∙ ap (λ (l : List EntryNo). length l) (same_word last ((bytes_eq-Decides last last).1 refl))
      ∙ length-append (before last) (number (length said) ∷ [])
      ∙ ap (λ n. n + 1) (length-map (places_of said last) number)

  others : (words : List (List ℕ)) → has_text words last ≡ false → map before words ≡ map after words
  others [] none = refl
  others (first ∷ words) none =
      let n = none_or (bytes_eq first last) (has_text words last) none in
      ap₂ (λ x xs. x ∷ xs) (sym (other_word first (either_way last first ∙ n.0))) (others words n.1)

  place_before : (found : Option ℕ) (place : ℕ) → option_map suc found ≡ Some place → (k : ℕ) × (found ≡ Some k) × (suc k ≡ place)
  place_before None place e = cc
  place_before (Some k) place e = (k, refl, cc)

  known_numbers : (words : List (List ℕ)) (place : ℕ) → Differ words → place_of words last ≡ Some place → slice_set (map before words) place (before last ++ number (length said) ∷ []) ≡ map after words
  known_numbers [] place differ found = cc
  known_numbers (first ∷ words) place differ found = by (bytes_eq first last) refl (λ k at. known_numbers words k differ.1 at) found
    where
      by : (b : Bool) → bytes_eq first last ≡ b → ((k : ℕ) → place_of words last ≡ Some k → slice_set (map before words) k (before last ++ number (length said) ∷ []) ≡ map after words) → (if b then Some 0 else option_map suc (place_of words last)) ≡ Some place
          → slice_set (map before (first ∷ words)) place (before last ++ number (length said) ∷ []) ≡ map after (first ∷ words)
      by true here rest e =
          let at : 0 ≡ place = cc in
          let is : first ≡ last = (bytes_eq-Decides first last).0 here in
          ap (λ k. slice_set (map before (first ∷ words)) k (before last ++ number (length said) ∷ [])) (sym at)
          ∙ ap₂ (λ x xs. x ∷ xs) (sym (same_word last ((bytes_eq-Decides last last).1 refl)) ∙ ap after (sym is)) (others words (ap (has_text words) (sym is) ∙ no_text words first differ.0))
      by false other rest e =
          let p = place_before (place_of words last) place e in
          ap (λ k. slice_set (map before (first ∷ words)) k (before last ++ number (length said) ∷ [])) (sym p.2)
          ∙ ap₂ (λ x xs. x ∷ xs) (sym (other_word first (either_way last first ∙ other))) (rest p.0 p.1)

  -- whether the last word stands among words that stand there already
  still : (words : List (List ℕ)) (word : List ℕ) → has_text words last ≡ true → has_text words word ≡ has_text said word → has_text words word ≡ has_text (said ++ last ∷ []) word
  still words word stands same = elim (cases_Bool (bytes_eq last word)) [
    | inl t ↦
        let is : last ≡ word = (bytes_eq-Decides last word).0 t in
        let here : has_text words word ≡ true = ap (has_text words) (sym is) ∙ stands in
        here ∙ sym (has_text-append said (last ∷ []) word ∙ ap (λ b. has_text said word || (b || false)) t ∙ ap (λ b. b || true) (sym same ∙ here))
    | inr f ↦ same ∙ sym (or-false (has_text said word)) ∙ sym (has_text-append said (last ∷ []) word ∙ ap (λ b. has_text said word || (b || false)) f)
  ]

  -- it stands there already, and its entry is pushed to its numbers
  pub known_word : (words : List (List ℕ)) (numbers : List (List EntryNo)) (place : ℕ) (entry : EntryNo) (old new : List EntryNo) → old ≡ get_or numbers place old → place_of words last ≡ Some place → new ≡ old ++ entry ∷ []
      → entry.0 ≡ length said → IsWordIndex said words numbers → IsWordIndex (said ++ last ∷ []) words (slice_set numbers place new)
  known_word words numbers place entry old new lent found pushed is index =
      let at = place_of-Some words last place found in
      let own : old ≡ before last = lent ∙ any_default numbers place old [] (place_within said words numbers last place index found) ∙ word_found said words numbers last place index found in
      record {
        differ = index.differ;
        all = λ word. still words word (stands-has_text words last place at.0 at.1) (index.all word);
        numbered = ap₂ (λ ns n. slice_set ns place n) index.numbered (pushed ∙ ap₂ (λ ns n. ns ++ n ∷ []) own (ap number is)) ∙ known_numbers words place index.differ found;
      }

  -- it is new, and has its entry alone
  pub new_word : (words more : List (List ℕ)) (numbers grown : List (List EntryNo)) (entry : EntryNo) (added : Bool) (first : List EntryNo) → place_of words last ≡ None → first ≡ entry ∷ [] → grown ≡ numbers ++ first ∷ []
      → added ≡ not (has_text words last) → more ≡ (if added then words ++ last ∷ [] else words) → entry.0 ≡ length said → IsWordIndex said words numbers → IsWordIndex (said ++ last ∷ []) more grown
  new_word words more numbers grown entry added first found one pushed told is counted index =
      let none = place_of-None words last found in
      rw (added_last words more last added found told is, pushed) (record {
        differ = differ_more words last index.differ none;
        all = λ word. has_text-append words (last ∷ []) word ∙ ap (λ b. b || has_text (last ∷ []) word) (index.all word) ∙ sym (has_text-append said (last ∷ []) word);
        numbered = ap₂ (λ ns n. ns ++ n ∷ []) (index.numbered ∙ others words none)
            (one ∙ ap (λ n. n ∷ []) (ap number counted) ∙ ap (λ l. l ++ number (length said) ∷ []) (sym (numbers_none said last (sym (index.all last) ∙ none))) ∙ sym (same_word last ((bytes_eq-Decides last last).1 refl)))
            ∙ sym (map-append after words (last ∷ []));
      })

-- ---- the loop over entries

pub index_next : (dim field : ℕ) (entries : List Entry) (i : ℕ) (entry held : Entry) (word : List ℕ) (words more : List (List ℕ)) (numbers grown : List (List EntryNo)) → i < length entries
    → entry ≡ get_or entries i entry → held ≡ entry → word ≡ word_of dim field held
    → ((before : List (List ℕ)) → i ≡ length before → IsWordIndex before words numbers → IsWordIndex (before ++ word ∷ []) more grown)
    → IsWordIndex (map (word_of dim field) (take i entries)) words numbers → IsWordIndex (map (word_of dim field) (take (i + 1) entries)) more grown
index_next dim field entries i entry held word words more numbers grown within is lent told step index =
    let size : i ≡ length (map (word_of dim field) (take i entries)) = sym (length-map (take i entries) (word_of dim field) ∙ length-take-le i entries (omega (arith, within))) in
    subst (λ said. IsWordIndex said more grown)
    (ap (λ w. map (word_of dim field) (take i entries) ++ w ∷ []) (told ∙ ap (word_of dim field) lent) ∙ sym (map_next (word_of dim field) entries i entry within is))
    (step (map (word_of dim field) (take i entries)) size index)

-- as many lists as words, still
pub still_as_many : (words more : List (List ℕ)) (last : List ℕ) (added : Bool) (count grown : ℕ) → place_of words last ≡ None → added ≡ not (has_text words last) → more ≡ (if added then words ++ last ∷ [] else words) → count ≡ length words → grown ≡ count + 1 → grown ≡ length more
still_as_many words more last added count grown found is e same one =
    let size : length more ≡ length words + 1 = ap length (added_last words more last added found is e) ∙ length-append words (last ∷ []) in
    omega (arith, same, one, size)
