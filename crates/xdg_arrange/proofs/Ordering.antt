-- Words in the order of ranks, one rank more.
use Rattle.std.proofs.Common.{◌≡◌, ◌<◌, ◌+◌, ◌∙◌, ℕ, List, [], ◌∷◌, ◌++◌, true, false, length, take, get_or, nat_lt, refl, append-nil, sym, ap, Some, None}
use Rattle.std.specs.Prelude.{slice_get}
use Rattle.std.specs.List.{cons_option}
use Rattle.std.proofs.lemmas.Bool.{ltb-false, ltb-true}
use Rattle.std.proofs.lemmas.List.{take_more}
use Rattle.std.proofs.lemmas.List.Elements.{filter_map-append}
use Rattle.std.proofs.lemmas.Option.{slice_get_past, slice_get_read}
use Rattle.xdg_linear.specs.Ranks.{words_at}
use Rattle.xdg_problem.specs.declared.parts.SentenceWord.{SentenceWord}

module _ (words : List SentenceWord) (ranks : List ℕ) (i rank : ℕ) (within : i < length ranks) (is : rank ≡ get_or ranks i 0) (made : List SentenceWord) (so_far : made ≡ words_at words (take i ranks)) where
  words_more : words_at words (take (i + 1) ranks) ≡ words_at words (take i ranks) ++ cons_option (slice_get words rank) []
  words_more =
      ap (words_at words) (take_more ranks i 0 within)
      ∙ filter_map-append (λ r. slice_get words r) (take i ranks) (get_or ranks i 0 ∷ [])
      ∙ ap (λ r. words_at words (take i ranks) ++ cons_option (slice_get words r) []) (sym is)

  -- a word stands at it, a copy of which was added
  pub word_more : (word : SentenceWord) (text : List ℕ) (new : List SentenceWord) → true ≡ nat_lt rank (length words) → word ≡ get_or words rank word → text ≡ word.text
      → new ≡ made ++ record { text = text; at = word.at } ∷ [] → new ≡ words_at words (take (i + 1) ranks)
  word_more word text new known read copied added =
      let there : slice_get words rank ≡ Some word = slice_get_read words (length words) rank word refl (ltb-true rank (length words) (sym known)) read in
      added
      ∙ ap (λ t. made ++ record { text = t; at = word.at } ∷ []) copied
      ∙ ap (λ m. m ++ word ∷ []) so_far
      ∙ ap (λ o. words_at words (take i ranks) ++ cons_option o []) (sym there)
      ∙ sym words_more

  -- none stands there
  pub no_word_more : false ≡ nat_lt rank (length words) → made ≡ words_at words (take (i + 1) ranks)
  no_word_more known =
      let none : slice_get words rank ≡ None = slice_get_past words rank (ltb-false rank (length words) (sym known)) in
      so_far ∙ sym (append-nil (words_at words (take i ranks))) ∙ ap (λ o. words_at words (take i ranks) ++ cons_option o []) (sym none) ∙ sym words_more
