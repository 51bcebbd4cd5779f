-- How many entries each word has, where an entry more is put.
use Rattle.std.proofs.Common.{◌≡◌, ℕ, ◌≤◌, List, [], ◌∷◌, ◌++◌, length, map, max, false, inl, inr, sym, ap, ◌∙◌, subst, arith}
use Rattle.std.specs.Prelude.{bytes_eq}
use Rattle.std.proofs.lemmas.Bool.{cases_Bool}
use Rattle.std.proofs.lemmas.List.{map-append, length-map}
use Rattle.std.proofs.lemmas.Slice.Eq.{bytes_eq-Decides}
use Rattle.xdg_base.specs.declared.ids.EntryNo.{EntryNo}
use Rattle.xdg_packed.specs.Entries.{count_of}
use Rattle.xdg_packed.specs.Lexicon.{Entry, number, places_of, word_of}
use Rattle.xdg_packed.specs.Packing.{Puts}
use Rattle.xdg_packed.proofs.WordLists.{other_word}

module _ (dim field : ℕ) where
  -- each other word has as many as before
  other_count : (entries : List Entry) (e : Entry) (word : List ℕ) → bytes_eq (word_of dim field e) word ≡ false → count_of dim field (entries ++ e ∷ []) word ≡ count_of dim field entries word
  other_count entries e word differs =
      let said = map (word_of dim field) entries in
      let last = word_of dim field e in
      ap (λ words. length (places_of words word)) (map-append (word_of dim field) entries (e ∷ []))
      ∙ sym (length-map (places_of (said ++ last ∷ []) word) number)
      ∙ ap (λ (l : List EntryNo). length l) (other_word said last word differs)
      ∙ length-map (places_of said word) number

  -- the greatest number of before, and that of the word of the entry that is put, bound those of all words
  pub still_bound : (before after : List Entry) (e : Entry) (most count : ℕ) → Puts before e after → count ≡ count_of dim field after (word_of dim field e)
      → ((word : List ℕ) → count_of dim field before word ≤ most) → (word : List ℕ) → count_of dim field after word ≤ max most count
  still_bound before after e most count (inl p) own bound word =
      let less = bound word in
      let same = ap (λ l. count_of dim field l word) p.1 in
      omega (arith, less, same)
  still_bound before after e most count (inr p) own bound word = elim (cases_Bool (bytes_eq (word_of dim field e) word)) [
    | inl t ↦ subst (λ w. count_of dim field after w ≤ max most count) ((bytes_eq-Decides (word_of dim field e) word).0 t) (omega (arith, own))
    | inr f ↦
        let less = bound word in
        let same = ap (λ l. count_of dim field l word) p.1 ∙ other_count before e word f in
        omega (arith, less, same)
  ]
