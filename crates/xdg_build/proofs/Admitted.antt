-- What is known of a sentence that is not refused.
use Rattle.std.proofs.Common.{◌≡◌, ℕ, ◌<◌, ◌≤◌, List, [], ◌∷◌, length, Option, Some, None, refl, inl, inr, arith, All}
use Rattle.std.specs.List.{slice_get}
use Rattle.std.proofs.lemmas.List.Elements.{All-nil, All-cons}
use Rattle.std.proofs.lemmas.Option.{slice_get_cases}
use Rattle.xdg_base.specs.declared.faults.Fault.{Fault}
use Rattle.xdg_base.specs.declared.ids.EntryNo.{EntryNo}
use Rattle.xdg_packed.specs.Lexicon.{words_of, numbers_of}
use Rattle.xdg_problem.specs.declared.parts.SentenceWord.{SentenceWord}
use Rattle.xdg_build.specs.Grammars.{Grammar}
use Rattle.xdg_base.specs.declared.faults.Cause.TheVariants as causes
use Rattle.xdg_build.specs.Refusals.{unknown_or, first_unknown, most_words, too_many_or, refusal}

-- the word has an entry
abbrev pub IsKnown : Grammar → SentenceWord → Type 0
IsKnown g word = 0 < length (numbers_of (words_of g.lexicon) word.text)

-- 1 to 128 words, each with an entry
pub record IsAdmitted (g : Grammar) (words : List SentenceWord) : Type 0 where
  pub some : 0 < length words
  pub most : length words ≤ 128
  pub known : All (IsKnown g) words

has_entry : (word : SentenceWord) (numbers : List EntryNo) (later : Option Fault) → unknown_or word numbers later ≡ None → (0 < length numbers) × (later ≡ None)
has_entry word [] later e = cc
has_entry word (entry ∷ more) later e = (omega arith, e)

each_known : (g : Grammar) (words : List SentenceWord) → first_unknown g.lexicon words ≡ None → All (IsKnown g) words
each_known g [] e = All-nil (IsKnown g)
each_known g (word ∷ words) e =
    let here = has_entry word (numbers_of (words_of g.lexicon) word.text) (first_unknown g.lexicon words) e in
    All-cons (IsKnown g) word words here.0 (each_known g words here.1)

none_too_many : (over : Option SentenceWord) (other : Option Fault) → too_many_or most_words causes.TooManyWords over other ≡ None → (over ≡ None) × (other ≡ None)
none_too_many None other e = (refl, e)
none_too_many (Some word) other e = cc

not_longer : (words : List SentenceWord) (most : ℕ) → slice_get words most ≡ None → length words ≤ most
not_longer words most e = elim ((slice_get_cases words most).1) [ inl found ↦ cc | inr past ↦ past.0 ]

pub is_admitted : (g : Grammar) (words : List SentenceWord) → refusal g words ≡ None → IsAdmitted g words
is_admitted g [] e = cc
is_admitted g (word ∷ words) e =
    let parts = none_too_many (slice_get (word ∷ words) 128) (first_unknown g.lexicon (word ∷ words)) e in
    record { some = omega arith; most = not_longer (word ∷ words) 128 parts.0; known = each_known g (word ∷ words) parts.1 }
