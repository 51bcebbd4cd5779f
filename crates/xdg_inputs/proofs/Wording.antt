-- The words of a text: accepted or rejected.
use Rattle.std.proofs.Common.{◌≡◌, ℕ, Bool, List, Some, None, Ok, Err, sym, ◌∙◌, ap, subst}
use Rattle.std.specs.Prelude.{Result, IfOk, IfErr}
use Rattle.xdg_base.specs.declared.faults.Fault.{Fault}
use Rattle.xdg_base.specs.declared.faults.Stop.{Stop}
use Rattle.xdg_base.specs.declared.faults.Stop.TheVariants as stops
use Rattle.xdg_build.specs.Compiled.{compiled}
use Rattle.xdg_build.specs.Refusals.{refusal, IsRefused}
use Rattle.xdg_build.specs.Solutions.{KeepsSolutions}
use Rattle.xdg_packed.specs.Entries.{IsWordPlace}
use Rattle.xdg_inputs.specs.Answers.{grammar_in, meaning_of}
use Rattle.xdg_inputs.specs.RightLexicons.{HasRightLexicon}
use Rattle.xdg_inputs.specs.declared.expanding.Expanded.{Expanded}
use Rattle.xdg_build.specs.Grammars.{Grammar}
use Rattle.xdg_problem.specs.declared.parts.Parts.{Parts}
use Rattle.xdg_problem.specs.declared.parts.SentenceWord.{SentenceWord}
use Rattle.xdg_linear.specs.Segments.{words_in}
use Rattle.xdg_inputs.specs.Grammars.{with_words}
use Rattle.xdg_inputs.specs.Made.{IsMade}
use Rattle.xdg_inputs.specs.Sentences.{IsBadWords, HasWords, AcceptsWords, RejectsWords, StopsWords}

-- ---- one grammar

-- wherever the words are said to stand, the grammar is the one that is expanded
pub grammar_is : (made : Expanded) (dim field : ℕ) → HasRightLexicon made → IsWordPlace made.checked.types dim field → with_words (meaning_of made) dim field ≡ grammar_in made
grammar_is made dim field right place =
    let same = right.placed.one dim field place in
    ap (λ z. with_words (meaning_of made) z field) same.0 ∙ ap (λ z. with_words (meaning_of made) made.lexicon.dim z) same.1

-- ---- words, and their problem

module _ (made : Expanded) (right : HasRightLexicon made) (segment : Bool) (text : List ℕ) where
  -- wherever the words are said to stand, they are refused for this
  fault_here : (f : Fault) → (q : IsBadWords (meaning_of made) segment text f) → refusal (grammar_in made) (words_in segment text) ≡ Some f
  fault_here f q = subst (λ g. refusal g (words_in segment text) ≡ Some f) (grammar_is made q.dim q.field right q.place) q.because

  known_here : (parts : Parts) → (h : HasWords (meaning_of made) segment text parts) → refusal (grammar_in made) (words_in segment text) ≡ None
  known_here parts h = subst (λ g. refusal g (words_in segment text) ≡ None) (grammar_is made h.dim h.field right h.place) h.known

  parts_here : (parts : Parts) → (h : HasWords (meaning_of made) segment text parts) → parts ≡ compiled (grammar_in made) (words_in segment text)
  parts_here parts h = h.parts_are ∙ ap (λ g. compiled g (words_in segment text)) (grammar_is made h.dim h.field right h.place)

  words_accepted : (words : List SentenceWord) (parts : Parts) → words ≡ words_in segment text → parts ≡ compiled (grammar_in made) words → refusal (grammar_in made) words ≡ None
      → KeepsSolutions (grammar_in made) words parts → AcceptsWords (meaning_of made) segment text parts
  words_accepted words parts are compiled_is known keeps =
      let g = grammar_in made in
      let none : refusal g (words_in segment text) ≡ None = subst (λ w. refusal g w ≡ None) are known in
      let whole : parts ≡ compiled g (words_in segment text) = compiled_is ∙ ap (compiled g) are in
      record {
        has = record {
          dim = made.lexicon.dim;
          field = made.lexicon.field;
          place = right.placed.place;
          known = none;
          parts_are = whole;
          keeps = subst (λ w. KeepsSolutions g w parts) are keeps;
        };
        one = λ b h. parts_here b h ∙ sym whole;
        never = λ f q. let e : None ≡ Some f = sym none ∙ fault_here f q in cc;
      }

  words_rejected : (words : List SentenceWord) (f : Fault) → words ≡ words_in segment text → refusal (grammar_in made) words ≡ Some f → RejectsWords (meaning_of made) segment text f
  words_rejected words f are is =
      let g = grammar_in made in
      let some : refusal g (words_in segment text) ≡ Some f = subst (λ w. refusal g w ≡ Some f) are is in
      record {
        is = record { dim = made.lexicon.dim; field = made.lexicon.field; place = right.placed.place; because = some };
        one = λ h q. let e : Some h ≡ Some f = sym (fault_here h q) ∙ some in cc;
        never = λ b h. let e : None ≡ Some f = sym (known_here b h) ∙ some in cc;
      }

  words_stop : (words : List SentenceWord) (stop : Stop) → words ≡ words_in segment text → IsRefused (grammar_in made) words stop → StopsWords (meaning_of made) segment text stop
  words_stop words (stops.Fault f) are is = words_rejected words f are is
  words_stop words stops.OutOfMemory are is = tt

  -- what is built of the words is accepted
  pub built_accepted : (words : List SentenceWord) (result : Result Parts Stop) → words ≡ words_in segment text → IfOk result (λ parts. parts ≡ compiled (grammar_in made) words)
      → IfOk result (λ parts. refusal (grammar_in made) words ≡ None) → IfOk result (KeepsSolutions (grammar_in made) words) → IfOk result (AcceptsWords (meaning_of made) segment text)
  built_accepted words (Ok parts) are compiled_is known keeps = words_accepted words parts are compiled_is known keeps
  built_accepted words (Err stop) are compiled_is known keeps = tt

  -- and what isn't built is rejected
  pub built_stops : (words : List SentenceWord) (result : Result Parts Stop) → words ≡ words_in segment text → IfErr result (IsRefused (grammar_in made) words) → IfErr result (StopsWords (meaning_of made) segment text)
  built_stops words (Ok parts) are stopped = tt
  built_stops words (Err stop) are stopped = words_stop words stop are stopped

-- what is built is made of words
pub made_of : (g : Grammar) (words : List SentenceWord) (result : Result Parts Stop) → IfOk result (λ parts. parts ≡ compiled g words) → IfOk result (IsMade g)
made_of g words (Ok parts) is = record { words = words; is = is }
made_of g words (Err stop) is = tt
