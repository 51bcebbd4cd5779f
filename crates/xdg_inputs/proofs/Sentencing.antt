-- The sentence that an input gives: accepted or rejected.
use Rattle.std.proofs.Common.{◌≡◌, ℕ, ◌≤◌, Bool, List, length, Some, refl, subst, arith}
use Rattle.std.specs.Prelude.{IsUtf8}
use Rattle.xdg_base.specs.declared.faults.Fault.{Fault}
use Rattle.xdg_base.specs.declared.faults.Stop.{Stop}
use Rattle.xdg_base.specs.declared.faults.Stop.TheVariants as stops
use Rattle.xdg_problem.specs.declared.parts.Parts.{Parts}
use Rattle.xdg_linear.specs.Segments.{words_in}
use Rattle.xdg_build.specs.Grammars.{Grammar}
use Rattle.xdg_build.specs.Refusals.{refusal}
use Rattle.xdg_inputs.specs.Answers.{grammar_in, meaning_of}
use Rattle.xdg_inputs.specs.RightLexicons.{HasRightLexicon}
use Rattle.xdg_inputs.specs.declared.expanding.Expanded.{Expanded}
use Rattle.xdg_inputs.specs.Grammars.{with_words}
use Rattle.xdg_inputs.specs.Meanings.{Meaning}
use Rattle.xdg_inputs.specs.Refusals.{Stops, refusal_of}
use Rattle.xdg_inputs.specs.Sentences.{IsBadWords, HasWords, AcceptsWords, RejectsWords, StopsWords, IsNoInput, too_long, no_text, no_words, IsInput, IsBadSentence, HasProblem, sentence_limit}
use Rattle.xdg_inputs.specs.Stages.{Accepts, Rejects}
use Rattle.xdg_inputs.proofs.Wording.{grammar_is}

-- an input that is short enough and UTF-8 is refused for its words alone
fault_of_words : (g : Grammar) (segment : Bool) (input : List ℕ) (f : Fault) → length input ≤ sentence_limit → IsUtf8 input → IsNoInput refusal g segment input f → refusal g (words_in segment input) ≡ Some f
fault_of_words g segment input f within text (too_long long e) = absurd (omega (arith, within, long))
fault_of_words g segment input f within text (no_text at small ill valid e) = absurd (ill text)
fault_of_words g segment input f within text (no_words small texts e) = e

module _ (m : Meaning) (segment : Bool) (input : List ℕ) (within : length input ≤ sentence_limit) (text : IsUtf8 input) where
  bad_words : (t : List ℕ) (f : Fault) → IsBadSentence m segment input t f → IsBadWords m segment input f
  bad_words t f q = record { dim = q.dim; field = q.field; place = q.place; because = fault_of_words (with_words m q.dim q.field) segment input f within text q.because }

  has_words : (parts : Parts) → HasProblem m segment input parts → HasWords m segment input parts
  has_words parts h = record { dim = h.dim; field = h.field; place = h.place; known = h.sentence.known; parts_are = h.parts_are; keeps = h.keeps }

  has_problem : (parts : Parts) → HasWords m segment input parts → HasProblem m segment input parts
  has_problem parts h = record { dim = h.dim; field = h.field; place = h.place; sentence = record { within = within; text = text; known = h.known }; parts_are = h.parts_are; keeps = h.keeps }

  pub sentence_accepted : (parts : Parts) → AcceptsWords m segment input parts → Accepts Parts (IsBadSentence m segment input) (HasProblem m segment input) parts
  sentence_accepted parts k = record { has = has_problem parts k.has; one = λ b h. k.one b (has_words b h); never = λ t f q. k.never f (bad_words t f q) }

  words_rejected : (f : Fault) → RejectsWords m segment input f → Rejects Parts (IsBadSentence m segment input) (HasProblem m segment input) input f
  words_rejected f r = record {
    is = let q = r.is in record { dim = q.dim; field = q.field; place = q.place; text_is = refl; because = no_words within text q.because };
    one = λ t h q. (q.text_is, r.one h (bad_words t h q));
    never = λ b h. r.never b (has_words b h);
  }

  pub sentence_stops : (stop : Stop) → StopsWords m segment input stop → Stops (Unit {0}) 0 0 Parts (IsBadSentence m segment input) (HasProblem m segment input) (refusal_of input stop)
  sentence_stops (stops.Fault f) r = λ told. record { text = input; rejects = words_rejected f r; place_is = refl }
  sentence_stops stops.OutOfMemory r = tt

-- a problem of the input says that it is taken
pub problem_taken : (made : Expanded) → HasRightLexicon made → (segment : Bool) (input : List ℕ) (parts : Parts) → HasProblem (meaning_of made) segment input parts → IsInput refusal (grammar_in made) segment input
problem_taken made right segment input parts h = subst (λ z. IsInput refusal z segment input) (grammar_is made h.dim h.field right h.place) h.sentence
