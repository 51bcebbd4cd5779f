-- The words that an input gives: accepted or rejected.
use Rattle.std.proofs.Common.{◌≡◌, ℕ, ◌≤◌, ◌+◌, Bool, List, ◌++◌, length, length-append, Some, None, Ok, Err, refl, sym, ◌∙◌, ap, ap₂, subst, arith}
use Rattle.std.specs.Prelude.{Option, Result, IsUtf8, IfOk}
use Rattle.xdg_arrange.specs.Lists.{HasList, IsBadList, IsRefused, Listed, refusal, refusing}
use Rattle.xdg_base.specs.declared.faults.Cause.TheVariants as causes
use Rattle.xdg_base.specs.declared.faults.Fault.{Fault}
use Rattle.xdg_base.specs.declared.faults.Stop.{Stop}
use Rattle.xdg_base.specs.declared.faults.Stop.TheVariants as stops
use Rattle.xdg_inputs.specs.Answers.{grammar_in, meaning_of}
use Rattle.xdg_inputs.specs.RightLexicons.{HasRightLexicon}
use Rattle.xdg_inputs.specs.declared.expanding.Expanded.{Expanded}
use Rattle.xdg_inputs.specs.Sentences.{IsNoInput, no_words, IsInput, sentence_limit}
use Rattle.xdg_inputs.proofs.Wording.{grammar_is}
use Rattle.xdg_io.specs.Left.{TakesAll, TakesCount}
use Rattle.xdg_io.specs.declared.failures.ReadStop.{ReadStop}
use Rattle.xdg_io.specs.declared.failures.ReadStop.TheVariants as stopped
use Rattle.xdg_inputs.specs.Refusals.{Stops, refusal_of}
use Rattle.xdg_inputs.specs.Stages.{Accepts}
use Rattle.xdg_inputs.specs.declared.refusals.Refusal.{Refusal}
use Rattle.xdg_inputs.specs.declared.refusals.Refusal.TheVariants as refusals
use Rattle.xdg_problem.specs.declared.parts.SentenceWord.{SentenceWord}
use Rattle.xdg_linear.specs.Segments.{words_in}
use Rattle.xdg_inputs.proofs.Taking.{all_taken, input_rejected, long_rejected, taken_or_not}
use Rattle.xdg_base.specs.Faults.{fault_reaching}

-- ---- an input

module _ (made : Expanded) (right : HasRightLexicon made) (segment : Bool) (input : List ℕ) where
  abbrev Has : Listed → Type 0
  Has = HasList (meaning_of made) segment input

  pub list_taken : (listed : Listed) → HasList (meaning_of made) segment input listed → IsInput refusing (grammar_in made) segment input
  list_taken listed h = subst (λ z. IsInput refusing z segment input) (grammar_is made h.dim h.field right h.place) h.taken

  -- the words, which aren't refused
  pub list_accepted : (words : List SentenceWord) → length input ≤ sentence_limit → IsUtf8 input → words ≡ words_in segment input → refusal made.lexicon words ≡ None
      → Accepts Listed (IsBadList (meaning_of made) segment input) (HasList (meaning_of made) segment input) (record { grammar = grammar_in made; words = words })
  list_accepted words within text are known =
      let taken : IsInput refusing (grammar_in made) segment input = record { within = within; text = text; known = subst (λ ws. refusal made.lexicon ws ≡ None) are known } in
      record {
        has = record { dim = made.lexicon.dim; field = made.lexicon.field; place = right.placed.place; grammar_is = refl; words_are = are; taken = taken };
        one = λ other h. ap₂ (λ g ws. let one : Listed = record { grammar = g; words = ws } in one) (h.grammar_is ∙ grammar_is made h.dim h.field right h.place) (h.words_are ∙ sym are);
        never = λ t f q. taken_or_not refusing (grammar_in made) segment input f taken (subst (λ g. IsNoInput refusing g segment input f) (grammar_is made q.dim q.field right q.place) q.because);
      }

  -- those that are
  pub words_stop : (stop : Stop) → length input ≤ sentence_limit → IsUtf8 input → IsRefused made.lexicon (words_in segment input) stop
      → Stops (Unit {0}) 0 0 Listed (IsBadList (meaning_of made) segment input) (HasList (meaning_of made) segment input) (refusal_of input stop)
  words_stop (stops.Fault f) within text e = λ told. record { text = input; rejects = input_rejected refusing made right segment input Has list_taken f (no_words within text e); place_is = refl }
  words_stop stops.OutOfMemory within text e = tt

-- ---- what a source gives

-- as many bytes as were taken are there
taken_within : (told new : Option (List ℕ)) (count : ℕ) (input : List ℕ) → TakesCount told new count → told ≡ Some input → count ≤ length input
taken_within told None count input t e = absurd (let bad : Some input ≡ None = sym e ∙ t.takes.is in cc)
taken_within told (Some rest) count input t e =
    let both : Some input ≡ Some (t.taken ++ rest) = sym e ∙ t.takes.is in
    let is : input ≡ t.taken ++ rest = cc in
    let size = t.count_is in
    let sum = length-append t.taken rest in
    subst (λ z. count ≤ length z) (sym is) (omega (arith, size, sum))

-- more bytes than a sentence may have are refused
pub long_stops : (made : Expanded) → HasRightLexicon made → (segment : Bool) (told new : Option (List ℕ)) (before after : ℕ) (stop : ReadStop) (reached : ℕ) (refusal : Refusal)
    → ((r : ℕ) → stop ≡ stopped.TooLong r → (r ≡ sentence_limit + 1) × TakesCount told new (sentence_limit + 1)) → stop ≡ stopped.TooLong reached → refusal ≡ refusals.Text (fault_reaching causes.TooLong 0 reached) (record { line = 1; column = 1 })
    → (input : List ℕ) → Stops (told ≡ Some input) before after Listed (IsBadList (meaning_of made) segment input) (HasList (meaning_of made) segment input) refusal
long_stops made right segment told new before after stop reached refusal takes is says input =
    let long = takes reached is in
    let refusal_is : refusal ≡ refusals.Text (fault_reaching causes.TooLong 0 (sentence_limit + 1)) (record { line = 1; column = 1 }) =
    says ∙ ap (λ n. refusals.Text (fault_reaching causes.TooLong 0 n) (record { line = 1; column = 1 })) long.0 in
    subst (Stops (told ≡ Some input) before after Listed (IsBadList (meaning_of made) segment input) (HasList (meaning_of made) segment input)) (sym refusal_is)
    (λ e. long_rejected refusing made right segment input (HasList (meaning_of made) segment input) (list_taken made right segment input) (let some = taken_within told new (sentence_limit + 1) input long.1 e in omega (arith, some)))

-- what is found in the bytes is found in the input
pub input_found : (made : Expanded) (segment : Bool) (told new : Option (List ℕ)) (bytes : List ℕ) (result : Result (List SentenceWord) Refusal) → TakesAll told new bytes
    → IfOk result (λ words. Accepts Listed (IsBadList (meaning_of made) segment bytes) (HasList (meaning_of made) segment bytes) (record { grammar = grammar_in made; words = words }))
    → IfOk result (λ words. (input : List ℕ) → told ≡ Some input → Accepts Listed (IsBadList (meaning_of made) segment input) (HasList (meaning_of made) segment input) (record { grammar = grammar_in made; words = words }))
input_found made segment told new bytes (Ok words) takes k = λ input e. subst (λ z. Accepts Listed (IsBadList (meaning_of made) segment z) (HasList (meaning_of made) segment z) (record { grammar = grammar_in made; words = words })) (all_taken told new bytes input takes e).0 k
input_found made segment told new bytes (Err refusal) takes k = tt
