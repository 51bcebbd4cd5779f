-- The analysis of a file: accepted or rejected.
use Rattle.std.proofs.Common.{◌≡◌, ◌⊎◌, inl, inr, ℕ, ◌+◌, ◌<◌, ◌≤◌, List, length, map, Some, None, Ok, Err, refl, sym, ◌∙◌, ap, subst, arith}
use Rattle.std.specs.Prelude.{Option, Result}
use Rattle.xdg_base.specs.declared.faults.Cause.TheVariants as causes
use Rattle.xdg_base.specs.declared.faults.Fault.{Fault}
use Rattle.xdg_base.specs.declared.faults.Stop.{Stop}
use Rattle.xdg_base.specs.declared.faults.Stop.TheVariants as stops
use Rattle.xdg_base.specs.Told.{Gives}
use Rattle.xdg_build.specs.Compiled.{compiled}
use Rattle.xdg_build.specs.Refusals.{refusal, IsRefused}
use Rattle.xdg_base.specs.Faults.{fault_reaching}
use Rattle.xdg_build.specs.Solutions.{KeepsSolutions}
use Rattle.xdg_reading.specs.Fits as fitting
use Rattle.xdg_inputs.specs.Answers.{grammar_in, meaning_of}
use Rattle.xdg_inputs.specs.RightLexicons.{HasRightLexicon}
use Rattle.xdg_inputs.specs.declared.expanding.Expanded.{Expanded}
use Rattle.xdg_build.specs.Grammars.{Grammar}
use Rattle.xdg_io.specs.Files.{HasFile}
use Rattle.xdg_problem.specs.declared.analysis.Analysis.{Analysis}
use Rattle.xdg_problem.specs.declared.parts.Parts.{Parts}
use Rattle.xdg_problem.specs.declared.parts.SentenceWord.{SentenceWord}
use Rattle.xdg_reading.specs.Texts as reading
use Rattle.xdg_reading.specs.declared.texts.AnalysisText.{AnalysisText}
use Rattle.xdg_inputs.specs.Analyses.{Analysed, HasAnalysis, HasBadAnalysis, IsNoAnalysis, too_long, unreadable, unknown_word, unfit, analysis_limit}
use Rattle.xdg_inputs.specs.Grammars.{with_words}
use Rattle.xdg_inputs.specs.Judging.{IsJudged, IsNotJudged, no_memory, word_unknown, not_fit, analysed_of, of_words}
use Rattle.xdg_inputs.specs.Refusals.{RejectsAt, Stops, refusal_of}
use Rattle.xdg_inputs.specs.Stages.{Accepts}
use Rattle.xdg_inputs.specs.declared.analysis.Judgeable.{Judgeable}
use Rattle.xdg_inputs.specs.declared.refusals.Refusal.{Refusal}
use Rattle.xdg_inputs.proofs.Settling.{Judges, Settles, settled}
use Rattle.xdg_inputs.proofs.Wording.{grammar_is}
use Rattle.xdg_inputs.proofs.Trees.{first_byte, told_file}
use Rattle.xdg_facts.proofs.Options.{one_value}

-- what `read` says of its answer, and what `fit` says of its own
abbrev pub OneReading : List ℕ → Result AnalysisText Fault → Type 0
OneReading text ours = (answer : Result AnalysisText Fault) → reading.IsAnswer text answer → answer ≡ ours

abbrev pub OneFit : Parts → AnalysisText → Result Analysis Fault → Type 0
OneFit parts t ours = (answer : Result Analysis Fault) → fitting.IsAnswer parts t answer → answer ≡ ours

-- ---- a text, and what it is an analysis of

-- the text is of this analysis of its words, whose problem is this
record IsIn (g : Grammar) (text : List ℕ) (b : Analysed) : Type 0 where
  pub within : length text ≤ analysis_limit
  pub read : AnalysisText
  pub reads : reading.IsAnswer text (Ok read)
  pub known : refusal g read.words ≡ None
  pub parts_are : b.parts ≡ compiled g read.words
  pub fits : fitting.IsAnswer b.parts read (Ok b.analysis)
  pub keeps : KeepsSolutions g read.words b.parts

module _ (g : Grammar) (text : List ℕ) where
  abbrev Verdict : Result Analysed Fault → Type 0
  Verdict (Ok b) = IsIn g text b
  Verdict (Err f) = IsNoAnalysis g text f

  -- a verdict by what is read of the text, and by what its words are refused for
  abbrev ByWords : AnalysisText → Option Fault → Result Analysed Fault → Type 0
  ByWords t (Some w) verdict = verdict ≡ Err (fault_reaching causes.NotAnalysis w.at 0)
  ByWords t None (Ok b) = (b.parts ≡ compiled g t.words) × fitting.IsAnswer (compiled g t.words) t (Ok b.analysis)
  ByWords t None (Err f) = fitting.IsAnswer (compiled g t.words) t (Err f)

  abbrev ByReading : Result AnalysisText Fault → Result Analysed Fault → Type 0
  ByReading (Ok t) verdict = ByWords t (refusal g t.words) verdict
  ByReading (Err f) verdict = verdict ≡ Err f

  by_reading : (read : Result AnalysisText Fault) → length text ≤ analysis_limit → OneReading text read → (verdict : Result Analysed Fault) → Verdict verdict → ByReading read verdict
  by_reading read within one (Ok b) v =
      let fits : fitting.IsAnswer (compiled g v.read.words) v.read (Ok b.analysis) = subst (λ z. fitting.IsAnswer z v.read (Ok b.analysis)) v.parts_are v.fits in
      subst (λ r. ByReading r (Ok b)) (one (Ok v.read) v.reads) (subst (λ k. ByWords v.read k (Ok b)) (sym v.known) (v.parts_are, fits))
  by_reading read within one (Err h) (too_long long e) = absurd (omega (arith, within, long))
  by_reading read within one (Err h) (unreadable small r) = subst (λ o. ByReading o (Err h)) (one (Err h) r) refl
  by_reading read within one (Err h) (unknown_word t w small r e d) = subst (λ o. ByReading o (Err h)) (one (Ok t) r) (subst (λ k. ByWords t k (Err h)) (sym e) (ap Err d))
  by_reading read within one (Err h) (unfit t small r e s) = subst (λ o. ByReading o (Err h)) (one (Ok t) r) (subst (λ k. ByWords t k (Err h)) (sym e) s)

  by_words : (t : AnalysisText) (known : Option Fault) → length text ≤ analysis_limit → OneReading text (Ok t) → refusal g t.words ≡ known → (verdict : Result Analysed Fault) → Verdict verdict → ByWords t known verdict
  by_words t known within one is verdict v = subst (λ k. ByWords t k verdict) is (by_reading (Ok t) within one verdict v)

  -- what comes of an analysis that fits, or of a fault
  abbrev fitted : AnalysisText → Result Analysis Fault → Result Analysed Fault
  fitted t (Ok a) = Ok (record { parts = compiled g t.words; analysis = a })
  fitted t (Err f) = Err f

  by_fit : (t : AnalysisText) (fit : Result Analysis Fault) → OneFit (compiled g t.words) t fit → (verdict : Result Analysed Fault) → ByWords t None verdict → verdict ≡ fitted t fit
  by_fit t fit one (Ok b) v = ap (λ z. Ok (record { parts = z; analysis = b.analysis })) v.0 ∙ ap (fitted t) (one (Ok b.analysis) v.1)
  by_fit t fit one (Err h) v = ap (fitted t) (one (Err h) v)

  only_long : analysis_limit < length text → (verdict : Result Analysed Fault) → Verdict verdict → verdict ≡ Err (fault_reaching causes.TooLong 0 (analysis_limit + 1))
  only_long long (Ok b) v = absurd (let within = v.within in omega (arith, long, within))
  only_long long (Err h) (too_long more e) = ap Err e
  only_long long (Err h) (unreadable small r) = absurd (omega (arith, long, small))
  only_long long (Err h) (unknown_word t w small r e d) = absurd (omega (arith, long, small))
  only_long long (Err h) (unfit t small r e s) = absurd (omega (arith, long, small))

-- ---- steps

module _ (made : Expanded) (right : HasRightLexicon made) (files : List ℕ → Option (List ℕ)) (name text : List ℕ) (file : files name ≡ Some text) where
  abbrev g : Grammar
  g = grammar_in made

  abbrev Settled : Result Analysed Fault → Type 0
  Settled = Settles Analysed (HasBadAnalysis files name (meaning_of made)) (HasAnalysis files name (meaning_of made)) text

  judges : Judges Analysed (HasBadAnalysis files name (meaning_of made)) (HasAnalysis files name (meaning_of made)) text (Verdict g text)
  judges = record {
    has = λ b v. record {
      dim = made.lexicon.dim;
      field = made.lexicon.field;
      place = right.placed.place;
      bytes = text;
      file = file;
      within = v.within;
      read = v.read;
      reads = v.reads;
      known = v.known;
      parts_are = v.parts_are;
      fits = v.fits;
      keeps = v.keeps;
    };
    had = λ b h.
        let there : IsIn (with_words (meaning_of made) h.dim h.field) h.bytes b = record { within = h.within; read = h.read; reads = h.reads; known = h.known; parts_are = h.parts_are; fits = h.fits; keeps = h.keeps } in
        subst (λ z. IsIn z text b) (grammar_is made h.dim h.field right h.place) (subst (λ z. IsIn (with_words (meaning_of made) h.dim h.field) z b) (one_value (files name) h.bytes text h.file file) there);
    refuses = λ f bad. record { dim = made.lexicon.dim; field = made.lexicon.field; place = right.placed.place; file = file; because = bad };
    refused = λ t h q.
        let e = one_value (files name) t text q.file file in
        (e, subst (λ z. IsNoAnalysis z text h) (grammar_is made q.dim q.field right q.place) (subst (λ z. IsNoAnalysis (with_words (meaning_of made) q.dim q.field) z h) e q.because));
  }

  pub long_rejected : analysis_limit < length text → RejectsAt Analysed (HasBadAnalysis files name (meaning_of made)) (HasAnalysis files name (meaning_of made)) (fault_reaching causes.TooLong 0 (analysis_limit + 1)) (record { line = 1; column = 1 })
  long_rejected long = record {
    text = text;
    rejects = settled judges (Err (fault_reaching causes.TooLong 0 (analysis_limit + 1))) (too_long long refl) (only_long g text long);
    place_is = first_byte text (fault_reaching causes.TooLong 0 (analysis_limit + 1)) refl;
  }

  reading_rejected : (f : Fault) → length text ≤ analysis_limit → reading.IsAnswer text (Err f) → OneReading text (Err f) → Settled (Err f)
  reading_rejected f within is one = settled judges (Err f) (unreadable within is) (by_reading g text (Err f) within one)

  module _ (t : AnalysisText) (within : length text ≤ analysis_limit) (is : reading.IsAnswer text (Ok t)) (one : OneReading text (Ok t)) where
    word_rejected : (w : Fault) → refusal g t.words ≡ Some w → Settled (Err (fault_reaching causes.NotAnalysis w.at 0))
    word_rejected w known = settled judges (Err (fault_reaching causes.NotAnalysis w.at 0)) (unknown_word t w within is known refl) (by_words g text t (Some w) within one known)

    fit_rejected : (f : Fault) → refusal g t.words ≡ None → fitting.IsAnswer (compiled g t.words) t (Err f) → OneFit (compiled g t.words) t (Err f) → Settled (Err f)
    fit_rejected f known misfit fits = settled judges (Err f) (unfit t within is known misfit) (λ x v. by_fit g text t (Err f) fits x (by_words g text t None within one known x v))

    analysis_accepted : (b : Analysed) → refusal g t.words ≡ None → b.parts ≡ compiled g t.words → fitting.IsAnswer b.parts t (Ok b.analysis) → OneFit b.parts t (Ok b.analysis) → KeepsSolutions g t.words b.parts → Settled (Ok b)
    analysis_accepted b known parts_are fits fits_one keeps =
        settled judges (Ok b) (record { within = within; read = t; reads = is; known = known; parts_are = parts_are; fits = fits; keeps = keeps }) (λ x v.
        by_fit g text t (Ok b.analysis) (subst (λ z. OneFit z t (Ok b.analysis)) parts_are fits_one) x (by_words g text t None within one known x v)
        ∙ ap (λ z. Ok (record { parts = z; analysis = b.analysis })) (sym parts_are))

-- ---- what the calls leave

pub entries_of : (text : List ℕ) (t : AnalysisText) → reading.IsAnswer text (Ok t) → length t.entries ≡ length t.words
entries_of text t told = each text t told.1.0 told.1.1
  where
    each : (text : List ℕ) (t : AnalysisText) (number : ℕ) → reading.HasLines text t (reading.lines_of number t) ⊎ reading.HasLines text t (reading.lines2_of number t) → length t.entries ≡ length t.words
    each text t number (inl h) = h.each
    each text t number (inr h) = h.each

-- the words of the problem are those of the text
pub same_words : (g : Grammar) (t : AnalysisText) (words : List SentenceWord) (problem : Parts) → words ≡ t.words → problem ≡ compiled g words → map (λ word. word.text) t.words ≡ map (λ word. word.text) problem.words
same_words g t words problem e k = ap (λ w. map (λ word. word.text) w) (sym e ∙ sym (ap (λ p. p.words) k))

pub words_unknown : (g : Grammar) (t : AnalysisText) (words : List SentenceWord) (stop : Stop) → words ≡ t.words → IsRefused g words stop → IsNotJudged g t (of_words stop)
words_unknown g t words (stops.Fault f) e r = word_unknown f (subst (λ w. refusal g w ≡ Some f) e r)
words_unknown g t words stops.OutOfMemory e r = no_memory

pub misfits : (g : Grammar) (t : AnalysisText) (words : List SentenceWord) (problem : Parts) (stop : Stop) → words ≡ t.words → problem ≡ compiled g words → refusal g words ≡ None → fitting.Tells problem t (Err stop)
    → ((answer : Result Analysis Fault) → fitting.IsAnswer problem t answer → Gives answer (Err stop)) → IsNotJudged g t stop
misfits g t words problem (stops.Fault f) e k known tells only =
    let same : problem ≡ compiled g t.words = k ∙ ap (compiled g) e in
    not_fit f (subst (λ w. refusal g w ≡ None) e known) (subst (λ p. fitting.IsAnswer p t (Err f)) same tells) (λ answer a. only answer (subst (λ p. fitting.IsAnswer p t answer) (sym same) a))
misfits g t words problem stops.OutOfMemory e k known tells only = no_memory

module _ (made : Expanded) (right : HasRightLexicon made) (told : Option (List ℕ → Option (List ℕ))) (files : List ℕ → Option (List ℕ)) (name text : List ℕ) (old new : ℕ) (has : HasFile told name text) (within : length text ≤ analysis_limit) where
  reading_stops : (stop : Stop) → reading.Tells text (Err stop) → ((answer : Result AnalysisText Fault) → reading.IsAnswer text answer → Gives answer (Err stop))
      → Stops (told ≡ Some files) old new Analysed (HasBadAnalysis files name (meaning_of made)) (HasAnalysis files name (meaning_of made)) (refusal_of text stop)
  reading_stops (stops.Fault f) tells only = λ t. record { text = text; rejects = reading_rejected made right files name text (told_file told files name text t has) f within tells only; place_is = refl }
  reading_stops stops.OutOfMemory tells only = tt

  -- a text that isn't read stops the call
  pub unread_stops : (read : List ℕ) (stop : Stop) (refusal : Refusal) → read ≡ text → reading.Tells read (Err stop) → ((answer : Result AnalysisText Fault) → reading.IsAnswer read answer → Gives answer (Err stop)) → refusal ≡ refusal_of text stop
      → Stops (told ≡ Some files) old new Analysed (HasBadAnalysis files name (meaning_of made)) (HasAnalysis files name (meaning_of made)) refusal
  unread_stops read stop refused e tells only r =
      subst (Stops (told ≡ Some files) old new Analysed (HasBadAnalysis files name (meaning_of made)) (HasAnalysis files name (meaning_of made))) (sym r)
      (reading_stops stop (subst (λ z. reading.Tells z (Err stop)) e tells) (λ answer a. only answer (subst (λ z. reading.IsAnswer z answer) (sym e) a)))

  judging_stops : (t : AnalysisText) (stop : Stop) → reading.IsAnswer text (Ok t) → OneReading text (Ok t) → IsNotJudged (grammar_in made) t stop
      → Stops (told ≡ Some files) old new Analysed (HasBadAnalysis files name (meaning_of made)) (HasAnalysis files name (meaning_of made)) (refusal_of text stop)
  judging_stops t stops.OutOfMemory is one no_memory = tt
  judging_stops t (stops.Fault f) is one (word_unknown w known) = λ k. record { text = text; rejects = word_rejected made right files name text (told_file told files name text k has) t within is one w known; place_is = refl }
  judging_stops t (stops.Fault f) is one (not_fit h known misfit fits) = λ k. record { text = text; rejects = fit_rejected made right files name text (told_file told files name text k has) t within is one f known misfit fits; place_is = refl }

  -- so does a text that isn't judged
  pub unjudged_stops : (read : List ℕ) (t : AnalysisText) (stop : Stop) (refusal : Refusal) → read ≡ text → reading.Tells read (Ok t) → ((answer : Result AnalysisText Fault) → reading.IsAnswer read answer → Gives answer (Ok t)) → IsNotJudged (grammar_in made) t stop → refusal ≡ refusal_of text stop
      → Stops (told ≡ Some files) old new Analysed (HasBadAnalysis files name (meaning_of made)) (HasAnalysis files name (meaning_of made)) refusal
  unjudged_stops read t stop refused e tells only bad r =
      subst (Stops (told ≡ Some files) old new Analysed (HasBadAnalysis files name (meaning_of made)) (HasAnalysis files name (meaning_of made))) (sym r)
      (judging_stops t stop (subst (λ z. reading.Tells z (Ok t)) e tells) (λ answer a. only answer (subst (λ z. reading.IsAnswer z answer) (sym e) a)) bad)

  -- and one that is judged has its analysis
  pub judged_accepted : (read : List ℕ) (t : AnalysisText) (judgeable : Judgeable) → told ≡ Some files → read ≡ text → reading.Tells read (Ok t) → ((answer : Result AnalysisText Fault) → reading.IsAnswer read answer → Gives answer (Ok t)) → IsJudged (grammar_in made) t judgeable
      → Accepts Analysed (HasBadAnalysis files name (meaning_of made)) (HasAnalysis files name (meaning_of made)) (analysed_of judgeable)
  judged_accepted read t judgeable k e tells only j =
      analysis_accepted made right files name text (told_file told files name text k has) t within (subst (λ z. reading.Tells z (Ok t)) e tells)
      (λ answer a. only answer (subst (λ z. reading.IsAnswer z answer) (sym e) a)) (analysed_of judgeable) j.known j.parts_are j.fits j.one j.keeps
