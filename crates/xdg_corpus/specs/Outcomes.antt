-- The outcome of a corpus, and with which statuses it can end.
use Rattle.std.specs.Prelude.{◌≡◌, ℕ, List}
use Rattle.xdg_command.specs.declared.commands.CorpusOptions.{CorpusOptions}
use Rattle.xdg_inputs.specs.Meanings.{Meaning}
use Rattle.xdg_inputs.specs.Outcomes.{Files, GrammarThen}
use Rattle.xdg_inputs.specs.Stages.{Behind}
use Rattle.xdg_inputs.specs.declared.status.Status.{Status}
use Rattle.xdg_inputs.specs.declared.status.Status.TheVariants as statuses
use Rattle.xdg_corpus.specs.Inputs.{HasText, IsBadCorpus}
use Rattle.xdg_corpus.specs.Lines.{lines}
use Rattle.xdg_corpus.specs.Texts.{LinesText}

-- the lines of a text are searched, and the status is Done, whatever becomes of a line
abbrev pub AreSearched : CorpusOptions → Meaning → List ℕ → Status → List ℕ → Type 0
AreSearched options m text status printed = (status ≡ statuses.Done) × LinesText m options 1 (lines text) printed

-- the input has lines, and they are searched
abbrev pub LinesThen : CorpusOptions → List ℕ → Meaning → Status → List ℕ → Type 0
LinesThen options input m = Behind (List ℕ) statuses.BadSentence (IsBadCorpus input) (HasText input) (AreSearched options m)

abbrev pub CorpusOf : CorpusOptions → Files → List ℕ → Status → List ℕ → Type 0
CorpusOf options files input = GrammarThen files options.grammar (λ read. LinesThen options input)

-- the statuses with which it can end: all but these
abbrev pub CorpusEnds : Status → Type 0
CorpusEnds statuses.Usage = ⊥
CorpusEnds statuses.Spent = ⊥
CorpusEnds statuses.BadAnalysis = ⊥
CorpusEnds statuses.BadRules = ⊥
CorpusEnds statuses.BadCosts = ⊥
CorpusEnds status = Unit {0}
