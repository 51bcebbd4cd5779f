-- The words after a command's name, by what they say.
use Rattle.std.specs.Prelude.{◌≡◌, ℕ, List, [], ◌∷◌, codes}
use Rattle.xdg_command.specs.Items.{Item, AreItems, IsOnce, operands_of}
use Rattle.xdg_command.specs.Commands.{SaysArrange, SaysBest, SaysCorpus, SaysDrill, SaysExplain, SaysParse, SaysResume}
use Rattle.xdg_command.specs.declared.commands.ArrangeOptions.{ArrangeOptions}
use Rattle.xdg_command.specs.declared.commands.BestOptions.{BestOptions}
use Rattle.xdg_command.specs.declared.commands.Command.{Command}
use Rattle.xdg_command.specs.declared.commands.Command.TheVariants as commands
use Rattle.xdg_command.specs.declared.commands.CorpusOptions.{CorpusOptions}
use Rattle.xdg_command.specs.declared.commands.ExplainOptions.{ExplainOptions}
use Rattle.xdg_command.specs.declared.commands.ParseOptions.{ParseOptions}
use Rattle.xdg_command.specs.declared.commands.ResumeOptions.{ResumeOptions}
use Rattle.xdg_command.specs.declared.reading.Verb.{Verb}
use Rattle.xdg_command.specs.declared.reading.Verb.TheVariants as verbs

-- the words are items of which the fact holds, each option given at most once
pub record AreWords (values flags : List (List ℕ)) (words : List (List ℕ)) (P : List Item → Type 0) : Type 0 where
  pub items : List Item
  pub read : AreItems values flags words items
  pub once : IsOnce items
  pub says : P items

-- one operand
abbrev pub IsOneFile : List (List ℕ) → List ℕ → Type 0
IsOneFile words name = AreWords [] [] words (λ items. operands_of items ≡ name ∷ [])

-- what follows `explain`
abbrev pub IsExplain : List (List ℕ) → ExplainOptions → Type 0
IsExplain words options = AreWords (codes "rules" ∷ []) [] words (λ items. SaysExplain items options)

-- what follows `drill`
abbrev pub IsDrill : List (List ℕ) → ℕ → Type 0
IsDrill words number = AreWords [] [] words (λ items. SaysDrill items number)

-- what follows `parse`
abbrev pub IsParse : List (List ℕ) → ParseOptions → Type 0
IsParse words options =
    AreWords (codes "budget" ∷ codes "first" ∷ codes "text" ∷ codes "rules" ∷ []) (codes "segment" ∷ codes "split" ∷ []) words
    (λ items. SaysParse items options)

-- what follows `resume`
abbrev pub IsResume : List (List ℕ) → ResumeOptions → Type 0
IsResume words options = AreWords (codes "budget" ∷ codes "first" ∷ codes "text" ∷ codes "rules" ∷ []) [] words (λ items. SaysResume items options)

-- what follows `corpus`
abbrev pub IsCorpus : List (List ℕ) → CorpusOptions → Type 0
IsCorpus words options = AreWords (codes "budget" ∷ codes "first" ∷ []) (codes "segment" ∷ []) words (λ items. SaysCorpus items options)

-- what follows `arrange`
abbrev pub IsArrange : List (List ℕ) → ArrangeOptions → Type 0
IsArrange words options = AreWords (codes "budget" ∷ []) (codes "segment" ∷ []) words (λ items. SaysArrange items options)

-- what follows `best`
abbrev pub IsBest : List (List ℕ) → BestOptions → Type 0
IsBest words options = AreWords (codes "budget" ∷ []) (codes "segment" ∷ []) words (λ items. SaysBest items options)

-- what follows the name of a command
abbrev pub IsOfVerb : Verb → List (List ℕ) → Command → Type 0
IsOfVerb verbs.Parse words (commands.Parse options) = IsParse words options
IsOfVerb verbs.Resume words (commands.Resume options) = IsResume words options
IsOfVerb verbs.Explain words (commands.Explain options) = IsExplain words options
IsOfVerb verbs.Check words (commands.Check grammar) = IsOneFile words grammar
IsOfVerb verbs.Lexicon words (commands.Lexicon grammar) = IsOneFile words grammar
IsOfVerb verbs.Print words (commands.Print grammar) = IsOneFile words grammar
IsOfVerb verbs.Drill words (commands.Drill number) = IsDrill words number
IsOfVerb verbs.Corpus words (commands.Corpus options) = IsCorpus words options
IsOfVerb verbs.Arrange words (commands.Arrange options) = IsArrange words options
IsOfVerb verbs.Best words (commands.Best options) = IsBest words options
IsOfVerb verb words command = ⊥
