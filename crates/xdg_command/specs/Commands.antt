-- Which words are which command.
use Rattle.std.specs.Prelude.{◌≡◌, ◌≤◌, ℕ, true, List, [], ◌∷◌, Option, Some, None, length, codes}
use Rattle.std.specs.List.{list_all}
use Rattle.std.specs.Char.{is_ascii_digit}
use Rattle.std.specs.Str.Parse.{digits_value}
use Rattle.xdg_command.specs.Items.{Item, AreItems, IsOnce, has_flag, operands_of, value_of}
use Rattle.xdg_command.specs.declared.commands.ArrangeOptions.{ArrangeOptions}
use Rattle.xdg_command.specs.declared.commands.BestOptions.{BestOptions}
use Rattle.xdg_command.specs.declared.commands.Command.{Command}
use Rattle.xdg_command.specs.declared.commands.Command.TheVariants as commands
use Rattle.xdg_command.specs.declared.commands.CorpusOptions.{CorpusOptions}
use Rattle.xdg_command.specs.declared.commands.ExplainOptions.{ExplainOptions}
use Rattle.xdg_command.specs.declared.commands.ParseOptions.{ParseOptions}
use Rattle.xdg_command.specs.declared.commands.ResumeOptions.{ResumeOptions}
use Rattle.xdg_text.specs.declared.form.Form.{Form}
use Rattle.xdg_text.specs.declared.form.Form.TheVariants as forms

-- the text is one to ten ASCII digits, which write this number, and the number lies in the range
pub record IsNumber (least most : ℕ) (text : List ℕ) (number : ℕ) : Type 0 where
  pub digits : list_all is_ascii_digit text ≡ true
  pub some : 1 ≤ length text
  pub ten : length text ≤ 10
  pub value : number ≡ digits_value 10 text
  pub above : least ≤ number
  pub below : number ≤ most

-- the number of a drill, 0 to 999,999
abbrev pub IsDrillNumber : List ℕ → ℕ → Type 0
IsDrillNumber text number = IsNumber 0 999999 text number

-- ---- the values of options

-- the budget of a search to which none is given
abbrev pub default_budget : ℕ
default_budget = 10000000

-- `--budget N`, 1 to 1,000,000,000, or the default
abbrev pub HasBudget : Option (List ℕ) → ℕ → Type 0
HasBudget None budget = budget ≡ default_budget
HasBudget (Some text) budget = IsNumber 1 1000000000 text budget

-- `--first N`, 1 to 1,000,000
abbrev pub HasFirst : Option (List ℕ) → Option ℕ → Type 0
HasFirst None None = Unit {0}
HasFirst None (Some first) = ⊥
HasFirst (Some text) None = ⊥
HasFirst (Some text) (Some first) = IsNumber 1 1000000 text first

-- `--text N`, 1 or 2; 1 where it isn't given
abbrev pub HasText : Option (List ℕ) → Form → Type 0
HasText None form = form ≡ forms.One
HasText (Some text) forms.One = text ≡ codes "1"
HasText (Some text) forms.Two = text ≡ codes "2"

-- ---- commands

-- how a command is spelled
abbrev pub spelled : Command → List ℕ
spelled (commands.Parse options) = codes "parse"
spelled (commands.Resume options) = codes "resume"
spelled (commands.Explain options) = codes "explain"
spelled (commands.Check grammar) = codes "check"
spelled (commands.Lexicon grammar) = codes "lexicon"
spelled (commands.Print grammar) = codes "print"
spelled (commands.Drill number) = codes "drill"
spelled (commands.Corpus options) = codes "corpus"
spelled (commands.Arrange options) = codes "arrange"
spelled (commands.Best options) = codes "best"

-- the names of a command's options that take a value
abbrev pub values_of : Command → List (List ℕ)
values_of (commands.Parse options) = codes "budget" ∷ codes "first" ∷ codes "text" ∷ codes "rules" ∷ []
values_of (commands.Resume options) = codes "budget" ∷ codes "first" ∷ codes "text" ∷ codes "rules" ∷ []
values_of (commands.Explain options) = codes "rules" ∷ []
values_of (commands.Corpus options) = codes "budget" ∷ codes "first" ∷ []
values_of (commands.Arrange options) = codes "budget" ∷ []
values_of (commands.Best options) = codes "budget" ∷ []
values_of _ = []

-- the names of a command's options that take none
abbrev pub flags_of : Command → List (List ℕ)
flags_of (commands.Parse options) = codes "segment" ∷ codes "split" ∷ []
flags_of (commands.Corpus options) = codes "segment" ∷ []
flags_of (commands.Arrange options) = codes "segment" ∷ []
flags_of (commands.Best options) = codes "segment" ∷ []
flags_of _ = []

-- the items of `parse`
pub record SaysParse (items : List Item) (options : ParseOptions) : Type 0 where
  pub grammar : operands_of items ≡ options.grammar ∷ []
  pub budget : HasBudget (value_of (codes "budget") items) options.budget
  pub first : HasFirst (value_of (codes "first") items) options.first
  pub segment : options.segment ≡ has_flag (codes "segment") items
  pub text : HasText (value_of (codes "text") items) options.text
  pub split : options.split ≡ has_flag (codes "split") items
  pub rules : options.rules ≡ value_of (codes "rules") items

-- the items of `resume`
pub record SaysResume (items : List Item) (options : ResumeOptions) : Type 0 where
  pub files : operands_of items ≡ options.grammar ∷ options.analysis ∷ []
  pub budget : HasBudget (value_of (codes "budget") items) options.budget
  pub first : HasFirst (value_of (codes "first") items) options.first
  pub text : HasText (value_of (codes "text") items) options.text
  pub rules : options.rules ≡ value_of (codes "rules") items

-- the items of `explain`
pub record SaysExplain (items : List Item) (options : ExplainOptions) : Type 0 where
  pub files : operands_of items ≡ options.grammar ∷ options.analysis ∷ []
  pub rules : options.rules ≡ value_of (codes "rules") items

-- the items of `drill`: one operand, which writes the number
pub record SaysDrill (items : List Item) (number : ℕ) : Type 0 where
  pub text : List ℕ
  pub alone : operands_of items ≡ text ∷ []
  pub writes : IsDrillNumber text number

-- the items of `corpus`
pub record SaysCorpus (items : List Item) (options : CorpusOptions) : Type 0 where
  pub grammar : operands_of items ≡ options.grammar ∷ []
  pub budget : HasBudget (value_of (codes "budget") items) options.budget
  pub first : HasFirst (value_of (codes "first") items) options.first
  pub segment : options.segment ≡ has_flag (codes "segment") items

-- the items of `arrange`
pub record SaysArrange (items : List Item) (options : ArrangeOptions) : Type 0 where
  pub grammar : operands_of items ≡ options.grammar ∷ []
  pub budget : HasBudget (value_of (codes "budget") items) options.budget
  pub segment : options.segment ≡ has_flag (codes "segment") items

-- the items of `best`
pub record SaysBest (items : List Item) (options : BestOptions) : Type 0 where
  pub files : operands_of items ≡ options.grammar ∷ options.costs ∷ []
  pub budget : HasBudget (value_of (codes "budget") items) options.budget
  pub segment : options.segment ≡ has_flag (codes "segment") items

-- the items are the operands and options of the command
abbrev pub Says : List Item → Command → Type 0
Says items (commands.Parse options) = SaysParse items options
Says items (commands.Resume options) = SaysResume items options
Says items (commands.Explain options) = SaysExplain items options
Says items (commands.Check grammar) = operands_of items ≡ grammar ∷ []
Says items (commands.Lexicon grammar) = operands_of items ≡ grammar ∷ []
Says items (commands.Print grammar) = operands_of items ≡ grammar ∷ []
Says items (commands.Drill number) = SaysDrill items number
Says items (commands.Corpus options) = SaysCorpus items options
Says items (commands.Arrange options) = SaysArrange items options
Says items (commands.Best options) = SaysBest items options

-- The words are the command: its spelling, and then items, each option at most once, that say what it is to do.
pub record IsCommand (words : List (List ℕ)) (command : Command) : Type 0 where
  pub later : List (List ℕ)
  pub items : List Item
  pub words_are : words ≡ spelled command ∷ later
  pub read : AreItems (values_of command) (flags_of command) later items
  pub once : IsOnce items
  pub says : Says items command
