-- Which files have a grammar text, and with which fault the others are refused.
use Rattle.std.specs.Prelude.{◌≡◌, ℕ, ◌+◌, ◌<◌, ◌≤◌, List, length, Option, Some}
use Rattle.xdg_base.specs.declared.faults.Cause.TheVariants as causes
use Rattle.xdg_base.specs.declared.faults.Fault.{Fault}
use Rattle.xdg_ast.specs.declared.grammar.Grammar.{Grammar}
use Rattle.xdg_ast.specs.Derives.{Reads}
use Rattle.xdg_inputs.specs.GrammarTexts.{IsUnreadable}
use Rattle.xdg_base.specs.Faults.{fault_reaching}

-- how many bytes a grammar text may have
abbrev pub grammar_limit : ℕ
grammar_limit = 4194304

-- a text with the tree that it is read as
pub record ReadText : Type 0 where
  pub text : List ℕ
  pub tree : Grammar

-- the file of this name has a text that is read as this tree
pub record HasTree (files : List ℕ → Option (List ℕ)) (name : List ℕ) (read : ReadText) : Type 0 where
  pub file : files name ≡ Some read.text
  pub within : length read.text ≤ grammar_limit
  pub reads : Reads read.text read.tree

-- a text is too long, or else it is no grammar text
pub data IsBadText (text : List ℕ) (refused : Fault) : Type 0 where
  too_long : grammar_limit < length text → refused ≡ fault_reaching causes.TooLong 0 (grammar_limit + 1) → IsBadText text refused
  unreadable : length text ≤ grammar_limit → IsUnreadable text refused → IsBadText text refused

-- the file of this name is there, and its text is refused
pub record HasBadText (files : List ℕ → Option (List ℕ)) (name text : List ℕ) (refused : Fault) : Type 0 where
  pub file : files name ≡ Some text
  pub because : IsBadText text refused
