-- Problems that a grammar makes of words.
use Rattle.std.specs.Prelude.{◌≡◌, List}
use Rattle.xdg_build.specs.Compiled.{compiled}
use Rattle.xdg_build.specs.Grammars.{Grammar}
use Rattle.xdg_problem.specs.declared.parts.Parts.{Parts}
use Rattle.xdg_problem.specs.declared.parts.SentenceWord.{SentenceWord}

-- the problem is what the grammar makes of some words
pub record IsMade (g : Grammar) (parts : Parts) : Type 0 where
  pub words : List SentenceWord
  pub is : parts ≡ compiled g words
