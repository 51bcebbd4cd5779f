-- Expanded grammars whose lexicon is right.
use Rattle.xdg_packed.specs.Entries.{IsRightLexicon}
use Rattle.xdg_lexicon.specs.Answers.{IsPlaced}
use Rattle.xdg_inputs.specs.declared.expanding.Expanded.{Expanded}

-- the entries are those of a lexicon, within the limits, and say their words at the one place that the grammar has for them
pub record HasRightLexicon (expanded : Expanded) : Type 0 where
  pub right : IsRightLexicon expanded.checked.types expanded.lexicon.entries
  pub placed : IsPlaced expanded.checked.types expanded.lexicon
