-- The index of words.
use Rattle.std.specs.Prelude.{◌≡◌, ℕ, List, map}
use Rattle.xdg_base.specs.declared.ids.EntryNo.{EntryNo}
use Rattle.xdg_names.specs.Texts.{has_text}
use Rattle.xdg_packed.specs.Lexicon.{numbers_of}
use Rattle.xdg_facts.specs.Membership.{Differ}

-- Of the words of the entries: each different word stands once, and those only, and beside it stand the numbers of exactly the
-- entries whose word it is.
pub record IsWordIndex (said words : List (List ℕ)) (numbers : List (List EntryNo)) : Type 0 where
  pub differ : Differ words
  pub all : (word : List ℕ) → has_text words word ≡ has_text said word
  pub numbered : numbers ≡ map (numbers_of said) words
