-- What the tree of a grammar text means: its types, its uses of principles and its lexicon.
use Rattle.std.specs.Prelude.{◌≡◌, List}
use Rattle.xdg_base.specs.declared.faults.Fault.{Fault}
use Rattle.xdg_ast.specs.declared.grammar.Grammar.{Grammar}
use Rattle.xdg_types.specs.Answers as types
use Rattle.xdg_types.specs.Answers.{HasTable}
use Rattle.xdg_types.specs.Table.{Table}
use Rattle.xdg_principles.specs.declared.building.PrincipleUse.{PrincipleUse}
use Rattle.xdg_check.specs.Answers as check
use Rattle.xdg_check.specs.Answers.{IsRight, IsCheckedOf}
use Rattle.xdg_check.specs.Checked.{Parts}
use Rattle.xdg_packed.specs.Lexicon.{Entry}
use Rattle.xdg_lexicon.specs.Lexicon as lexicon
use Rattle.xdg_lexicon.specs.Lexicon.{IsLexicon}
use Rattle.xdg_lexicon.specs.Sources.{source_of}

pub record Meaning : Type 0 where
  pub table : Table
  -- the uses of principles in all dimensions, in the order of the text
  pub uses : List PrincipleUse
  -- the expanded lexicon
  pub entries : List Entry

-- no pass finds a fault, and this is the checked grammar
pub record Checks (tree : Grammar) (checked : Parts) : Type 0 where
  pub types : HasTable tree.statements checked.types
  pub right : IsRight tree.statements checked.types
  pub checked_is : IsCheckedOf tree.statements checked.types checked

-- the tree means this: it is checked, and the lexicon is that of the checked grammar
pub record Means (tree : Grammar) (m : Meaning) : Type 0 where
  pub checked : Parts
  pub checks : Checks tree checked
  pub table : m.table ≡ checked.types
  pub uses : m.uses ≡ checked.principles
  pub lexicon : IsLexicon (source_of checked) m.entries

-- the first fault: of the types, or else of the other passes, or else of expansion
pub data Offends (tree : Grammar) (f : Fault) : Type 0 where
  of_types : types.Refuses tree.statements f → Offends tree f
  of_check : (table : Table) → HasTable tree.statements table → check.Refuses tree.statements table f → Offends tree f
  of_lexicon : (checked : Parts) → Checks tree checked → lexicon.Refuses (source_of checked) f → Offends tree f
