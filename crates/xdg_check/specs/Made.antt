-- The parts that a checked grammar is made of.
use Rattle.std.specs.Prelude.{◌≡◌, List, ◌++◌, map}
use Rattle.xdg_classes.specs.declared.lookup.Classes.{Classes}
use Rattle.xdg_classes.specs.Definitions as d
use Rattle.xdg_classes.specs.Definitions.{ClassDef, class_names}
use Rattle.xdg_classes.specs.Lent.{class_def}
use Rattle.xdg_check.specs.declared.checked.EntryDef.{EntryDef}
use Rattle.xdg_check.specs.Answers.{AreEntriesOf}
use Rattle.xdg_ast.specs.Texts.{texts}

-- the classes are found by their names
abbrev pub IsNamed : Classes → Type 0
IsNamed classes = classes.names ≡ texts (class_names (map class_def classes.definitions))

-- the entries are more by these
abbrev pub AddsEntries : List ClassDef → List d.EntryDef → List EntryDef → List EntryDef → Type 0
AddsEntries cs more old new = (sources : List d.EntryDef) → AreEntriesOf cs sources old → AreEntriesOf cs (sources ++ more) new
