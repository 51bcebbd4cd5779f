-- What was read of a grammar file.
use Rattle.xdg_inputs.specs.GrammarFiles.{ReadText}
use Rattle.xdg_inputs.specs.declared.loading.Loaded.{Loaded}

abbrev pub read_of : Loaded → ReadText
read_of loaded = record { text = loaded.text.items; tree = loaded.tree }
