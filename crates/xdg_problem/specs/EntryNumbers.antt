-- Entries as the numbers that they have in the lexicon.
use Rattle.std.specs.Prelude.{ℕ, List, map}
use Rattle.xdg_base.specs.declared.ids.EntryNo.{EntryNo}

abbrev pub entry_numbers : List EntryNo → List ℕ
entry_numbers entries = map (λ entry. entry.0) entries
