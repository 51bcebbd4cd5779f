use Rattle.std.proofs.Common.{◌≡◌, ◌++◌, take}
use Rattle.xdg_domain.proofs.+copy.Given as goal

abbrev pub invariant-copying::add_entries-loop-entry : goal.invariant-copying::add_entries-loop-entry
invariant-copying::add_entries-loop-entry l = l.made ≡ l.initial.made ++ take l.entry-index l.entries

abbrev pub invariant-copying::add_fields-loop-entry : goal.invariant-copying::add_fields-loop-entry
invariant-copying::add_fields-loop-entry l = l.made ≡ l.initial.made ++ take l.entry-index l.entries
