-- The files before a later one are apart from each other; those before an earlier one are apart from the later one too.
use Rattle.std.proofs.Common.{◌≢◌, ◌<◌, ℕ, slice_index_or}
use Rattle.std.specs.String.{string_bytes}
use Rattle.xdg_rows.proofs.running.are_apart.Given as goal

abbrev pub invariant-loop-earlier : goal.invariant-loop-earlier
invariant-loop-earlier l = (i : ℕ) (d : _) → i < l.earlier → string_bytes (slice_index_or l.files i d).0 ≢ string_bytes (slice_index_or l.files l.later d).0

abbrev pub invariant-loop-later : goal.invariant-loop-later
invariant-loop-later l = (i j : ℕ) (d : _) → i < j → j < l.later → string_bytes (slice_index_or l.files i d).0 ≢ string_bytes (slice_index_or l.files j d).0
