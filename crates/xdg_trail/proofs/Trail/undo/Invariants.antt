use Rattle.std.proofs.Common.{◌≡◌, ◌<◌, ◌≤◌, ◌-◌, length, drop, reverse, All, vec_len, vec_capacity}
use Rattle.xdg_trail.specs.Trailed.{states}
use Rattle.xdg_trail.proofs.Trail.undo.Given as goal

abbrev pub invariant-loop-self : goal.invariant-loop-self
invariant-loop-self l =
    let words = l.self-inside.words.items in
    let records = l.self-inside.records.items in
    let whole = reverse l.initial.self-inside.records.items in
    record {
      mark : l.count ≤ length records;
      size : length words ≡ length l.initial.self-inside.words.items;
      within : length records ≤ length whole;
      places : All (λ r. r.0 < length words) records;
      room : vec_capacity l.self-inside.records ≡ vec_capacity l.initial.self-inside.records;
      left : reverse records ≡ drop (length whole - length records) whole;
      stood : states words (reverse records) ≡ drop (length whole - length records) (states l.initial.self-inside.words.items whole);
    }

abbrev pub decreases-loop-self : goal.decreases-loop-self
decreases-loop-self l = vec_len l.self-inside.records
