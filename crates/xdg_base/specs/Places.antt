-- Lines and columns of a byte place in a text.
use Rattle.std.specs.Prelude.{ℕ, ◌+◌, ◌==◌, Bool, List, take, count_by, not}
use Rattle.std.specs.List.{suffix_len}

abbrev pub is_line_feed : ℕ → Bool
is_line_feed byte = byte == 10

-- one more than the line feeds before the place
abbrev pub line_of : List ℕ → ℕ → ℕ
line_of text at = 1 + count_by is_line_feed (take at text)

-- one more than the bytes between the line's start and the place
abbrev pub column_of : List ℕ → ℕ → ℕ
column_of text at = 1 + suffix_len (λ byte. not (is_line_feed byte)) (take at text)
