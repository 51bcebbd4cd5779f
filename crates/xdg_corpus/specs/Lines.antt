-- The lines of a text.
use Rattle.std.specs.Prelude.{ℕ, ◌==◌, List, [], ◌∷◌, cond}
use Rattle.std.specs.List.{onto_first}

-- The lines of a text, each without its line feed. A line ends at a line feed or at the end of the text, and a last line feed starts no
-- further line. So the empty text has no line, and a line may be empty.
abbrev pub lines : List ℕ → List (List ℕ)
lines [] = []
lines (byte ∷ bytes) = cond (byte == 10) ([] ∷ lines bytes) (onto_first byte (lines bytes))
