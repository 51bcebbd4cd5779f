-- The printed lines.
use Rattle.std.specs.Prelude.{ℕ, ◌+◌, List, [], ◌∷◌, ◌++◌, cond, codes, decimal}
use Rattle.std.specs.List.{flat_map}
use Rattle.xdg_base.specs.declared.faults.Fault.{Fault}
use Rattle.xdg_base.specs.declared.places.LineColumn.{LineColumn}
use Rattle.xdg_base.specs.Faults.{number_of, name_of, tells_reached}
use Rattle.xdg_text.specs.Constants.{constant, quoted}

-- words with a space before each
abbrev pub led : List (List ℕ) → List ℕ
led words = flat_map (λ word. codes " " ++ word) words

-- a line: its words with one space between two, and a line feed at the end
abbrev pub line : List ℕ → List (List ℕ) → List ℕ
line first others = first ++ (led others ++ codes "\n")

-- the line that begins the block of the analysis with this number
abbrev pub analysis_line : ℕ → List ℕ
analysis_line number = line (codes "analysis") (decimal number ∷ [])

-- the line that begins the second text of an analysis
abbrev pub version_line : List ℕ
version_line = line (codes "xdg") (decimal 2 ∷ [])

-- the line that tells how many lines of words, of attributes and of edges follow
abbrev pub counts_line : ℕ → ℕ → ℕ → List ℕ
counts_line words attrs edges = line (codes "counts") (decimal words ∷ decimal attrs ∷ decimal edges ∷ [])

-- the line of a node: its number, its word, and the number of its entry; both numbers count from 1
abbrev pub word_line : ℕ → List ℕ → ℕ → List ℕ
word_line node text entry = line (codes "word") (decimal (node + 1) ∷ quoted text ∷ decimal (entry + 1) ∷ [])

-- the line of an attribute of a node
abbrev pub attr_line : List ℕ → ℕ → List ℕ → List ℕ → List ℕ
attr_line dim node attr value = line (codes "attr") (constant dim ∷ decimal (node + 1) ∷ constant attr ∷ value ∷ [])

-- the line of an edge: its dimension, the number of the mother, its label, and the number of the daughter
abbrev pub edge_line : List ℕ → ℕ → List ℕ → ℕ → List ℕ
edge_line dim mother label daughter = line (codes "edge") (constant dim ∷ decimal (mother + 1) ∷ constant label ∷ decimal (daughter + 1) ∷ [])

-- the line that ends a block
abbrev pub end_line : List ℕ
end_line = line (codes "end") []

-- the last line where all analyses were printed, so many
abbrev pub complete_line : ℕ → List ℕ
complete_line count = line (codes "complete") (decimal count ∷ [])

-- the last line where the budget is spent and so many analyses were printed
abbrev pub spent_line : ℕ → List ℕ
spent_line count = line (codes "spent") (decimal count ∷ [])

-- the last line where as many analyses were printed as were asked for
abbrev pub first_line : ℕ → List ℕ
first_line count = line (codes "first") (decimal count ∷ [])

-- how the program is called
abbrev pub usage_line : List ℕ
usage_line = codes "usage: xdg COMMAND FILE [FILE] [--budget N] [--first N] [--segment]\n"

-- the line of a fault at a line and a column; a fault that passes a limit tells the number reached
abbrev pub fault_text : Fault → LineColumn → List ℕ
fault_text fault place =
    line (codes "fault")
    (decimal (number_of fault.cause) ∷ name_of fault.cause ∷ codes "line" ∷ decimal place.line ∷ codes "column" ∷ decimal place.column
    ∷ cond (tells_reached fault.cause) (codes "reached" ∷ decimal fault.reached ∷ []) [])
