-- The printed lexicon.
use Rattle.std.specs.Prelude.{ℕ, ◌+◌, List, [], ◌∷◌, ◌++◌, length, slice_get, Option, Some, None, codes}
use Rattle.std.specs.List.{flat_map}
use Rattle.xdg_ast.specs.declared.token.Kind.TheVariants as k
use Rattle.xdg_ast.specs.Words.{mark, number, quoted, constant}
use Rattle.xdg_ast.specs.Trees.{in_braces}
use Rattle.xdg_ast.specs.Canon.{Line, line, line_text}
use Rattle.xdg_domain.specs.Shapes.{fields_of}
use Rattle.xdg_types.specs.declared.table.DimType.{DimType}
use Rattle.xdg_types.specs.Table.{Table, typed}
use Rattle.xdg_packed.specs.Lexicon.{Record, Entry, word_of}
use Rattle.xdg_print.specs.WordPlaces.{place_of_word}
use Rattle.xdg_print.specs.ValueWords.{features_words}

-- `entry E "W"`
abbrev pub entry_line : ℕ → List ℕ → Line
entry_line place word = line (constant (codes "entry") ∷ number place ∷ quoted word ∷ [])

-- `dim D {..}`: each feature with its value, in the order of their type
abbrev pub dim_line : DimType → Record → Line
dim_line dim m = line (mark k.Dim ∷ constant dim.name ∷ in_braces (features_words (fields_of (typed dim.fields)) m))

-- the line of the dimension with that place, if it is there
abbrev pub dim_line_at : Option DimType → Record → List Line
dim_line_at None m = []
dim_line_at (Some dim) m = dim_line dim m ∷ []

-- a line for each of the used dimensions
unfoldable pub dim_lines : List DimType → List ℕ → List Record → List Line
dim_lines dims [] entry = []
dim_lines dims (k ∷ used) [] = []
dim_lines dims (k ∷ used) (m ∷ entry) = dim_line_at (slice_get dims k) m ++ dim_lines dims used entry

-- `end`
abbrev pub end_line : Line
end_line = line (constant (codes "end") ∷ [])

-- `entries E`
abbrev pub entries_line : ℕ → Line
entries_line count = line (constant (codes "entries") ∷ number count ∷ [])

-- the word that an entry says at a place, if there is one
abbrev pub word_at : Option (ℕ × ℕ) → Entry → List ℕ
word_at None entry = []
word_at (Some place) entry = word_of place.0 place.1 entry

-- the lines of an entry with this number, whose word stands at that place
abbrev pub entry_lines : Table → Option (ℕ × ℕ) → ℕ → Entry → List Line
entry_lines table place n entry = entry_line n (word_at place entry) ∷ (dim_lines table.dims table.used entry ++ end_line ∷ [])

-- the lines of entries that are numbered from a number on
unfoldable pub entries_lines : Table → Option (ℕ × ℕ) → ℕ → List Entry → List Line
entries_lines table place n [] = []
entries_lines table place n (entry ∷ entries) = entry_lines table place n entry ++ entries_lines table place (n + 1) entries

-- the lines of the lexicon: those of each entry, numbered from 1, and at last how many entries there are
abbrev pub lexicon_lines : Table → List Entry → List Line
lexicon_lines table entries = entries_lines table (place_of_word table) 1 entries ++ entries_line (length entries) ∷ []

-- the text of the lexicon
unfoldable pub lexicon_text : Table → List Entry → List ℕ
lexicon_text table entries = flat_map line_text (lexicon_lines table entries)
