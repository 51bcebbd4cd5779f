-- Words with a trail of what was overwritten.
use Rattle.std.specs.Prelude.{ℕ, ◌-◌, List, [], ◌∷◌, length, drop, slice_index_or, slice_set}

-- The words, the records, the newest first, each the place of a word and the word that stood there before,
-- and for how many more records there is room.
pub record Trailed : Type 0 where
  pub words : List ℕ
  pub records : List (ℕ × ℕ)
  pub spare : ℕ

-- the words as they stand, and before them those that stood when there was one record less, and so on
abbrev pub states : List ℕ → List (ℕ × ℕ) → List (List ℕ)
states words [] = words ∷ []
states words (r ∷ rs) = words ∷ states (slice_set words r.0 r.1) rs

-- all that stood, the newest first
abbrev pub past : Trailed → List (List ℕ)
past t = states t.words t.records

-- the first records, as many as the mark says: the newest come first, so the last of the list
abbrev pub earliest : {A : Type 0} → ℕ → List A → List A
earliest mark records = drop (length records - mark) records

-- the words that stood when there were that many records
abbrev pub stood : Trailed → ℕ → List ℕ
stood t count = slice_index_or (past t) (length t.records - count) []
