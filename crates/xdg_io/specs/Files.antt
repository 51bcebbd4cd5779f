-- What is told of the files of a shelf: the bytes of each name that is there.
use Rattle.std.specs.Prelude.{◌≡◌, ◌<◌, ℕ, List, Option, length, None, Some}

-- the file of this name has these bytes, where the files are told
abbrev pub HasFile : Option (List ℕ → Option (List ℕ)) → List ℕ → List ℕ → Type 0
HasFile None name bytes = Unit {0}
HasFile (Some files) name bytes = files name ≡ Some bytes

-- the file of this name has more than so many bytes, where the files are told
abbrev pub HasLongFile : Option (List ℕ → Option (List ℕ)) → List ℕ → ℕ → Type 0
HasLongFile None name limit = Unit {0}
HasLongFile (Some files) name limit = (bytes : List ℕ) × (files name ≡ Some bytes) × (limit < length bytes)
