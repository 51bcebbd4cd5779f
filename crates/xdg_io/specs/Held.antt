-- What is added to the bytes that a sink holds, where those are told.
use Rattle.std.specs.Prelude.{◌≡◌, ◌<◌, ◌++◌, ℕ, List, Option, length}
use Rattle.std.specs.Io.KnownBytes.{append_known}

-- these bytes were added at the end; where nothing was told, nothing is told now
pub record Appends (old new : Option (List ℕ)) (bytes : List ℕ) : Type 0 where
  pub is : new ≡ append_known old bytes

-- a front of these bytes was added at the end, and not all of them
pub record AppendsFront (old new : Option (List ℕ)) (bytes : List ℕ) : Type 0 where
  pub front : List ℕ
  pub rest : List ℕ
  pub parts : front ++ rest ≡ bytes
  pub proper : 0 < length rest
  pub appends : Appends old new front

-- all of the piece but the rest was added
pub record WrittenSoFar (old new : Option (List ℕ)) (piece rest : List ℕ) : Type 0 where
  pub front : List ℕ
  pub parts : front ++ rest ≡ piece
  pub appends : Appends old new front
