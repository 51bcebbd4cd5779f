-- The devices in memory as contracts see them: what they have, and their calls.
use Rattle.std.specs.Prelude.{◌+◌, ℕ, List, Option, [], ◌∷◌, None, Some, IsTrue, nat_eq, min, cond, String, string_bytes, Vec, map, codes}
use Rattle.std.specs.List.{list_any}
use Rattle.std.specs.Str.{bytes_eq}
use Rattle.std.specs.declared.alloc.Global.{Global}
use Rattle.xdg_io.specs.declared.calls.Calls.{Calls}
use Rattle.xdg_io.specs.declared.failures.LoadStop.{LoadStop}
use Rattle.xdg_io.specs.declared.failures.LoadStop.TheVariants.{Failed, TooLong, OutOfMemory}

-- the number after this one; at the greatest number of 64 bits it is the same
abbrev pub next : ℕ → ℕ
next n = min (n + 1) 18446744073709551615

-- the next call, of which the first has the number 1, is one of those that are to fail
abbrev pub IsListed : Calls → Type 0
IsListed calls = IsTrue (list_any (λ listed. nat_eq listed (next calls.count)) calls.fails)

-- the calls after one more that did not fail
abbrev pub counted : Calls → Calls
counted calls = record calls { count = next calls.count }

-- the calls after one more that failed
abbrev pub failed : Calls → Calls
failed calls = record calls { count = next calls.count; faults = next calls.faults }

-- a source in memory: the bytes that are left, and how many it gives at a call at most
pub record SourceState : Type 0 where
  pub left : List ℕ
  pub cut : ℕ
  pub calls : Calls

-- a sink in memory: the bytes that it took, how many it has room for in all, and how many it takes at a call at most
pub record SinkState : Type 0 where
  pub held : List ℕ
  pub room : ℕ
  pub cut : ℕ
  pub calls : Calls

-- the bytes of the file of this name: those of the first pair that has it
abbrev pub file_of : List (List ℕ × List ℕ) → List ℕ → Option (List ℕ)
file_of [] name = None
file_of (file ∷ files) name = cond (bytes_eq file.0 name) (Some file.1) (file_of files name)

-- names and bytes as lists
abbrev pub listed_files : List (String Global × Vec ℕ Global) → List (List ℕ × List ℕ)
listed_files files = map (λ file. (string_bytes file.0, file.1.items)) files

-- a shelf in memory: the names with their bytes
pub record ShelfState : Type 0 where
  pub files : List (List ℕ × List ℕ)
  pub calls : Calls

-- a shelf in memory that never fails: its two texts
pub record SafeFiles : Type 0 where
  pub grammar : List ℕ
  pub analysis : List ℕ

-- the analysis for the name `a`, and the grammar for every other name
abbrev pub safe_file : SafeFiles → List ℕ → Option (List ℕ)
safe_file files name = Some (cond (bytes_eq name (codes "a")) files.analysis files.grammar)

-- the calls after a file was not loaded
abbrev pub stopped : LoadStop → Calls → Calls
stopped Failed calls = failed calls
stopped (TooLong reached) calls = counted calls
stopped OutOfMemory calls = counted calls
