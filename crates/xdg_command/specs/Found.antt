-- What `clap` found, in words of items.
use Rattle.std.specs.Prelude.{◌≡◌, ◌≤◌, ℕ, true, List, Option, Some, None, length, slice_get, codes, if◌then◌else◌}
use Rattle.clap.specs.Matches.{first_value, found_of, one_text}
use Rattle.clap.specs.declared.parser.matches.ArgMatches.{ArgMatches}
use Rattle.xdg_command.specs.Items.{Item, AreItems, IsOnce, has_flag, operands_of, value_of}
use Rattle.xdg_base.specs.Texts.{has_text}
use Rattle.xdg_command.specs.Syntax.{Table}

-- the words are these items, each option given at most once, and not too many operands
pub record Fits (t : Table) (words : List (List ℕ)) (items : List Item) : Type 0 where
  pub read : AreItems t.values t.flags words items
  pub once : IsOnce items
  pub few : length (operands_of items) ≤ length t.operands

-- what is found by its name is what the items say
pub record Holds (t : Table) (items : List Item) (found : ArgMatches) : Type 0 where
  pub operands : (k : ℕ) (name : List ℕ) → slice_get t.operands k ≡ Some name → first_value (found_of found) name ≡ slice_get (operands_of items) k
  pub values : (name : List ℕ) → has_text t.values name ≡ true → first_value (found_of found) name ≡ value_of name items
  pub flags : (name : List ℕ) → has_text t.flags name ≡ true
      → one_text (found_of found) name ≡ Some (if has_flag name items then codes "true" else codes "false")

-- no items fit, or the items that fit are found
abbrev pub Matches : Table → List (List ℕ) → Option ArgMatches → Type 0
Matches t words None = (items : List Item) → Fits t words items → ⊥
Matches t words (Some found) = (items : List Item) × Fits t words items × Holds t items found
