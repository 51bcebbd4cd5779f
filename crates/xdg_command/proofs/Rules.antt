-- The arguments of a command of `clap`, once it is built.
use Rattle.std.proofs.Common.{◌≡◌, ◌≤◌, ℕ, Bool, suc, true, false, List, [], ◌∷◌, ◌++◌, length, Option, Some, None}
use Rattle.std.specs.Prelude.{codes, slice_get, option_map, if◌then◌else◌}
use Rattle.clap.specs.Walk.{Row, Rule, arg_by_id, arg_by_index, arg_by_long, arg_by_short, has_row, reading_by}
use Rattle.clap.specs.Simple.{new_rule}
use Rattle.clap.specs.Kinds.{Kinds}
use Rattle.clap.specs.declared.builder.range.ValueRange.{ValueRange}
use Rattle.clap.specs.declared.builder.action.ArgAction.TheVariants.{Set, SetTrue}
use Rattle.clap.specs.declared.builder.value_parser.ValueParser.TheVariants as parsers
use Rattle.clap.specs.declared.parser.matches.ValueSource.TheVariants.{CommandLine}
use Rattle.xdg_base.specs.Texts.{has_text}
use Rattle.xdg_command.specs.Syntax.{Table}

abbrev one : ValueRange
one = record { start_inclusive = 1; end_inclusive = 1 }

abbrev pub operand_rule : ℕ → List ℕ → Rule
operand_rule place name = record (new_rule name) { action = Some Set; index = Some place; range = Some one; parser = Some parsers.String }

abbrev pub value_rule : List ℕ → Rule
value_rule name = record (new_rule name) { long = Some name; action = Some Set; range = Some one; parser = Some parsers.NonEmptyString }

abbrev pub flag_rule : List ℕ → Rule
flag_rule name = record (new_rule name) {
  long = Some name;
  action = Some SetTrue;
  range = Some (record { start_inclusive = 0; end_inclusive = 0 });
  parser = Some parsers.Bool;
  defaults = codes "false" ∷ [];
  missing = codes "true" ∷ [];
}

abbrev pub option_rule : List ℕ → Bool → Rule
option_rule name true = value_rule name
option_rule name false = flag_rule name

-- whether an option takes a value, or None where no option has the name
abbrev pub form : Table → List ℕ → Option Bool
form t name = if has_text t.values name then Some true else (if has_text t.flags name then Some false else None)

-- which argument is found by its long name, its name, its place or a letter
pub record Finds (t : Table) (c : List Rule) : Type 0 where
  pub long : (name : List ℕ) → arg_by_long c name ≡ option_map (option_rule name) (form t name)
  pub by_name : (name : List ℕ) (b : Bool) → form t name ≡ Some b → arg_by_id c name ≡ Some (option_rule name b)
  pub index : (k : ℕ) → arg_by_index c (suc k) ≡ option_map (operand_rule (suc k)) (slice_get t.operands k)
  pub by_operand : (k : ℕ) (name : List ℕ) → slice_get t.operands k ≡ Some name → arg_by_id c name ≡ Some (operand_rule (suc k) name)
  pub short : (x : ℕ) → arg_by_short c x ≡ None
  pub few : length t.operands ≤ 2

-- what an argument is found with
abbrev pub row : Rule → List (List ℕ) → Row
row a values = record { id = a.id; values = values; count = None; source = Some CommandLine; reading = reading_by a }

-- an argument is found with these values, where it wasn't before
abbrev pub added : Rule → List (List ℕ) → List Row → Option (List Row)
added a values rows = if has_row a.id rows then None else Some (rows ++ row a values ∷ [])

-- the list is empty
abbrev pub nothing : Kinds → Bool
nothing [] = true
nothing (k ∷ ks) = false
