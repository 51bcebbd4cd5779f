-- The command of `clap` that reads the words after a command's name.
use Rattle.std.specs.Prelude.{◌∷◌, ◌++◌, ◌==◌, ◌&&◌, ℕ, Bool, true, false, not, List, [], Some, map, fold, codes, length, nat_le}
use Rattle.std.specs.List.{list_all, list_any}
use Rattle.xdg_base.specs.Texts.{has_text}
use Rattle.clap.specs.Walk.{Rule}
use Rattle.clap.specs.Simple.{App, new_app, new_rule, on_top, with_rule}
use Rattle.clap.specs.declared.builder.action.ArgAction.TheVariants.{Set, SetTrue}
use Rattle.clap.specs.declared.builder.value_parser.ValueParser.TheVariants as parsers

-- the names of operands, of options that take a value, and of options that take none
pub record Table : Type 0 where
  pub operands : List (List ℕ)
  pub values : List (List ℕ)
  pub flags : List (List ℕ)

-- one operand, and no option
abbrev pub one_file : Table
one_file = record { operands = codes "grammar" ∷ []; values = []; flags = [] }

abbrev pub explained : Table
explained = record { operands = codes "grammar" ∷ codes "analysis" ∷ []; values = codes "rules" ∷ []; flags = [] }

abbrev pub parsed : Table
parsed =
    record {
      operands = codes "grammar" ∷ [];
      values = codes "budget" ∷ codes "first" ∷ codes "text" ∷ codes "rules" ∷ [];
      flags = codes "segment" ∷ codes "split" ∷ [];
    }

abbrev pub resumed : Table
resumed = record { operands = codes "grammar" ∷ codes "analysis" ∷ []; values = codes "budget" ∷ codes "first" ∷ codes "text" ∷ codes "rules" ∷ []; flags = [] }

abbrev pub corpused : Table
corpused = record { operands = codes "grammar" ∷ []; values = codes "budget" ∷ codes "first" ∷ []; flags = codes "segment" ∷ [] }

abbrev pub arranged : Table
arranged = record { operands = codes "grammar" ∷ []; values = codes "budget" ∷ []; flags = codes "segment" ∷ [] }

abbrev pub costed : Table
costed = record { operands = codes "grammar" ∷ codes "costs" ∷ []; values = codes "budget" ∷ []; flags = codes "segment" ∷ [] }

-- an operand, an option with a value that isn't empty, and an option without value
abbrev pub operand_arg : List ℕ → Rule
operand_arg name = record (new_rule name) { action = Some Set }

abbrev pub value_arg : List ℕ → Rule
value_arg name = record (new_rule name) { long = Some name; action = Some Set; parser = Some parsers.NonEmptyString }

abbrev pub flag_arg : List ℕ → Rule
flag_arg name = record (new_rule name) { long = Some name; action = Some SetTrue }

-- a command without help and version, whose words begin with the first argument
abbrev pub bare : List ℕ → App
bare name =
    on_top (λ s. record s { no_binary_name = true; disable_help_flag = true; disable_help_subcommand = true; disable_version_flag = true }) (new_app name)

abbrev pub args_in : Table → List Rule
args_in t = map operand_arg t.operands ++ (map value_arg t.values ++ map flag_arg t.flags)

-- the command of the table
abbrev pub app_in : Table → App
app_in t = fold with_rule (bare (codes "xdg")) (args_in t)

-- a name of an argument: it isn't empty, and has no `=`
abbrev pub is_name : List ℕ → Bool
is_name [] = false
is_name (first ∷ more) = not (list_any (λ byte. byte == 61) (first ∷ more))

-- no text stands twice
abbrev pub all_differ : List (List ℕ) → Bool
all_differ [] = true
all_differ (name ∷ names) = not (has_text names name) && all_differ names

-- no text of the first list stands in the second
abbrev pub are_apart : List (List ℕ) → List (List ℕ) → Bool
are_apart names others = list_all (λ name. not (has_text others name)) names

-- there are at most two operands, each with a name of its own, and no option has the name of an operand or of another kind of option
abbrev pub is_right : Table → Bool
is_right t = nat_le (length t.operands) 2 && (all_differ t.operands && (are_apart t.operands t.values && (are_apart t.operands t.flags
    && (are_apart t.flags t.values && (list_all is_name t.values && list_all is_name t.flags)))))
