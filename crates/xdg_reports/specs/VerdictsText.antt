-- What is printed of verdicts.
use Rattle.std.specs.Prelude.{ℕ, ◌+◌, ◌-◌, ◌==◌, ◌&&◌, Bool, true, false, cond, List, [], ◌∷◌, ◌++◌, length, nat_lt, slice_get, slice_index_or, Option, None, Some, codes, decimal}
use Rattle.std.specs.List.{flat_map}
use Rattle.xdg_base.specs.declared.ids.DimId.{DimId}
use Rattle.xdg_formula.specs.declared.tree.Rule.{Rule}
use Rattle.xdg_problem.specs.declared.conditions.Condition.{Condition}
use Rattle.xdg_problem.specs.declared.conditions.Condition.TheVariants as conditions
use Rattle.xdg_problem.specs.declared.parts.Group.{Group}
use Rattle.xdg_problem.specs.declared.parts.Parts.{Parts}
use Rattle.xdg_problem.specs.Arguments.{first_dim, no_plan}
use Rattle.xdg_judge.specs.declared.verdict.Verdict.{Verdict}
use Rattle.xdg_judge.specs.declared.verdict.Verdict.TheVariants as verdicts
use Rattle.xdg_judge.specs.Verdicts.{tuple_of}
use Rattle.xdg_text.specs.Constants.{constant}
use Rattle.xdg_text.specs.Lines.{line}
use Rattle.xdg_problem.specs.Principles.{name_of}

-- ---- conditions

abbrev pub condition_word : Condition → List ℕ
condition_word conditions.Cycle = codes "cycle"
condition_word conditions.Roots = codes "roots"
condition_word conditions.Mothers = codes "mothers"
condition_word conditions.Pair = codes "pair"
condition_word conditions.InCount = codes "in"
condition_word conditions.OutCount = codes "out"
condition_word conditions.Order = codes "order"
condition_word conditions.Between = codes "between"
condition_word conditions.Agr = codes "agr"
condition_word conditions.Agree = codes "agree"
condition_word conditions.Govern = codes "govern"
condition_word conditions.Below = codes "below"
condition_word conditions.Blocked = codes "blocked"
condition_word conditions.Link = codes "link"
condition_word conditions.Rule = codes "rule"
condition_word conditions.Bound = codes "bound"

-- a rule and a bound have one condition, which isn't named
abbrev pub is_told : Condition → Bool
is_told conditions.Rule = false
is_told conditions.Bound = false
is_told condition = true

-- its tuples are a number of nodes
abbrev pub counts : Condition → Bool
counts conditions.Roots = true
counts condition = false

-- the second item of its tuples is a label, and the others are nodes
abbrev pub names_label : Condition → Bool
names_label conditions.InCount = true
names_label conditions.OutCount = true
names_label conditions.Agree = true
names_label conditions.Govern = true
names_label conditions.Link = true
names_label condition = false

-- the label with that number
abbrev pub label_at : List (List ℕ) → ℕ → List ℕ
label_at labels number = slice_index_or labels number []

-- An item of a tuple as it is written, by its place in the tuple, from 0: a number of nodes as it is, a label by its name,
-- and a node by its number, which counts from 1.
abbrev pub item_text : List (List ℕ) → Condition → ℕ → ℕ → List ℕ
item_text labels condition place number =
    cond (counts condition) (decimal number) (cond (names_label condition && (place == 1)) (constant (label_at labels number)) (decimal (number + 1)))

-- a word behind another: with a space before it
abbrev pub behind : List ℕ → List ℕ
behind word = codes " " ++ word

-- the items of a tuple from a place on
abbrev pub items_text : List (List ℕ) → Condition → ℕ → List ℕ → List ℕ
items_text labels condition place [] = []
items_text labels condition place (number ∷ numbers) = behind (item_text labels condition place number) ++ items_text labels condition (place + 1) numbers

-- a condition with its tuple
abbrev pub condition_text : List (List ℕ) → Condition → List ℕ → List ℕ
condition_text labels condition numbers = cond (is_told condition) (behind (condition_word condition) ++ items_text labels condition 0 numbers) []

-- ---- lines

-- the name and the labels of the dimension with that number
abbrev pub name_at : Parts → ℕ → List ℕ
name_at parts dim = (slice_index_or parts.dims dim no_plan).name

abbrev pub labels_at : Parts → ℕ → List (List ℕ)
labels_at parts dim = (slice_index_or parts.dims dim no_plan).labels

-- the labels of the first dimension of a principle use
abbrev pub labels_of : Parts → Group → List (List ℕ)
labels_of parts group = labels_at parts (first_dim group)

-- the name of a dimension
abbrev pub dim_text : Parts → DimId → List ℕ
dim_text parts dim = behind (constant (name_at parts dim.0))

-- `kept`, or `broken` with the condition and its tuple
abbrev pub said_text : List (List ℕ) → Verdict → List ℕ
said_text labels verdicts.Kept = behind (codes "kept")
said_text labels (verdicts.Broken condition tuple) = behind (codes "broken") ++ condition_text labels condition (tuple_of tuple)

-- the name of a rule, where there is one
abbrev pub name_in : Option Rule → List ℕ
name_in None = []
name_in (Some rule) = rule.name.text

-- What stands behind the principle of the use at a place, which counts from 0: its dimensions in their order, and its name where it is a
-- rule. The rules stand behind so many uses of the grammar's own.
abbrev pub title_text : Parts → ℕ → List Rule → ℕ → Group → List ℕ
title_text parts own rules place group =
    cond (nat_lt place own) (flat_map (dim_text parts) group.dims) (behind (constant (name_in (slice_get rules (place - own)))))

-- the line of the use at a place: its number from 1, its principle, its dimensions or its name, and what is said of it
unfoldable pub verdict_line : Parts → ℕ → List Rule → ℕ → Group → Verdict → List ℕ
verdict_line parts own rules place group verdict =
    decimal (place + 1)
    ++ (behind (name_of group.principle) ++ (title_text parts own rules place group ++ (said_text (labels_of parts group) verdict ++ codes "\n")))

-- the lines of uses with their verdicts, from a place on
abbrev pub verdict_lines : Parts → ℕ → List Rule → ℕ → List Group → List Verdict → List ℕ
verdict_lines parts own rules place [] said = []
verdict_lines parts own rules place (group ∷ groups) [] = []
verdict_lines parts own rules place (group ∷ groups) (verdict ∷ said) =
    verdict_line parts own rules place group verdict ++ verdict_lines parts own rules (place + 1) groups said

-- no verdict tells of a broken condition
abbrev pub is_kept : Verdict → Bool
is_kept verdicts.Kept = true
is_kept (verdicts.Broken condition tuple) = false

abbrev pub are_kept : List Verdict → Bool
are_kept [] = true
are_kept (verdict ∷ said) = is_kept verdict && are_kept said

-- `solution`, or `not a solution`
abbrev pub solution_line : Bool → List ℕ
solution_line true = line (codes "solution") []
solution_line false = line (codes "not") (codes "a" ∷ codes "solution" ∷ [])

-- what is printed where the last uses are these rules: a line for each use, numbered from 1, and the last line
abbrev pub verdicts_text : Parts → List Rule → List Verdict → List ℕ
verdicts_text parts rules said = verdict_lines parts (length parts.groups - length rules) rules 0 parts.groups said ++ solution_line (are_kept said)
