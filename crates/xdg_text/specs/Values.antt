-- How a value of an attribute is written.
use Rattle.std.specs.Prelude.{ℕ, List, ◌++◌, codes}
use Rattle.std.specs.List.{join_by}
use Rattle.xdg_problem.specs.declared.parts.Shown.{Shown}
use Rattle.xdg_problem.specs.declared.parts.Shown.TheVariants as shown
use Rattle.xdg_text.specs.Constants.{constant}

-- a constant with a space before it
abbrev pub led_constant : List ℕ → List ℕ
led_constant text = codes " " ++ constant text

-- one constant, or those of a tuple in square brackets
abbrev pub value_text : Shown → List ℕ
value_text (shown.One text) = constant text
value_text (shown.Many texts) = codes "[" ++ (join_by constant (codes " ") texts ++ codes "]")
