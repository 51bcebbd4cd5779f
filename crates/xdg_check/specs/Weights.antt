-- How many bytes of the text the defaults take that stand in completed bindings, each as often as it stands there.
use Rattle.std.specs.Prelude.{◌≡◌, ℕ, ◌+◌, ◌-◌, min, List, Option, None, Some, if◌then◌else◌}
use Rattle.std.specs.List.{sum_by}
use Rattle.xdg_ast.specs.declared.grammar.ClassParam.{ClassParam}
use Rattle.xdg_ast.specs.declared.grammar.StatementKind.{StatementKind}
use Rattle.xdg_ast.specs.declared.grammar.StatementKind.TheVariants as s
use Rattle.xdg_names.specs.Texts.{has_text}
use Rattle.xdg_types.specs.Parts.{Statement, keys}
use Rattle.xdg_classes.specs.Bodies.{Term, Pairs, Body, body, Called, calls}
use Rattle.xdg_classes.specs.Definitions.{ClassDef, class_named}
use Rattle.xdg_ast.specs.Texts.{texts}

-- a parameter with its default, which counts one more than it has bytes
abbrev pub preset_bytes : Option Term → ℕ
preset_bytes None = 1
preset_bytes (Some t) = t.span.end - t.span.start + 1

-- nothing where the parameter is among those that are given
abbrev pub param_bytes : List (List ℕ) → ClassParam → ℕ
param_bytes known param = if has_text known param.name.text then 0 else preset_bytes param.preset

abbrev pub left_out_bytes : List (List ℕ) → List ClassParam → ℕ
left_out_bytes known params = sum_by (param_bytes known) params

-- what a use of this class leaves out
abbrev pub use_bytes : Option ClassDef → Pairs → ℕ
use_bytes None args = 0
use_bytes (Some c) args = left_out_bytes (texts (keys args)) c.params

abbrev pub call_bytes : List ClassDef → Called → ℕ
call_bytes cs call = use_bytes (class_named cs call.name.text) call.args

-- what the uses in a body leave out
abbrev pub body_bytes : List ClassDef → Body → ℕ
body_bytes cs b = sum_by (call_bytes cs) (calls b)

abbrev pub statement_bytes : List ClassDef → StatementKind → ℕ
statement_bytes cs (s.DefClass name params e) = body_bytes cs (body e.kind)
statement_bytes cs (s.DefEntry e) = body_bytes cs (body e.kind)
statement_bytes cs _ = 0

-- what all bodies leave out
abbrev pub default_bytes : List ClassDef → List Statement → ℕ
default_bytes cs statements = sum_by (λ statement. statement_bytes cs statement.kind) statements

-- how many bytes they may take together
abbrev pub most_bytes : ℕ
most_bytes = 67108864

-- as many are counted as there are, or both are above the bound
abbrev pub IsCountOf : ℕ → ℕ → Type 0
IsCountOf counted all = min counted (most_bytes + 1) ≡ min all (most_bytes + 1)
