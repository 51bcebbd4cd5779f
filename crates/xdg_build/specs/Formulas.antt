-- The formula that is made of a rule, as a function of it. Of a rule with which something is wrong it is some formula.
use Rattle.std.specs.Prelude.{ℕ, Bool, true, false, List, [], ◌∷◌, ◌++◌, length, map, get_or, Option, None, Some, unwrap_or}
use Rattle.xdg_ast.specs.declared.names.Name.{Name}
use Rattle.xdg_ast.specs.Grammar.{Term}
use Rattle.xdg_domain.specs.Shapes.{Shape}
use Rattle.xdg_domain.specs.declared.values.Value.{out-Value}
use Rattle.xdg_names.specs.Texts.{place_of}
use Rattle.xdg_packed.specs.Lexicon.{Lexicon}
use Rattle.xdg_problem.specs.declared.formula.Formula.{Formula}
use Rattle.xdg_problem.specs.declared.formula.Formula.TheVariants as y
use Rattle.xdg_problem.specs.declared.parts.Parts.{Parts}
use Rattle.xdg_terms.specs.Built.{built}
use Rattle.xdg_types.specs.declared.table.DimType.{DimType}
use Rattle.xdg_types.specs.Table.{Table, firsts, typed}
use Rattle.xdg_build.specs.Readings.{type_at}
use Rattle.xdg_formula.specs.Tables.{member_shape, no_dim, used_dims}
use Rattle.xdg_formula.specs.declared.tree.Rule.{Rule}
use Rattle.xdg_formula.specs.Written.{Tree, negation, conjunction, disjunction, every, any, edge, above, left, same, attr, feat, Trees, no_tree, tree_then, tree}
use Rattle.xdg_build.specs.Places.{names_at}
use Rattle.xdg_build.specs.Signs.{denies}
use Rattle.xdg_build.specs.Tables.{number_in, table_of}

-- ---- numbers

-- the place of the first text that is the name, and 0 where none is
abbrev pub place_or_zero : List (List ℕ) → List ℕ → ℕ
place_or_zero texts name = unwrap_or (place_of texts name) 0

-- the number of a value of a domain or a tuple type
abbrev pub number_of : Shape → Term → ℕ
number_of s value = number_in (out-Value (built [] s value))

-- the same of a type that may be missing
abbrev pub member_number : Option Shape → Term → ℕ
member_number None value = 0
member_number (Some s) value = number_of s value

-- ---- formulas

-- a formula, or that it is false
abbrev pub signed : Bool → Formula → Formula
signed true f = y.Not f
signed false f = f

module _ (table : Table) (lexicon : Lexicon) (parts : Parts) where
  -- the number of a dimension, and its types
  abbrev pub dim_in : Name → ℕ
  dim_in dim = place_or_zero (names_at table.dims table.used) dim.text

  abbrev pub type_in : Name → DimType
  type_in dim = get_or (used_dims table) (dim_in dim) no_dim

  abbrev pub attribute_in : Name → Name → ℕ
  attribute_in dim attribute = place_or_zero (firsts (type_in dim).attrs) attribute.text

  abbrev pub feature_in : Name → Name → ℕ
  feature_in dim feature = place_or_zero (firsts (type_in dim).fields) feature.text

  abbrev mutual
    -- the formula of a tree where these names are bound: they are numbered in their order
    pub formula_in : List (List ℕ) → Tree → Formula
    formula_in scope (negation signs at t) = signed (denies signs) (formula_in scope t)
    formula_in scope (conjunction ts) = y.And (formulas_in scope ts)
    formula_in scope (disjunction ts) = y.Or (formulas_in scope ts)
    formula_in scope (every name at t) = y.Every (length scope) (formula_in (scope ++ name.text ∷ []) t)
    formula_in scope (any name at t) = y.Any (length scope) (formula_in (scope ++ name.text ∷ []) t)
    formula_in scope (edge dim mother label daughter) =
        y.Edge (record { 0 = dim_in dim }) (place_or_zero scope mother.text) (record { 0 = place_or_zero (type_in dim).labels label.text })
        (place_or_zero scope daughter.text)
    formula_in scope (above dim upper lower) = y.Above (record { 0 = dim_in dim }) (place_or_zero scope upper.text) (place_or_zero scope lower.text)
    formula_in scope (left first second) = y.Left (place_or_zero scope first.text) (place_or_zero scope second.text)
    formula_in scope (same first second) = y.Same (place_or_zero scope first.text) (place_or_zero scope second.text)
    formula_in scope (attr node dim attribute value) =
        y.Attr (place_or_zero scope node.text) (record { 0 = dim_in dim }) (record { 0 = attribute_in dim attribute })
        (number_of (type_at (typed (type_in dim).attrs) (attribute_in dim attribute)) value)
    formula_in scope (feat node dim feature value) =
        y.Feat (place_or_zero scope node.text)
        (table_of lexicon.entries parts.candidates (dim_in dim) (feature_in dim feature)
        (member_number (member_shape (type_at (typed (type_in dim).fields) (feature_in dim feature))) value))

    pub formulas_in : List (List ℕ) → Trees → List Formula
    formulas_in scope no_tree = []
    formulas_in scope (tree_then at t ts) = formula_in scope t ∷ formulas_in scope ts

  -- the formulas of rules, one for each, in their order
  abbrev pub formulas_of : List Rule → List Formula
  formulas_of rules = map (λ rule. formula_in [] (tree rule.body.kind)) rules
