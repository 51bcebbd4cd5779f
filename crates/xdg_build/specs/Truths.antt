-- When a rule is true of an analysis, in words of the grammar: dimensions, labels, attributes and features by their names, and values by
-- their constants.
use Rattle.std.specs.Prelude.{◌≡◌, ◌⊎◌, ℕ, zero, suc, ◌<◌, cond, bytes_eq, List, [], ◌∷◌, map, slice_get, Some, Any}
use Rattle.xdg_ast.specs.declared.terms.ElemKind.{ElemKind}
use Rattle.xdg_ast.specs.declared.terms.ElemKind.TheOpen.{TermKind-F}
use Rattle.xdg_ast.specs.declared.terms.TermKind.{TermKind, out-TermKind}
use Rattle.xdg_ast.specs.Grammar.{Term}
use Rattle.xdg_domain.specs.Shapes.{Shape, domain, tuple}
use Rattle.xdg_domain.specs.declared.values.Value.{Value}
use Rattle.xdg_domain.specs.declared.values.Value.TheOpen.{Value-F}
use Rattle.xdg_problem.specs.declared.analysis.Analysis.{Analysis}
use Rattle.xdg_problem.specs.Paths.{Above}
use Rattle.xdg_packed.specs.Lexicon.{Lexicon}
use Rattle.xdg_types.specs.Table.{Table, firsts}
use Rattle.xdg_build.specs.Grammars.{Grammar}
use Rattle.xdg_build.specs.Readings.{IsMember, OnFeature, dimension, edges_in, label_text, value_of, value_texts}
use Rattle.xdg_formula.specs.declared.tree.Rule.{Rule}
use Rattle.xdg_formula.specs.Written.{Tree, negation, conjunction, disjunction, every, any, edge, above, left, same, attr, feat, Trees, no_tree, tree_then, tree}
use Rattle.xdg_facts.specs.Membership.{In}

-- ---- values

abbrev pub constants_in : TermKind-F ElemKind TermKind → List (List ℕ)
constants_in (TermKind-F.TermKind::Const name) = name.text ∷ []
constants_in (TermKind-F.TermKind::Tuple names) = map (λ name. name.text) names
constants_in _ = []

-- the constants of a value as it is written: one, or those of a tuple
unfoldable pub constants_of : Term → List (List ℕ)
constants_of value = constants_in (out-TermKind value.kind)

-- a value of a feature is the one with these constants, or a set that has it as a member
abbrev pub IsOrHas : Shape → Value-F Value → List (List ℕ) → Type 0
IsOrHas (domain cs) (Value-F.Const n) texts = value_texts (domain cs) n ≡ texts
IsOrHas (tuple ss) (Value-F.Tuple n) texts = value_texts (tuple ss) n ≡ texts
IsOrHas s v texts = IsMember s v texts

-- ---- names of nodes

-- the node that each name stands for
abbrev pub Binding : Type 0
Binding = List ℕ → ℕ

-- a name stands for a node, and each other name for what it stood for
abbrev pub bind : Binding → List ℕ → ℕ → Binding
bind b name node other = cond (bytes_eq other name) node (b other)

-- ---- negation

-- not P, said so many times
abbrev pub Denied : ℕ → Type 0 → Type 0
Denied zero P = P
Denied (suc k) P = Denied k P → ⊥

module _ (table : Table) (lexicon : Lexicon) (nodes : ℕ) (a : Analysis) where
  -- what is read of a grammar: its types and its entries
  abbrev g : Grammar
  g = record { table = table; uses = []; lexicon = lexicon }

  -- ---- what atoms say

  -- the dimension with that place among all is used, and has that name
  abbrev pub IsCalled : List ℕ → ℕ → Type 0
  IsCalled name k = In g.table.used k × ((dimension g k).name ≡ name)

  -- on the dimension an edge with the label leads from u to v
  abbrev pub Joins : List ℕ → ℕ → List ℕ → ℕ → Type 0
  Joins dim u label v = (k : ℕ) × IsCalled dim k × Any (λ e. (e.mother.0 ≡ u) × (label_text g k e.label.0 ≡ label) × (e.daughter.0 ≡ v)) (edges_in g a k)

  -- on the dimension a path of one or more edges leads from u to v
  abbrev pub IsAbove : List ℕ → ℕ → ℕ → Type 0
  IsAbove dim u v = (k : ℕ) × IsCalled dim k × Above (edges_in g a k) u v

  -- the attribute of v on the dimension has the value with these constants
  abbrev pub HasAttribute : ℕ → List ℕ → List ℕ → List (List ℕ) → Type 0
  HasAttribute v dim attribute texts =
      (k : ℕ) × (place : ℕ) × IsCalled dim k × (slice_get (firsts (dimension g k).attrs) place ≡ Some attribute) × (value_of g nodes a k v (Some place) ≡ texts)

  -- the feature of v's entry on the dimension has it, as its value or as a member
  abbrev pub HasFeature : ℕ → List ℕ → List ℕ → List (List ℕ) → Type 0
  HasFeature v dim feature texts =
      (k : ℕ) × (place : ℕ) × IsCalled dim k × (slice_get (firsts (dimension g k).fields) place ≡ Some feature)
      × OnFeature g a k v (Some place) (λ s x. IsOrHas s x texts)

  -- ---- formulas

  abbrev mutual
    -- a formula is true where the names of nodes stand for these
    pub IsTrue : Tree → Binding → Type 0
    IsTrue (negation signs at t) b = Denied signs (IsTrue t b)
    IsTrue (conjunction ts) b = EachTrue ts b
    IsTrue (disjunction ts) b = SomeTrue ts b
    IsTrue (every name at t) b = (v : ℕ) → v < nodes → IsTrue t (bind b name.text v)
    IsTrue (any name at t) b = (v : ℕ) × (v < nodes) × IsTrue t (bind b name.text v)
    IsTrue (edge dim mother label daughter) b = Joins dim.text (b mother.text) label.text (b daughter.text)
    IsTrue (above dim upper lower) b = IsAbove dim.text (b upper.text) (b lower.text)
    IsTrue (left first second) b = b first.text < b second.text
    IsTrue (same first second) b = b first.text ≡ b second.text
    IsTrue (attr node dim attribute value) b = HasAttribute (b node.text) dim.text attribute.text (constants_of value)
    IsTrue (feat node dim feature value) b = HasFeature (b node.text) dim.text feature.text (constants_of value)

    pub EachTrue : Trees → Binding → Type 0
    EachTrue no_tree b = Unit {0}
    EachTrue (tree_then at t ts) b = IsTrue t b × EachTrue ts b

    pub SomeTrue : Trees → Binding → Type 0
    SomeTrue no_tree b = ⊥
    SomeTrue (tree_then at t ts) b = IsTrue t b ⊎ SomeTrue ts b

  -- a rule is true: each name in it is bound, so that it is one where no name stands for a node
  abbrev pub RuleHolds : Rule → Type 0
  RuleHolds rule = IsTrue (tree rule.body.kind) (λ name. 0)
