-- Formulas as they are written, as trees in which each part has its place.
use Rattle.std.specs.Prelude.{ℕ, List, [], ◌∷◌, length}
use Rattle.xdg_ast.specs.declared.names.Name.{Name}
use Rattle.xdg_ast.specs.declared.names.Spanned.{Spanned}
use Rattle.xdg_ast.specs.Grammar.{Term}
use Rattle.xdg_formula.specs.declared.tree.RuleKind.{RuleKind}
use Rattle.xdg_formula.specs.declared.tree.RuleKind.TheOpen.{RuleKind-F}
use Rattle.xdg_formula.specs.declared.tree.RuleKind.TheFolds.{fold-RuleKind}

-- The numbers are the places of the parts, and how many signs a run has.
mutual
  pub data Tree : Type 0 where
    -- `!a`, with so many signs
    negation : (signs at : ℕ) → Tree → Tree
    -- `a & b`
    conjunction : Trees → Tree
    -- `a | b`
    disjunction : Trees → Tree
    -- `all x (a)`
    every : Name → (at : ℕ) → Tree → Tree
    -- `some x (a)`
    any : Name → (at : ℕ) → Tree → Tree
    edge : (dim mother label daughter : Name) → Tree
    above : (dim upper lower : Name) → Tree
    left : (first second : Name) → Tree
    same : (first second : Name) → Tree
    attr : (node dim attribute : Name) → Term → Tree
    feat : (node dim feature : Name) → Term → Tree

  pub data Trees : Type 0 where
    no_tree : Trees
    tree_then : (at : ℕ) → Tree → Trees → Trees

abbrev pub trees_of : List (Spanned Tree) → Trees
trees_of [] = no_tree
trees_of (t ∷ ts) = tree_then t.span.start t.kind (trees_of ts)

abbrev pub layer : RuleKind-F Tree → Tree
layer (RuleKind-F.Or members) = disjunction (trees_of members)
layer (RuleKind-F.And members) = conjunction (trees_of members)
layer (RuleKind-F.Not signs body) = negation (length signs) body.span.start body.kind
layer (RuleKind-F.Every name body) = every name body.span.start body.kind
layer (RuleKind-F.Any name body) = any name body.span.start body.kind
layer (RuleKind-F.Edge dim mother label daughter) = edge dim mother label daughter
layer (RuleKind-F.Above dim upper lower) = above dim upper lower
layer (RuleKind-F.Left first second) = left first second
layer (RuleKind-F.Same first second) = same first second
layer (RuleKind-F.Attr node dim attribute value) = attr node dim attribute value
layer (RuleKind-F.Feat node dim feature value) = feat node dim feature value

-- the tree of a formula as it is written
abbrev pub tree : RuleKind → Tree
tree = fold-RuleKind Tree layer
