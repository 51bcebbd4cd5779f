-- The tree of a formula, form by form.
use Rattle.std.proofs.Common.{◌≡◌, List, length, map, sym, ap, ◌∙◌}
use Rattle.xdg_base.specs.declared.places.Span.{Span}
use Rattle.xdg_ast.specs.declared.names.Name.{Name}
use Rattle.xdg_ast.specs.declared.names.Spanned.{Spanned}
use Rattle.xdg_ast.specs.Grammar.{Term}
use Rattle.xdg_formula.specs.declared.tree.RuleKind.TheVariants as r
use Rattle.xdg_formula.specs.declared.tree.RuleKind.TheOpen.{RuleKind-F}
use Rattle.xdg_formula.specs.declared.tree.RuleKind.TheFolds.{fold-roll-RuleKind}
use Rattle.xdg_formula.specs.Rules.{RuleTerm}
use Rattle.xdg_formula.specs.Written.{Tree, negation, conjunction, disjunction, every, any, edge, above, left, same, attr, feat, layer, tree, trees_of}

-- a formula with its tree
abbrev pub treed : RuleTerm → Spanned Tree
treed term = record { kind = tree term.kind; span = term.span }

pub tree_or : (members : List RuleTerm) → tree (r.Or members) ≡ disjunction (trees_of (map treed members))
tree_or members = ap tree (sym (r.rolls-Or members)) ∙ fold-roll-RuleKind Tree layer (RuleKind-F.Or members)

pub tree_and : (members : List RuleTerm) → tree (r.And members) ≡ conjunction (trees_of (map treed members))
tree_and members = ap tree (sym (r.rolls-And members)) ∙ fold-roll-RuleKind Tree layer (RuleKind-F.And members)

pub tree_not : (signs : List Span) (body : RuleTerm) → tree (r.Not signs body) ≡ negation (length signs) body.span.start (tree body.kind)
tree_not signs body = ap tree (sym (r.rolls-Not signs body)) ∙ fold-roll-RuleKind Tree layer (RuleKind-F.Not signs body)

pub tree_every : (name : Name) (body : RuleTerm) → tree (r.Every name body) ≡ every name body.span.start (tree body.kind)
tree_every name body = ap tree (sym (r.rolls-Every name body)) ∙ fold-roll-RuleKind Tree layer (RuleKind-F.Every name body)

pub tree_any : (name : Name) (body : RuleTerm) → tree (r.Any name body) ≡ any name body.span.start (tree body.kind)
tree_any name body = ap tree (sym (r.rolls-Any name body)) ∙ fold-roll-RuleKind Tree layer (RuleKind-F.Any name body)

pub tree_edge : (dim mother label daughter : Name) → tree (r.Edge dim mother label daughter) ≡ edge dim mother label daughter
tree_edge dim mother label daughter = ap tree (sym (r.rolls-Edge dim mother label daughter)) ∙ fold-roll-RuleKind Tree layer (RuleKind-F.Edge dim mother label daughter)

pub tree_above : (dim upper lower : Name) → tree (r.Above dim upper lower) ≡ above dim upper lower
tree_above dim upper lower = ap tree (sym (r.rolls-Above dim upper lower)) ∙ fold-roll-RuleKind Tree layer (RuleKind-F.Above dim upper lower)

pub tree_left : (first second : Name) → tree (r.Left first second) ≡ left first second
tree_left first second = ap tree (sym (r.rolls-Left first second)) ∙ fold-roll-RuleKind Tree layer (RuleKind-F.Left first second)

pub tree_same : (first second : Name) → tree (r.Same first second) ≡ same first second
tree_same first second = ap tree (sym (r.rolls-Same first second)) ∙ fold-roll-RuleKind Tree layer (RuleKind-F.Same first second)

pub tree_attr : (node dim attribute : Name) (value : Term) → tree (r.Attr node dim attribute value) ≡ attr node dim attribute value
tree_attr node dim attribute value = ap tree (sym (r.rolls-Attr node dim attribute value)) ∙ fold-roll-RuleKind Tree layer (RuleKind-F.Attr node dim attribute value)

pub tree_feat : (node dim feature : Name) (value : Term) → tree (r.Feat node dim feature value) ≡ feat node dim feature value
tree_feat node dim feature value = ap tree (sym (r.rolls-Feat node dim feature value)) ∙ fold-roll-RuleKind Tree layer (RuleKind-F.Feat node dim feature value)
