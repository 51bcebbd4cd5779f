-- The trees of types, form by form.
use Rattle.std.proofs.Common.{◌≡◌, List, [], ◌∷◌, map, sym, ◌∙◌, ap, refl}
use Rattle.xdg_ast.specs.declared.names.Name.{Name}
use Rattle.xdg_ast.specs.declared.names.Pair.{Pair}
use Rattle.xdg_ast.specs.declared.names.Spanned.{Spanned}
use Rattle.xdg_ast.specs.declared.types.TypeKind.TheVariants as y
use Rattle.xdg_ast.specs.declared.types.TypeKind.TheOpen.{TypeKind-F}
use Rattle.xdg_ast.specs.declared.types.TypeKind.TheFolds.{fold-roll-TypeKind}
use Rattle.xdg_types.specs.Written.{Tree, listed, recorded, tupled, set_of, iset_of, valency_of, map_of, named, Trees, no_tree, tree_then, Members, no_member, member_then, trees_of, members_of, layer, tree}
use Rattle.xdg_types.specs.Parts.{TypeTerm}

-- the trees of some types
abbrev pub trees : List TypeTerm → Trees
trees [] = no_tree
trees (t ∷ ts) = tree_then t.span.start (tree t.kind) (trees ts)

-- the trees of some fields
abbrev pub members : List (Pair TypeTerm) → Members
members [] = no_member
members (p ∷ ps) = member_then p.key p.value.span.start (tree p.value.kind) (members ps)

abbrev pub treed : TypeTerm → Spanned Tree
treed t = record { kind = tree t.kind; span = t.span }

abbrev pub paired : Pair TypeTerm → Pair (Spanned Tree)
paired p = record { key = p.key; value = treed p.value }

trees_are : (ts : List TypeTerm) → trees_of (map treed ts) ≡ trees ts
trees_are [] = refl
trees_are (t ∷ ts) = ap (tree_then t.span.start (tree t.kind)) (trees_are ts)

members_are : (ps : List (Pair TypeTerm)) → members_of (map paired ps) ≡ members ps
members_are [] = refl
members_are (p ∷ ps) = ap (member_then p.key p.value.span.start (tree p.value.kind)) (members_are ps)

pub tree_named : (name : Name) → tree (y.Named name) ≡ named name
tree_named name = ap tree (sym (y.rolls-Named name)) ∙ fold-roll-TypeKind Tree layer (TypeKind-F.Named name)

pub tree_domain : (names : List Name) → tree (y.Domain names) ≡ listed names
tree_domain names = ap tree (sym (y.rolls-Domain names)) ∙ fold-roll-TypeKind Tree layer (TypeKind-F.Domain names)

pub tree_set : (t : TypeTerm) → tree (y.Set t) ≡ set_of t.span.start (tree t.kind)
tree_set t = ap tree (sym (y.rolls-Set t)) ∙ fold-roll-TypeKind Tree layer (TypeKind-F.Set t)

pub tree_iset : (t : TypeTerm) → tree (y.ISet t) ≡ iset_of t.span.start (tree t.kind)
tree_iset t = ap tree (sym (y.rolls-ISet t)) ∙ fold-roll-TypeKind Tree layer (TypeKind-F.ISet t)

pub tree_valency : (t : TypeTerm) → tree (y.Valency t) ≡ valency_of t.span.start (tree t.kind)
tree_valency t = ap tree (sym (y.rolls-Valency t)) ∙ fold-roll-TypeKind Tree layer (TypeKind-F.Valency t)

pub tree_map : (t u : TypeTerm) → tree (y.Map t u) ≡ map_of t.span.start (tree t.kind) u.span.start (tree u.kind)
tree_map t u = ap tree (sym (y.rolls-Map t u)) ∙ fold-roll-TypeKind Tree layer (TypeKind-F.Map t u)

pub tree_tuple : (ts : List TypeTerm) → tree (y.Tuple ts) ≡ tupled (trees ts)
tree_tuple ts = ap tree (sym (y.rolls-Tuple ts)) ∙ fold-roll-TypeKind Tree layer (TypeKind-F.Tuple ts) ∙ ap tupled (trees_are ts)

pub tree_rec : (ps : List (Pair TypeTerm)) → tree (y.Rec ps) ≡ recorded (members ps)
tree_rec ps = ap tree (sym (y.rolls-Rec ps)) ∙ fold-roll-TypeKind Tree layer (TypeKind-F.Rec ps) ∙ ap recorded (members_are ps)
