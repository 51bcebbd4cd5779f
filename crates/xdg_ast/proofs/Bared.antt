-- The trees without places, where a tree holds trees of its own kind.
use Rattle.std.proofs.Common.{◌≡◌, true, false, List, map, sym, ◌∙◌, ap}
use Rattle.std.specs.Prelude.{◌↔◌, IsTrue, Bool}
use Rattle.xdg_ast.proofs.Mapped.{parts_of_kinds}
use Rattle.xdg_ast.specs.Same.{bare, bare_name, bare_pair, bare_part, bare_gen, bare_gen_step, bare_elem, bare_elem_step, bare_term, bare_term_step, bare_expr, bare_expr_step, bare_type, bare_type_step}
use Rattle.xdg_ast.specs.declared.names.Name.{Name}
use Rattle.xdg_ast.specs.declared.names.Pair.{Pair}
use Rattle.xdg_ast.specs.declared.names.Spanned.{Spanned}
use Rattle.xdg_ast.specs.declared.terms.GenKind.{GenKind}
use Rattle.xdg_ast.specs.declared.terms.GenKind.TheVariants as g
use Rattle.xdg_ast.specs.declared.terms.GenKind.TheViews.{out-GenKind}
use Rattle.xdg_ast.specs.declared.terms.GenKind.TheOpen.{GenKind-F}
use Rattle.xdg_ast.specs.declared.terms.GenKind.TheFolds.{fold-roll-GenKind}
use Rattle.xdg_ast.specs.declared.terms.TermKind.{TermKind}
use Rattle.xdg_ast.specs.declared.terms.TermKind.TheVariants as t
use Rattle.xdg_ast.specs.declared.terms.ElemKind.{ElemKind}
use Rattle.xdg_ast.specs.declared.terms.ElemKind.TheVariants as e
use Rattle.xdg_ast.specs.declared.terms.ElemKind.TheViews.{out-ElemKind, out-TermKind}
use Rattle.xdg_ast.specs.declared.terms.ElemKind.TheOpen.{ElemKind-F, TermKind-F}
use Rattle.xdg_ast.specs.declared.terms.ElemKind.TheFolds.{fold-roll-ElemKind, fold-roll-TermKind}
use Rattle.xdg_ast.specs.declared.expressions.ExprKind.{ExprKind}
use Rattle.xdg_ast.specs.declared.expressions.ExprKind.TheVariants as x
use Rattle.xdg_ast.specs.declared.expressions.ExprKind.TheViews.{out-ExprKind}
use Rattle.xdg_ast.specs.declared.expressions.ExprKind.TheOpen.{ExprKind-F}
use Rattle.xdg_ast.specs.declared.expressions.ExprKind.TheFolds.{fold-roll-ExprKind}
use Rattle.xdg_ast.specs.declared.types.TypeKind.{TypeKind}
use Rattle.xdg_ast.specs.declared.types.TypeKind.TheVariants as y
use Rattle.xdg_ast.specs.declared.types.TypeKind.TheViews.{out-TypeKind}
use Rattle.xdg_ast.specs.declared.types.TypeKind.TheOpen.{TypeKind-F}
use Rattle.xdg_ast.specs.declared.types.TypeKind.TheFolds.{fold-roll-TypeKind}
use Rattle.xdg_facts.proofs.Lists.{fused}
use Rattle.xdg_facts.proofs.Built.{built, both_then, both_else}

pub bare_gen_and : (xs : List (Spanned GenKind)) → bare_gen (g.And xs) ≡ g.And (map (bare_part bare_gen) xs)
bare_gen_and xs = ap bare_gen (sym (g.rolls-And xs)) ∙ fold-roll-GenKind GenKind bare_gen_step (GenKind-F.And xs) ∙ ap g.And (fused (bare) _ xs)

gen_and_apart : (xs ys : List (Spanned GenKind)) → g.And xs ≡ g.And ys → xs ≡ ys
gen_and_apart xs ys h = let e : GenKind-F.And xs ≡ GenKind-F.And ys = sym (g.outs-And xs) ∙ ap out-GenKind h ∙ g.outs-And ys in cc

pub same_gen_and : (same : Bool) (one other : GenKind) (xs ys s t : List (Spanned GenKind)) → one ≡ g.And xs → other ≡ g.And ys → s ≡ xs → t ≡ ys
    → (IsTrue same ↔ (map (bare_part bare_gen) s ≡ map (bare_part bare_gen) t)) → IsTrue same ↔ (bare_gen one ≡ bare_gen other)
same_gen_and = built bare_gen g.And (map (bare_part bare_gen)) bare_gen_and gen_and_apart

pub bare_gen_or : (xs : List (Spanned GenKind)) → bare_gen (g.Or xs) ≡ g.Or (map (bare_part bare_gen) xs)
bare_gen_or xs = ap bare_gen (sym (g.rolls-Or xs)) ∙ fold-roll-GenKind GenKind bare_gen_step (GenKind-F.Or xs) ∙ ap g.Or (fused (bare) _ xs)

gen_or_apart : (xs ys : List (Spanned GenKind)) → g.Or xs ≡ g.Or ys → xs ≡ ys
gen_or_apart xs ys h = let e : GenKind-F.Or xs ≡ GenKind-F.Or ys = sym (g.outs-Or xs) ∙ ap out-GenKind h ∙ g.outs-Or ys in cc

pub same_gen_or : (same : Bool) (one other : GenKind) (xs ys s t : List (Spanned GenKind)) → one ≡ g.Or xs → other ≡ g.Or ys → s ≡ xs → t ≡ ys
    → (IsTrue same ↔ (map (bare_part bare_gen) s ≡ map (bare_part bare_gen) t)) → IsTrue same ↔ (bare_gen one ≡ bare_gen other)
same_gen_or = built bare_gen g.Or (map (bare_part bare_gen)) bare_gen_or gen_or_apart

pub bare_term_braces : (xs : List (Spanned ElemKind)) → bare_term (t.Braces xs) ≡ t.Braces (map (bare_part bare_elem) xs)
bare_term_braces xs = ap bare_term (sym (t.rolls-Braces xs)) ∙ fold-roll-TermKind ElemKind TermKind bare_elem_step bare_term_step (TermKind-F.Braces xs) ∙ ap t.Braces (fused (bare) _ xs)

term_braces_apart : (xs ys : List (Spanned ElemKind)) → t.Braces xs ≡ t.Braces ys → xs ≡ ys
term_braces_apart xs ys h = let e : TermKind-F.Braces xs ≡ TermKind-F.Braces ys = sym (t.outs-Braces xs) ∙ ap out-TermKind h ∙ t.outs-Braces ys in cc

pub same_term_braces : (same : Bool) (one other : TermKind) (xs ys zs ws : List (Spanned ElemKind)) → one ≡ t.Braces xs → other ≡ t.Braces ys → zs ≡ xs → ws ≡ ys
    → (IsTrue same ↔ (map (bare_part bare_elem) zs ≡ map (bare_part bare_elem) ws)) → IsTrue same ↔ (bare_term one ≡ bare_term other)
same_term_braces = built bare_term t.Braces (map (bare_part bare_elem)) bare_term_braces term_braces_apart

pub bare_expr_and : (xs : List (Spanned ExprKind)) → bare_expr (x.And xs) ≡ x.And (map (bare_part bare_expr) xs)
bare_expr_and xs = ap bare_expr (sym (x.rolls-And xs)) ∙ fold-roll-ExprKind ExprKind bare_expr_step (ExprKind-F.And xs) ∙ ap x.And (fused (bare) _ xs)

expr_and_apart : (xs ys : List (Spanned ExprKind)) → x.And xs ≡ x.And ys → xs ≡ ys
expr_and_apart xs ys h = let e : ExprKind-F.And xs ≡ ExprKind-F.And ys = sym (x.outs-And xs) ∙ ap out-ExprKind h ∙ x.outs-And ys in cc

pub same_expr_and : (same : Bool) (one other : ExprKind) (xs ys s t : List (Spanned ExprKind)) → one ≡ x.And xs → other ≡ x.And ys → s ≡ xs → t ≡ ys
    → (IsTrue same ↔ (map (bare_part bare_expr) s ≡ map (bare_part bare_expr) t)) → IsTrue same ↔ (bare_expr one ≡ bare_expr other)
same_expr_and = built bare_expr x.And (map (bare_part bare_expr)) bare_expr_and expr_and_apart

pub bare_expr_or : (xs : List (Spanned ExprKind)) → bare_expr (x.Or xs) ≡ x.Or (map (bare_part bare_expr) xs)
bare_expr_or xs = ap bare_expr (sym (x.rolls-Or xs)) ∙ fold-roll-ExprKind ExprKind bare_expr_step (ExprKind-F.Or xs) ∙ ap x.Or (fused (bare) _ xs)

expr_or_apart : (xs ys : List (Spanned ExprKind)) → x.Or xs ≡ x.Or ys → xs ≡ ys
expr_or_apart xs ys h = let e : ExprKind-F.Or xs ≡ ExprKind-F.Or ys = sym (x.outs-Or xs) ∙ ap out-ExprKind h ∙ x.outs-Or ys in cc

pub same_expr_or : (same : Bool) (one other : ExprKind) (xs ys s t : List (Spanned ExprKind)) → one ≡ x.Or xs → other ≡ x.Or ys → s ≡ xs → t ≡ ys
    → (IsTrue same ↔ (map (bare_part bare_expr) s ≡ map (bare_part bare_expr) t)) → IsTrue same ↔ (bare_expr one ≡ bare_expr other)
same_expr_or = built bare_expr x.Or (map (bare_part bare_expr)) bare_expr_or expr_or_apart

pub bare_type_rec : (xs : List (Pair (Spanned TypeKind))) → bare_type (y.Rec xs) ≡ y.Rec (map (bare_pair (bare_part bare_type)) xs)
bare_type_rec xs = ap bare_type (sym (y.rolls-Rec xs)) ∙ fold-roll-TypeKind TypeKind bare_type_step (TypeKind-F.Rec xs) ∙ ap y.Rec (fused (bare_pair bare) _ xs)

type_rec_apart : (xs ys : List (Pair (Spanned TypeKind))) → y.Rec xs ≡ y.Rec ys → xs ≡ ys
type_rec_apart xs ys h = let e : TypeKind-F.Rec xs ≡ TypeKind-F.Rec ys = sym (y.outs-Rec xs) ∙ ap out-TypeKind h ∙ y.outs-Rec ys in cc

pub same_type_rec : (same : Bool) (one other : TypeKind) (xs ys s t : List (Pair (Spanned TypeKind))) → one ≡ y.Rec xs → other ≡ y.Rec ys → s ≡ xs → t ≡ ys
    → (IsTrue same ↔ (map (bare_pair (bare_part bare_type)) s ≡ map (bare_pair (bare_part bare_type)) t)) → IsTrue same ↔ (bare_type one ≡ bare_type other)
same_type_rec = built bare_type y.Rec (map (bare_pair (bare_part bare_type))) bare_type_rec type_rec_apart

pub bare_type_tuple : (xs : List (Spanned TypeKind)) → bare_type (y.Tuple xs) ≡ y.Tuple (map (bare_part bare_type) xs)
bare_type_tuple xs = ap bare_type (sym (y.rolls-Tuple xs)) ∙ fold-roll-TypeKind TypeKind bare_type_step (TypeKind-F.Tuple xs) ∙ ap y.Tuple (fused (bare) _ xs)

type_tuple_apart : (xs ys : List (Spanned TypeKind)) → y.Tuple xs ≡ y.Tuple ys → xs ≡ ys
type_tuple_apart xs ys h = let e : TypeKind-F.Tuple xs ≡ TypeKind-F.Tuple ys = sym (y.outs-Tuple xs) ∙ ap out-TypeKind h ∙ y.outs-Tuple ys in cc

pub same_type_tuple : (same : Bool) (one other : TypeKind) (xs ys s t : List (Spanned TypeKind)) → one ≡ y.Tuple xs → other ≡ y.Tuple ys → s ≡ xs → t ≡ ys
    → (IsTrue same ↔ (map (bare_part bare_type) s ≡ map (bare_part bare_type) t)) → IsTrue same ↔ (bare_type one ≡ bare_type other)
same_type_tuple = built bare_type y.Tuple (map (bare_part bare_type)) bare_type_tuple type_tuple_apart

pub bare_type_set : (part : Spanned TypeKind) → bare_type (y.Set part) ≡ y.Set (bare_part bare_type part)
bare_type_set part = ap bare_type (sym (y.rolls-Set part)) ∙ fold-roll-TypeKind TypeKind bare_type_step (TypeKind-F.Set part)

type_set_apart : (a b : Spanned TypeKind) → y.Set a ≡ y.Set b → a ≡ b
type_set_apart a b h = let e : TypeKind-F.Set a ≡ TypeKind-F.Set b = sym (y.outs-Set a) ∙ ap out-TypeKind h ∙ y.outs-Set b in cc

pub same_type_set : (same : Bool) (one other : TypeKind) (a b s t : Spanned TypeKind) → one ≡ y.Set a → other ≡ y.Set b → s ≡ a → t ≡ b
    → (IsTrue same ↔ (bare_type s.kind ≡ bare_type t.kind)) → IsTrue same ↔ (bare_type one ≡ bare_type other)
same_type_set same one other a b s t is_one is_other is_s is_t told =
    built bare_type y.Set (bare_part bare_type) bare_type_set type_set_apart same one other a b s t is_one is_other is_s is_t (parts_of_kinds bare_type s t same told)

pub bare_type_iset : (part : Spanned TypeKind) → bare_type (y.ISet part) ≡ y.ISet (bare_part bare_type part)
bare_type_iset part = ap bare_type (sym (y.rolls-ISet part)) ∙ fold-roll-TypeKind TypeKind bare_type_step (TypeKind-F.ISet part)

type_iset_apart : (a b : Spanned TypeKind) → y.ISet a ≡ y.ISet b → a ≡ b
type_iset_apart a b h = let e : TypeKind-F.ISet a ≡ TypeKind-F.ISet b = sym (y.outs-ISet a) ∙ ap out-TypeKind h ∙ y.outs-ISet b in cc

pub same_type_iset : (same : Bool) (one other : TypeKind) (a b s t : Spanned TypeKind) → one ≡ y.ISet a → other ≡ y.ISet b → s ≡ a → t ≡ b
    → (IsTrue same ↔ (bare_type s.kind ≡ bare_type t.kind)) → IsTrue same ↔ (bare_type one ≡ bare_type other)
same_type_iset same one other a b s t is_one is_other is_s is_t told =
    built bare_type y.ISet (bare_part bare_type) bare_type_iset type_iset_apart same one other a b s t is_one is_other is_s is_t (parts_of_kinds bare_type s t same told)

pub bare_type_valency : (part : Spanned TypeKind) → bare_type (y.Valency part) ≡ y.Valency (bare_part bare_type part)
bare_type_valency part = ap bare_type (sym (y.rolls-Valency part)) ∙ fold-roll-TypeKind TypeKind bare_type_step (TypeKind-F.Valency part)

type_valency_apart : (a b : Spanned TypeKind) → y.Valency a ≡ y.Valency b → a ≡ b
type_valency_apart a b h = let e : TypeKind-F.Valency a ≡ TypeKind-F.Valency b = sym (y.outs-Valency a) ∙ ap out-TypeKind h ∙ y.outs-Valency b in cc

pub same_type_valency : (same : Bool) (one other : TypeKind) (a b s t : Spanned TypeKind) → one ≡ y.Valency a → other ≡ y.Valency b → s ≡ a → t ≡ b
    → (IsTrue same ↔ (bare_type s.kind ≡ bare_type t.kind)) → IsTrue same ↔ (bare_type one ≡ bare_type other)
same_type_valency same one other a b s t is_one is_other is_s is_t told =
    built bare_type y.Valency (bare_part bare_type) bare_type_valency type_valency_apart same one other a b s t is_one is_other is_s is_t (parts_of_kinds bare_type s t same told)

abbrev keyed : Name × Spanned TermKind → ElemKind
keyed p = e.Keyed p.0 p.1

bare_keyed : (p : Name × Spanned TermKind) → bare_elem (keyed p) ≡ keyed (bare_name p.0, bare_part bare_term p.1)
bare_keyed p = ap bare_elem (sym (e.rolls-Keyed p.0 p.1)) ∙ fold-roll-ElemKind ElemKind TermKind bare_elem_step bare_term_step (ElemKind-F.Keyed p.0 p.1)

keyed_apart : (p q : Name × Spanned TermKind) → keyed p ≡ keyed q → p ≡ q
keyed_apart (a, b) (c, d) h = let e : ElemKind-F.Keyed a b ≡ ElemKind-F.Keyed c d = sym (e.outs-Keyed a b) ∙ ap out-ElemKind h ∙ e.outs-Keyed c d in cc

pub same_keyed : (named same : Bool) (one other : ElemKind) (name given : Name) (term value s t : Spanned TermKind) → one ≡ e.Keyed name term → other ≡ e.Keyed given value → s ≡ term → t ≡ value
    → named ≡ true → (IsTrue named ↔ (bare_name name ≡ bare_name given)) → (IsTrue same ↔ (bare_term s.kind ≡ bare_term t.kind)) → IsTrue same ↔ (bare_elem one ≡ bare_elem other)
same_keyed named same one other name given term value s t is_one is_other is_s is_t is told_name told =
    built bare_elem keyed (λ p. (bare_name p.0, bare_part bare_term p.1)) bare_keyed keyed_apart same one other (name, term) (given, value) (name, s) (given, t) is_one is_other
    (ap (λ u. (name, u)) is_s) (ap (λ u. (given, u)) is_t)
    (both_then (bare_name name) (bare_name given) (bare_part bare_term s) (bare_part bare_term t) named same is told_name (parts_of_kinds bare_term s t same told))

abbrev mapping : Spanned TypeKind × Spanned TypeKind → TypeKind
mapping p = y.Map p.0 p.1

abbrev bare_both : Spanned TypeKind × Spanned TypeKind → Spanned TypeKind × Spanned TypeKind
bare_both p = (bare_part bare_type p.0, bare_part bare_type p.1)

bare_mapping : (p : Spanned TypeKind × Spanned TypeKind) → bare_type (mapping p) ≡ mapping (bare_both p)
bare_mapping p = ap bare_type (sym (y.rolls-Map p.0 p.1)) ∙ fold-roll-TypeKind TypeKind bare_type_step (TypeKind-F.Map p.0 p.1)

mapping_apart : (p q : Spanned TypeKind × Spanned TypeKind) → mapping p ≡ mapping q → p ≡ q
mapping_apart (a, b) (c, d) h = let e : TypeKind-F.Map a b ≡ TypeKind-F.Map c d = sym (y.outs-Map a b) ∙ ap out-TypeKind h ∙ y.outs-Map c d in cc

pub same_map_then : (first same : Bool) (one other : TypeKind) (key given value image a b c d : Spanned TypeKind) → one ≡ y.Map key value → other ≡ y.Map given image
    → a ≡ key → b ≡ given → c ≡ value → d ≡ image → first ≡ true → (IsTrue first ↔ (bare_type a.kind ≡ bare_type b.kind))
    → (IsTrue same ↔ (bare_type c.kind ≡ bare_type d.kind)) → IsTrue same ↔ (bare_type one ≡ bare_type other)
same_map_then first same one other key given value image a b c d is_one is_other is_a is_b is_c is_d is told_first told =
    built bare_type mapping bare_both bare_mapping mapping_apart same one other (key, value) (given, image) (a, c) (b, d) is_one is_other
    (ap (λ u. (u, c)) is_a ∙ ap (λ u. (key, u)) is_c) (ap (λ u. (u, d)) is_b ∙ ap (λ u. (given, u)) is_d)
    (both_then (bare_part bare_type a) (bare_part bare_type b) (bare_part bare_type c) (bare_part bare_type d) first same is
    (parts_of_kinds bare_type a b first told_first) (parts_of_kinds bare_type c d same told))

pub same_map_else : (first : Bool) (one other : TypeKind) (key given value image a b : Spanned TypeKind) → one ≡ y.Map key value → other ≡ y.Map given image
    → a ≡ key → b ≡ given → first ≡ false → (IsTrue first ↔ (bare_type a.kind ≡ bare_type b.kind)) → IsTrue first ↔ (bare_type one ≡ bare_type other)
same_map_else first one other key given value image a b is_one is_other is_a is_b is told_first =
    built bare_type mapping bare_both bare_mapping mapping_apart first one other (key, value) (given, image) (a, value) (b, image) is_one is_other
    (ap (λ u. (u, value)) is_a) (ap (λ u. (u, image)) is_b)
    (both_else (bare_part bare_type a) (bare_part bare_type b) (bare_part bare_type value) (bare_part bare_type image) first is (parts_of_kinds bare_type a b first told_first))
