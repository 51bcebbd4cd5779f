-- Bodies with completed bindings, form by form.
use Rattle.std.proofs.Common.{◌≡◌, ℕ, ◌≤◌, Bool, List, [], ◌∷◌, ◌++◌, map, take, length, refl, sym, ap, ap₂, ◌∙◌}
use Rattle.std.specs.Prelude.{if◌then◌else◌}
use Rattle.std.proofs.lemmas.List.{take_all}
use Rattle.xdg_ast.specs.declared.grammar.ClassParam.{ClassParam}
use Rattle.xdg_ast.specs.declared.expressions.ExprKind.{ExprKind}
use Rattle.xdg_ast.specs.declared.expressions.ExprKind.TheVariants as v
use Rattle.xdg_names.specs.Texts.{has_text}
use Rattle.xdg_types.specs.NameFaults.{different}
use Rattle.xdg_types.proofs.Distinct.{same_known}
use Rattle.xdg_classes.specs.Bodies.{Pairs, Expr, Body, either, both, Bodies, no_body, body_then, body}
use Rattle.xdg_classes.specs.Definitions.{ClassDef}
use Rattle.xdg_types.specs.Parts.{keys}
use Rattle.xdg_classes.proofs.Bodied.{trees, body_or, body_and}
use Rattle.xdg_check.specs.Completed.{completed, all_completed, left_out, preset_pair}
use Rattle.xdg_ast.specs.Texts.{texts}

left_same : (a b : List (List ℕ)) → ((t : List ℕ) → has_text a t ≡ has_text b t) → (params : List ClassParam) → left_out a params ≡ left_out b params
left_same a b h [] = refl
left_same a b h (p ∷ params) = ap₂ (λ (x : Bool) y. (if x then [] else preset_pair p.name p.preset) ++ y) (h p.name.text) (left_same a b h params)

-- the different keys leave out what the keys do
pub left_known : (args : Pairs) (params : List ClassParam) → left_out (different (keys args)) params ≡ left_out (texts (keys args)) params
left_known args params = left_same (different (keys args)) (texts (keys args)) (same_known (keys args)) params

-- ---- trees

listed : List Body → Bodies
listed [] = no_body
listed (b ∷ bs) = body_then b (listed bs)

trees_listed : (es : List Expr) → trees es ≡ listed (map (λ e. body e.kind) es)
unfolding listed
trees_listed [] = refl
trees_listed (e ∷ es) = ap (body_then (body e.kind)) (trees_listed es)

all_listed : (cs : List ClassDef) (es : List Expr) → all_completed cs (trees es) ≡ listed (map (λ e. completed cs (body e.kind)) es)
unfolding listed
all_listed cs [] = refl
all_listed cs (e ∷ es) = ap (body_then (completed cs (body e.kind))) (all_listed cs es)

module _ (cs : List ClassDef) (kind : ExprKind) (members items made : List Expr) (i : ℕ) (same : items ≡ members) (past : length items ≤ i) (so_far : map (λ e. body e.kind) made ≡ map (λ e. completed cs (body e.kind)) (take i items)) where
  all_made : trees made ≡ all_completed cs (trees members)
  all_made = trees_listed made ∙ ap listed (so_far ∙ ap (map (λ (e : Expr). completed cs (body e.kind))) (take_all i items past ∙ same)) ∙ sym (all_listed cs members)

  pub completed_or : kind ≡ v.Or members → body (v.Or made) ≡ completed cs (body kind)
  completed_or is = body_or made ∙ ap either all_made ∙ sym (ap (completed cs) (ap body is ∙ body_or members))

  pub completed_and : kind ≡ v.And members → body (v.And made) ≡ completed cs (body kind)
  completed_and is = body_and made ∙ ap both all_made ∙ sym (ap (completed cs) (ap body is ∙ body_and members))
