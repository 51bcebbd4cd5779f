-- Counts over the members of an expression, one after the other.
use Rattle.std.proofs.Common.{◌≡◌, ℕ, ◌<◌, ◌≤◌, ◌+◌, ◌*◌, ◌-◌, ◌^◌, List, length, get_or, drop, min, ap, sym, ◌∙◌, arith}
use Rattle.std.proofs.lemmas.List.{drop_all}
use Rattle.xdg_ast.specs.declared.expressions.ExprKind.{ExprKind}
use Rattle.xdg_classes.specs.Bodies.{Expr, Body, Bodies, no_body, body}
use Rattle.xdg_classes.proofs.Bodied.{trees}
use Rattle.xdg_check.specs.Counts.{Counting, combos, product_of_combos}
use Rattle.xdg_facts.specs.Capped.{capped}
use Rattle.xdg_facts.proofs.Lists.{from_place}
use Rattle.xdg_facts.proofs.Numbers.{alone as alone_too}
use Rattle.xdg_facts.proofs.Capped.{factor_more}

alone : (so_far most : ℕ) → so_far ≤ most → so_far ≡ min (so_far + 0) most
alone so_far most within = omega (arith, within)

module _ (names : Counting) (items : List Expr) (k : ℕ) (so_far whole : ℕ) where
  module _ (e : Expr) (grown next : ℕ) (within : k < length items) (is : e ≡ get_or items k e) where
    pub pairs_more : grown ≡ capped (combos names (body e.kind)) → next ≡ capped (so_far * grown) → capped (so_far * product_of_combos names (trees (drop k items))) ≡ whole
        → capped (next * product_of_combos names (trees (drop (k + 1) items))) ≡ whole
    pairs_more g n before =
        factor_more so_far (combos names (body e.kind)) grown next (product_of_combos names (trees (drop (k + 1) items))) (2 ^ 64 - 1) whole g n
        (ap (λ (es : List Expr). capped (so_far * product_of_combos names (trees es))) (sym (from_place items k e within is)) ∙ before)

  module _ (past : length items ≤ k) (small : so_far ≤ 2 ^ 64 - 1) where
    pub sums_all : (sum : Bodies → ℕ) → sum no_body ≡ 0 → capped (so_far + sum (trees (drop k items))) ≡ whole → so_far ≡ whole
    sums_all sum none before =
        alone so_far (2 ^ 64 - 1) small ∙ ap (λ n. capped (so_far + n)) (sym none) ∙ ap (λ (es : List Expr). capped (so_far + sum (trees es))) (sym (drop_all k items past)) ∙ before

    pub pairs_all : capped (so_far * product_of_combos names (trees (drop k items))) ≡ whole → so_far ≡ whole
    pairs_all before = alone_too so_far (2 ^ 64 - 1) small ∙ ap (λ (es : List Expr). capped (so_far * product_of_combos names (trees es))) (sym (drop_all k items past)) ∙ before

-- ---- the forms of expressions

pub of_form : (form : Bodies → Body) (all : Bodies → ℕ) (count : Body → ℕ) → ((bs : Bodies) → all bs ≡ count (form bs)) → (kind : ExprKind) (members items : List Expr) → items ≡ members → body kind ≡ form (trees members)
    → capped (all (trees items)) ≡ capped (count (body kind))
of_form form all count counts kind members items same is = ap (λ es. capped (all (trees es))) same ∙ ap capped (counts (trees members)) ∙ sym (ap (λ b. capped (count b)) is)
