-- Weights fall from step to step.
use Rattle.std.proofs.Common.{◌≡◌, ℕ, ◌<◌, ◌+◌, List, [], ◌∷◌, ◌++◌, length, take, drop, get_or, reverse, ap, sym, ◌∙◌, arith}
use Rattle.std.proofs.lemmas.List.{take_more, take_all, length-reverse}
use Rattle.xdg_ast.specs.declared.names.Name.{Name}
use Rattle.xdg_ast.specs.declared.expressions.ExprKind.{ExprKind}
use Rattle.xdg_ast.specs.declared.expressions.ExprKind.TheVariants as v
use Rattle.std.specs.Prelude.{Option}
use Rattle.xdg_classes.specs.Bodies.{Pairs, Expr, either, both, calling, given, body}
use Rattle.xdg_classes.proofs.Bodied.{trees, body_or, body_and}
use Rattle.xdg_check.specs.Checked.{Parts}
use Rattle.xdg_check.specs.Counts.{Counting}
use Rattle.xdg_lexicon.specs.declared.frames.Frame.{Frame}
use Rattle.xdg_lexicon.specs.declared.frames.Frame.TheVariants as frame
use Rattle.xdg_lexicon.specs.Weights.{heavy, weigh, weigh_in}
use Rattle.xdg_lexicon.proofs.Denoted.{of_use}
use Rattle.xdg_facts.proofs.Lists.{from_place}

weigh_both : (names : Counting) (xs ys : List Expr) → weigh_in names (trees (xs ++ ys)) ≡ weigh_in names (trees xs) + weigh_in names (trees ys)
weigh_both names [] ys = omega arith
weigh_both names (x ∷ xs) ys = (let h = weigh_both names xs ys in omega (arith, h))

module _ (names : Counting) (items : List Expr) (k : ℕ) (e : Expr) (within : k < length items) (at : e ≡ get_or items k e) where
  pub from_first : weigh_in names (trees (drop k items)) ≡ weigh names (body e.kind) + weigh_in names (trees (drop (k + 1) items))
  from_first = ap (λ l. weigh_in names (trees l)) (from_place items k e within at)

  pub to_last : weigh_in names (trees (take (k + 1) items)) ≡ weigh_in names (trees (take k items)) + weigh names (body e.kind)
  to_last =
      let longer : take (k + 1) items ≡ take k items ++ e ∷ [] = take_more items k e within ∙ ap (λ x. take k items ++ x ∷ []) (sym at) in
      let split : weigh_in names (trees (take k items ++ e ∷ [])) ≡ weigh_in names (trees (take k items)) + (weigh names (body e.kind) + 0) = weigh_both names (take k items) (e ∷ []) in
      let whole : weigh_in names (trees (take (k + 1) items)) ≡ weigh_in names (trees (take k items ++ e ∷ [])) = ap (λ l. weigh_in names (trees l)) longer in
      omega (arith, split, whole)

-- what weighs less, whatever is open around it, and its part

abbrev pub IsLighter : ℕ → ℕ → ℕ → ℕ → Type 0
IsLighter part whole opened before = (part < whole) × (opened + part < before + whole)

module _ (names : Counting) (kind : ExprKind) (es items : List Expr) (e : Expr) (same : items ≡ es) where
  pub or_lighter : (before : ℕ) → kind ≡ v.Or es → 0 < length items → e ≡ get_or items 0 e
      → IsLighter (weigh names (body e.kind)) (weigh names (body kind)) (1 + weigh_in names (trees (drop (0 + 1) items)) + before) before
  or_lighter before is some at =
      let tree : weigh names (body kind) ≡ 2 + weigh_in names (trees items) = ap (weigh names) (ap body is ∙ body_or es ∙ ap (λ l. either (trees l)) (sym same)) in
      let parts : weigh_in names (trees items) ≡ weigh names (body e.kind) + weigh_in names (trees (drop (0 + 1) items)) = from_first names items 0 e some at in
      (omega (arith, tree, parts), omega (arith, tree, parts))

  pub and_lighter : (before last : ℕ) → kind ≡ v.And es → last + 1 ≡ length items → e ≡ get_or items last e
      → IsLighter (weigh names (body e.kind)) (weigh names (body kind)) (1 + weigh_in names (trees (take last items)) + before) before
  and_lighter before last is long at =
      let tree : weigh names (body kind) ≡ 2 + weigh_in names (trees items) = ap (weigh names) (ap body is ∙ body_and es ∙ ap (λ l. both (trees l)) (sym same)) in
      let all : weigh_in names (trees (take (last + 1) items)) ≡ weigh_in names (trees items) = ap (λ l. weigh_in names (trees l)) (take_all (last + 1) items (omega (arith, long))) in
      let parts : weigh_in names (trees (take (last + 1) items)) ≡ weigh_in names (trees (take last items)) + weigh names (body e.kind) = to_last names items last e (omega (arith, long)) at in
      (omega (arith, tree, parts, all), omega (arith, tree, parts, all))

pub use_lighter : (names : Counting) (kind : ExprKind) (name : Name) (args : Option Pairs) (lent : Pairs) (part before : ℕ) → kind ≡ v.Use name args → lent ≡ given args → 1 + part < weigh names (calling name lent) → IsLighter part (weigh names (body kind)) (1 + before) before
use_lighter names kind name args lent part before is same less =
    let tree : 1 + part < weigh names (body kind) = of_use (λ b. 1 + part < weigh names b) kind name args lent is same less in
    (omega (arith, tree), omega (arith, tree))

-- ---- what is open

open_weighs : (checked : Parts) (frames : List Frame) (depth : ℕ) → 0 < length frames → 0 < heavy checked frames depth
open_weighs checked [] depth some = absurd (omega (arith, some))
open_weighs checked (frame.Listing members place listed ∷ fs) depth some = omega arith
open_weighs checked (f ∷ fs) depth some = omega arith

pub some_weighs : (checked : Parts) (frames : List Frame) (depth : ℕ) → 0 < length frames → 0 < heavy checked (reverse frames) depth
some_weighs checked frames depth some = open_weighs checked (reverse frames) depth (let long : length (reverse frames) ≡ length frames = length-reverse frames in omega (arith, some, long))
