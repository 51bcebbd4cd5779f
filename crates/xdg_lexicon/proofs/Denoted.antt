-- What a body denotes, form by form.
use Rattle.std.proofs.Common.{◌≡◌, ℕ, ◌<◌, ◌≤◌, ◌+◌, List, [], ◌∷◌, ◌++◌, length, drop, get_or, ap, sym, ◌∙◌, arith, subst, append_assoc, Option}
use Rattle.std.proofs.lemmas.List.{append-nil, drop_all}
use Rattle.xdg_ast.specs.declared.names.Name.{Name}
use Rattle.xdg_ast.specs.declared.expressions.ExprKind.{ExprKind}
use Rattle.xdg_ast.specs.declared.expressions.ExprKind.TheVariants as v
use Rattle.xdg_terms.specs.Forms.{Bindings}
use Rattle.xdg_classes.specs.Bodies.{Pairs, Expr, Body, either, both, calling, no_body, given, body}
use Rattle.xdg_classes.proofs.Bodied.{trees, body_dim, body_use}
use Rattle.xdg_check.specs.Checked.{Parts, named_bodies}
use Rattle.xdg_lexicon.specs.Denotes as den
use Rattle.xdg_lexicon.specs.Denotes.{JoinsAll, Denotes, DenotesBoth, DenotesEither}
use Rattle.xdg_lexicon.specs.Frames.{EitherSoFar, BothSoFar}
use Rattle.xdg_lexicon.specs.Partial.{Partial, ArePartial, SaysRecord, nothing}
use Rattle.xdg_facts.proofs.Lists.{from_place}

-- ---- records and uses

pub record_denotes : (checked : Parts) (bs : Bindings) (kind : ExprKind) (dim : Name) (pairs lent : Pairs) (text : List ℕ) (p : Partial) (made : List Partial) → kind ≡ v.Dim dim pairs → text ≡ dim.text → lent ≡ pairs → made ≡ p ∷ []
    → SaysRecord checked.types.dims bs text lent p → Denotes checked.types.dims (named_bodies checked.classes) bs (body kind) made
record_denotes checked bs kind dim pairs lent text p made is same borrowed one says = rw (ap body is ∙ body_dim dim pairs, one) (den.record_said bs dim pairs p (rw (same, borrowed) at says))

-- what holds of a use holds of its body, and back
module _ (P : Body → Type 0) (kind : ExprKind) (name : Name) (args : Option Pairs) (lent : Pairs) (is : kind ≡ v.Use name args) (same : lent ≡ given args) where
  pub as_use : P (body kind) → P (calling name lent)
  as_use h = subst P (ap body is ∙ body_use name args ∙ ap (calling name) (sym same)) h

  pub of_use : P (calling name lent) → P (body kind)
  of_use h = subst P (sym (ap body is ∙ body_use name args ∙ ap (calling name) (sym same))) h

-- ---- disjunctions, from the first to the last

module _ (checked : Parts) (bs : Bindings) (items : List Expr) (i : ℕ) (made : List Partial) where
  pub either_begun : made ≡ [] → EitherSoFar checked bs items 0 made
  either_begun is ns d = subst (λ l. DenotesEither checked.types.dims (named_bodies checked.classes) bs (trees items) (l ++ ns)) (sym is) d

  pub either_further : (e : Expr) (ms new : List Partial) → i < length items → e ≡ get_or items i e → new ≡ made ++ ms → Denotes checked.types.dims (named_bodies checked.classes) bs (body e.kind) ms → EitherSoFar checked bs items i made → EitherSoFar checked bs items (i + 1) new
  either_further e ms new within is grown d so_far ns more =
      subst (DenotesEither checked.types.dims (named_bodies checked.classes) bs (trees items)) (sym (ap (λ l. l ++ ns) grown ∙ append_assoc made ms ns))
      (so_far (ms ++ ns) (subst (λ l. DenotesEither checked.types.dims (named_bodies checked.classes) bs (trees l) (ms ++ ns)) (sym (from_place items i e within is)) (den.list_first bs (body e.kind) (trees (drop (i + 1) items)) ms ns d more)))

  pub either_denotes : length items ≤ i → EitherSoFar checked bs items i made → Denotes checked.types.dims (named_bodies checked.classes) bs (either (trees items)) made
  either_denotes past so_far =
      den.disjunction bs (trees items) made (subst (DenotesEither checked.types.dims (named_bodies checked.classes) bs (trees items)) (append-nil made)
      (so_far [] (subst (λ l. DenotesEither checked.types.dims (named_bodies checked.classes) bs (trees l) []) (sym (drop_all i items past)) (den.all_listed bs))))

-- ---- conjunctions, from the last to the first

module _ (checked : Parts) (bs : Bindings) (items : List Expr) where
  pub both_begun : (p : Partial) (made : List Partial) → p ≡ nothing checked.types.dims → made ≡ p ∷ [] → ArePartial checked.types.dims (p ∷ []) → BothSoFar checked bs items (length items) made
  both_begun p made is one right = (
    omega arith,
    (
      subst (λ l. DenotesBoth checked.types.dims (named_bodies checked.classes) bs (trees l) made) (sym (drop_all (length items) items (omega arith))) (subst (DenotesBoth checked.types.dims (named_bodies checked.classes) bs no_body) (sym (one ∙ ap (λ q. q ∷ []) is)) (den.all_joined bs)),
      subst (ArePartial checked.types.dims) (sym one) right,
    ),
  )

  pub both_further : (i : ℕ) (e : Expr) (ms made new : List Partial) → i < length items → e ≡ get_or items i e → Denotes checked.types.dims (named_bodies checked.classes) bs (body e.kind) ms → BothSoFar checked bs items (i + 1) made
      → JoinsAll checked.types.dims ms made new → ArePartial checked.types.dims new → BothSoFar checked bs items i new
  both_further i e ms made new within is d so_far joins right = (
    omega (arith, within),
    (
      subst (λ l. DenotesBoth checked.types.dims (named_bodies checked.classes) bs (trees l) new) (sym (from_place items i e within is)) (den.join_first bs (body e.kind) (trees (drop (i + 1) items)) ms made new d so_far.1.0 joins),
      right,
    ),
  )

  pub both_denotes : (left : ℕ) (made : List Partial) → left ≡ 0 → BothSoFar checked bs items left made → Denotes checked.types.dims (named_bodies checked.classes) bs (both (trees items)) made
  both_denotes left made none so_far =
      den.conjunction bs (trees items) made (subst (λ n. DenotesBoth checked.types.dims (named_bodies checked.classes) bs (trees (drop n items)) made) none so_far.1.0)
