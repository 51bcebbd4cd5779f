-- The rows of classes of all bundles.
use Rattle.std.proofs.Common.{◌≡◌, ℕ, ◌<◌, ◌+◌, ◌*◌, inl, inr, List, [], ◌∷◌, ◌++◌, length, get_or, refl, ap, sym, ◌∙◌, arith, subst}
use Rattle.std.proofs.lemmas.Bool.{cases_eq, cases_lt}
use Rattle.std.proofs.lemmas.List.{get_or_append_left, get_or_past, get_or_push, length_push}
use Rattle.xdg_problem.specs.declared.parts.Group.{Group}
use Rattle.xdg_problem.specs.declared.parts.Parts.{Parts}
use Rattle.xdg_pgraph.specs.declared.allowances.Class.{Class}
use Rattle.xdg_pgraph.specs.declared.bundle.Bundle.{Bundle}
use Rattle.xdg_pgraph.specs.declared.bundle.Way.{Way}
use Rattle.xdg_pgraph.specs.declared.bundle.Way.TheVariants as ways
use Rattle.xdg_pgraph.specs.declared.allowances.Allowances.{Allowances}
use Rattle.xdg_pgraph.specs.Allowances.{AreAllowances, AreRows, HasClasses, class_place}
use Rattle.xdg_pgraph.specs.Bundles.{argument_of}
use Rattle.xdg_facts.proofs.Numbers.{same_row}

-- ---- a place is that of one bundle

few_ways : (way : Way) → argument_of way < 2
few_ways ways.Out = omega arith
few_ways ways.In = omega arith

same_way : (one other : Way) → argument_of one ≡ argument_of other → one ≡ other
same_way ways.Out ways.Out e = refl
same_way ways.In ways.In e = refl
same_way ways.Out ways.In e = absurd (omega (arith, e))
same_way ways.In ways.Out e = absurd (omega (arith, e))

bundle_equal : (a b : Bundle) → a.way ≡ b.way → a.node ≡ b.node → a.label ≡ b.label → a ≡ b
bundle_equal a b w n l =
    ap (λ way. record { way = way; node = a.node; label = a.label }) w ∙ ap (λ node. record { way = b.way; node = node; label = a.label }) n
    ∙ ap (λ label. record { way = b.way; node = b.node; label = label }) l

same_bundle : (labels : ℕ) (a b : Bundle) → a.label < labels → b.label < labels → class_place labels a ≡ class_place labels b → a ≡ b
same_bundle labels a b l k e =
    let few = few_ways a.way in
    let also = few_ways b.way in
    let row : a.node * labels + a.label ≡ b.node * labels + b.label = omega (arith, few, also, e) in
    let node = same_row a.node a.label b.node b.label labels l k row in
    let before = ap (λ n. n * labels) node in
    bundle_equal a b (same_way a.way b.way (omega (arith, few, also, e))) node (omega (arith, row, before))

-- ---- one row after another

module _ (parts : Parts) (group : Group) (labels : ℕ) where
  pub rows_more : (rows : List (List Class)) (bundle : Bundle) (row : List Class) → bundle.label < labels → length rows ≡ class_place labels bundle → HasClasses parts group bundle row → AreRows parts group labels rows → AreRows parts group labels (rows ++ row ∷ [])
  rows_more rows bundle row l at has are other k = elim (cases_lt (class_place labels other) (length rows)) [
    | inl before ↦ subst (HasClasses parts group other) (sym (get_or_append_left rows (row ∷ []) [] (class_place labels other) before)) (are other k)
    | inr behind ↦ elim (cases_eq (class_place labels other) (length rows)) [
      | inl here ↦
          let same : bundle ≡ other = same_bundle labels bundle other l k (sym at ∙ sym here) in
          subst (λ it. HasClasses parts group it (get_or (rows ++ row ∷ []) (class_place labels it) [])) same
          (subst (HasClasses parts group bundle) (sym (get_or_push rows row [] (class_place labels bundle) at)) has)
      | inr apart ↦ (λ some. absurd (some (get_or_past (rows ++ row ∷ []) (class_place labels other) [] (let long = length_push rows row in omega (arith, long, behind, apart)))))
    ]
  ]

-- ---- a table that was made

pub table_is : (given parts : Parts) (group : Group) (made table : Allowances) → given ≡ parts → table ≡ made → AreAllowances given group made → AreAllowances parts group table
table_is given parts group made table same is are = subst (AreAllowances parts group) (sym is) (subst (λ (it : Parts). AreAllowances it group made) same are)
