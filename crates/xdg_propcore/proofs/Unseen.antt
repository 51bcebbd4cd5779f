-- What stays while a box loses no value at which the tests of a principle use look.
use Rattle.std.proofs.Common.{◌≡◌, ◌⊎◌, ℕ, ◌<◌, inl, inr, Bool, true, List, refl, sym, ap, ◌∙◌, arith}
use Rattle.std.proofs.lemmas.Bool.{cases_Bool, false≢true}
use Rattle.xdg_problem.specs.declared.analysis.Edge.{Edge}
use Rattle.xdg_problem.specs.declared.parts.Group.{Group}
use Rattle.xdg_problem.specs.declared.parts.Parts.{Parts}
use Rattle.xdg_problem.specs.declared.parts.Principle.{Principle}
use Rattle.xdg_problem.specs.declared.parts.Principle.TheVariants as principles
use Rattle.xdg_problem.specs.Arguments.{first_dim, second_dim, attr_of}
use Rattle.xdg_problem.proofs.AttrPlaces.{attr_dim_within}
use Rattle.xdg_problem.specs.Boxes.{Has, IsBox, LiesIn, entry_decision, edge_decision}
use Rattle.xdg_problem.specs.Problems.{IsGroup, IsProblem}
use Rattle.xdg_problem.specs.Vectors.{shape}
use Rattle.xdg_rules.specs.Rules.{has, IsPlaceOn, attr_of_node}
use Rattle.xdg_rules.proofs.Antitone.{LiesAt}
use Rattle.xdg_propcore.specs.Families.{LosesUnseen}
use Rattle.xdg_propcore.specs.Kinds.{kind_of, edge_kind}
use Rattle.xdg_propcore.specs.Losses.{LosesOutside}
use Rattle.xdg_propcore.specs.UseKinds.{HasKinds}
use Rattle.xdg_propcore.proofs.DecisionKinds.{kind_of_entry, kind_of_attr, kind_of_edge}
use Rattle.xdg_problem.specs.Principles.{attr_arguments, looks_at_attrs, looks_at_first, looks_at_second}

-- a wake set has the kinds at which they look
pub loses_unseen : (parts : Parts) (group : Group) (wakes : ℕ) (old new : List (List Bool)) → HasKinds group wakes → IsBox (shape parts) old → IsBox (shape parts) new → LiesIn new old → LosesOutside parts wakes old new → LosesUnseen parts group old new
loses_unseen parts group wakes old new kinds was is inside outside = record {
  was = was;
  is = is;
  inside = inside;
  stays = λ d v looks remains. elim (cases_Bool (has new d v)) [
    | inl there ↦ there
    | inr gone ↦ absurd (
        let woken = kinds.each (kind_of parts d) looks in
        let quiet = outside d v (remains, λ there. false≢true (sym gone ∙ there)) in
        omega (arith, woken, quiet)
        )
  ];
}

attr_looks : (p : Principle) (argument : ℕ) → argument < attr_arguments p → looks_at_attrs p ≡ true
attr_looks principles.Order argument known = refl
attr_looks principles.Agr argument known = refl
attr_looks principles.Agreement argument known = refl
attr_looks principles.Government argument known = refl
attr_looks p argument known = absurd (omega (arith, known))

-- they look at edges of the dimension
abbrev pub LooksOn : Group → ℕ → Type 0
LooksOn group dim =
    ((looks_at_first group.principle ≡ true) × (dim ≡ first_dim group)) ⊎ ((looks_at_second group.principle ≡ true) × (dim ≡ second_dim group))

module _ (parts : Parts) (group : Group) (old new : List (List Bool)) (unseen : LosesUnseen parts group old new) where
  pub edge_stays : (dim : ℕ) → LooksOn group dim → (e : Edge) → IsPlaceOn parts dim e → (v : ℕ) → Has old (edge_decision parts e) v → Has new (edge_decision parts e) v
  edge_stays dim looks e on v =
      let kind : kind_of parts (edge_decision parts e) ≡ edge_kind dim = kind_of_edge parts e on.0 ∙ ap edge_kind on.1 in
      unseen.stays (edge_decision parts e) v
      (inr (inr (elim looks [ inl first ↦ inl (first.0, kind ∙ ap edge_kind first.1) | inr second ↦ inr (second.0, kind ∙ ap edge_kind second.1) ])))

  -- what was there where they look is there still
  pub lies_unseen : IsProblem parts → IsGroup parts group → LiesAt group.principle parts group old new
  lies_unseen problem is = record {
    entries = λ looks node c within. unseen.stays (entry_decision node) c (inl (looks, kind_of_entry parts node (let e = problem.candidates_each in omega (arith, e, within))));
    attrs = λ argument node x known within.
        let here = is.attrs argument (record { 0 = 0 }) (let c = is.attrs_count in omega (arith, c, known)) in
        unseen.stays (attr_of_node parts group argument node) x
        (inr (inl (attr_looks group.principle argument known, kind_of_attr parts (first_dim group) node (attr_of group argument) (attr_dim_within parts group is argument known) within here)));
    first = λ looks. edge_stays (first_dim group) (inl (looks, refl));
    second = λ looks. edge_stays (second_dim group) (inr (looks, refl));
  }
