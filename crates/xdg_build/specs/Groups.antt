-- Principle uses compiled.
use Rattle.std.specs.Prelude.{ℕ, Bool, List, [], ◌∷◌, map, filter, flat_map, get_or}
use Rattle.xdg_base.specs.declared.ids.AttrId.{AttrId}
use Rattle.xdg_base.specs.declared.ids.DimId.{DimId}
use Rattle.xdg_base.specs.declared.ids.EntryNo.{EntryNo}
use Rattle.xdg_base.specs.declared.ids.LabelId.{LabelId}
use Rattle.xdg_problem.specs.declared.parts.Feat.{Feat}
use Rattle.xdg_problem.specs.declared.parts.Group.{Group}
use Rattle.xdg_principles.specs.declared.building.Arg.{Arg}
use Rattle.xdg_principles.specs.declared.building.Arg.TheVariants as g
use Rattle.xdg_principles.specs.declared.building.PrincipleUse.{PrincipleUse}
use Rattle.xdg_packed.specs.Lexicon.{Entry}
use Rattle.xdg_build.specs.Grammars.{Grammar, is_used, used_place}
use Rattle.xdg_build.specs.Features.{feature}
use Rattle.xdg_problem.specs.Principles.{feature_dim}

-- ---- arguments

abbrev pub features_in : Arg → List ℕ
features_in (g.Feature k) = k ∷ []
features_in _ = []

abbrev pub attrs_in : Arg → List AttrId
attrs_in (g.Attr k) = record { 0 = k } ∷ []
attrs_in _ = []

abbrev pub labels_in : Arg → List LabelId
labels_in (g.Labels ns) = map (λ n. record { 0 = n }) ns
labels_in _ = []

abbrev pub truths_in : Arg → List Bool
truths_in (g.Truth b) = b ∷ []
truths_in _ = []

-- the dimensions of a use, among the used ones
abbrev pub dims_of : Grammar → PrincipleUse → List DimId
dims_of g u = map (λ k. record { 0 = used_place g.table k }) u.dims

-- ---- features

-- the features that a principle use takes of an entry
abbrev pub features_of : Grammar → PrincipleUse → Entry → List Feat
features_of g u entry = map (λ place. feature g.table entry (get_or u.dims (feature_dim u.principle) 0) place) (flat_map features_in u.args)

-- of the entry with that number
abbrev pub features_at : Grammar → PrincipleUse → EntryNo → List Feat
features_at g u entry = features_of g u (get_or g.lexicon.entries entry.0 [])

-- ---- groups

-- a principle use over nodes that may have these entries
abbrev pub group_of : Grammar → List (List EntryNo) → PrincipleUse → Group
group_of g candidates u = record {
  principle = u.principle;
  dims = dims_of g u;
  attrs = flat_map attrs_in u.args;
  order = flat_map labels_in u.args;
  truths = flat_map truths_in u.args;
  feats = map (λ numbers. map (features_at g u) numbers) candidates;
}

-- the uses of principles in used dimensions, in the order of the text
abbrev pub used_uses : Grammar → List PrincipleUse
used_uses g = filter (λ u. is_used g.table u.home) g.uses

abbrev pub groups_of : Grammar → List (List EntryNo) → List Group
groups_of g candidates = map (group_of g candidates) (used_uses g)
