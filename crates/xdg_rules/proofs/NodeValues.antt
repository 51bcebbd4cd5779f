-- Where a node's values stand among the decisions of a problem, and its values of attributes in a whole vector.
use Rattle.std.proofs.Common.{◌≡◌, ◌↔◌, ℕ, ◌+◌, ◌<◌, Bool, List, length, take, drop, sym, ◌∙◌, subst}
use Rattle.std.specs.Prelude.{slice_index}
use Rattle.std.proofs.lemmas.List.{get_or-take, get_or-drop}
use Rattle.xdg_problem.specs.declared.parts.Parts.{Parts}
use Rattle.xdg_problem.specs.Arguments.{attr_count, attr_place}
use Rattle.xdg_problem.specs.Boxes.{Has, Agrees, attr_decision}
use Rattle.xdg_problem.specs.Places.{nodes}
use Rattle.xdg_problem.specs.Vectors.{attr_sizes, shape}
use Rattle.xdg_problem.proofs.AttrPlaces.{attr_within}
use Rattle.xdg_rules.proofs.Agreeing.{at}
use Rattle.xdg_rules.proofs.Sizes.{attr_place_within}

module _ (parts : Parts) (dim node attr : ℕ) (known : dim < length parts.dims) (within : node < nodes parts) (has_attr : attr < attr_count parts dim) where
  abbrev place : ℕ
  place = attr_place parts dim node attr

  place_within : place < length (attr_sizes (nodes parts) parts.dims)
  place_within = attr_within parts dim node attr known within has_attr

  -- an attribute of a node is one of the decisions
  pub attr_decided : attr_decision parts dim node attr < length (shape parts)
  attr_decided = attr_place_within parts place place_within

  module _ (box : List (List Bool)) (x : List ℕ) (whole : length x ≡ length (shape parts)) (agrees : Agrees box x) where
    abbrev attrs : List ℕ
    attrs = take (length (attr_sizes (nodes parts) parts.dims)) (drop (length parts.candidates) x)

    value_same : slice_index x (length parts.candidates + place) ≡ slice_index attrs place
    value_same = sym (get_or-take (length (attr_sizes (nodes parts) parts.dims)) (drop (length parts.candidates) x) place 0 place_within ∙ get_or-drop (length parts.candidates) x place 0)

    -- in a box that agrees with a whole vector the value of an attribute there remains, and no other
    value_at : (v : ℕ) → Has box (attr_decision parts dim node attr) v ↔ (v ≡ slice_index x (length parts.candidates + place))
    value_at = at parts box x agrees (attr_decision parts dim node attr) (subst (λ n. attr_decision parts dim node attr < n) (sym whole) attr_decided)

    pub attr_remains : Has box (attr_decision parts dim node attr) (slice_index attrs place)
    attr_remains = (value_at (slice_index attrs place)).1 (sym value_same)

    pub attr_only : (v : ℕ) → Has box (attr_decision parts dim node attr) v → v ≡ slice_index attrs place
    attr_only v remains = (value_at v).0 remains ∙ value_same
