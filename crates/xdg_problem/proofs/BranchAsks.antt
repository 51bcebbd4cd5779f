-- What a principle use asks doesn't change where its features do, as long as each node finds the same rows.
use Rattle.std.proofs.Common.{◌≡◌, ◌↔◌, ℕ, ◌<◌, List, [], ◌∷◌, length, map, zero, suc, refl, sym, subst}
use Rattle.std.specs.Prelude.{All, Contains, slice_index}
use Rattle.std.proofs.lemmas.List.Elements.{All-weaker}
use Rattle.xdg_base.specs.declared.ids.EntryNo.{EntryNo}
use Rattle.xdg_problem.specs.declared.analysis.Edge.{Edge}
use Rattle.xdg_problem.specs.declared.conditions.Condition.{Condition}
use Rattle.xdg_problem.specs.declared.conditions.Condition.TheVariants as conditions
use Rattle.xdg_problem.specs.declared.parts.Feat.{Feat}
use Rattle.xdg_problem.specs.declared.parts.Group.{Group}
use Rattle.xdg_problem.specs.declared.parts.Parts.{Parts}
use Rattle.xdg_problem.specs.declared.parts.Principle.{Principle}
use Rattle.xdg_problem.specs.declared.parts.Principle.TheVariants as principles
use Rattle.xdg_problem.specs.Asking.{Asks, AsksBy, AsksLink, AsksOf, AsksWhole, attr_places, first, second, third}
use Rattle.xdg_problem.specs.Arguments.{first_dim, second_dim}
use Rattle.xdg_problem.specs.Branches.{branch_principle, first_alone}
use Rattle.xdg_problem.specs.Conditions.{IsTuple}
use Rattle.xdg_problem.specs.Features.{row}
use Rattle.xdg_problem.specs.Paths.{AboveByLast, edges_on, edges_into, edges_out_of}
use Rattle.xdg_problem.specs.Principles.{linking_of}
use Rattle.xdg_problem.specs.Relations.{IsKept}
use Rattle.xdg_problem.proofs.OtherTruths.{with_candidates}

-- a principle use of another principle, with other features
abbrev pub with_use : Principle → List (List (List Feat)) → Group → Group
with_use principle feats group = record group { principle = principle; feats = feats }

-- two tables of features have the same rows, one for a candidate of a node, the other for another candidate
abbrev pub SameRows : Group → List (List (List Feat)) → List (List (List Feat)) → ℕ → ℕ → ℕ → Type 0
SameRows group f g node c d = (argument label : ℕ) → row (with_use group.principle f group) node c argument label ≡ row (with_use group.principle g group) node d argument label

-- two principles ask the same of links
abbrev pub LinkAlike : Principle → Principle → Type 0
LinkAlike p q = (group : Group) (candidate : ℕ) (edges : List Edge) (u l v : ℕ) → AsksLink p group candidate edges u l v ↔ AsksLink q group candidate edges u l v

-- what the linking principles ask goes by the rows
linked_alike : (principle p q : Principle) (group : Group) (f g : List (List (List Feat))) (node c d : ℕ) (edges : List Edge) (l v : ℕ) → SameRows group f g node c d → AsksLink principle (with_use p f group) c edges node l v
    → AsksLink principle (with_use q g group) d edges node l v
linked_alike principles.LinkingNotDaughter p q group f g node c d edges l v same asks = λ has. asks (subst (λ r. Contains r l) (sym (same 0 0)) has)
linked_alike principle p q group f g node c d edges l v same asks = subst (λ r. AsksBy (linking_of principle) edges node r v) (same 0 l) asks

module _ (p q : Principle) (group : Group) (f g : List (List (List Feat))) (links : LinkAlike p q) where
  same_asks : (condition : Condition) (c d : ℕ) (values : List ℕ) (edges : List Edge) (tuple : List ℕ) → SameRows group f g (first tuple) c d → AsksOf condition (with_use p f group) c values edges tuple → AsksOf condition (with_use q g group) d values edges tuple
  same_asks conditions.InCount c d values edges tuple same asks = subst (λ r. Contains r (edges_into (edges_on (first_dim group) edges) (first tuple) (second tuple))) (same 0 (second tuple)) asks
  same_asks conditions.OutCount c d values edges tuple same asks = subst (λ r. Contains r (edges_out_of (edges_on (first_dim group) edges) (first tuple) (second tuple))) (same 1 (second tuple)) asks
  same_asks conditions.Agr c d values edges tuple same asks = subst (λ r. Contains r (slice_index values 0)) (same 0 0) asks
  same_asks conditions.Agree c d values edges tuple same asks = λ daughter has. asks daughter (subst (λ r. Contains r (second tuple)) (sym (same 0 0)) has)
  same_asks conditions.Govern c d values edges tuple same asks = λ daughter. subst (λ r. 0 < length r → Contains r (slice_index values 0)) (same 0 (second tuple)) (asks daughter)
  same_asks conditions.Blocked c d values edges tuple same asks = λ above. asks (subst (λ r. AboveByLast (edges_on (second_dim group) edges) (first tuple) r (second tuple)) (sym (same 0 0)) above)
  same_asks conditions.Link c d values edges tuple same asks = λ daughter. (links (with_use q g group) d (edges_on (second_dim group) edges) (first tuple) (second tuple) (third tuple)).0
      (linked_alike p p q group f g (first tuple) c d (edges_on (second_dim group) edges) (second tuple) (third tuple) same (asks daughter))
  same_asks condition c d values edges tuple same asks = asks

  module _ (parts : Parts) (cs ds : List (List EntryNo)) (gs hs : List Group) where
    same_tuple : (condition : Condition) (edges : List Edge) (tuple : List ℕ) → IsTuple condition (with_candidates ds hs parts) (with_use q g group) edges tuple → IsTuple condition (with_candidates cs gs parts) (with_use p f group) edges tuple
    same_tuple conditions.Cycle edges tuple is = is
    same_tuple condition edges tuple is = is

    same_places : (condition : Condition) (tuple : List ℕ) → attr_places condition (with_candidates cs gs parts) (with_use p f group) tuple ≡ attr_places condition (with_candidates ds hs parts) (with_use q g group) tuple
    same_places conditions.Cycle tuple = refl
    same_places condition tuple = refl

    -- so it asks the same of an analysis whose nodes have these candidates, where what it asks of all decisions together is the same
    module _ (xs ys attrs : List ℕ) (edges : List Edge) (same : (node : ℕ) → SameRows group f g node (slice_index xs node) (slice_index ys node))
        (whole : AsksWhole p (with_candidates cs gs parts) xs attrs edges → AsksWhole q (with_candidates ds hs parts) ys attrs edges) where
      same_all : (condition : Condition) (tuple : List ℕ) → Asks condition (with_candidates cs gs parts) (with_use p f group) xs attrs edges tuple → Asks condition (with_candidates ds hs parts) (with_use q g group) ys attrs edges tuple
      same_all conditions.Rule tuple asks = whole asks
      same_all conditions.Bound tuple asks = whole asks
      same_all condition tuple asks =
          subst (λ at. AsksOf condition (with_use q g group) (slice_index ys (first tuple)) (map (slice_index attrs) at) edges tuple) (same_places condition tuple)
          (same_asks condition (slice_index xs (first tuple)) (slice_index ys (first tuple)) (map (slice_index attrs) (attr_places condition (with_candidates cs gs parts) (with_use p f group) tuple)) edges tuple (same (first tuple)) asks)

      same_relation : (asked : List Condition) → All (IsKept (with_candidates cs gs parts) (with_use p f group) xs attrs edges) asked → All (IsKept (with_candidates ds hs parts) (with_use q g group) ys attrs edges) asked
      same_relation asked kept = All-weaker (IsKept (with_candidates cs gs parts) (with_use p f group) xs attrs edges) (IsKept (with_candidates ds hs parts) (with_use q g group) ys attrs edges)
          (λ condition holds tuple is. same_all condition tuple (holds tuple (same_tuple condition edges tuple is))) asked kept

-- both ways
pub relation_alike : (p q : Principle) (group : Group) (f g : List (List (List Feat))) → LinkAlike p q → (parts : Parts) (cs ds : List (List EntryNo)) (gs hs : List Group) (xs ys attrs : List ℕ) (edges : List Edge)
    → ((node : ℕ) → SameRows group f g node (slice_index xs node) (slice_index ys node))
    → AsksWhole p (with_candidates cs gs parts) xs attrs edges ↔ AsksWhole q (with_candidates ds hs parts) ys attrs edges → (asked : List Condition)
    → All (IsKept (with_candidates cs gs parts) (with_use p f group) xs attrs edges) asked ↔ All (IsKept (with_candidates ds hs parts) (with_use q g group) ys attrs edges) asked
relation_alike p q group f g links parts cs ds gs hs xs ys attrs edges same whole asked = (
  same_relation p q group f g links parts cs ds gs hs xs ys attrs edges same whole.0 asked,
  same_relation q p group g f (λ h c es u l v. ((links h c es u l v).1, (links h c es u l v).0)) parts ds cs hs gs ys xs attrs edges (λ node argument label. sym (same node argument label)) whole.1 asked,
)

-- ---- a branch

-- the features of the candidate that the first node has alone are its features at that place
pub alone_rows : (group : Group) (feats : List (List (List Feat))) (place : ℕ) (more : List ℕ) (node : ℕ) → SameRows group (first_alone [] place feats) feats node (slice_index (0 ∷ more) node) (slice_index (place ∷ more) node)
alone_rows group [] place more node argument label = refl
alone_rows group (fs ∷ feats) place more zero argument label = refl
alone_rows group (fs ∷ feats) place more (suc node) argument label = refl

pub branch_links : (principle : Principle) (place : ℕ) → LinkAlike (branch_principle place principle) principle
branch_links (principles.Rule formula) place group candidate edges u l v = (λ t. t, λ t. t)
branch_links principle place group candidate edges u l v = (λ t. t, λ t. t)
