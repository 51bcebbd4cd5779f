-- What the rules of the one root take from a box, they take from each closed box that lies in it, too: there they don't fail.
use Rattle.std.proofs.Common.{◌≡◌, ℕ, ◌<◌, inl, inr, Bool, List, refl, arith}
use Rattle.std.specs.Prelude.{Contains, ◌==◌}
use Rattle.std.proofs.lemmas.Bool.{eq-eqb}
use Rattle.xdg_problem.specs.declared.analysis.Edge.{Edge}
use Rattle.xdg_problem.specs.declared.parts.Group.{Group}
use Rattle.xdg_problem.specs.declared.parts.Parts.{Parts}
use Rattle.xdg_problem.specs.Arguments.{first_dim}
use Rattle.xdg_problem.specs.Paths.{mothers, roots}
use Rattle.xdg_problem.specs.Places.{nodes, below}
use Rattle.xdg_problem.specs.Vectors.{shape}
use Rattle.xdg_problem.proofs.Ordered.{contains_numbers}
use Rattle.xdg_problem.proofs.PlaceOrder.{is_place}
use Rattle.xdg_problem.specs.Boxes.{IsBox, LiesIn}
use Rattle.xdg_rules.specs.Rules.{may_edges, must_edges, RootFound, HasNoRoot, OnlyMother, HasTwoRoots}
use Rattle.xdg_rules.proofs.Among.{is_root, roots_less, roots_among, root_contained, root_free, free_root}
use Rattle.xdg_facts.proofs.Contained.{contains_filter}
use Rattle.xdg_facts.proofs.Keeping.{filter_one, counts_one, two_elements}
use Rattle.xdg_rules.proofs.Shrinking.{may_or_not, may_among, must_among, may_count, may_count_more, may_is}

module _ (parts : Parts) (group : Group) (small large : List (List Bool)) (is : IsBox (shape parts) small) (lies : LiesIn small large) where
  abbrev one : ℕ
  one = first_dim group

  abbrev may : List (List Bool) → List Edge
  may box = may_edges parts box one

  abbrev must : List (List Bool) → List Edge
  must box = must_edges parts box one

  pub root_found : (d v : ℕ) → (RootFound parts group small d v → ⊥) → (HasNoRoot parts group small → ⊥) → RootFound parts group large d v → ⊥
  root_found d v none some rule = elim (filter_one (is_root (must small)) (is_root (must large)) (below (nodes parts)) (roots_less (must large) (must small) (must_among parts small large is lies one) (nodes parts)) rule.place.daughter.0 rule.root) [
    | inl empty ↦ some empty
    | inr root ↦ none (record { place = rule.place; is = rule.is; says = rule.says; root = root })
  ]

  abbrev enters : ℕ → Edge → Bool
  enters node e = e.daughter.0 == node

  -- the other root of the large box is one of the small box
  other_root : (other : ℕ) → Contains (roots (nodes parts) (may large)) other → Contains (roots (nodes parts) (may small)) other
  other_root other c = roots_among (may small) (may large) (may_among parts small large is lies one) (nodes parts) other c

  -- where no edge may lead into a node, and into another, there are two roots
  second_root : (v other : ℕ) → v < nodes parts → (v ≡ other → ⊥) → mothers (may small) v ≡ 0 → Contains (roots (nodes parts) (may small)) other → HasTwoRoots parts group small
  second_root v other within differ none root = two_elements v other (roots (nodes parts) (may small))
      (contains_filter (is_root (may small)) (below (nodes parts)) v
      (free_root (may small) v (λ e c into. (let some = counts_one (enters v) e (may small) c (eq-eqb e.daughter.0 v into) in omega (arith, some, none))))
      (contains_numbers 0 (nodes parts) v (omega arith) (omega (arith, within))))
      root differ

  -- the node of the only mother is not the other root
  not_other : (place : Edge) (other : ℕ) → Contains (may large) place → Contains (roots (nodes parts) (may large)) other → place.daughter.0 ≡ other → ⊥
  not_other place other may_be root same = root_free (may large) other (root_contained (nodes parts) (may large) other root).1 place may_be same

  pub only_mother : (d v : ℕ) → (OnlyMother parts group small d v → ⊥) → (HasTwoRoots parts group small → ⊥) → OnlyMother parts group large d v → ⊥
  only_mother d v none few rule =
      let there = may_is parts large one rule.place rule.may in
      let most = rule.only in
      elim (may_or_not parts small one rule.place there.place) [
        | inl stays ↦ (
            let less = may_count parts small large is lies one (enters rule.place.daughter.0) in
            let some = counts_one (enters rule.place.daughter.0) rule.place (may small) stays (eq-eqb rule.place.daughter.0 rule.place.daughter.0 refl) in
            none (record { place = rule.place; may = stays; says = rule.says; only = omega (arith, less, some, most); other = rule.other; root = other_root rule.other rule.root })
            )
        | inr gone ↦ (
            let less = may_count_more parts small large is lies one (enters rule.place.daughter.0) rule.place (eq-eqb rule.place.daughter.0 rule.place.daughter.0 refl) rule.may gone in
            few (second_root rule.place.daughter.0 rule.other (is_place parts rule.place there.place).daughter (not_other rule.place rule.other rule.may rule.root) (omega (arith, less, most)) (other_root rule.other rule.root))
            )
      ]
