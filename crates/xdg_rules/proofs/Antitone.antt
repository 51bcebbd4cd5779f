-- What most rules take from a box they take from each box that has no more where they look, too.
use Rattle.std.proofs.Common.{◌≡◌, ℕ, ◌<◌, ◌≤◌, inl, inr, Bool, true, List, length, refl, sym, subst, arith, Option, None, Some}
use Rattle.std.specs.Prelude.{Contains}
use Rattle.xdg_problem.specs.declared.analysis.Edge.{Edge}
use Rattle.xdg_problem.specs.declared.parts.Group.{Group}
use Rattle.xdg_problem.specs.declared.parts.Linking.{Linking}
use Rattle.xdg_problem.specs.declared.parts.Parts.{Parts}
use Rattle.xdg_problem.specs.declared.parts.Principle.{Principle}
use Rattle.xdg_problem.specs.declared.parts.Principle.TheVariants as principles
use Rattle.xdg_problem.specs.Arguments.{first_dim, second_dim, attr_of}
use Rattle.xdg_problem.specs.Asking.{IsLinked}
use Rattle.xdg_problem.specs.Features.{in_row, out_row, map_row}
use Rattle.xdg_problem.specs.Paths.{edges_into, edges_out_of, Above}
use Rattle.xdg_problem.specs.Places.{nodes, places}
use Rattle.xdg_problem.specs.Principles.{attr_arguments, linking_of, looks_at_entries, looks_at_first, looks_at_second}
use Rattle.xdg_problem.specs.Problems.{IsGroup}
use Rattle.xdg_problem.specs.Vectors.{shape}
use Rattle.xdg_problem.proofs.AttrPlaces.{attr_within, attr_dim_within}
use Rattle.xdg_problem.proofs.PlaceOrder.{is_place}
use Rattle.xdg_problem.specs.Boxes.{Has, IsBox, LiesIn, entry_decision, edge_decision}
use Rattle.xdg_rules.specs.Rules.{may_edges, must_edges, HasNoneWithin, ValencyEntry, OneMother, NoCycle, OneLabel, attr_of_node, AgrValues, AgreementValues, GovernmentValues, DaughterOrder, AboutHead, OfHead, ProjectivityReach, ClimbingReach, BarriersReach, LinkingReach, LinkingNotDaughter, HasNoRoot, HasTwoRoots, TakesBy, TakesLinked}
use Rattle.xdg_rules.proofs.Among.{Among, above_among, linked_among, roots_less, roots_length, is_root}
use Rattle.xdg_facts.proofs.Keeping.{Less, filter_none, less_count}
use Rattle.xdg_rules.proofs.Shrinking.{EdgesLie, may_be, must_be, among_may, among_must, barrier_within}
use Rattle.xdg_rules.proofs.Sizes.{attr_place_within}

-- what the small box has where a principle use looks the large one has too
pub record LiesAt (p : Principle) (parts : Parts) (group : Group) (small large : List (List Bool)) : Type 0 where
  pub entries : looks_at_entries p ≡ true → (node c : ℕ) → node < nodes parts → Has small (entry_decision node) c → Has large (entry_decision node) c
  pub attrs : (argument node x : ℕ) → argument < attr_arguments p → node < nodes parts → Has small (attr_of_node parts group argument node) x → Has large (attr_of_node parts group argument node) x
  pub first : looks_at_first p ≡ true → EdgesLie parts (first_dim group) small large
  pub second : looks_at_second p ≡ true → EdgesLie parts (second_dim group) small large

pub lies_at : (p : Principle) (parts : Parts) (group : Group) (small large : List (List Bool)) → LiesIn small large → LiesAt p parts group small large
lies_at p parts group small large lies = record {
  entries = λ looks node c within. lies (entry_decision node) c;
  attrs = λ argument node x known within. lies (attr_of_node parts group argument node) x;
  first = λ looks e on. lies (edge_decision parts e);
  second = λ looks e on. lies (edge_decision parts e);
}

-- an attribute that a principle takes has a decision for each node
attr_decided : (parts : Parts) (group : Group) → IsGroup parts group → (argument : ℕ) → argument < attr_arguments group.principle → (node : ℕ) → node < nodes parts → attr_of_node parts group argument node < length (shape parts)
attr_decided parts group is argument known node within =
    let count = is.attrs_count in
    attr_place_within parts _ (attr_within parts (first_dim group) node (attr_of group argument) (attr_dim_within parts group is argument known) within (is.attrs argument (record { 0 = 0 }) (omega (arith, known, count))))

-- no number lies in a narrower range either
none_narrower : (cardinality : List ℕ) (least most from to : ℕ) → least ≤ from → to ≤ most → HasNoneWithin cardinality least most → HasNoneWithin cardinality from to
none_narrower cardinality least most from to l m none k c a b = none k c (omega (arith, l, a)) (omega (arith, m, b))

-- ---- each rule, by what it reads

module _ (parts : Parts) (group : Group) (small large : List (List Bool)) where
  abbrev one : ℕ
  one = first_dim group

  abbrev two : ℕ
  two = second_dim group

  abbrev may : List (List Bool) → ℕ → List Edge
  may box dim = may_edges parts box dim

  abbrev must : List (List Bool) → ℕ → List Edge
  must box dim = must_edges parts box dim

  -- the entries of a node, and the values of an attribute of a node
  abbrev pub EntriesLie : ℕ → Type 0
  EntriesLie node = (c : ℕ) → Has small (entry_decision node) c → Has large (entry_decision node) c

  abbrev pub AttrsLie : ℕ → ℕ → Type 0
  AttrsLie argument node = (x : ℕ) → Has small (attr_of_node parts group argument node) x → Has large (attr_of_node parts group argument node) x

  -- what links the ends of a place in a way
  abbrev pub LinksLie : Linking → Edge → Type 0
  LinksLie way e = (labels : List ℕ) → IsLinked way (may small two) e.mother.0 labels e.daughter.0 → IsLinked way (may large two) e.mother.0 labels e.daughter.0

  -- what agreement and government read at a place
  pub record PlaceLies (p : Principle) (e : Edge) : Type 0 where
    pub entries : EntriesLie e.mother.0
    pub mother : AttrsLie 0 e.mother.0
    pub daughter : (argument : ℕ) → argument < attr_arguments p → AttrsLie argument e.daughter.0
    pub must : Contains (must large one) e → Contains (must small one) e

  -- where u isn't above v among more edges, it isn't among fewer
  may_apart : (dim u v : ℕ) → Among (may small dim) (may large dim) → (Above (may large dim) u v → ⊥) → Above (may small dim) u v → ⊥
  may_apart dim u v fewer apart above = apart (above_among (may small dim) (may large dim) fewer u v above)

  pub valency_entry : Less (may_be parts small one) (may_be parts large one) (places parts) → Less (must_be parts large one) (must_be parts small one) (places parts)
      → (d v : ℕ) → ValencyEntry parts group large d v → ValencyEntry parts group small d v
  valency_entry fewer more d v rule = record {
    node = rule.node;
    within = rule.within;
    label = rule.label;
    known = rule.known;
    is = rule.is;
    none = elim rule.none [
      | inl none ↦ inl (none_narrower (out_row group rule.node v rule.label) (edges_out_of (must large one) rule.node rule.label) (edges_out_of (may large one) rule.node rule.label)
          (edges_out_of (must small one) rule.node rule.label) (edges_out_of (may small one) rule.node rule.label) (less_count _ _ _ (places parts) more) (less_count _ _ _ (places parts) fewer) none)
      | inr none ↦ inr (none_narrower (in_row group rule.node v rule.label) (edges_into (must large one) rule.node rule.label) (edges_into (may large one) rule.node rule.label)
          (edges_into (must small one) rule.node rule.label) (edges_into (may small one) rule.node rule.label) (less_count _ _ _ (places parts) more) (less_count _ _ _ (places parts) fewer) none)
    ];
  }

  pub one_mother : Among (must large one) (must small one) → (d v : ℕ) → OneMother parts group large d v → OneMother parts group small d v
  one_mother more d v rule = record { place = rule.place; is = rule.is; says = rule.says; other = rule.other; must = more rule.other rule.must; differs = rule.differs; both = rule.both }

  pub no_root : Among (must large one) (must small one) → HasNoRoot parts group large → HasNoRoot parts group small
  no_root more none = filter_none (is_root (must small one)) (is_root (must large one)) _ (roots_less (must large one) (must small one) more (nodes parts)) none

  pub two_roots : Among (may small one) (may large one) → HasTwoRoots parts group large → HasTwoRoots parts group small
  two_roots fewer two = (let more = roots_length (may small one) (may large one) fewer (nodes parts) in omega (arith, two, more))

  pub no_cycle : Among (must large one) (must small one) → (d v : ℕ) → NoCycle parts group large d v → NoCycle parts group small d v
  no_cycle more d v rule = record { place = rule.place; is = rule.is; says = rule.says; back = above_among (must large one) (must small one) more rule.place.daughter.0 rule.place.mother.0 rule.back }

  pub one_label : Among (must large one) (must small one) → (d v : ℕ) → OneLabel parts group large d v → OneLabel parts group small d v
  one_label more d v rule = record { place = rule.place; is = rule.is; says = rule.says; other = rule.other; must = more rule.other rule.must; differs = rule.differs; mother = rule.mother; daughter = rule.daughter }

  pub agr_values : (d v : ℕ) (rule : AgrValues parts group large d v) → EntriesLie rule.node → AttrsLie 0 rule.node → AgrValues parts group small d v
  agr_values d v rule entries attrs = record {
    node = rule.node;
    within = rule.within;
    lacks = elim rule.lacks [
      | inl value ↦ inl (value.0, λ c remains. value.1 c (entries c remains))
      | inr entry ↦ inr (entry.0, λ x remains. entry.1 x (attrs x remains))
    ];
  }

  pub agreement_values : (d v : ℕ) (rule : AgreementValues parts group large d v) → PlaceLies principles.Agreement rule.place → AgreementValues parts group small d v
  agreement_values d v rule lies = record {
    place = rule.place;
    is = rule.is;
    asks = λ c remains. rule.asks c (lies.entries c remains);
    lacks = elim rule.lacks [
      | inl edge ↦ inl (edge.0, λ x a b. edge.1 x (lies.mother x a) (lies.daughter 1 (omega arith) x b))
      | inr value ↦ inr (
        lies.must value.0,
        elim value.1 [
          | inl mother ↦ inl (mother.0, λ remains. mother.1 (lies.daughter 1 (omega arith) v remains))
          | inr daughter ↦ inr (daughter.0, λ remains. daughter.1 (lies.mother v remains))
        ],
      )
    ];
  }

  pub government_values : (d v : ℕ) (rule : GovernmentValues parts group large d v) → PlaceLies principles.Government rule.place → GovernmentValues parts group small d v
  government_values d v rule lies = record {
    place = rule.place;
    is = rule.is;
    governs = λ c remains. rule.governs c (lies.entries c remains);
    lacks = elim rule.lacks [
      | inl edge ↦ inl (edge.0, λ c remains x has. edge.1 c (lies.entries c remains) x (lies.daughter 0 (omega arith) x has))
      | inr value ↦ inr (lies.must value.0, value.1, λ c remains. value.2 c (lies.entries c remains))
    ];
  }

  pub daughter_order : Among (must large one) (must small one) → (d v : ℕ) → DaughterOrder parts group large d v → DaughterOrder parts group small d v
  daughter_order more d v rule = record { place = rule.place; is = rule.is; says = rule.says; other = rule.other; must = more rule.other rule.must; mother = rule.mother; wrong = rule.wrong }

  -- where one value remains and the decision has a value in the small box, it is this one
  only_value : (d v : ℕ) → (x : ℕ) × Has small d x → ((x : ℕ) → Has small d x → x ≡ v) → Has small d v
  only_value d v some only = subst (Has small d) (only some.0 some.1) some.1

  pub about_head : IsBox (shape parts) small → ((node : ℕ) → node < nodes parts → attr_of_node parts group 0 node < length (shape parts))
      → (d v : ℕ) (rule : AboutHead parts group large d v) → AttrsLie 0 rule.place.mother.0 → AboutHead parts group small d v
  about_head is decided d v rule attrs =
      let own = attr_of_node parts group 0 rule.place.mother.0 in
      let only : (x : ℕ) → Has small own x → x ≡ rule.own = λ x remains. rule.only x (attrs x remains) in
      record {
        place = rule.place;
        is = rule.is;
        says = rule.says;
        own = rule.own;
        remains = only_value own rule.own (is.filled own (decided rule.place.mother.0 (is_place parts rule.place rule.is.0).mother)) only;
        only = only;
        offends = rule.offends;
      }

  pub of_head : Among (must large one) (must small one) → (d v : ℕ) → OfHead parts group large d v → OfHead parts group small d v
  of_head more d v rule = record { place = rule.place; must = more rule.place rule.must; is = rule.is; offends = rule.offends }

  pub projectivity_reach : Among (may small one) (may large one) → (d v : ℕ) → ProjectivityReach parts group large d v → ProjectivityReach parts group small d v
  projectivity_reach fewer d v rule = record { place = rule.place; is = rule.is; says = rule.says; node = rule.node; within = rule.within; between = rule.between; apart = may_apart one rule.place.mother.0 rule.node fewer rule.apart }

  pub climbing_reach : Among (may small two) (may large two) → (d v : ℕ) → ClimbingReach parts group large d v → ClimbingReach parts group small d v
  climbing_reach fewer d v rule = record { place = rule.place; is = rule.is; says = rule.says; apart = may_apart two rule.place.mother.0 rule.place.daughter.0 fewer rule.apart }

  pub barriers_reach : Among (may small one) (may large one) → Among (must large two) (must small two) → (d v : ℕ) (rule : BarriersReach parts group large d v) → EntriesLie rule.barrier → BarriersReach parts group small d v
  barriers_reach fewer more d v rule entries = record {
    place = rule.place;
    is = rule.is;
    says = rule.says;
    barrier = rule.barrier;
    above = elim rule.above [ inl here ↦ inl here | inr over ↦ inr (above_among (must large two) (must small two) more rule.barrier rule.place.mother.0 over) ];
    blocks = λ c remains. rule.blocks c (entries c remains);
    apart = may_apart one rule.barrier rule.place.daughter.0 fewer rule.apart;
  }

  pub linking_reach : (way : Linking) (d v : ℕ) (rule : LinkingReach parts group large way d v) → EntriesLie rule.place.mother.0 → LinksLie way rule.place → LinkingReach parts group small way d v
  linking_reach way d v rule entries links = record {
    place = rule.place;
    is = rule.is;
    says = rule.says;
    links = λ c remains. rule.links c (entries c remains);
    apart = λ c remains link. rule.apart c (entries c remains) (links (map_row group rule.place.mother.0 c rule.place.label.0) link);
  }

  pub linking_not_daughter : (d v : ℕ) (rule : LinkingNotDaughter parts group large d v) → EntriesLie rule.place.mother.0 → (Contains (must large one) rule.place → Contains (must small one) rule.place)
      → (Contains (must large two) rule.other → Contains (must small two) rule.other) → LinkingNotDaughter parts group small d v
  linking_not_daughter d v rule entries first second = record {
    place = rule.place;
    is = rule.is;
    other = rule.other;
    other_is = rule.other_is;
    mother = rule.mother;
    daughter = rule.daughter;
    keeps = λ c remains. rule.keeps c (entries c remains);
    one = elim rule.one [
      | inl here ↦ inl (here.0, second here.1)
      | inr there ↦ inr (there.0, first there.1)
    ];
  }

-- ---- all rules of a principle

-- what the rules of the principle take goes by no more than this
abbrev pub IsAntitone : Principle → Type 0
IsAntitone principles.Tree = ⊥
IsAntitone principles.Dag = ⊥
IsAntitone principles.Valency = ⊥
IsAntitone (principles.Rule formula) = ⊥
IsAntitone (principles.Bound costs bound) = ⊥
IsAntitone p = Unit {0}

module _ (parts : Parts) (group : Group) (group_is : IsGroup parts group) (small large : List (List Bool)) (is : IsBox (shape parts) small) where
  place_lies : (p : Principle) → 0 < attr_arguments p → looks_at_entries p ≡ true → looks_at_first p ≡ true → LiesAt p parts group small large → (e : Edge) → Contains (places parts) e → PlaceLies parts group small large p e
  place_lies p some looks edges lies e c =
      let place = is_place parts e c in
      record {
        entries = λ k. lies.entries looks e.mother.0 k place.mother;
        mother = λ x. lies.attrs 0 e.mother.0 x some place.mother;
        daughter = λ argument known x. lies.attrs argument e.daughter.0 x known place.daughter;
        must = among_must parts (first_dim group) small large (lies.first edges) is e;
      }

  linked : (p : Principle) (way : Option Linking) → looks_at_entries p ≡ true → looks_at_second p ≡ true → LiesAt p parts group small large → (d v : ℕ) → TakesLinked way parts group large d v → TakesLinked way parts group small d v
  linked p None looks edges lies d v rule = absurd rule
  linked p (Some way) looks edges lies d v rule = linking_reach parts group small large way d v rule (λ c. lies.entries looks rule.place.mother.0 c (is_place parts rule.place rule.is.0).mother)
      (λ labels. linked_among _ _ (among_may parts (second_dim group) small large (lies.second edges)) way rule.place.mother.0 labels rule.place.daughter.0)

  pub antitone : (p : Principle) → group.principle ≡ p → IsAntitone p → LiesAt p parts group small large → (d v : ℕ) → TakesBy p parts group large d v → TakesBy p parts group small d v
  antitone principles.Order same of lies d v (inl rule) = inl (daughter_order parts group small large (among_must parts (first_dim group) small large (lies.first refl) is) d v rule)
  antitone principles.Order same of lies d v (inr (inl rule)) = inr (inl (about_head parts group small large is (attr_decided parts group group_is 0 (subst (λ p. 0 < attr_arguments p) (sym same) (omega arith))) d v rule
      (λ x. lies.attrs 0 rule.place.mother.0 x (omega arith) (is_place parts rule.place rule.is.0).mother)))
  antitone principles.Order same of lies d v (inr (inr rule)) = inr (inr (of_head parts group small large (among_must parts (first_dim group) small large (lies.first refl) is) d v rule))
  antitone principles.Projectivity same of lies d v rule = projectivity_reach parts group small large (among_may parts (first_dim group) small large (lies.first refl)) d v rule
  antitone principles.Agr same of lies d v rule = agr_values parts group small large d v rule (λ c. lies.entries refl rule.node c rule.within) (λ x. lies.attrs 0 rule.node x (omega arith) rule.within)
  antitone principles.Agreement same of lies d v rule = agreement_values parts group small large d v rule (place_lies principles.Agreement (omega arith) refl refl lies rule.place rule.is.0)
  antitone principles.Government same of lies d v rule = government_values parts group small large d v rule (place_lies principles.Government (omega arith) refl refl lies rule.place rule.is.0)
  antitone principles.Climbing same of lies d v rule = climbing_reach parts group small large (among_may parts (second_dim group) small large (lies.second refl)) d v rule
  antitone principles.Barriers same of lies d v rule =
      barriers_reach parts group small large (among_may parts (first_dim group) small large (lies.first refl)) (among_must parts (second_dim group) small large (lies.second refl) is) d v rule
      (λ c. lies.entries refl rule.barrier c (barrier_within parts large (second_dim group) rule.barrier rule.place.mother.0 (is_place parts rule.place rule.is.0).mother rule.above))
  antitone principles.LinkingNotDaughter same of lies d v rule =
      linking_not_daughter parts group small large d v rule (λ c. lies.entries refl rule.place.mother.0 c (is_place parts rule.place rule.is.0).mother)
      (among_must parts (first_dim group) small large (lies.first refl) is rule.place) (among_must parts (second_dim group) small large (lies.second refl) is rule.other)
  antitone principles.Graph same of lies d v rule = absurd rule
  antitone principles.Entries same of lies d v rule = absurd rule
  antitone principles.Tree same of lies d v rule = absurd of
  antitone principles.Dag same of lies d v rule = absurd of
  antitone principles.Valency same of lies d v rule = absurd of
  antitone (principles.Rule formula) same of lies d v rule = absurd of
  antitone (principles.Bound costs bound) same of lies d v rule = absurd of
  antitone p same of lies d v rule = linked p (linking_of p) refl refl lies d v rule
