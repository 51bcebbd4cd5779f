-- The nodes into which no edge leads, as a set.
use Rattle.std.proofs.Common.{◌≡◌, ℕ, ◌<◌, ◌≤◌, ◌↔◌, ◌&&◌, not, IsTrue, List, [], ◌∷◌, length, sym, ◌∙◌, ap, arith}
use Rattle.std.specs.Prelude.{Contains, nat_lt}
use Rattle.std.proofs.lemmas.Bool.{both_ways, false_from_ne_true, lt-ltb, ltb-true, not-true, not_from_false}
use Rattle.std.proofs.lemmas.List.{nil_from_length}
use Rattle.xdg_facts.specs.Rises.{has}
use Rattle.xdg_facts.proofs.Rising.{contains_has, contains_of_has}
use Rattle.xdg_nodeset.specs.Nodes.{IsNodes}
use Rattle.xdg_problem.specs.declared.analysis.Edge.{Edge}
use Rattle.xdg_problem.specs.Paths.{roots}
use Rattle.xdg_problem.specs.Places.{below}
use Rattle.xdg_problem.proofs.Ordered.{contains_numbers, numbers_ordered}
use Rattle.xdg_rules.proofs.Among.{free_root, is_root, root_contained, root_free}
use Rattle.xdg_pgraph.specs.declared.entered.Roots.TheVariants as rootss
use Rattle.xdg_pgraph.specs.Entering.{Enters}
use Rattle.xdg_pgraph.specs.Seeking.{RootsAre}
use Rattle.xdg_pgraph.proofs.Rising.{node_below, nodes_rising}
use Rattle.xdg_facts.proofs.Contained.{contains_filter}
use Rattle.xdg_facts.proofs.InOrder.{ordered_filter}
use Rattle.xdg_facts.proofs.Merging.{rising_same}
use Rattle.xdg_facts.proofs.Sets.{both}

module _ (edges : List Edge) (n : ℕ) (all some set : List ℕ) (whole : (k : ℕ) → has all k ≡ nat_lt k n) (free : (k : ℕ) → has set k ≡ (has all k && not (has some k))) (is : IsNodes set) (t : (k : ℕ) → IsTrue (has some k) ↔ Enters (Contains edges) k) where
  set_root : (v : ℕ) → Contains set v → Contains (roots n edges) v
  set_root v c =
      let b = (both (has all v) (not (has some v))).0 (sym (free v) ∙ contains_has set v c) in
      contains_filter (is_root edges) (below n) v
      (free_root edges v (λ e c into. both_ways (has some v) (not-true (has some v) b.1) ((t v).1 (e, c, into))))
      (let l = ltb-true v n (sym (whole v) ∙ b.0) in contains_numbers 0 n v (omega arith) (omega (arith, l)))

  root_set : (v : ℕ) → Contains (roots n edges) v → Contains set v
  root_set v c =
      let r = root_contained n edges v c in
      let l = node_below n v r.0 in
      let out = false_from_ne_true (has some v) (λ h. (let s = (t v).0 h in root_free edges v r.1 s.0 s.1 s.2)) in
      contains_of_has set v (free v ∙ (both (has all v) (not (has some v))).1 (whole v ∙ lt-ltb v n l, not_from_false (has some v) out))

  same : set ≡ roots n edges
  same = rising_same set (roots n edges) (nodes_rising set is) (ordered_filter (λ i j. i < j) (is_root edges) (below n) (numbers_ordered 0 n)) set_root root_set

  pub no_roots : set ≡ [] → RootsAre (roots n edges) rootss.Nothing
  no_roots none = sym same ∙ none

  pub one_root : (v : ℕ) (rest : List ℕ) → set ≡ v ∷ rest → length set ≤ 1 → RootsAre (roots n edges) (rootss.One v)
  one_root v rest first few = sym same ∙ first ∙ ap (λ xs. v ∷ xs) (nil_from_length rest (let e = ap length first in omega (arith, e, few)))

  pub more_roots : 1 < length set → RootsAre (roots n edges) rootss.More
  more_roots two = (let e = ap length same in omega (arith, e, two))
