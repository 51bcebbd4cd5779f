-- What nodes have by their entries, and the principle uses over such nodes.
use Rattle.std.proofs.Common.{◌≡◌, ℕ, ◌+◌, ◌<◌, ◌≤◌, List, [], ◌∷◌, ◌++◌, length, get_or, map, take, refl, sym, ap, ap₂, ◌∙◌, subst, arith}
use Rattle.std.specs.Prelude.{All}
use Rattle.std.proofs.lemmas.List.{length-map, get_or-map, get_or_default, map-append, take_all, take_more}
use Rattle.std.proofs.lemmas.List.Elements.{All-head, All-map, All-tail}
use Rattle.xdg_base.specs.declared.ids.EntryNo.{EntryNo}
use Rattle.xdg_problem.specs.declared.parts.Group.{Group}
use Rattle.xdg_principles.specs.declared.building.PrincipleUse.{PrincipleUse}
use Rattle.xdg_build.specs.declared.nodes.NodePlan.{NodePlan}
use Rattle.xdg_build.specs.Grammars.{Grammar}
use Rattle.xdg_build.specs.Groups.{features_at, group_of, groups_of, used_uses}
use Rattle.xdg_build.specs.Nodes.{IsNodePlan, candidates_in, feats_at, node_feats, only_feats, over}

-- ---- one node

-- a use over one node has the features of one
pub one_each : (g : Grammar) (candidates : List (List EntryNo)) (numbers : List EntryNo) (groups : List Group) → candidates ≡ numbers ∷ [] → groups ≡ groups_of g candidates → All (λ group. 0 < length group.feats) groups
one_each g candidates numbers groups one are =
    subst (All (λ group. 0 < length group.feats)) (sym (are ∙ ap (groups_of g) one)) (All-map (λ group. 0 < length group.feats) (group_of g (numbers ∷ [])) (used_uses g) (λ k d within. omega arith))

only_of : (g : Grammar) (numbers : List EntryNo) (uses : List PrincipleUse) → only_feats (map (group_of g (numbers ∷ [])) uses) ≡ map (λ u. map (features_at g u) numbers) uses
only_of g numbers [] = refl
only_of g numbers (u ∷ uses) = λ i. map (features_at g u) numbers ∷ only_of g numbers uses i

pub only_are : (g : Grammar) (candidates : List (List EntryNo)) (numbers : List EntryNo) (groups : List Group) → candidates ≡ numbers ∷ [] → groups ≡ groups_of g candidates → only_feats groups ≡ node_feats g numbers
only_are g candidates numbers groups one are = ap only_feats (are ∙ ap (groups_of g) one) ∙ only_of g numbers (used_uses g)

-- ---- nodes

feats_of : (g : Grammar) (uses : List PrincipleUse) (k : ℕ) (u : PrincipleUse) → u ≡ get_or uses k u → k < length uses → (nodes : List NodePlan) → All (λ node. node.feats ≡ map (λ w. map (features_at g w) node.candidates) uses) nodes
    → feats_at k nodes ≡ map (λ numbers. map (features_at g u) numbers) (candidates_in nodes)
feats_of g uses k u is within [] are = refl
feats_of g uses k u is within (node ∷ nodes) are = λ i. here i ∷ feats_of g uses k u is within nodes (All-tail (λ one. one.feats ≡ map (λ w. map (features_at g w) one.candidates) uses) node nodes are) i
  where
    here : get_or node.feats k [] ≡ map (features_at g u) node.candidates
    here =
        ap (λ feats. get_or feats k []) (All-head (λ one. one.feats ≡ map (λ w. map (features_at g w) one.candidates) uses) node nodes are)
        ∙ get_or-map (λ w. map (features_at g w) node.candidates) uses k u [] within ∙ ap (λ w. map (features_at g w) node.candidates) (sym is)

over_is : (g : Grammar) (uses : List PrincipleUse) (k : ℕ) (u : PrincipleUse) → u ≡ get_or uses k u → k < length uses → (nodes : List NodePlan) → All (λ node. node.feats ≡ map (λ w. map (features_at g w) node.candidates) uses) nodes
    → over k nodes (group_of g [] u) ≡ group_of g (candidates_in nodes) u
over_is g uses k u is within nodes are =
    let feats : feats_at k nodes ≡ (group_of g (candidates_in nodes) u).feats = feats_of g uses k u is within nodes are in
    λ i. record { principle = (group_of g [] u).principle; dims = (group_of g [] u).dims; attrs = (group_of g [] u).attrs; order = (group_of g [] u).order; truths = (group_of g [] u).truths; feats = feats i }

turn : (g : Grammar) (uses : List PrincipleUse) (nodes : List NodePlan) (k : ℕ) (group : Group) (made after : List Group) → All (λ node. node.feats ≡ map (λ w. map (features_at g w) node.candidates) uses) nodes → k < length uses
    → group ≡ get_or (map (group_of g []) uses) k group → made ≡ map (group_of g (candidates_in nodes)) (take k uses) → after ≡ made ++ over k nodes group ∷ [] → after ≡ map (group_of g (candidates_in nodes)) (take (k + 1) uses)
turn g [] nodes k group made after are within is so_far grown = absurd (omega (arith, within))
turn g (first ∷ later) nodes k group made after are within is so_far grown =
    let uses : List PrincipleUse = first ∷ later in
    let u : PrincipleUse = get_or uses k first in
    let same : group ≡ group_of g [] u = is ∙ get_or-map (group_of g []) uses k first group within in
    let one : over k nodes group ≡ group_of g (candidates_in nodes) u = ap (over k nodes) same ∙ over_is g uses k u (get_or_default uses k first u within) within nodes are in
    grown ∙ ap₂ (λ (m : List Group) (x : Group). m ++ x ∷ []) so_far one ∙ sym (map-append (group_of g (candidates_in nodes)) (take k uses) (u ∷ []))
    ∙ ap (map (group_of g (candidates_in nodes))) (sym (take_more uses k first within))

-- one group more, over nodes
pub over_turn : (g : Grammar) (nodes : List NodePlan) (groups : List Group) (k : ℕ) (group : Group) (made after : List Group) → groups ≡ groups_of g [] → All (IsNodePlan g) nodes → k < length groups → group ≡ get_or groups k group
    → made ≡ map (group_of g (candidates_in nodes)) (take k (used_uses g)) → after ≡ made ++ over k nodes group ∷ [] → after ≡ map (group_of g (candidates_in nodes)) (take (k + 1) (used_uses g))
over_turn g nodes groups k group made after are each within is so_far grown =
    turn g (used_uses g) nodes k group made after each (subst (λ n. k < n) (ap length are ∙ length-map (used_uses g) (group_of g [])) within) (subst (λ gs. group ≡ get_or gs k group) are is) so_far grown

-- all groups, over nodes
pub over_all : (g : Grammar) (nodes : List NodePlan) (groups : List Group) (k : ℕ) (made : List Group) → groups ≡ groups_of g [] → length groups ≤ k → made ≡ map (group_of g (candidates_in nodes)) (take k (used_uses g)) → made ≡ groups_of g (candidates_in nodes)
over_all g nodes groups k made are past so_far =
    so_far ∙ ap (map (group_of g (candidates_in nodes))) (take_all k (used_uses g) (subst (λ n. n ≤ k) (ap length are ∙ length-map (used_uses g) (group_of g [])) past))
