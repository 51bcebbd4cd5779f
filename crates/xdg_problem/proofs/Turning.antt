-- Lists that are moved from their ends, and so turned.
use Rattle.std.proofs.Common.{◌≡◌, ℕ, ◌+◌, ◌<◌, List, [], ◌∷◌, ◌++◌, length, map, take, get_or, reverse, ap, ◌∙◌}
use Rattle.std.proofs.lemmas.List.{map-append, reverse-reverse, take_more}
use Rattle.xdg_base.specs.declared.ids.EntryNo.{EntryNo}
use Rattle.xdg_problem.specs.declared.formula.Formula.{Formula}
use Rattle.xdg_problem.specs.declared.parts.Feat.{Feat}
use Rattle.xdg_problem.specs.declared.parts.Group.{Group}
use Rattle.xdg_problem.specs.declared.parts.Parts.{Parts}
use Rattle.xdg_problem.specs.declared.parts.Principle.TheVariants as principles
use Rattle.xdg_problem.specs.Costs.{CostLists}
use Rattle.xdg_problem.specs.Further.{bare_use, bound_of, no_features, rules_of, with_uses}
use Rattle.xdg_facts.proofs.Turns.{turn_more, turn_end}

abbrev none_of : EntryNo → List Feat
none_of entry = []

-- the use of the last of some formulas behind others
pub rule_more : (feats : List (List (List Feat))) (made more : List Group) (formulas rest : List Formula) (start : List Group) (last : Formula) → made ++ reverse (map (λ formula. bare_use feats (principles.Rule formula)) formulas) ≡ start → formulas ≡ rest ++ last ∷ []
    → more ≡ made ++ bare_use feats (principles.Rule last) ∷ [] → more ++ reverse (map (λ formula. bare_use feats (principles.Rule formula)) rest) ≡ start
rule_more feats made more formulas rest start last so_far is now =
    let rule : Formula → Group = λ formula. bare_use feats (principles.Rule formula) in
    turn_more made more (map rule formulas) (map rule rest) start (rule last) so_far (ap (map rule) is ∙ map-append rule rest (last ∷ [])) now

pub rule_end : (feats : List (List (List Feat))) (made : List Group) (formulas : List Formula) (start : List Group) → made ++ reverse (map (λ formula. bare_use feats (principles.Rule formula)) formulas) ≡ start → formulas ≡ [] → made ≡ start
rule_end feats made formulas start so_far none =
    let rule : Formula → Group = λ formula. bare_use feats (principles.Rule formula) in
    turn_end made (map rule formulas) start so_far (ap (map rule) none)

-- turned twice they stand behind the others in their order
pub rules_placed : (parts : Parts) (feats : List (List (List Feat))) (uses groups : List Group) (formulas : List Formula) → feats ≡ no_features parts.candidates → uses ≡ reverse (map (λ formula. bare_use feats (principles.Rule formula)) formulas) → groups ≡ parts.groups ++ reverse uses
    → record parts { groups = groups } ≡ with_uses parts (rules_of parts formulas)
rules_placed parts feats uses groups formulas none turned now =
    let rules : List (List (List Feat)) → List Group = λ fs. map (λ formula. bare_use fs (principles.Rule formula)) formulas in
    let back : reverse uses ≡ rules (no_features parts.candidates) = ap reverse turned ∙ (reverse-reverse (rules feats) ∙ ap rules none) in
    ap (λ (z : List Group). record parts { groups = z }) (now ∙ ap (λ z. parts.groups ++ z) back)

-- a bound behind the others
pub bound_placed : (parts : Parts) (feats : List (List (List Feat))) (groups : List Group) (copied costs : CostLists) (bound : ℕ) → feats ≡ no_features parts.candidates → copied ≡ costs → groups ≡ parts.groups ++ bare_use feats (principles.Bound copied bound) ∷ [] → record parts { groups = groups } ≡ with_uses parts (bound_of parts costs bound)
bound_placed parts feats groups copied costs bound none same now =
    ap (λ (z : List Group). record parts { groups = z }) now ∙ (ap (λ (fs : List (List (List Feat))). record parts { groups = parts.groups ++ bare_use fs (principles.Bound copied bound) ∷ [] }) none
    ∙ ap (λ (z : CostLists). record parts { groups = parts.groups ++ bare_use (no_features parts.candidates) (principles.Bound z bound) ∷ [] }) same)

-- no features of one more candidate
pub nothing_more : (entries : List EntryNo) (i : ℕ) → i < length entries → map (λ (entry : EntryNo). none_of entry) (take (i + 1) entries) ≡ map (λ (entry : EntryNo). none_of entry) (take i entries) ++ [] ∷ []
nothing_more entries i l = ap (map none_of) (take_more entries i (record { 0 = 0 }) l) ∙ map-append none_of (take i entries) (get_or entries i (record { 0 = 0 }) ∷ [])
