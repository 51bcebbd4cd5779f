-- What is counted of written types is the weight of what they mean.
use Rattle.std.proofs.Common.{◌≡◌, inl, refl, ℕ, ◌+◌, ◌-◌, ◌^◌, List, length, min, sym, ap, ap₂, ◌∙◌, arith}
use Rattle.std.proofs.lemmas.List.{length-map}
use Rattle.xdg_ast.specs.declared.names.Name.{Name}
use Rattle.xdg_domain.specs.Shapes.{Shape, text, fields, no_field, field_then}
use Rattle.xdg_types.specs.Written.{Tree, listed, recorded, tupled, set_of, iset_of, valency_of, map_of, named, Trees, no_tree, tree_then, Members, no_member, member_then, uses, uses_in_trees, uses_in_members}
use Rattle.xdg_types.specs.Meaning.{meaning, domains_meaning, fields_meaning, as_domain}
use Rattle.xdg_typing.specs.Weights.{parts, parts_of, parts_in, weight_of, beside, held, weighed, beside_trees, beside_members, named_weight, Weighs}
use Rattle.xdg_facts.specs.Capped.{capped}
use Rattle.xdg_facts.proofs.Numbers.{below_one}
use Rattle.xdg_facts.specs.Membership.{In}
use Rattle.xdg_facts.proofs.In.{in_left, in_right}
use Rattle.xdg_ast.specs.Texts.{texts}
use Rattle.xdg_facts.proofs.Capped.{capped_sum}

-- ---- counts that stop

pub beside_capped : (p q : ℕ) → beside (capped p) (capped q) ≡ capped (p + q)
beside_capped p q = capped_sum p q (2 ^ 64 - 1)

held_capped : (p : ℕ) → held (capped p) ≡ capped (1 + p)
held_capped p = below_one p (2 ^ 64 - 1)

-- ---- where a domain is wanted

pub parts_as : (s : Shape) → parts (as_domain s) ≡ parts s
parts_as (fields no_field) = refl
parts_as (fields (field_then name u fs)) = refl
parts_as other = refl

weight_as : (s : Shape) → weight_of s ≡ weight_of (as_domain s)
weight_as s = ap capped (sym (parts_as s))

constants_counted : (names : List Name) → min (length names + 1) (2 ^ 64 - 1) ≡ min (1 + length (texts names)) (2 ^ 64 - 1)
constants_counted names = let e : length (texts names) ≡ length names = length-map names (λ name. name.text) in ap (λ n. min n (2 ^ 64 - 1)) (omega (arith, e))

held_as : (s : Shape) (w : ℕ) → w ≡ weight_of s → held w ≡ capped (1 + parts (as_domain s))
held_as s w h = ap held (h ∙ weight_as s) ∙ held_capped (parts (as_domain s))

-- ---- one field after another

ends : (p : ℕ) → capped p ≡ capped (p + 0)
ends p = ap capped (omega arith)

goes_on : (p q r : ℕ) → capped (p + q + r) ≡ capped (p + (q + r))
goes_on p q r = ap capped (omega arith)

-- all fields, and the type that holds them
holds : (p : ℕ) → held (capped (0 + p)) ≡ capped (1 + p)
holds p = ap (λ n. held (capped n)) (omega arith) ∙ held_capped p

module _ (names : List ℕ → Shape) (at : Name → ℕ) where
  mutual
    -- where the names that a type uses have the weights of what they mean
    pub weigh_right : (t : Tree) → ((n : Name) → In (uses t) n → at n ≡ weight_of (names n.text)) → weighed at t ≡ weight_of (meaning names t)
    weigh_right (listed cs) h = constants_counted cs
    weigh_right (recorded ms) h = ap held (members_right ms 0 h) ∙ holds (parts_in (fields_meaning names ms))
    weigh_right (tupled ts) h = ap held (trees_right ts 0 h) ∙ holds (parts_of (domains_meaning names ts))
    weigh_right (set_of place t) h = held_as (meaning names t) (weighed at t) (weigh_right t h)
    weigh_right (iset_of place t) h = held_as (meaning names t) (weighed at t) (weigh_right t h)
    weigh_right (valency_of place t) h = held_as (meaning names t) (weighed at t) (weigh_right t h)
    weigh_right (map_of place t there u) h =
        let s = as_domain (meaning names t) in
        ap held (ap₂ beside (weigh_right t (λ n i. h n (in_left (uses t) (uses u) n i)) ∙ weight_as (meaning names t)) (weigh_right u (λ n i. h n (in_right (uses t) (uses u) n i)))
        ∙ beside_capped (parts s) (parts (meaning names u))) ∙ held_capped (parts s + parts (meaning names u))
    weigh_right (named name) h = h name (inl refl)
    weigh_right other h = refl

    trees_right : (ts : Trees) (p : ℕ) → ((n : Name) → In (uses_in_trees ts) n → at n ≡ weight_of (names n.text))
        → beside_trees at (capped p) ts ≡ capped (p + parts_of (domains_meaning names ts))
    trees_right no_tree p h = ends p
    trees_right (tree_then place t ts) p h =
        let s = as_domain (meaning names t) in
        ap (λ w. beside_trees at w ts) (ap (beside (capped p)) (weigh_right t (λ n i. h n (in_left (uses t) (uses_in_trees ts) n i)) ∙ weight_as (meaning names t)) ∙ beside_capped p (parts s))
        ∙ trees_right ts (p + parts s) (λ n i. h n (in_right (uses t) (uses_in_trees ts) n i))
        ∙ goes_on p (parts s) (parts_of (domains_meaning names ts))

    members_right : (ms : Members) (p : ℕ) → ((n : Name) → In (uses_in_members ms) n → at n ≡ weight_of (names n.text))
        → beside_members at (capped p) ms ≡ capped (p + parts_in (fields_meaning names ms))
    members_right no_member p h = ends p
    members_right (member_then name place t ms) p h =
        let s = meaning names t in
        ap (λ w. beside_members at w ms) (ap (beside (capped p)) (weigh_right t (λ n i. h n (in_left (uses t) (uses_in_members ms) n i))) ∙ beside_capped p (parts s))
        ∙ members_right ms (p + parts s) (λ n i. h n (in_right (uses t) (uses_in_members ms) n i))
        ∙ goes_on p (parts s) (parts_in (fields_meaning names ms))

-- where all names have their weights

pub weigh_known : (names : List ℕ → Shape) (known : List (List ℕ)) (weights : List ℕ) (t : Tree) → Weighs names known weights → weighed (named_weight known weights) t ≡ weight_of (meaning names t)
weigh_known names known weights t h = weigh_right names (named_weight known weights) t (λ n used. h n.text)
