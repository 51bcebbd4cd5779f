-- The sample's principle use takes nothing exactly where the second value doesn't remain.
use Rattle.std.proofs.Common.{◌≡◌, ℕ, zero, suc, ◌<◌, inl, inr, Bool, true, false, List, [], ◌∷◌, Contains, length, refl, ap, ap₂, get_or, ◌⊎◌, sym, arith, subst, lit<}
use Rattle.xdg_problem.specs.declared.parts.Parts.{Parts}
use Rattle.xdg_problem.specs.Boxes.{Has, IsBox, LiesIn}
use Rattle.xdg_problem.specs.Features.{set_row}
use Rattle.xdg_problem.specs.Tests.{Test, IsTest, allowed_value}
use Rattle.xdg_problem.specs.Vectors.{shape}
use Rattle.xdg_rules.specs.Rules.{IsClosedFor, AgrValues, TestPasses, attr_of_node}
use Rattle.xdg_propcore.specs.Sample.{sample, agr_use, LacksSecond, IsUse}
use Rattle.xdg_propcore.specs.Uses.{IsClosedBy, use_at}
use Rattle.xdg_facts.proofs.Numbers.{has_first}

-- the box of the first values
abbrev firsts : List (List Bool)
firsts = (true ∷ []) ∷ (true ∷ false ∷ []) ∷ []

row_one : (row : List Bool) → length row ≡ 1 → (v : ℕ) → Has (row ∷ []) 0 v → row ≡ true ∷ []
row_one [] e v h = cc
row_one (a ∷ b ∷ row) e v h = absurd (omega (arith, e))
row_one (true ∷ []) e v h = refl
row_one (false ∷ []) e zero h = cc
row_one (false ∷ []) e (suc v) h = cc

row_two : (row : List Bool) → length row ≡ 2 → (Has (row ∷ []) 0 1 → ⊥) → (v : ℕ) → Has (row ∷ []) 0 v → row ≡ true ∷ false ∷ []
row_two [] e n v h = cc
row_two (a ∷ []) e n v h = absurd (omega (arith, e))
row_two (a ∷ b ∷ c ∷ row) e n v h = absurd (omega (arith, e))
row_two (a ∷ true ∷ []) e n v h = absurd (n refl)
row_two (true ∷ false ∷ []) e n v h = refl
row_two (false ∷ false ∷ []) e n zero h = cc
row_two (false ∷ false ∷ []) e n (suc zero) h = cc
row_two (false ∷ false ∷ []) e n (suc (suc v)) h = cc

-- the only box of the sample that lacks the second value
is_firsts : (box : List (List Bool)) → IsBox (1 ∷ 2 ∷ []) box → LacksSecond box → box ≡ firsts
is_firsts [] is l = (let e = ap length is.sizes in absurd (omega (arith, e)))
is_firsts (a ∷ []) is l = (let e = ap length is.sizes in absurd (omega (arith, e)))
is_firsts (a ∷ b ∷ c ∷ box) is l = (let e = ap length is.sizes in absurd (omega (arith, e)))
is_firsts (a ∷ b ∷ []) is l =
    let e = ap (λ z. get_or z 0 0) is.sizes in
    let f = ap (λ z. get_or z 1 0) is.sizes in
    let p = is.filled 0 (lit< tt) in
    let q = is.filled 1 (lit< tt) in
    ap₂ (λ x y. x ∷ y ∷ []) (row_one a e p.0 p.1) (row_two b f l q.0 q.1)

passes : (test : Test) → IsTest sample agr_use test → TestPasses sample agr_use firsts test
passes (allowed_value zero) is = has_first
passes (allowed_value (suc v)) is = absurd (omega (arith, is))
passes test is = absurd is

value_first : (v : ℕ) → Has firsts 1 v → v ≡ 0
value_first zero h = refl
value_first (suc zero) h = cc
value_first (suc (suc v)) h = cc

entry_first : (v : ℕ) → Has firsts 0 v → v ≡ 0
entry_first zero h = refl
entry_first (suc v) h = cc

takes_none : (d v node : ℕ) → Has firsts d v → AgrValues sample agr_use firsts d v → ⊥
takes_none d v node has takes = by takes.node takes.within takes.lacks
  where
    by : (node : ℕ) → node < 1
        → ((d ≡ attr_of_node sample agr_use 0 node) × ((c : ℕ) → Has firsts node c → Contains (set_row agr_use node c) v → ⊥))
        ⊎ ((d ≡ node) × ((x : ℕ) → Has firsts (attr_of_node sample agr_use 0 node) x → Contains (set_row agr_use node v) x → ⊥))
        → ⊥
    by zero l (inl (is, none)) = none 0 refl (subst (Contains (0 ∷ [])) (sym (value_first v (subst (λ z. Has firsts z v) is has))) has_first)
    by zero l (inr (is, none)) =
        none 0 refl (subst (λ z. Contains (set_row agr_use 0 z) 0) (sym (entry_first v (subst (λ z. Has firsts z v) is has))) has_first)
    by (suc node) l other = absurd (omega (arith, l))

firsts_closed : IsClosedFor sample agr_use firsts
firsts_closed d v has takes = elim takes [
  | inl fails ↦ fails.fails (passes fails.test fails.is)
  | inr agr ↦ takes_none d v 0 has agr
]

-- where the second value remains, it is taken
no_second : (c : ℕ) → Contains (set_row agr_use 0 c) 1 → ⊥
no_second zero (zero, l, e) = cc
no_second zero (suc k, l, e) = absurd (omega (arith, l))
no_second (suc c) (k, l, e) = absurd (omega (arith, l))

pub closed_lacks : (box : List (List Bool)) → IsClosedFor sample agr_use box → LacksSecond box
closed_lacks box closed has = closed 1 1 has (inr (record { node = 0; within = lit< tt; lacks = inl (refl, λ c h. no_second c) }))

-- the laws of a propagator that is still where the second value doesn't remain
pub lacks_closed : (parts : Parts) (box : List (List Bool)) → IsBox (shape parts) box → LacksSecond box → IsClosedBy IsUse parts box
lacks_closed parts box is lacks number mine =
    subst (λ q. IsBox (shape q) box → IsClosedFor q (use_at q number) box) (sym mine.1.0)
    (λ small. subst (λ n. IsClosedFor sample (use_at sample n) box) (sym mine.1.1)
    (subst (IsClosedFor sample agr_use) (sym (is_firsts box small lacks)) firsts_closed))
    is

pub lacks_still : (old new : List (List Bool)) → LiesIn new old → LacksSecond old → LacksSecond new
lacks_still old new inside lacks has = lacks (inside 1 1 has)
