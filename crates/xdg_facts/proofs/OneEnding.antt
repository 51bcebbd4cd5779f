-- For one budget, one wanted number and one listing there is exactly one ending, with one number of answers.
use Rattle.std.proofs.Common.{◌≡◌, ℕ, ◌<◌, ◌≤◌, ◌⊎◌, inl, inr, List, length, take, drop, refl, ap, sym, ◌∙◌, arith, subst, length-append, Some, None}
use Rattle.std.specs.Prelude.{filter, Option}
use Rattle.std.proofs.lemmas.List.{take-append-drop, take_all}
use Rattle.std.proofs.lemmas.List.Elements.{filter-append}
use Rattle.xdg_facts.specs.Whole.{is_whole, reach}
use Rattle.xdg_facts.specs.Endings.{IsBelow, IsAt, IsEnding, OneEnding}
use Rattle.xdg_facts.specs.declared.Ending.{Ending}
use Rattle.xdg_facts.specs.declared.Ending.TheVariants as endings
use Rattle.xdg_facts.proofs.Ordered.{three_cases}

-- the budget reaches no more whole vectors than there are
reach_bound : (shape : List ℕ) (b : ℕ) (counted : List (List ℕ)) → reach shape b counted ≤ length (filter (is_whole shape) counted)
reach_bound shape b counted =
    let e = ap (λ z. length (filter (is_whole shape) z)) (sym (take-append-drop b counted)) ∙ ap length (filter-append (is_whole shape) (take b counted) (drop b counted)) in
    let a = length-append (filter (is_whole shape) (take b counted)) (filter (is_whole shape) (drop b counted)) in
    omega (arith, e, a)

-- a budget that covers all reaches all
reach_all : (shape : List ℕ) (b : ℕ) (counted : List (List ℕ)) → length counted ≤ b → reach shape b counted ≡ length (filter (is_whole shape) counted)
reach_all shape b counted h = ap (λ z. length (filter (is_whole shape) z)) (take_all b counted h)

not_complete_first : (wanted : Option ℕ) (m k all : ℕ) → m ≡ all → IsBelow m wanted → IsAt k wanted → k ≤ all → ⊥
not_complete_first None m k all e b a l = a
not_complete_first (Some n) m k all e b a l = omega arith

not_first_spent : (wanted : Option ℕ) (m k r : ℕ) → IsAt m wanted → m ≤ r → k ≡ r → IsBelow k wanted → ⊥
not_first_spent None m k r a l e b = a
not_first_spent (Some n) m k r a l e b = omega arith

same_at : (wanted : Option ℕ) (m k : ℕ) → IsAt m wanted → IsAt k wanted → m ≡ k
same_at None m k a b = absurd a
same_at (Some n) m k a b = a ∙ sym b

all_of : (shape : List ℕ) (b k : ℕ) (counted solutions : List (List ℕ)) → filter (is_whole shape) counted ≡ solutions → k ≤ reach shape b counted → k ≤ length solutions
all_of shape b k counted solutions e h = let r = reach_bound shape b counted in let l = ap length e in omega (arith, r, l)

pub ending_unique : (one other : Ending) (shape : List ℕ) (b : ℕ) (wanted : Option ℕ) (counted solutions : List (List ℕ)) (m k : ℕ) → filter (is_whole shape) counted ≡ solutions → IsEnding one shape b wanted counted solutions m → IsEnding other shape b wanted counted solutions k → (one ≡ other) × (m ≡ k)
ending_unique endings.Complete endings.Complete shape b wanted counted solutions m k e h g = (refl, h.0 ∙ sym g.0)
ending_unique endings.Complete endings.First shape b wanted counted solutions m k e h g = absurd (not_complete_first wanted m k (length solutions) h.0 h.2 g.0 (all_of shape b k counted solutions e g.1))
ending_unique endings.Complete endings.Spent shape b wanted counted solutions m k e h g = (let p = h.1 in let q = g.1 in absurd (omega arith))
ending_unique endings.First endings.Complete shape b wanted counted solutions m k e h g = absurd (not_complete_first wanted k m (length solutions) g.0 g.2 h.0 (all_of shape b m counted solutions e h.1))
ending_unique endings.First endings.First shape b wanted counted solutions m k e h g = (refl, same_at wanted m k h.0 g.0)
ending_unique endings.First endings.Spent shape b wanted counted solutions m k e h g = absurd (not_first_spent wanted m k (reach shape b counted) h.0 h.1 g.0 g.2)
ending_unique endings.Spent endings.Complete shape b wanted counted solutions m k e h g = (let p = h.1 in let q = g.1 in absurd (omega arith))
ending_unique endings.Spent endings.First shape b wanted counted solutions m k e h g = absurd (not_first_spent wanted k m (reach shape b counted) g.0 g.1 h.0 h.2)
ending_unique endings.Spent endings.Spent shape b wanted counted solutions m k e h g = (refl, h.0 ∙ sym g.0)

-- n is at most m, or m is below what is wanted
wanted_or : (wanted : Option ℕ) (m : ℕ) → ((n : ℕ) × (wanted ≡ Some n) × (n ≤ m)) ⊎ IsBelow m wanted
wanted_or None m = inr tt
wanted_or (Some n) m = elim (three_cases m n) [
  | inl l ↦ inr l
  | inr r ↦ inl (n, refl, elim r [ inl e ↦ omega arith | inr l ↦ omega arith ])
]

covered_or : (b n : ℕ) → (n ≤ b) ⊎ (b < n)
covered_or b n = elim (three_cases b n) [ inl l ↦ inr l | inr r ↦ inl (elim r [ inl e ↦ omega arith | inr l ↦ omega arith ]) ]

pub ending_exists : (shape : List ℕ) (b : ℕ) (wanted : Option ℕ) (counted solutions : List (List ℕ)) → filter (is_whole shape) counted ≡ solutions → (ending : Ending) × (m : ℕ) × IsEnding ending shape b wanted counted solutions m
ending_exists shape b wanted counted solutions e = elim (wanted_or wanted (reach shape b counted)) [
  | inl w ↦ (endings.First, w.0, (subst (IsAt w.0) (sym w.1) refl, w.2))
  | inr l ↦ elim (covered_or b (length counted)) [
    | inl c ↦ (endings.Complete, reach shape b counted, (reach_all shape b counted c ∙ ap length e, c, l))
    | inr c ↦ (endings.Spent, reach shape b counted, (refl, c, l))
  ]
]

-- so there is one
pub one_ending : OneEnding
one_ending shape b wanted counted =
    let some = ending_exists shape b wanted counted (filter (is_whole shape) counted) refl in
    record {
      ending = some.0;
      number = some.1;
      is = some.2;
      only = λ other m is. ending_unique other some.0 shape b wanted counted (filter (is_whole shape) counted) m some.1 refl is some.2;
    }
