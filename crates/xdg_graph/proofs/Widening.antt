-- The first sets of a table are widened, where the others are empty.
use Rattle.std.proofs.Common.{◌≡◌, ℕ, ◌+◌, ◌<◌, ◌≤◌, ◌⊎◌, ◌↔◌, ◌||◌, inl, inr, true, false, List, [], length, get_or, sym, ◌∙◌, subst, arith}
use Rattle.std.proofs.lemmas.Bool.{cases_eq, cases_lt, false≢true}
use Rattle.std.specs.Prelude.{slice_set}
use Rattle.xdg_nodeset.specs.Tables.{InTable, IsClosure}
use Rattle.xdg_nodeset.proofs.Closures.{closure_more}
use Rattle.xdg_nodeset.proofs.TableSets.{Widened, widened_start, widened_more}
use Rattle.xdg_graph.specs.Edges.{HasNoneFrom, IsLedTo}
use Rattle.xdg_facts.specs.Rises.{has}
use Rattle.xdg_facts.proofs.Sets.{either, extended_yes, none_in}

module _ (old now : List (List ℕ)) (size middle : ℕ) (rest : HasNoneFrom size old) where
  pub widened_rest : (i : ℕ) → size ≤ i → Widened old now middle i → (a b : ℕ) → InTable now a b ↔ (InTable old a b ⊎ (InTable old a middle × InTable old middle b))
  widened_rest i l w a b = elim (cases_lt a i) [
    | inl m ↦ w.done a b m
    | inr m ↦ (
        let same : get_or now a [] ≡ get_or old a [] = w.left a m in
        let past : size ≤ a = omega (arith, l, m) in (
          λ h. absurd (rest a b past (subst (λ z. has z b ≡ true) same h)),
          λ h. absurd (elim h [ inl o ↦ rest a b past o | inr o ↦ rest a middle past o.0 ]),
        ))
  ]

-- a set that hasn't the middle stays as it is
pub widened_without : (old now : List (List ℕ)) (middle i : ℕ) → has (get_or now i []) middle ≡ false → Widened old now middle i → Widened old now middle (i + 1)
widened_without old now middle i none w = record {
  len = w.len;
  done = λ a b m. elim (cases_eq a i) [
    | inl s ↦ subst (λ z. InTable now z b ↔ (InTable old z b ⊎ (InTable old z middle × InTable old middle b))) (sym s)
        (subst (λ z. InTable now i b ↔ ((has z b ≡ true) ⊎ ((has z middle ≡ true) × InTable old middle b))) (w.left i (omega arith))
        (λ h. inl h, λ h. elim h [ inl o ↦ o | inr o ↦ absurd (false≢true (sym none ∙ o.0)) ]))
    | inr other ↦ w.done a b (omega (arith, m, other))
  ];
  left = λ a m. w.left a (omega (arith, m));
}

-- to one that has it is added what lies beyond
pub widened_with : (old now : List (List ℕ)) (middle i : ℕ) (beyond set : List ℕ) → i < length now → beyond ≡ get_or old middle [] → has (get_or now i []) middle ≡ true → ((b : ℕ) → has set b ≡ (has (get_or now i []) b || has beyond b)) → Widened old now middle i → Widened old (slice_set now i set) middle (i + 1)
widened_with old now middle i beyond set l is with_it members w = widened_more old now middle i set l
    (λ b. subst (λ z. (has set b ≡ true) ↔ ((has (get_or now i []) b ≡ true) ⊎ ((has (get_or now i []) middle ≡ true) × (has z b ≡ true)))) is (extended_yes (get_or now i []) beyond set middle b with_it (members b))) w

-- where nothing lies beyond the middle all stays as it is
pub widened_none : (table : List (List ℕ)) (middle : ℕ) (beyond : List ℕ) → beyond ≡ get_or table middle [] → length beyond ≡ 0 → (a b : ℕ) → InTable table a b ↔ (InTable table a b ⊎ (InTable table a middle × InTable table middle b))
widened_none table middle beyond is none a b = (
  λ h. inl h,
  λ h. elim h [ inl o ↦ o | inr o ↦ absurd (none_in beyond b none (subst (λ z. has z b ≡ true) (sym is) o.1)) ],
)

-- each turn over the nodes of a table
pub ruleset widened_steps = (widened_start, widened_without, widened_with, widened_rest, widened_none)

-- ---- nodes that no set has

-- each node that one of the first sets has is among some
abbrev pub IsLedToBy : ℕ → List (List ℕ) → List ℕ → Type 0
IsLedToBy k table ends = (a b : ℕ) → a < k → InTable table a b → has ends b ≡ true

pub led_start : (table : List (List ℕ)) (ends : List ℕ) → IsLedToBy 0 table ends
led_start table ends a b l h = absurd (omega (arith, l))

pub led_next : (table : List (List ℕ)) (k : ℕ) (ends set new : List ℕ) → set ≡ get_or table k [] → ((n : ℕ) → has new n ≡ (has ends n || has set n)) → IsLedToBy k table ends → IsLedToBy (k + 1) table new
led_next table k ends set new at is so_far a b l h = is b ∙ (either (has ends b) (has set b)).1 (elim (cases_eq a k) [
  | inl same ↦ inr (subst (λ s. has s b ≡ true) (sym at) (subst (λ i. InTable table i b) same h))
  | inr other ↦ inl (so_far a b (omega (arith, l, other)) h)
])

pub led_end : (table : List (List ℕ)) (k size : ℕ) (ends : List ℕ) → size ≤ k → HasNoneFrom size table → IsLedToBy k table ends → IsLedTo table ends
led_end table k size ends all rest led a b h = elim (cases_lt a size) [ inl l ↦ led a b (omega (arith, l, all)) h | inr past ↦ absurd (rest a b past h) ]

-- nothing leads through such a node
pub closure_skip : (i : ℕ) (table now : List (List ℕ)) (ends : List ℕ) → has ends i ≡ false → IsLedTo now ends → IsClosure i table now → IsClosure (i + 1) table now
closure_skip i table now ends none led c = closure_more i table now now c (λ a b. (λ h. inl h, λ h. elim h [ inl o ↦ o | inr o ↦ absurd (false≢true (sym none ∙ led a i o.0)) ]))

-- what is added leads to nodes to which something led before
pub led_widened : (old new : List (List ℕ)) (i : ℕ) (ends : List ℕ) → ((a b : ℕ) → InTable new a b ↔ (InTable old a b ⊎ (InTable old a i × InTable old i b))) → IsLedTo old ends → IsLedTo new ends
led_widened old new i ends step led a b h = elim ((step a b).0 h) [ inl o ↦ led a b o | inr o ↦ led i b o.1 ]
