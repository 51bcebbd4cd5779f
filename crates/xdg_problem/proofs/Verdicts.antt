-- A principle use has one verdict: its relation holds, or one condition and one tuple are the first that break it.
use Rattle.std.proofs.Common.{◌≡◌, ℕ, ◌<◌, ◌⊎◌, inl, inr, List, [], ◌∷◌, length, refl, sym, ap, ◌∙◌, subst, arith, map}
use Rattle.std.specs.Prelude.{slice_index_or}
use Rattle.std.proofs.lemmas.Bool.{cases_order}
use Rattle.std.proofs.lemmas.List.{get_or_default}
use Rattle.xdg_facts.specs.Order.{AtMost}
use Rattle.xdg_facts.proofs.Ordered.{at_most_of, not_less, at_most_cons}
use Rattle.xdg_problem.specs.declared.analysis.Analysis.{Analysis}
use Rattle.xdg_problem.specs.declared.analysis.Edge.{Edge}
use Rattle.xdg_problem.specs.declared.conditions.Condition.{Condition}
use Rattle.xdg_problem.specs.declared.conditions.Condition.TheVariants as conditions
use Rattle.xdg_problem.specs.declared.parts.Group.{Group}
use Rattle.xdg_problem.specs.declared.parts.Parts.{Parts}
use Rattle.xdg_problem.specs.Vectors.{entry_places}
use Rattle.xdg_problem.specs.Conditions.{conditions_of, AreBelow, root_count, items_of, item_count, IsTuple}
use Rattle.xdg_problem.specs.Asking.{Asks}
use Rattle.xdg_problem.specs.Relations.{IsKept, Relation, Breaks, IsFirstBroken}
use Rattle.xdg_facts.proofs.Decided.{Decided, first_below, decided_not}
use Rattle.xdg_problem.proofs.DecidingAsks.{decided_asked}

-- the least tuple of a range for which P holds
abbrev Least : List ℕ → (List ℕ → Type 0) → Type 0
Least sizes P = (tuple : List ℕ) × AreBelow sizes tuple × P tuple × ((other : List ℕ) → AreBelow sizes other → P other → AtMost tuple other)

nothing_more : (P : List ℕ → Type 0) (tuple : List ℕ) → AreBelow [] tuple → P tuple → P []
nothing_more P [] is p = p
nothing_more P (u ∷ tuple) is p = absurd is

least_from : (s : ℕ) (sizes : List ℕ) (P : List ℕ → Type 0) → ((u : ℕ) → ((tuple : List ℕ) → AreBelow sizes tuple → P (u ∷ tuple) → ⊥) ⊎ Least sizes (λ tuple. P (u ∷ tuple))) → (found : (u : ℕ) × (u < s) × Least sizes (λ tuple. P (u ∷ tuple)) × ((w : ℕ) → w < u → Least sizes (λ tuple. P (w ∷ tuple)) → ⊥)) → (other : List ℕ) → AreBelow (s ∷ sizes) other → P other → AtMost (found.0 ∷ found.2.0) other
least_from s sizes P each found [] is p = absurd is
least_from s sizes P each found (w ∷ rest) is p = elim (cases_order w found.0) [
  | inl same ↦ subst (λ v. AtMost (found.0 ∷ found.2.0) (v ∷ rest)) (sym same) (at_most_cons found.0 found.0 found.2.0 rest refl (found.2.3 rest is.1 (subst (λ v. P (v ∷ rest)) same p)))
  | inr (inl less) ↦ absurd (elim (each w) [ inl none ↦ none rest is.1 p | inr least ↦ found.3 w less least ])
  | inr (inr more) ↦ inr (inl more)
]

none_from : (s : ℕ) (sizes : List ℕ) (P : List ℕ → Type 0) → ((u : ℕ) → ((tuple : List ℕ) → AreBelow sizes tuple → P (u ∷ tuple) → ⊥) ⊎ Least sizes (λ tuple. P (u ∷ tuple))) → ((u : ℕ) → u < s → Least sizes (λ tuple. P (u ∷ tuple)) → ⊥) → (tuple : List ℕ) → AreBelow (s ∷ sizes) tuple → P tuple → ⊥
none_from s sizes P each none [] is p = absurd is
none_from s sizes P each none (u ∷ rest) is p = elim (each u) [ inl empty ↦ empty rest is.1 p | inr least ↦ none u is.0 least ]

least_tuple : (sizes : List ℕ) (P : List ℕ → Type 0) → ((tuple : List ℕ) → Decided (P tuple)) → ((tuple : List ℕ) → AreBelow sizes tuple → P tuple → ⊥) ⊎ Least sizes P
least_tuple [] P each = elim (each []) [
  | inl here ↦ inr ([], tt, here, λ other is p. at_most_of [] other (λ l. l))
  | inr fails ↦ inl (λ tuple is p. fails (nothing_more P tuple is p))
]
least_tuple (s ∷ sizes) P each =
    let Q : ℕ → Type 0 = λ u. Least sizes (λ tuple. P (u ∷ tuple)) in
    let inner : (u : ℕ) → ((tuple : List ℕ) → AreBelow sizes tuple → P (u ∷ tuple) → ⊥) ⊎ Q u = λ u. least_tuple sizes (λ tuple. P (u ∷ tuple)) (λ tuple. each (u ∷ tuple)) in
    elim (first_below Q (λ u. elim (inner u) [ inl none ↦ inr (λ least. none least.0 least.1 least.2) | inr least ↦ inl least ]) s) [
      | inl none ↦ inl (none_from s sizes P inner none)
      | inr found ↦ inr (found.0 ∷ found.2.0, (found.1, found.2.1), found.2.2, least_from s sizes P inner found)
    ]

module _ (parts : Parts) (group : Group) (candidates attrs : List ℕ) (edges : List Edge) where
  abbrev Here : Condition → List ℕ → Type 0
  Here condition tuple = Asks condition parts group candidates attrs edges tuple

  decided_here : (condition : Condition) (tuple : List ℕ) → Decided (Here condition tuple)
  decided_here condition tuple = decided_asked condition parts group candidates attrs edges tuple

  -- the least tuple that breaks a condition
  abbrev LeastBroken : Condition → Type 0
  LeastBroken condition = (tuple : List ℕ) × IsTuple condition parts group edges tuple × (Here condition tuple → ⊥) × ((other : List ℕ) → IsTuple condition parts group edges other → (Here condition other → ⊥) → AtMost tuple other)

  kept_of : (condition : Condition) → ((tuple : List ℕ) → IsTuple condition parts group edges tuple → (Here condition tuple → ⊥) → ⊥) → IsKept parts group candidates attrs edges condition
  kept_of condition none tuple is = elim (decided_here condition tuple) [ inl asks ↦ asks | inr fails ↦ absurd (none tuple is fails) ]

  -- a condition of one tuple
  only_one : (condition : Condition) (only : List ℕ) → ((tuple : List ℕ) → tuple ≡ only → (Here condition tuple → ⊥) → ⊥)
      ⊎ ((tuple : List ℕ) × (tuple ≡ only) × (Here condition tuple → ⊥) × ((other : List ℕ) → other ≡ only → (Here condition other → ⊥) → AtMost tuple other))
  only_one condition only = elim (decided_here condition only) [
    | inl asks ↦ inl (λ tuple is fails. fails (subst (Here condition) (sym is) asks))
    | inr fails ↦ inr (only, refl, fails, λ other is q. inl (sym is))
  ]

  none_or_least : (condition : Condition) → ((tuple : List ℕ) → IsTuple condition parts group edges tuple → (Here condition tuple → ⊥) → ⊥) ⊎ LeastBroken condition
  none_or_least conditions.Roots = only_one conditions.Roots (root_count parts group edges ∷ [])
  none_or_least conditions.Rule = only_one conditions.Rule []
  none_or_least conditions.Bound = only_one conditions.Bound []
  none_or_least condition = least_tuple (map (item_count parts group) (items_of condition)) (λ tuple. Here condition tuple → ⊥) (λ tuple. decided_not (Here condition tuple) (decided_here condition tuple))

  decided_broken : (condition : Condition) → Decided (LeastBroken condition)
  decided_broken condition = elim (none_or_least condition) [ inl none ↦ inr (λ least. none least.0 least.1 least.2) | inr least ↦ inl least ]

  kept_or_broken : (condition : Condition) → (LeastBroken condition → ⊥) → IsKept parts group candidates attrs edges condition
  kept_or_broken condition whole = elim (none_or_least condition) [ inl none ↦ kept_of condition none | inr least ↦ absurd (whole least) ]

module _ (parts : Parts) (group : Group) (analysis : Analysis) where
  abbrev Kept : Condition → Type 0
  Kept condition = IsKept parts group (entry_places parts.candidates analysis.entries) analysis.attrs analysis.edges condition

  abbrev at : ℕ → Condition
  at place = slice_index_or (conditions_of group) place conditions.Cycle

  same_at : (place : ℕ) (other : Condition) → place < length (conditions_of group) → slice_index_or (conditions_of group) place other ≡ at place
  same_at place other within = get_or_default (conditions_of group) place other conditions.Cycle within

  -- there is a verdict
  pub some_verdict : Relation parts group analysis ⊎ ((condition : Condition) × (tuple : List ℕ) × IsFirstBroken parts group analysis condition tuple)
  some_verdict = elim (first_below _ (λ place. decided_broken parts group (entry_places parts.candidates analysis.entries) analysis.attrs analysis.edges (at place)) (length (conditions_of group))) [
    | inl none ↦ inl (λ place other within. subst Kept (sym (same_at place other within)) (kept_or_broken parts group (entry_places parts.candidates analysis.entries) analysis.attrs analysis.edges (at place) (none place within)))
    | inr found ↦ inr (
      at found.0,
      found.2.0,
      record {
        place = found.0;
        within = found.1;
        is = same_at found.0 (at found.0) found.1;
        before = λ earlier less. (let within : found.0 < length (conditions_of group) = found.1 in subst Kept (sym (same_at earlier (at found.0) (omega (arith, less, within)))) (kept_or_broken parts group (entry_places parts.candidates analysis.entries) analysis.attrs analysis.edges (at earlier) (found.3 earlier less)));
        breaks = record { within = found.2.1; fails = found.2.2 };
        least = λ other breaks. found.2.3 other breaks.within breaks.fails;
      },
    )
  ]

  -- where a tuple breaks a condition the relation doesn't hold
  pub broken_fails : (condition : Condition) (tuple : List ℕ) → IsFirstBroken parts group analysis condition tuple → Relation parts group analysis → ⊥
  broken_fails condition tuple broken relation = broken.breaks.fails (subst Kept broken.is (relation broken.place condition broken.within) tuple broken.breaks.within)

  earlier_fails : (c d : Condition) (x y : List ℕ) (one : IsFirstBroken parts group analysis c x) (two : IsFirstBroken parts group analysis d y) → one.place < two.place → ⊥
  earlier_fails c d x y one two less = one.breaks.fails (subst Kept (get_or_default (conditions_of group) one.place d c one.within ∙ one.is) (two.before one.place less) x one.breaks.within)

  tuples_same : (x y : List ℕ) → AtMost x y → AtMost y x → x ≡ y
  tuples_same x y (inl e) other = e
  tuples_same x y (inr less) other = absurd (not_less y x other less)

  same_tuple : (c d : Condition) (x y : List ℕ) → c ≡ d → IsFirstBroken parts group analysis c x → IsFirstBroken parts group analysis d y → x ≡ y
  same_tuple c d x y same one two = tuples_same x y (one.least y (subst (λ z. Breaks parts group analysis z y) (sym same) two.breaks)) (two.least x (subst (λ z. Breaks parts group analysis z x) same one.breaks))

  -- and no other
  pub one_verdict : (c d : Condition) (x y : List ℕ) → IsFirstBroken parts group analysis c x → IsFirstBroken parts group analysis d y → (c ≡ d) × (x ≡ y)
  one_verdict c d x y one two = elim (cases_order one.place two.place) [
    | inl same ↦ (let conditions_same : c ≡ d = sym one.is ∙ (get_or_default (conditions_of group) one.place c d one.within ∙ (ap (λ k. slice_index_or (conditions_of group) k d) same ∙ two.is)) in (conditions_same, same_tuple c d x y conditions_same one two))
    | inr (inl less) ↦ absurd (earlier_fails c d x y one two less)
    | inr (inr more) ↦ absurd (earlier_fails d c y x two one more)
  ]
