-- The nodes into which edges lead, one after another.
use Rattle.std.proofs.Common.{◌≡◌, ◌≢◌, ℕ, ◌+◌, ◌<◌, ◌||◌, ◌&&◌, ◌==◌, inl, inr, Bool, true, false, not, List, [], ◌∷◌, refl, sym, ◌∙◌, ap, ap₂, subst, arith}
use Rattle.std.specs.Prelude.{Contains, nat_lt}
use Rattle.std.proofs.lemmas.Bool.{cases_Bool, cases_eq, eq-eqb, ne_eqb, false_from_ne_true, false≢true, lt-ltb}
use Rattle.xdg_facts.proofs.Truths.{or_false}
use Rattle.xdg_facts.specs.Rises.{has}
use Rattle.xdg_problem.specs.declared.analysis.Edge.{Edge}
use Rattle.xdg_problem.specs.declared.parts.Parts.{Parts}
use Rattle.xdg_problem.specs.Boxes.{Has, edge_decision}
use Rattle.xdg_rules.specs.Rules.{may_edges, must_edges}
use Rattle.xdg_rules.proofs.DecidingBoxes.{decided_edges}
use Rattle.xdg_rules.proofs.Shrinking.{must_is}
use Rattle.xdg_pgraph.specs.declared.entered.Count.{Count}
use Rattle.xdg_pgraph.specs.declared.entered.Count.TheVariants as counts
use Rattle.xdg_pgraph.specs.declared.entered.Entered.{Entered}
use Rattle.xdg_pgraph.specs.declared.incoming.Counts.{Counts}
use Rattle.xdg_pgraph.specs.declared.incoming.Incoming.{Incoming}
use Rattle.xdg_pgraph.specs.Entering.{Enters, Tells, more_of, some_of}
use Rattle.xdg_pgraph.specs.Incomings.{AreCounts, AreOf, CountsSettle, IsCount}
use Rattle.xdg_pgraph.specs.Musts.{IsSettled}
use Rattle.xdg_pgraph.specs.Seeking.{Into, NoneOnly}
use Rattle.xdg_pgraph.proofs.Single.{not_more}
use Rattle.xdg_pgraph.proofs.Skipped.{must_may}
use Rattle.xdg_pgraph.proofs.Below.{Below}
use Rattle.xdg_pgraph.proofs.Told.{TellsAt, all_told, at_like}
use Rattle.xdg_facts.proofs.Sets.{both, still_out}

-- ---- a node more

counted_at : (edges : List Edge) (w : ℕ) (count : Count) → IsCount (Into edges w) count → TellsAt (Contains edges) w (some_of count) (more_of count)
counted_at edges w counts.Nothing none = ((λ h. absurd (false≢true h), λ s. absurd (none s.0 (s.1, s.2))), (λ h. absurd (false≢true h), λ s. absurd (none s.first s.one)))
counted_at edges w counts.One one = ((λ h. (one.0, one.1.0, one.1.1), λ s. refl), (λ h. absurd (false≢true h), λ s. absurd (s.differ (sym (one.2 s.first s.one) ∙ one.2 s.second s.two))))
counted_at edges w counts.More two = ((λ h. (two.0, two.2.0, two.2.1), λ s. refl), (λ h. record { first = two.0; one = two.2; second = two.1; two = two.3; differ = two.4 }, λ s. refl))

-- the nodes below a bound, and one more
pub count_turn : (edges : List Edge) (w : ℕ) (a c : Entered) (this : List ℕ) (count : Count) → ((n : ℕ) → has this n ≡ (n == w)) → ((n : ℕ) → has c.some n ≡ (has a.some n || (has this n && some_of count)))
    → ((n : ℕ) → has c.more n ≡ (has a.more n || (has this n && more_of count))) → Tells (Below (λ e. e.daughter.0) (Contains edges) w) a → IsCount (Into edges w) count
    → Tells (Below (λ e. e.daughter.0) (Contains edges) (w + 1)) c
count_turn edges w a c this count this_is some_is more_is below here = all_told (First (w + 1)) c (λ v. elim (cases_eq v w) [
  | inl at ↦
      let some_now : has c.some v ≡ some_of count = some_is v ∙ ap₂ (λ p q. p || (q && some_of count)) (false_from_ne_true (has a.some v) (λ h. none v at ((below.once v).0 h))) (this_is v ∙ eq-eqb v w at) in
      let more_now : has c.more v ≡ more_of count = more_is v ∙ ap₂ (λ p q. p || (q && more_of count)) (false_from_ne_true (has a.more v)
      (λ h. (let s = (below.twice v).0 h in none v at (s.first, s.one.0, s.one.1)))) (this_is v ∙ eq-eqb v w at) in
      rw (some_now, more_now) (at_like (Contains edges) (First (w + 1)) v (some_of count) (more_of count) (λ e into x. (x, omega (arith, into, at))) (λ e into x. x.0) (rw at (counted_at edges w count here)))
  | inr other ↦
      let some_now : has c.some v ≡ has a.some v = some_is v ∙ ap (λ q. has a.some v || (q && some_of count)) (this_is v ∙ ne_eqb v w other) ∙ or_false (has a.some v) in
      let more_now : has c.more v ≡ has a.more v = more_is v ∙ ap (λ q. has a.more v || (q && more_of count)) (this_is v ∙ ne_eqb v w other) ∙ or_false (has a.more v) in
      rw (some_now, more_now) (at_like (First w) (First (w + 1)) v (has a.some v) (has a.more v) (λ e into x. (x.0, (let l = x.1 in omega (arith, l))))
      (λ e into x. (x.0, (let l = x.1 in omega (arith, l, into, other)))) (below.once v, below.twice v))
])
  where
    First : ℕ → Edge → Type 0
    First k e = Contains edges e × (e.daughter.0 < k)

    none : (v : ℕ) → v ≡ w → Enters (First w) v → ⊥
    none v at s = (let l = s.1.1 in let into = s.2 in omega (arith, l, into, at))

-- ---- the only edge that may lead into a node

module _ (parts : Parts) (box : List (List Bool)) (dim w : ℕ) where
  must_there : Enters (Contains (must_edges parts box dim)) w → NoneOnly parts box dim w
  must_there s d v x h = elim (decided_edges x.place s.0) [
    | inl same ↦ false≢true (sym (must_is parts box dim x.place (subst (Contains (must_edges parts box dim)) (sym same) s.1)).not_absent ∙ subst (λ k. Has box (edge_decision parts x.place) k) x.says.1 (subst (λ k. Has box k v) x.says.0 h))
    | inr differ ↦ not_more parts box dim w (x.place, s.0, (x.among, x.into), (must_may parts box dim s.0 s.1, s.2), differ) x.one
  ]

  -- into a node that isn't among those with one edge alone
  pub not_single : (incoming : Incoming) (single : List ℕ) → AreOf parts box dim incoming → ((n : ℕ) → has single n ≡ (has incoming.may.some n && not (has incoming.may.more n || has incoming.must.some n))) → has single w ≡ false → NoneOnly parts box dim w
  not_single incoming single are is none d v x h = elim (cases_Bool (has incoming.may.more w)) [
    | inl more ↦ (let two = (are.may.twice w).0 more in not_more parts box dim w (two.first, two.second, two.one, two.two, two.differ) x.one)
    | inr one ↦ elim (cases_Bool (has incoming.must.some w)) [
      | inl must ↦ must_there ((are.must.once w).0 must) d v x h
      | inr free ↦ false≢true (sym none ∙ is w ∙ (both (has incoming.may.some w) (not (has incoming.may.more w || has incoming.must.some w))).1 ((are.may.once w).1 (x.place, x.among, x.into), rw (one, free) refl))
    ]
  ]

  must_settled : (count : Count) → (count ≢ counts.Nothing) → IsCount (Into (must_edges parts box dim) w) count → IsSettled parts box dim w
  must_settled counts.Nothing some is = absurd (some refl)
  must_settled counts.One some is = record { entered = (is.0, must_may parts box dim is.0 is.1.0, is.1.1); none = must_there (is.0, is.1.0, is.1.1) }
  must_settled counts.More some is = record { entered = (is.0, must_may parts box dim is.0 is.2.0, is.2.1); none = must_there (is.0, is.2.0, is.2.1) }

  pub counts_settle : (here : Counts) → AreCounts parts box dim w here → CountsSettle here → IsSettled parts box dim w
  counts_settle here are settle = elim settle [
    | inl more ↦ (let two = subst (IsCount (Into (may_edges parts box dim) w)) more are.may in record { entered = (two.0, two.2.0, two.2.1); none = λ d v x h. not_more parts box dim w two x.one })
    | inr (one, must) ↦ must_settled here.must must are.must
  ]

-- ---- over the nodes of a set

-- those of the first that are no more to come are settled
abbrev pub AreSettled : Parts → List (List Bool) → ℕ → List ℕ → List ℕ → Type 0
AreSettled parts box dim first left = (v : ℕ) → has first v ≡ true → has left v ≡ false → IsSettled parts box dim v

pub settled_start : (parts : Parts) (box : List (List Bool)) (dim : ℕ) (first : List ℕ) → AreSettled parts box dim first first
settled_start parts box dim first v there out = absurd (false≢true (sym out ∙ there))

pub settled_next : (parts : Parts) (box : List (List Bool)) (dim w : ℕ) (first left rest : List ℕ) → left ≡ w ∷ rest → IsSettled parts box dim w → AreSettled parts box dim first left → AreSettled parts box dim first rest
settled_next parts box dim w first left rest is here before v there out = elim (still_out left rest w is v out) [
  | inl left_out ↦ before v there left_out
  | inr same ↦ subst (IsSettled parts box dim) (sym same) here
]

pub all_settled : (parts : Parts) (box : List (List Bool)) (dim n : ℕ) (some all here first left : List ℕ) → ((k : ℕ) → has all k ≡ nat_lt k n) → ((k : ℕ) → has here k ≡ (has some k && has all k)) → first ≡ here → left ≡ [] → AreSettled parts box dim first left → (v : ℕ) → v < n → has some v ≡ true → IsSettled parts box dim v
all_settled parts box dim n some all here first left whole met first_is none settled v l there = settled v (ap (λ s. has s v) first_is ∙ met v ∙ (both (has some v) (has all v)).1 (there, whole v ∙ lt-ltb v n l)) (ap (λ s. has s v) none)
