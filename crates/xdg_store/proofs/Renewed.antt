-- Edges by their daughters.
use Rattle.std.proofs.Common.{◌≡◌, ◌≢◌, ◌⊎◌, ℕ, ◌<◌, ◌+◌, ◌*◌, ◌/◌, ◌%◌, inl, inr, Bool, not, List, [], ◌∷◌, ◌++◌, length, get_or, take, refl, ap, sym, ◌∙◌, arith, subst}
use Rattle.std.specs.Prelude.{◌&&◌, ◌==◌, Contains, nat_lt}
use Rattle.std.proofs.lemmas.Bool.{and_from, and_parts, cases_eq, eqb-false, lt-ltb, ltb-true, ne_eqb, not-true}
use Rattle.std.proofs.lemmas.Nat.{mod-mul-add}
use Rattle.std.proofs.lemmas.List.{take_more}
use Rattle.std.proofs.lemmas.List.Elements.{Contains-push_cases}
use Rattle.xdg_facts.specs.Rises.{has}
use Rattle.xdg_problem.specs.declared.analysis.Edge.{Edge}
use Rattle.xdg_problem.proofs.Edges.{edge_equal}
use Rattle.xdg_store.specs.Across.{Fits, FitsIn, IsFull, IsKept, OnlyOthers, Renews, RenewsAll, RenewsOf, Sets, daughter_at, edge_at, in_may, in_must, mothers_at}
use Rattle.xdg_store.specs.declared.across.Mothers.{Mothers}
use Rattle.xdg_store.specs.declared.decision.Decision.{Decision}
use Rattle.xdg_store.specs.declared.decision.Decision.TheVariants as decisions
use Rattle.xdg_facts.proofs.Numbers.{row_and_column}

-- ---- edges that stand at one place

-- the daughter whose mothers stand there
pub daughter_is : (n dim daughter label : ℕ) → daughter < n → label < 32 → daughter_at n (mothers_at n dim daughter label) ≡ daughter
daughter_is n dim daughter label l m =
    let row : mothers_at n dim daughter label / 32 ≡ dim * n + daughter = omega (arith, m) in
    ap (λ i. i % n) row ∙ mod-mul-add dim n daughter l

pub same_cell : (n rows : ℕ) (e f : Edge) → Fits n rows e → Fits n rows f → edge_at n e ≡ edge_at n f → e.mother.0 ≡ f.mother.0 → e ≡ f
same_cell n rows e f p q at mother =
    let row = row_and_column (e.dim.0 * n + e.daughter.0) e.label.0 (f.dim.0 * n + f.daughter.0) f.label.0 32 p.label q.label at in
    let block = row_and_column e.dim.0 e.daughter.0 f.dim.0 f.daughter.0 n p.daughter q.daughter row.0 in
    edge_equal e f block.0 mother row.1 block.1

-- ---- an edge that is made anew

-- what is kept of another edge stays
pub kept_beside : (n : ℕ) (words : List ℕ) (e f : Edge) (possible certain : Bool) (old new : List Mothers) → Fits n (length old) e → Fits n (length old) f → Renews n f possible certain old new → IsKept n words new f → (e ≢ f → IsKept n words old e) → IsKept n words new e
kept_beside n words e f possible certain old new p q renews here kept = elim (cases_eq (edge_at n e) (edge_at n f)) [
  | inl at ↦ elim (cases_eq e.mother.0 f.mother.0) [
    | inl mother ↦ subst (IsKept n words new) (sym (same_cell n (length old) e f p q at mother)) here
    | inr other ↦ moved (inr other) (λ s. other (ap (λ (g : Edge). g.mother.0) s))
  ]
  | inr other ↦ moved (inl other) (λ s. other (ap (edge_at n) s))
]
  where
    moved : (edge_at n e ≢ edge_at n f) ⊎ (e.mother.0 ≢ f.mother.0) → e ≢ f → IsKept n words new e
    moved w differ = let k = kept differ in record { may = renews.may.others (edge_at n e) e.mother.0 w ∙ k.may; must = renews.must.others (edge_at n e) e.mother.0 w ∙ k.must }

-- its mother is another node
pub others_stay : (has_mother : List Mothers → ℕ → ℕ → Bool) (n : ℕ) (e : Edge) (wanted : Bool) (old new : List Mothers) → Sets has_mother n e wanted old new → e.mother.0 < n → e.mother.0 ≢ daughter_at n (edge_at n e) → OnlyOthers has_mother n old → OnlyOthers has_mother n new
others_stay has_mother n e wanted old new sets l differ only place mother h = elim (cases_eq place (edge_at n e)) [
  | inl at ↦ elim (cases_eq mother e.mother.0) [
    | inl this ↦ (omega (arith, this, l), λ s. differ (sym this ∙ s ∙ ap (daughter_at n) at))
    | inr other ↦ only place mother (sym (sets.others place mother (inr other)) ∙ h)
  ]
  | inr other ↦ only place mother (sym (sets.others place mother (inl other)) ∙ h)
]

-- one side behind the other
pub renews_both : (n : ℕ) (e : Edge) (possible certain possible' certain' : Bool) (old mid new : List Mothers) → possible ≡ possible' → certain ≡ certain' → Renews n e possible (in_must old (edge_at n e) e.mother.0) old mid → Renews n e (in_may mid (edge_at n e) e.mother.0) certain mid new → Renews n e possible' certain' old new
renews_both n e possible certain possible' certain' old mid new a b first second = record {
  count = second.count ∙ first.count;
  may = record { here = second.may.here ∙ first.may.here ∙ a; others = λ place mother w. second.may.others place mother w ∙ first.may.others place mother w };
  must = record { here = second.must.here ∙ b; others = λ place mother w. second.must.others place mother w ∙ first.must.others place mother w };
}

-- ---- the edges of some decisions

pub renews_none : (n : ℕ) (words : List ℕ) (rows : List Mothers) → RenewsAll n words [] rows rows
renews_none n words rows = record {
  count = refl;
  each = λ e fits w. elim w [
    | inl kept ↦ kept
    | inr (k, l, is) ↦ absurd (omega (arith, l))
  ];
}

module _ (n : ℕ) (words : List ℕ) (done : List Decision) (old mid new : List Mothers) (so_far : RenewsAll n words done old mid) where
  -- with one more
  module _ (decision : Decision) where
    -- an edge is kept by then, unless the decision is the one on it
    kept_then : (e : Edge) → Fits n (length old) e → IsKept n words old e ⊎ Contains (done ++ decision ∷ []) (decisions.Place e) → IsKept n words mid e ⊎ (decision ≡ decisions.Place e)
    kept_then e fits (inl kept) = inl (so_far.each e fits (inl kept))
    kept_then e fits (inr among) = elim (Contains-push_cases done decision (decisions.Place e) among) [
      | inl before ↦ inl (so_far.each e fits (inr before))
      | inr is ↦ inr is
    ]

    rows_stay : ((e : Edge) → decision ≡ decisions.Place e → ⊥) → new ≡ mid → RenewsAll n words (done ++ decision ∷ []) old new
    rows_stay none same = subst (RenewsAll n words (done ++ decision ∷ []) old) (sym same) (record {
      count = so_far.count;
      each = λ e fits w. elim (kept_then e fits w) [
        | inl kept ↦ kept
        | inr is ↦ absurd (none e is)
      ];
    })

  renews_more : (decision : Decision) → FitsIn n (length old) (length words) decision → RenewsOf n words decision mid new → RenewsAll n words (done ++ decision ∷ []) old new
  renews_more (decisions.Entry node) fits same = rows_stay (decisions.Entry node) (λ e q. cc) same
  renews_more (decisions.Attr dim node attr) fits same = rows_stay (decisions.Attr dim node attr) (λ e q. cc) same
  renews_more (decisions.Place f) fits renews =
      let there : (e : Edge) → Fits n (length old) e → Fits n (length mid) e = λ e p. subst (λ rows. Fits n rows e) (sym so_far.count) p in
      record {
        count = renews.count ∙ so_far.count;
        each = λ e p w. kept_beside n words e f _ _ mid new (there e p) (there f fits.0) renews (record { may = renews.may.here; must = renews.must.here }) (λ differ. elim (kept_then (decisions.Place f) e p w) [
          | inl kept ↦ kept
          | inr is ↦ absurd (let same : e ≡ f = cc in differ same)
        ]);
      }

pub renews_turn : (n : ℕ) (words : List ℕ) (changed : List Decision) (old mid new : List Mothers) (i : ℕ) → RenewsAll n words (take i changed) old mid → (decision default : Decision) → i < length changed → get_or changed i default ≡ decision
    → FitsIn n (length old) (length words) decision → RenewsOf n words decision mid new → RenewsAll n words (take (i + 1) changed) old new
renews_turn n words changed old mid new i so_far decision default l is fits renews =
    subst (λ ds. RenewsAll n words ds old new) (sym (take_more changed i default l ∙ ap (λ d. take i changed ++ d ∷ []) is)) (renews_more n words (take i changed) old mid new so_far decision fits renews)

-- ---- the start

-- all nodes but the daughter
pub row_full : (n daughter : ℕ) (all may must : List ℕ) → ((k : ℕ) → has all k ≡ nat_lt k n) → ((k : ℕ) → has may k ≡ (not (k == daughter) && has all k)) → must ≡ [] → IsFull n daughter (record { may = may; must = must })
row_full n daughter all may must whole taken none = record {
  may = λ k. (
    λ h. (let q = and_parts (not (k == daughter)) (has all k) (sym (taken k) ∙ h) in (ltb-true k n (sym (whole k) ∙ q.1), eqb-false k daughter (not-true (k == daughter) q.0))),
    λ (l, other). taken k ∙ and_from (not (k == daughter)) (has all k) (ap not (ne_eqb k daughter other)) (whole k ∙ lt-ltb k n l),
  );
  must = none;
}

-- ---- one item of a list more
