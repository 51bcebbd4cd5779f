-- What a store keeps of the labels of edges into daughters, over its calls.
use Rattle.std.proofs.Common.{◌≡◌, ◌≢◌, ◌⊎◌, ℕ, ◌<◌, ◌≤◌, ◌+◌, ◌*◌, ◌/◌, ◌↔◌, inl, inr, Bool, true, false, List, length, get_or, set, drop, take, replicate, refl, ap, ap₂, sym, ◌∙◌, arith, subst}
use Rattle.std.specs.Prelude.{IsTrue, slice_get}
use Rattle.std.specs.Int.{bit_at}
use Rattle.std.proofs.lemmas.Bool.{cases_eq, cases_lt, false≢true}
use Rattle.std.proofs.lemmas.List.{get_or_default, get_or-drop, get_or-take, get_or_past, length-drop, length-replicate, length-take-le}
use Rattle.std.proofs.lemmas.Nat.{div_below, div-mul-add, row_fits}
use Rattle.std.proofs.lemmas.Option.{slice_get-get_or}
use Rattle.xdg_problem.specs.declared.analysis.Edge.{Edge}
use Rattle.xdg_problem.specs.declared.parts.DimPlan.{DimPlan}
use Rattle.xdg_problem.specs.declared.parts.Parts.{Parts}
use Rattle.xdg_problem.specs.Analyses.{IsPlace}
use Rattle.xdg_problem.specs.Arguments.{no_plan}
use Rattle.xdg_problem.specs.Boxes.{May, Must}
use Rattle.xdg_problem.specs.Places.{edge, nodes}
use Rattle.xdg_problem.specs.Problems.{IsProblem}
use Rattle.xdg_store.specs.Across.{AreFull, AreKept, Fits, IsFull, OnlyOthers, Renews, Sets, daughter_at, edge_at, in_may, in_must, mothers_at, no_mothers, row_count}
use Rattle.xdg_store.specs.InRange.{HasEdges}
use Rattle.xdg_store.specs.Labels.{AreFirst, AreLabels, AreLabelsOf, AreTold, InRows, IsLabelled, LeadsInto, Relabels, RenewsSide, SaysAgain, StaysTold, at_place, labels_at, no_labels}
use Rattle.xdg_store.specs.Layout.{bits_of, box_in}
use Rattle.xdg_facts.specs.Rises.{has}
use Rattle.xdg_store.specs.States.{State, Keeps}
use Rattle.xdg_trail.specs.Trailed.{Trailed}
use Rattle.xdg_store.specs.declared.across.Mothers.{Mothers}
use Rattle.xdg_store.proofs.Histories.{seen}
use Rattle.xdg_store.specs.declared.labels.Labels.{Labels}
use Rattle.xdg_store.specs.declared.labels.LabelsInto.{LabelsInto}
use Rattle.xdg_store.proofs.Apart.{few_labels}
use Rattle.xdg_store.proofs.Kept.{full_at, may_says, must_says, place_has}
use Rattle.xdg_store.proofs.Labelled.{labelled_like, relabels_row, renews_row, side_stays, was_row}
use Rattle.xdg_store.proofs.Renewed.{daughter_is, others_stay}
use Rattle.xdg_facts.proofs.Lists.{one_set}
use Rattle.xdg_facts.proofs.Numbers.{row_and_column, some_after}
use Rattle.xdg_facts.proofs.Bits.{no_bit}

-- ---- after an edge was made anew

module _ (parts : Parts) (p : IsProblem parts) (e : Edge) (is : IsPlace parts e) (rows rows' : List Mothers) (into into' : List LabelsInto) (others : (place : ℕ) → place ≢ labels_at (nodes parts) e.dim.0 e.daughter.0 → at_place into' place ≡ at_place into place) where
  abbrev n : ℕ
  n = nodes parts

  abbrev at : ℕ
  at = labels_at n e.dim.0 e.daughter.0

  -- for the edges that may be present, and for those that must be
  module _ (has_mother : List Mothers → ℕ → ℕ → Bool) (side : LabelsInto → Labels) (wanted : Bool) (sets : Sets has_mother n e wanted rows rows') (only : OnlyOthers has_mother n rows') (says : SaysAgain has_mother n e rows rows' (side (at_place into at)) (side (at_place into' at))) (dim daughter label : ℕ) (within : daughter < n) where
    abbrev Before : ℕ → Type 0
    Before = LeadsInto parts (InRows has_mother n rows) dim daughter label

    abbrev After : ℕ → Type 0
    After = LeadsInto parts (InRows has_mother n rows') dim daughter label

    -- in the row of the edge
    abbrev Here : ℕ → Type 0
    Here m = IsTrue (has_mother rows' (edge_at n e) m)

    -- another row
    elsewhere : (labels_at n dim daughter ≢ at) ⊎ (label ≢ e.label.0) → (m : ℕ) → Before m ↔ After m
    elsewhere w m = (λ x. (x.0, same x.0 ∙ x.1), λ x. (x.0, sym (same x.0) ∙ x.1))
      where
        apart : label < 32 → mothers_at n dim daughter label ≢ edge_at n e
        apart l q =
            let r = row_and_column (labels_at n dim daughter) label at e.label.0 32 l (few_labels parts e p is) q in
            elim w [ inl other ↦ other r.0 | inr other ↦ other r.1 ]

        same : IsPlace parts (edge dim m label daughter) → has_mother rows' (mothers_at n dim daughter label) m ≡ has_mother rows (mothers_at n dim daughter label) m
        same place = sets.others (mothers_at n dim daughter label) m (inl (apart (few_labels parts (edge dim m label daughter) p place)))

    -- the row of the edge
    module _ (same_at : labels_at n dim daughter ≡ at) (same_label : label ≡ e.label.0) where
      same_block : (dim ≡ e.dim.0) × (daughter ≡ e.daughter.0)
      same_block = row_and_column dim daughter e.dim.0 e.daughter.0 n within is.daughter same_at

      same_place : mothers_at n dim daughter label ≡ edge_at n e
      same_place = ap₂ (λ i l. i * 32 + l) same_at same_label

      its_mothers : (m : ℕ) → Here m ↔ After m
      its_mothers m = (
        λ h. (let other = only (edge_at n e) m h in (
          record {
            plan = is.plan;
            plan_is = ap (slice_get parts.dims) same_block.0 ∙ is.plan_is;
            graph = is.graph;
            label = subst (λ i. i < length is.plan.labels) (sym same_label) is.label;
            mother = other.0;
            daughter = within;
            differ = λ s. other.1 (s ∙ same_block.1 ∙ sym (daughter_is n e.dim.0 e.daughter.0 e.label.0 is.daughter (few_labels parts e p is)));
          },
          ap (λ i. has_mother rows' i m) same_place ∙ h,
        )),
        λ x. ap (λ i. has_mother rows' i m) (sym same_place) ∙ x.1,
      )

    -- the row of the edge stays
    rows_stay : ((m : ℕ) → has_mother rows' (edge_at n e) m ≡ has_mother rows (edge_at n e) m) → (m : ℕ) → has_mother rows' (mothers_at n dim daughter label) m ≡ has_mother rows (mothers_at n dim daughter label) m
    rows_stay stay m = elim (cases_eq (mothers_at n dim daughter label) (edge_at n e)) [
      | inl here ↦ ap (λ i. has_mother rows' i m) here ∙ stay m ∙ ap (λ i. has_mother rows i m) (sym here)
      | inr other ↦ sets.others (mothers_at n dim daughter label) m (inl other)
    ]

    -- at the place of the edge
    told_here : labels_at n dim daughter ≡ at → IsLabelled Before (side (at_place into at)) label → IsLabelled After (side (at_place into' at)) label
    told_here same before = elim says [
      | inl (stay, labels) ↦ labelled_like Before After _ _ label label (ap (λ (z : Labels). bit_at z.some label) labels) (ap (λ (z : Labels). bit_at z.more label) labels)
          (λ m. (λ x. (x.0, rows_stay stay m ∙ x.1), λ x. (x.0, sym (rows_stay stay m) ∙ x.1))) before
      | inr marks ↦ elim (cases_eq label e.label.0) [
        | inl this ↦ labelled_like Here After _ _ e.label.0 label (ap (bit_at (side (at_place into' at)).some) this) (ap (bit_at (side (at_place into' at)).more) this) (its_mothers same this) marks.here
        | inr other ↦ labelled_like Before After _ _ label label (marks.some_others label other) (marks.more_others label other) (elsewhere (inr other)) before
      ]
    ]

    pub label_told : IsLabelled Before (side (at_place into (labels_at n dim daughter))) label → IsLabelled After (side (at_place into' (labels_at n dim daughter))) label
    label_told before = elim (cases_eq (labels_at n dim daughter) at) [
      | inl same ↦ subst (λ i. IsLabelled After (side (at_place into' i)) label) (sym same) (told_here same (subst (λ i. IsLabelled Before (side (at_place into i)) label) same before))
      | inr other ↦ labelled_like Before After _ _ label label (ap (λ (z : LabelsInto). bit_at (side z).some label) (others (labels_at n dim daughter) other))
          (ap (λ (z : LabelsInto). bit_at (side z).more label) (others (labels_at n dim daughter) other)) (elsewhere (inl other)) before
    ]

stays_told : (n : ℕ) (e : Edge) (possible certain : Bool) (rows rows' : List Mothers) (into into' : List LabelsInto) → Renews n e possible certain rows rows' → Relabels n e rows rows' into into' → StaysTold n (λ parts. IsPlace parts e) rows into rows' into'
stays_told n e possible certain rows rows' into into' renews relabels parts p same is told = after (subst (λ k. Renews k e possible certain rows rows') (sym same) renews) (subst (λ k. Relabels k e rows rows' into into') (sym same) relabels)
  where
    differ : e.mother.0 ≢ daughter_at (nodes parts) (edge_at (nodes parts) e)
    differ s = is.differ (s ∙ daughter_is (nodes parts) e.dim.0 e.daughter.0 e.label.0 is.daughter (few_labels parts e p is))

    after : Renews (nodes parts) e possible certain rows rows' → Relabels (nodes parts) e rows rows' into into' → AreTold parts rows' into'
    after r l =
        let may_only = others_stay in_may (nodes parts) e possible rows rows' r.may is.mother differ told.may_others in
        let must_only = others_stay in_must (nodes parts) e certain rows rows' r.must is.mother differ told.must_others in
        record {
          wide = (let a = told.wide in let b = r.count in let c = l.count in omega (arith, a, b, c));
          may_others = may_only;
          must_others = must_only;
          may = λ dim daughter d within label. label_told parts p e is rows rows' into into' l.others in_may (λ z. z.may) possible r.may may_only l.may dim daughter label within (told.may dim daughter d within label);
          must = λ dim daughter d within label. label_told parts p e is rows rows' into into' l.others in_must (λ z. z.must) certain r.must must_only l.must dim daughter label within (told.must dim daughter d within label);
        }

-- one side alone
module _ (n : ℕ) (e : Edge) (rows : List Mothers) (into : List LabelsInto) (row : Mothers) (labels : LabelsInto) (place : ℕ) (fits : Fits n (length rows) e) (wide : length rows ≤ length into * 32) (place_is : place ≡ edge_at n e) (row_is : row ≡ get_or rows place row) (labels_is : labels ≡ get_or into (place / 32) labels) where
  within : place < length rows
  within = let l = fits.row_in in omega (arith, place_is, l)

  there : place / 32 < length into
  there = let l = within in omega (arith, l, wide)

  at_is : place / 32 ≡ labels_at n e.dim.0 e.daughter.0
  at_is = let l = fits.label in omega (arith, place_is, l)

  module _ (row' : Mothers) (labels' : LabelsInto) (possible certain : Bool) (may : RenewsSide e possible row.may row'.may labels.may labels'.may) (must : RenewsSide e certain row.must row'.must labels.must labels'.must) where
    renewed : Renews n e possible certain rows (set rows place row') × StaysTold n (λ parts. IsPlace parts e) rows into (set rows place row') (set into (place / 32) labels')
    renewed =
        let renews = renews_row n e rows row row' place place_is within row_is into labels labels' (place / 32) at_is there labels_is possible certain may must in
        (renews, stays_told n e possible certain rows _ into _ renews (relabels_row n e rows row row' place place_is within row_is into labels labels' (place / 32) at_is there labels_is possible certain may must))

  -- the row of the edge as it was
  was : row ≡ get_or rows (edge_at n e) no_mothers
  was = sym (was_row n e rows row row place place_is within row_is)

  module _ (wanted : Bool) (mothers : List ℕ) (bits : Labels) where
    pub may_renewed : RenewsSide e wanted row.may mothers labels.may bits → Renews n e wanted (in_must rows (edge_at n e) e.mother.0) rows (set rows place (record { may = mothers; must = row.must })) × StaysTold n (λ parts. IsPlace parts e) rows into (set rows place (record { may = mothers; must = row.must })) (set into (place / 32) (record { may = bits; must = labels.must }))
    may_renewed side = renewed (record { may = mothers; must = row.must }) (record { may = bits; must = labels.must }) wanted (in_must rows (edge_at n e) e.mother.0) side (side_stays e _ row.must labels.must (ap (λ (r : Mothers). has r.must e.mother.0) was))

    pub must_renewed : RenewsSide e wanted row.must mothers labels.must bits → Renews n e (in_may rows (edge_at n e) e.mother.0) wanted rows (set rows place (record { may = row.may; must = mothers })) × StaysTold n (λ parts. IsPlace parts e) rows into (set rows place (record { may = row.may; must = mothers })) (set into (place / 32) (record { may = labels.may; must = bits }))
    must_renewed side = renewed (record { may = row.may; must = mothers }) (record { may = labels.may; must = bits }) (in_may rows (edge_at n e) e.mother.0) wanted (side_stays e _ row.may labels.may (ap (λ (r : Mothers). has r.may e.mother.0) was)) side

-- ---- at the start

-- one daughter more
pub first_more : (n : ℕ) (dims : List DimPlan) (old into : List LabelsInto) (k : ℕ) (plan : DimPlan) (labels : LabelsInto) → length old ≡ length dims * n → length into ≡ length old → k < length old → plan ≡ get_or dims (k / n) plan → AreFirst n plan labels → ((i : ℕ) → i < k → AreFirst n (get_or dims (i / n) no_plan) (at_place into i)) → (length (set into k labels) ≡ length old) × ((i : ℕ) → i < k + 1 → AreFirst n (get_or dims (i / n) no_plan) (at_place (set into k labels) i))
first_more n dims old into k plan labels count same l plan_is here before =
    let there : k / n < length dims = div_below k n (length dims) (some_after (length dims) n k (omega (arith, l, count))) (omega (arith, l, count)) in
    one_set (λ i. AreFirst n (get_or dims (i / n) no_plan)) into k labels no_labels same l (subst (λ q. AreFirst n q labels) (plan_is ∙ get_or_default dims (k / n) plan no_plan there) here) before

-- the code's room for them
pub some_nodes : (rows : List Mothers) (row : Mothers) (d n : ℕ) → rows ≡ replicate (d * n * 32) row → 0 < length rows → 0 < n
some_nodes rows row d n is l = some_after d n 0 (let e = ap length is ∙ length-replicate (d * n * 32) row in omega (arith, l, e))

module _ (parts : Parts) (p : IsProblem parts) (rows : List Mothers) (full : AreFull rows (nodes parts)) (long : row_count parts ≤ length rows) (into : List LabelsInto) (n : ℕ) (n_is : n ≡ nodes parts) (dims : List DimPlan) (dims_are : dims ≡ parts.dims) (first : (k : ℕ) → k < length into → AreFirst n (get_or dims (k / n) no_plan) (at_place into k)) (count : length parts.dims * nodes parts ≤ length into) where
  module _ (dim daughter label : ℕ) (d : dim < length parts.dims) (within : daughter < nodes parts) where
    abbrev plan : DimPlan
    plan = get_or parts.dims dim no_plan

    abbrev place : ℕ
    place = labels_at (nodes parts) dim daughter

    here : AreFirst (nodes parts) plan (at_place into place)
    here =
        let fits = row_fits dim (nodes parts) (length parts.dims) (nodes parts) d (omega arith) in
        let there : place < length into = omega (arith, fits, within, count) in
        let at : place / n ≡ dim = ap (λ k. place / k) n_is ∙ div-mul-add dim (nodes parts) daughter within in
        subst (λ k. AreFirst k plan (at_place into place)) n_is
        (subst (λ q. AreFirst n q (at_place into place)) (ap (λ z. get_or z (place / n) no_plan) dims_are ∙ ap (λ i. get_or parts.dims i no_plan) at) (first place there))

    row_full : HasEdges parts dim daughter label → IsFull (nodes parts) daughter (get_or rows (mothers_at (nodes parts) dim daughter label) no_mothers)
    row_full h = full_at parts p rows dim daughter label h full long

    abbrev Leads : ℕ → Type 0
    Leads = LeadsInto parts (InRows in_may (nodes parts) rows) dim daughter label

    leads : plan.graph ≡ true → label < length plan.labels → (m : ℕ) → m < nodes parts → m ≢ daughter → Leads m
    leads graph l m k differ = (
      record { plan = plan; plan_is = slice_get-get_or parts.dims dim no_plan d; graph = graph; label = l; mother = k; daughter = within; differ = differ },
      ((row_full (record { dim_in = d; graph = graph; node_in = within; label_in = l })).may m).1 (k, differ),
    )

    has_edges : (m : ℕ) → IsPlace parts (edge dim m label daughter) → HasEdges parts dim daughter label
    has_edges m is = place_has parts (edge dim m label daughter) is

    one_other : 1 < nodes parts → (m : ℕ) × (m < nodes parts) × (m ≢ daughter)
    one_other more = elim (cases_eq daughter 0) [
      | inl e ↦ (1, more, (λ s. omega (arith, e, s)))
      | inr e ↦ (0, omega (arith, more), (λ s. e (sym s)))
    ]

    two_others : 2 < nodes parts → (m : ℕ) × (k : ℕ) × (m ≢ k) × (m < nodes parts) × (m ≢ daughter) × (k < nodes parts) × (k ≢ daughter)
    two_others more = elim (cases_eq daughter 0) [
      | inl e ↦ (1, 2, (λ s. omega (arith, s)), omega (arith, more), (λ s. omega (arith, e, s)), more, (λ s. omega (arith, e, s)))
      | inr e ↦ elim (cases_eq daughter 1) [
        | inl f ↦ (0, 2, (λ s. omega (arith, s)), omega (arith, more), (λ s. e (sym s)), more, (λ s. omega (arith, f, s)))
        | inr f ↦ (0, 1, (λ s. omega (arith, s)), omega (arith, more), (λ s. e (sym s)), omega (arith, more), (λ s. f (sym s)))
      ]
    ]

    pub may_first : IsLabelled Leads (at_place into place).may label
    may_first = record {
      some = (
        λ h.
            let x = (here.some label).0 h in
            let o = one_other x.2 in
            (o.0, leads x.0 x.1 o.0 o.1 o.2),
        λ (m, (is, h)).
            let edges = has_edges m is in
            let k = is.mother in
            let differ = is.differ in
            (here.some label).1 (edges.graph, edges.label_in, omega (arith, k, within, differ)),
      );
      more = (
        λ h.
            let x = (here.more label).0 h in
            let o = two_others x.2 in
            (o.0, o.1, o.2, leads x.0 x.1 o.0 o.3 o.4, leads x.0 x.1 o.1 o.5 o.6),
        λ (m, k, apart, (is, h), (other, i)).
            let edges = has_edges m is in
            let a = is.mother in
            let b = is.differ in
            let c = other.mother in
            let f = other.differ in
            (here.more label).1 (edges.graph, edges.label_in, omega (arith, a, b, c, f, apart, within)),
      );
    }

    none_must : (m : ℕ) → LeadsInto parts (InRows in_must (nodes parts) rows) dim daughter label m → ⊥
    none_must m (is, h) = false≢true (sym (ap (λ z. has z m) (row_full (has_edges m is)).must) ∙ h)

    pub must_first : IsLabelled (LeadsInto parts (InRows in_must (nodes parts) rows) dim daughter label) (at_place into place).must label
    must_first = record {
      some = (λ h. absurd (no_bit (at_place into place).must.some label here.must_some h), λ (m, x). absurd (none_must m x));
      more = (λ h. absurd (no_bit (at_place into place).must.more label here.must_more h), λ (m, k, apart, x, y). absurd (none_must m x));
    }

  only : (has_mother : List Mothers → ℕ → ℕ → Bool) → ((place m : ℕ) → length rows ≤ place → has_mother rows place m ≡ false) → ((place m : ℕ) → place < length rows → IsTrue (has_mother rows place m) → (m < nodes parts) × (m ≢ daughter_at (nodes parts) place)) → OnlyOthers has_mother (nodes parts) rows
  only has_mother past there place m h = elim (cases_lt place (length rows)) [
    | inl l ↦ there place m l h
    | inr l ↦ absurd (false≢true (sym (past place m l) ∙ h))
  ]

  pub told_start : length rows ≤ length into * 32 → AreTold parts rows into
  told_start wide = record {
    wide = wide;
    may_others = only in_may (λ place m l. ap (λ (r : Mothers). has r.may m) (get_or_past rows place no_mothers l)) (λ place m l. ((full place l).may m).0);
    must_others = only in_must (λ place m l. ap (λ (r : Mothers). has r.must m) (get_or_past rows place no_mothers l)) (λ place m l h. absurd (false≢true (sym (ap (λ z. has z m) (full place l).must) ∙ h)));
    may = λ dim daughter d within label. may_first dim daughter label d within;
    must = λ dim daughter d within label. must_first dim daughter label d within;
  }

-- ---- what is read

-- those of the edges that may be present, and of those that must be
abbrev AreBoth : Parts → List (List Bool) → ℕ → ℕ → LabelsInto → Type 0
AreBoth parts box dim daughter labels = AreLabels parts (May parts box) dim daughter labels.may × AreLabels parts (Must parts box) dim daughter labels.must

module _ (parts : Parts) (p : IsProblem parts) (words : List ℕ) (rows : List Mothers) (into : List LabelsInto) (kept : AreKept parts words rows) (told : AreTold parts rows into) (dim daughter : ℕ) (d : dim < length parts.dims) (l : daughter < nodes parts) where
  abbrev box : List (List Bool)
  box = box_in (bits_of parts) words

  abbrev those : LabelsInto
  those = at_place into (labels_at (nodes parts) dim daughter)

  leads_like : (P Q : Edge → Type 0) → ((e : Edge) → IsPlace parts e → P e ↔ Q e) → (label m : ℕ) → LeadsInto parts P dim daughter label m ↔ LeadsInto parts Q dim daughter label m
  leads_like P Q same label m = (λ x. (x.0, (same (edge dim m label daughter) x.0).0 x.1), λ x. (x.0, (same (edge dim m label daughter) x.0).1 x.1))

  both_told : AreBoth parts box dim daughter those
  both_told = (
    λ label. labelled_like _ _ those.may those.may label label refl refl (leads_like (InRows in_may (nodes parts) rows) (May parts box) (may_says parts p words rows kept) label) (told.may dim daughter d l label),
    λ label. labelled_like _ _ those.must those.must label label refl refl (leads_like (InRows in_must (nodes parts) rows) (Must parts box) (must_says parts p words rows kept) label) (told.must dim daughter d l label),
  )

module _ {parts : Parts} {t : Trailed} {turns : ℕ} {s : State} {rows : List Mothers} {into : List LabelsInto} (keeps : Keeps parts t) (is : seen parts t turns ≡ s) (kept : AreKept parts t.words rows) (told : AreTold parts rows into)
    {n dim : ℕ} (m : n ≡ nodes parts) where
  dim_there : dim < length s.parts.dims → dim < length parts.dims
  dim_there d = subst (λ s. dim < length s.parts.dims) (sym is) d

  -- those of a daughter
  module _ {daughter place : ℕ} (at : place ≡ labels_at n dim daughter) (dim_in : dim < length s.parts.dims) (daughter_in : daughter < nodes s.parts) where
    daughter_there : daughter < nodes parts
    daughter_there = subst (λ s. daughter < nodes s.parts) (sym is) daughter_in

    pub labels_within : place < length into
    labels_within =
        let long = kept.long in
        let wide = told.wide in
        let row = row_fits dim (nodes parts) (length parts.dims) (nodes parts) (dim_there dim_in) (omega arith) in
        let here : place ≡ labels_at (nodes parts) dim daughter = at ∙ ap (λ i. labels_at i dim daughter) m in
        let less = daughter_there in
        omega (arith, long, wide, row, here, less)

    pub labels_read : (read : LabelsInto) → read ≡ get_or into place read → AreBoth s.parts s.now dim daughter read
    labels_read read read_is =
        let same = read_is ∙ get_or_default into place read no_labels labels_within ∙ ap (at_place into) (at ∙ ap (λ i. labels_at i dim daughter) m) in
        subst (λ s. AreBoth s.parts s.now dim daughter read) is
        (subst (AreBoth parts (box_in (bits_of parts) t.words) dim daughter) (sym same) (both_told parts keeps.problem t.words rows into kept told dim daughter (dim_there dim_in) daughter_there))

  -- those of all daughters
  module _ {first : ℕ} (at : first ≡ labels_at n dim 0) (dim_in : dim < length s.parts.dims) where
    pub part_within : first + n ≤ length into
    part_within =
        let long = kept.long in
        let wide = told.wide in
        let row = row_fits dim (nodes parts) (length parts.dims) (nodes parts) (dim_there dim_in) (omega arith) in
        let here : first ≡ labels_at (nodes parts) dim 0 = at ∙ ap (λ i. labels_at i dim 0) m in
        omega (arith, long, wide, row, here, m)

    part_at : (daughter : ℕ) → daughter < nodes parts → at_place into (labels_at (nodes parts) dim daughter) ≡ at_place (take n (drop first into)) daughter
    part_at daughter l =
        let here : first ≡ labels_at (nodes parts) dim 0 = at ∙ ap (λ i. labels_at i dim 0) m in
        let place : first + daughter ≡ labels_at (nodes parts) dim daughter = omega (arith, here) in
        sym (get_or-take n (drop first into) daughter no_labels (omega (arith, l, m)) ∙ get_or-drop first into daughter no_labels ∙ ap (at_place into) place)

    pub part_told : {part : List LabelsInto} → part ≡ take n (drop first into) → AreLabelsOf s.parts s.now dim part
    part_told {part} part_is =
        let within = part_within in
        let behind = length-drop first into in
        let each = λ (daughter : ℕ) (l : daughter < nodes parts). subst (AreBoth parts (box_in (bits_of parts) t.words) dim daughter) (part_at daughter l)
        (both_told parts keeps.problem t.words rows into kept told dim daughter (dim_there dim_in) l) in
        subst (λ s. AreLabelsOf s.parts s.now dim part) is (subst (AreLabelsOf parts (box_in (bits_of parts) t.words) dim) (sym part_is) (record {
          count = length-take-le n (drop first into) (omega (arith, within, behind)) ∙ m;
          may = λ daughter l. (each daughter l).0;
          must = λ daughter l. (each daughter l).1;
        }))
