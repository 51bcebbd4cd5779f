-- Counts that are filled in, class after class.
use Rattle.std.proofs.Common.{◌≡◌, ℕ, zero, suc, ◌<◌, ◌≤◌, ◌+◌, List, [], ◌∷◌, map, set, length, get_or, slice_get, slice_index_or, option_map, Option, None, Some, refl, sym, ap, subst, ◌∙◌, arith, inl, inr, ap₂}
use Rattle.std.proofs.lemmas.Bool.{cases_eq, cases_lt}
use Rattle.std.proofs.lemmas.List.{length-map}
use Rattle.std.proofs.lemmas.Option.{slice_get-get_or, slice_get-map, slice_get_within}
use Rattle.xdg_names.specs.Texts.{place_of}
use Rattle.xdg_classes.specs.Bodies.{Body, body, Called, calls}
use Rattle.xdg_check.specs.declared.checked.Class.{Class}
use Rattle.xdg_check.specs.Counts.{Counting, uses, combos, class_texts, Agrees, AreCounted, bare, kept_by, kept_at, looked_up}
use Rattle.xdg_facts.specs.Capped.{capped}
use Rattle.xdg_check.specs.Checked.{IsOrder}
use Rattle.xdg_check.specs.Filled.{AreFilled}
use Rattle.xdg_check.proofs.SameCounts.{same_uses, same_combos, uses_stop, combos_stop}
use Rattle.xdg_check.proofs.Naming.{name_of_place, names, names_agree, one_naming, in_order}
use Rattle.xdg_facts.proofs.Lists.{some_at, set_same, set_other}
use Rattle.xdg_facts.proofs.Options.{some_same}
use Rattle.xdg_facts.specs.Membership.{In, Differ}
use Rattle.xdg_facts.proofs.In.{in_index, in_got, at_once}

-- ---- a list with one element changed

set_bare : (cs : List Class) (k : ℕ) (c new : Class) → slice_get cs k ≡ Some c → bare new ≡ bare c → map bare (set cs k new) ≡ map bare cs
set_bare [] k c new h e = refl
set_bare (d ∷ cs) zero c new h e = let is : d ≡ c = cc in ap (λ x. x ∷ map bare cs) (e ∙ ap bare (sym is))
set_bare (d ∷ cs) (suc k) c new h e = ap (λ xs. bare d ∷ xs) (set_bare cs k c new h e)

-- ---- classes that are the same but for their counts

bare_texts : (cs : List Class) → class_texts (map bare cs) ≡ class_texts cs
bare_texts [] = refl
bare_texts (c ∷ cs) = ap (λ ts. c.name ∷ ts) (bare_texts cs)

module _ (now old : List Class) (bares : map bare now ≡ map bare old) where
  pub same_texts : class_texts now ≡ class_texts old
  same_texts = sym (bare_texts now) ∙ ap class_texts bares ∙ bare_texts old

  same_length : length now ≡ length old
  same_length = sym (length-map now bare) ∙ ap length bares ∙ length-map old bare

  pub bare_at : (k : ℕ) (c : Class) → slice_get now k ≡ Some c → (d : Class) × ((slice_get old k ≡ Some d) × (bare c ≡ bare d))
  bare_at k c h =
      let both : option_map bare (slice_get old k) ≡ Some (bare c) = sym (slice_get-map bare old k) ∙ ap (λ cs. slice_get cs k) (sym bares) ∙ slice_get-map bare now k ∙ ap (option_map bare) h in
      by (slice_get old k) both
    where
      by : (o : Option Class) → option_map bare o ≡ Some (bare c) → (d : Class) × ((o ≡ Some d) × (bare c ≡ bare d))
      by None e = absurd (cc)
      by (Some d) e = (d, (refl, cc))

  pub bare_agrees : (count : Counting → Body → ℕ) (names : Counting) → Agrees count old names → Agrees count now names
  bare_agrees count names h = record {
    defined = λ c i. (let k = at_once now c i in let d = bare_at k.0 c k.1 in
        ap (λ (x : Class). names x.name) d.1.1 ∙ h.defined d.0 (in_got old k.0 d.0 d.1.0) ∙ ap (λ (x : Class). count names (body x.body.kind)) (sym d.1.1));
    undefined = λ name out. h.undefined name (λ a. out (subst (λ ts. In ts name) (sym same_texts) a));
  }

  pub bare_order : (order : List ℕ) → IsOrder old order → IsOrder now order
  bare_order order h = record {
    count = h.count ∙ sym same_length;
    within = λ i inside. (let w = h.within i inside in omega (arith, w, same_length));
    placed = λ k inside. h.placed k (omega (arith, inside, same_length));
    after = λ i inside c at call stands. (let d = bare_at (slice_index_or order i 0) c at in
        let found = h.after i inside d.0 d.1.0 call (subst (λ (x : Class). In (calls (body x.body.kind)) call) d.1.1 stands) in
        (found.0, (found.1.0, ap (λ ts. place_of ts call.name.text) same_texts ∙ found.1.1)));
  }

-- ---- one class more

module _ (count : Counting → Body → ℕ) (same : (p q : Counting) (b : Body) → ((call : Called) → In (calls b) call → p call.name.text ≡ q call.name.text) → count p b ≡ count q b)
    (stop : (p q : Counting) (b : Body) → ((call : Called) → In (calls b) call → p call.name.text ≡ capped (q call.name.text)) → capped (count p b) ≡ capped (count q b)) (kept : Class → ℕ) where
  -- what is counted by the classes so far is the count
  pub next_count : (cs : List Class) (order : List ℕ) (names : Counting) → Agrees count cs names → IsOrder cs order → (i : ℕ) → i < length order → AreFilled kept names cs order i
      → (c : Class) → slice_get cs (slice_index_or order i 0) ≡ Some c → capped (count (looked_up kept (class_texts cs) cs) (body c.body.kind)) ≡ capped (names c.name)
  next_count cs order names agrees ordered i inside filled c at =
      stop (looked_up kept (class_texts cs) cs) names (body c.body.kind) (λ call stands. (let j = ordered.after i inside c at call stands in
      let d = some_at cs (slice_index_or order j.0 0) (ordered.within j.0 (omega (arith, inside, j.1.0))) in
      ap (kept_at kept cs) j.1.1 ∙ ap (kept_by kept) d.1 ∙ filled j.0 j.1.0 d.0 d.1
      ∙ ap (λ n. capped (names n)) (name_of_place cs call.name.text (slice_index_or order j.0 0) d.0 j.1.1 d.1)))
      ∙ ap capped (sym (agrees.defined c (in_got cs (slice_index_or order i 0) c at)))

  pub fill_next : (cs : List Class) (order : List ℕ) (names : Counting) (i : ℕ) (c new : Class) → AreFilled kept names cs order i → slice_get cs (slice_index_or order i 0) ≡ Some c → bare new ≡ bare c
      → kept new ≡ capped (names c.name) → AreFilled kept names (set cs (slice_index_or order i 0) new) order (i + 1)
  fill_next cs order names i c new filled at bares keeps j below d stands =
      let k = slice_index_or order i 0 in
      elim (cases_eq (slice_index_or order j 0) k) [
        | inl e ↦ (let is : new ≡ d = some_same new d (sym (set_same cs k new (slice_get_within cs k c at)) ∙ ap (slice_get (set cs k new)) (sym e) ∙ stands) in
            subst (λ (x : Class). kept x ≡ capped (names x.name)) is (keeps ∙ ap (λ (x : Class). capped (names x.name)) (sym bares)))
        | inr ne ↦ elim (cases_lt j i) [
          | inl less ↦ filled j less d (sym (set_other cs k (slice_index_or order j 0) new ne) ∙ stands)
          | inr past ↦ (let e : j ≡ i = omega (arith, below, past) in absurd (ne (ap (λ m. slice_index_or order m 0) e)))
        ]
      ]

  -- ---- all classes

  pub are_counted : (cs : List Class) (order : List ℕ) → Differ (class_texts cs) → IsOrder cs order → ((names : Counting) → Agrees count cs names → AreFilled kept names cs order (length order)) → AreCounted count kept cs
  are_counted cs order apart ordered filled =
      let agrees = names_agree count same cs order apart ordered in
      record {
        names = names count same cs order apart ordered;
        agrees = agrees;
        only = λ others h name. one_naming count same cs order apart ordered others (names count same cs order apart ordered) h agrees name;
        stored = λ c h. (let k = in_index cs c c h in let at : slice_get cs k.0 ≡ Some c = slice_get-get_or cs k.0 c k.1.0 ∙ ap Some k.1.1 in
            let j = in_order count same cs order apart ordered k.0 k.1.0 in
            filled (names count same cs order apart ordered) agrees j.0 j.1.0 c (ap (slice_get cs) j.1.1 ∙ at));
      }

-- ---- one turn

abbrev pub Fills : List Class → List ℕ → List Class → ℕ → Type 0
Fills old order now i =
    (map bare now ≡ map bare old)
    × (((names : Counting) → Agrees uses old names → AreFilled (λ c. c.uses) names now order i) × ((names : Counting) → Agrees combos old names → AreFilled (λ c. c.combos) names now order i))

pub turned : (old now : List Class) (texts : List (List ℕ)) (order : List ℕ) (i : ℕ) (c d : Class) (u x : ℕ) → texts ≡ class_texts old → IsOrder old order → i < length order → Fills old order now i
    → u ≡ capped (uses (looked_up (λ y. y.uses) texts now) (body (get_or now (slice_index_or order i 0) c).body.kind))
    → x ≡ capped (combos (looked_up (λ y. y.combos) texts now) (body (get_or now (slice_index_or order i 0) c).body.kind))
    → Fills old order (set now (slice_index_or order i 0) (record (get_or now (slice_index_or order i 0) d) { uses = u; combos = x })) (i + 1)
turned old now texts order i c d u x known ordered inside h counts pairs =
    let k = slice_index_or order i 0 in
    let e = get_or now k d in
    let new = record e { uses = u; combos = x } in
    let own : texts ≡ class_texts now = known ∙ sym (same_texts now old h.0) in
    let after = bare_order now old h.0 order ordered in
    let at : slice_get now k ≡ Some e = slice_get-get_or now k d (after.within i inside) in
    let same : get_or now k c ≡ e = some_same (get_or now k c) e (sym (slice_get-get_or now k c (after.within i inside)) ∙ at) in
    let read = λ (count : Counting → Body → ℕ) (kept : Class → ℕ). ap₂ (λ ts (y : Class). capped (count (looked_up kept ts now) (body y.body.kind))) own same in (
      set_bare now k e new at refl ∙ h.0,
      (
        λ names agrees. fill_next uses same_uses uses_stop (λ y. y.uses) now order names i e new (h.1.0 names agrees) at refl
            (counts ∙ read uses (λ y. y.uses) ∙ next_count uses same_uses uses_stop (λ y. y.uses) now order names (bare_agrees now old h.0 uses names agrees) after i inside (h.1.0 names agrees) e at),
        λ names agrees. fill_next combos same_combos combos_stop (λ y. y.combos) now order names i e new (h.1.1 names agrees) at refl
            (pairs ∙ read combos (λ y. y.combos) ∙ next_count combos same_combos combos_stop (λ y. y.combos) now order names (bare_agrees now old h.0 combos names agrees) after i inside (h.1.1 names agrees) e at),
      ),
    )

-- ---- the end

module _ (old now : List Class) (order : List ℕ) (i : ℕ) (apart : Differ (class_texts old)) (ordered : IsOrder old order) (past : length order ≤ i) (h : Fills old order now i) where
  ended : (kept : Class → ℕ) (names : Counting) → AreFilled kept names now order i → AreFilled kept names now order (length order)
  ended kept names filled j below c at = filled j (omega (arith, below, past)) c at

  pub all_uses : AreCounted uses (λ c. c.uses) now
  all_uses =
      are_counted uses same_uses uses_stop (λ c. c.uses) now order (subst Differ (sym (same_texts now old h.0)) apart) (bare_order now old h.0 order ordered)
      (λ names agrees. ended (λ c. c.uses) names (h.1.0 names (bare_agrees old now (sym h.0) uses names agrees)))

  pub all_combos : AreCounted combos (λ c. c.combos) now
  all_combos =
      are_counted combos same_combos combos_stop (λ c. c.combos) now order (subst Differ (sym (same_texts now old h.0)) apart) (bare_order now old h.0 order ordered)
      (λ names agrees. ended (λ c. c.combos) names (h.1.1 names (bare_agrees old now (sym h.0) combos names agrees)))
