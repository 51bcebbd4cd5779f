-- The numbers of edges that entries allow.
use Rattle.std.proofs.Common.{◌≡◌, ℕ, ◌<◌, ◌≤◌, ◌+◌, ◌-◌, ◌⊎◌, ◌↔◌, inl, inr, Bool, false, IsTrue, List, [], slice_index_or, refl, sym, ◌∙◌, ap, subst, arith}
use Rattle.std.specs.Prelude.{Contains, All, ◌==◌}
use Rattle.std.proofs.lemmas.Bool.{eq-eqb, eqb-true}
use Rattle.std.proofs.lemmas.List.Elements.{All-contains, All-weaker}
use Rattle.xdg_problem.specs.declared.parts.Feat.{Feat}
use Rattle.xdg_problem.specs.declared.parts.Group.{Group}
use Rattle.xdg_problem.specs.Boxes.{Has, entry_decision}
use Rattle.xdg_problem.specs.Features.{row}
use Rattle.xdg_problem.proofs.RowReads.{in_candidates}
use Rattle.xdg_rules.specs.Rules.{HasNoneWithin, IsGreatest, IsLeast}
use Rattle.xdg_pgraph.specs.declared.bounds.Looked.{Looked}
use Rattle.xdg_pgraph.specs.declared.bundle.Way.{Way}
use Rattle.xdg_pgraph.specs.declared.bundle.Way.TheVariants as ways
use Rattle.xdg_pgraph.specs.Bounding.{SomeAllows, Tells, Widens}
use Rattle.xdg_pgraph.specs.Bundles.{argument_of, numbers_of}

-- ---- the numbers of a candidate

numbers_row : (way : Way) (group : Group) (node label candidate : ℕ) → row group node candidate (argument_of way) label ≡ numbers_of way group node label candidate
numbers_row ways.Out group node label candidate = refl
numbers_row ways.In group node label candidate = refl

pub numbers_told : (way : Way) (group : Group) (node label place argument : ℕ) (candidates : List (List Feat)) (numbers : List ℕ) → argument ≡ argument_of way → candidates ≡ slice_index_or group.feats node [] → numbers ≡ in_candidates candidates place argument label → numbers ≡ numbers_of way group node label place
numbers_told way group node label place argument candidates numbers argument_is candidates_are numbers_are =
    numbers_are
    ∙ (ap (λ z. in_candidates candidates place z label) argument_is
    ∙ (ap (λ z. in_candidates z place (argument_of way) label) candidates_are
    ∙ numbers_row way group node label place))

-- ---- entries, one after another

module _ (box : List (List Bool)) (node : ℕ) (row : ℕ → List ℕ) (limit least most : ℕ) where
  abbrev TellsOf : (ℕ → Type 0) → Looked → Type 0
  TellsOf = Tells box node row limit least most

  -- none was seen that remains
  pub tells_start : (Seen : ℕ → Type 0) (looked : Looked) → ((c : ℕ) → Seen c → ⊥) → looked.allowed.behind ≡ 0 → limit < looked.allowed.least → TellsOf Seen looked
  tells_start Seen looked none behind first = record {
    behind = λ c s h. absurd (none c s);
    behind_is = λ m e. absurd (omega (arith, e, behind));
    first = λ c s h. absurd (none c s);
    first_is = λ l. absurd (omega (arith, l, first));
    within = λ not c s h. absurd (none c s);
  }

  -- of those that are seen now, each that remains was seen
  pub tells_skip : (Seen Now : ℕ → Type 0) (looked : Looked) → ((c : ℕ) → Now c → Has box (entry_decision node) c → Seen c) → TellsOf Seen looked → TellsOf Now looked
  tells_skip Seen Now looked back t = record {
    behind = λ c s h. t.behind c (back c s h) h;
    behind_is = t.behind_is;
    first = λ c s h. t.first c (back c s h) h;
    first_is = t.first_is;
    within = λ not c s h. t.within not c (back c s h) h;
  }

  -- or else allows some numbers, which some entry that remains allows
  pub tells_next : (Seen Now : ℕ → Type 0) (numbers : List ℕ) (old new : Looked) (k : ℕ) → Has box (entry_decision node) k → row k ≡ numbers → ((c : ℕ) → Now c → Has box (entry_decision node) c → Seen c ⊎ (row c ≡ numbers)) → Widens numbers old.allowed new.allowed → (new.barred ≡ false → (old.barred ≡ false) × (HasNoneWithin numbers least most → ⊥)) → TellsOf Seen old → TellsOf Now new
  tells_next Seen Now numbers old new k has allows each w barred t = record {
    behind = λ c s h. elim (each c s h) [
      | inl seen ↦ All-weaker (λ m. m < old.allowed.behind) (λ m. m < new.allowed.behind) (λ m x. (let g = w.most in omega (arith, x, g))) (row c) (t.behind c seen h)
      | inr same ↦ subst (All (λ m. m < new.allowed.behind)) (sym same) w.most_of
    ];
    behind_is = λ m e. elim w.most_is [
      | inl same ↦ t.behind_is m (e ∙ same)
      | inr (x, here, is) ↦ (k, has, subst (λ z. Contains z m) (sym allows) (let same : x ≡ m = omega (arith, is, e) in subst (Contains numbers) same here))
    ];
    first = λ c s h. elim (each c s h) [
      | inl seen ↦ All-weaker (λ m. old.allowed.least ≤ m) (λ m. new.allowed.least ≤ m) (λ m x. (let g = w.least in omega (arith, x, g))) (row c) (t.first c seen h)
      | inr same ↦ subst (All (λ m. new.allowed.least ≤ m)) (sym same) w.least_of
    ];
    first_is = λ l. elim w.least_is [
      | inl same ↦ subst (SomeAllows box node row) (sym same) (t.first_is (subst (λ x. x ≤ limit) same l))
      | inr here ↦ (k, has, subst (λ z. Contains z new.allowed.least) (sym allows) here)
    ];
    within = λ not c s h none. (let both = barred not in elim (each c s h) [
      | inl seen ↦ t.within both.0 c seen h none
      | inr same ↦ both.1 (subst (λ z. HasNoneWithin z least most) same none)
    ]);
  }

  module _ (looked : Looked) (t : TellsOf (Has box (entry_decision node)) looked) where
    greatest_to : (number : ℕ) → IsGreatest box node row number → looked.allowed.behind ≡ number + 1
    greatest_to number g =
        let above = All-contains (λ m. m < looked.allowed.behind) (row g.entry) number (t.behind g.entry g.remains g.remains) g.allowed in
        let found = t.behind_is (looked.allowed.behind - 1) (omega (arith, above)) in
        let below = All-contains (λ m. m ≤ number) (row found.0) (looked.allowed.behind - 1) (g.most found.0 found.1) found.2 in
        omega (arith, above, below)

    greatest_from : (number : ℕ) → looked.allowed.behind ≡ number + 1 → IsGreatest box node row number
    greatest_from number is =
        let found = t.behind_is number (sym is) in
        record {
          entry = found.0;
          remains = found.1;
          allowed = found.2;
          most = λ c h. All-weaker (λ m. m < looked.allowed.behind) (λ m. m ≤ number) (λ m x. omega (arith, x, is)) (row c) (t.behind c h h);
        }

    least_to : (number : ℕ) → number ≤ limit → IsLeast box node row number → looked.allowed.least ≡ number
    least_to number few g =
        let below = All-contains (λ m. looked.allowed.least ≤ m) (row g.entry) number (t.first g.entry g.remains g.remains) g.allowed in
        let found = t.first_is (omega (arith, below, few)) in
        let above = All-contains (λ m. number ≤ m) (row found.0) looked.allowed.least (g.least found.0 found.1) found.2 in
        omega (arith, above, below)

    least_from : (number : ℕ) → number ≤ limit → looked.allowed.least ≡ number → IsLeast box node row number
    least_from number few is =
        let found = t.first_is (omega (arith, is, few)) in
        record {
          entry = found.0;
          remains = found.1;
          allowed = subst (Contains (row found.0)) is found.2;
          least = λ c h. All-weaker (λ m. looked.allowed.least ≤ m) (λ m. number ≤ m) (λ m x. omega (arith, x, is)) (row c) (t.first c h h);
        }

    pub told_greatest : (number : ℕ) → IsTrue (looked.allowed.behind == number + 1) ↔ IsGreatest box node row number
    told_greatest number = (λ e. greatest_from number (eqb-true looked.allowed.behind (number + 1) e), λ g. eq-eqb looked.allowed.behind (number + 1) (greatest_to number g))

    pub told_least : (number : ℕ) → number ≤ limit → IsTrue (looked.allowed.least == number) ↔ IsLeast box node row number
    told_least number few = (λ e. least_from number few (eqb-true looked.allowed.least number e), λ g. eq-eqb looked.allowed.least number (least_to number few g))
