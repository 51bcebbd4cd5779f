-- Which argument of a built command a name, a place or a letter finds.
use Rattle.std.proofs.Common.{◌≡◌, ◌∙◌, ◌≤◌, ◌+◌, ◌&&◌, ◌==◌, ℕ, Bool, zero, suc, true, false, not, List, [], ◌∷◌, ◌++◌, map, length, inl, inr, Some, None, refl, sym, ap, ap₂, subst, arith, append-nil}
use Rattle.std.specs.Prelude.{is_some, nat_le, option_map, slice_get, if◌then◌else◌}
use Rattle.std.specs.List.{find, list_all}
use Rattle.std.specs.Option.{option_map_or}
use Rattle.std.specs.Str.{bytes_eq}
use Rattle.std.proofs.lemmas.Bool.{cases_Bool, eq-eqb, false_from_ne_true, leb-true, ne_eqb, not-true, or_cases, or_right, true≢false}
use Rattle.clap.proofs.WalkLemmas.{both}
use Rattle.clap.specs.Walk.{Rule, arg_by_id, arg_by_index, arg_by_long, arg_by_short, has_long, has_short}
use Rattle.xdg_base.specs.Texts.{has_text}
use Rattle.xdg_command.specs.Syntax.{Table, all_differ, are_apart, is_name, is_right}
use Rattle.xdg_command.proofs.Built.{numbered, options_in, rules_in}
use Rattle.xdg_command.proofs.Rules.{Finds, flag_rule, form, operand_rule, option_rule, value_rule}
use Rattle.xdg_facts.proofs.Truths.{or_false}
use Rattle.xdg_facts.proofs.Texts.{equal, same_text, other_test}

-- ---- names

-- a text that stands in a list is among its texts
pub among_at : (names : List (List ℕ)) (k : ℕ) (name : List ℕ) → slice_get names k ≡ Some name → has_text names name ≡ true
among_at [] k name e = absurd cc
among_at (n ∷ names) zero name e = let is : n ≡ name = cc in rw is (rw (equal name) refl)
among_at (n ∷ names) (suc k) name e = or_right (bytes_eq n name) (has_text names name) (among_at names k name e)

-- what holds of all names holds of one that is among them
pub named : (p : List ℕ → Bool) (names : List (List ℕ)) (name : List ℕ) → list_all p names ≡ true → has_text names name ≡ true → p name ≡ true
named p [] name all e = absurd (true≢false (sym e))
named p (n ∷ names) name all e =
    let parts = both (p n) (list_all p names) all in
    elim (or_cases (bytes_eq n name) (has_text names name) e) [ inl is ↦ ap p (sym (same_text n name is)) ∙ parts.0 | inr more ↦ named p names name parts.1 more ]

-- a text among the first list is not among the second
pub apart_at : (names others : List (List ℕ)) (name : List ℕ) → are_apart names others ≡ true → has_text names name ≡ true → has_text others name ≡ false
apart_at names others name apart e = not-true (has_text others name) (named (λ n. not (has_text others n)) names name apart e)

-- what `is_right` says
pub record Right (t : Table) : Type 0 where
  pub few : length t.operands ≤ 2
  pub operands : all_differ t.operands ≡ true
  pub from_values : are_apart t.operands t.values ≡ true
  pub from_flags : are_apart t.operands t.flags ≡ true
  pub flags : are_apart t.flags t.values ≡ true
  pub value_names : list_all is_name t.values ≡ true
  pub flag_names : list_all is_name t.flags ≡ true

pub right : (t : Table) → is_right t ≡ true → Right t
right t e =
    let a = both (nat_le (length t.operands) 2) _ e in
    let b = both (all_differ t.operands) _ a.1 in
    let c = both (are_apart t.operands t.values) _ b.1 in
    let d = both (are_apart t.operands t.flags) _ c.1 in
    let f = both (are_apart t.flags t.values) _ d.1 in
    let g = both (list_all is_name t.values) _ f.1 in
    record { few = leb-true _ 2 a.0; operands = b.0; from_values = c.0; from_flags = d.0; flags = f.0; value_names = g.0; flag_names = g.1 }

-- ---- search

-- operands that don't pass are passed over
skipped : (test : Rule → Bool) (place : ℕ) (names : List (List ℕ)) (rest : List Rule) → ((p : ℕ) (name : List ℕ) → has_text names name ≡ true → test (operand_rule p name) ≡ false)
    → find test (numbered place names ++ rest) ≡ find test rest
skipped test place [] rest e = refl
skipped test place (n ∷ names) rest e =
    rw (e place n (rw (equal n) refl)) (skipped test (suc place) names rest (λ p name is. e p name (or_right (bytes_eq n name) (has_text names name) is)))

-- the options of one kind, among which a name is looked for
looked : (name : List ℕ) (test : Rule → Bool) (f : List ℕ → Rule) → ((n : List ℕ) → test (f n) ≡ bytes_eq n name) → (names : List (List ℕ)) (rest : List Rule)
    → find test (map f names ++ rest) ≡ (if has_text names name then Some (f name) else find test rest)
looked name test f e [] rest = refl
looked name test f e (n ∷ names) rest = elim (cases_Bool (bytes_eq n name)) [
  | inl is ↦ rw (e n, is) (ap (λ x. Some (f x)) (same_text n name is))
  | inr is ↦ rw (e n, is) (looked name test f e names rest)
]

-- options that don't pass
unlooked : (test : Rule → Bool) (f : List ℕ → Rule) → ((n : List ℕ) → test (f n) ≡ false) → (names : List (List ℕ)) (rest : List Rule) → find test (map f names ++ rest) ≡ find test rest
unlooked test f e [] rest = refl
unlooked test f e (n ∷ names) rest = rw (e n) (unlooked test f e names rest)

-- ---- the lookups

-- the tests of a name, by whether the name is a value's, a flag's or neither
chosen : (x y : Bool) (name : List ℕ) → (if x then Some (value_rule name) else (if y then Some (flag_rule name) else None))
    ≡ option_map (option_rule name) (if x then Some true else (if y then Some false else None))
chosen true y name = refl
chosen false true name = refl
chosen false false name = refl

module _ (t : Table) where
  -- options by a test of the name
  among_options : (name : List ℕ) (test : Rule → Bool) → ((n : List ℕ) → test (value_rule n) ≡ bytes_eq n name) → ((n : List ℕ) → test (flag_rule n) ≡ bytes_eq n name)
      → find test (options_in t) ≡ option_map (option_rule name) (form t name)
  among_options name test v f =
      looked name test value_rule v t.values (map flag_rule t.flags)
      ∙ ap (λ o. if has_text t.values name then Some (value_rule name) else o)
      (ap (find test) (sym (append-nil (map flag_rule t.flags))) ∙ looked name test flag_rule f t.flags [])
      ∙ chosen (has_text t.values name) (has_text t.flags name) name

  -- no option passes
  no_option : (test : Rule → Bool) → ((n : List ℕ) → test (value_rule n) ≡ false) → ((n : List ℕ) → test (flag_rule n) ≡ false) → find test (options_in t) ≡ None
  no_option test v f =
      unlooked test value_rule v t.values (map flag_rule t.flags)
      ∙ ap (find test) (sym (append-nil (map flag_rule t.flags))) ∙ unlooked test flag_rule f t.flags []

  by_long_name : (name : List ℕ) → arg_by_long (rules_in t) name ≡ option_map (option_rule name) (form t name)
  by_long_name name =
      let test : Rule → Bool = λ a. not (is_some a.index) && has_long a name in
      skipped test 1 t.operands (options_in t) (λ p n e. refl) ∙ among_options name test (λ n. or_false (bytes_eq n name)) (λ n. or_false (bytes_eq n name))

  by_short_name : (x : ℕ) → arg_by_short (rules_in t) x ≡ None
  by_short_name x =
      let test : Rule → Bool = λ a. not (is_some a.index) && has_short a x in
      skipped test 1 t.operands (options_in t) (λ p n e. refl) ∙ no_option test (λ n. refl) (λ n. refl)

  -- a name of an option is that of no operand
  pub not_operand : Right t → (name : List ℕ) (b : Bool) → form t name ≡ Some b → has_text t.operands name ≡ false
  not_operand r name b e = false_from_ne_true (has_text t.operands name) (λ is.
      let v = apart_at t.operands t.values name r.from_values is in
      let f = apart_at t.operands t.flags name r.from_flags is in
      let bad : None ≡ Some b = rw (v, f) at e in
      cc)

  by_its_name : Right t → (name : List ℕ) (b : Bool) → form t name ≡ Some b → arg_by_id (rules_in t) name ≡ Some (option_rule name b)
  by_its_name r name b e =
      let test : Rule → Bool = λ a. bytes_eq a.id name in
      skipped test 1 t.operands (options_in t) (λ p n is. other_test n name (λ x. true≢false (sym is ∙ ap (has_text t.operands) x ∙ not_operand r name b e)))
      ∙ among_options name test (λ n. refl) (λ n. refl) ∙ ap (option_map (option_rule name)) e

-- operands by their place

at_place : (place : ℕ) (k : ℕ) (names : List (List ℕ)) (rest : List Rule) → find (λ a. option_map_or (λ j. j == (place + k)) a.index false) rest ≡ None
    → find (λ a. option_map_or (λ j. j == (place + k)) a.index false) (numbered place names ++ rest) ≡ option_map (operand_rule (place + k)) (slice_get names k)
at_place place k [] rest none = none
at_place place zero (n ∷ names) rest none =
    let here : place ≡ place + 0 = omega arith in
    rw (eq-eqb place (place + 0) here) (ap (λ p. Some (operand_rule p n)) here)
at_place place (suc k) (n ∷ names) rest none =
    let next : suc place + k ≡ place + suc k = omega arith in
    let more = at_place (suc place) k names rest (subst (λ m. find (λ a. option_map_or (λ j. j == m) a.index false) rest ≡ None) (sym next) none) in
    rw (ne_eqb place (place + suc k) (λ e. omega (arith, e))) (subst (λ m. find (λ a. option_map_or (λ j. j == m) a.index false) (numbered (suc place) names ++ rest) ≡ option_map (operand_rule m) (slice_get names k)) next more)

-- operands by their name
at_name : (place : ℕ) (k : ℕ) (names : List (List ℕ)) (rest : List Rule) (name : List ℕ) → all_differ names ≡ true → slice_get names k ≡ Some name
    → find (λ a. bytes_eq a.id name) (numbered place names ++ rest) ≡ Some (operand_rule (place + k) name)
at_name place k [] rest name different e = absurd cc
at_name place zero (n ∷ names) rest name different e =
    let is : n ≡ name = cc in
    let here : place ≡ place + 0 = omega arith in
    rw (ap (λ x. bytes_eq x name) is ∙ equal name) (ap₂ (λ p x. Some (operand_rule p x)) here is)
at_name place (suc k) (n ∷ names) rest name different e =
    let parts = both (not (has_text names n)) (all_differ names) different in
    let next : suc place + k ≡ place + suc k = omega arith in
    let other = other_test n name (λ x. true≢false (sym (among_at names k name e) ∙ ap (has_text names) (sym x) ∙ not-true _ parts.0)) in
    rw other (at_name (suc place) k names rest name parts.1 e ∙ ap (λ p. Some (operand_rule p name)) next)

pub finds_in : (t : Table) → Right t → Finds t (rules_in t)
finds_in t r = record {
  long = by_long_name t;
  by_name = by_its_name t r;
  index = λ k. let one : 1 + k ≡ suc k = omega arith in subst (λ m. arg_by_index (rules_in t) m ≡ option_map (operand_rule m) (slice_get t.operands k)) one
      (at_place 1 k t.operands (options_in t) (no_option t (λ a. option_map_or (λ j. j == (1 + k)) a.index false) (λ n. refl) (λ n. refl)));
  by_operand = λ k name e. let one : 1 + k ≡ suc k = omega arith in subst (λ m. arg_by_id (rules_in t) name ≡ Some (operand_rule m name)) one (at_name 1 k t.operands (options_in t) name r.operands e);
  short = by_short_name t;
  few = r.few;
}
