-- The command of a table, once it is built.
use Rattle.std.proofs.Common.{◌≡◌, ◌∙◌, ◌≤◌, ◌&&◌, ℕ, Bool, suc, true, false, not, List, [], ◌∷◌, ◌++◌, map, length, refl, sym, ap, arith, append_assoc, append-nil}
use Rattle.std.specs.Prelude.{codes, count_by, is_some}
use Rattle.std.specs.List.{fold, list_all, list_any}
use Rattle.clap.specs.Walk.{Rule, is_early_multiple}
use Rattle.clap.specs.Simple.{App, Shape, built, filled_from, is_buildable, is_in_order, is_ready, is_ready_leaf, is_simple, on_top, with_rule}
use Rattle.clap.specs.Faults.{is_free_app, is_simple_and_free}
use Rattle.std.proofs.lemmas.Bool.{and_from, not-true, not_from_false, or_from}
use Rattle.std.proofs.lemmas.List.Folds.{list_all-append}
use Rattle.clap.proofs.WalkLemmas.{both}
use Rattle.xdg_command.specs.Syntax.{Table, app_in, args_in, bare, flag_arg, operand_arg, value_arg}
use Rattle.xdg_command.proofs.Rules.{flag_rule, operand_rule, value_rule}

-- ---- lists of rules

all_map : {A : Type 0} (p : Rule → Bool) (f : A → Rule) → ((a : A) → p (f a) ≡ true) → (xs : List A) → list_all p (map f xs) ≡ true
all_map p f e [] = refl
all_map p f e (x ∷ xs) = rw (e x) (all_map p f e xs)

all_joined : (p : Rule → Bool) (xs ys : List Rule) → list_all p xs ≡ true → list_all p ys ≡ true → list_all p (xs ++ ys) ≡ true
all_joined p xs ys a b = list_all-append p xs ys ∙ and_from (list_all p xs) (list_all p ys) a b

none_of : (p : Rule → Bool) (xs : List Rule) → list_all (λ a. not (p a)) xs ≡ true → list_any p xs ≡ false
none_of p [] e = refl
none_of p (x ∷ xs) e = let parts = both (not (p x)) (list_all (λ a. not (p a)) xs) e in or_from (p x) (list_any p xs) (not-true (p x) parts.0) (none_of p xs parts.1)

-- operands, numbered from a place
abbrev pub numbered : ℕ → List (List ℕ) → List Rule
numbered place [] = []
numbered place (name ∷ names) = operand_rule place name ∷ numbered (suc place) names

all_numbered : (p : Rule → Bool) → ((place : ℕ) (name : List ℕ) → p (operand_rule place name) ≡ true) → (place : ℕ) (xs : List (List ℕ)) → list_all p (numbered place xs) ≡ true
all_numbered p e place [] = refl
all_numbered p e place (x ∷ xs) = rw (e place x) (all_numbered p e (suc place) xs)

-- ---- the rules of the built command

abbrev pub options_in : Table → List Rule
options_in t = map value_rule t.values ++ map flag_rule t.flags

abbrev pub rules_in : Table → List Rule
rules_in t = numbered 1 t.operands ++ options_in t

abbrev pub shape_in : Table → Shape
shape_in t = record (bare (codes "xdg")).top { rules = rules_in t; is_built = true }

pub all_rules : (p : Rule → Bool) (t : Table) → ((place : ℕ) (name : List ℕ) → p (operand_rule place name) ≡ true) → ((name : List ℕ) → p (value_rule name) ≡ true)
    → ((name : List ℕ) → p (flag_rule name) ≡ true) → list_all p (rules_in t) ≡ true
all_rules p t o v f =
    all_joined p (numbered 1 t.operands) (options_in t) (all_numbered p o 1 t.operands)
    (all_joined p (map value_rule t.values) (map flag_rule t.flags) (all_map p value_rule v t.values) (all_map p flag_rule f t.flags))

pub no_rule : (p : Rule → Bool) (t : Table) → ((place : ℕ) (name : List ℕ) → p (operand_rule place name) ≡ false) → ((name : List ℕ) → p (value_rule name) ≡ false)
    → ((name : List ℕ) → p (flag_rule name) ≡ false) → list_any p (rules_in t) ≡ false
no_rule p t o v f =
    none_of p (rules_in t) (all_rules (λ a. not (p a)) t (λ place name. not_from_false _ (o place name)) (λ name. not_from_false _ (v name)) (λ name. not_from_false _ (f name)))

-- ---- building

-- arguments are added at the end
adds : (a : App) (rules : List Rule) → fold with_rule a rules ≡ on_top (λ s. record s { rules = s.rules ++ rules }) a
adds a [] = ap (λ rules. on_top (λ s. record s { rules = rules }) a) (sym (append-nil a.top.rules))
adds a (r ∷ rules) = adds (with_rule a r) rules ∙ ap (λ rules. on_top (λ s. record s { rules = rules }) a) (append_assoc a.top.rules (r ∷ []) rules)

abbrev unbuilt : Table → App
unbuilt t = on_top (λ s. record s { rules = args_in t }) (bare (codes "xdg"))

pub app_is : (t : Table) → app_in t ≡ unbuilt t
app_is t = adds (bare (codes "xdg")) (args_in t)

filled_flags : (place : ℕ) (flags : List (List ℕ)) → filled_from place (map flag_arg flags) ≡ map flag_rule flags
filled_flags place [] = refl
filled_flags place (name ∷ names) = ap (λ rules. flag_rule name ∷ rules) (filled_flags place names)

filled_options : (place : ℕ) (values flags : List (List ℕ)) → filled_from place (map value_arg values ++ map flag_arg flags) ≡ map value_rule values ++ map flag_rule flags
filled_options place [] flags = filled_flags place flags
filled_options place (name ∷ names) flags = ap (λ rules. value_rule name ∷ rules) (filled_options place names flags)

filled_args : (operands values flags : List (List ℕ)) → length operands ≤ 2
    → filled_from 1 (map operand_arg operands ++ (map value_arg values ++ map flag_arg flags)) ≡ numbered 1 operands ++ (map value_rule values ++ map flag_rule flags)
filled_args [] values flags few = filled_options 1 values flags
filled_args (a ∷ []) values flags few = ap (λ rules. operand_rule 1 a ∷ rules) (filled_options 2 values flags)
filled_args (a ∷ b ∷ []) values flags few = ap (λ rules. operand_rule 1 a ∷ operand_rule 2 b ∷ rules) (filled_options 3 values flags)
filled_args (a ∷ b ∷ c ∷ more) values flags few = absurd (omega (arith, few))

module _ (t : Table) (few : length t.operands ≤ 2) where
  pub built_is : built (app_in t) ≡ record { top = shape_in t; subs = [] }
  built_is = ap built (app_is t) ∙ ap (λ rules. let made : App = record { top = record (bare (codes "xdg")).top { rules = rules; is_built = true }; subs = [] } in made) (filled_args t.operands t.values t.flags few)

  args_pass : (p : Rule → Bool) → ((name : List ℕ) → p (operand_arg name) ≡ true) → ((name : List ℕ) → p (value_arg name) ≡ true) → ((name : List ℕ) → p (flag_arg name) ≡ true)
      → list_all p (args_in t) ≡ true
  args_pass p o v f = all_joined p _ _ (all_map p operand_arg o t.operands) (all_joined p _ _ (all_map p value_arg v t.values) (all_map p flag_arg f t.flags))

  buildable : is_buildable (app_in t) ≡ true
  buildable = ap is_buildable (app_is t) ∙ and_from (list_all (λ a. a.is_simple) (args_in t)) true (args_pass (λ a. a.is_simple) (λ name. refl) (λ name. refl) (λ name. refl)) refl

  in_order : (n : ℕ) → not (list_any (is_early_multiple n) (rules_in t)) ≡ true
  in_order n = not_from_false (list_any (is_early_multiple n) (rules_in t)) (no_rule (is_early_multiple n) t (λ place name. refl) (λ name. refl) (λ name. refl))

  ready : is_ready (shape_in t) ≡ true
  ready =
      and_from (list_all (λ a. a.is_simple) (rules_in t)) (is_in_order (rules_in t)) (all_rules (λ a. a.is_simple) t (λ place name. refl) (λ name. refl) (λ name. refl))
      (in_order (count_by (λ a. is_some a.index) (rules_in t)))

  pub simple_app : is_simple (app_in t) ≡ true
  simple_app =
      and_from (is_buildable (app_in t)) (is_ready (built (app_in t)).top && list_all is_ready_leaf (built (app_in t)).subs) buildable
      (ap (λ (a : App). is_ready a.top && list_all is_ready_leaf a.subs) built_is ∙ and_from (is_ready (shape_in t)) true ready refl)

  free : is_free_app (built (app_in t)) ≡ true
  free = ap is_free_app built_is ∙ and_from (list_all (λ a. a.is_free) (rules_in t)) true (all_rules (λ a. a.is_free) t (λ place name. refl) (λ name. refl) (λ name. refl)) refl

  pub simple_and_free : is_simple_and_free (app_in t) ≡ true
  simple_and_free = and_from (is_simple (app_in t)) (is_free_app (built (app_in t))) simple_app free
