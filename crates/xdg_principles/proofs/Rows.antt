-- What the table of principles says of each principle, and that a name of grammar texts is that of one of them.
use Rattle.xdg_facts.proofs.Each.{each_in}
use Rattle.xdg_facts.proofs.Options.{some_same}
use Rattle.std.proofs.Common.{◌≡◌, inl, inr, ℕ, List, [], ◌∷◌, Some, sym, ap, ◌∙◌, subst, rules}
use Rattle.std.specs.List.{AllByRecursion}
use Rattle.std.specs.Prelude.{if◌then◌else◌, bytes_eq}
use Rattle.std.proofs.lemmas.Bool.{cases_Bool}
use Rattle.xdg_problem.specs.declared.forms.Parameter.{Parameter}
use Rattle.xdg_problem.specs.declared.forms.Preset.{Preset}
use Rattle.xdg_problem.specs.declared.forms.Preset.TheVariants as p
use Rattle.xdg_problem.specs.declared.forms.Wanted.{Wanted}
use Rattle.xdg_problem.specs.declared.forms.Wanted.TheVariants as a
use Rattle.xdg_problem.specs.declared.parts.Principle.{Principle}
use Rattle.xdg_problem.specs.declared.parts.Principle.TheVariants as principles
use Rattle.xdg_problem.specs.Forms.{form_of, parameters}
use Rattle.xdg_problem.specs.Names.{IsOfTexts, named, named_in}
use Rattle.xdg_problem.specs.Principles.{all_principles, name_of}
use Rattle.xdg_facts.specs.Membership.{In}

-- ---- names

found_in : (ps : List Principle) (name : List ℕ) (principle : Principle) → AllByRecursion IsOfTexts ps → named_in ps name ≡ Some principle → IsOfTexts principle
found_in [] name principle all e = absurd cc
found_in (p ∷ ps) name principle all e = elim (cases_Bool (bytes_eq name (name_of p))) [
  | inl q ↦ subst IsOfTexts (some_same p principle (sym (ap (λ b. if b then Some p else named_in ps name) q) ∙ e)) all.0
  | inr q ↦ found_in ps name principle all.1 (sym (ap (λ b. if b then Some p else named_in ps name) q) ∙ e)
]

-- a principle that has a name in grammar texts is one of those that they can use
pub of_texts : (name : List ℕ) (principle : Principle) → named name ≡ Some principle → IsOfTexts principle
unfolding named
of_texts name principle e = found_in all_principles name principle (tt, (tt, (tt, (tt, (tt, (tt, (tt, (tt, (tt, (tt, (tt, (tt, (tt, (tt, (tt, (tt, (tt, (tt, (tt, tt))))))))))))))))))) e

-- ---- parameters

-- a feature or an attribute is required or by default a feature, and labels are required
abbrev pub IsDefaulted : Wanted → Preset → Type 0
IsDefaulted (a.Member sort which typing) p.False = ⊥
IsDefaulted (a.Labels which) p.Required = Unit {0}
IsDefaulted (a.Labels which) _ = ⊥
IsDefaulted _ _ = Unit {0}

abbrev Defaulted : Parameter → Type 0
Defaulted x = IsDefaulted x.wanted x.preset

all_defaulted : (principle : Principle) → AllByRecursion Defaulted (parameters (form_of principle))
all_defaulted principles.Graph = tt
all_defaulted principle = search rules

pub sound_parameter : (principle : Principle) (x : Parameter) → In (parameters (form_of principle)) x → IsDefaulted x.wanted x.preset
sound_parameter principle x = each_in Defaulted (parameters (form_of principle)) x (all_defaulted principle)
