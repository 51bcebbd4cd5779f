-- The items of a command are of one record alone.
use Rattle.std.proofs.Common.{◌≡◌, ◌∙◌, ℕ, List, [], ◌∷◌, length, Option, Some, None, refl, sym, ap, subst, arith}
use Rattle.std.specs.Prelude.{slice_index}
use Rattle.std.specs.Str.Parse.{digits_value}
use Rattle.xdg_command.specs.Answers.{IsExactly}
use Rattle.xdg_command.specs.Commands.{HasBudget, HasFirst, HasText, IsDrillNumber, SaysArrange, SaysBest, SaysCorpus, SaysDrill, SaysExplain, SaysParse, SaysResume}
use Rattle.xdg_command.specs.Items.{operands_of}
use Rattle.xdg_command.specs.Readings.{IsDrill, IsOneFile}
use Rattle.xdg_command.specs.Syntax.{arranged, corpused, costed, explained, one_file, parsed, resumed}
use Rattle.xdg_text.specs.declared.form.Form.{Form}
use Rattle.xdg_text.specs.declared.form.Form.TheVariants as forms
use Rattle.xdg_command.proofs.Commanded.{Meaning}

-- ---- operands and values of options

first : {a b : List ℕ} {more others xs : List (List ℕ)} → xs ≡ a ∷ more → xs ≡ b ∷ others → a ≡ b
first e f = cc

second : {a b x y : List ℕ} {more others xs : List (List ℕ)} → xs ≡ x ∷ a ∷ more → xs ≡ y ∷ b ∷ others → a ≡ b
second e f = cc

one_budget : (given : Option (List ℕ)) (a b : ℕ) → HasBudget given a → HasBudget given b → a ≡ b
one_budget None a b p q = p ∙ sym q
one_budget (Some text) a b p q = p.value ∙ sym q.value

one_first : (given : Option (List ℕ)) (a b : Option ℕ) → HasFirst given a → HasFirst given b → a ≡ b
one_first None None None p q = refl
one_first None None (Some b) p q = absurd q
one_first None (Some a) b p q = absurd p
one_first (Some text) None b p q = absurd p
one_first (Some text) (Some a) None p q = absurd q
one_first (Some text) (Some a) (Some b) p q = ap (λ n. Some n) (p.value ∙ sym q.value)

one_text : (given : Option (List ℕ)) (a b : Form) → HasText given a → HasText given b → a ≡ b
one_text None a b p q = p ∙ sym q
one_text (Some text) forms.One forms.One p q = refl
one_text (Some text) forms.One forms.Two p q = let bad : 49 ≡ 50 = ap (λ xs. slice_index xs 0) (sym p ∙ q) in absurd (omega (arith, bad))
one_text (Some text) forms.Two forms.One p q = let bad : 50 ≡ 49 = ap (λ xs. slice_index xs 0) (sym p ∙ q) in absurd (omega (arith, bad))
one_text (Some text) forms.Two forms.Two p q = refl

-- ---- commands

pub file_is : Meaning one_file (λ items name. operands_of items ≡ name ∷ [])
file_is = record { right = refl; operands = λ items a e. ap length e; one = λ items a b p q. first p q }

pub drill_is : Meaning one_file SaysDrill
drill_is = record {
  right = refl;
  operands = λ items a says. ap length says.alone;
  one = λ items a b p q. p.writes.value ∙ ap (digits_value 10) (first p.alone q.alone) ∙ sym q.writes.value;
}

pub explain_is : Meaning explained SaysExplain
explain_is = record {
  right = refl;
  operands = λ items a says. ap length says.files;
  one = λ items a b p q. λ i. record { grammar = first p.files q.files i; analysis = second p.files q.files i; rules = (p.rules ∙ sym q.rules) i };
}

pub parse_is : Meaning parsed SaysParse
parse_is = record {
  right = refl;
  operands = λ items a says. ap length says.grammar;
  one = λ items a b p q. λ i. record {
    grammar = first p.grammar q.grammar i;
    budget = one_budget _ _ _ p.budget q.budget i;
    first = one_first _ _ _ p.first q.first i;
    segment = (p.segment ∙ sym q.segment) i;
    text = one_text _ _ _ p.text q.text i;
    split = (p.split ∙ sym q.split) i;
    rules = (p.rules ∙ sym q.rules) i;
  };
}

pub resume_is : Meaning resumed SaysResume
resume_is = record {
  right = refl;
  operands = λ items a says. ap length says.files;
  one = λ items a b p q. λ i. record {
    grammar = first p.files q.files i;
    analysis = second p.files q.files i;
    budget = one_budget _ _ _ p.budget q.budget i;
    first = one_first _ _ _ p.first q.first i;
    text = one_text _ _ _ p.text q.text i;
    rules = (p.rules ∙ sym q.rules) i;
  };
}

pub corpus_is : Meaning corpused SaysCorpus
corpus_is = record {
  right = refl;
  operands = λ items a says. ap length says.grammar;
  one = λ items a b p q. λ i. record {
    grammar = first p.grammar q.grammar i;
    budget = one_budget _ _ _ p.budget q.budget i;
    first = one_first _ _ _ p.first q.first i;
    segment = (p.segment ∙ sym q.segment) i;
  };
}

pub arrange_is : Meaning arranged SaysArrange
arrange_is = record {
  right = refl;
  operands = λ items a says. ap length says.grammar;
  one = λ items a b p q. λ i. record { grammar = first p.grammar q.grammar i; budget = one_budget _ _ _ p.budget q.budget i; segment = (p.segment ∙ sym q.segment) i };
}

pub best_is : Meaning costed SaysBest
best_is = record {
  right = refl;
  operands = λ items a says. ap length says.files;
  one = λ items a b p q. λ i. record {
    grammar = first p.files q.files i;
    costs = second p.files q.files i;
    budget = one_budget _ _ _ p.budget q.budget i;
    segment = (p.segment ∙ sym q.segment) i;
  };
}

-- ---- `drill`, whose words are those of one file

module _ (words : List (List ℕ)) where
  named : (number : ℕ) (w : IsDrill words number) → IsOneFile words w.says.text
  named number w = record { items = w.items; read = w.read; once = w.once; says = w.says.alone }

  pub drill_none : ((name : List ℕ) → IsOneFile words name → ⊥) → (number : ℕ) → IsDrill words number → ⊥
  drill_none none number w = none w.says.text (named number w)

  pub drill_found : (text : List ℕ) → IsExactly (IsOneFile words) (Some text) → (answer : Option ℕ) → IsExactly (IsDrillNumber text) answer → IsExactly (IsDrill words) answer
  drill_found text file None none = λ number w. none number (subst (λ t. IsDrillNumber t number) (file.1 w.says.text (named number w)) w.says.writes)
  drill_found text file (Some number) exact = (
    record { items = file.0.items; read = file.0.read; once = file.0.once; says = record { text = text; alone = file.0.says; writes = exact.0 } },
    λ other w. exact.1 other (subst (λ t. IsDrillNumber t other) (file.1 w.says.text (named other w)) w.says.writes),
  )
