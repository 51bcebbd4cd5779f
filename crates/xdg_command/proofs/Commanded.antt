-- What is found is what the words after a name say, whatever the command.
use Rattle.std.proofs.Common.{◌≡◌, ◌∙◌, ℕ, Bool, true, false, List, length, Option, Some, None, sym, ap, subst, arith}
use Rattle.std.specs.Prelude.{codes, slice_get, if◌then◌else◌}
use Rattle.clap.specs.Matches.{first_value, found_of, one_text}
use Rattle.clap.specs.Simple.{App}
use Rattle.clap.specs.declared.parser.matches.ArgMatches.{ArgMatches}
use Rattle.xdg_command.specs.Answers.{IsExactly}
use Rattle.xdg_command.specs.Found.{Matches}
use Rattle.xdg_command.specs.Items.{AreItems, Item, has_flag, operands_of, value_of}
use Rattle.xdg_base.specs.Texts.{has_text}
use Rattle.xdg_command.specs.Readings.{AreWords}
use Rattle.xdg_command.specs.Syntax.{Table, app_in, is_right}
use Rattle.xdg_command.proofs.Lookups.{right}
use Rattle.xdg_command.proofs.Spelled.{read_items}
use Rattle.std.proofs.lemmas.Option.{slice_get_within}
use Rattle.xdg_facts.proofs.Lists.{some_at}

-- what the items of a command say: of as many operands as its table has, and of one thing alone
pub record Meaning {A : Type 0} (t : Table) (S : List Item → A → Type 0) : Type 0 where
  pub right : is_right t ≡ true
  pub operands : (items : List Item) (a : A) → S items a → length (operands_of items) ≡ length t.operands
  pub one : (items : List Item) (a b : A) → S items a → S items b → a ≡ b

-- what the words say
abbrev pub AreSaid : {A : Type 0} → Table → (List Item → A → Type 0) → List (List ℕ) → A → Type 0
AreSaid t S words a = AreWords t.values t.flags words (λ items. S items a)

-- what is found by a command of `clap`, if it is that of the table
abbrev pub Searched : App → List (List ℕ) → Option ArgMatches → Type 0
Searched app words found = (t : Table) → is_right t ≡ true → app ≡ app_in t → Matches t words found

-- what is found by a command of `clap` that is that of the table
pub matched : {A : Type 0} {t : Table} {S : List Item → A → Type 0} → Meaning t S → (words : List (List ℕ)) {app : App} (o : Option ArgMatches) {found : Option ArgMatches} → Searched app words o → app ≡ app_in t → o ≡ found
    → Matches t words found
matched {t} means words o finds table is = subst (Matches t words) is (finds t means.right table)

module _ {A : Type 0} {t : Table} {S : List Item → A → Type 0} (means : Meaning t S) {words : List (List ℕ)} where
  -- words are read as one list of items
  said : (items : List Item) → AreItems t.values t.flags words items → (a : A) → AreSaid t S words a → S items a
  said items read a w =
      let reads = read_items t (right t means.right) words in
      let same : Some w.items ≡ Some items = sym (reads w.items w.read) ∙ reads items read in
      let is : w.items ≡ items = cc in
      subst (λ xs. S xs a) is w.says

  pub one_said : (a b : A) → AreSaid t S words a → AreSaid t S words b → a ≡ b
  one_said a b p q = means.one p.items a b p.says (said p.items p.read b q)

  -- words that don't fit say nothing
  pub unfit : Matches t words None → (a : A) → AreSaid t S words a → ⊥
  unfit none a w = none w.items (record { read = w.read; once = w.once; few = omega (arith, means.operands w.items a w.says) })

  module _ {found : ArgMatches} (m : Matches t words (Some found)) where
    unsaid : ((a : A) → S m.0 a → ⊥) → (a : A) → AreSaid t S words a → ⊥
    unsaid none a w = none a (said m.0 m.1.read a w)

    -- an operand is lacking
    pub lacking : (k : ℕ) (name : List ℕ) → slice_get t.operands k ≡ Some name → first_value (found_of found) name ≡ None → (a : A) → AreSaid t S words a → ⊥
    lacking k name here none = unsaid (λ a says.
        let some = some_at (operands_of m.0) k (omega (arith, slice_get_within t.operands k name here, means.operands m.0 a says)) in
        let bad : None ≡ Some some.0 = sym none ∙ m.2.operands k name here ∙ some.1 in
        cc)

    -- the value of an option can't be read
    pub unread : {B : Type 0} (R : Option (List ℕ) → B → Type 0) (name : List ℕ) → has_text t.values name ≡ true → {given : Option (List ℕ)} → given ≡ first_value (found_of found) name
        → ((b : B) → R given b → ⊥) → ((a : A) → S m.0 a → (b : B) × R (value_of name m.0) b) → (a : A) → AreSaid t S words a → ⊥
    unread R name mine is none reads = unsaid (λ a says. let r = reads a says in none r.0 (subst (λ o. R o r.0) (sym (is ∙ m.2.values name mine)) r.1))

    -- what the items say, the words say
    pub exactly : (a : A) → S m.0 a → IsExactly (AreSaid t S words) (Some a)
    exactly a says = (record { items = m.0; read = m.1.read; once = m.1.once; says = says }, λ b w. means.one m.0 b a (said m.0 m.1.read b w) says)

-- what is found of an operand, of an option with a value and of one without is what the items say
module _ {t : Table} {words : List (List ℕ)} {found : ArgMatches} (m : Matches t words (Some found)) where
  pub operand_said : (k : ℕ) (name : List ℕ) → slice_get t.operands k ≡ Some name → {text file : List ℕ} → Some text ≡ first_value (found_of found) name → file ≡ text
      → slice_get (operands_of m.0) k ≡ Some file
  operand_said k name here is same = sym (m.2.operands k name here) ∙ sym is ∙ ap (λ x. Some x) (sym same)

  pub value_said : {B : Type 0} (R : Option (List ℕ) → B → Type 0) (name : List ℕ) → has_text t.values name ≡ true → {given : Option (List ℕ)} → given ≡ first_value (found_of found) name
      → {b : B} → IsExactly (R given) (Some b) → R (value_of name m.0) b
  value_said R name mine is {b} exact = subst (λ o. R o b) (is ∙ m.2.values name mine) exact.0

  pub flag_said : (name : List ℕ) → has_text t.flags name ≡ true → (b : Bool) → (one_text (found_of found) name ≡ Some (codes "true") → b ≡ true)
      → (one_text (found_of found) name ≡ Some (codes "false") → b ≡ false) → b ≡ has_flag name m.0
  flag_said name mine b set unset = go (has_flag name m.0) (m.2.flags name mine)
    where
      go : (x : Bool) → one_text (found_of found) name ≡ Some (if x then codes "true" else codes "false") → b ≡ x
      go true e = set e
      go false e = unset e
