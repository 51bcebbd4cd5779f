-- The reader reads just the words that are items.
use Rattle.std.proofs.Common.{◌≡◌, ◌≢◌, ◌∙◌, ◌==◌, ℕ, Bool, true, false, List, [], ◌∷◌, ◌++◌, inl, inr, map, Option, Some, None, refl, sym, ap, ap₂, subst, ◌+◌, suc, take, drop, arith}
use Rattle.std.specs.Prelude.{if◌then◌else◌}
use Rattle.std.specs.List.{after_first, before_first, position_or_len, list_any}
use Rattle.std.specs.Str.{bytes_eq}
use Rattle.std.proofs.lemmas.Bool.{and_right, cases_Bool, eqb-true, not-true, or_parts, or_right, true≢false}
use Rattle.clap.specs.Lexer.{has_byte, long_of, short_of}
use Rattle.xdg_command.specs.Items.{AreItems, ended, operands, by_operand, by_flag, by_next, by_equals, Item, operand, valued, flagged, dashed, is_dashed}
use Rattle.xdg_base.specs.Texts.{has_text}
use Rattle.xdg_command.specs.Syntax.{Table, is_name}
use Rattle.xdg_command.proofs.Lookups.{Right, apart_at, named}
use Rattle.xdg_command.proofs.Reader.{behind, by_form, by_letters, by_long, by_value, read, unless_long}
use Rattle.xdg_command.proofs.Rules.{form}
use Rattle.xdg_facts.proofs.Texts.{same_text}

-- ---- words

-- what a word is: not dashed, a hyphen before letters, two hyphens, or these before a name
pub data Seen : List ℕ → Type 0 where
  undashed : (word : List ℕ) → is_dashed word ≡ false → Seen word
  lettered : (y : ℕ) (ys : List ℕ) → (y == 45) ≡ false → Seen (45 ∷ y ∷ ys)
  hyphens : Seen (dashed [])
  longer : (z : ℕ) (zs : List ℕ) → Seen (dashed (z ∷ zs))

hyphen : (y : ℕ) (ys : List ℕ) → Seen (45 ∷ y ∷ ys)
hyphen y ys = elim (cases_Bool (y == 45)) [ inl is ↦ subst (λ x. Seen (45 ∷ x ∷ ys)) (sym (eqb-true y 45 is)) (two ys) | inr is ↦ lettered y ys is ]
  where
    two : (ys : List ℕ) → Seen (dashed ys)
    two [] = hyphens
    two (z ∷ zs) = longer z zs

pub seen : (word : List ℕ) → Seen word
seen [] = undashed [] refl
seen (x ∷ []) = undashed (x ∷ []) refl
seen (x ∷ y ∷ ys) = elim (cases_Bool (x == 45)) [ inl is ↦ subst (λ z. Seen (z ∷ y ∷ ys)) (sym (eqb-true x 45 is)) (hyphen y ys) | inr is ↦ undashed (x ∷ y ∷ ys) is ]

-- what a word is that is not dashed
pub record IsPlain (word : List ℕ) : Type 0 where
  pub not_end : bytes_eq word (dashed []) ≡ false
  pub not_long : long_of word ≡ None
  pub not_short : short_of word ≡ None

pub plain : (word : List ℕ) → is_dashed word ≡ false → IsPlain word
plain [] e = record { not_end = refl; not_long = refl; not_short = refl }
plain (x ∷ []) e = elim (cases_Bool (x == 45)) [
  | inl is ↦ record { not_end = and_right (x == 45) false refl; not_long = rw is refl; not_short = rw is refl }
  | inr is ↦ record { not_end = and_right (x == 45) false refl; not_long = rw is refl; not_short = rw is refl }
]
plain (x ∷ y ∷ word) e = record { not_end = rw e refl; not_long = rw e refl; not_short = rw e refl }

pub dashed_not : (word : List ℕ) → Seen word → bytes_eq word (dashed []) ≡ false → long_of word ≡ None → short_of word ≡ None → is_dashed word ≡ false
dashed_not _ (undashed word e) not_end not_long not_short = e
dashed_not _ (lettered y ys e) not_end not_long not_short = let bad : Some (y ∷ ys) ≡ None = rw e at not_short in absurd cc
dashed_not _ hyphens not_end not_long not_short = absurd (true≢false not_end)
dashed_not _ (longer z zs) not_end not_long not_short = absurd cc

-- ---- names

before_more : (x : ℕ) (xs : List ℕ) → (x == 61) ≡ false → before_first (λ y. y == 61) (x ∷ xs) ≡ x ∷ before_first (λ y. y == 61) xs
before_more x xs e =
    let n = position_or_len (λ y. y == 61) xs in
    let next : 1 + n ≡ suc n = omega arith in
    rw e (ap (λ m. take m (x ∷ xs)) next)

after_more : (x : ℕ) (xs : List ℕ) → (x == 61) ≡ false → after_first (λ y. y == 61) (x ∷ xs) ≡ after_first (λ y. y == 61) xs
after_more x xs e =
    let n = position_or_len (λ y. y == 61) xs in
    let next : 1 + n + 1 ≡ suc (n + 1) = omega arith in
    rw e (ap (λ m. drop m (x ∷ xs)) next)

before_equals : (name rest : List ℕ) → list_any (λ byte. byte == 61) name ≡ false → before_first (λ x. x == 61) (name ++ 61 ∷ rest) ≡ name
before_equals [] rest e = refl
before_equals (x ∷ name) rest e =
    let parts = or_parts (x == 61) (list_any (λ byte. byte == 61) name) e in
    before_more x (name ++ 61 ∷ rest) parts.0 ∙ ap (λ xs. x ∷ xs) (before_equals name rest parts.1)

after_equals : (name rest : List ℕ) → list_any (λ byte. byte == 61) name ≡ false → after_first (λ x. x == 61) (name ++ 61 ∷ rest) ≡ rest
after_equals [] rest e = refl
after_equals (x ∷ name) rest e =
    let parts = or_parts (x == 61) (list_any (λ byte. byte == 61) name) e in
    after_more x (name ++ 61 ∷ rest) parts.0 ∙ after_equals name rest parts.1

has_equals : (name rest : List ℕ) → has_byte 61 (name ++ 61 ∷ rest) ≡ true
has_equals [] rest = refl
has_equals (x ∷ name) rest = or_right (x == 61) _ (has_equals name rest)

all_before : (name : List ℕ) → list_any (λ byte. byte == 61) name ≡ false → before_first (λ x. x == 61) name ≡ name
all_before [] e = refl
all_before (x ∷ name) e =
    let parts = or_parts (x == 61) (list_any (λ byte. byte == 61) name) e in
    before_more x name parts.0 ∙ ap (λ xs. x ∷ xs) (all_before name parts.1)

-- a text with `=` is what stands before the first, and what stands after it
parts_of : (text : List ℕ) → has_byte 61 text ≡ true → text ≡ before_first (λ x. x == 61) text ++ 61 ∷ after_first (λ x. x == 61) text
parts_of [] e = absurd (true≢false (sym e))
parts_of (x ∷ text) e = elim (cases_Bool (x == 61)) [
  | inl is ↦ rw is (ap (λ y. y ∷ text) (eqb-true x 61 is))
  | inr is ↦ ap (λ xs. x ∷ xs) (parts_of text (rw is at e)) ∙ ap₂ (λ xs ys. xs ++ 61 ∷ ys) (sym (before_more x text is)) (sym (after_more x text is))
]

-- how an option with a name and a value is spelled
abbrev pub spelling : List ℕ → Option (List ℕ) → List ℕ
spelling name None = dashed name
spelling name (Some value) = dashed name ++ 61 ∷ value

pub spelled : (word : List ℕ) → Seen word → (p : List ℕ × Option (List ℕ)) → long_of word ≡ Some p → word ≡ spelling p.0 p.1
spelled _ (undashed word e) p long = let bad : None ≡ Some p = sym (plain word e).not_long ∙ long in absurd cc
spelled _ (lettered y ys e) p long = let bad : None ≡ Some p = rw e at long in absurd cc
spelled _ hyphens p long = absurd cc
spelled _ (longer z zs) p long = elim (cases_Bool (has_byte 61 (z ∷ zs))) [
  | inl equals ↦
      let is : Some (before_first (λ x. x == 61) (z ∷ zs), Some (after_first (λ x. x == 61) (z ∷ zs))) ≡ Some p = rw equals at long in
      let pair : (before_first (λ x. x == 61) (z ∷ zs), Some (after_first (λ x. x == 61) (z ∷ zs))) ≡ p = cc in
      subst (λ q. dashed (z ∷ zs) ≡ spelling q.0 q.1) pair (ap dashed (parts_of (z ∷ zs) equals))
  | inr equals ↦
      let is : Some (before_first (λ x. x == 61) (z ∷ zs), None) ≡ Some p = rw equals at long in
      let pair : (before_first (λ x. x == 61) (z ∷ zs), None) ≡ p = cc in
      subst (λ q. dashed (z ∷ zs) ≡ spelling q.0 q.1) pair (ap dashed (sym (all_before (z ∷ zs) equals)))
]

-- ---- the reader reads items

-- what a word is that spells an option
pub record IsOption (word name : List ℕ) (value : Option (List ℕ)) : Type 0 where
  pub not_end : bytes_eq word (dashed []) ≡ false
  pub long : long_of word ≡ Some (name, value)

option_word : (name : List ℕ) → is_name name ≡ true → IsOption (dashed name) name None
option_word [] e = absurd (true≢false (sym e))
option_word (x ∷ name) e =
    let none = not-true (list_any (λ byte. byte == 61) (x ∷ name)) e in
    record { not_end = refl; long = rw none (ap (λ n. Some (n, None)) (all_before (x ∷ name) none)) }

equals_word : (name value : List ℕ) → is_name name ≡ true → IsOption (dashed name ++ 61 ∷ value) name (Some value)
equals_word [] value e = absurd (true≢false (sym e))
equals_word (x ∷ name) value e =
    let none = not-true (list_any (λ byte. byte == 61) (x ∷ name)) e in
    record {
      not_end = refl;
      long = rw (has_equals (x ∷ name) value) (ap₂ (λ n v. Some (n, Some v)) (before_equals (x ∷ name) value none) (after_equals (x ∷ name) value none));
    }

module _ (t : Table) (r : Right t) where
  pub value_form : (name : List ℕ) → has_text t.values name ≡ true → form t name ≡ Some true
  value_form name e = rw e refl

  pub flag_form : (name : List ℕ) → has_text t.flags name ≡ true → form t name ≡ Some false
  flag_form name e = rw (apart_at t.flags t.values name r.flags e, e) refl

  operand_read : (word : List ℕ) (words : List (List ℕ)) → is_dashed word ≡ false → read t None (word ∷ words) ≡ behind (operand word) (read t None words)
  operand_read word words e = let p = plain word e in rw (p.not_end, p.not_long, p.not_short) refl

  flag_read : (word name : List ℕ) (words : List (List ℕ)) → IsOption word name None → form t name ≡ Some false → read t None (word ∷ words) ≡ behind (flagged name) (read t None words)
  flag_read word name words o f = rw (o.not_end, o.long, f) refl

  next_read : (word name : List ℕ) (words : List (List ℕ)) → IsOption word name None → form t name ≡ Some true → read t None (word ∷ words) ≡ read t (Some name) words
  next_read word name words o f = rw (o.not_end, o.long, f) refl

  equals_read : (word name value : List ℕ) (words : List (List ℕ)) → IsOption word name (Some value) → form t name ≡ Some true
      → read t None (word ∷ words) ≡ by_value name value (read t None words)
  equals_read word name value words o f = rw (o.not_end, o.long, f) refl

  awaited_read : (name value : List ℕ) (words : List (List ℕ)) → is_dashed value ≡ false → read t (Some name) (value ∷ words) ≡ by_value name value (read t None words)
  awaited_read name value words e = let p = plain value e in rw (p.not_end, p.not_long, p.not_short) refl

  value_read : (name value : List ℕ) (rest : Option (List Item)) → value ≢ [] → by_value name value rest ≡ behind (valued name value) rest
  value_read name [] rest some = absurd (some refl)
  value_read name (x ∷ value) rest some = refl

  pub read_items : (words : List (List ℕ)) (items : List Item) → AreItems t.values t.flags words items → read t None words ≡ Some items
  read_items _ _ ended = refl
  read_items _ _ (operands words) = refl
  read_items _ _ (by_operand word words items e more) = operand_read word words e ∙ ap (behind (operand word)) (read_items words items more)
  read_items _ _ (by_flag name words items e more) =
      flag_read (dashed name) name words (option_word name (named is_name t.flags name r.flag_names e)) (flag_form name e)
      ∙ ap (behind (flagged name)) (read_items words items more)
  read_items _ _ (by_next name value words items e some plain more) =
      next_read (dashed name) name (value ∷ words) (option_word name (named is_name t.values name r.value_names e)) (value_form name e)
      ∙ awaited_read name value words plain ∙ value_read name value (read t None words) some
      ∙ ap (behind (valued name value)) (read_items words items more)
  read_items _ _ (by_equals name value words items e some more) =
      equals_read (dashed name ++ 61 ∷ value) name value words (equals_word name value (named is_name t.values name r.value_names e)) (value_form name e)
      ∙ value_read name value (read t None words) some ∙ ap (behind (valued name value)) (read_items words items more)

  -- ---- what is read is items

  abbrev Items : List (List ℕ) → List Item → Type 0
  Items = AreItems t.values t.flags

  form_is : (x y b : Bool) → (if x then Some true else (if y then Some false else None)) ≡ Some b → (if b then x else y) ≡ true
  form_is true y b e = let is : true ≡ b = cc in subst (λ c. (if c then true else y) ≡ true) is refl
  form_is false true b e = let is : false ≡ b = cc in subst (λ c. (if c then false else true) ≡ true) is refl
  form_is false false b e = absurd cc

  is_value : (name : List ℕ) → form t name ≡ Some true → has_text t.values name ≡ true
  is_value name e = form_is (has_text t.values name) (has_text t.flags name) true e

  is_flag : (name : List ℕ) → form t name ≡ Some false → has_text t.flags name ≡ true
  is_flag name e = form_is (has_text t.values name) (has_text t.flags name) false e

  -- the reading of one item more
  behind_is : (item : Item) (o : Option (List Item)) (items : List Item) → behind item o ≡ Some items → (rest : List Item) × (o ≡ Some rest) × (items ≡ item ∷ rest)
  behind_is item None items e = absurd cc
  behind_is item (Some rest) items e = let is : item ∷ rest ≡ items = cc in (rest, refl, sym is)

  abbrev Reads : List (List ℕ) → Type 0
  Reads words = (items : List Item) → read t None words ≡ Some items → Items words items

  abbrev Follows : List (List ℕ) → Type 0
  Follows words = (name : List ℕ) (items : List Item) → has_text t.values name ≡ true → read t (Some name) words ≡ Some items → Items (dashed name ∷ words) items

  value_is : (name value : List ℕ) (words : List (List ℕ)) (items : List Item) → Reads words → by_value name value (read t None words) ≡ Some items
      → (rest : List Item) × (value ≢ []) × Items words rest × (items ≡ valued name value ∷ rest)
  value_is name [] words items more e = absurd cc
  value_is name (x ∷ value) words items more e =
      let found = behind_is (valued name (x ∷ value)) (read t None words) items e in
      (found.0, λ bad. cc, more found.0 found.1, found.2)

  module _ (word : List ℕ) (words : List (List ℕ)) (more : Reads words) (items : List Item) where
    abbrev Goal : Type 0
    Goal = Items (word ∷ words) items

    by_the_form : (kind : Option Bool) (name : List ℕ) (value : Option (List ℕ)) → Follows words → form t name ≡ kind → word ≡ spelling name value
        → by_form kind name value (read t None words) (λ other. read t (Some other) words) ≡ Some items → Goal
    by_the_form None name value follows is word_is e = absurd cc
    by_the_form (Some true) name None follows is word_is e = subst (λ w. Items (w ∷ words) items) (sym word_is) (follows name items (is_value name is) e)
    by_the_form (Some true) name (Some value) follows is word_is e =
        let found = value_is name value words items more e in
        subst (λ w. Items (w ∷ words) items) (sym word_is) (subst (Items ((dashed name ++ 61 ∷ value) ∷ words)) (sym found.3)
        (by_equals name value words found.0 (is_value name is) found.1 found.2))
    by_the_form (Some false) name None follows is word_is e =
        let found = behind_is (flagged name) (read t None words) items e in
        subst (λ w. Items (w ∷ words) items) (sym word_is) (subst (Items (dashed name ∷ words)) (sym found.2) (by_flag name words found.0 (is_flag name is) (more found.0 found.1)))
    by_the_form (Some false) name (Some value) follows is word_is e = absurd cc

    by_the_letters : (letters : Option (List ℕ)) → short_of word ≡ letters → bytes_eq word (dashed []) ≡ false → long_of word ≡ None
        → by_letters letters (behind (operand word) (read t None words)) ≡ Some items → Goal
    by_the_letters None not_short not_end not_long e =
        let found = behind_is (operand word) (read t None words) items e in
        subst (Items (word ∷ words)) (sym found.2) (by_operand word words found.0 (dashed_not word (seen word) not_end not_long not_short) (more found.0 found.1))
    by_the_letters (Some letters) not_short not_end not_long e = absurd cc

    by_the_name : (long : Option (List ℕ × Option (List ℕ))) → Follows words → long_of word ≡ long → bytes_eq word (dashed []) ≡ false
        → by_long t long word (read t None words) (λ other. read t (Some other) words) ≡ Some items → Goal
    by_the_name None follows is not_end e = by_the_letters (short_of word) refl not_end is e
    by_the_name (Some p) follows is not_end e = by_the_form (form t p.0) p.0 p.1 follows refl (spelled word (seen word) p is) e

    by_the_word : (b : Bool) → Follows words → bytes_eq word (dashed []) ≡ b
        → (if b then Some (map operand words) else by_long t (long_of word) word (read t None words) (λ other. read t (Some other) words)) ≡ Some items → Goal
    by_the_word true follows is e =
        let items_are : map operand words ≡ items = cc in
        subst (λ w. Items (w ∷ words) items) (sym (same_text word (dashed []) is)) (subst (Items (dashed [] ∷ words)) items_are (operands words))
    by_the_word false follows is e = by_the_name (long_of word) follows refl is e

    module _ (name : List ℕ) (mine : has_text t.values name ≡ true) where
      abbrev Wanted : Type 0
      Wanted = Items (dashed name ∷ word ∷ words) items

      next_letters : (letters : Option (List ℕ)) → short_of word ≡ letters → bytes_eq word (dashed []) ≡ false → long_of word ≡ None
          → by_letters letters (by_value name word (read t None words)) ≡ Some items → Wanted
      next_letters None not_short not_end not_long e =
          let found = value_is name word words items more e in
          subst (Items (dashed name ∷ word ∷ words)) (sym found.3) (by_next name word words found.0 mine found.1 (dashed_not word (seen word) not_end not_long not_short) found.2)
      next_letters (Some letters) not_short not_end not_long e = absurd cc

      next_name : (long : Option (List ℕ × Option (List ℕ))) → long_of word ≡ long → bytes_eq word (dashed []) ≡ false
          → unless_long long (by_letters (short_of word) (by_value name word (read t None words))) ≡ Some items → Wanted
      next_name None is not_end e = next_letters (short_of word) refl not_end is e
      next_name (Some p) is not_end e = absurd cc

      next_word : (b : Bool) → bytes_eq word (dashed []) ≡ b → (if b then None else unless_long (long_of word) (by_letters (short_of word) (by_value name word (read t None words)))) ≡ Some items → Wanted
      next_word true is e = absurd cc
      next_word false is e = next_name (long_of word) refl is e

  both_reads : (words : List (List ℕ)) → Reads words × Follows words
  both_reads [] = (λ items e. let is : [] ≡ items = cc in subst (Items []) is ended, λ name items mine e. absurd cc)
  both_reads (word ∷ words) =
      let more = both_reads words in (
        λ items e. by_the_word word words more.0 items (bytes_eq word (dashed [])) more.1 refl e,
        λ name items mine e. next_word word words more.0 items name mine (bytes_eq word (dashed [])) refl e,
      )

  pub items_read : (words : List (List ℕ)) (items : List Item) → read t None words ≡ Some items → AreItems t.values t.flags words items
  items_read words = (both_reads words).0
