-- What is said is what the lines show, and the place that is told is that of the first line that offends.
use Rattle.std.proofs.Common.{◌≡◌, ◌≢◌, ◌==◌, ◌&&◌, inl, inr, ℕ, zero, suc, List, [], ◌∷◌, length, get_or, refl, sym, ap, ap₂, ◌∙◌, subst, arith, true, false, cond, Bool, Some, None, Option, Ok, Err, bytes_eq, AllPairs}
use Rattle.std.specs.Prelude.{Result, Contains}
use Rattle.std.proofs.lemmas.List.Quantifiers.{position-Some}
use Rattle.std.proofs.lemmas.Slice.Eq.{bytes_eq-Decides}
use Rattle.std.proofs.lemmas.Bool.{eqb-true, eq-eqb, or_cases, or_left, or_right, and_parts, and_from, false_from_ne_true, both_ways}
use Rattle.xdg_base.specs.declared.ids.EntryNo.{EntryNo}
use Rattle.xdg_problem.specs.declared.parts.SentenceWord.{SentenceWord}
use Rattle.xdg_problem.specs.declared.parts.Shown.{Shown}
use Rattle.xdg_problem.specs.declared.parts.Shown.TheVariants as shown
use Rattle.xdg_problem.specs.Analyses.{HasCandidates}
use Rattle.xdg_reading.specs.declared.texts.AttrLine.{AttrLine}
use Rattle.xdg_text.specs.Blocks.{no_value}
use Rattle.xdg_reading.specs.Fitted.{has_entry, words_fault, lead, or_at, said_value, said_values}
use Rattle.xdg_reading.specs.Fits.{SaysValue, SayValues, WordOffends, this_word, later_word, AttrOffends, one_more, missing, this_attr, later_attr}
use Rattle.xdg_reading.specs.Names.{same_texts, same_shown, value_number}
use Rattle.xdg_reading.specs.Slots.{Asked}
use Rattle.xdg_facts.proofs.Options.{some_same, nothing_if}
use Rattle.xdg_facts.proofs.Lists.{contains_more, position_of}

-- entries
pub entry_found : (cs : List EntryNo) (e : EntryNo) → has_entry cs e ≡ true → Contains cs e
entry_found [] e has = cc
entry_found (c ∷ cs) e has = elim (or_cases (c.0 == e.0) (has_entry cs e) has) [
  | inl h ↦ (0, omega arith, let same : c.0 ≡ e.0 = eqb-true c.0 e.0 h in ap (λ n. record { 0 = n }) same)
  | inr h ↦ contains_more c cs e (entry_found cs e h)
]

pub entry_there : (cs : List EntryNo) (e : EntryNo) → Contains cs e → has_entry cs e ≡ true
entry_there [] e (k, within, is) = absurd (omega (arith, within))
entry_there (c ∷ cs) e (zero, within, is) = or_left (c.0 == e.0) (has_entry cs e) (eq-eqb c.0 e.0 (ap (λ (z : EntryNo). z.0) is))
entry_there (c ∷ cs) e (suc k, within, is) = or_right (c.0 == e.0) (has_entry cs e) (entry_there cs e (k, omega (arith, within), is))

entry_lacks : (cs : List EntryNo) (e : EntryNo) → has_entry cs e ≡ false → Contains cs e → ⊥
entry_lacks cs e lacks has = both_ways (has_entry cs e) lacks (entry_there cs e has)

pub words_fit : (cs : List (List EntryNo)) (ws : List SentenceWord) (es : List EntryNo) → length cs ≡ length ws → length es ≡ length ws → words_fault cs ws es ≡ None → HasCandidates cs es
words_fit [] [] [] a b e = tt
words_fit [] [] (x ∷ es) a b e = absurd (omega (arith, b))
words_fit [] (w ∷ ws) es a b e = absurd (omega (arith, a))
words_fit (c ∷ cs) [] es a b e = absurd (omega (arith, a))
words_fit (c ∷ cs) (w ∷ ws) [] a b e = absurd (omega (arith, b))
words_fit (c ∷ cs) (w ∷ ws) (x ∷ es) a b e = by (words_fit cs ws es (omega (arith, a)) (omega (arith, b))) (has_entry c x) refl e where
  by : (words_fault cs ws es ≡ None → HasCandidates cs es) → (t : Bool) → has_entry c x ≡ t → cond t (words_fault cs ws es) (Some w.at) ≡ None → HasCandidates (c ∷ cs) (x ∷ es)
  by more true has e = (entry_found c x has, more e)
  by more false has e = cc

pub word_offends : (cs : List (List EntryNo)) (ws : List SentenceWord) (es : List EntryNo) (at : ℕ) → words_fault cs ws es ≡ Some at → WordOffends cs ws es at
word_offends (c ∷ cs) (w ∷ ws) (x ∷ es) at e = by (word_offends cs ws es at) (has_entry c x) refl e where
  by : (words_fault cs ws es ≡ Some at → WordOffends cs ws es at) → (t : Bool) → has_entry c x ≡ t → cond t (words_fault cs ws es) (Some w.at) ≡ Some at → WordOffends (c ∷ cs) (w ∷ ws) (x ∷ es) at
  by more true has e = later_word c cs w ws x es at (entry_found c x has) (more e)
  by more false has e = subst (WordOffends (c ∷ cs) (w ∷ ws) (x ∷ es)) (some_same w.at at e) (this_word c cs w ws x es (entry_lacks c x has))
word_offends cs ws es at e = cc

pub words_told : (cs : List (List EntryNo)) (ws : List SentenceWord) (es : List EntryNo) → HasCandidates cs es → words_fault cs ws es ≡ None
words_told (c ∷ cs) (w ∷ ws) (x ∷ es) has = ap (λ t. cond t (words_fault cs ws es) (Some w.at)) (entry_there c x has.0) ∙ words_told cs ws es has.1
words_told cs ws es has = refl

pub word_told : (cs : List (List EntryNo)) (ws : List SentenceWord) (es : List EntryNo) (at : ℕ) → WordOffends cs ws es at → words_fault cs ws es ≡ Some at
word_told cs ws es at (this_word c more w words x entries lacks) = ap (λ t. cond t (words_fault more words entries) (Some w.at)) (false_from_ne_true (has_entry c x) (λ h. lacks (entry_found c x h)))
word_told cs ws es at (later_word c more w words x entries place has later) = ap (λ t. cond t (words_fault more words entries) (Some w.at)) (entry_there c x has) ∙ word_told more words entries place later

-- values
pub texts_same : (xs ys : List (List ℕ)) → same_texts xs ys ≡ true → xs ≡ ys
texts_same [] [] e = refl
texts_same [] (y ∷ ys) e = cc
texts_same (x ∷ xs) [] e = cc
texts_same (x ∷ xs) (y ∷ ys) e = let both = and_parts (bytes_eq x y) (same_texts xs ys) e in ap₂ (λ a b. a ∷ b) ((bytes_eq-Decides x y).0 both.0) (texts_same xs ys both.1)

texts_of : (xs : List (List ℕ)) → same_texts xs xs ≡ true
texts_of [] = refl
texts_of (x ∷ xs) = and_from (bytes_eq x x) (same_texts xs xs) ((bytes_eq-Decides x x).1 refl) (texts_of xs)

shown_same : (x y : Shown) → same_shown x y ≡ true → x ≡ y
shown_same (shown.One x) (shown.One y) e = ap shown.One ((bytes_eq-Decides x y).0 e)
shown_same (shown.One x) (shown.Many ys) e = cc
shown_same (shown.Many xs) (shown.One y) e = cc
shown_same (shown.Many xs) (shown.Many ys) e = ap shown.Many (texts_same xs ys e)

shown_of : (x : Shown) → same_shown x x ≡ true
shown_of (shown.One x) = (bytes_eq-Decides x x).1 refl
shown_of (shown.Many xs) = texts_of xs

abbrev names : Asked → AttrLine → Bool
names asked line = bytes_eq line.dim asked.dim && (line.node.0 == asked.node) && bytes_eq line.attr asked.attr.name

value_by : (asked : Asked) (line : AttrLine) (v : ℕ) (t : Bool) → names asked line ≡ t → cond t (value_number asked.attr.values line.value) None ≡ Some v → SaysValue asked line v
value_by asked line v true e said =
    let outer = and_parts (bytes_eq line.dim asked.dim && (line.node.0 == asked.node)) (bytes_eq line.attr asked.attr.name) e in
    let inner = and_parts (bytes_eq line.dim asked.dim) (line.node.0 == asked.node) outer.0 in
    let found = position-Some (λ x. same_shown x line.value) asked.attr.values v no_value said in
    record {
      dim = (bytes_eq-Decides line.dim asked.dim).0 inner.0;
      node = eqb-true line.node.0 asked.node inner.1;
      attr = (bytes_eq-Decides line.attr asked.attr.name).0 outer.1;
      within = found.0;
      is = shown_same (get_or asked.attr.values v no_value) line.value found.1;
    }
value_by asked line v false e said = cc

pub value_said : (asked : Asked) (line : AttrLine) (v : ℕ) → said_value asked line ≡ Some v → SaysValue asked line v
unfolding said_value
value_said asked line v said = value_by asked line v (names asked line) refl said

-- the values of an attribute differ
abbrev pub Differ : Asked → Type 0
Differ asked = AllPairs (λ a b. a ≢ b) asked.attr.values

pub value_told : (asked : Asked) (line : AttrLine) (v : ℕ) → Differ asked → SaysValue asked line v → said_value asked line ≡ Some v
unfolding said_value
value_told asked line v differ says =
    let same = and_from (bytes_eq line.dim asked.dim && (line.node.0 == asked.node)) (bytes_eq line.attr asked.attr.name) (and_from (bytes_eq line.dim asked.dim) (line.node.0 == asked.node) ((bytes_eq-Decides line.dim asked.dim).1 says.dim) (eq-eqb line.node.0 asked.node says.node)) ((bytes_eq-Decides line.attr asked.attr.name).1 says.attr) in
    ap (λ t. cond t (value_number asked.attr.values line.value) None) same
    ∙ position_of (λ x. same_shown x line.value) asked.attr.values v no_value says.within (ap (λ z. same_shown z line.value) says.is ∙ shown_of line.value)
    (λ j before. false_from_ne_true (same_shown (get_or asked.attr.values j no_value) line.value) (λ h. differ j v no_value before says.within (shown_same (get_or asked.attr.values j no_value) line.value h ∙ sym says.is)))

value_lacks : (asked : Asked) (line : AttrLine) → Differ asked → said_value asked line ≡ None → (v : ℕ) → SaysValue asked line v → ⊥
value_lacks asked line differ none v says = let h : None ≡ Some v = sym none ∙ value_told asked line v differ says in absurd (never v h) where
  never : (v : ℕ) → None ≡ Some v → ⊥
  never v h = cc

abbrev pub AllDiffer : List Asked → Type 0
AllDiffer [] = Unit {0}
AllDiffer (asked ∷ more) = Differ asked × AllDiffer more

-- the lines of attributes say their values, or one offends
abbrev pub ValuesTold : ℕ → List Asked → List AttrLine → Result (List ℕ) ℕ → Type 0
ValuesTold behind asked lines (Ok values) = SayValues asked lines values
ValuesTold behind asked lines (Err at) = AttrOffends behind asked lines at

values_next : (behind : ℕ) (a : Asked) (asked : List Asked) (line : AttrLine) (lines : List AttrLine) (v : ℕ) (r : Result (List ℕ) ℕ) → SaysValue a line v → ValuesTold behind asked lines r → ValuesTold behind (a ∷ asked) (line ∷ lines) (lead v r)
values_next behind a asked line lines v (Ok values) says more = (says, more)
values_next behind a asked line lines v (Err at) says more = later_attr a asked line lines v at says more

values_option : (behind : ℕ) (a : Asked) (asked : List Asked) (line : AttrLine) (lines : List AttrLine) (o : Option ℕ) → Differ a → said_value a line ≡ o → ValuesTold behind asked lines (said_values behind asked lines) → ValuesTold behind (a ∷ asked) (line ∷ lines) (or_at o line.at (λ value. lead value (said_values behind asked lines)))
values_option behind a asked line lines None differ e more = this_attr a asked line lines (value_lacks a line differ e)
values_option behind a asked line lines (Some v) differ e more = values_next behind a asked line lines v (said_values behind asked lines) (value_said a line v e) more

pub values_told : (behind : ℕ) (asked : List Asked) (lines : List AttrLine) → AllDiffer asked → ValuesTold behind asked lines (said_values behind asked lines)
values_told behind [] [] differ = tt
values_told behind [] (line ∷ lines) differ = one_more line lines
values_told behind (a ∷ asked) [] differ = missing a asked
values_told behind (a ∷ asked) (line ∷ lines) differ = values_option behind a asked line lines (said_value a line) differ.0 refl (values_told behind asked lines differ.1)

-- and what they say is said
pub values_said : (behind : ℕ) (asked : List Asked) (lines : List AttrLine) (values : List ℕ) → AllDiffer asked → SayValues asked lines values → said_values behind asked lines ≡ Ok values
values_said behind [] [] [] differ say = refl
values_said behind (a ∷ asked) (line ∷ lines) (v ∷ values) differ say =
    ap (λ o. or_at o line.at (λ value. lead value (said_values behind asked lines))) (value_told a line v differ.0 say.0) ∙ ap (lead v) (values_said behind asked lines values differ.1 say.1)
values_said behind asked lines values differ say = absurd say

pub attr_told : (behind : ℕ) (asked : List Asked) (lines : List AttrLine) (at : ℕ) → AllDiffer asked → AttrOffends behind asked lines at → said_values behind asked lines ≡ Err at
attr_told behind asked lines at differ (one_more line more) = refl
attr_told behind asked lines at differ (missing a more) = refl
attr_told behind asked lines at differ (this_attr a more line rest lacks) = ap (λ o. or_at o line.at (λ value. lead value (said_values behind more rest))) (nothing_if (said_value a line) (λ v e. lacks v (value_said a line v e)))
attr_told behind asked lines at differ (later_attr a more line rest v place says later) =
    ap (λ o. or_at o line.at (λ value. lead value (said_values behind more rest))) (value_told a line v differ.0 says) ∙ ap (lead v) (attr_told behind more rest place differ.1 later)
