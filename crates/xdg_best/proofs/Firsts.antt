-- The first fault of statements, and where statements stand.
use Rattle.std.proofs.Common.{◌≡◌, ◌∙◌, ℕ, suc, ◌+◌, ◌<◌, ◌≤◌, ◌||◌, ◌==◌, ◌⊎◌, inl, inr, Bool, true, false, List, [], ◌∷◌, ◌++◌, length, drop, get_or, arith, refl, sym, ap, subst, Some, None, Ok, Err, nat_lt, take}
use Rattle.std.specs.Prelude.{Option, Result, if◌then◌else◌}
use Rattle.std.specs.List.{list_any}
use Rattle.std.proofs.lemmas.List.{drop_all, take_more}
use Rattle.xdg_base.specs.Faults.{fault_at}
use Rattle.xdg_base.specs.declared.faults.Fault.{Fault}
use Rattle.xdg_base.specs.declared.faults.Cause.TheVariants as causes
use Rattle.xdg_names.specs.First as first
use Rattle.xdg_names.specs.First.{IsFirstOf}
use Rattle.xdg_ast.specs.Lexemes.{Lexeme}
use Rattle.xdg_lex.specs.Spans.{StandFrom}
use Rattle.xdg_ast.specs.declared.names.Name.{Name}
use Rattle.xdg_ast.specs.declared.names.Num.{Num}
use Rattle.xdg_types.specs.Table.{Table}
use Rattle.xdg_best.specs.declared.statements.Statement.{Statement}
use Rattle.xdg_best.specs.declared.statements.Statement.TheVariants as statements
use Rattle.xdg_best.specs.Meaning.{entry_fault, edge_fault, fault_in, Offends, or_later, first_fault, is_of_entry, is_of_place}
use Rattle.xdg_best.specs.Naming.{Place, place_of, with_dim, with_label, dim_number, labels_of}
use Rattle.xdg_reading.specs.Names.{label_number}
use Rattle.xdg_best.specs.Statements.{Says, entry, edge, Derives}
use Rattle.xdg_names.proofs.First.{itself}
use Rattle.xdg_facts.proofs.Lists.{from_place}

-- ---- places

-- the first place and the last at which a statement may be wrong
abbrev pub begins_at : Statement → ℕ
begins_at (statements.Entry number cost) = number.span.start
begins_at (statements.Edge dim label cost) = dim.span.start

abbrev pub ends_at : Statement → ℕ
ends_at (statements.Entry number cost) = number.span.start
ends_at (statements.Edge dim label cost) = label.span.start

-- statements stand one behind the other, from a place on
abbrev pub Rise : ℕ → List Statement → Type 0
Rise from [] = Unit {0}
Rise from (s ∷ more) = (from ≤ begins_at s) × (begins_at s ≤ ends_at s) × Rise (suc (ends_at s)) more

rise_from : (from before : ℕ) (said : List Statement) → before ≤ from → Rise from said → Rise before said
rise_from from before [] below rise = tt
rise_from from before (s ∷ more) below rise = let begins = rise.0 in (omega (arith, below, begins), rise.1, rise.2)

rises_one : (bytes : List ℕ) (at : ℕ) (vs : List Lexeme) (said : List Statement) (us : List Lexeme) (s : Statement) → ((from : ℕ) → StandFrom bytes from vs → Rise from said) → Says us s → StandFrom bytes at (us ++ vs) → Rise at (s ∷ said)
rises_one bytes at vs said us s again (entry w n c a b e) (w_from, w_some, w_text, (n_from, n_some, n_text, (c_from, c_some, c_text, rest))) =
    (omega (arith, w_from, w_some, n_from), omega arith, rise_from c.span.end (suc n.span.start) said (omega (arith, n_some, c_from, c_some)) (again c.span.end rest))
rises_one bytes at vs said us s again (edge w d l c a b e f) (w_from, w_some, w_text, (d_from, d_some, d_text, (l_from, l_some, l_text, (c_from, c_some, c_text, rest)))) =
    (omega (arith, w_from, w_some, d_from), omega (arith, d_some, l_from), rise_from c.span.end (suc l.span.start) said (omega (arith, l_some, c_from, c_some)) (again c.span.end rest))

pub rises : (bytes : List ℕ) (at : ℕ) (ts : List Lexeme) (said : List Statement) → StandFrom bytes at ts → Derives ts said → Rise at said
rises bytes at ts [] stand derives = tt
rises bytes at ts (s ∷ said) stand (us, vs, split, one, more) = rises_one bytes at vs said us s (λ from rest. rises bytes from vs said rest more) one (subst (StandFrom bytes at) split stand)

-- ---- a fault stands in its statement

if_fault : (b : Bool) (at : ℕ) (x : Fault) (f : Fault) (later : Option Fault) → x.at ≡ at → (later ≡ Some f → f.at ≡ at) → (if b then Some x else later) ≡ Some f → f.at ≡ at
if_fault true at x f later is rest e = ap (λ z. z.at) (let same : f ≡ x = cc in same) ∙ is
if_fault false at x f later is rest e = rest e

no_fault : (f : Fault) (at : ℕ) → ◌≡◌ {A = Option Fault} None (Some f) → f.at ≡ at
no_fault f at e = absurd cc

entry_at : (entries : ℕ) (number : Num) (again : Bool) (f : Fault) → entry_fault entries number again ≡ Some f → f.at ≡ number.span.start
entry_at entries number again f e =
    if_fault ((number.value == 0) || nat_lt entries number.value) number.span.start (fault_at causes.NoEntry number.span.start) f _ refl
    (λ e2. if_fault again number.span.start (fault_at causes.Twice number.span.start) f None refl (λ e3. no_fault f number.span.start e3) e2) e

-- at one of two places
abbrev AtOne : ℕ → ℕ → Fault → Type 0
AtOne a b f = (f.at ≡ a) ⊎ (f.at ≡ b)

label_at : (dim label : Name) (d : ℕ) (found : Option ℕ) (f : Fault) → with_label label d found ≡ Err f → AtOne dim.span.start label.span.start f
label_at dim label d None f e = inr (ap (λ z. z.at) (let same : f ≡ fault_at causes.NotMember label.span.start = cc in same))
label_at dim label d (Some l) f e = absurd cc

dim_at : (table : Table) (dim label : Name) (found : Option ℕ) (f : Fault) → with_dim table dim label found ≡ Err f → AtOne dim.span.start label.span.start f
dim_at table dim label None f e = inl (ap (λ z. z.at) (let same : f ≡ fault_at causes.UnknownName dim.span.start = cc in same))
dim_at table dim label (Some d) f e = label_at dim label d (label_number (labels_of table d) label.text) f e

edge_at : (table : Table) (earlier : List Statement) (dim label : Name) (found : Result Place Fault) (f : Fault) → place_of table dim label ≡ found → edge_fault table earlier label found ≡ Some f → AtOne dim.span.start label.span.start f
edge_at table earlier dim label (Err g) f is e = dim_at table dim label (dim_number table dim.text) f (is ∙ ap Err (let same : g ≡ f = cc in same))
edge_at table earlier dim label (Ok place) f is e =
    inr (if_fault (list_any (is_of_place table place) earlier) label.span.start (fault_at causes.Twice label.span.start) f None refl (λ e2. no_fault f label.span.start e2) e)

fault_stands : (table : Table) (entries : ℕ) (earlier : List Statement) (s : Statement) (f : Fault) → fault_in table entries earlier s ≡ Some f → begins_at s ≤ ends_at s → (begins_at s ≤ f.at) × (f.at ≤ ends_at s)
fault_stands table entries earlier (statements.Entry number cost) f e order =
    let is = entry_at entries number (list_any (is_of_entry number.value) earlier) f e in (omega (arith, is), omega (arith, is))
fault_stands table entries earlier (statements.Edge dim label cost) f e order = elim (edge_at table earlier dim label (place_of table dim label) f refl e) [
  | inl is ↦ (omega (arith, is), omega (arith, is, order))
  | inr is ↦ (omega (arith, is, order), omega (arith, is))
]

later_at : (table : Table) (entries from : ℕ) (said earlier : List Statement) (f : Fault) → Rise from said → Offends table entries earlier said f → from ≤ f.at
later_at table entries from [] earlier f rise bad = absurd bad
later_at table entries from (s ∷ more) earlier f rise (inl e) =
    let begins = rise.0 in let at = (fault_stands table entries earlier s f e rise.1).0 in omega (arith, begins, at)
later_at table entries from (s ∷ more) earlier f rise (inr bad) =
    let begins = rise.0 in let order = rise.1 in
    let at = later_at table entries (suc (ends_at s)) more (earlier ++ s ∷ []) f rise.2 bad in omega (arith, begins, order, at)

-- ---- the first

first_here : (table : Table) (entries from : ℕ) (s : Statement) (more earlier : List Statement) → Rise from (s ∷ more) → (here later : Option Fault) → fault_in table entries earlier s ≡ here
    → first.Tells (Offends table entries (earlier ++ s ∷ []) more) later → first.Tells (Offends table entries earlier (s ∷ more)) (or_later here later)
first_here table entries from s more earlier rise (Some f) later is rest = (
  inl is,
  λ g bad. elim bad [
    | inl e ↦ subst (IsFirstOf f) (let same : f ≡ g = let both : Some f ≡ Some g = sym is ∙ e in cc in same) (itself f)
    | inr worse ↦
        let here = (fault_stands table entries earlier s f is rise.1).1 in
        let there = later_at table entries (suc (ends_at s)) more (earlier ++ s ∷ []) g rise.2 worse in
        inl (omega (arith, here, there))
  ],
)
first_here table entries from s more earlier rise None None is rest = λ g bad. elim bad [ inl e ↦ absurd (let both : ◌≡◌ {A = Option Fault} None (Some g) = sym is ∙ e in cc) | inr worse ↦ rest g worse ]
first_here table entries from s more earlier rise None (Some f) is rest = (
  inr rest.0,
  λ g bad. elim bad [ inl e ↦ absurd (let both : ◌≡◌ {A = Option Fault} None (Some g) = sym is ∙ e in cc) | inr worse ↦ rest.1 g worse ],
)

first_nil : (table : Table) (entries : ℕ) (earlier : List Statement) → first_fault table entries earlier [] ≡ None
unfolding first_fault
first_nil table entries earlier = refl

first_cons : (table : Table) (entries : ℕ) (earlier : List Statement) (s : Statement) (more : List Statement) → first_fault table entries earlier (s ∷ more) ≡ or_later (fault_in table entries earlier s) (first_fault table entries (earlier ++ s ∷ []) more)
unfolding first_fault
first_cons table entries earlier s more = refl

pub first_told : (table : Table) (entries from : ℕ) (said earlier : List Statement) → Rise from said → first.Tells (Offends table entries earlier said) (first_fault table entries earlier said)
first_told table entries from [] earlier rise = subst (first.Tells (Offends table entries earlier [])) (sym (first_nil table entries earlier)) (λ f bad. bad)
first_told table entries from (s ∷ more) earlier rise = subst (first.Tells (Offends table entries earlier (s ∷ more))) (sym (first_cons table entries earlier s more))
    (first_here table entries from s more earlier rise (fault_in table entries earlier s) (first_fault table entries (earlier ++ s ∷ []) more) refl
    (first_told table entries (suc (ends_at s)) more (earlier ++ s ∷ []) rise.2))

-- ---- the loop that looks for it

module _ (table : Table) (entries : ℕ) (said : List Statement) (i : ℕ) (s : Statement) (within : i < length said) (item : s ≡ get_or said i s) where
  pub to_here : take (i + 1) said ≡ take i said ++ s ∷ []
  to_here = take_more said i s within ∙ ap (λ z. take i said ++ z ∷ []) (sym item)

  pub fault_found : (f : Fault) (all : Option Fault) → first_fault table entries (take i said) (drop i said) ≡ all → fault_in table entries (take i said) s ≡ Some f → all ≡ Some f
  fault_found f all so_far is = sym so_far ∙ ap (first_fault table entries (take i said)) (from_place said i s within item) ∙ first_cons table entries (take i said) s (drop (i + 1) said) ∙ ap (λ z. or_later z (first_fault table entries (take i said ++ s ∷ []) (drop (i + 1) said))) is

  pub none_found : (all : Option Fault) → first_fault table entries (take i said) (drop i said) ≡ all → fault_in table entries (take i said) s ≡ None → first_fault table entries (take (i + 1) said) (drop (i + 1) said) ≡ all
  none_found all so_far is =
      ap (λ z. first_fault table entries z (drop (i + 1) said)) to_here
      ∙ sym (sym so_far ∙ ap (first_fault table entries (take i said)) (from_place said i s within item) ∙ first_cons table entries (take i said) s (drop (i + 1) said) ∙ ap (λ z. or_later z (first_fault table entries (take i said ++ s ∷ []) (drop (i + 1) said))) is)

pub all_found : (table : Table) (entries : ℕ) (said : List Statement) (i : ℕ) (all : Option Fault) → length said ≤ i → first_fault table entries (take i said) (drop i said) ≡ all → all ≡ None
all_found table entries said i all over so_far = sym so_far ∙ ap (first_fault table entries (take i said)) (drop_all i said over) ∙ first_nil table entries (take i said)
