-- What a term without an offence has: its form, its constants, its cardinalities.
use Rattle.std.proofs.Common.{◌≡◌, inl, inr, ℕ, ◌<◌, List, [], ◌∷◌, Option, Some, None, refl, sym, ap, ◌∙◌, subst, arith}
use Rattle.std.specs.Prelude.{Bool, true, false, nat_le, ◌==◌}
use Rattle.std.specs.List.{list_any}
use Rattle.std.proofs.lemmas.Bool.{true≢false, false≢true, or_left, eq-eqb, cases_lt, le-leb}
use Rattle.xdg_base.specs.Faults.{fault_at}
use Rattle.xdg_base.specs.declared.faults.Cause.TheVariants as causes
use Rattle.xdg_base.specs.declared.faults.Fault.{Fault}
use Rattle.xdg_ast.specs.declared.names.Name.{Name}
use Rattle.xdg_ast.specs.declared.terms.CardKind.{CardKind}
use Rattle.xdg_ast.specs.declared.terms.CardKind.TheVariants as c
use Rattle.xdg_domain.specs.Cards.{cards, IsCards}
use Rattle.xdg_domain.specs.Shapes.{Shape, mapping, fields}
use Rattle.xdg_terms.specs.Forms.{Term, Card}
use Rattle.xdg_terms.specs.Offences.{has_form, is_some, asked, CardOffends, OffendsHere}
use Rattle.xdg_terms.specs.Offences as o
use Rattle.xdg_terms.specs.Means.{allows, AllowedBy}
use Rattle.xdg_names.specs.Texts.{place_of}
use Rattle.xdg_names.proofs.Texts.{place_of-None, not_among}
use Rattle.xdg_terms.specs.Built.{card_numbers, some_or_all}
use Rattle.xdg_facts.proofs.Truths.{and_2}
use Rattle.xdg_facts.specs.Membership.{In}
use Rattle.xdg_facts.specs.Rises.{has}
use Rattle.xdg_facts.proofs.Rising.{numbers_whole, has_tested, has_of, rises_of}

-- nothing is wrong with the term itself
abbrev pub RightHere : Shape → Term → Type 0
RightHere s t = (f : Fault) → OffendsHere s t f → ⊥

-- the type wants terms in which no others stand
abbrev pub HoldsNone : Shape → Type 0
HoldsNone (mapping key u) = ⊥
HoldsNone (fields fs) = ⊥
HoldsNone s = Unit {0}

-- ---- forms

form_by : (s : Shape) (t : Term) → RightHere s t → (b : Bool) → has_form s t ≡ b → has_form s t ≡ true
form_by s t h true e = e
form_by s t h false e = absurd (h (fault_at causes.WrongKind t.span.start) (inl (record { form = e; fault = refl })))

pub formed : (s : Shape) (t : Term) → RightHere s t → has_form s t ≡ true
formed s t h = form_by s t h (has_form s t) refl

pub told : {A : Type 0} (o : Option A) → is_some o ≡ true → (x : A) × (o ≡ Some x)
told None h = absurd (false≢true h)
told (Some x) h = (x, refl)

-- ---- constants

-- a constant that is asked for stands where it has to
abbrev pub Stands : List (List ℕ) → Name → Type 0
Stands texts name = (n : ℕ) × (place_of texts name.text ≡ Some n)

stands_by : (s : Shape) (t : Term) (texts : List (List ℕ)) (name : Name) → RightHere s t → In (asked s t) (texts, name) → (found : Option ℕ) → place_of texts name.text ≡ found → Stands texts name
stands_by s t texts name h among (Some n) e = (n, e)
stands_by s t texts name h among None e =
    absurd (h (fault_at causes.NotMember name.span.start) (inr (inl (record { texts = texts; name = name; stands = among; missing = not_among texts name.text (place_of-None texts name.text e); fault = refl }))))

pub stands : (s : Shape) (t : Term) (texts : List (List ℕ)) (name : Name) → RightHere s t → In (asked s t) (texts, name) → Stands texts name
stands s t texts name h among = stands_by s t texts name h among (place_of texts name.text) refl

-- ---- cardinalities

abbrev pub CardRight : Card → Type 0
CardRight card = (f : Fault) → CardOffends card card.kind f → ⊥

pub card_right : (s : Shape) (t : Term) (card : Card) → RightHere s t → In (o.cards s t) card → CardRight card
card_right s t card h among f bad = h f (inr (inr (inr (inr (record { card = card; stands = among; offends = bad })))))

-- a number that is allowed
abbrev Witness : CardKind → Type 0
Witness kind = (n : ℕ) × ((n < 128) × (allows kind n ≡ true))

witness : (written : Card) (kind : CardKind) → ((f : Fault) → CardOffends written kind f → ⊥) → Witness kind
witness written c.One h = (1, (omega arith, refl))
witness written c.Maybe h = (0, (omega arith, refl))
witness written c.Any h = (0, (omega arith, refl))
witness written c.Some1 h = (1, (omega arith, refl))
witness written (c.Numbers []) h = absurd (h (fault_at causes.CardRange written.span.start) refl)
witness written (c.Numbers (num ∷ nums)) h = (
  num.value,
  (
    elim (cases_lt num.value 128) [
      | inl below ↦ below
      | inr beyond ↦ absurd (h (fault_at causes.CardRange num.span.start) (num, (inl refl, (omega (arith, beyond), refl))))
    ],
    or_left (num.value == num.value) (list_any (λ other. other.value == num.value) nums) (eq-eqb num.value num.value refl),
  ),
)
witness written (c.Interval low high) h = (
  low.value,
  (
    elim (cases_lt low.value 128) [
      | inl below ↦ below
      | inr beyond ↦ absurd (h (fault_at causes.CardRange low.span.start) (inl (omega (arith, beyond), refl)))
    ],
    and_2 (nat_le low.value low.value) (nat_le low.value high.value) (le-leb low.value low.value (omega arith)) (elim (cases_lt high.value low.value) [
      | inl below ↦ absurd (h (fault_at causes.CardRange high.span.start) (inr (inr below, refl)))
      | inr beyond ↦ le-leb low.value high.value beyond
    ]),
  ),
)

not_empty : (p : ℕ → Bool) (n : ℕ) → n < 128 → p n ≡ true → cards p ≡ [] → ⊥
not_empty p n below passes none = true≢false (sym passes ∙ sym (has_of 128 p n below) ∙ ap (λ s. has s n) none)

pub all_kept : (s : List ℕ) → (s ≡ [] → ⊥) → s ≡ some_or_all s
all_kept [] h = absurd (h refl)
all_kept (n ∷ ns) h = refl

are_allowed : (p : ℕ → Bool) (n : ℕ) → n < 128 → p n ≡ true → IsCards (cards p)
are_allowed p n below passes = record { rises = rises_of 128 p; whole = numbers_whole 128 p; some = not_empty p n below passes }

pub allowed : (written : Card) → CardRight written → AllowedBy written (card_numbers written.kind)
unfolding card_numbers
allowed written h =
    let w = witness written written.kind h in
    let same : cards (allows written.kind) ≡ some_or_all (cards (allows written.kind)) = all_kept (cards (allows written.kind)) (not_empty (allows written.kind) w.0 w.1.0 w.1.1) in
    subst (AllowedBy written) same (are_allowed (allows written.kind) w.0 w.1.0 w.1.1, has_tested 128 (allows written.kind))
