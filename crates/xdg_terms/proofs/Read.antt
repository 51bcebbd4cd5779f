-- Terms and their elements, as what they are read as.
use Rattle.std.proofs.Common.{◌≡◌, ◌⊎◌, inl, inr, ℕ, List, [], ◌∷◌, length, Option, Some, None, refl, sym, ap, ap₂, ◌∙◌, subst}
use Rattle.std.specs.Prelude.{Bool, true, false, ◌==◌, eqb, if◌then◌else◌, bytes_eq}
use Rattle.std.proofs.lemmas.Bool.{false≢true, eqb-true, eq-eqb, or_cases, or_left, or_right}
use Rattle.xdg_ast.specs.declared.names.Name.{Name}
use Rattle.xdg_ast.specs.declared.terms.TermKind.{TermKind, out-TermKind}
use Rattle.xdg_ast.specs.declared.terms.ElemKind.{ElemKind, out-ElemKind}
use Rattle.xdg_ast.specs.declared.terms.ElemKind.TheOpen.{TermKind-F, ElemKind-F}
use Rattle.xdg_domain.specs.Shapes.{Shape, domain, tuple, Shapes}
use Rattle.xdg_terms.specs.Forms.{Term, Card, then_also, all_of, braces_in, bracket_in, bracket_of, plain_in, plain_elem, bracketed_in, bracketed_elem, counted_in, keyed_in}
use Rattle.xdg_terms.specs.Means.{written_for}
use Rattle.xdg_names.specs.Texts.{place_of}
use Rattle.xdg_terms.specs.Built.{Elem, tuple_number, names_in, names_of, elems_in, if_named, first_for, some_before, number_in_elem, number_of_elem, listed}
use Rattle.xdg_facts.proofs.Texts.{same_text}
use Rattle.xdg_facts.specs.Membership.{In}
use Rattle.xdg_facts.specs.Rises.{has}

-- ---- tuples

as_many : (b : Bool) (wanted : ℕ) (names got : List Name) → (length names == wanted) ≡ b → (if b then Some names else None) ≡ Some got → (names ≡ got) × (length got ≡ wanted)
as_many true wanted names got e h = let same : names ≡ got = cc in (same, ap length (sym same) ∙ eqb-true (length names) wanted e)
as_many false wanted names got e h = absurd (cc)

bracket_names : (wanted : ℕ) (k : TermKind-F ElemKind TermKind) (names : List Name) → bracket_in wanted k ≡ Some names → (names_in k ≡ names) × (length names ≡ wanted)
bracket_names wanted (TermKind-F.TermKind::Tuple given) names h = as_many (length given == wanted) wanted given names refl h
bracket_names wanted k names h = absurd (cc)

pub bracket_read : (wanted : ℕ) (t : Term) (names : List Name) → bracket_of wanted t ≡ Some names → (names_of t ≡ names) × (length names ≡ wanted)
unfolding bracket_of names_of
bracket_read wanted t names h = bracket_names wanted (out-TermKind t.kind) names h

-- ---- one element

pub plain_is : (l : ElemKind-F ElemKind TermKind) (x : Name) → plain_in l ≡ Some x → l ≡ ElemKind-F.ElemKind::Const x
plain_is (ElemKind-F.ElemKind::Const name) x h = let e : name ≡ x = cc in ap ElemKind-F.ElemKind::Const e
plain_is l x h = absurd (cc)

pub so_many : (b : Bool) (names xs : List Name) → (if b then Some names else None) ≡ Some xs → names ≡ xs
so_many true names xs h = cc
so_many false names xs h = absurd (cc)

pub bracketed_is : (n : ℕ) (l : ElemKind-F ElemKind TermKind) (x : List Name) → bracketed_in n l ≡ Some x → l ≡ ElemKind-F.ElemKind::Tuple x
bracketed_is n (ElemKind-F.ElemKind::Tuple names) x h = ap ElemKind-F.ElemKind::Tuple (so_many (eqb (length names) n) names x h)
bracketed_is n l x h = absurd (cc)

pub counted_is : (l : ElemKind-F ElemKind TermKind) (x : Name × Card) → counted_in l ≡ Some x → l ≡ ElemKind-F.Count x.0 x.1
counted_is (ElemKind-F.Count name written) x h = let e : (name, written) ≡ x = cc in ap (λ (p : Name × Card). ElemKind-F.Count p.0 p.1) e
counted_is l x h = absurd (cc)

pub keyed_is : (l : ElemKind-F ElemKind TermKind) (x : Name × Term) → keyed_in l ≡ Some x → l ≡ ElemKind-F.Keyed x.0 x.1
keyed_is (ElemKind-F.Keyed name t) x h = let e : (name, t) ≡ x = cc in ap (λ (p : Name × Term). ElemKind-F.Keyed p.0 p.1) e
keyed_is l x h = absurd (cc)

-- ---- elements

-- the element is read as one, and the rest as the others
pub record Split {A : Type 0} (form : Elem → Option A) (elem : Elem) (elems : List Elem) (xs : List A) : Type 0 where
  pub x : A
  pub rest : List A
  pub is : xs ≡ x ∷ rest
  pub one : form elem ≡ Some x
  pub others : all_of form elems ≡ Some rest

split_by : {A : Type 0} (form : Elem → Option A) (elem : Elem) (elems : List Elem) (xs : List A) (o : Option A) (os : Option (List A)) → form elem ≡ o → all_of form elems ≡ os → then_also o os ≡ Some xs → Split form elem elems xs
split_by form elem elems xs (Some x) (Some rest) e f h = record { x = x; rest = rest; is = (let s : (x ∷ rest) ≡ xs = cc in sym s); one = e; others = f }
split_by form elem elems xs (Some x) None e f h = absurd (cc)
split_by form elem elems xs None os e f h = absurd (cc)

pub split : {A : Type 0} (form : Elem → Option A) (elem : Elem) (elems : List Elem) (xs : List A) → all_of form (elem ∷ elems) ≡ Some xs → Split form elem elems xs
unfolding all_of
split form elem elems xs h = split_by form elem elems xs (form elem) (all_of form elems) refl refl h

pub ended : {A : Type 0} (form : Elem → Option A) (xs : List A) → all_of form [] ≡ Some xs → xs ≡ []
unfolding all_of
ended form xs h = let s : [] ≡ xs = cc in sym s

pub braces_read : {A : Type 0} (form : Elem → Option A) (k : TermKind-F ElemKind TermKind) (xs : List A) → braces_in form k ≡ Some xs → all_of form (elems_in k) ≡ Some xs
braces_read form (TermKind-F.Braces elems) xs h = h
braces_read form k xs h = absurd (cc)

-- what stands under a name first, read off the elements or off what they are read as
pub same_first : {A : Type 0} (form : Elem → Option (Name × A)) (elems : List Elem) (pairs : List (Name × A)) → all_of form elems ≡ Some pairs → (name : List ℕ) → first_for form elems name ≡ written_for pairs name
same_first form [] pairs h name = ap (λ ps. written_for ps name) (sym (ended form pairs h))
same_first form (elem ∷ elems) pairs h name =
    let s = split form elem elems pairs h in
    ap₂ (λ o rest. if_named o name rest) s.one (same_first form elems s.rest s.others name) ∙ ap (λ ps. written_for ps name) (sym s.is)

-- the pair that stands there
pub record Written {A : Type 0} (pairs : List (Name × A)) (name : List ℕ) (w : A) : Type 0 where
  pub pair : Name × A
  pub among : In pairs pair
  pub key : pair.0.text ≡ name
  pub value : pair.1 ≡ w

written_by : {A : Type 0} (pair : Name × A) (pairs : List (Name × A)) (name : List ℕ) (w : A) (b : Bool) → bytes_eq pair.0.text name ≡ b → ((written_for pairs name ≡ Some w) → Written pairs name w) → (if b then Some pair.1 else written_for pairs name) ≡ Some w → Written (pair ∷ pairs) name w
written_by pair pairs name w true e later h = record { pair = pair; among = inl refl; key = same_text pair.0.text name e; value = cc }
written_by pair pairs name w false e later h = let r = later h in record { pair = r.pair; among = inr r.among; key = r.key; value = r.value }

pub written : {A : Type 0} (pairs : List (Name × A)) (name : List ℕ) (w : A) → written_for pairs name ≡ Some w → Written pairs name w
written [] name w h = absurd (cc)
written (pair ∷ pairs) name w h = written_by pair pairs name w (bytes_eq pair.0.text name) refl (written pairs name w) h

-- ---- numbers of elements

abbrev pub Numbered : {A : Type 0} → (A → Option ℕ) → List A → ℕ → Type 0
Numbered {A} number xs n = (x : A) × (In xs x × (number x ≡ Some n))

before_has : (o : Option ℕ) (ns : List ℕ) (n : ℕ) → has (some_before o ns) n ≡ true → (o ≡ Some n) ⊎ (has ns n ≡ true)
before_has None ns n h = inr h
before_has (Some m) ns n h = elim (or_cases (m == n) (has ns n) h) [ inl e ↦ inl (ap (λ z. Some z) (eqb-true m n e)) | inr k ↦ inr k ]

has_before : (o : Option ℕ) (ns : List ℕ) (n : ℕ) → (o ≡ Some n) ⊎ (has ns n ≡ true) → has (some_before o ns) n ≡ true
has_before None ns n h = elim h [ inl e ↦ absurd (cc) | inr k ↦ k ]
has_before (Some m) ns n h = elim h [ inl e ↦ (let same : m ≡ n = cc in or_left (m == n) (has ns n) (eq-eqb m n same)) | inr k ↦ or_right (m == n) (has ns n) k ]

module _ {A : Type 0} (s : Shape) (form : Elem → Option A) (number : A → Option ℕ) (alike : (elem : Elem) (x : A) → form elem ≡ Some x → number_of_elem s elem ≡ number x) where
  pub listed_numbers : (elems : List Elem) (xs : List A) (n : ℕ) → all_of form elems ≡ Some xs → has (listed s elems) n ≡ true → Numbered number xs n
  listed_numbers [] xs n h k = absurd (false≢true k)
  listed_numbers (elem ∷ elems) xs n h k =
      let p = split form elem elems xs h in
      elim (before_has (number_of_elem s elem) (listed s elems) n k) [
        | inl e ↦ (p.x, (subst (λ l. In l p.x) (sym p.is) (inl refl), sym (alike elem p.x p.one) ∙ e))
        | inr r ↦ (let q = listed_numbers elems p.rest n p.others r in (q.0, (subst (λ l. In l q.0) (sym p.is) (inr q.1.0), q.1.1)))
      ]

  pub numbers_listed : (elems : List Elem) (xs : List A) (n : ℕ) → all_of form elems ≡ Some xs → Numbered number xs n → has (listed s elems) n ≡ true
  numbers_listed [] xs n h k = absurd (subst (λ l. In l k.0) (ended form xs h) k.1.0)
  numbers_listed (elem ∷ elems) xs n h k =
      let p = split form elem elems xs h in
      has_before (number_of_elem s elem) (listed s elems) n (elim (subst (λ l. In l k.0) p.is k.1.0) [
        | inl e ↦ inl (alike elem p.x p.one ∙ ap number e ∙ k.1.1)
        | inr r ↦ inr (numbers_listed elems p.rest n p.others (k.0, (r, k.1.1)))
      ])

pub plain_alike : (cs : List (List ℕ)) (elem : Elem) (name : Name) → plain_elem elem ≡ Some name → number_of_elem (domain cs) elem ≡ place_of cs name.text
unfolding plain_elem number_of_elem
plain_alike cs elem name h = ap (number_in_elem (domain cs)) (plain_is (out-ElemKind elem.kind) name h)

pub bracketed_alike : (ss : Shapes) (wanted : ℕ) (elem : Elem) (names : List Name) → bracketed_elem wanted elem ≡ Some names → number_of_elem (tuple ss) elem ≡ tuple_number (tuple ss) names
unfolding bracketed_elem number_of_elem
bracketed_alike ss wanted elem names h = ap (number_in_elem (tuple ss)) (bracketed_is wanted (out-ElemKind elem.kind) names h)

bracketed_length : (wanted : ℕ) (k : ElemKind-F ElemKind TermKind) (names : List Name) → bracketed_in wanted k ≡ Some names → length names ≡ wanted
bracketed_length wanted (ElemKind-F.ElemKind::Tuple given) names h = (as_many (length given == wanted) wanted given names refl h).1
bracketed_length wanted k names h = absurd (cc)

one_long : (wanted : ℕ) (elem : Elem) (names : List Name) → bracketed_elem wanted elem ≡ Some names → length names ≡ wanted
unfolding bracketed_elem
one_long wanted elem names h = bracketed_length wanted (out-ElemKind elem.kind) names h

pub each_long : (wanted : ℕ) (elems : List Elem) (lists : List (List Name)) → all_of (bracketed_elem wanted) elems ≡ Some lists → (names : List Name) → In lists names → length names ≡ wanted
each_long wanted [] lists h names k = absurd (subst (λ l. In l names) (ended (bracketed_elem wanted) lists h) k)
each_long wanted (elem ∷ elems) lists h names k =
    let p = split (bracketed_elem wanted) elem elems lists h in
    elim (subst (λ l. In l names) p.is k) [
      | inl e ↦ ap length (sym e) ∙ one_long wanted elem p.x p.one
      | inr r ↦ each_long wanted elems p.rest p.others names r
    ]
