-- The number of a value with which nothing is wrong.
use Rattle.std.proofs.Common.{◌≡◌, ℕ, List, [], ◌∷◌, length, map, None, Some, refl, sym, ap, ◌∙◌, subst}
use Rattle.std.specs.Prelude.{◌==◌, Result, Ok}
use Rattle.std.specs.declared.alloc.AllocError.{AllocError}
use Rattle.xdg_base.specs.declared.faults.Fault.{Fault}
use Rattle.xdg_ast.specs.declared.names.Name.{Name}
use Rattle.xdg_ast.specs.declared.terms.ElemKind.{ElemKind}
use Rattle.xdg_ast.specs.declared.terms.ElemKind.TheOpen.{TermKind-F}
use Rattle.xdg_ast.specs.declared.terms.TermKind.{TermKind, out-TermKind}
use Rattle.xdg_domain.specs.Shapes.{Shape, domain, tuple, sizes, IsSmall, IsType}
use Rattle.xdg_domain.specs.declared.values.Value.{Value, out-Value}
use Rattle.xdg_domain.specs.declared.values.Value.TheOpen.{Value-F}
use Rattle.xdg_names.specs.First.{Tells, first}
use Rattle.xdg_terms.specs.Answers.{IsRight}
use Rattle.xdg_terms.specs.Built.{built}
use Rattle.xdg_terms.specs.Forms.{Term, Bindings, bound, bound_in, with_open, with_bound, constant_of, constant_in, bracket_of, bracket_in}
use Rattle.xdg_terms.specs.Means.{Means, MeansIn}
use Rattle.xdg_terms.specs.Offences.{Offends, OffendsBy, OffendsIn, OfSeen}
use Rattle.xdg_terms.proofs.Law.{law}
use Rattle.xdg_terms.proofs.Meaning.{means_of}
use Rattle.xdg_build.proofs.FeatureRows.{same_number}
use Rattle.xdg_formula.specs.Formulas.{value_faults}
use Rattle.xdg_build.specs.Formulas.{number_of}
use Rattle.xdg_build.specs.Places.{IsNumberOf}
use Rattle.xdg_build.specs.Tables.{number_in}
use Rattle.xdg_build.specs.Truths.{constants_of, constants_in}
use Rattle.xdg_terms.proofs.Binding.{all_looked_at}
use Rattle.xdg_terms.proofs.Read.{so_many}

-- ---- terms without parameters bound or open

bound_by : (t : Term) (k : TermKind-F ElemKind TermKind) → bound_in [] t k ≡ t
bound_by t (TermKind-F.Param name) = refl
bound_by t other = refl

bound_none : (t : Term) → bound [] t ≡ t
unfolding bound
bound_none t = bound_by t (out-TermKind t.kind)

constant_by : (k : TermKind-F ElemKind TermKind) (name : Name) → constant_in k ≡ Some name → constants_in k ≡ name.text ∷ []
constant_by (TermKind-F.TermKind::Const own) name h = (let same : own ≡ name = cc in ap (λ (one : Name). one.text ∷ []) same)
constant_by other name h = absurd (cc)

bracket_by : (wanted : ℕ) (k : TermKind-F ElemKind TermKind) (names : List Name) → bracket_in wanted k ≡ Some names → constants_in k ≡ map (λ name. name.text) names
bracket_by wanted (TermKind-F.TermKind::Tuple own) names h = ap (map (λ (name : Name). name.text)) (so_many (length own == wanted) own names h)
bracket_by wanted other names h = absurd (cc)

constant_is : (t : Term) (name : Name) → constant_of t ≡ Some name → constants_of t ≡ name.text ∷ []
unfolding constant_of constants_of
constant_is t name h = constant_by (out-TermKind t.kind) name h

bracket_is : (wanted : ℕ) (t : Term) (names : List Name) → bracket_of wanted t ≡ Some names → constants_of t ≡ map (λ name. name.text) names
unfolding bracket_of constants_of
bracket_is wanted t names h = bracket_by wanted (out-TermKind t.kind) names h

-- ---- its number

number_by : (s : Shape) (t : Term) (v : Value-F Value) → IsSmall s → MeansIn [] s t v → IsNumberOf s t (number_in v)
number_by (domain cs) t (Value-F.Const n) small means = (means.1.1.0, ap (λ c. c ∷ []) means.1.1.1 ∙ sym (constant_is t means.0 means.1.0))
number_by (tuple ss) t (Value-F.Tuple n) small means = (means.0, means.1.1.1 ∙ sym (bracket_is (length (sizes ss)) t means.1.0 means.1.1.0))
number_by (domain cs) t _ small means = absurd means
number_by (tuple ss) t _ small means = absurd means
number_by _ t v small means = absurd small

number_meant : (s : Shape) (t : Term) (bs : Bindings) (v : Value) (n : ℕ) → bs ≡ [] → IsSmall s → Means bs s t v → n ≡ number_in (out-Value v) → IsNumberOf s t n
number_meant s t bs v n none small means is =
    subst (IsNumberOf s t) (sym is) (number_by s t (out-Value v) small
    (subst (λ u. MeansIn [] s u (out-Value v)) (bound_none t) (subst (λ none_bound. Means none_bound s t v) none means)))

pub small_type : (s : Shape) → IsSmall s → IsType s
small_type (domain cs) small = small
small_type (tuple ss) small = small
small_type _ small = absurd small

-- ---- nothing is wrong

here_by : (s : Shape) (t : Term) (f : Fault) → IsSmall s → OffendsIn (with_bound []) s t f → OffendsIn (with_open []) s t f
here_by (domain cs) t f small h = h
here_by (tuple ss) t f small h = h
here_by _ t f small h = absurd small

pub is_right : (s : Shape) (t : Term) (bs : Bindings) → bs ≡ [] → IsSmall s → value_faults s t ≡ [] → IsRight bs s t
is_right s t bs none small right f told =
    let offends : OffendsIn (with_bound []) s (bound [] t) f = subst (λ none_bound. Offends none_bound s t f) none told in
    let nothing : Tells (OffendsBy (with_open []) s t) None = law (with_open []) s t None (ap first (sym right)) in
    nothing f (subst (λ seen. OfSeen seen (λ u. OffendsIn (with_open []) s u f)) (sym (all_looked_at t)) (here_by s t f small (subst (λ u. OffendsIn (with_bound []) s u f) (bound_none t) offends)))

-- ---- as a function

pub number_right : (s : Shape) (t : Term) → IsSmall s → value_faults s t ≡ [] → IsNumberOf s t (number_of s t)
number_right s t small right =
    let whole : Result Value AllocError = Ok (built [] s t) in
    number_meant s t [] (built [] s t) (number_of s t) refl small (means_of [] s t whole (small_type s small) (is_right s t [] refl small right) refl) refl

pub number_is : (s : Shape) (t : Term) (bs : Bindings) (v : Value) (n : ℕ) → bs ≡ [] → IsSmall s → value_faults s t ≡ [] → Means bs s t v → n ≡ number_in (out-Value v) → n ≡ number_of s t
number_is s t bs v n none small right means is =
    let own : IsNumberOf s t n = number_meant s t bs v n none small means is in
    let other : IsNumberOf s t (number_of s t) = number_right s t small right in
    same_number s n (number_of s t) small own.0 other.0 (own.1 ∙ sym other.1)
