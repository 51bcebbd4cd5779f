-- The sets, maps and records of terms without an offence.
use Rattle.std.proofs.Common.{◌≡◌, ◌⊎◌, inl, inr, ℕ, ◌<◌, List, [], ◌++◌, length, get_or, Some, None, refl, sym, ap, ◌∙◌}
use Rattle.std.specs.Prelude.{◌↔◌, Bool, true, false, ◌||◌, nat_lt}
use Rattle.std.specs.List.{flat_map}
use Rattle.std.specs.List.Sorted.{IsStrictlyIncreasing}
use Rattle.std.proofs.lemmas.Bool.{false≢true, or_cases, and_parts, ltb-true}
use Rattle.xdg_ast.specs.declared.names.Name.{Name}
use Rattle.xdg_ast.specs.declared.names.Spanned.{Spanned}
use Rattle.xdg_ast.specs.declared.terms.GenKind.{GenKind}
use Rattle.xdg_ast.specs.declared.terms.TermKind.{TermKind, out-TermKind}
use Rattle.xdg_ast.specs.declared.terms.ElemKind.{ElemKind}
use Rattle.xdg_ast.specs.declared.terms.ElemKind.TheOpen.{TermKind-F}
use Rattle.xdg_domain.specs.Shapes.{Shape, domain, tuple, Shapes, sizes, product, count, constants_of, in_a_row, IsSmall, IsTuple}
use Rattle.xdg_domain.specs.Values.{AllBelow}
use Rattle.xdg_terms.specs.Forms.{Term, Gen, all_of, plain_elem, bracketed_elem, keyed_elem, counted_elem, braces_in, generator_in, brackets_of, generator_of, counts_of, pairs_of}
use Rattle.xdg_terms.specs.Forms as forms
use Rattle.xdg_terms.specs.Offences.{is_some, all_told, gen_names, asked_in, asked_in_turn, asked_in_set, has_set_form}
use Rattle.xdg_facts.specs.Onward.{optional}
use Rattle.xdg_terms.specs.Means.{fulfils, tuple_texts, IsSetOf}
use Rattle.xdg_terms.specs.Built.{listed, generated, set_in, set_of, elems_of}
use Rattle.xdg_terms.proofs.SameMembers.{as_set_has, as_set_rises}
use Rattle.xdg_terms.proofs.Right.{Stands, told}
use Rattle.xdg_terms.proofs.Read.{braces_read}
use Rattle.xdg_terms.proofs.Meant.{domain_set, bracket_set}
use Rattle.xdg_facts.specs.Membership.{In, Differ}
use Rattle.xdg_facts.proofs.In.{in_left, flat_map_in, map_in}
use Rattle.xdg_facts.specs.Rises.{has}
use Rattle.xdg_ast.specs.Texts.{texts as texts_of}
use Rattle.xdg_facts.proofs.Rising.{has_of, has_tested}
use Rattle.xdg_domain.proofs.Numbers.{below_has}
use Rattle.xdg_facts.proofs.Merging.{numbers_increase}

-- ---- sets

domain_set_in : (cs : List (List ℕ)) (k : TermKind-F ElemKind TermKind) → Differ cs → is_some (braces_in plain_elem k) ≡ true
    → ((texts : List (List ℕ)) (name : Name) → In (asked_in cs (all_told (braces_in plain_elem k))) (texts, name) → Stands texts name)
    → IsStrictlyIncreasing (set_in (domain cs) k) × ((n : ℕ) → (has (set_in (domain cs) k) n ≡ true) ↔ ((n < length cs) × In (texts_of (all_told (braces_in plain_elem k))) (get_or cs n [])))
domain_set_in cs (TermKind-F.Braces elems) differ formed stand =
    let r = told (all_of plain_elem elems) formed in
    let names = all_told (all_of plain_elem elems) in
    let is : all_of plain_elem elems ≡ Some names = r.1 ∙ ap (λ z. Some z) (sym (ap all_told r.1)) in (
      as_set_rises (listed (domain cs) elems),
      λ n. rw (as_set_has (listed (domain cs) elems) n) (domain_set cs elems names differ is (λ name among. stand cs name (map_in (λ (z : Name). (cs, z)) names name among)) n),
    )
domain_set_in cs k differ formed stand = absurd (false≢true formed)

-- what the term names, by its form
abbrev Named : Shapes → TermKind-F ElemKind TermKind → ℕ → Type 0
Named ss k n =
    ((names : List Name) × (In (all_told (braces_in (bracketed_elem (length (sizes ss))) k)) names × (tuple_texts ss n ≡ texts_of names)))
    ⊎ ((gen : Spanned GenKind) × ((generator_in k ≡ Some gen) × (fulfils (tuple_texts ss n) gen.kind ≡ true)))

generated_has : (ss : Shapes) (gen : Gen) (n : ℕ) → (has (generated (tuple ss) gen) n ≡ true) ↔ ((n < product (sizes ss)) × (fulfils (tuple_texts ss n) gen.kind ≡ true))
unfolding generated
generated_has ss gen n =
    let all = product (sizes ss) in
    let test : ℕ → Bool = λ m. fulfils (tuple_texts ss m) gen.kind in (
      (λ h. (let b = and_parts (nat_lt n all) (test n) (sym (has_tested all test n) ∙ h) in (ltb-true n all b.0, b.1))),
      (λ h. has_of all test n h.0 ∙ h.1),
    )

generated_rises : (ss : Shapes) (gen : Gen) → IsStrictlyIncreasing (generated (tuple ss) gen)
unfolding generated
generated_rises ss gen = numbers_increase (product (sizes ss)) (λ m. fulfils (tuple_texts ss m) gen.kind)

tuple_set_in : (ss : Shapes) (k : TermKind-F ElemKind TermKind) → IsTuple ss → (is_some (braces_in (bracketed_elem (length (sizes ss))) k) || is_some (generator_in k)) ≡ true
    → ((texts : List (List ℕ)) (name : Name) → In (flat_map (asked_in_turn (constants_of ss)) (all_told (braces_in (bracketed_elem (length (sizes ss))) k))
    ++ flat_map (λ gen. asked_in (in_a_row (constants_of ss)) (gen_names gen.kind)) (optional (generator_in k))) (texts, name) → Stands texts name)
    → IsStrictlyIncreasing (set_in (tuple ss) k) × ((n : ℕ) → (has (set_in (tuple ss) k) n ≡ true) ↔ ((n < product (sizes ss)) × Named ss k n))
tuple_set_in ss (TermKind-F.Braces elems) type formed stand =
    let form = bracketed_elem (length (sizes ss)) in
    let r = told (all_of form elems) (elim (or_cases (is_some (all_of form elems)) false formed) [ inl e ↦ e | inr e ↦ absurd (false≢true e) ]) in
    let lists = all_told (all_of form elems) in
    let is : all_of form elems ≡ Some lists = r.1 ∙ ap (λ z. Some z) (sym (ap all_told r.1)) in (
      as_set_rises (listed (tuple ss) elems),
      λ n. rw (as_set_has (listed (tuple ss) elems) n) (
          let both = bracket_set ss elems lists type is (λ names among texts name asked.
          stand texts name (in_left (flat_map (asked_in_turn (constants_of ss)) lists) [] (texts, name) (flat_map_in (asked_in_turn (constants_of ss)) lists names (texts, name) among asked))) n in (
            (λ h. (let b = both.0 h in (b.0, inl b.1))),
            (λ h. both.1 (h.0, elim h.1 [ inl b ↦ b | inr g ↦ absurd (none_some g.0 g.1.0) ])),
          )),
    )
  where
    none_some : (gen : Spanned GenKind) → None ≡ Some gen → ⊥
    none_some gen e = cc
tuple_set_in ss (TermKind-F.Gen gen) type formed stand = (
  generated_rises ss gen,
  λ n. (
      let both = generated_has ss gen n in (
        (λ h. (let b = both.0 h in (b.0, inr (gen, (refl, b.1))))),
        (λ h. both.1 (h.0, elim h.1 [ inl b ↦ absurd b.1.0 | inr g ↦ (let same : gen ≡ g.0 = cc in ap (λ (z : Spanned GenKind). fulfils (tuple_texts ss n) z.kind) same ∙ g.1.1) ])),
      )),
)
tuple_set_in ss k type formed stand = absurd (false≢true formed)

pub set_law : (s : Shape) (t : Term) → IsSmall s → has_set_form s t ≡ true → ((texts : List (List ℕ)) (name : Name) → In (asked_in_set s t) (texts, name) → Stands texts name) → IsSetOf s t (set_of s t)
unfolding forms.constants_of brackets_of generator_of set_of
set_law (domain cs) t small formed stand = domain_set_in cs (out-TermKind t.kind) small.1 formed stand
set_law (tuple ss) t small formed stand = tuple_set_in ss (out-TermKind t.kind) small formed stand
set_law s t small formed stand = absurd small

pub set_below : (s : Shape) (t : Term) (ns : List ℕ) → IsSetOf s t ns → IsStrictlyIncreasing ns × AllBelow (count s) ns
set_below s t ns h = (h.0, below_has (count s) ns (λ n stands. ((h.1 n).0 stands).0))

-- ---- elements

pub counts_read : (t : Term) (pairs : List (Name × forms.Card)) → counts_of t ≡ Some pairs → all_of counted_elem (elems_of t) ≡ Some pairs
unfolding counts_of elems_of
counts_read t pairs h = braces_read counted_elem (out-TermKind t.kind) pairs h

pub pairs_read : (t : Term) (pairs : List (Name × Term)) → pairs_of t ≡ Some pairs → all_of keyed_elem (elems_of t) ≡ Some pairs
unfolding pairs_of elems_of
pairs_read t pairs h = braces_read keyed_elem (out-TermKind t.kind) pairs h
