-- What is wrong in a term of the wanted form, told of its elements one by one.
use Rattle.std.proofs.Common.{◌≡◌, ℕ, true, false, List, [], ◌∷◌, ◌++◌, length, Option, Some, None, refl, sym, ap, ap₂, ◌∙◌, eq-eqb}
use Rattle.std.specs.List.{flat_map}
use Rattle.std.proofs.lemmas.Bool.{ne_eqb, true≢false}
use Rattle.std.proofs.lemmas.List.Folds.{flat_map-map}
use Rattle.std.proofs.lemmas.List.Concat.{flat_map_single}
use Rattle.std.specs.Prelude.{if◌then◌else◌}
use Rattle.xdg_base.specs.declared.faults.Cause.TheVariants as causes
use Rattle.xdg_base.specs.declared.faults.Fault.{Fault}
use Rattle.xdg_ast.specs.declared.names.Name.{Name}
use Rattle.xdg_ast.specs.declared.names.Spanned.{Spanned}
use Rattle.xdg_ast.specs.declared.terms.TermKind.{TermKind, out-TermKind}
use Rattle.xdg_ast.specs.declared.terms.TermKind.TheVariants as k
use Rattle.xdg_ast.specs.declared.terms.ElemKind.{ElemKind, out-ElemKind}
use Rattle.xdg_ast.specs.declared.terms.ElemKind.TheOpen.{TermKind-F}
use Rattle.xdg_ast.specs.declared.terms.GenKind.{GenKind}
use Rattle.xdg_domain.specs.Shapes as d
use Rattle.xdg_domain.specs.Shapes.{Shape, Shapes, Fields, sizes, in_a_row, names_of}
use Rattle.xdg_names.specs.First.{first, earlier}
use Rattle.xdg_names.proofs.First.{first_append}
use Rattle.xdg_terms.specs.Forms.{Term, Look, bracket_of, bracket_in, all_of, braces_in, plain_elem, bracketed_elem, counted_elem, keyed_elem, constants_of, brackets_of, counts_of, pairs_of, generator_of, generator_in}
use Rattle.xdg_terms.specs.Offences.{is_some, gen_names}
use Rattle.xdg_terms.specs.Faults as spec
use Rattle.xdg_terms.proofs.Right.{told}
use Rattle.xdg_terms.proofs.Read.{plain_is, bracketed_is, counted_is, keyed_is, split, ended}

-- ---- layers

out_tuple : (t : Term) (names : List Name) → t.kind ≡ k.Tuple names → out-TermKind t.kind ≡ TermKind-F.TermKind::Tuple names
out_tuple t names is = ap out-TermKind is ∙ k.outs-Tuple names

pub out_braces : (t : Term) (elems : List (Spanned ElemKind)) → t.kind ≡ k.Braces elems → out-TermKind t.kind ≡ TermKind-F.Braces elems
out_braces t elems is = ap out-TermKind is ∙ k.outs-Braces elems

out_gen : (t : Term) (gen : Spanned GenKind) → t.kind ≡ k.Gen gen → out-TermKind t.kind ≡ TermKind-F.Gen gen
out_gen t gen is = ap out-TermKind is ∙ k.outs-Gen gen

-- ---- square brackets

pub bracket_right : (n : ℕ) (t : Term) (names : List Name) → t.kind ≡ k.Tuple names → length names ≡ n → bracket_of n t ≡ Some names
unfolding bracket_of
bracket_right n t names is so_many = ap (bracket_in n) (out_tuple t names is) ∙ ap (λ b. if b then Some names else None) (eq-eqb (length names) n so_many)

pub bracket_wrong : (n : ℕ) (t : Term) (names : List Name) → t.kind ≡ k.Tuple names → (length names ≡ n → ⊥) → bracket_of n t ≡ None
unfolding bracket_of
bracket_wrong n t names is other = ap (bracket_in n) (out_tuple t names is) ∙ ap (λ b. if b then Some names else None) (ne_eqb (length names) n other)

pub tuple_right : (ss : Shapes) (t : Term) (names : List Name) → t.kind ≡ k.Tuple names → length names ≡ length (sizes ss) → spec.missing_in_turn (d.constants_of ss) names ≡ spec.tuple_faults ss t
unfolding spec.tuple_faults
tuple_right ss t names is so_many = sym (ap (λ o. spec.formed o (spec.missing_in_turn (d.constants_of ss)) t) (bracket_right (length (sizes ss)) t names is so_many))

pub tuple_wrong : (ss : Shapes) (t : Term) (names : List Name) → t.kind ≡ k.Tuple names → (length names ≡ length (sizes ss) → ⊥) → spec.wrong_kind t ≡ spec.tuple_faults ss t
unfolding spec.tuple_faults
tuple_wrong ss t names is other = sym (ap (λ o. spec.formed o (spec.missing_in_turn (d.constants_of ss)) t) (bracket_wrong (length (sizes ss)) t names is other))

-- ---- braces

-- what holds of each element of the form holds of all
pub told_as : {A B : Type 0} (form : Spanned ElemKind → Option A) (g : A → List B) (h : Spanned ElemKind → List B) → ((e : Spanned ElemKind) (x : A) → form e ≡ Some x → h e ≡ g x)
    → (es : List (Spanned ElemKind)) (xs : List A) → all_of form es ≡ Some xs → flat_map h es ≡ flat_map g xs
told_as form g h each [] xs is = ap (flat_map g) (sym (ended form xs is))
told_as form g h each (e ∷ es) xs is =
    let two = split form e es xs is in
    ap₂ (λ (ys zs : List _). ys ++ zs) (each e two.x two.one) (told_as form g h each es two.rest two.others) ∙ ap (flat_map g) (sym two.is)

pub there_is_none : {A : Type 0} (o : Option A) → false ≡ is_some o → o ≡ None
there_is_none None h = refl
there_is_none (Some x) h = absurd (true≢false (sym h))

-- braces whose elements aren't all of the form
braces_wrong : {A : Type 0} (form : Spanned ElemKind → Option A) (parts : List A → List Fault) (t : Term) (es : List (Spanned ElemKind)) → t.kind ≡ k.Braces es → false ≡ is_some (all_of form es)
    → spec.formed (braces_in form (out-TermKind t.kind)) parts t ≡ spec.wrong_kind t
braces_wrong form parts t es is h = ap (λ o. spec.formed o parts t) (ap (braces_in form) (out_braces t es is) ∙ there_is_none (all_of form es) h)

braces_right : {A : Type 0} (form : Spanned ElemKind → Option A) (parts : List A → List Fault) (whole : List Fault) (t : Term) (es : List (Spanned ElemKind)) → t.kind ≡ k.Braces es → true ≡ is_some (all_of form es)
    → ((xs : List A) → all_of form es ≡ Some xs → whole ≡ parts xs) → whole ≡ spec.formed (braces_in form (out-TermKind t.kind)) parts t
braces_right form parts whole t es is h same =
    let one = told (all_of form es) (sym h) in
    same one.0 one.1 ∙ sym (ap (λ o. spec.formed o parts t) (ap (braces_in form) (out_braces t es is) ∙ one.1))

-- the first of two parts of a list
sum_told : (xs ys zs : List Fault) → xs ++ ys ≡ zs → (whole one other : Option Fault) → one ≡ first xs → other ≡ first ys → whole ≡ earlier one other → whole ≡ first zs
sum_told xs ys zs parts whole one other a b sum = sum ∙ ap₂ earlier a b ∙ sym (first_append xs ys) ∙ ap first parts

-- ---- all elements

pub constants_right : (texts : List (List ℕ)) (t : Term) (es : List (Spanned ElemKind)) → t.kind ≡ k.Braces es → true ≡ is_some (all_of plain_elem es) → flat_map (spec.plain_missing texts) es ≡ spec.constants_faults texts t
unfolding spec.constants_faults constants_of plain_elem spec.plain_missing
constants_right texts t es is h =
    braces_right plain_elem (spec.all_missing causes.NotMember texts) (flat_map (spec.plain_missing texts) es) t es is h (λ xs a. told_as plain_elem (spec.missing causes.NotMember texts) (spec.plain_missing texts) (λ e x k. ap (spec.plain_missing_in texts) (plain_is (out-ElemKind e.kind) x k)) es xs a)

pub constants_wrong : (texts : List (List ℕ)) (t : Term) (es : List (Spanned ElemKind)) → t.kind ≡ k.Braces es → false ≡ is_some (all_of plain_elem es) → spec.wrong_kind t ≡ spec.constants_faults texts t
unfolding spec.constants_faults constants_of
constants_wrong texts t es is h = sym (braces_wrong plain_elem (spec.all_missing causes.NotMember texts) t es is h)

tuples_by : (ss : Shapes) (t : Term) (rows : Option (List (List Name))) (gen : Option (Spanned GenKind)) → brackets_of (length (sizes ss)) t ≡ rows → generator_of t ≡ gen → spec.either_faults ss rows gen t ≡ spec.tuples_faults ss t
unfolding spec.tuples_faults
tuples_by ss t rows gen a b = sym (ap₂ (λ o p. spec.either_faults ss o p t) a b)

not_generated : (t : Term) (es : List (Spanned ElemKind)) → t.kind ≡ k.Braces es → generator_of t ≡ None
unfolding generator_of
not_generated t es is = ap generator_in (out_braces t es is)

brackets_told : (n m : ℕ) (t : Term) (es : List (Spanned ElemKind)) (rows : Option (List (List Name))) → t.kind ≡ k.Braces es → n ≡ m → all_of (bracketed_elem n) es ≡ rows → brackets_of m t ≡ rows
unfolding brackets_of
brackets_told n m t es rows is many h = ap (braces_in (bracketed_elem m)) (out_braces t es is) ∙ ap (λ l. all_of (bracketed_elem l) es) (sym many) ∙ h

bracket_each : (ss : Shapes) (n : ℕ) (e : Spanned ElemKind) (x : List Name) → bracketed_elem n e ≡ Some x → spec.bracket_missing ss e ≡ spec.missing_in_turn (d.constants_of ss) x
unfolding bracketed_elem spec.bracket_missing
bracket_each ss n e x h = ap (spec.bracket_missing_in ss) (bracketed_is n (out-ElemKind e.kind) x h)

pub tuples_right : (ss : Shapes) (n : ℕ) (t : Term) (es : List (Spanned ElemKind)) → t.kind ≡ k.Braces es → n ≡ length (sizes ss) → true ≡ is_some (all_of (bracketed_elem n) es) → flat_map (spec.bracket_missing ss) es ≡ spec.tuples_faults ss t
tuples_right ss n t es is many h =
    let one = told (all_of (bracketed_elem n) es) (sym h) in
    told_as (bracketed_elem n) (spec.missing_in_turn (d.constants_of ss)) (spec.bracket_missing ss) (bracket_each ss n) es one.0 one.1
    ∙ tuples_by ss t (Some one.0) None (brackets_told n (length (sizes ss)) t es (Some one.0) is many one.1) (not_generated t es is)

pub tuples_wrong : (ss : Shapes) (n : ℕ) (t : Term) (es : List (Spanned ElemKind)) → t.kind ≡ k.Braces es → n ≡ length (sizes ss) → false ≡ is_some (all_of (bracketed_elem n) es) → spec.wrong_kind t ≡ spec.tuples_faults ss t
tuples_wrong ss n t es is many h =
    tuples_by ss t None None (brackets_told n (length (sizes ss)) t es None is many (there_is_none (all_of (bracketed_elem n) es) h)) (not_generated t es is)

generated : (t : Term) (gen : Spanned GenKind) → t.kind ≡ k.Gen gen → generator_of t ≡ Some gen
unfolding generator_of
generated t gen is = ap generator_in (out_gen t gen is)

no_brackets : (n : ℕ) (t : Term) (gen : Spanned GenKind) → t.kind ≡ k.Gen gen → brackets_of n t ≡ None
unfolding brackets_of
no_brackets n t gen is = ap (braces_in (bracketed_elem n)) (out_gen t gen is)

pub tuples_generated : (ss : Shapes) (t : Term) (gen : Spanned GenKind) → t.kind ≡ k.Gen gen → spec.all_missing causes.NotMember (in_a_row (d.constants_of ss)) (gen_names gen.kind) ≡ spec.tuples_faults ss t
tuples_generated ss t gen is = tuples_by ss t None (Some gen) (no_brackets (length (sizes ss)) t gen is) (generated t gen is)

keys_right : {A : Type 0} (form : Spanned ElemKind → Option (Name × A)) → ((e : Spanned ElemKind) (p : Name × A) → form e ≡ Some p → spec.key_of e ≡ p.0 ∷ [])
    → ((rule : Name → List Fault) (e : Spanned ElemKind) (p : Name × A) → form e ≡ Some p → spec.key_faults rule e ≡ rule p.0) → (rule : Name → List Fault) (es : List (Spanned ElemKind)) (xs : List (Name × A)) → all_of form es ≡ Some xs
    → flat_map (spec.key_faults rule) es ++ spec.all_twice [] (spec.keys es) ≡ flat_map rule (spec.keys_in xs) ++ spec.all_twice [] (spec.keys_in xs)
keys_right form key says rule es xs a =
    ap₂ (λ (ys zs : List Fault). ys ++ zs) (told_as form (λ p. rule p.0) (spec.key_faults rule) (says rule) es xs a ∙ sym (flat_map-map rule (λ p. p.0) xs))
    (ap (spec.all_twice []) (told_as form (λ p. p.0 ∷ []) spec.key_of key es xs a ∙ flat_map_single (λ p. p.0) xs))

-- the keys and the parts of elements
module _ {A : Type 0} (form : Spanned ElemKind → Option (Name × A)) (key : (e : Spanned ElemKind) (p : Name × A) → form e ≡ Some p → spec.key_of e ≡ p.0 ∷ [])
    (says : (rule : Name → List Fault) (e : Spanned ElemKind) (p : Name × A) → form e ≡ Some p → spec.key_faults rule e ≡ rule p.0) where
  pairs_right : (rule : Name → List Fault) (g : Name × A → List Fault) (h : Spanned ElemKind → List Fault) → ((e : Spanned ElemKind) (p : Name × A) → form e ≡ Some p → h e ≡ g p) → (t : Term) (es : List (Spanned ElemKind)) → t.kind ≡ k.Braces es
      → true ≡ is_some (all_of form es) → (flat_map (spec.key_faults rule) es ++ spec.all_twice [] (spec.keys es)) ++ flat_map h es
      ≡ spec.formed (braces_in form (out-TermKind t.kind)) (λ pairs. (flat_map rule (spec.keys_in pairs) ++ spec.all_twice [] (spec.keys_in pairs)) ++ flat_map g pairs) t
  pairs_right rule g h each t es is right =
      braces_right form (λ pairs. (flat_map rule (spec.keys_in pairs) ++ spec.all_twice [] (spec.keys_in pairs)) ++ flat_map g pairs) ((flat_map (spec.key_faults rule) es ++ spec.all_twice [] (spec.keys es)) ++ flat_map h es) t es is right
      (λ xs a. ap₂ (λ (ys zs : List Fault). ys ++ zs) (keys_right form key says rule es xs a) (told_as form g h each es xs a))

pub valency_told : (texts : List (List ℕ)) (t : Term) (es : List (Spanned ElemKind)) → t.kind ≡ k.Braces es → true ≡ is_some (all_of counted_elem es) → (whole one other : Option Fault)
    → one ≡ first (flat_map (spec.key_faults (spec.missing causes.NotMember texts)) es ++ spec.all_twice [] (spec.keys es)) → other ≡ first (flat_map spec.count_faults es) → whole ≡ earlier one other → whole ≡ first (spec.valency_faults texts t)
unfolding spec.valency_faults counts_of counted_elem spec.count_faults spec.key_faults spec.key_of
valency_told texts t es is h =
    sum_told (flat_map (spec.key_faults (spec.missing causes.NotMember texts)) es ++ spec.all_twice [] (spec.keys es)) (flat_map spec.count_faults es) (spec.valency_faults texts t)
    (pairs_right counted_elem (λ e p k. ap spec.key_in (counted_is (out-ElemKind e.kind) p k)) (λ rule e p k. ap (spec.key_faults_in rule) (counted_is (out-ElemKind e.kind) p k)) (spec.missing causes.NotMember texts)
    (λ p. spec.card_faults p.1) spec.count_faults (λ e p k. ap spec.count_faults_in (counted_is (out-ElemKind e.kind) p k)) t es is h)

pub valency_wrong : (texts : List (List ℕ)) (t : Term) (es : List (Spanned ElemKind)) → t.kind ≡ k.Braces es → false ≡ is_some (all_of counted_elem es) → spec.wrong_kind t ≡ spec.valency_faults texts t
unfolding spec.valency_faults counts_of
valency_wrong texts t es is h = sym (braces_wrong counted_elem _ t es is h)

pub mapping_told : (look : Look) (texts : List (List ℕ)) (s : Shape) (t : Term) (es : List (Spanned ElemKind)) → t.kind ≡ k.Braces es → true ≡ is_some (all_of keyed_elem es) → (whole one other : Option Fault)
    → one ≡ first (flat_map (spec.key_faults (spec.missing causes.NotMember texts)) es ++ spec.all_twice [] (spec.keys es)) → other ≡ first (flat_map (spec.value_faults look s) es) → whole ≡ earlier one other → whole ≡ first (spec.mapping_faults look texts s t)
unfolding spec.mapping_faults pairs_of keyed_elem spec.value_faults spec.key_faults spec.key_of
mapping_told look texts s t es is h =
    sum_told (flat_map (spec.key_faults (spec.missing causes.NotMember texts)) es ++ spec.all_twice [] (spec.keys es)) (flat_map (spec.value_faults look s) es) (spec.mapping_faults look texts s t)
    (pairs_right keyed_elem (λ e p k. ap spec.key_in (keyed_is (out-ElemKind e.kind) p k)) (λ rule e p k. ap (spec.key_faults_in rule) (keyed_is (out-ElemKind e.kind) p k)) (spec.missing causes.NotMember texts)
    (λ p. spec.faults look s p.1) (spec.value_faults look s) (λ e p k. ap (spec.value_faults_in look s) (keyed_is (out-ElemKind e.kind) p k)) t es is h)

pub mapping_wrong : (look : Look) (texts : List (List ℕ)) (s : Shape) (t : Term) (es : List (Spanned ElemKind)) → t.kind ≡ k.Braces es → false ≡ is_some (all_of keyed_elem es) → spec.wrong_kind t ≡ spec.mapping_faults look texts s t
unfolding spec.mapping_faults pairs_of
mapping_wrong look texts s t es is h = sym (braces_wrong keyed_elem _ t es is h)

pub record_told : (look : Look) (fs : Fields) (t : Term) (es : List (Spanned ElemKind)) → t.kind ≡ k.Braces es → true ≡ is_some (all_of keyed_elem es) → (whole one other : Option Fault)
    → one ≡ first (flat_map (spec.key_faults (spec.missing causes.UnknownName (names_of fs))) es ++ spec.all_twice [] (spec.keys es)) → other ≡ first (flat_map (spec.elem_faults look fs) es) → whole ≡ earlier one other → whole ≡ first (spec.record_faults look fs t)
unfolding spec.record_faults pairs_of keyed_elem spec.elem_faults spec.key_faults spec.key_of
record_told look fs t es is h =
    sum_told (flat_map (spec.key_faults (spec.missing causes.UnknownName (names_of fs))) es ++ spec.all_twice [] (spec.keys es)) (flat_map (spec.elem_faults look fs) es) (spec.record_faults look fs t)
    (pairs_right keyed_elem (λ e p k. ap spec.key_in (keyed_is (out-ElemKind e.kind) p k)) (λ rule e p k. ap (spec.key_faults_in rule) (keyed_is (out-ElemKind e.kind) p k)) (spec.missing causes.UnknownName (names_of fs))
    (spec.field_faults look fs) (spec.elem_faults look fs) (λ e p k. ap (spec.elem_faults_in look fs) (keyed_is (out-ElemKind e.kind) p k)) t es is h)

pub record_wrong : (look : Look) (fs : Fields) (t : Term) (es : List (Spanned ElemKind)) → t.kind ≡ k.Braces es → false ≡ is_some (all_of keyed_elem es) → spec.wrong_kind t ≡ spec.record_faults look fs t
unfolding spec.record_faults pairs_of
record_wrong look fs t es is h = sym (braces_wrong keyed_elem _ t es is h)
