-- What is known of classes, as they are added one by one.
use Rattle.std.proofs.Common.{◌≡◌, inl, inr, ℕ, suc, ◌+◌, ◌<◌, Bool, true, false, ◌||◌, List, [], ◌∷◌, ◌++◌, length, map, take, get_or, Option, None, Some, refl, sym, ap, ◌∙◌, subst, arith, add-one}
use Rattle.std.specs.Prelude.{slice_get, option_map, bytes_eq, if◌then◌else◌, not}
use Rattle.std.proofs.Math.Seq.{take-suc, get_or-append_seam}
use Rattle.std.proofs.lemmas.Bool.{cases_Bool, true≢false, false_from_ne_true, not-false, not-true}
use Rattle.std.proofs.lemmas.List.{map-append, length-append, get_or_append_left}
use Rattle.std.proofs.lemmas.Option.{slice_get-get_or, slice_get_within, get_or_from_slice_get}
use Rattle.std.proofs.lemmas.Slice.Eq.{bytes_eq-Decides}
use Rattle.xdg_names.specs.Texts.{has_text, place_of}
use Rattle.xdg_names.proofs.Texts.{place_of-None, None-place_of, place_of-append_left, place_of-append_right, has_text-append}
use Rattle.xdg_classes.specs.declared.params.Params.{Params}
use Rattle.xdg_classes.specs.declared.definitions.ClassDef.{ClassDef as LentClass}
use Rattle.xdg_classes.specs.Definitions.{ClassDef, class_named, class_names}
use Rattle.xdg_classes.specs.NameFaults.{Asked, asked_by}
use Rattle.xdg_classes.specs.Known.{shown, KnowsClasses}
use Rattle.xdg_classes.specs.Lent.{class_def}
use Rattle.xdg_classes.specs.Ordered.{class_at}
use Rattle.xdg_facts.proofs.Truths.{none_or}
use Rattle.xdg_facts.proofs.Options.{some_same}
use Rattle.xdg_facts.proofs.Texts.{same_text, is_same}
use Rattle.xdg_facts.specs.Membership.{In}
use Rattle.xdg_ast.specs.Texts.{texts}

-- ---- the class with a name

module _ (c : ClassDef) (name : List ℕ) where
  -- the first one stays
  named_kept : (cs : List ClassDef) (d : ClassDef) → class_named cs name ≡ Some d → class_named (cs ++ c ∷ []) name ≡ Some d
  named_kept [] d e = absurd cc
  named_kept (x ∷ cs) d e = elim (bytes_eq x.name.text name) as (λ b. (if b then Some x else class_named cs name) ≡ Some d → (if b then Some x else class_named (cs ++ c ∷ []) name) ≡ Some d) [
    | true ↦ λ k. k
    | false ↦ named_kept cs d
  ] e

  named_new : (cs : List ClassDef) → class_named cs name ≡ None → class_named (cs ++ c ∷ []) name ≡ (if bytes_eq c.name.text name then Some c else None)
  named_new [] e = refl
  named_new (x ∷ cs) e = elim (bytes_eq x.name.text name) as (λ b. (if b then Some x else class_named cs name) ≡ None → (if b then Some x else class_named (cs ++ c ∷ []) name) ≡ (if bytes_eq c.name.text name then Some c else None)) [
    | true ↦ λ k. absurd cc
    | false ↦ named_new cs
  ] e

-- the class that is found stands there, and has the name
pub named_in : (cs : List ClassDef) (name : List ℕ) (c : ClassDef) → class_named cs name ≡ Some c → In cs c × (c.name.text ≡ name)
named_in [] name c h = absurd cc
named_in (x ∷ cs) name c h = elim (bytes_eq x.name.text name) as (λ b. bytes_eq x.name.text name ≡ b → (if b then Some x else class_named cs name) ≡ Some c → In (x ∷ cs) c × (c.name.text ≡ name)) [
  | true ↦ λ t e. (let is = some_same x c e in (inl is, ap (λ (y : ClassDef). y.name.text) (sym is) ∙ same_text x.name.text name t))
  | false ↦ λ t e. (let k = named_in cs name c e in (inr k.0, k.1))
] refl h

-- a name that some class has is found
pub named_some : (cs : List ClassDef) (name : List ℕ) → In (texts (class_names cs)) name → (c : ClassDef) × (class_named cs name ≡ Some c)
named_some [] name h = absurd h
named_some (x ∷ cs) name h = elim (bytes_eq x.name.text name) as (λ b. bytes_eq x.name.text name ≡ b → (c : ClassDef) × ((if b then Some x else class_named cs name) ≡ Some c)) [
  | true ↦ λ t. (x, refl)
  | false ↦ λ t. elim h [ inl same ↦ absurd (true≢false (sym (is_same x.name.text name same) ∙ t)) | inr k ↦ named_some cs name k ]
] refl

-- the place of a name among the names of the classes is that of the first class with that name

pub class_placed : (cs : List ClassDef) (name : List ℕ) → class_at cs (place_of (texts (class_names cs)) name) ≡ class_named cs name
class_placed [] name = refl
class_placed (c ∷ cs) name =
    let rest = place_of (texts (class_names cs)) name in
    elim (bytes_eq c.name.text name) as (λ b. class_at (c ∷ cs) (if b then Some 0 else option_map suc rest) ≡ (if b then Some c else class_named cs name)) [ true ↦ refl | false ↦ later rest ∙ class_placed cs name ]
  where
    later : (o : Option ℕ) → class_at (c ∷ cs) (option_map suc o) ≡ class_at cs o
    later None = refl
    later (Some k) = refl

-- ---- one class more

module _ (cs : List ClassDef) (names : List (List ℕ)) (all : List Asked) (knows : KnowsClasses cs names all) (c : ClassDef) where
  abbrev own : List ℕ
  own = c.name.text

  -- one whose name is known
  knows_same : has_text names own ≡ true → KnowsClasses (cs ++ c ∷ []) names all
  knows_same stands = record {
    len = knows.len;
    missing = λ name e.
        let other : bytes_eq own name ≡ false = false_from_ne_true (bytes_eq own name)
        (λ same. true≢false (sym stands ∙ ap (has_text names) ((bytes_eq-Decides own name).0 same) ∙ place_of-None names name e)) in
        named_new c name cs (knows.missing name e) ∙ ap (λ b. if b then Some c else None) other;
    found = λ name k e. (let r = knows.found name k e in (r.0, (named_kept c name cs r.0 r.1.0, r.1.1)));
  }

  module _ (fresh : has_text names own ≡ false) where
    at_end : slice_get (all ++ asked_by c ∷ []) (length names) ≡ Some (asked_by c)
    at_end =
        let inside : length names < length (all ++ asked_by c ∷ []) = (let l : length (all ++ asked_by c ∷ []) ≡ length all + 1 = length-append all (asked_by c ∷ []) in let m : length all ≡ length names = knows.len in omega (arith, l, m)) in
        slice_get-get_or (all ++ asked_by c ∷ []) (length names) (asked_by c) inside
        ∙ ap (λ k. Some (get_or (all ++ asked_by c ∷ []) k (asked_by c))) (sym knows.len)
        ∙ ap Some (get_or-append_seam all (asked_by c) [] (asked_by c))

    before : (k : ℕ) (w : Asked) → slice_get all k ≡ Some w → slice_get (all ++ asked_by c ∷ []) k ≡ Some w
    before k w e =
        let inside : k < length all = slice_get_within all k w e in
        let more : k < length (all ++ asked_by c ∷ []) = (let l : length (all ++ asked_by c ∷ []) ≡ length all + 1 = length-append all (asked_by c ∷ []) in omega (arith, l, inside)) in
        slice_get-get_or (all ++ asked_by c ∷ []) k w more
        ∙ ap Some (get_or_append_left all (asked_by c ∷ []) w k inside)
        ∙ ap Some (get_or_from_slice_get all k w w e)

    -- one whose name is new
    knows_new : KnowsClasses (cs ++ c ∷ []) (names ++ own ∷ []) (all ++ asked_by c ∷ [])
    knows_new = record {
      len = (let l : length (all ++ asked_by c ∷ []) ≡ length all + 1 = length-append all (asked_by c ∷ []) in
          let m : length (names ++ own ∷ []) ≡ length names + 1 = length-append names (own ∷ []) in
          let k : length all ≡ length names = knows.len in
          omega (arith, l, m, k));
      missing = λ name e.
          let none = none_or (has_text names name) (bytes_eq own name || false) (sym (has_text-append names (own ∷ []) name) ∙ place_of-None (names ++ own ∷ []) name e) in
          named_new c name cs (knows.missing name (None-place_of names name none.0)) ∙ ap (λ b. if b then Some c else None) (none_or (bytes_eq own name) false none.1).0;
      found = λ name k e. elim (cases_Bool (has_text names name)) [
        | inl old ↦ (let r = knows.found name k (sym (place_of-append_left names (own ∷ []) name old) ∙ e) in (r.0, (named_kept c name cs r.0 r.1.0, before k (asked_by r.0) r.1.1)))
        | inr no_name ↦ last name k no_name (bytes_eq own name) refl (sym (place_of-append_right names (own ∷ []) name no_name) ∙ e)
      ];
    }
      where
        last : (name : List ℕ) (k : ℕ) → has_text names name ≡ false → (b : Bool) → bytes_eq own name ≡ b
            → option_map (λ place. length names + place) (if b then Some 0 else option_map suc None) ≡ Some k
            → (d : ClassDef) × ((class_named (cs ++ c ∷ []) name ≡ Some d) × (slice_get (all ++ asked_by c ∷ []) k ≡ Some (asked_by d)))
        last name k none true is e =
            let at : length names + 0 ≡ k = cc in
            let here : length names ≡ k = omega (arith, at) in
            (c, (named_new c name cs (knows.missing name (None-place_of names name none)) ∙ ap (λ b. if b then Some c else None) is, subst (λ j. slice_get (all ++ asked_by c ∷ []) j ≡ Some (asked_by c)) here at_end))
        last name k none false is e = absurd cc

-- ---- a turn of the loop over the classes

module _ (ds : List LentClass) (i : ℕ) (d : LentClass) (within : i < length ds) (is : d ≡ get_or ds i d) where
  front : map class_def (take (i + 1) ds) ≡ map class_def (take i ds) ++ class_def d ∷ []
  front =
      let more : take (i + 1) ds ≡ take i ds ++ d ∷ [] = rw add-one (take-suc ds i d within ∙ ap (λ z. take i ds ++ z ∷ []) (sym is)) in
      ap (map class_def) more ∙ map-append class_def (take i ds) (d ∷ [])

  module _ (names : List (List ℕ)) (all : List Params) (knows : KnowsClasses (map class_def (take i ds)) names (map shown all)) where
    -- by what the index tells
    pub told_same : (text : List ℕ) (added : Bool) (more : List (List ℕ)) (next : List Params) → text ≡ d.name.now.text → added ≡ not (has_text names text) → more ≡ (if added then names ++ text ∷ [] else names) → added ≡ false → next ≡ all
        → KnowsClasses (map class_def (take (i + 1) ds)) more (map shown next)
    told_same text added more next at new grown off rest =
        let stands : has_text names d.name.now.text ≡ true = ap (has_text names) (sym at) ∙ not-false (has_text names text) (sym new ∙ off) in
        let ns : more ≡ names = grown ∙ ap (λ b. if b then names ++ text ∷ [] else names) off in
        subst (λ ws. KnowsClasses (map class_def (take (i + 1) ds)) more (map shown ws)) (sym rest)
        (subst (λ ns. KnowsClasses (map class_def (take (i + 1) ds)) ns (map shown all)) (sym ns)
        (subst (λ cs. KnowsClasses cs names (map shown all)) (sym front) (knows_same (map class_def (take i ds)) names (map shown all) knows (class_def d) stands)))

    pub told_new : (text : List ℕ) (added : Bool) (more : List (List ℕ)) (next : List Params) (params : Params) → text ≡ d.name.now.text → added ≡ not (has_text names text) → more ≡ (if added then names ++ text ∷ [] else names) → added ≡ true
        → shown params ≡ asked_by (class_def d) → next ≡ all ++ params ∷ [] → KnowsClasses (map class_def (take (i + 1) ds)) more (map shown next)
    told_new text added more next params at new grown on asks rest =
        let fresh : has_text names d.name.now.text ≡ false = ap (has_text names) (sym at) ∙ not-true (has_text names text) (sym new ∙ on) in
        let ns : more ≡ names ++ d.name.now.text ∷ [] = grown ∙ ap (λ b. if b then names ++ text ∷ [] else names) on ∙ ap (λ t. names ++ t ∷ []) at in
        let shows : map shown next ≡ map shown all ++ asked_by (class_def d) ∷ [] = ap (map shown) rest ∙ map-append shown all (params ∷ []) ∙ ap (λ w. map shown all ++ w ∷ []) asks in
        subst (λ cs. KnowsClasses cs more (map shown next)) (sym front)
        (subst (λ ns. KnowsClasses (map class_def (take i ds) ++ class_def d ∷ []) ns (map shown next)) (sym ns)
        (subst (λ ws. KnowsClasses (map class_def (take i ds) ++ class_def d ∷ []) (names ++ d.name.now.text ∷ []) ws) (sym shows)
        (knows_new (map class_def (take i ds)) names (map shown all) knows (class_def d) fresh)))
