-- How the loops over the lines of a text go on.
use Rattle.std.proofs.Common.{◌≡◌, ◌<◌, ◌≤◌, ◌+◌, ◌-◌, ◌++◌, ◌==◌, ◌&&◌, ◌||◌, inl, inr, ℕ, suc, List, [], ◌∷◌, length, map, drop, get_or, refl, sym, ap, ap₂, ◌∙◌, arith, true, false, cond, Bool, Some, None, Option, Ok, Err, append_assoc, append-nil, add-one, nat_lt, bytes_eq}
use Rattle.std.specs.Prelude.{Result, ◌↔◌, IsTrue, IfSome}
use Rattle.std.proofs.lemmas.List.{drop_all, length-map, length-drop}
use Rattle.std.proofs.lemmas.Bool.{eqb-true, eq-eqb, ltb-true, lt-ltb, or_cases, or_left, or_right, and_parts, and_from, false_from_ne_true}
use Rattle.std.proofs.lemmas.List.Quantifiers.{position-Some}
use Rattle.std.specs.List.{flat_map}
use Rattle.xdg_base.specs.declared.ids.EntryNo.{EntryNo}
use Rattle.xdg_problem.specs.declared.analysis.Edge.{Edge}
use Rattle.xdg_problem.specs.declared.parts.Parts.{Parts}
use Rattle.xdg_problem.specs.declared.parts.SentenceWord.{SentenceWord}
use Rattle.xdg_problem.specs.Analyses.{Before}
use Rattle.xdg_problem.specs.Places.{numbers_from}
use Rattle.xdg_reading.specs.declared.texts.AttrLine.{AttrLine}
use Rattle.xdg_reading.specs.declared.texts.EdgeLine.{EdgeLine}
use Rattle.xdg_reading.specs.Fitted.{has_entry, words_fault, lead, leads, or_at, said_value, said_values, said_edge, said_edges, precedes, follows}
use Rattle.xdg_reading.specs.Names.{same_texts, label_number}
use Rattle.xdg_reading.specs.Slots.{Asked}
use Rattle.xdg_reading.proofs.Told.{value_said}
use Rattle.xdg_facts.proofs.Lists.{from_place}

-- texts of different numbers differ
long_texts : (xs ys : List (List ℕ)) → same_texts xs ys ≡ true → length xs ≡ length ys
long_texts [] [] e = refl
long_texts [] (y ∷ ys) e = cc
long_texts (x ∷ xs) [] e = cc
long_texts (x ∷ xs) (y ∷ ys) e = ap suc (long_texts xs ys (and_parts (bytes_eq x y) (same_texts xs ys) e).1)

pub other_length : (xs ys : List (List ℕ)) → (length xs ≡ length ys → ⊥) → false ≡ same_texts xs ys
other_length xs ys ne = sym (false_from_ne_true (same_texts xs ys) (λ e. ne (long_texts xs ys e)))

-- one edge is decided before another
pub precedes_is : (a b : Edge) → precedes a b ≡ true → Before a b
unfolding precedes
precedes_is a b e = elim (or_cases (nat_lt a.dim.0 b.dim.0) ((a.dim.0 == b.dim.0) && (nat_lt a.mother.0 b.mother.0 || ((a.mother.0 == b.mother.0) && (nat_lt a.label.0 b.label.0 || ((a.label.0 == b.label.0) && nat_lt a.daughter.0 b.daughter.0))))) e) [
  | inl h ↦ inl (ltb-true a.dim.0 b.dim.0 h)
  | inr h ↦ let one = and_parts (a.dim.0 == b.dim.0) (nat_lt a.mother.0 b.mother.0 || ((a.mother.0 == b.mother.0) && (nat_lt a.label.0 b.label.0 || ((a.label.0 == b.label.0) && nat_lt a.daughter.0 b.daughter.0)))) h in
      inr (
        eqb-true a.dim.0 b.dim.0 one.0,
        elim (or_cases (nat_lt a.mother.0 b.mother.0) ((a.mother.0 == b.mother.0) && (nat_lt a.label.0 b.label.0 || ((a.label.0 == b.label.0) && nat_lt a.daughter.0 b.daughter.0))) one.1) [
          | inl i ↦ inl (ltb-true a.mother.0 b.mother.0 i)
          | inr i ↦ let two = and_parts (a.mother.0 == b.mother.0) (nat_lt a.label.0 b.label.0 || ((a.label.0 == b.label.0) && nat_lt a.daughter.0 b.daughter.0)) i in
              inr (
                eqb-true a.mother.0 b.mother.0 two.0,
                elim (or_cases (nat_lt a.label.0 b.label.0) ((a.label.0 == b.label.0) && nat_lt a.daughter.0 b.daughter.0) two.1) [
                  | inl j ↦ inl (ltb-true a.label.0 b.label.0 j)
                  | inr j ↦ let three = and_parts (a.label.0 == b.label.0) (nat_lt a.daughter.0 b.daughter.0) j in inr (eqb-true a.label.0 b.label.0 three.0, ltb-true a.daughter.0 b.daughter.0 three.1)
                ],
              )
        ],
      )
]

pub precedes_from : (a b : Edge) → Before a b → precedes a b ≡ true
unfolding precedes
precedes_from a b (inl h) = or_left _ _ (lt-ltb a.dim.0 b.dim.0 h)
precedes_from a b (inr (d, inl h)) = or_right _ _ (and_from _ _ (eq-eqb a.dim.0 b.dim.0 d) (or_left _ _ (lt-ltb a.mother.0 b.mother.0 h)))
precedes_from a b (inr (d, inr (m, inl h))) = or_right _ _ (and_from _ _ (eq-eqb a.dim.0 b.dim.0 d) (or_right _ _ (and_from _ _ (eq-eqb a.mother.0 b.mother.0 m) (or_left _ _ (lt-ltb a.label.0 b.label.0 h)))))
precedes_from a b (inr (d, inr (m, inr (l, h)))) = or_right _ _ (and_from _ _ (eq-eqb a.dim.0 b.dim.0 d) (or_right _ _ (and_from _ _ (eq-eqb a.mother.0 b.mother.0 m) (or_right _ _ (and_from _ _ (eq-eqb a.label.0 b.label.0 l) (lt-ltb a.daughter.0 b.daughter.0 h))))))

pub precedes_told : (a b : Edge) (t : Bool) → IsTrue t ↔ Before a b → t ≡ precedes a b
precedes_told a b true exact = sym (precedes_from a b (exact.0 refl))
precedes_told a b false exact = sym (false_from_ne_true (precedes a b) (λ e. let h : false ≡ true = exact.1 (precedes_is a b e) in cc))

-- the words
words_at : (cs : List (List EntryNo)) (ws : List SentenceWord) (es : List EntryNo) (k : ℕ) (c : List EntryNo) (w : SentenceWord) (e : EntryNo) → k < length cs → k < length ws → k < length es → c ≡ get_or cs k c → w ≡ get_or ws k w → e ≡ get_or es k e → words_fault (drop k cs) (drop k ws) (drop k es) ≡ cond (has_entry c e) (words_fault (drop (k + 1) cs) (drop (k + 1) ws) (drop (k + 1) es)) (Some w.at)
words_at cs ws es k c w e in_cs in_ws in_es is_c is_w is_e =
    ap₂ (λ x y. words_fault x y (drop k es)) (from_place cs k c in_cs is_c) (from_place ws k w in_ws is_w)
    ∙ ap (λ z. words_fault (c ∷ drop (k + 1) cs) (w ∷ drop (k + 1) ws) z) (from_place es k e in_es is_e)

-- what is added to a list: the list goes on, ends, or is refused
leads_err : {X : Type 0} (xs : List X) (at : ℕ) → leads xs (Err at) ≡ Err at
leads_err [] at = refl
leads_err (x ∷ xs) at = ap (lead x) (leads_err xs at)

leads_ok : {X : Type 0} (xs ys : List X) → leads xs (Ok ys) ≡ Ok (xs ++ ys)
leads_ok [] ys = refl
leads_ok (x ∷ xs) ys = ap (lead x) (leads_ok xs ys)

leads_one : {X : Type 0} (xs : List X) (x : X) (r : Result (List X) ℕ) → leads (xs ++ x ∷ []) r ≡ leads xs (lead x r)
leads_one [] x r = refl
leads_one (y ∷ xs) x r = ap (lead y) (leads_one xs x r)

refused : {X : Type 0} (xs : List X) (r all : Result (List X) ℕ) (at : ℕ) → leads xs r ≡ all → r ≡ Err at → all ≡ Err at
refused xs r all at so_far e = sym so_far ∙ ap (leads xs) e ∙ leads_err xs at

ended : {X : Type 0} (xs : List X) (r all : Result (List X) ℕ) → leads xs r ≡ all → r ≡ Ok [] → all ≡ Ok xs
ended xs r all so_far e = sym so_far ∙ ap (leads xs) e ∙ leads_ok xs [] ∙ ap Ok (append-nil xs)

one_more : {X : Type 0} (xs made : List X) (x : X) (r more all : Result (List X) ℕ) → leads xs r ≡ all → r ≡ lead x more → made ≡ xs ++ x ∷ [] → leads made more ≡ all
one_more xs made x r more all so_far e is = ap (λ z. leads z more) is ∙ leads_one xs x more ∙ ap (leads xs) (sym e) ∙ so_far

-- the attributes of one node more
pub nodes_go : {X : Type 0} (f : ℕ → List X) (list made all : List X) (node n : ℕ) → list ++ flat_map f (numbers_from node (n - node)) ≡ all → node < n → made ≡ list ++ f node → made ++ flat_map f (numbers_from (node + 1) (n - (node + 1))) ≡ all
nodes_go f list made all node n so_far within is =
    let left : n - node ≡ suc (n - (node + 1)) = omega (arith, within) in
    ap (λ z. z ++ flat_map f (numbers_from (node + 1) (n - (node + 1)))) is
    ∙ append_assoc list (f node) (flat_map f (numbers_from (node + 1) (n - (node + 1))))
    ∙ ap (λ k. list ++ (f node ++ flat_map f (numbers_from k (n - (node + 1))))) (add-one node)
    ∙ sym (ap (λ k. list ++ flat_map f (numbers_from node k)) left)
    ∙ so_far

-- the attributes
pub values_extra : {X : Type 0} (f : X → Asked) (behind : ℕ) (slots : List X) (lines : List AttrLine) (k : ℕ) (line : AttrLine) (values : List ℕ) (all : Result (List ℕ) ℕ) → leads values (said_values behind (map f (drop k slots)) (drop k lines)) ≡ all → length slots ≤ k → k < length lines → line ≡ get_or lines k line → all ≡ Err line.at
values_extra f behind slots lines k line values all so_far none within is =
    refused values _ all line.at so_far (ap₂ (λ x y. said_values behind (map f x) y) (drop_all k slots none) (from_place lines k line within is))

values_at : {X : Type 0} (f : X → Asked) (behind : ℕ) (slots : List X) (lines : List AttrLine) (k : ℕ) (slot : X) (line : AttrLine) (said : Option ℕ) → k < length slots → k < length lines
    → slot ≡ get_or slots k slot → line ≡ get_or lines k line → said ≡ said_value (f slot) line
    → said_values behind (map f (drop k slots)) (drop k lines) ≡ or_at said line.at (λ value. lead value (said_values behind (map f (drop (k + 1) slots)) (drop (k + 1) lines)))
values_at f behind slots lines k slot line said in_slots in_lines is_slot is_line is =
    ap₂ (λ x y. said_values behind (map f x) y) (from_place slots k slot in_slots is_slot) (from_place lines k line in_lines is_line)
    ∙ ap (λ o. or_at o line.at (λ value. lead value (said_values behind (map f (drop (k + 1) slots)) (drop (k + 1) lines)))) (sym is)

pub values_wrong : {X : Type 0} (f : X → Asked) (behind : ℕ) (slots : List X) (lines : List AttrLine) (k : ℕ) (slot : X) (line : AttrLine) (values : List ℕ) (all : Result (List ℕ) ℕ) → leads values (said_values behind (map f (drop k slots)) (drop k lines)) ≡ all → k < length slots → k < length lines → slot ≡ get_or slots k slot → line ≡ get_or lines k line → None ≡ said_value (f slot) line → all ≡ Err line.at
values_wrong f behind slots lines k slot line values all so_far in_slots in_lines is_slot is_line said =
    refused values _ all line.at so_far (values_at f behind slots lines k slot line None in_slots in_lines is_slot is_line said)

pub values_go : {X : Type 0} (f : X → Asked) (behind : ℕ) (slots : List X) (lines : List AttrLine) (k : ℕ) (slot : X) (line : AttrLine) (value : ℕ) (values made : List ℕ) (all : Result (List ℕ) ℕ) → leads values (said_values behind (map f (drop k slots)) (drop k lines)) ≡ all → k < length slots → k < length lines → slot ≡ get_or slots k slot → line ≡ get_or lines k line → Some value ≡ said_value (f slot) line → made ≡ values ++ value ∷ [] → leads made (said_values behind (map f (drop (k + 1) slots)) (drop (k + 1) lines)) ≡ all
values_go f behind slots lines k slot line value values made all so_far in_slots in_lines is_slot is_line said is =
    one_more values made value _ _ all so_far (values_at f behind slots lines k slot line (Some value) in_slots in_lines is_slot is_line said) is

missing_at : (behind : ℕ) (asked : List Asked) → 0 < length asked → said_values behind asked [] ≡ Err behind
missing_at behind [] some = absurd (omega (arith, some))
missing_at behind (a ∷ asked) some = refl

pub values_short : {X : Type 0} (f : X → Asked) (behind : ℕ) (slots : List X) (lines : List AttrLine) (k : ℕ) (values : List ℕ) (all : Result (List ℕ) ℕ) → leads values (said_values behind (map f (drop k slots)) (drop k lines)) ≡ all → length lines ≤ k → k ≤ length lines → length lines < length slots → all ≡ Err behind
values_short f behind slots lines k values all so_far done within short =
    refused values _ all behind so_far (ap (said_values behind (map f (drop k slots))) (drop_all k lines done)
    ∙ missing_at behind (map f (drop k slots)) (let size : length (map f (drop k slots)) ≡ length (drop k slots) = length-map (drop k slots) f in omega (arith, size, length-drop k slots, done, within, short)))

pub values_end : {X : Type 0} (f : X → Asked) (behind : ℕ) (slots : List X) (lines : List AttrLine) (k : ℕ) (values : List ℕ) (all : Result (List ℕ) ℕ) → leads values (said_values behind (map f (drop k slots)) (drop k lines)) ≡ all → length lines ≤ k → length slots ≤ length lines → all ≡ Ok values
values_end f behind slots lines k values all so_far done enough =
    ended values _ all so_far (ap₂ (λ x y. said_values behind (map f x) y) (drop_all k slots (omega (arith, done, enough))) (drop_all k lines done))

-- the edges
edges_at : (parts : Parts) (before : Option Edge) (lines : List EdgeLine) (k : ℕ) (line : EdgeLine) (said : Option Edge) → k < length lines → line ≡ get_or lines k line → said ≡ said_edge parts line
    → said_edges parts before (drop k lines) ≡ or_at said line.at (λ e. cond (follows before e) (lead e (said_edges parts (Some e) (drop (k + 1) lines))) (Err line.at))
edges_at parts before lines k line said within is found =
    ap (said_edges parts before) (from_place lines k line within is) ∙ ap (λ o. or_at o line.at (λ e. cond (follows before e) (lead e (said_edges parts (Some e) (drop (k + 1) lines))) (Err line.at))) (sym found)

pub edges_wrong : (parts : Parts) (before : Option Edge) (lines : List EdgeLine) (k : ℕ) (line : EdgeLine) (edges : List Edge) (all : Result (List Edge) ℕ) → leads edges (said_edges parts before (drop k lines)) ≡ all → k < length lines → line ≡ get_or lines k line → None ≡ said_edge parts line → all ≡ Err line.at
edges_wrong parts before lines k line edges all so_far within is said = refused edges _ all line.at so_far (edges_at parts before lines k line None within is said)

edges_said : (parts : Parts) (before : Option Edge) (lines : List EdgeLine) (k : ℕ) (line : EdgeLine) (e : Edge) (t : Bool) → k < length lines → line ≡ get_or lines k line → Some e ≡ said_edge parts line → t ≡ follows before e → said_edges parts before (drop k lines) ≡ cond t (lead e (said_edges parts (Some e) (drop (k + 1) lines))) (Err line.at)
edges_said parts before lines k line e t within is said test =
    edges_at parts before lines k line (Some e) within is said ∙ ap (λ t. cond t (lead e (said_edges parts (Some e) (drop (k + 1) lines))) (Err line.at)) (sym test)

pub edges_late : (parts : Parts) (before : Option Edge) (lines : List EdgeLine) (k : ℕ) (line : EdgeLine) (e : Edge) (edges : List Edge) (all : Result (List Edge) ℕ) → leads edges (said_edges parts before (drop k lines)) ≡ all → k < length lines → line ≡ get_or lines k line → Some e ≡ said_edge parts line → false ≡ follows before e → all ≡ Err line.at
edges_late parts before lines k line e edges all so_far within is said test = refused edges _ all line.at so_far (edges_said parts before lines k line e false within is said test)

pub edges_go : (parts : Parts) (before : Option Edge) (lines : List EdgeLine) (k : ℕ) (line : EdgeLine) (e : Edge) (edges made : List Edge) (all : Result (List Edge) ℕ) → leads edges (said_edges parts before (drop k lines)) ≡ all → k < length lines → line ≡ get_or lines k line → Some e ≡ said_edge parts line → true ≡ follows before e → made ≡ edges ++ e ∷ [] → leads made (said_edges parts (Some e) (drop (k + 1) lines)) ≡ all
edges_go parts before lines k line e edges made all so_far within is said test made_is = one_more edges made e _ _ all so_far (edges_said parts before lines k line e true within is said test) made_is

pub edges_end : (parts : Parts) (before : Option Edge) (lines : List EdgeLine) (k : ℕ) (edges : List Edge) (all : Result (List Edge) ℕ) → leads edges (said_edges parts before (drop k lines)) ≡ all → length lines ≤ k → all ≡ Ok edges
edges_end parts before lines k edges all so_far done = ended edges _ all so_far (ap (said_edges parts before) (drop_all k lines done))

-- the numbers of a value and of a label are in range
pub said_within : (asked : Asked) (line : AttrLine) (v : ℕ) → said_value asked line ≡ Some v → v < length asked.attr.values
said_within asked line v e = (value_said asked line v e).within

pub label_within : (labels : List (List ℕ)) (name : List ℕ) (result : Option ℕ) → result ≡ label_number labels name → IfSome result (λ label. label < length labels)
label_within labels name None e = tt
label_within labels name (Some l) e = (position-Some (λ label. bytes_eq label name) labels l [] (sym e)).0
