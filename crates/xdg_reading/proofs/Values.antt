-- Values of attributes are read as they are written.
use Rattle.std.proofs.Common.{◌≡◌, ◌<◌, ◌≤◌, ◌++◌, ◌&&◌, not, ◌⊎◌, inl, inr, ℕ, zero, suc, List, [], ◌∷◌, length, refl, sym, ap, ◌∙◌, subst, arith, lit<, true, false, cond, Bool, Some, None, Option, append_assoc, length-append, codes}
use Rattle.std.proofs.lemmas.Bool.{and_parts, both_ways}
use Rattle.std.specs.List.{flat_map, join_by, list_all}
use Rattle.xdg_problem.specs.declared.parts.Shown.{Shown}
use Rattle.xdg_problem.specs.declared.parts.Shown.TheVariants as shown
use Rattle.xdg_problem.specs.Problems.{HasConstant}
use Rattle.xdg_text.specs.Constants.{constant, quoted, is_name, begins_name, continues_name, is_keyword}
use Rattle.xdg_text.specs.Values.{value_text}
use Rattle.xdg_reading.specs.Pieces.{after, past, past_or, or_else, lead, behind, constant_at, element_at, constants_at, tuple_at, value_at}
use Rattle.xdg_reading.proofs.Constants.{space, bracket, line_feed, constant_read, constant_other, constant_spelled}
use Rattle.xdg_reading.proofs.Fronts.{it_stands}
use Rattle.xdg_reading.proofs.Steps.{pair, after_found, past_found, past_or_found, lead_found, or_else_found, Passed}
use Rattle.xdg_facts.proofs.Options.{none_some, some_same, cond_either}
use Rattle.xdg_facts.proofs.Truths.{other_byte}

-- a constant with another behind it
pub element_goes : (text rest : List ℕ) → element_at (constant text ++ 32 ∷ rest) ≡ Some ((text, true), rest)
unfolding element_at
element_goes text rest = ap (λ o. or_else (after o (λ text rest. Some ((text, true), rest))) (after (constant_at 93 (constant text ++ 32 ∷ rest)) (λ text rest. Some ((text, false), rest)))) (constant_read 32 text rest space)

-- the last constant
pub element_ends : (text rest : List ℕ) → element_at (constant text ++ 93 ∷ rest) ≡ Some ((text, false), rest)
unfolding element_at
element_ends text rest =
    ap (λ o. or_else (after o (λ text rest. Some ((text, true), rest))) (after (constant_at 93 (constant text ++ 93 ∷ rest)) (λ text rest. Some ((text, false), rest)))) (constant_other 93 32 text rest bracket space (λ e. cc))
    ∙ ap (λ o. after o (λ text rest. Some ((text, false), rest))) (constant_read 93 text rest bracket)

abbrev end_of : Bool → ℕ
end_of more = cond more 32 93

element_parts : (bytes text rest : List ℕ) (end : ℕ) (more : Bool) (y : (List ℕ × Bool) × List ℕ) → end_of more ≡ end → after (constant_at end bytes) (λ text rest. Some ((text, more), rest)) ≡ Some y → bytes ≡ constant y.0.0 ++ end_of y.0.1 ∷ y.1
element_parts bytes text rest end more y is found =
    let cut = after_found (constant_at end bytes) (λ text rest. Some ((text, more), rest)) y found in
    constant_spelled end cut.value bytes cut.rest cut.is
    ∙ ap (λ z. constant cut.value ++ z ∷ cut.rest) (sym is)
    ∙ ap (λ (z : (List ℕ × Bool) × List ℕ). constant z.0.0 ++ end_of z.0.1 ∷ z.1) (some_same (pair (pair cut.value more) cut.rest) y cut.goes)

-- what is read as a constant of a tuple is one
pub element_spelled : (bytes : List ℕ) (y : (List ℕ × Bool) × List ℕ) → element_at bytes ≡ Some y → bytes ≡ constant y.0.0 ++ end_of y.0.1 ∷ y.1
unfolding element_at
element_spelled bytes y read = by (or_else_found (after (constant_at 32 bytes) (λ text rest. Some ((text, true), rest))) (after (constant_at 93 bytes) (λ text rest. Some ((text, false), rest))) y read) where
  by : (after (constant_at 32 bytes) (λ text rest. Some ((text, true), rest)) ≡ Some y) ⊎ (after (constant_at 93 bytes) (λ text rest. Some ((text, false), rest)) ≡ Some y) → bytes ≡ constant y.0.0 ++ end_of y.0.1 ∷ y.1
  by (inl found) = element_parts bytes [] [] 32 true y refl found
  by (inr found) = element_parts bytes [] [] 93 false y refl found

-- constants with a space before each
abbrev pub more_text : List (List ℕ) → List ℕ
more_text texts = flat_map (λ y. codes " " ++ constant y) texts

abbrev turn : (List ℕ × Bool) → ℕ → List ℕ → Option (List (List ℕ) × List ℕ)
turn element most rest = cond element.1 (lead element.0 (constants_at most rest)) (Some (element.0 ∷ [], rest))

-- the constants of a tuple are read
pub constants_read : (most : ℕ) (text : List ℕ) (texts : List (List ℕ)) (rest : List ℕ) → length texts < most → constants_at most (constant text ++ (more_text texts ++ 93 ∷ rest)) ≡ Some (text ∷ texts, rest)
constants_read zero text texts rest enough = absurd (omega (arith, enough))
constants_read (suc most) text [] rest enough = ap (λ o. after o (λ element rest. turn element most rest)) (element_ends text rest)
constants_read (suc most) text (next ∷ texts) rest enough =
    ap (λ z. constants_at (suc most) (constant text ++ 32 ∷ z)) (append_assoc (constant next) (more_text texts) (93 ∷ rest))
    ∙ ap (λ o. after o (λ element rest. turn element most rest)) (element_goes text (constant next ++ (more_text texts ++ 93 ∷ rest)))
    ∙ ap (lead text) (constants_read most next texts rest (omega (arith, enough)))

pub record Tuple (bytes : List ℕ) (texts : List (List ℕ)) (rest : List ℕ) : Type 0 where
  pub some : 0 < length texts
  pub parts : bytes ≡ join_by constant (codes " ") texts ++ 93 ∷ rest

one_more : (bytes text : List ℕ) (left : List ℕ) (texts : List (List ℕ)) (rest : List ℕ) → bytes ≡ constant text ++ 32 ∷ left → Tuple left texts rest → Tuple bytes (text ∷ texts) rest
one_more bytes text left [] rest parts tuple = let h = tuple.some in absurd (omega (arith, h))
one_more bytes text left (next ∷ texts) rest parts tuple = record {
  some = omega arith;
  parts = parts ∙ ap (λ z. constant text ++ 32 ∷ z) tuple.parts ∙ sym (append_assoc (constant text) (32 ∷ (constant next ++ more_text texts)) (93 ∷ rest));
}

only_one : (bytes text rest : List ℕ) → bytes ≡ constant text ++ 93 ∷ rest → Tuple bytes (text ∷ []) rest
only_one bytes text rest parts = record { some = lit< tt; parts = parts ∙ sym (append_assoc (constant text) [] (93 ∷ rest)) }

-- what is read as constants of a tuple is written so
pub constants_spelled : (most : ℕ) (bytes : List ℕ) (texts : List (List ℕ)) (rest : List ℕ) → constants_at most bytes ≡ Some (texts, rest) → Tuple bytes texts rest
constants_spelled zero bytes texts rest read = absurd (none_some (pair texts rest) read)
constants_spelled (suc most) bytes texts rest read =
    let found = after_found (element_at bytes) (λ element rest. turn element most rest) (texts, rest) read in
    by found.value found.rest (element_spelled bytes (pair found.value found.rest) found.is) (cond_either found.value.1 (lead found.value.0 (constants_at most found.rest)) (Some (found.value.0 ∷ [], found.rest)) (texts, rest) found.goes) (constants_spelled most found.rest) where
      by : (element : List ℕ × Bool) (left : List ℕ) → bytes ≡ constant element.0 ++ end_of element.1 ∷ left → ((element.1 ≡ true) × (lead element.0 (constants_at most left) ≡ Some (pair texts rest))) ⊎ ((element.1 ≡ false) × (Some (pair (element.0 ∷ []) left) ≡ Some (pair texts rest))) → ((xs : List (List ℕ)) (r : List ℕ) → constants_at most left ≡ Some (xs, r) → Tuple left xs r) → Tuple bytes texts rest
      by element left parts (inl (more, found)) known =
          let led = lead_found element.0 (constants_at most left) (texts, rest) found in
          subst (λ (p : List (List ℕ) × List ℕ). Tuple bytes p.0 p.1) led.all
          (one_more bytes element.0 left led.more led.rest (parts ∙ ap (λ t. constant element.0 ++ end_of t ∷ left) more) (known led.more led.rest led.is))
      by element left parts (inr (more, found)) known =
          subst (λ (p : List (List ℕ) × List ℕ). Tuple bytes p.0 p.1) (some_same (pair (element.0 ∷ []) left) (pair texts rest) found)
          (only_one bytes element.0 left (parts ∙ ap (λ t. constant element.0 ++ end_of t ∷ left) more))

few : (texts : List (List ℕ)) → length texts ≤ length (more_text texts)
few [] = omega arith
few (text ∷ texts) = omega (arith, few texts, length-append (constant text) (more_text texts))

enough : (text : List ℕ) (texts : List (List ℕ)) (rest : List ℕ) → length texts < length (constant text ++ (more_text texts ++ 93 ∷ rest))
enough text texts rest = omega (arith, few texts, length-append (constant text) (more_text texts ++ 93 ∷ rest), length-append (more_text texts) (93 ∷ rest))

tuple_read : (text : List ℕ) (texts : List (List ℕ)) (rest : List ℕ) → tuple_at (constant text ++ (more_text texts ++ 93 ∷ 10 ∷ rest)) ≡ Some (shown.Many (text ∷ texts), rest)
unfolding tuple_at
tuple_read text texts rest = ap (λ o. after o (λ texts rest. past (behind (10 ∷ []) rest) (λ rest. Some (shown.Many texts, rest)))) (constants_read (length (constant text ++ (more_text texts ++ 93 ∷ 10 ∷ rest))) text texts (10 ∷ rest) (enough text texts (10 ∷ rest)))

named : (text rest : List ℕ) → is_name text ≡ true → behind (91 ∷ []) (text ++ rest) ≡ None
named [] rest name = cc
named (first ∷ others) rest name =
    let outer = and_parts (begins_name first && list_all continues_name others) (not (is_keyword (first ∷ others))) name in
    let inner = and_parts (begins_name first) (list_all continues_name others) outer.0 in
    other_byte first 91 (Some (others ++ rest)) None (λ e. both_ways (begins_name first) (ap begins_name e) inner.0)

-- no constant begins with a bracket
no_bracket : (text rest : List ℕ) → behind (91 ∷ []) (constant text ++ rest) ≡ None
no_bracket text rest = by (is_name text) refl where
  by : (t : Bool) → is_name text ≡ t → behind (91 ∷ []) (constant text ++ rest) ≡ None
  by true name = ap (λ t. behind (91 ∷ []) (cond t text (quoted text) ++ rest)) name ∙ named text rest name
  by false name = ap (λ t. behind (91 ∷ []) (cond t text (quoted text) ++ rest)) name

-- a value is read
pub value_read : (value : Shown) (rest : List ℕ) → HasConstant value → value_at (value_text value ++ 10 ∷ rest) ≡ Some (value, rest)
unfolding value_at
value_read (shown.One text) rest has = ap (λ o. past_or o tuple_at (after (constant_at 10 (constant text ++ 10 ∷ rest)) (λ text rest. Some (shown.One text, rest)))) (no_bracket text (10 ∷ rest)) ∙ ap (λ o. after o (λ text rest. Some (shown.One text, rest))) (constant_read 10 text rest line_feed)
value_read (shown.Many []) rest has = absurd (omega (arith, has))
value_read (shown.Many (text ∷ texts)) rest has =
    ap (λ z. tuple_at z) (append_assoc (constant text ++ more_text texts) (93 ∷ []) (10 ∷ rest) ∙ append_assoc (constant text) (more_text texts) (93 ∷ 10 ∷ rest))
    ∙ tuple_read text texts rest

pub record IsValue (value : Shown) (bytes rest : List ℕ) : Type 0 where
  pub parts : bytes ≡ value_text value ++ 10 ∷ rest
  pub has : HasConstant value

tuple_spelled : (bytes : List ℕ) (value : Shown) (rest : List ℕ) → tuple_at bytes ≡ Some (value, rest) → IsValue value (91 ∷ bytes) rest
unfolding tuple_at
tuple_spelled bytes value rest read =
    let found = after_found (constants_at (length bytes) bytes) (λ texts rest. past (behind (10 ∷ []) rest) (λ rest. Some (shown.Many texts, rest))) (value, rest) read in
    let last = past_found (behind (10 ∷ []) found.rest) (λ rest. Some (shown.Many found.value, rest)) (value, rest) found.goes in
    let tuple = constants_spelled (length bytes) bytes found.value found.rest found.is in
    subst (λ (p : Shown × List ℕ). IsValue p.0 (91 ∷ bytes) p.1) (some_same (pair (shown.Many found.value) last.rest) (pair value rest) last.goes)
    (record {
      parts = ap (λ z. 91 ∷ z) (tuple.parts ∙ ap (λ z. join_by constant (codes " ") found.value ++ 93 ∷ z) (it_stands (10 ∷ []) found.rest last.rest last.is) ∙ sym (append_assoc (join_by constant (codes " ") found.value) (93 ∷ []) (10 ∷ last.rest)));
      has = tuple.some;
    })

one_spelled : (bytes : List ℕ) (value : Shown) (rest : List ℕ) → after {Y = Shown × List ℕ} (constant_at 10 bytes) (λ text rest. Some (shown.One text, rest)) ≡ Some (value, rest) → IsValue value bytes rest
one_spelled bytes value rest read =
    let found = after_found (constant_at 10 bytes) (λ text rest. Some (shown.One text, rest)) (value, rest) read in
    subst (λ (p : Shown × List ℕ). IsValue p.0 bytes p.1) (some_same (pair (shown.One found.value) found.rest) (pair value rest) found.goes)
    (record { parts = constant_spelled 10 found.value bytes found.rest found.is; has = tt })

-- what is read as a value is written so
pub value_spelled : (bytes : List ℕ) (value : Shown) (rest : List ℕ) → value_at bytes ≡ Some (value, rest) → IsValue value bytes rest
unfolding value_at
value_spelled bytes value rest read = by (past_or_found (behind (91 ∷ []) bytes) tuple_at (after (constant_at 10 bytes) (λ text rest. Some (shown.One text, rest))) (value, rest) read) where
  by : Passed (behind (91 ∷ []) bytes) tuple_at (pair value rest) ⊎ (after {Y = Shown × List ℕ} (constant_at 10 bytes) (λ text rest. Some (shown.One text, rest)) ≡ Some (pair value rest)) → IsValue value bytes rest
  by (inl mark) = subst (λ z. IsValue value z rest) (sym (it_stands (91 ∷ []) bytes mark.rest mark.is)) (tuple_spelled mark.rest value rest mark.goes)
  by (inr one) = one_spelled bytes value rest one
