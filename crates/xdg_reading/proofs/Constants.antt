-- Quoted texts and constants are read as they are written.
use Rattle.std.proofs.Common.{◌≡◌, ◌≢◌, ◌<◌, ◌++◌, ◌==◌, ◌&&◌, ◌||◌, ◌⊎◌, inl, inr, ℕ, zero, suc, List, [], ◌∷◌, length, get_or, drop, refl, sym, ap, ◌∙◌, arith, true, false, cond, not, Bool, Some, None, append_assoc}
use Rattle.std.proofs.lemmas.Bool.{eqb-true, ne_eqb, and_parts, not_from_false, and_from, or_parts, or_from, or_left, or_right, both_ways}
use Rattle.std.specs.List.{list_all, flat_map}
use Rattle.xdg_text.specs.Constants.{is_name, is_keyword, begins_name, continues_name, is_escaped, escaped, quoted, constant}
use Rattle.xdg_reading.specs.Pieces.{after, past, lead, behind, until, inside, quoted_at, name_at, quoted_constant_at, constant_at, begins_quoted, is_plain}
use Rattle.xdg_reading.proofs.Fronts.{until_it, until_stands, it_stands}
use Rattle.xdg_reading.proofs.Insides.{plain_byte, closing, escaped_turn, nothing_left}
use Rattle.xdg_reading.proofs.Steps.{pair, lead_found, Led, after_found, past_found}
use Rattle.xdg_facts.proofs.Options.{none_some, some_same, cond_either, cond_found, cond_left, nothing_if}
use Rattle.xdg_base.proofs.Names.{escaped_is, unescaped}
use Rattle.xdg_facts.proofs.Truths.{same_byte, other_byte}

-- what ends a word: neither a mark nor a part of a name
pub record IsEnd (end : ℕ) : Type 0 where
  pub begins : begins_name end ≡ false
  pub continues : continues_name end ≡ false

pub space : IsEnd 32
space = record { begins = refl; continues = refl }

pub bracket : IsEnd 93
bracket = record { begins = refl; continues = refl }

pub line_feed : IsEnd 10
line_feed = record { begins = refl; continues = refl }

plain_of : (byte : ℕ) → is_escaped byte ≡ false → is_plain byte ≡ true
plain_of byte e = let both = or_parts (byte == 34) (byte == 92) e in and_from (not (byte == 34)) (not (byte == 92)) (not_from_false (byte == 34) both.0) (not_from_false (byte == 92) both.1)

-- the inside of a quoted text is read up to its mark
pub inside_read : (text rest : List ℕ) → inside false (flat_map escaped text ++ 34 ∷ rest) ≡ Some (text, rest)
inside_read [] rest = closing rest
inside_read (byte ∷ text) rest = by (inside_read text rest) (is_escaped byte) refl where
  more : List ℕ
  more = flat_map escaped text

  by : inside false (more ++ 34 ∷ rest) ≡ Some (text, rest) → (t : Bool) → is_escaped byte ≡ t → inside false ((cond t (92 ∷ byte ∷ []) (byte ∷ []) ++ more) ++ 34 ∷ rest) ≡ Some (byte ∷ text, rest)
  by known true e = escaped_turn byte (more ++ 34 ∷ rest) e ∙ ap (lead byte) known
  by known false e = plain_byte byte (more ++ 34 ∷ rest) (plain_of byte e) ∙ ap (lead byte) known

-- the bytes with the backslash before them, if the first is escaped
abbrev marked : Bool → List ℕ → List ℕ
marked true bytes = 92 ∷ bytes
marked false bytes = bytes

inside_true : (byte : ℕ) (bytes : List ℕ) → inside true (byte ∷ bytes) ≡ cond (is_escaped byte) (lead byte (inside false bytes)) None
unfolding inside
inside_true byte bytes = refl

inside_false : (byte : ℕ) (bytes : List ℕ) → inside false (byte ∷ bytes) ≡ cond (byte == 34) (Some ([], bytes)) (cond (byte == 92) (inside true bytes) (lead byte (inside false bytes)))
unfolding inside
inside_false byte bytes = refl

after_mark : (byte : ℕ) (bytes text rest : List ℕ) → is_escaped byte ≡ true → Led byte (inside false bytes) (text, rest) → ((x r : List ℕ) → inside false bytes ≡ Some (x, r) → bytes ≡ flat_map escaped x ++ 34 ∷ r) → 92 ∷ byte ∷ bytes ≡ flat_map escaped text ++ 34 ∷ rest
after_mark byte bytes text rest e led known =
    ap (λ z. 92 ∷ byte ∷ z) (known led.more led.rest led.is)
    ∙ ap (λ z. (z ++ flat_map escaped led.more) ++ 34 ∷ led.rest) (sym (escaped_is byte e))
    ∙ ap (λ (p : List ℕ × List ℕ). flat_map escaped p.0 ++ 34 ∷ p.1) led.all

after_plain : (byte : ℕ) (bytes text rest : List ℕ) → is_escaped byte ≡ false → Led byte (inside false bytes) (text, rest) → ((x r : List ℕ) → inside false bytes ≡ Some (x, r) → bytes ≡ flat_map escaped x ++ 34 ∷ r) → byte ∷ bytes ≡ flat_map escaped text ++ 34 ∷ rest
after_plain byte bytes text rest e led known =
    ap (λ z. byte ∷ z) (known led.more led.rest led.is)
    ∙ ap (λ z. (z ++ flat_map escaped led.more) ++ 34 ∷ led.rest) (sym (unescaped byte e))
    ∙ ap (λ (p : List ℕ × List ℕ). flat_map escaped p.0 ++ 34 ∷ p.1) led.all

-- what is read of an inside is written so
pub inside_spelled : (t : Bool) (bytes text rest : List ℕ) → inside t bytes ≡ Some (text, rest) → marked t bytes ≡ flat_map escaped text ++ 34 ∷ rest
inside_spelled t [] text rest read = absurd (none_some (pair text rest) (sym (nothing_left t) ∙ read))
inside_spelled true (byte ∷ bytes) text rest read =
    by (cond_either (is_escaped byte) (lead byte (inside false bytes)) None (text, rest) (sym (inside_true byte bytes) ∙ read)) (inside_spelled false bytes) where
      by : ((is_escaped byte ≡ true) × (lead byte (inside false bytes) ≡ Some (pair text rest))) ⊎ ((is_escaped byte ≡ false) × (None ≡ Some (pair text rest))) → ((x r : List ℕ) → inside false bytes ≡ Some (x, r) → bytes ≡ flat_map escaped x ++ 34 ∷ r) → 92 ∷ byte ∷ bytes ≡ flat_map escaped text ++ 34 ∷ rest
      by (inl (e, found)) known = after_mark byte bytes text rest e (lead_found byte (inside false bytes) (text, rest) found) known
      by (inr (e, found)) known = cc
inside_spelled false (byte ∷ bytes) text rest read =
    by (cond_either (byte == 34) (Some ([], bytes)) (cond (byte == 92) (inside true bytes) (lead byte (inside false bytes))) (text, rest) (sym (inside_false byte bytes) ∙ read)) (inside_spelled false bytes) (inside_spelled true bytes text rest) where
      other : (byte == 34) ≡ false → ((byte == 92) ≡ true) × (inside true bytes ≡ Some (pair text rest)) ⊎ ((byte == 92) ≡ false) × (lead byte (inside false bytes) ≡ Some (pair text rest)) → ((x r : List ℕ) → inside false bytes ≡ Some (x, r) → bytes ≡ flat_map escaped x ++ 34 ∷ r) → (inside true bytes ≡ Some (text, rest) → 92 ∷ bytes ≡ flat_map escaped text ++ 34 ∷ rest) → byte ∷ bytes ≡ flat_map escaped text ++ 34 ∷ rest
      other mark (inl (e, found)) known again = let b : byte ≡ 92 = eqb-true byte 92 e in ap (λ z. z ∷ bytes) b ∙ again found
      other mark (inr (e, found)) known again = after_plain byte bytes text rest (or_from (byte == 34) (byte == 92) mark e) (lead_found byte (inside false bytes) (text, rest) found) known

      by : ((byte == 34) ≡ true) × (Some (pair [] bytes) ≡ Some (pair text rest)) ⊎ ((byte == 34) ≡ false) × (cond (byte == 92) (inside true bytes) (lead byte (inside false bytes)) ≡ Some (pair text rest)) → ((x r : List ℕ) → inside false bytes ≡ Some (x, r) → bytes ≡ flat_map escaped x ++ 34 ∷ r) → (inside true bytes ≡ Some (text, rest) → 92 ∷ bytes ≡ flat_map escaped text ++ 34 ∷ rest) → byte ∷ bytes ≡ flat_map escaped text ++ 34 ∷ rest
      by (inl (e, found)) known again = let b : byte ≡ 34 = eqb-true byte 34 e in ap (λ z. z ∷ bytes) b ∙ ap (λ (p : List ℕ × List ℕ). flat_map escaped p.0 ++ 34 ∷ p.1) (some_same (pair [] bytes) (pair text rest) found)
      by (inr (e, found)) known again = other e (cond_either (byte == 92) (inside true bytes) (lead byte (inside false bytes)) (text, rest) found) known again

-- a quoted text with what stands behind it
pub quoted_parts : (text rest : List ℕ) → quoted text ++ rest ≡ 34 ∷ (flat_map escaped text ++ 34 ∷ rest)
quoted_parts text rest = ap (λ z. 34 ∷ z) (append_assoc (flat_map escaped text) (34 ∷ []) rest)

quoted_front : (end : ℕ) (text rest : List ℕ) → quoted_at end (34 ∷ (flat_map escaped text ++ 34 ∷ rest)) ≡ past (behind (end ∷ []) rest) (λ rest. Some (text, rest))
unfolding quoted_at
quoted_front end text rest = ap (λ o. after o (λ text rest. past (behind (end ∷ []) rest) (λ rest. Some (text, rest)))) (inside_read text rest)

-- a quoted text is read
pub quoted_read : (end : ℕ) (text rest : List ℕ) → quoted_at end (quoted text ++ end ∷ rest) ≡ Some (text, rest)
quoted_read end text rest = ap (quoted_at end) (quoted_parts text (end ∷ rest)) ∙ quoted_front end text (end ∷ rest) ∙ ap (λ o. past o (λ rest. Some (text, rest))) (same_byte end (Some rest) None)

-- but not up to another end
quoted_other : (end other : ℕ) (text rest : List ℕ) → (end ≡ other → ⊥) → quoted_at other (quoted text ++ end ∷ rest) ≡ None
quoted_other end other text rest ne = ap (quoted_at other) (quoted_parts text (end ∷ rest)) ∙ quoted_front other text (end ∷ rest) ∙ ap (λ o. past o (λ rest. Some (text, rest))) (other_byte end other (Some rest) None ne)

-- what is read as a quoted text is one
pub quoted_spelled : (end : ℕ) (text bytes rest : List ℕ) → quoted_at end bytes ≡ Some (text, rest) → bytes ≡ quoted text ++ end ∷ rest
unfolding quoted_at
quoted_spelled end text bytes rest read =
    let mark = past_found (behind (34 ∷ []) bytes) (λ rest. after (inside false rest) (λ text rest. past (behind (end ∷ []) rest) (λ rest. Some (text, rest)))) (text, rest) read in
    let found = after_found (inside false mark.rest) (λ text rest. past (behind (end ∷ []) rest) (λ rest. Some (text, rest))) (text, rest) mark.goes in
    let last = past_found (behind (end ∷ []) found.rest) (λ rest. Some (found.value, rest)) (text, rest) found.goes in
    let both = some_same (pair found.value last.rest) (pair text rest) last.goes in
    it_stands (34 ∷ []) bytes mark.rest mark.is
    ∙ ap (λ z. 34 ∷ z) (inside_spelled false mark.rest found.value found.rest found.is)
    ∙ ap (λ z. 34 ∷ (flat_map escaped found.value ++ 34 ∷ z)) (it_stands (end ∷ []) found.rest last.rest last.is)
    ∙ ap (λ (p : List ℕ × List ℕ). 34 ∷ (flat_map escaped p.0 ++ 34 ∷ end ∷ p.1)) both
    ∙ sym (quoted_parts text (end ∷ rest))

-- a byte of a name
abbrev in_name : ℕ → Bool
in_name byte = begins_name byte || continues_name byte

names_of : (bytes : List ℕ) → list_all continues_name bytes ≡ true → list_all in_name bytes ≡ true
names_of [] all = refl
names_of (byte ∷ bytes) all = let both = and_parts (continues_name byte) (list_all continues_name bytes) all in and_from (in_name byte) (list_all in_name bytes) (or_right (begins_name byte) (continues_name byte) both.0) (names_of bytes both.1)

-- each byte of a name is one
pub name_bytes : (text : List ℕ) → is_name text ≡ true → list_all in_name text ≡ true
name_bytes [] name = cc
name_bytes (first ∷ others) name =
    let outer = and_parts (begins_name first && list_all continues_name others) (not (is_keyword (first ∷ others))) name in
    let inner = and_parts (begins_name first) (list_all continues_name others) outer.0 in
    and_from (in_name first) (list_all in_name others) (or_left (begins_name first) (continues_name first) inner.0) (names_of others inner.1)

not_in_name : (end : ℕ) → IsEnd end → in_name end ≡ false
not_in_name end ends = or_from (begins_name end) (continues_name end) ends.begins ends.continues

lacks_end : (end : ℕ) (text : List ℕ) → in_name end ≡ false → list_all in_name text ≡ true → (i : ℕ) → i < length text → get_or text i 0 ≢ end
lacks_end end [] outside all i within e = absurd (omega (arith, within))
lacks_end end (byte ∷ text) outside all zero within e = let both = and_parts (in_name byte) (list_all in_name text) all in both_ways (in_name byte) (ap in_name e ∙ outside) both.0
lacks_end end (byte ∷ text) outside all (suc i) within e = let both = and_parts (in_name byte) (list_all in_name text) all in lacks_end end text outside both.1 i (omega (arith, within)) e

-- a name is read
pub name_read : (end : ℕ) (text rest : List ℕ) → IsEnd end → is_name text ≡ true → name_at end (text ++ end ∷ rest) ≡ Some (text, rest)
unfolding name_at
name_read end text rest ends name =
    ap (λ o. after o (λ text rest. cond (is_name text) (Some (text, rest)) None)) (until_it end text rest (lacks_end end text (not_in_name end ends) (name_bytes text name)))
    ∙ ap (λ t. cond t (Some (text, rest)) None) name

record Name (end : ℕ) (bytes text rest : List ℕ) : Type 0 where
  pub parts : bytes ≡ text ++ end ∷ rest
  pub name : is_name text ≡ true

name_spelled : (end : ℕ) (bytes text rest : List ℕ) → name_at end bytes ≡ Some (text, rest) → Name end bytes text rest
unfolding name_at
name_spelled end bytes text rest read =
    let found = after_found (until end bytes) (λ text rest. cond (is_name text) (Some (text, rest)) None) (text, rest) read in
    let kept = cond_found (is_name found.value) (pair found.value found.rest) (pair text rest) found.goes in
    record {
      parts = until_stands end bytes found.value found.rest found.is ∙ ap (λ (p : List ℕ × List ℕ). p.0 ++ end ∷ p.1) kept.1;
      name = ap (λ (p : List ℕ × List ℕ). is_name p.0) (sym kept.1) ∙ kept.0;
    }

-- two names with an end behind each end alike
one_end : (end other : ℕ) (text name rest more : List ℕ) → in_name end ≡ false → in_name other ≡ false → list_all in_name text ≡ true → list_all in_name name ≡ true → text ++ end ∷ rest ≡ name ++ other ∷ more → end ≡ other
one_end end other [] [] rest more a b all named e = ap (λ z. get_or z 0 0) e
one_end end other [] (c ∷ name) rest more a b all named e =
    let both = and_parts (in_name c) (list_all in_name name) named in
    let same : end ≡ c = ap (λ z. get_or z 0 0) e in
    absurd (both_ways (in_name c) (ap in_name (sym same) ∙ a) both.0)
one_end end other (byte ∷ text) [] rest more a b all named e =
    let both = and_parts (in_name byte) (list_all in_name text) all in
    let same : byte ≡ other = ap (λ z. get_or z 0 0) e in
    absurd (both_ways (in_name byte) (ap in_name same ∙ b) both.0)
one_end end other (byte ∷ text) (c ∷ name) rest more a b all named e =
    let first = and_parts (in_name byte) (list_all in_name text) all in
    let second = and_parts (in_name c) (list_all in_name name) named in
    one_end end other text name rest more a b first.1 second.1 (ap (drop 1) e)

name_other : (end other : ℕ) (text rest : List ℕ) → IsEnd end → IsEnd other → (end ≡ other → ⊥) → is_name text ≡ true → name_at other (text ++ end ∷ rest) ≡ None
name_other end other text rest ends others ne name = nothing_if (name_at other (text ++ end ∷ rest)) (λ found e.
    let spelled = name_spelled other (text ++ end ∷ rest) found.0 found.1 e in
    ne (one_end end other text found.0 rest found.1 (not_in_name end ends) (not_in_name other others) (name_bytes text name) (name_bytes found.0 spelled.name) spelled.parts))

-- no name begins with a mark
no_mark : (text rest : List ℕ) → is_name text ≡ true → begins_quoted (text ++ rest) ≡ false
no_mark [] rest name = cc
no_mark (first ∷ others) rest name =
    let outer = and_parts (begins_name first && list_all continues_name others) (not (is_keyword (first ∷ others))) name in
    let inner = and_parts (begins_name first) (list_all continues_name others) outer.0 in
    ne_eqb first 34 (λ e. both_ways (begins_name first) (ap begins_name e) inner.0)

constant_name : (text : List ℕ) → is_name text ≡ true → constant text ≡ text
constant_name text name = ap (λ t. cond t text (quoted text)) name

constant_quoted : (text : List ℕ) → is_name text ≡ false → constant text ≡ quoted text
constant_quoted text name = ap (λ t. cond t text (quoted text)) name

at_name : (end : ℕ) (bytes : List ℕ) → begins_quoted bytes ≡ false → constant_at end bytes ≡ name_at end bytes
unfolding constant_at
at_name end bytes e = ap (λ t. cond t (quoted_constant_at end bytes) (name_at end bytes)) e

at_quoted : (end : ℕ) (bytes : List ℕ) → begins_quoted bytes ≡ true → constant_at end bytes ≡ quoted_constant_at end bytes
unfolding constant_at
at_quoted end bytes e = ap (λ t. cond t (quoted_constant_at end bytes) (name_at end bytes)) e

quoted_constant_read : (end : ℕ) (text rest : List ℕ) → is_name text ≡ false → quoted_constant_at end (quoted text ++ end ∷ rest) ≡ Some (text, rest)
unfolding quoted_constant_at
quoted_constant_read end text rest name = ap (λ o. after o (λ text rest. cond (is_name text) None (Some (text, rest)))) (quoted_read end text rest) ∙ ap (λ t. cond t None (Some (text, rest))) name

quoted_constant_other : (end other : ℕ) (text rest : List ℕ) → (end ≡ other → ⊥) → quoted_constant_at other (quoted text ++ end ∷ rest) ≡ None
unfolding quoted_constant_at
quoted_constant_other end other text rest ne = ap (λ o. after o (λ text rest. cond (is_name text) None (Some (text, rest)))) (quoted_other end other text rest ne)

-- a constant is read
pub constant_read : (end : ℕ) (text rest : List ℕ) → IsEnd end → constant_at end (constant text ++ end ∷ rest) ≡ Some (text, rest)
constant_read end text rest ends = by (is_name text) refl where
  by : (t : Bool) → is_name text ≡ t → constant_at end (constant text ++ end ∷ rest) ≡ Some (text, rest)
  by true name = ap (λ z. constant_at end (z ++ end ∷ rest)) (constant_name text name) ∙ at_name end (text ++ end ∷ rest) (no_mark text (end ∷ rest) name) ∙ name_read end text rest ends name
  by false name = ap (λ z. constant_at end (z ++ end ∷ rest)) (constant_quoted text name) ∙ at_quoted end (quoted text ++ end ∷ rest) refl ∙ quoted_constant_read end text rest name

-- but not up to another end
pub constant_other : (end other : ℕ) (text rest : List ℕ) → IsEnd end → IsEnd other → (end ≡ other → ⊥) → constant_at other (constant text ++ end ∷ rest) ≡ None
constant_other end other text rest ends others ne = by (is_name text) refl where
  by : (t : Bool) → is_name text ≡ t → constant_at other (constant text ++ end ∷ rest) ≡ None
  by true name = ap (λ z. constant_at other (z ++ end ∷ rest)) (constant_name text name) ∙ at_name other (text ++ end ∷ rest) (no_mark text (end ∷ rest) name) ∙ name_other end other text rest ends others ne name
  by false name = ap (λ z. constant_at other (z ++ end ∷ rest)) (constant_quoted text name) ∙ at_quoted other (quoted text ++ end ∷ rest) refl ∙ quoted_constant_other end other text rest ne

quoted_constant_spelled : (end : ℕ) (text bytes rest : List ℕ) → quoted_constant_at end bytes ≡ Some (text, rest) → bytes ≡ constant text ++ end ∷ rest
unfolding quoted_constant_at
quoted_constant_spelled end text bytes rest read =
    let found = after_found (quoted_at end bytes) (λ text rest. cond (is_name text) None (Some (text, rest))) (text, rest) read in
    let kept = cond_left (is_name found.value) (pair found.value found.rest) (pair text rest) found.goes in
    quoted_spelled end found.value bytes found.rest found.is
    ∙ ap (λ z. z ++ end ∷ found.rest) (sym (constant_quoted found.value kept.0))
    ∙ ap (λ (p : List ℕ × List ℕ). constant p.0 ++ end ∷ p.1) kept.1

-- what is read as a constant is one
pub constant_spelled : (end : ℕ) (text bytes rest : List ℕ) → constant_at end bytes ≡ Some (text, rest) → bytes ≡ constant text ++ end ∷ rest
constant_spelled end text bytes rest read = by (begins_quoted bytes) refl where
  by : (t : Bool) → begins_quoted bytes ≡ t → bytes ≡ constant text ++ end ∷ rest
  by true e = quoted_constant_spelled end text bytes rest (sym (at_quoted end bytes e) ∙ read)
  by false e = let name = name_spelled end bytes text rest (sym (at_name end bytes e) ∙ read) in name.parts ∙ ap (λ z. z ++ end ∷ rest) (sym (constant_name text name.name))
