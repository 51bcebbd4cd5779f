-- What is told of tokens as they are seen in rules is told of the tokens.
use Rattle.std.proofs.Common.{◌≡◌, ℕ, List, [], ◌∷◌, ◌++◌, map, refl, sym, ◌∙◌, ap, subst}
use Rattle.std.proofs.lemmas.List.{map-append}
use Rattle.xdg_base.specs.declared.faults.Fault.{Fault}
use Rattle.xdg_ast.specs.Lexemes.{Lexeme}
use Rattle.xdg_ast.specs.Brackets.{is_opening, walk}
use Rattle.xdg_ast.specs.Derives.{most_brackets, IsShallow, place_of, Starts, Ends, IsUnexpectedAt, IsTooDeepAt, IsRefused, unexpected, too_deep}
use Rattle.xdg_formula.specs.Rules.{rules}
use Rattle.xdg_formula.specs.Texts.{seen_rules, rules_of}
use Rattle.xdg_formula.specs.Words.{seen, seen_all}
use Rattle.xdg_formula.proofs.Bearing.{Alike, alike-self, alike-both}
use Rattle.xdg_formula.proofs.Lawful.{rules_rule}
use Rattle.xdg_formula.proofs.Tokens.{before, seen-before, seen-split, seen-place, seen-opens, seen-walk}

-- ---- what tokens begin

-- tokens that are seen as those of the same kinds
alike-before : (ts : List Lexeme) → Alike ts (seen_all (map before ts))
alike-before [] = tt
alike-before (t ∷ ts) = (seen-before t.kind t.text, alike-before ts)

starts-lifted : (us : List Lexeme) → Starts seen_rules (seen_all us) → Starts rules_of us
starts-lifted us s =
    let found = (rules_rule 0 s.2.0).bears.by (seen_all us ++ s.0) (seen_all us ++ seen_all (map before s.0)) s.1.rules
    (alike-both (seen_all us) (seen_all us) s.0 (seen_all (map before s.0)) (alike-self (seen_all us)) (alike-before s.0)) s.2.1 in
    (map before s.0, record { rules = found.0 }, (s.2.0, subst (λ ts. (rules s.2.0).means ts found.0) (sym (map-append seen us (map before s.0))) found.1))

starts-back : (us : List Lexeme) → Starts rules_of us → Starts seen_rules (seen_all us)
starts-back us s = (seen_all s.0, s.1, (s.2.0, subst (λ ts. (rules s.2.0).means ts s.1.rules) (map-append seen us s.0) s.2.1))

ends-lifted : (us ts : List Lexeme) → Ends seen_rules (seen_all us) (seen_all ts) → Ends rules_of us ts
ends-lifted us [] h = λ found d. h found d
ends-lifted us (t ∷ ts) h = λ s. h (subst (Starts seen_rules) (map-append seen us (t ∷ [])) (starts-back (us ++ t ∷ []) s))

pub shallow-back : (us : List Lexeme) → IsShallow (seen_all us) → IsShallow us
shallow-back us h = (h.0, sym (seen-walk us most_brackets) ∙ h.1)

-- ---- faults

unexpected-lifted : (ts : List Lexeme) (end place : ℕ) → IsUnexpectedAt seen_rules (seen_all ts) end place → IsUnexpectedAt rules_of ts end place
unexpected-lifted ts end place a =
    let s = seen-split ts a.before a.rest a.split in
    record {
      before = s.0;
      rest = s.1;
      split = s.2;
      place_is = a.place_is ∙ ap (place_of end) (sym s.4) ∙ seen-place end s.1;
      starts = starts-lifted s.0 (subst (Starts seen_rules) (sym s.3) a.starts);
      ends = ends-lifted s.0 s.1 (subst (Ends seen_rules (seen_all s.0)) (sym s.4) (subst (λ us. Ends seen_rules us a.rest) (sym s.3) a.ends));
      shallow = shallow-back s.0 (subst IsShallow (sym s.3) a.shallow);
    }

-- a list with a first token that is seen so
data Led (us : List Lexeme) (t : Lexeme) (ts : List Lexeme) : Type 0 where
  led : (u : Lexeme) (rest : List Lexeme) → us ≡ u ∷ rest → seen u ≡ t → Led us t ts

led-by : (us : List Lexeme) (t : Lexeme) (ts : List Lexeme) → seen_all us ≡ t ∷ ts → Led us t ts
led-by [] t ts h = absurd (cc)
led-by (u ∷ us) t ts h = let e : seen u ≡ t = cc in led u us refl e

deep-with : (ts : List Lexeme) (place : ℕ) (a : IsTooDeepAt seen_rules (seen_all ts) place) (x y : List Lexeme) → ts ≡ x ++ y → seen_all x ≡ a.before → Led y a.bracket a.rest → IsTooDeepAt rules_of ts place
deep-with ts place a x y split first (led u rest e g) = record {
  before = x;
  bracket = u;
  rest = rest;
  split = split ∙ ap (λ us. x ++ us) e;
  place_is = a.place_is ∙ ap (λ (t : Lexeme). t.span.start) (sym g);
  opens = sym (seen-opens u) ∙ ap (λ (t : Lexeme). is_opening t.kind) g ∙ a.opens;
  full = sym (seen-walk x most_brackets) ∙ ap (walk most_brackets) first ∙ a.full;
  starts = starts-lifted (x ++ u ∷ []) (subst (Starts seen_rules) (sym (map-append seen x (u ∷ []) ∙ ap (λ us. us ++ seen u ∷ []) first ∙ ap (λ t. a.before ++ t ∷ []) g)) a.starts);
}

deep-lifted : (ts : List Lexeme) (place : ℕ) → IsTooDeepAt seen_rules (seen_all ts) place → IsTooDeepAt rules_of ts place
deep-lifted ts place a =
    let s = seen-split ts a.before (a.bracket ∷ a.rest) a.split in
    deep-with ts place a s.0 s.1 s.2 s.3 (led-by s.1 a.bracket a.rest s.4)

pub refused-lifted : (ts : List Lexeme) (end : ℕ) (fault : Fault) → IsRefused seen_rules (seen_all ts) end fault → IsRefused rules_of ts end fault
refused-lifted ts end fault (unexpected place a) = unexpected place (unexpected-lifted ts end place a)
refused-lifted ts end fault (too_deep place a) = too_deep place (deep-lifted ts place a)
