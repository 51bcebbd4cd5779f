-- A rules text has one answer.
use Rattle.std.proofs.Common.{◌≡◌, ℕ, List, length, Ok, Err, refl, subst}
use Rattle.std.specs.Prelude.{Result}
use Rattle.xdg_base.specs.declared.faults.Fault.{Fault}
use Rattle.xdg_base.specs.declared.faults.Stop.{Stop}
use Rattle.xdg_base.specs.declared.faults.Stop.TheVariants as stops
use Rattle.xdg_base.specs.Told.{TellsOf, Gives}
use Rattle.xdg_lex.specs.Lexed.{Lexed}
use Rattle.xdg_lex.specs.Offends as tokens
use Rattle.xdg_ast.specs.Lexemes.{Lexeme, lexemes_of}
use Rattle.xdg_ast.specs.declared.token.Token.{Token}
use Rattle.xdg_ast.specs.Derives.{DerivesWithin, IsShallow}
use Rattle.xdg_parse.specs.Outcome.{IsParsed}
use Rattle.xdg_parse.proofs.Once as parsed
use Rattle.xdg_parse.proofs.Whole.{Readable, one_reading, shallow}
use Rattle.xdg_formula.specs.declared.tree.Rules.{Rules}
use Rattle.xdg_formula.specs.Rules.{rules}
use Rattle.xdg_formula.specs.Texts.{seen_rules, rules_of, TellsSeen, IsAnswer, Tells}
use Rattle.xdg_formula.specs.Words.{seen_all}
use Rattle.xdg_formula.proofs.Lawful.{rules_rule}
use Rattle.xdg_formula.proofs.Lifted.{refused-lifted, shallow-back}

unfoldable pub readable : Readable rules seen_rules
readable = record {
  law = λ d n. (rules_rule d n).rule.law;
  steady = λ n. (rules_rule n n).rule.steady;
  made = λ ts found. record { rules = found };
  part = λ tree. tree.rules;
  to = λ n ts found h. h;
  back = λ n ts tree h. (h, refl);
}

-- ---- tokens

shallow-of : (ts : List Lexeme) (tree : Rules) → DerivesWithin rules_of ts tree → IsShallow ts
shallow-of ts tree h = shallow-back ts (shallow rules seen_rules readable (seen_all ts) tree h)

once : (ts : List Lexeme) (end : ℕ) (result : Result Rules Stop) → TellsOf (IsParsed rules_of ts end) result → (answer : Result Rules Fault) → IsParsed rules_of ts end answer → Gives answer result
once = parsed.once rules_of shallow-of (λ ts x y a b. one_reading rules seen_rules readable (seen_all ts) x y (64, a) (64, b))

lifted : (ts : List Lexeme) (end : ℕ) (result : Result Rules Stop) → TellsSeen (seen_all ts) end result → TellsOf (IsParsed rules_of ts end) result
lifted ts end (Ok g) t = t
lifted ts end (Err (stops.Fault f)) t = refused-lifted ts end f t
lifted ts end (Err stops.OutOfMemory) t = tt

-- ---- bytes

module _ (bytes : List ℕ) (read : List Token) (shown : List Lexeme) (end : ℕ) (result : Result Rules Stop) (seen_is : shown ≡ seen_all (lexemes_of read)) (end_is : end ≡ length bytes)
    (told : TellsSeen shown end result) where
  moved : TellsOf (IsParsed rules_of (lexemes_of read) end) result
  moved = lifted (lexemes_of read) end result (subst (λ z. TellsSeen z end result) seen_is told)

  pub tree-tells : tokens.Tells bytes (Ok read) → Tells bytes result
  tree-tells spells = parsed.tree_tells rules_of bytes (lexemes_of read) end end_is result spells moved

  pub tree-only : ((a : Lexed) → tokens.IsAnswer bytes a → Gives a (Ok (lexemes_of read))) → (answer : Result Rules Fault) → IsAnswer bytes answer → Gives answer result
  tree-only spelled = parsed.tree_only rules_of bytes (lexemes_of read) end end_is result spelled (once (lexemes_of read) end result moved)
