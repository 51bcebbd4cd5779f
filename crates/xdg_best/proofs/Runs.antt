-- How the loop over tokens goes on.
use Rattle.std.proofs.Common.{◌≡◌, ◌∙◌, ℕ, ◌+◌, ◌<◌, ◌≤◌, true, false, List, [], ◌∷◌, ◌++◌, length, drop, get_or, refl, sym, ap, ap₂, subst, Ok, Err}
use Rattle.std.proofs.lemmas.List.{drop_more, drop_all}
use Rattle.xdg_base.specs.Faults.{fault_at}
use Rattle.xdg_base.specs.declared.faults.Cause.TheVariants as causes
use Rattle.xdg_base.specs.declared.faults.Stop.{Stop}
use Rattle.xdg_base.specs.declared.faults.Stop.TheVariants as stops
use Rattle.xdg_ast.specs.declared.token.Token.{Token}
use Rattle.xdg_ast.specs.Lexemes.{lexeme_of, lexemes_of}
use Rattle.xdg_best.specs.declared.statements.Open.{Open}
use Rattle.xdg_best.specs.declared.statements.Open.TheVariants as open_
use Rattle.xdg_best.specs.declared.statements.Statement.{Statement}
use Rattle.xdg_best.specs.declared.statements.Turn.{Turn}
use Rattle.xdg_best.specs.declared.statements.Turn.TheVariants as turns
use Rattle.xdg_best.specs.Turns.{is_nothing, turn_of, Outcome, after_last, run, Runs}
use Rattle.xdg_best.proofs.Read.{run_nil, goes, says, stops_at}

at_token : (tokens : List Token) (i : ℕ) (d : Token) → i < length tokens → lexemes_of (drop i tokens) ≡ lexeme_of (get_or tokens i d) ∷ lexemes_of (drop (i + 1) tokens)
at_token tokens i d within = ap lexemes_of (drop_more tokens i d within)

at_end : (tokens : List Token) (i : ℕ) → length tokens ≤ i → lexemes_of (drop i tokens) ≡ []
at_end tokens i over = ap lexemes_of (drop_all i tokens over)

-- one turn of the loop, from the statements and the beginning that it has to those that it gets
module _ (end : ℕ) (made : List Statement) (o : Open) (tokens : List Token) (i : ℕ) (d : Token) (turn : Turn) (all : Outcome) (so_far : run end made o (lexemes_of (drop i tokens)) ≡ all) (within : i < length tokens) (is : turn ≡ turn_of o (lexeme_of (get_or tokens i d))) where
  pub turn_goes : (next new : Open) (more : List Statement) → turn ≡ turns.GoesOn next → more ≡ made → new ≡ next → run end more new (lexemes_of (drop (i + 1) tokens)) ≡ all
  turn_goes next new more on same new_is =
      ap₂ (λ m p. run end m p (lexemes_of (drop (i + 1) tokens))) same new_is
      ∙ sym (goes end made o next (lexeme_of (get_or tokens i d)) (lexemes_of (drop (i + 1) tokens)) (sym is ∙ on)) ∙ ap (run end made o) (sym (at_token tokens i d within)) ∙ so_far

  pub turn_says : (s : Statement) (new : Open) (more : List Statement) → turn ≡ turns.Says s → more ≡ made ++ s ∷ [] → new ≡ open_.Nothing → run end more new (lexemes_of (drop (i + 1) tokens)) ≡ all
  turn_says s new more on same new_is =
      ap₂ (λ m p. run end m p (lexemes_of (drop (i + 1) tokens))) same new_is
      ∙ sym (says end made o s (lexeme_of (get_or tokens i d)) (lexemes_of (drop (i + 1) tokens)) (sym is ∙ on)) ∙ ap (run end made o) (sym (at_token tokens i d within)) ∙ so_far

  pub turn_refused : (stop : Stop) → turn ≡ turns.Refused → stop ≡ stops.Fault (fault_at causes.Unexpected (get_or tokens i d).span.start) → Runs all (Err stop)
  turn_refused stop on told =
      let here : run end made o (lexemes_of (drop i tokens)) ≡ Err (get_or tokens i d).span.start =
      ap (run end made o) (at_token tokens i d within) ∙ stops_at end made o (lexeme_of (get_or tokens i d)) (lexemes_of (drop (i + 1) tokens)) (sym is ∙ on) in
      subst (λ s. Runs all (Err s)) (sym told) ((get_or tokens i d).span.start, sym so_far ∙ here, refl)

-- the end of the loop
module _ (end : ℕ) (made : List Statement) (tokens : List Token) (i : ℕ) (all : Outcome) (over : length tokens ≤ i) where
  pub last_whole : (o : Open) → run end made o (lexemes_of (drop i tokens)) ≡ all → is_nothing o ≡ true → all ≡ Ok made
  last_whole open_.Nothing so_far e = sym so_far ∙ ap (run end made open_.Nothing) (at_end tokens i over) ∙ run_nil end made open_.Nothing
  last_whole o so_far e = absurd (let bad : false ≡ true = e in cc)

  begun_last : (o : Open) → is_nothing o ≡ false → after_last end made o ≡ Err end
  begun_last open_.Nothing e = absurd (let bad : true ≡ false = e in cc)
  begun_last o e = refl

  pub last_begun : (o : Open) (stop : Stop) → run end made o (lexemes_of (drop i tokens)) ≡ all → is_nothing o ≡ false → stop ≡ stops.Fault (fault_at causes.Unexpected end) → Runs all (Err stop)
  last_begun o stop so_far e told =
      subst (λ s. Runs all (Err s)) (sym told) (end, sym so_far ∙ ap (run end made o) (at_end tokens i over) ∙ run_nil end made o ∙ begun_last o e, refl)
