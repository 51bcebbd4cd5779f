use Rattle.std.proofs.Common.{◌≡◌, ⊎_elim, ap, map, sym, subst, [], ◌∙◌}
use Rattle.std.specs.String.{string_bytes}
use Rattle.clap.specs.Words.{HasKind, IsAmong, app_of, is_simple_and_free, kind_of, fault_of, is_simple, matches_of, rows_of, found_of}
use Rattle.xdg_command.proofs.Built.{simple_and_free, simple_app}
use Rattle.xdg_command.proofs.Lookups.{right}
use Rattle.xdg_command.proofs.Outcome.{are_texts, not_taken, taken}
use Rattle.xdg_command.proofs.matching.matches.Goals as goal

pub returns-in-Ok : goal.returns-in-Ok
returns-in-Ok c = λ t is_right same.
    let r = right t is_right in
    let words = map string_bytes c.args.words.now in
    let none : fault_of (app_of c.args.syntax) words ≡ [] = c.in-Ok.ensures.kinds (ap is_simple_and_free same ∙ simple_and_free t r.few) in
    let rows : rows_of (found_of c.in-Ok.found) ≡ matches_of (app_of c.args.syntax) words = (c.in-Ok.ensures.matches (ap is_simple same ∙ simple_app t r.few)).0 in
    taken t r words (are_texts c.args.words.now) c.in-Ok.found (ap (λ a. fault_of a words) (sym same) ∙ none) (rows ∙ ap (λ a. matches_of a words) same)

pub returns : goal.returns
returns c = λ t is_right same.
    let r = right t is_right in
    let words = map string_bytes c.args.words.now in
    let has : HasKind (fault_of (app_of c.args.syntax) words) c.in-Err.error = c.in-Err.ensures.kinds (ap is_simple_and_free same ∙ simple_and_free t r.few) in
    not_taken t r words (are_texts c.args.words.now) (λ none.
    ⊎_elim (λ memory. c.in_default.not-OutOfMemory (c.kind.ensures ∙ memory))
    (λ among. subst (λ ks. IsAmong (kind_of c.in-Err.error) ks) (ap (λ a. fault_of a words) same ∙ none) among) has)
