-- The spelling of each variant of a value, and what has been written when it is.
use Rattle.std.proofs.Common.{◌≡◌, ℕ, List, ◌++◌, length, drop, ◌≤◌, sym, ap, ◌∙◌}
use Rattle.std.proofs.lemmas.List.{append_assoc, drop_all}
use Rattle.std.proofs.lemmas.Result.{on_ok_weaker}
use Rattle.std.specs.Prelude.{codes, Result, OnOk}
use Rattle.xdg_domain.specs.declared.values.Value.{Value, out-Value}
use Rattle.xdg_domain.specs.declared.values.Value.TheOpen.{Value-F}
use Rattle.xdg_packed.specs.Spelling.{number, keyed, spelling}
use Rattle.xdg_packed.proofs.Prefixes.{inner, spelling_is}
use Rattle.xdg_packed.proofs.Writing.{end_written}

-- a variant's mark and what it holds
pub written : {A T E : Type 0} (make : A → Value) (layer : A → Value-F Value) (mark : List ℕ) (spell : A → List ℕ) → ((held : A) → out-Value (make held) ≡ layer held) → ((held : A) → inner (layer held) ≡ mark ++ spell held)
    → (r : Result T E) (x : Value) (held given : A) (before marked after : List ℕ) → x ≡ make held → given ≡ held → marked ≡ before ++ mark → OnOk r (after ≡ marked ++ spell given) → OnOk r (after ≡ before ++ spelling x)
written make layer mark spell outs whole r x held given before marked after is same m h =
    let spelled : spelling x ≡ mark ++ spell given = spelling_is x ∙ ap inner (ap out-Value is ∙ outs held) ∙ whole held ∙ ap (λ z. mark ++ spell z) (sym same) in
    on_ok_weaker r (λ e. e ∙ ap (λ z. z ++ spell given) m ∙ append_assoc before mark (spell given) ∙ ap (λ z. before ++ z) (sym spelled)) h

-- the semicolon after the last entry
pub entries_end : {T E : Type 0} (r : Result T E) (entries : List (ℕ × Value)) (start now after : List ℕ) (i : ℕ) → length entries ≤ i → now ++ keyed spelling (drop i entries) ≡ start ++ keyed spelling entries
    → OnOk r (after ≡ now ++ codes ";") → OnOk r (after ≡ start ++ keyed spelling entries)
entries_end r entries start now after i over h ok =
    on_ok_weaker r
    (λ e. end_written (λ entry. number entry.0 ++ spelling entry.1) now after (start ++ keyed spelling entries) (drop i entries) (drop_all i entries over) e h)
    ok
