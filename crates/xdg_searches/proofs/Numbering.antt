-- One number more.
use Rattle.std.proofs.Common.{◌≡◌, ◌∙◌, ℕ, ◌+◌, List, [], ◌++◌, refl, sym, ap, append_assoc, append-nil}
use Rattle.std.specs.Prelude.{decimal}
use Rattle.xdg_searches.specs.Generated.{numbered}
use Rattle.xdg_facts.proofs.Fronts.{one_more_piece}

pub numbered_more : (before after start text new : List ℕ) (count : ℕ) → text ≡ start ++ numbered before after count → new ≡ text ++ (before ++ (decimal (count + 1) ++ after)) → new ≡ start ++ numbered before after (count + 1)
unfolding numbered
numbered_more before after start text new count so_far added =
    let f = λ (k : ℕ). before ++ (decimal k ++ after) in
    added ∙ ap (λ z. z ++ f (count + 1)) so_far ∙ append_assoc start (numbered before after count) (f (count + 1)) ∙ ap (λ z. start ++ z) (sym (one_more_piece f count))

pub numbered_none : (before after : List ℕ) → numbered before after 0 ≡ []
unfolding numbered
numbered_none before after = refl

pub numbered_next : (before after : List ℕ) (count : ℕ) → numbered before after (count + 1) ≡ numbered before after count ++ (before ++ (decimal (count + 1) ++ after))
unfolding numbered
numbered_next before after count = one_more_piece (λ k. before ++ (decimal k ++ after)) count

pub numbered_start : (before after text : List ℕ) → text ≡ text ++ numbered before after 0
numbered_start before after text = sym (ap (λ z. text ++ z) (numbered_none before after) ∙ append-nil text)
