use Rattle.std.proofs.Common.{◌≡◌, ◌∷◌, [], drop}
use Rattle.std.specs.Str.{bytes_eq}
use Rattle.xdg_print.specs.Defaulted.{counts_up}
use Rattle.xdg_print.proofs.defaults.are_zeros.Given as goal

abbrev pub invariant-loop-place : goal.invariant-loop-place
invariant-loop-place l = counts_up (λ ns. bytes_eq ns (0 ∷ [])) 0 l.entries ≡ counts_up (λ ns. bytes_eq ns (0 ∷ [])) l.place (drop l.place l.entries)
