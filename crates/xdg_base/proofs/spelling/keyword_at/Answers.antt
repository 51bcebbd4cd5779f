use Rattle.std.proofs.Common.{◌≡◌, List, ℕ, Bor, map, get_or, refl, sym}
use Rattle.std.proofs.Math.ListN.{get_or-map}
use Rattle.xdg_base.proofs.spelling.keyword_at.Goals as goal

seen : (words : List (Bor (List ℕ))) (place : ℕ) (d : Bor (List ℕ)) → (get_or words place d).now ≡ get_or (map (λ (word : Bor (List ℕ)). word.now) words) place d.now
seen words place d = sym (get_or-map (λ (word : Bor (List ℕ)). word.now) words place d)

pub returns : goal.returns
returns c = rw seen refl
