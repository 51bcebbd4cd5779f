-- What stands in brackets is read as it is meant, one level of brackets after the other.
use Rattle.std.proofs.Common.{◌≡◌, ℕ, zero, suc, ◌<◌, true, false, refl, arith}
use Rattle.xdg_ast.specs.declared.token.Kind.{Kind}
use Rattle.xdg_ast.specs.declared.token.Kind.TheVariants as k
use Rattle.xdg_ast.specs.Brackets.{is_opening, is_closing}
use Rattle.xdg_ast.specs.Language.{Language, is, Within, full, room, nested}
use Rattle.xdg_parse.specs.Steadiness.{Steady}
use Rattle.xdg_parse.specs.Laws.{Alive, Law}
use Rattle.xdg_parse.proofs.Combinators.{Apart}
use Rattle.xdg_parse.proofs.EachKind.{opens_by, closes_by, some, is_self}
use Rattle.xdg_parse.proofs.Nested.{nested_none, nested_deep, nested_inner, group-alive}
use Rattle.xdg_parse.proofs.SteadyParts.{full_steady, room_steady}
use Rattle.xdg_parse.proofs.RuleParts.{Rule}
use Rattle.xdg_facts.proofs.Levels.{Below}

-- ---- brackets

-- one opens, and the other closes
pub record Matching (op cl : Kind) : Type 0 where
  pub opens : (k : Kind) → is op k ≡ true → is_opening k ≡ true
  pub closes : (k : Kind) → is cl k ≡ true → (is_opening k ≡ false) × (is_closing k ≡ true)

pub braces : Matching k.LeftBrace k.RightBrace
braces = record { opens = opens_by _ refl; closes = closes_by _ refl refl }

pub parentheses : Matching k.LeftParenthesis k.RightParenthesis
parentheses = record { opens = opens_by _ refl; closes = closes_by _ refl refl }

pub squares : Matching k.LeftBracket k.RightBracket
squares = record { opens = opens_by _ refl; closes = closes_by _ refl refl }

pub group_alive : {A : Type 0} {L : Type 1} {op cl : Kind} → Matching op cl → (body : L → Language A) (j : L) → Alive ((body j).means) → Alive ((nested (is op) (is cl) (room j) body).means)
group_alive {A} {L} {op} {cl} by body j a = group-alive (is op) (is cl) body by.opens by.closes (some op) (is_self op) (some cl) (is_self cl) j a

-- ---- levels

-- nothing more may be opened under no level, and under one more what is inside there
module _ {L : Type 1} (under : ℕ → Within L) (inside : Within L → L) (Levels : ℕ → ℕ → Type 0)
    (at_zero : (P : Within L → Type 0) → P full → P (under zero)) (at_suc : (n : ℕ) (P : Within L → Type 0) → P (room (inside (under n))) → P (under (suc n)))
    {A : Type 0} {op cl : Kind} (by : Matching op cl) (body : L → Language A) (alive : (n : ℕ) → 0 < n → Alive ((body (inside (under n))).means))
    (apart : (w : Within L) → Apart (body (inside w)).last (is cl)) (pick : (d n : ℕ) → Levels d n → Rule d n (body (inside (under d))) (body (inside (under n)))) where
  abbrev group : Within L → Language A
  group w = nested (is op) (is cl) w body

  group-law : (d n : ℕ) → Below Levels d n → Law d n (group (under d)) (group (under n))
  group-law d zero b = at_zero (λ w. Law d zero (group (under d)) (group w)) (nested_none (is op) (is cl) body by.opens by.closes (some op) (is_self op) (some cl) (is_self cl) (under d) d)
  group-law zero (suc n) b = at_suc n (λ w. Law zero (suc n) (group (under zero)) (group w)) (at_zero (λ w. Law zero (suc n) (group w) (group (room (inside (under n)))))
      (nested_deep (is op) (is cl) body by.opens by.closes (some op) (is_self op) (some cl) (is_self cl) (inside (under n)) n (pick zero n b).law.fits (alive n)))
  group-law (suc d) (suc n) b = at_suc n (λ w. Law (suc d) (suc n) (group (under (suc d))) (group w)) (at_suc d (λ w. Law (suc d) (suc n) (group w) (group (room (inside (under n)))))
      (nested_inner (is op) (is cl) body by.opens by.closes (some op) (is_self op) (some cl) (is_self cl) (inside (under d)) (inside (under n)) d n (pick d n b).law (apart (under d)) (λ lt. alive n (omega arith))))

  alive-under : (d n : ℕ) → suc d < n → Alive ((group (under n)).means)
  alive-under d zero lt = absurd (omega arith)
  alive-under d (suc n) lt = at_suc n (λ w. Alive ((group w).means)) (group_alive by body (inside (under n)) (alive n (omega arith)))

  room-under : (n : ℕ) → Steady (body (inside (under n))) → Steady (group (under (suc n)))
  room-under n a = at_suc n (λ w. Steady (group w)) (room_steady (is op) (is cl) body (inside (under n)) a)

  read-steady : (d n : ℕ) → Below Levels d n → Steady (group (under d))
  read-steady zero n b = at_zero (λ w. Steady (group w)) (full_steady (is op) (is cl) body)
  read-steady (suc d) zero b = room-under d (pick d zero b).steady
  read-steady (suc d) (suc n) b = room-under d (pick d n b).steady

  meant-steady : (d n : ℕ) → Below Levels d n → Steady (group (under n))
  meant-steady d zero b = at_zero (λ w. Steady (group w)) (full_steady (is op) (is cl) body)
  meant-steady zero (suc n) b = room-under n (pick zero n b).meant_steady
  meant-steady (suc d) (suc n) b = room-under n (pick d n b).meant_steady

  pub group_rule : (d n : ℕ) → Below Levels d n → Rule d n (nested (is op) (is cl) (under d) body) (nested (is op) (is cl) (under n) body)
  group_rule d n b = record { law = group-law d n b; alive = alive-under d n; steady = read-steady d n b; meant_steady = meant-steady d n b }
