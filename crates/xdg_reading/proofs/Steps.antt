-- What a step of reading tells of its parts.
use Rattle.std.proofs.Common.{◌≡◌, ◌⊎◌, inl, inr, ℕ, List, ◌∷◌, refl, Some, None, Option}
use Rattle.xdg_reading.specs.Pieces.{after, past, past_or, or_else, and, lead}
use Rattle.xdg_facts.proofs.Options.{some_same}

abbrev pub pair : {X Y : Type 0} → X → Y → X × Y
pair x y = (x, y)

pub record Found {X Y : Type 0} (o : Option (X × List ℕ)) (f : X → List ℕ → Option Y) (y : Y) : Type 0 where
  pub value : X
  pub rest : List ℕ
  pub is : o ≡ Some (value, rest)
  pub goes : f value rest ≡ Some y

pub after_found : {X Y : Type 0} (o : Option (X × List ℕ)) (f : X → List ℕ → Option Y) (y : Y) → after o f ≡ Some y → Found o f y
after_found None f y e = cc
after_found (Some x) f y e = record { value = x.0; rest = x.1; is = refl; goes = e }

pub record Passed {Y : Type 0} (o : Option (List ℕ)) (f : List ℕ → Option Y) (y : Y) : Type 0 where
  pub rest : List ℕ
  pub is : o ≡ Some rest
  pub goes : f rest ≡ Some y

pub past_found : {Y : Type 0} (o : Option (List ℕ)) (f : List ℕ → Option Y) (y : Y) → past o f ≡ Some y → Passed o f y
past_found None f y e = cc
past_found (Some rest) f y e = record { rest = rest; is = refl; goes = e }

pub past_or_found : {Y : Type 0} (o : Option (List ℕ)) (f : List ℕ → Option Y) (other : Option Y) (y : Y) → past_or o f other ≡ Some y → Passed o f y ⊎ (other ≡ Some y)
past_or_found None f other y e = inr e
past_or_found (Some rest) f other y e = inl (record { rest = rest; is = refl; goes = e })

pub record Led {X : Type 0} (x : X) (o : Option (List X × List ℕ)) (y : List X × List ℕ) : Type 0 where
  pub more : List X
  pub rest : List ℕ
  pub is : o ≡ Some (more, rest)
  pub all : pair (x ∷ more) rest ≡ y

pub lead_found : {X : Type 0} (x : X) (o : Option (List X × List ℕ)) (y : List X × List ℕ) → lead x o ≡ Some y → Led x o y
lead_found x None y e = cc
lead_found x (Some found) y e = record { more = found.0; rest = found.1; is = refl; all = some_same (x ∷ found.0, found.1) y e }

pub and_found : {X : Type 0} (o : Option X) (rest : List ℕ) (y : X × List ℕ) → and o rest ≡ Some y → (x : X) × (o ≡ Some x) × (pair x rest ≡ y)
and_found None rest y e = cc
and_found (Some x) rest y e = (x, refl, some_same (x, rest) y e)

pub or_else_found : {X : Type 0} (a b : Option X) (y : X) → or_else a b ≡ Some y → (a ≡ Some y) ⊎ (b ≡ Some y)
or_else_found None b y e = inr e
or_else_found (Some x) b y e = inl e
