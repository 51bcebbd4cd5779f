-- What a call that writes a text into a sink leaves.
use Rattle.std.specs.Prelude.{◌≡◌, ◌≤◌, ℕ, List, Option, Result, OnOk, OnErr}
use Rattle.xdg_io.specs.Held.{Appends, AppendsFront}
use Rattle.xdg_io.specs.Rose.{Rose}
use Rattle.xdg_io.specs.declared.failures.Failed.{Failed}

-- the text was added, and the count of failures stays; or a front of it was, not all, and the count rose
pub record WritesText (result : Result (Unit {0}) Failed) (old new : Option (List ℕ)) (before after : ℕ) (text : List ℕ) : Type 0 where
  pub all : OnOk result (Appends old new text)
  pub front : OnErr result (AppendsFront old new text)
  pub cause : OnErr result (Rose before after)
  pub lasting : before ≤ after
  pub quiet : OnOk result (after ≡ before)
