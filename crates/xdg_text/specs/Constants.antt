-- How a constant is written: as a name where it can be, and else quoted.
use Rattle.std.specs.Prelude.{ℕ, List, cond}
pub use Rattle.xdg_base.specs.Spelling.{is_keyword, begins_name, continues_name, is_name, is_escaped, escaped, quoted}

abbrev pub constant : List ℕ → List ℕ
constant text = cond (is_name text) text (quoted text)
