-- A text that grows keeps what it had.
use Rattle.std.proofs.Common.{ℕ, List, ◌++◌, arith}
use Rattle.std.proofs.lemmas.Grind.{common_steps}
use Rattle.blog_json.specs.Texts.{Begins}

-- what is appended leaves the front as it is
pub begins_appended : (text more start : List ℕ) → Begins text start → Begins (text ++ more) start
begins_appended text more start begins = record { is = grind (arith, common_steps, begins.is) }

-- a text begins with itself
pub begins_itself : (text : List ℕ) → Begins text text
begins_itself text = record { is = grind (arith, common_steps) }
