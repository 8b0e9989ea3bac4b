-- What is read back of the lines of a `BINLOG`.
use Rattle.std.specs.Prelude.{◌≡◌, ℕ, ◌==◌, Bool, true, not, ◌&&◌, List, filter, Ok}
use Rattle.std.specs.List.{list_all}
use Rattle.base64.specs.Engines.{standard}
use Rattle.base64.specs.GeneralPurpose.{decode_of}
use Rattle.blog_sql.specs.Sql.{base64_lines}

-- neither an end of line, nor a quote, a backslash or a semicolon
abbrev pub is_plain : ℕ → Bool
is_plain c = not (c == 10) && (not (c == 39) && (not (c == 92) && not (c == 59)))

-- lines without their ends
abbrev pub joined_lines : List ℕ → List ℕ
joined_lines text = filter (λ c. not (c == 10)) text

-- the lines of these bytes end nothing around them, and decode to the bytes
pub record AreReadBack (bytes : List ℕ) : Type 0 where
  pub plain : list_all is_plain (joined_lines (base64_lines bytes)) ≡ true
  pub decoded : decode_of standard (joined_lines (base64_lines bytes)) ≡ Ok bytes
