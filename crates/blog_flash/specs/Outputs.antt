-- What each mode makes of an accepted log, and what is promised of it.
use Rattle.std.specs.Prelude.{◌≡◌, ℕ, List}
use Rattle.blog_trans.specs.Selection.{Selection}
use Rattle.blog_trans.specs.Acceptance.{IsAccepted}
use Rattle.blog_trans.specs.Groups.{groups}
use Rattle.blog_flash.specs.declared.modes.Mode.{Mode}
use Rattle.blog_flash.specs.declared.modes.Mode.TheVariants as mode
use Rattle.blog_flash.specs.Reversal.{reversed}
use Rattle.blog_flash.specs.Texts.{normal_text, flashback_text}
use Rattle.blog_flash.specs.Printed.{sql_text, summary_text}
use Rattle.blog_flash.specs.Theorems.{Undoes, IsInverse, IsNormal, StopsAnywhere}

-- what an accepted log is answered with
unfoldable pub output_of : Mode → List ℕ → Selection → List ℕ
output_of mode.Flashback bytes sel = flashback_text bytes sel
output_of mode.Forward bytes sel = normal_text bytes sel
output_of mode.FlashbackSql bytes sel = sql_text (reversed (groups bytes sel))
output_of mode.ForwardSql bytes sel = sql_text (groups bytes sel)
output_of mode.Summary bytes sel = summary_text (groups bytes sel)

-- of the log that undoes: the headline, that it undoes itself on bytes, and every stop; of the other log: the normal
-- form; of a printed text: the log is accepted, and the text is the output
unfoldable pub MeetsHeadline : Mode → List ℕ → Selection → List ℕ → Type 0
MeetsHeadline mode.Flashback bytes sel written = Undoes bytes sel written × IsInverse bytes sel written × StopsAnywhere bytes sel written
MeetsHeadline mode.Forward bytes sel written = IsNormal bytes sel written
MeetsHeadline mode.FlashbackSql bytes sel written = IsAccepted bytes sel × (written ≡ output_of mode.FlashbackSql bytes sel)
MeetsHeadline mode.ForwardSql bytes sel written = IsAccepted bytes sel × (written ≡ output_of mode.ForwardSql bytes sel)
MeetsHeadline mode.Summary bytes sel written = IsAccepted bytes sel × (written ≡ output_of mode.Summary bytes sel)
