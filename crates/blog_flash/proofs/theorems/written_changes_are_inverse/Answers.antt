-- The changes of the log that undoes are the inverse.
use Rattle.blog_flash.proofs.Agreeing.{Chosen}
use Rattle.blog_flash.proofs.Headline.{is-source, flashback-changes}
use Rattle.blog_flash.proofs.theorems.written_changes_are_inverse.Goals as goal

pub returns : goal.returns
returns c bytes sel are accepted = flashback-changes (Chosen bytes sel) bytes sel (is-source bytes sel are accepted)
