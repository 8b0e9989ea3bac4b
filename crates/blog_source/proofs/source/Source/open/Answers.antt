-- The bytes are cut behind what is handed out.
use Rattle.std.proofs.Common.{◌∙◌, ap, arith, length}
use Rattle.blog_source.specs.Handed.{handed_log}
use Rattle.blog_source.proofs.Opened.{cut-back}
use Rattle.blog_source.proofs.source.Source.open.Goals as goal

pub returns-clause-log : goal.returns-clause-log
returns-clause-log g c =
    let read = c.in_ok-walked.ensures in
    c.truncate.ensures.items ∙ cut-back c.read_in_place.new.bytes c.args.bytes.items c.args.bytes.len c.in_ok-walked.walked.len (read.len ∙ ap length c.deref_mut.ensures.value) (omega (arith, c.deref_mut.ensures.len, ap length c.deref_mut.ensures.value))
    ∙ read.log ∙ ap (handed_log c.args.how) c.deref_mut.ensures.value
