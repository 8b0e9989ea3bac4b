use Rattle.std.proofs.Common.{sym}
use Rattle.std.proofs.KnownBytes.{Keeps-refl}
use Rattle.blog_trans.specs.Selection.{selection_of}
use Rattle.blog_flash.proofs.Answering.{runs-written}
use Rattle.blog_flash.proofs.runs.run_by_chunks.Goals as goal

pub returns-in-Flashback-clause-runs : goal.returns-in-Flashback-clause-runs
returns-in-Flashback-clause-runs g c =
    let reads = rw (sym c.deref.ensures.value) at c.in_ok-bytes.ensures.reads in
    rw c.in-Flashback.is (runs-written _ _ _ _ c.deref.result.now _ (selection_of c.args.sel.now) c.write_log.result reads c.write_log.ensures.written
    (λ early. rw (c.write_log.ensures.untouched early) (Keeps-refl _)))

pub returns-in-Forward-clause-runs : goal.returns-in-Forward-clause-runs
returns-in-Forward-clause-runs g c =
    let reads = rw (sym c.deref-in-Forward.ensures.value) at c.in_ok-bytes.ensures.reads in
    rw c.in-Forward.is (runs-written _ _ _ _ c.deref-in-Forward.result.now _ (selection_of c.args.sel.now) c.write_log-in-Forward.result reads c.write_log-in-Forward.ensures.written
    (λ early. rw (c.write_log-in-Forward.ensures.untouched early) (Keeps-refl _)))
