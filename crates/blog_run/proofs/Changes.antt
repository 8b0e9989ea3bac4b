-- What comes of writing the changes of a log, by what comes of writing its groups.
use Rattle.std.proofs.Common.{List, ℕ, Option, Result, Ok, Err, inl}
use Rattle.blog_trans.specs.Acceptance.{IsAccepted}
use Rattle.blog_trans.specs.Selection.{Selection}
use Rattle.blog_run.specs.Writing.{WritesChanges, WritesGroups}
use Rattle.blog_run.specs.declared.writing.Writing.{Writing}
use Rattle.blog_run.specs.declared.fault.WritingFault.{WritingFault}
use Rattle.blog_run.specs.declared.fault.WritingFault.TheVariants.{Log, TooLong, NoSchema, Write}

pub writes-changes : (w : Writing) (bytes : List ℕ) (sel : Selection) (had has : Option (List ℕ)) (r : Result Unit WritingFault) → IsAccepted bytes sel
    → WritesGroups w.sql w.order w.limit bytes sel had has r → WritesChanges w bytes sel had has r
writes-changes w bytes sel had has (Ok done) accepted h = (accepted, h)
writes-changes w bytes sel had has (Err (Log f)) accepted h = inl h
writes-changes w bytes sel had has (Err TooLong) accepted h = (accepted, h)
writes-changes w bytes sel had has (Err (NoSchema n)) accepted h = (accepted, h)
writes-changes w bytes sel had has (Err Write) accepted h = (accepted, h)
