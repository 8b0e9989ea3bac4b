-- What is promised of the answer to a log.
use Rattle.std.proofs.Common.{◌≡◌, ℕ, List, Vec, Result, Ok, Err, IfOk, IfErr, refl, sym, ap, ap₂, subst, ◌∙◌, inl, inr}
use Rattle.std.specs.Prelude.{true, Option}
use Rattle.std.specs.Io.KnownBytes.{Keeps}
use Rattle.std.proofs.lemmas.Option.{none-some}
use Rattle.blog_device.specs.Devices.{ReadsLog}
use Rattle.blog_device.specs.declared.fault.RunFault.{RunFault}
use Rattle.blog_device.specs.declared.fault.RunFault.TheVariants.{Log, Read, Write}
use Rattle.blog_event.specs.File.{AreBytes, read}
use Rattle.blog_event.specs.declared.fault.Fault.{Fault}
use Rattle.blog_trans.specs.Selection.{Selection, all}
use Rattle.blog_trans.specs.Acceptance.{fault, IsAccepted, IsRefusal}
use Rattle.blog_trans.specs.Groups.{groups}
use Rattle.blog_flash.specs.Answers.{Answers, IsOutput}
use Rattle.blog_flash.specs.Runs.{IsOutputWritten, IsWritten, Runs, ends_before_writing, mode_in}
use Rattle.blog_row.specs.declared.order.Order.{Order}
use Rattle.blog_flash.specs.declared.modes.Mode.{Mode}
use Rattle.blog_flash.specs.declared.modes.Mode.TheVariants.{FlashbackSql}
use Rattle.blog_row.specs.declared.order.Order.TheVariants as order
use Rattle.blog_flash.specs.code.LaidOut.{groups_in}
use Rattle.blog_flash.specs.Outputs.{output_of, MeetsHeadline}
use Rattle.blog_flash.specs.Printed.{sql_text}
use Rattle.blog_flash.specs.Texts.{normal_text, flashback_text, laid_out_after}
use Rattle.blog_flash.proofs.Agreeing.{Chosen}
use Rattle.blog_flash.proofs.Headline.{is-source, flashback-groups, flashback-undoes, forward-normal}
use Rattle.blog_flash.proofs.Stops.{flashback-stops}

-- ---- outputs

-- the groups in an order, laid out
pub output-laid : (order : Order) (log : List ℕ) (sel : Selection) → AreBytes log → IsAccepted log sel → IsOutput log (mode_in order) sel (laid_out_after (read log sel.stop) (groups_in order (groups log sel)))
unfolding output_of MeetsHeadline normal_text flashback_text
output-laid order.Backward log sel are accepted =
    let normal = forward-normal log sel are accepted in
    (accepted, refl, (flashback-undoes log sel are accepted, record { twice = normal.undone_twice; of_normal = normal.undone }, flashback-stops log sel are accepted))
output-laid order.Forward log sel are accepted = (accepted, refl, forward-normal log sel are accepted)

-- ---- answers

-- an accepted log is answered with its output
pub output-answers : {A : Type 0} (log : List ℕ) (mode : Mode) (sel : Selection) (made : List ℕ) (r : Result (Vec ℕ A) Fault) → (IsAccepted log sel → IsOutput log mode sel made) → IfOk r (λ text. IsAccepted log sel)
    → IfOk r (λ text. text.items ≡ made) → IfErr r (IsRefusal (fault log sel)) → Answers log mode sel r
output-answers log mode sel made (Ok text) output accepted is refused = subst (IsOutput log mode sel) (sym is) (output accepted)
output-answers log mode sel made (Err f) output accepted is refused = refused

-- the log that undoes it, printed
pub undone-answers : {A : Type 0} (log : List ℕ) (sel : Selection) (written : List ℕ) (own : Selection) (r : Result (Vec ℕ A) Fault) → AreBytes log → IsAccepted log sel → own ≡ all
    → written ≡ laid_out_after (read log sel.stop) (groups_in order.Backward (groups log sel)) → IfOk r (λ text. text.items ≡ sql_text (groups written own)) → IfErr r (IsRefusal (fault written own))
    → Answers log FlashbackSql sel r
unfolding flashback_text output_of MeetsHeadline
undone-answers log sel written own (Ok text) are accepted every laid is refused =
    let groups_are = ap₂ groups laid every ∙ flashback-groups (Chosen log sel) log sel (is-source log sel are accepted) in
    (accepted, is ∙ ap sql_text groups_are, (accepted, is ∙ ap sql_text groups_are))
undone-answers log sel written own (Err f) are accepted every laid is (inl none) = inl none
undone-answers log sel written own (Err f) are accepted every laid is (inr refused) =
    absurd (none-some f (sym (ap₂ fault laid every ∙ (flashback-undoes log sel are accepted).accepted) ∙ refused))

-- ---- what is written while it is laid out

pub output-written : (log : List ℕ) (mode : Mode) (sel : Selection) (had has : Option (List ℕ)) (text : List ℕ) (r : Result Unit RunFault) → IsOutput log mode sel text → IsWritten had has text r
    → IsOutputWritten log mode sel had has r
output-written log mode sel had has text (Ok done) output written = (text, output, written)
output-written log mode sel had has text (Err (Log f)) output none = inl none
output-written log mode sel had has text (Err Read) output written = absurd written
output-written log mode sel had has text (Err Write) output beginning = (text, output, beginning)

-- writing the output of the log that was read is a run
pub runs-written : (old new had has : Option (List ℕ)) (log : List ℕ) (mode : Mode) (sel : Selection) (r : Result Unit RunFault) → ReadsLog old new log
    → IsOutputWritten log mode sel had has r → (ends_before_writing r ≡ true → Keeps had has) → Runs old new mode sel had has r
runs-written old new had has log mode sel (Ok done) reads (text, output, appended) kept = (log, text, reads, output, appended)
runs-written old new had has log mode sel (Err (Log f)) reads (inl none) kept = (inl none, kept refl)
runs-written old new had has log mode sel (Err (Log f)) reads (inr refused) kept = (inr (inl (log, reads, refused)), kept refl)
runs-written old new had has log mode sel (Err Read) reads written kept = absurd written
runs-written old new had has log mode sel (Err Write) reads (text, output, beginning) kept = (log, text, reads, output, beginning)
