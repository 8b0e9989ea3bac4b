-- The text and the sizes of a log with its statements cut.
use Rattle.std.proofs.Common.{◌≡◌, ℕ, ◌≤◌, List, ◌++◌, length, map, Option, Result, Err, refl, sym, ap, subst, ◌∙◌, arith}
use Rattle.blog_event.specs.Event.{Event}
use Rattle.blog_event.specs.File.{AreBytes, read}
use Rattle.blog_device.specs.Devices.{AppendsBeginning}
use Rattle.blog_device.specs.declared.fault.RunFault.{RunFault}
use Rattle.blog_device.specs.declared.fault.RunFault.TheVariants as run
use Rattle.blog_row.specs.declared.order.Order.TheVariants.{Forward, Backward}
use Rattle.blog_trans.specs.Selection.{Selection, all}
use Rattle.blog_trans.specs.Acceptance.{IsAccepted}
use Rattle.blog_trans.specs.Groups.{Transaction, groups}
use Rattle.blog_flash.specs.Reversal.{reversed}
use Rattle.blog_flash.specs.Runs.{IsWritten}
use Rattle.blog_flash.specs.Texts.{flashback_text, group_events, laid_out, laid_out_after}
use Rattle.blog_flash.specs.Written.{Written, event_written, groups_written}
use Rattle.blog_flash.specs.code.LaidOut.{text_from}
use Rattle.blog_flash.specs.code.Measured.{AreWithin}
use Rattle.blog_flash.specs.declared.log_sizes.LogSizes.{LogSizes}
use Rattle.blog_flash.proofs.Agreeing.{Chosen}
use Rattle.blog_flash.proofs.Headline.{flashback-groups, flashback-is, flashback-undoes, is-source}
use Rattle.blog_flash.proofs.InTurn.{events-of-written, written-text}
use Rattle.blog_flash.proofs.Lengths.{text-end}
use Rattle.blog_flash.proofs.Written.{written-read}
use Rattle.blog_split.specs.Cuts.{IsCutInto}
use Rattle.blog_split.specs.Laws.{IsSplit}
use Rattle.blog_split.specs.code.Greedy.{cut_groups, cut_text}
use Rattle.blog_split.proofs.Greedy.{groups-are-cut}

-- events that are written, as they are laid out
pub written-are : (ts : List Transaction) (ws : List Written) → ws ≡ groups_written ts → map event_written ws ≡ group_events ts
written-are ts ws is = ap (map event_written) is ∙ events-of-written ts

-- their sizes
pub written-sizes : (pos : ℕ) (ts : List Transaction) (ws : List Written) (sizes : LogSizes) → ws ≡ groups_written ts → AreWithin pos (group_events ts) sizes → AreWithin pos (map event_written ws) sizes
written-sizes pos ts ws sizes is has = subst (λ es. AreWithin pos es sizes) (sym (written-are ts ws is)) has

-- the front with them behind it is the whole text, which is short enough
pub whole-text : (front whole : List ℕ) (ts : List Transaction) (ws : List Written) (sizes : LogSizes) → front ++ text_from (length front) (group_events ts) ≡ whole → AreWithin (length front) (group_events ts) sizes
    → ws ≡ groups_written ts → (front ++ text_from (length front) (map event_written ws) ≡ whole) × (length whole ≤ 4294967295)
whole-text front whole ts ws sizes text has is = (written-text front ts ws is ∙ text, omega (arith, ap length text, text-end front (group_events ts), has.short))

-- a beginning of it is written where a write failed
pub cut-broken : (had has : Option (List ℕ)) (text whole : List ℕ) (r : Result Unit RunFault) (f : RunFault) → r ≡ Err f → f ≡ run.Write → text ≡ whole → IsWritten had has text r → AppendsBeginning had has whole
cut-broken had has text whole r f is fault same written = subst (AppendsBeginning had has) same (subst (IsWritten had has text) (is ∙ ap Err fault) written)

-- ---- what is laid out of an accepted log

-- as it is
pub cut-forward : (limit : ℕ) (bytes : List ℕ) (sel : Selection) → IsAccepted bytes sel → length (cut_text Forward limit bytes sel) ≤ 4294967295
    → IsSplit limit bytes sel (cut_groups limit (groups bytes sel)) (cut_text Forward limit bytes sel)
cut-forward limit bytes sel accepted short =
    record { source = accepted; is_cut = groups-are-cut limit (groups bytes sel); laid = refl; short = short }

-- what undoes it: the log that undoes it is cut
pub cut-backward : (limit : ℕ) (bytes : List ℕ) (sel : Selection) → AreBytes bytes → IsAccepted bytes sel → length (cut_text Backward limit bytes sel) ≤ 4294967295
    → IsSplit limit (flashback_text bytes sel) all (cut_groups limit (reversed (groups bytes sel))) (cut_text Backward limit bytes sel)
cut-backward limit bytes sel are accepted short =
    let h = is-source bytes sel are accepted in
    let ts = cut_groups limit (reversed (groups bytes sel)) in
    let cut = groups-are-cut limit (reversed (groups bytes sel)) in
    let first = ap (λ written. read written all.stop) (flashback-is (Chosen bytes sel) bytes sel h) ∙ written-read (Chosen bytes sel) h.format (reversed (groups bytes sel)) h.backward in
    record {
      source = (flashback-undoes bytes sel are accepted).accepted;
      is_cut = subst (λ (gs : List Transaction). IsCutInto limit gs ts) (sym (flashback-groups (Chosen bytes sel) bytes sel h)) cut;
      laid = ap (λ (es : List Event). laid_out_after es ts) h.read_is ∙ sym (ap (λ (es : List Event). laid_out_after es ts) first);
      short = short;
    }
