-- The written log undoes the selection, and the normal form keeps it.
use Rattle.std.proofs.Common.{◌≡◌, ℕ, ◌^◌, List, ◌∷◌, length, refl, sym, ap, ap₂, subst, ◌∙◌, arith}
use Rattle.std.proofs.lemmas.Bool.{ltb-true}
use Rattle.blog_event.specs.declared.fault.Fault.TheVariants.{TooLong}
use Rattle.std.specs.List.{AllByRecursion}
use Rattle.blog_event.specs.Event.{Event, IsEvent}
use Rattle.blog_event.proofs.Framing.{read-events}
use Rattle.blog_event.specs.File.{AreBytes, read}
use Rattle.blog_trans.specs.Selection.{Selection, all}
use Rattle.blog_trans.specs.Acceptance.{IsAccepted}
use Rattle.blog_trans.specs.Groups.{Transaction, groups}
use Rattle.blog_trans.specs.Changes.{changes, changes_of}
use Rattle.blog_flash.specs.States.{apply_all, inverse_all}
use Rattle.blog_flash.specs.code.LaidOut.{groups_in}
use Rattle.blog_flash.specs.Reversal.{reversed}
use Rattle.blog_flash.proofs.Formed.{AreGroups}
use Rattle.blog_row.specs.declared.order.Order.{Order}
use Rattle.blog_row.specs.declared.order.Order.TheVariants.{Forward, Backward}
use Rattle.blog_flash.specs.Texts.{laid_out, laid_out_after, normal_text, flashback_text}
use Rattle.blog_flash.specs.Theorems.{Undoes, IsNormal}
use Rattle.blog_flash.proofs.Undoing.{undo_all}
use Rattle.blog_flash.proofs.Reversing.{reversed-twice, reversed-changes}
use Rattle.blog_flash.proofs.Forming.{groups-reversed}
use Rattle.blog_trans.proofs.ProgressAccepted.{no-fault-at, needed, accepted-lines}
use Rattle.blog_flash.proofs.Agreeing.{Chosen, source-agree}
use Rattle.blog_flash.proofs.Source.{source-groups, source-format}
use Rattle.blog_flash.proofs.Totals.{no-longer}
use Rattle.blog_flash.proofs.Written.{IsWritable, written-read, written-accepted, written-groups}

-- the texts of a log by its first event and its groups
texts-are : (bytes : List ℕ) (sel : Selection) (format : Event) (rest : List Event) (ts : List Transaction) → read bytes sel.stop ≡ format ∷ rest → groups bytes sel ≡ ts
    → (normal_text bytes sel ≡ laid_out format ts) × (flashback_text bytes sel ≡ laid_out format (reversed ts))
unfolding normal_text flashback_text
texts-are bytes sel format rest ts first same = (ap₂ laid_out_after first same, ap₂ (λ es us. laid_out_after es (reversed us)) first same)

-- those of a log that was laid out: it is its normal form
laid-texts : (Known : Event → Type 0) (format : Event) (ts : List Transaction) → IsWritable Known format ts
    → (normal_text (laid_out format ts) all ≡ laid_out format ts) × (flashback_text (laid_out format ts) all ≡ laid_out format (reversed ts))
laid-texts Known format ts h = texts-are (laid_out format ts) all format _ ts (written-read Known format ts h) (written-groups Known format ts h)

-- ---- an accepted log

-- its groups can be laid out behind its first event, as they are and reversed
pub record IsSource (Known : Event → Type 0) (bytes : List ℕ) (sel : Selection) : Type 0 where
  pub accepted : IsAccepted bytes sel
  pub format : Event
  pub rest : List Event
  pub read_is : read bytes sel.stop ≡ format ∷ rest
  pub forward : IsWritable Known format (groups bytes sel)
  pub backward : IsWritable Known format (reversed (groups bytes sel))

-- of each accepted log
pub is-source : (bytes : List ℕ) (sel : Selection) → AreBytes bytes → IsAccepted bytes sel → IsSource (Chosen bytes sel) bytes sel
is-source bytes sel are accepted =
    let (format, rest, first, served) = source-format bytes sel accepted in
    let event : IsEvent format = (subst (λ (es : List Event). AllByRecursion IsEvent es) first (read-events bytes sel.stop are)).0 in
    let formed = source-groups bytes sel are accepted in
    let short = ltb-true (length bytes) (2 ^ 32) (needed _ TooLong (no-fault-at 0 _ (accepted-lines bytes sel accepted).0)) in
    let writable : (order : Order) → AreGroups (Chosen bytes sel) (groups_in order (groups bytes sel)) → IsWritable (Chosen bytes sel) format (groups_in order (groups bytes sel)) =
    λ order formed. record { are_groups = formed; agree = source-agree bytes sel accepted; served = served; event = event; short = omega (arith, no-longer order bytes sel format rest accepted first) } in
    record {
      accepted = accepted;
      format = format;
      rest = rest;
      read_is = first;
      forward = writable Forward formed;
      backward = writable Backward (groups-reversed (Chosen bytes sel) (groups bytes sel) formed);
    }

module _ (Known : Event → Type 0) (bytes : List ℕ) (sel : Selection) (h : IsSource Known bytes sel) where
  -- its normal form
  pub normal-is : normal_text bytes sel ≡ laid_out h.format (groups bytes sel)
  normal-is = (texts-are bytes sel h.format h.rest (groups bytes sel) h.read_is refl).0

  -- the log that undoes it
  pub flashback-is : flashback_text bytes sel ≡ laid_out h.format (reversed (groups bytes sel))
  flashback-is = (texts-are bytes sel h.format h.rest (groups bytes sel) h.read_is refl).1

  -- the groups of the log that undoes it
  pub flashback-groups : groups (flashback_text bytes sel) all ≡ reversed (groups bytes sel)
  flashback-groups = ap (λ written. groups written all) flashback-is ∙ written-groups Known h.format (reversed (groups bytes sel)) h.backward

  -- undoing twice is the normal form
  flashback-twice : flashback_text (flashback_text bytes sel) all ≡ normal_text bytes sel
  flashback-twice =
      ap (λ written. flashback_text written all) flashback-is ∙ (laid-texts Known h.format (reversed (groups bytes sel)) h.backward).1
      ∙ ap (laid_out h.format) (reversed-twice (groups bytes sel)) ∙ sym normal-is

  -- the changes of the normal form
  normal-changes : changes (normal_text bytes sel) all ≡ changes bytes sel
  normal-changes = ap changes_of (ap (λ normal. groups normal all) normal-is ∙ written-groups Known h.format (groups bytes sel) h.forward)

  -- the changes of the log that undoes are the inverse
  pub flashback-changes : changes (flashback_text bytes sel) all ≡ inverse_all (changes bytes sel)
  flashback-changes = ap changes_of flashback-groups ∙ reversed-changes Known (groups bytes sel) h.forward.are_groups

-- ---- the theorems

-- of each accepted log the written log undoes the selection
pub flashback-undoes : (bytes : List ℕ) (sel : Selection) → AreBytes bytes → IsAccepted bytes sel → Undoes bytes sel (flashback_text bytes sel)
flashback-undoes bytes sel are accepted =
    let Known : Event → Type 0 = Chosen bytes sel in
    let h = is-source bytes sel are accepted in
    record {
      source = accepted;
      text = refl;
      state = λ before after made. ap (λ cs. apply_all cs after) (flashback-changes Known bytes sel h) ∙ undo_all (changes bytes sel) before after made;
      accepted = subst (λ written. IsAccepted written all) (sym (flashback-is Known bytes sel h)) (written-accepted Known h.format (reversed (groups bytes sel)) h.backward);
      again = ap (λ normal. changes normal all) (flashback-twice Known bytes sel h) ∙ normal-changes Known bytes sel h;
    }

-- of each accepted log the normal form keeps the selection
pub forward-normal : (bytes : List ℕ) (sel : Selection) → AreBytes bytes → IsAccepted bytes sel → IsNormal bytes sel (normal_text bytes sel)
forward-normal bytes sel are accepted =
    let Known : Event → Type 0 = Chosen bytes sel in
    let h = is-source bytes sel are accepted in
    let is = normal-is Known bytes sel h in
    let laid = laid-texts Known h.format (groups bytes sel) h.forward in
    record {
      source = accepted;
      text = refl;
      accepted = subst (λ normal. IsAccepted normal all) (sym is) (written-accepted Known h.format (groups bytes sel) h.forward);
      changes_kept = normal-changes Known bytes sel h;
      again = ap (λ normal. normal_text normal all) is ∙ laid.0 ∙ sym is;
      undone = ap (λ normal. flashback_text normal all) is ∙ laid.1 ∙ sym (flashback-is Known bytes sel h);
      undone_twice = flashback-twice Known bytes sel h;
    }
