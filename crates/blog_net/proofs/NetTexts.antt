-- The text of a log of updates, as it is written and as it is refused.
use Rattle.std.proofs.Common.{◌≡◌, ℕ, ◌<◌, List, ◌++◌, length, sym, ap, subst, ◌∙◌, arith}
use Rattle.blog_event.specs.declared.event.Event as told
use Rattle.blog_event.specs.File.{end_of}
use Rattle.blog_flash.specs.code.LaidOut.{text_from}
use Rattle.blog_flash.proofs.Lengths.{end-total, text-end}
use Rattle.blog_net.specs.Net.{net_events, net_text}
use Rattle.blog_net.specs.code.NetView.{IsUnwritten}
use Rattle.blog_net.specs.code.PutView.{IsPut, Refuses}
use Rattle.blog_net.specs.declared.fault.NetFault.{NetFault}
use Rattle.blog_net.specs.declared.fault.NetFault.TheVariants.{OutOfMemory, TooLong, Unfit}
use Rattle.blog_net.specs.declared.update.NetUpdate.{NetUpdate}

-- its length
text-length : (front : List ℕ) (begin end : told.Event) (us : List NetUpdate) → length (net_text front begin end us) ≡ end_of (length front) (net_events begin end us)
unfolding net_text
text-length front begin end us = text-end front (net_events begin end us)

-- a front alone that is too long
pub front-long : (front : List ℕ) (begin end : told.Event) (us : List NetUpdate) → 4294967295 < length front → 4294967295 < length (net_text front begin end us)
front-long front begin end us long =
    let whole = text-length front begin end us in
    let more = end-total (length front) (net_events begin end us) in
    omega (arith, long, whole, more)

pub text-put : (old new front : List ℕ) (begin end : told.Event) (us : List NetUpdate) → old ≡ front → IsPut old (net_events begin end us) new → new ≡ net_text front begin end us
unfolding net_text
text-put old new front begin end us same put = put.0 ∙ ap (λ (own : List ℕ). own ++ text_from (length own) (net_events begin end us)) same

pub text-refused : (old front : List ℕ) (begin end : told.Event) (us : List NetUpdate) (fault : NetFault) → old ≡ front → Refuses old (net_events begin end us) fault
    → IsUnwritten (net_text front begin end us) us fault
text-refused old front begin end us OutOfMemory same refused = tt
text-refused old front begin end us TooLong same refused =
    subst (λ (n : ℕ). 4294967295 < n) (ap (λ (own : List ℕ). end_of (length own) (net_events begin end us)) same ∙ sym (text-length front begin end us)) refused
text-refused old front begin end us Unfit same refused = absurd refused
