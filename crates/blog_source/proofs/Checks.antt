-- The check of an event: of its sum, and of what is behind it.
use Rattle.std.proofs.Common.{◌≡◌, ℕ, Bool, true, false, List, [], ◌∷◌, drop, Option, Some, None, refl, sym, ◌∙◌}
use Rattle.std.specs.Prelude.{not}
use Rattle.std.specs.Option.{option_map_or}
use Rattle.blog_event.specs.declared.fault.Fault.TheVariants.{CutEvent}
use Rattle.blog_event.specs.Event.{Event, event_at}
use Rattle.blog_event.specs.Fault.{first_failing}
use Rattle.blog_event.specs.File.{Placed}
use Rattle.blog_sum.specs.declared.fault.SumFault.{SumFault}
use Rattle.blog_sum.specs.declared.fault.SumFault.TheVariants.{Encrypted, Log}
use Rattle.blog_sum.specs.Sums.{unless}
use Rattle.blog_sum.proofs.Summed.{none-first, none-unless}
use Rattle.blog_sum.proofs.Walk.{last-decides}
use Rattle.blog_source.specs.Found.{begins_encryption, check_of, sums_check}
use Rattle.blog_source.specs.code.Walk.{next_check, next_sum}

-- it fails where that of the sum does
pub sum-fails : (sums : Bool) (bytes : List ℕ) (at : ℕ) (fault : SumFault) → next_sum sums bytes at ≡ Some fault → next_check sums bytes at ≡ Some fault
sum-fails sums bytes at fault fails = by_found (event_at (drop at bytes)) fails
  where
    by_found : (there : Option Event) → option_map_or (λ e. sums_check sums (record { pos = at; event = e })) there (Some (Log (CutEvent at))) ≡ Some fault
        → option_map_or (λ e. check_of sums (record { pos = at; event = e })) there (Some (Log (CutEvent at))) ≡ Some fault
    by_found None is = is
    by_found (Some e) is = rw is refl

-- else the type of the event decides
pub type-decides : (sums : Bool) (bytes : List ℕ) (at : ℕ) (e : Event) (test : Bool) → event_at (drop at bytes) ≡ Some e → next_sum sums bytes at ≡ None → begins_encryption e ≡ test
    → next_check sums bytes at ≡ unless (not test) (Encrypted at)
type-decides sums bytes at e test stands fine is =
    let own : sums_check sums (record { pos = at; event = e }) ≡ None = rw stands at fine in
    rw (stands, own, is) (last-decides (unless (not test) (Encrypted at)))

-- of an event behind which nothing is encrypted it is that of its sum
pub clear-check : (sums : Bool) (p : Placed) → begins_encryption p.event ≡ false → check_of sums p ≡ sums_check sums p
clear-check sums p clear = by_case (sums_check sums p) (begins_encryption p.event) clear
  where
    by_case : (check : Option SumFault) (test : Bool) → test ≡ false → first_failing (check ∷ unless (not test) (Encrypted p.pos) ∷ []) ≡ check
    by_case None test none = rw none refl
    by_case (Some fault) test none = refl

-- of one that passes nothing is
not-true : (test : Bool) → not test ≡ true → test ≡ false
not-true true is = absurd (cc)
not-true false is = refl

pub passes-clear : (sums : Bool) (p : Placed) → check_of sums p ≡ None → begins_encryption p.event ≡ false
passes-clear sums p passes =
    let last = none-first (sums_check sums p) (unless (not (begins_encryption p.event)) (Encrypted p.pos) ∷ []) passes in
    not-true (begins_encryption p.event) (none-unless (not (begins_encryption p.event)) (Encrypted p.pos) (sym (last-decides (unless (not (begins_encryption p.event)) (Encrypted p.pos))) ∙ last.1))
