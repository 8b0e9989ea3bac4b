-- Logs that are gone through in turn.
use Rattle.std.proofs.Common.{◌≡◌, ◌+◌, ◌++◌, ℕ, List, [], ◌∷◌, length, Option, Some, None, Result, Ok, Err, refl, sym, ap, subst, ◌∙◌, arith}
use Rattle.std.proofs.KnownBytes.{Keeps-refl}
use Rattle.std.specs.Option.{option_or}
use Rattle.blog_device.specs.Watched.{device_of}
use Rattle.blog_show.specs.declared.forms.RowForm.{RowForm}
use Rattle.blog_source.specs.declared.reading.Reading.{Reading}
use Rattle.blog_sum.specs.declared.fault.SumFault.{SumFault}
use Rattle.list_run.specs.Listed.{IsRead, NamedLog, end_of, or_later}
use Rattle.list_run.specs.code.Turns.{OpensSource, earlier}
use Rattle.list_run.specs.declared.fault.ListFault.{ListFault}
use Rattle.list_run.specs.declared.fault.ListFault.TheVariants.{Run, Unread, EndsEarly}
use Rattle.list_run.specs.declared.given.GivenLog.{GivenLog}
use Rattle.show_run.specs.Shown.{Showing, ShowsGiven, ShowsLogs, ShowsNamed, listing_in}
use Rattle.show_run.specs.code.Turns.{EndsWith, FailsOne}

-- ---- the first early end

-- a log that may end early, and then later ones
pub end-passed : (end : Option (ℕ × SumFault)) (n : ℕ) (fault : Option SumFault) (later : Option (ℕ × SumFault)) → option_or end (or_later n fault later) ≡ option_or (earlier end n fault) later
end-passed (Some e) n fault later = refl
end-passed None n (Some fault) later = refl
end-passed None n None later = refl

pub none-later : (end : Option (ℕ × SumFault)) → option_or end None ≡ end
none-later (Some e) = refl
none-later None = refl

-- ---- one log

-- it can't be opened
pub not-opened : {R : Type 0} (A : Type 0) (known : R → Option (List ℕ)) (given : GivenLog R) (how : Reading) (fault : ListFault) → OpensSource {A = A} how (known (device_of given.reader)) (Err fault) → FailsOne known given fault
not-opened A known given how (Run f) may = tt
not-opened A known given how (Unread f) (bytes, read, refused) = (record { name = given.name.now; bytes = bytes }, (refl, read), refused)
not-opened A known given how (EndsEarly f) none = absurd none

-- ---- logs that are shown

-- none is left
pub shown-rest : {R : Type 0} (known : R → Option (List ℕ)) (form : RowForm) (s : Showing) (n : ℕ) (left : List (GivenLog R)) (has : Option (List ℕ)) → length left ≡ 0
    → ShowsGiven known form s n left None has has
shown-rest known form s n [] has none = ([], tt, refl, Keeps-refl has)
shown-rest known form s n (given ∷ later) has none = absurd (omega (arith, none))

-- the first of those that are left is shown
pub shown-first : {R : Type 0} (known : R → Option (List ℕ)) (form : RowForm) (s : Showing) (n next : ℕ) (given : GivenLog R) (left later : List (GivenLog R)) (log : NamedLog) (fault : Option SumFault)
    (end : Option (ℕ × SumFault)) (had mid has : Option (List ℕ)) → left ≡ given ∷ later → next ≡ 1 + n → IsRead known given log → fault ≡ end_of (listing_in s) n log → ShowsNamed form s n log had mid
    → ShowsGiven known form s next later end mid has → ShowsGiven known form s n left (or_later n fault end) had has
shown-first known form s n next given left later log fault end had mid has first after read ends named rest =
    let (logs, are, last, shown) = subst (λ (m : ℕ). ShowsGiven known form s m later end mid has) after rest in
    subst (λ (gs : List (GivenLog _)). ShowsGiven known form s n gs (or_later n fault end) had has) (sym first)
    (log ∷ logs, (read, are), ap (or_later n (end_of (listing_in s) n log)) last ∙ ap (λ (f : Option SumFault). or_later n f end) (sym ends), (mid, named, shown))

-- what comes of showing all
pub all-shown : {R : Type 0} (known : R → Option (List ℕ)) (form : RowForm) (s : Showing) (givens : List (GivenLog R)) (end : Option (ℕ × SumFault)) (had has : Option (List ℕ)) (result : Result ℕ (ℕ × ListFault))
    → EndsWith end result → ShowsGiven known form s 0 givens end had has → ShowsLogs known form s givens had has result
all-shown known form s givens end had has (Ok count) is shown = subst (λ (e : Option (ℕ × SumFault)). ShowsGiven known form s 0 givens e had has) is shown
all-shown known form s givens end had has (Err (n, EndsEarly fault)) is shown = subst (λ (e : Option (ℕ × SumFault)). ShowsGiven known form s 0 givens e had has) is shown
all-shown known form s givens end had has (Err (n, Unread fault)) none shown = absurd none
all-shown known form s givens end had has (Err (n, Run fault)) none shown = absurd none

-- one can't be shown
pub not-shown : {R : Type 0} (known : R → Option (List ℕ)) (form : RowForm) (s : Showing) (before later givens : List (GivenLog R)) (given : GivenLog R) (n : ℕ) (had has : Option (List ℕ)) (fault : ListFault)
    → before ++ given ∷ later ≡ givens → n ≡ length before → FailsOne known given fault → ShowsLogs known form s givens had has (Err (n, fault))
not-shown known form s before later givens given n had has (Run fault) split number fails = tt
not-shown known form s before later givens given n had has (Unread fault) split number (log, read, refused) = (before, later, given, log, split, sym number, read, refused)
not-shown known form s before later givens given n had has (EndsEarly fault) split number none = absurd none
