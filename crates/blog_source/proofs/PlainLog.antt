-- The plain log of a log: its events, its length, that it is a log without sums, and its own plain log.
use Rattle.std.proofs.Common.{◌≡◌, ℕ, ◌+◌, ◌^◌, ◌≤◌, ◌<◌, Bool, true, false, List, [], ◌∷◌, ◌++◌, length, take, drop, None, refl, sym, subst, ap, ◌∙◌, arith}
use Rattle.std.specs.Prelude.{◌==◌}
use Rattle.std.specs.List.{AllByRecursion, flat_map}
use Rattle.std.proofs.lemmas.List.{append-nil, length-append, length-take-le}
use Rattle.blog_event.specs.Event.{Event, event_size, IsEvent}
use Rattle.blog_event.specs.Fault.{fault_at}
use Rattle.blog_event.specs.File.{AreBytes, BeginsWith, Placed, file_text, placed_from, end_of, read}
use Rattle.blog_event.specs.Opening.{front_fault, opening_fault}
use Rattle.blog_event.proofs.Framing.{texts-length}
use Rattle.blog_event.proofs.Openings.{front-format}
use Rattle.blog_gtid.specs.Tagged.{gtid_body_of}
use Rattle.blog_gtid.proofs.Lengths.{gtid_least}
use Rattle.blog_sum.specs.Plain.{ended_from}
use Rattle.blog_sum.specs.Sums.{algorithm_of, has_sums, sum_fault}
use Rattle.blog_sum.proofs.Summed.{format-accepted, no-fault, none-unless, summed-algorithm}
use Rattle.blog_source.specs.Found.{begins_encryption, check_of, found, source_refusal}
use Rattle.blog_source.specs.Whole.{NoneEncrypted, reading_fault}
use Rattle.blog_source.specs.declared.becoming.Becoming.{Becoming}
use Rattle.blog_source.specs.declared.becoming.Becoming.TheVariants.{Itself, Gtid, Begin, Nothing}
use Rattle.blog_source.specs.Becoming.{become_as, becoming_of}
use Rattle.blog_event.specs.declared.fault.Fault.TheVariants.{CutEvent}
use Rattle.blog_sum.specs.declared.fault.SumFault.TheVariants.{Log}
use borrow.Author.Tests.{eqb-true}
use Rattle.blog_source.specs.Handed.{bare, handed_format}
use Rattle.blog_source.specs.Laws.{IsEnded, StayThemselves, StaysItself, whole_reading}
use Rattle.blog_source.specs.Plain.{plain_events, plain_log, plainly}
use Rattle.blog_source.proofs.Accepted.{IsAccepted, is-accepted, is-read, later_of}
use Rattle.blog_source.proofs.Ending.{ended-append}
use Rattle.blog_source.proofs.WhatBecomes.{Stays, stays-alone, then-stays}
use Rattle.blog_source.proofs.HandedLog.{Fit, HasFormat, become-fit, end-past, fit-append, has-format}
use Rattle.blog_source.proofs.LogText.{IsText, text-long, text-marked, text-opens, text-read, text-stands}
use Rattle.blog_source.proofs.Moving.{has-room}
use Rattle.blog_source.proofs.Plained.{none-with}
use Rattle.blog_source.proofs.Checks.{passes-clear}
use Rattle.blog_source.proofs.WholeReading.{found-is, reading-opens, end-only, reading_whole, whole_fault, whole_opens}

-- ---- events that say where they end

ended-ends : (pos : ℕ) (es : List Event) → end_of pos (ended_from pos es) ≡ end_of pos es
ended-ends pos [] = refl
ended-ends pos (e ∷ es) = ended-ends (pos + event_size e) es

ended-events : (pos : ℕ) (es : List Event) → end_of pos es < 2 ^ 32 → AllByRecursion (λ f. IsEvent (record f { log_pos = 0 })) es → AllByRecursion IsEvent (ended_from pos es)
ended-events pos [] short events = tt
ended-events pos (e ∷ es) short events =
    let past = end-past (pos + event_size e) es in
    let own = events.0 in (
      record { timestamp = own.timestamp; kind = own.kind; server_id = own.server_id; size = own.size; log_pos = omega arith; flags = own.flags },
      ended-events (pos + event_size e) es short events.1,
    )

ended-twice : (pos : ℕ) (es : List Event) → ended_from pos (ended_from pos es) ≡ ended_from pos es
ended-twice pos [] = refl
ended-twice pos (e ∷ es) = ap (λ (later : List Event). record e { log_pos = pos + event_size e } ∷ later) (ended-twice (pos + event_size e) es)

ended-same : (pos : ℕ) (es : List Event) → AllByRecursion IsEnded (placed_from pos es) → ended_from pos es ≡ es
ended-same pos [] ended = refl
ended-same pos (e ∷ es) ended =
    ap (λ (log_pos : ℕ). record e { log_pos = log_pos } ∷ ended_from (pos + event_size e) es) (sym ended.0)
    ∙ ap (λ (later : List Event). e ∷ later) (ended-same (pos + event_size e) es ended.1)

ended-stay : (pos : ℕ) (es : List Event) → AllByRecursion Stays es → AllByRecursion Stays (ended_from pos es)
ended-stay pos [] stay = tt
ended-stay pos (e ∷ es) stay = (stay.0, ended-stay (pos + event_size e) es stay.1)

-- ---- those of a plain log

-- what an event becomes
abbrev plain_of : Bool → Event → List Event
plain_of sums e = plainly (bare sums e)

-- no body is longer without a tag
cut-fits : (body : List ℕ) → 25 ≤ length body → length (take 25 (gtid_body_of body)) ≤ length body
cut-fits body enough = let long = length-take-le 25 (gtid_body_of body) (gtid_least body) in omega arith

-- they fit where the events of the log are, and before it
plain-fit : (sums : Bool) (len pos at : ℕ) (es : List Event) → pos ≤ at → AllByRecursion IsEvent es → end_of at es < 2 ^ 32
    → (found whole_reading sums len at (placed_from at es)).fault ≡ None → Fit pos (end_of at es) (ended_from pos (flat_map (plain_of sums) es))
plain-fit sums len pos at [] before events short none = (tt, before)
plain-fit sums len pos at (e ∷ es) before events short none =
    let p : Placed = record { pos = at; event = e } in
    let first = none-with (check_of sums p) p (found whole_reading sums len (at + event_size e) (placed_from (at + event_size e) es)) none in
    let past = end-past (at + event_size e) es in
    let own = become-fit (take 25) sums e cut-fits events.0 (has-room sums p first.0) in
    let ones : List Event = plain_of sums e in
    let more : List Event = flat_map (plain_of sums) es in
    let end : ℕ = end_of (at + event_size e) es in
    let fits = own.fits pos in
    let later = plain-fit sums len (end_of pos ones) (at + event_size e) es (omega arith) events.1 short first.1 in
    subst (λ (es : List Event). Fit pos end es) (sym (ended-append pos ones more))
    (fit-append pos end (ended_from pos ones) (ended_from (end_of pos ones) more) (ended-events pos ones (omega arith) own.events)
    (subst (λ (next : ℕ). Fit next end (ended_from (end_of pos ones) more)) (sym (ended-ends pos ones)) later))

-- each stays itself
stay-append : (es more : List Event) → AllByRecursion Stays es → AllByRecursion Stays more → AllByRecursion Stays (es ++ more)
stay-append [] more stay rest = rest
stay-append (e ∷ es) more stay rest = (stay.0, stay-append es more stay.1 rest)

plain-stay : (sums : Bool) (es : List Event) → AllByRecursion Stays (flat_map (plain_of sums) es)
plain-stay sums [] = tt
plain-stay sums (e ∷ es) = stay-append (plain_of sums e) (flat_map (plain_of sums) es) (then-stays (take 25) (bare sums e)) (plain-stay sums es)

-- and those that do are what they become
stay-same : (es : List Event) → AllByRecursion Stays es → flat_map (plain_of false) es ≡ es
stay-same [] stay = refl
stay-same (e ∷ es) stay =
    ap (λ (first : List Event). first ++ flat_map (plain_of false) es) (stays-alone (take 25) e stay.0) ∙ ap (λ (later : List Event). e ∷ later) (stay-same es stay.1)

-- as do those that stay themselves
all-stay : (es : List Event) → AllByRecursion StaysItself es → AllByRecursion Stays es
all-stay [] stay = tt
all-stay (e ∷ es) stay = (stay.0.0, all-stay es stay.1)

-- so those of a plain log stay as they are
plain-twice : (sums : Bool) (pos : ℕ) (es : List Event)
    → ended_from pos (flat_map (plain_of false) (ended_from pos (flat_map (plain_of sums) es))) ≡ ended_from pos (flat_map (plain_of sums) es)
plain-twice sums pos es =
    ap (ended_from pos) (stay-same (ended_from pos (flat_map (plain_of sums) es)) (ended-stay pos (flat_map (plain_of sums) es) (plain-stay sums es)))
    ∙ ended-twice pos (flat_map (plain_of sums) es)

-- nothing is encrypted behind those that are read without a fault, nor behind what they become
abbrev IsOpen : Event → Type 0
IsOpen e = begins_encryption e ≡ false

found-clear : (sums : Bool) (len at : ℕ) (es : List Event) → (found whole_reading sums len at (placed_from at es)).fault ≡ None → AllByRecursion IsOpen es
found-clear sums len at [] none = tt
found-clear sums len at (e ∷ es) none =
    let p : Placed = record { pos = at; event = e } in
    let first = none-with (check_of sums p) p (found whole_reading sums len (at + event_size e) (placed_from (at + event_size e) es)) none in
    (passes-clear sums p first.0, found-clear sums len (at + event_size e) es first.1)

bare-clear : (sums : Bool) (e : Event) → IsOpen e → IsOpen (bare sums e)
bare-clear true e clear = clear
bare-clear false e clear = clear

one-clear : (e : Event) → IsOpen e → AllByRecursion IsOpen (plainly e)
one-clear e clear = by_case (becoming_of e.kind e.body)
  where
    by_case : (r : Becoming) → AllByRecursion IsOpen (become_as (take 25) r e)
    by_case Itself = (clear, tt)
    by_case Gtid = (refl, tt)
    by_case Begin = (refl, tt)
    by_case Nothing = tt

clear-append : (es more : List Event) → AllByRecursion IsOpen es → AllByRecursion IsOpen more → AllByRecursion IsOpen (es ++ more)
clear-append [] more clear rest = rest
clear-append (e ∷ es) more clear rest = (clear.0, clear-append es more clear.1 rest)

plain-clear : (sums : Bool) (es : List Event) → AllByRecursion IsOpen es → AllByRecursion IsOpen (flat_map (plain_of sums) es)
plain-clear sums [] clear = tt
plain-clear sums (e ∷ es) clear =
    clear-append (plain_of sums e) (flat_map (plain_of sums) es) (one-clear (bare sums e) (bare-clear sums e clear.0)) (plain-clear sums es clear.1)

ended-clear : (pos : ℕ) (es : List Event) → AllByRecursion IsOpen es → AllByRecursion IsOpen (ended_from pos es)
ended-clear pos [] clear = tt
ended-clear pos (e ∷ es) clear = (clear.0, ended-clear (pos + event_size e) es clear.1)

-- and those end where the log does
found-ends : (sums : Bool) (len at : ℕ) (es : List Event) → (found whole_reading sums len at (placed_from at es)).fault ≡ None → end_of at es ≡ len
found-ends sums len at [] none = eqb-true at len (none-unless (at == len) (Log (CutEvent at)) (sym (end-only (at == len) (Log (CutEvent at))) ∙ none))
found-ends sums len at (e ∷ es) none =
    let p : Placed = record { pos = at; event = e } in
    let first = none-with (check_of sums p) p (found whole_reading sums len (at + event_size e) (placed_from (at + event_size e) es)) none in
    found-ends sums len (at + event_size e) es first.1

-- ---- the whole log

-- what is known of it
record IsPlain (bytes : List ℕ) : Type 0 where
  log : IsAccepted bytes
  format : HasFormat (has_sums bytes) log.format
  later : List Event
  later_is : later ≡ ended_from (4 + event_size log.format) (flat_map (plain_of (has_sums bytes)) (later_of bytes None log))
  are : plain_events (has_sums bytes) (read bytes None) ≡ handed_format (has_sums bytes) log.format ∷ later
  text : IsText (plain_log bytes) (handed_format (has_sums bytes) log.format) later
  clear : AllByRecursion (λ e. begins_encryption e ≡ false) later
  whole : end_of 4 (read bytes None) ≡ length bytes
  ends : length (plain_log bytes) ≤ length bytes

is-plain : (bytes : List ℕ) → AreBytes bytes → reading_fault bytes ≡ None → IsPlain bytes
unfolding plain_log
is-plain bytes are fine =
    let opened : source_refusal bytes ≡ None = (reading-opens bytes fine).0 in
    let log = is-accepted bytes opened in
    let reads = is-read bytes None log are in
    let short = log.short in
    let within = reads.ends in
    let sums : Bool = has_sums bytes in
    let at : ℕ = 4 + event_size log.format in
    let es : List Event = later_of bytes None log in
    let format = has-format bytes log sums refl reads.events.0 in
    let none = ap (λ f. f.fault) (sym (found-is whole_reading bytes log)) ∙ (reading-opens bytes fine).1 in
    let fit = plain-fit sums (length bytes) at at es (omega arith) reads.events.1 (omega arith) none in
    let last : List Event = ended_from at (flat_map (plain_of sums) es) in
    let first : Event = handed_format sums log.format in
    let are : plain_events sums (read bytes None) ≡ first ∷ last = ap (plain_events sums) reads.is in
    let text : IsText (plain_log bytes) first last = record { is = ap file_text are; events = (format.event, fit.0) } in
    let ends : end_of (4 + event_size first) last ≤ length bytes = subst (λ (size : ℕ). end_of (4 + size) last ≤ length bytes) (sym format.size) (omega (arith, fit.1)) in
    record { log = log; format = format; later = last; later_is = refl; are = are; text = text; clear = ended-clear at (flat_map (plain_of sums) es) (plain-clear sums es (found-clear sums (length bytes) at es none)); whole = ap (end_of 4) reads.is ∙ found-ends sums (length bytes) at es none; ends = omega (arith, ends, text-long (plain_log bytes) first last text) }

-- ---- the laws

pub plain_no_longer : (bytes : List ℕ) → AreBytes bytes → reading_fault bytes ≡ None → length (plain_log bytes) ≤ length bytes
plain_no_longer bytes are fine = (is-plain bytes are fine).ends

pub plain_opens : (bytes : List ℕ) → AreBytes bytes → reading_fault bytes ≡ None → opening_fault (plain_log bytes) ≡ None
plain_opens bytes are fine =
    let is = is-plain bytes are fine in
    let short = is.log.short in
    let format : Event = handed_format (has_sums bytes) is.log.format in
    text-opens (plain_log bytes) format is.later is.text (omega (arith, is.ends)) (format-accepted format is.format.described is.format.none)

pub plain_read_again : (bytes : List ℕ) → AreBytes bytes → reading_fault bytes ≡ None → read (plain_log bytes) None ≡ plain_events (has_sums bytes) (read bytes None)
plain_read_again bytes are fine =
    let is = is-plain bytes are fine in
    text-read (plain_log bytes) (handed_format (has_sums bytes) is.log.format) is.later is.text ∙ sym is.are

-- its algorithm
plain-none : (bytes : List ℕ) → IsPlain bytes → algorithm_of (plain_log bytes) ≡ 0
plain-none bytes is =
    let format : Event = handed_format (has_sums bytes) is.log.format in
    summed-algorithm (plain_log bytes) format (text-stands (plain_log bytes) format is.later is.text) ∙ is.format.none

pub plain_unsummed : (bytes : List ℕ) → AreBytes bytes → reading_fault bytes ≡ None → has_sums (plain_log bytes) ≡ false
plain_unsummed bytes are fine = ap (λ (n : ℕ). n == 1) (plain-none bytes (is-plain bytes are fine))

pub plain_fine : (bytes : List ℕ) → AreBytes bytes → reading_fault bytes ≡ None → sum_fault (plain_log bytes) ≡ None
plain_fine bytes are fine =
    let is = is-plain bytes are fine in
    let text : List ℕ = plain_log bytes in
    let format : Event = handed_format (has_sums bytes) is.log.format in
    let short = is.log.short in
    let front : front_fault text ≡ None =
    front-format text format (omega (arith, is.ends)) (text-marked text format is.later is.text) (text-stands text format is.later is.text) ∙ ap (fault_at 4) is.format.described in
    let whole : end_of 4 (read text None) ≡ length text = ap (end_of 4) (text-read text format is.later is.text) ∙ sym (text-long text format is.later is.text) in
    no-fault text front (plain-none bytes is) whole

pub plain_read : (bytes : List ℕ) → AreBytes bytes → reading_fault bytes ≡ None → reading_fault (plain_log bytes) ≡ None
plain_read bytes are fine =
    let is = is-plain bytes are fine in
    let text : List ℕ = plain_log bytes in
    let format : Event = handed_format (has_sums bytes) is.log.format in
    let fault = plain_fine bytes are fine in
    let opened = whole_opens text fault in
    let clear : NoneEncrypted (read text None) = subst NoneEncrypted (sym (text-read text format is.later is.text)) is.clear in
    sym (reading_whole text opened) ∙ whole_fault text opened clear ∙ fault

pub plain_same : (bytes : List ℕ) → AreBytes bytes → reading_fault bytes ≡ None → plain_log (plain_log bytes) ≡ plain_log bytes
unfolding plain_log
plain_same bytes are fine =
    let is = is-plain bytes are fine in
    let sums : Bool = has_sums bytes in
    let text : List ℕ = plain_log bytes in
    let format : Event = handed_format sums is.log.format in
    let at : ℕ = 4 + event_size is.log.format in
    let es : List Event = later_of bytes None is.log in
    ap (λ (none : Bool). file_text (plain_events none (read text None))) (plain_unsummed bytes are fine)
    ∙ ap (λ (es : List Event). file_text (plain_events false es)) (text-read text format is.later is.text)
    ∙ ap (λ (size : ℕ). file_text (format ∷ ended_from (4 + size) (flat_map (plain_of false) is.later))) is.format.size
    ∙ ap (λ (later : List Event). file_text (format ∷ ended_from at (flat_map (plain_of false) later))) is.later_is
    ∙ ap (λ (later : List Event). file_text (format ∷ later)) (plain-twice sums at es ∙ sym is.later_is)
    ∙ sym is.text.is

-- bytes that begin with events, and are no longer
none-behind : (bytes : List ℕ) (es : List Event) → BeginsWith bytes (file_text es) → end_of 4 es ≡ length bytes → file_text es ≡ bytes
none-behind bytes es begins ends =
    let texts = texts-length 4 es in
    let whole : length bytes ≡ length (file_text es ++ begins.0) = ap length begins.1 in
    let parts = length-append (file_text es) begins.0 in
    let none : begins.0 ≡ [] = no-more begins.0 (omega arith) in
    sym (begins.1 ∙ ap (λ (rest : List ℕ). file_text es ++ rest) none ∙ append-nil (file_text es))
  where
    no-more : (rest : List ℕ) → length rest ≡ 0 → rest ≡ []
    no-more [] none = refl
    no-more (x ∷ rest) none = absurd (omega arith)

pub plain_kept : (bytes : List ℕ) → AreBytes bytes → reading_fault bytes ≡ None → has_sums bytes ≡ false → StayThemselves (read bytes None)
    → AllByRecursion IsEnded (drop 1 (placed_from 4 (read bytes None))) → plain_log bytes ≡ bytes
unfolding plain_log
plain_kept bytes are fine none plain ended =
    let log = is-accepted bytes (reading-opens bytes fine).0 in
    let reads = is-read bytes None log are in
    let at : ℕ = 4 + event_size log.format in
    let es : List Event = later_of bytes None log in
    let whole : end_of 4 (log.format ∷ es) ≡ length bytes = ap (end_of 4) (sym reads.is) ∙ (is-plain bytes are fine).whole in
    let same : ended_from at (flat_map (plain_of false) es) ≡ es = ap (ended_from at) (stay-same es (all-stay es (subst StayThemselves reads.is plain))) ∙ ended-same at es
    (subst (λ (es : List Event). AllByRecursion IsEnded (drop 1 (placed_from 4 es))) reads.is ended) in
    ap (λ (sums : Bool). file_text (plain_events sums (read bytes None))) none
    ∙ ap (λ (es : List Event). file_text (plain_events false es)) reads.is
    ∙ ap (λ (later : List Event). file_text (log.format ∷ later)) same
    ∙ none-behind bytes (log.format ∷ es) reads.begins whole
