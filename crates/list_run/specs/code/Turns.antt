-- What comes of one log of a list.
use Rattle.std.specs.Prelude.{◌≡◌, ◌⊎◌, ◌==◌, ℕ, Bool, true, false, List, [], ◌++◌, ⊤, if◌then◌else◌, length, Option, Some, None, Result, Ok, Err}
use Rattle.std.specs.Io.KnownBytes.{Appends}
use Rattle.jiff.specs.Types.{TimeZone}
use Rattle.blog_device.specs.Devices.{AppendsBeginning, ReadsLog}
use Rattle.blog_device.specs.Watched.{device_of}
use Rattle.blog_device.specs.declared.devices.Watched.{Watched}
use Rattle.blog_device.specs.declared.fault.RunFault.{RunFault}
use Rattle.blog_device.specs.declared.fault.RunFault.TheVariants.{Log, Read, Write}
use Rattle.blog_event.specs.Opening.{opening_fault}
use Rattle.blog_list.specs.Texts.{IsLogBegun, IsLogText, header_of}
use Rattle.blog_list.specs.declared.listing.Form.{Form}
use Rattle.blog_list.specs.declared.totals.Totals.{Totals}
use Rattle.blog_list.specs.code.Totals.{CountsLog}
use Rattle.blog_list.specs.code.Told.{end_listed, listed}
use Rattle.blog_source.specs.Found.{found_of, source_refusal}
use Rattle.blog_source.specs.Handed.{handed_log}
use Rattle.blog_source.specs.code.SourceView.{damaged_of, end_of as read_end, fault_of, log_of}
use Rattle.blog_source.specs.declared.reading.Reading.{Reading}
use Rattle.blog_source.specs.declared.source.Source.{Source}
use Rattle.blog_sum.specs.declared.fault.SumFault.{SumFault}
use Rattle.list_run.specs.Listed.{IsRead, Listing, NamedLog, end_of, list_of, or_later, wanted_of}
use Rattle.list_run.specs.declared.fault.ListFault.{ListFault}
use Rattle.list_run.specs.declared.fault.ListFault.TheVariants.{Run, Unread, EndsEarly}
use Rattle.list_run.specs.declared.given.GivenLog.{GivenLog}
use Rattle.list_run.specs.declared.listed.Turn.{Turn}

-- of which listing a turn is
abbrev pub listing_of : Turn → Listing
listing_of turn = record { how = turn.how; wanted = turn.wanted.now; sorting = turn.sorting; count = turn.count }

-- the answer is that a write failed
abbrev pub is_failed_write : {X : Type 0} → Result X ListFault → Bool
is_failed_write (Err (Run Write)) = true
is_failed_write _ = false

-- the first early end, where the n-th log may have one and those before it may have
abbrev pub earlier : Option (ℕ × SumFault) → ℕ → Option SumFault → Option (ℕ × SumFault)
earlier (Some end) n fault = Some end
earlier None n fault = or_later n fault None

-- these bytes were read, and this source was opened
pub record IsOpened {A : Type 0} (how : Reading) (bytes : List ℕ) (source : Source A) : Type 0 where
  pub log : log_of source ≡ handed_log how bytes
  pub end : read_end source ≡ (found_of how bytes).end
  pub fault : fault_of source ≡ (found_of how bytes).fault
  pub damaged : damaged_of source ≡ (found_of how bytes).damaged
  pub opens : opening_fault (log_of source) ≡ None

-- what comes of reading a log, which its reader had, and opening it
abbrev pub OpensSource : {A : Type 0} → Reading → Option (List ℕ) → Result (Source A) ListFault → Type 0
OpensSource how had (Ok source) = (bytes : List ℕ) × ((left : Option (List ℕ)) × ReadsLog had left bytes) × IsOpened how bytes source
OpensSource how had (Err (Unread fault)) = (bytes : List ℕ) × ((left : Option (List ℕ)) × ReadsLog had left bytes) × (source_refusal bytes ≡ Some fault)
OpensSource how had (Err (Run Write)) = ⊥
OpensSource how had (Err (Run fault)) = ⊤
OpensSource how had (Err (EndsEarly fault)) = ⊥

-- what is above the n-th log: of the first the line above all others
abbrev pub above : Form → ℕ → Bool → List ℕ → List ℕ
above form n gtids heading = if n == 0 then header_of form gtids heading else []

-- what comes of listing the n-th log: it was read and is listed and counted; or it was read, and a beginning of that is written; or
-- nothing is written, and of what was read nothing can be read for a list, if that is the fault
abbrev pub ListsOne : {R : Type 0} → (R → Option (List ℕ)) → Form → TimeZone → Bool → List ℕ → Listing → ℕ → GivenLog R → Totals → Totals → Option (List ℕ) → Option (List ℕ) → Result (Option SumFault) ListFault → Type 0
ListsOne known form zone gtids heading l n given old new had has (Ok end) =
    (log : NamedLog) × IsRead known given log × (end ≡ end_of l n log) × CountsLog old new (list_of l n log)
    × ((text : List ℕ) × IsLogText form zone gtids (length heading) (list_of l n log) text × Appends had has (above form n gtids heading ++ text))
ListsOne known form zone gtids heading l n given old new had has (Err (Run fault)) =
    (has ≡ had) ⊎ ((log : NamedLog) × IsRead known given log
    × ((text : List ℕ) × IsLogBegun form zone gtids (length heading) (list_of l n log) text × AppendsBeginning had has (above form n gtids heading ++ text)))
ListsOne known form zone gtids heading l n given old new had has (Err (Unread fault)) =
    (has ≡ had) × ((log : NamedLog) × IsRead known given log × (source_refusal log.bytes ≡ Some fault))
ListsOne known form zone gtids heading l n given old new had has (Err (EndsEarly fault)) = ⊥

-- what comes of listing the log of a source, the n-th, under this name
abbrev pub ListsSource : {A : Type 0} → Form → TimeZone → Bool → List ℕ → Source A → Option (List ℕ) → Listing → ℕ → Totals → Totals → Option (List ℕ) → Option (List ℕ) → Result (Option SumFault) RunFault → Type 0
ListsSource form zone gtids heading source name l n old new had has (Ok end) =
    (end ≡ end_listed source (wanted_of l n)) × CountsLog old new (listed name l.sorting source (wanted_of l n))
    × ((text : List ℕ) × IsLogText form zone gtids (length heading) (listed name l.sorting source (wanted_of l n)) text × Appends had has (above form n gtids heading ++ text))
ListsSource form zone gtids heading source name l n old new had has (Err fault) =
    (text : List ℕ) × IsLogBegun form zone gtids (length heading) (listed name l.sorting source (wanted_of l n)) text × AppendsBeginning had has (above form n gtids heading ++ text)
