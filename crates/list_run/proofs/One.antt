-- What comes of one log of a list, by its parts.
use Rattle.std.proofs.Common.{◌≡◌, ℕ, Bool, List, [], ◌∷◌, ◌++◌, length, map, Option, Some, None, Ok, Err, Result, refl, sym, ap, ap₂, subst, ◌∙◌, append-nil, inl, inr}
use Rattle.std.specs.Prelude.{OnErr, OnOk, IfOk, option_map}
use Rattle.std.specs.Io.KnownBytes.{Appends}
use Rattle.std.proofs.KnownBytes.{Appends-trans}
use Rattle.jiff.specs.Types.{TimeZone}
use Rattle.blog_device.specs.Devices.{AppendsBeginning, ReadsLog}
use Rattle.blog_device.specs.Watched.{device_of}
use Rattle.blog_device.specs.declared.fault.RunFault.{RunFault}
use Rattle.blog_device.specs.declared.fault.RunFault.TheVariants.{Log, Read, Write}
use Rattle.blog_list.specs.declared.listing.Form.{Form}
use Rattle.blog_list.specs.Lines.{LogList}
use Rattle.blog_list.specs.Lists.{list_end}
use Rattle.blog_list.specs.Shown.{last_whole, log_list}
use Rattle.blog_list.specs.Texts.{AppendsLog, AppendsLogBeginning, IsLogBegun, IsLogText}
use Rattle.blog_list.specs.declared.totals.Totals.{Totals}
use Rattle.blog_list.specs.code.Told.{end_listed, inside, listed}
use Rattle.blog_list.specs.code.Totals.{CountsLog}
use Rattle.blog_request.specs.declared.wanted.Wanted.{Wanted}
use Rattle.blog_source.specs.Found.{found_of}
use Rattle.blog_source.specs.Handed.{handed_log}
use Rattle.blog_source.specs.Places.{place_of, position_of}
use Rattle.blog_source.specs.code.SourceView.{damaged_of, end_of as read_end, fault_of, log_of}
use Rattle.blog_source.specs.declared.source.Source.{Source}
use Rattle.blog_sum.specs.declared.fault.SumFault.{SumFault}
use Rattle.blog_units.specs.Units.{facts_of, units}
use Rattle.list_run.specs.Listed.{Listing, NamedLog, end_of, list_of, name_shown, wanted_of}
use Rattle.list_run.specs.code.Turns.{IsOpened, ListsOne, ListsSource, OpensSource, above}
use Rattle.list_run.specs.declared.fault.ListFault.{ListFault}
use Rattle.list_run.specs.declared.fault.ListFault.TheVariants.{Run, Unread, EndsEarly}
use Rattle.list_run.specs.declared.given.GivenLog.{GivenLog}
use Rattle.blog_list.specs.declared.listing.Sorting.{Sorting}
use Rattle.list_run.proofs.Going.{behind}

-- what is listed of a source is what is listed of the bytes that it was opened from
pub listed-is : {A : Type 0} (l : Listing) (n : ℕ) (log : NamedLog) (source : Source A) (name : Option (List ℕ)) → IsOpened l.how log.bytes source → name ≡ name_shown l.count log.name
    → listed name l.sorting source (wanted_of l n) ≡ list_of l n log
listed-is l n log source name o named =
    ap (λ (shown : Option (List ℕ)). log_list shown l.sorting (inside (log_of source) (wanted_of l n)) (log_of source) (place_of (log_of source) (read_end source)) (damaged_of source)) named
    ∙ ap (λ (handed : List ℕ). log_list (name_shown l.count log.name) l.sorting (inside handed (wanted_of l n)) handed (place_of handed (read_end source)) (damaged_of source)) o.log
    ∙ ap (λ (at : ℕ). log_list (name_shown l.count log.name) l.sorting (inside (handed_log l.how log.bytes) (wanted_of l n)) (handed_log l.how log.bytes) (place_of (handed_log l.how log.bytes) at) (damaged_of source)) o.end
    ∙ ap (λ (count : ℕ). log_list (name_shown l.count log.name) l.sorting (inside (handed_log l.how log.bytes) (wanted_of l n)) (handed_log l.how log.bytes) (place_of (handed_log l.how log.bytes) (found_of l.how log.bytes).end) count) o.damaged

pub end-is : {A : Type 0} (l : Listing) (n : ℕ) (log : NamedLog) (source : Source A) → IsOpened l.how log.bytes source → end_listed source (wanted_of l n) ≡ end_of l n log
end-is l n log source o =
    ap (λ (fault : Option SumFault). list_end fault (read_end source) (wanted_of l n).stop
    (last_whole (option_map (position_of (log_of source)) (wanted_of l n).stop) (map facts_of (units (log_of source))))) o.fault
    ∙ ap (λ (at : ℕ). list_end (found_of l.how log.bytes).fault at (wanted_of l n).stop
    (last_whole (option_map (position_of (log_of source)) (wanted_of l n).stop) (map facts_of (units (log_of source))))) o.end
    ∙ ap (λ (handed : List ℕ). list_end (found_of l.how log.bytes).fault (found_of l.how log.bytes).end (wanted_of l n).stop
    (last_whole (option_map (position_of handed) (wanted_of l n).stop) (map facts_of (units handed)))) o.log

-- the log of a source is listed below what is above it
source-listed : {A : Type 0} (form : Form) (zone : TimeZone) (gtids : Bool) (heading : List ℕ) (source : Source A) (name : Option (List ℕ)) (l : Listing) (n : ℕ) (old new : Totals)
    (had mid has : Option (List ℕ)) (result : Result (Option SumFault) RunFault) → Appends had mid (above form n gtids heading)
    → OnOk result (AppendsLog form zone gtids (length heading) (listed name l.sorting source (wanted_of l n)) mid has)
    → OnErr result (AppendsLogBeginning form zone gtids (length heading) (listed name l.sorting source (wanted_of l n)) mid has)
    → OnOk result (CountsLog old new (listed name l.sorting source (wanted_of l n))) → IfOk result (λ end. end ≡ end_listed source (wanted_of l n))
    → ListsSource form zone gtids heading source name l n old new had has result
source-listed form zone gtids heading source name l n old new had mid has (Ok end) front (text, is, appended) begun counted ends =
    (ends, counted, (text, is, Appends-trans had mid has (above form n gtids heading) text front appended))
source-listed form zone gtids heading source name l n old new had mid has (Err fault) front whole (text, is, begun) counted ends =
    (text, is, behind had mid has (above form n gtids heading) text front begun)

pub source-given : {A : Type 0} (form : Form) (zone : TimeZone) (gtids : Bool) (sorting : Sorting) (heading : List ℕ) (source : Source A) (name : Option (List ℕ)) (l : Listing) (n : ℕ) (w : Wanted) (old new : Totals)
    (had mid has : Option (List ℕ)) (result : Result (Option SumFault) RunFault) → sorting ≡ l.sorting → w ≡ wanted_of l n → Appends had mid (above form n gtids heading)
    → OnOk result (AppendsLog form zone gtids (length heading) (listed name sorting source w) mid has) → OnErr result (AppendsLogBeginning form zone gtids (length heading) (listed name sorting source w) mid has)
    → OnOk result (CountsLog old new (listed name sorting source w)) → IfOk result (λ end. end ≡ end_listed source w) → ListsSource form zone gtids heading source name l n old new had has result
source-given form zone gtids sorting heading source name l n w old new had mid has result sorted same front whole begun counted ends =
    let list = ap₂ (λ (s : Sorting) (v : Wanted). listed name s source v) sorted same in
    source-listed form zone gtids heading source name l n old new had mid has result front
    (subst (λ (x : LogList). OnOk result (AppendsLog form zone gtids (length heading) x mid has)) list whole)
    (subst (λ (x : LogList). OnErr result (AppendsLogBeginning form zone gtids (length heading) x mid has)) list begun)
    (subst (λ (x : LogList). OnOk result (CountsLog old new x)) list counted)
    (subst (λ (v : Wanted). IfOk result (λ end. end ≡ end_listed source v)) same ends)

-- what is above it is not written whole
pub source-unlisted : {A : Type 0} (form : Form) (zone : TimeZone) (gtids : Bool) (heading : List ℕ) (source : Source A) (name : Option (List ℕ)) (l : Listing) (n : ℕ) (old new : Totals)
    (had has : Option (List ℕ)) (fault : RunFault) → AppendsBeginning had has (above form n gtids heading) → ListsSource form zone gtids heading source name l n old new had has (Err fault)
source-unlisted form zone gtids heading source name l n old new had has fault begun =
    ([], inl refl, subst (λ (bytes : List ℕ). AppendsBeginning had has bytes) (sym (append-nil (above form n gtids heading))) begun)

-- a log that was read is listed, as its source is
pub one-listed : {R A : Type 0} (known : R → Option (List ℕ)) (form : Form) (zone : TimeZone) (gtids : Bool) (heading : List ℕ) (l : Listing) (n : ℕ) (given : GivenLog R) (source : Source A)
    (name : Option (List ℕ)) (old new : Totals) (had has : Option (List ℕ)) (end : Option SumFault) → OpensSource l.how (known (device_of given.reader)) (Ok source)
    → name ≡ name_shown l.count given.name.now → ListsSource form zone gtids heading source name l n old new had has (Ok end)
    → ListsOne known form zone gtids heading l n given old new had has (Ok end)
one-listed known form zone gtids heading l n given source name old new had has end (bytes, read, opened) named (ends, counts, (text, is, appended)) =
    let log : NamedLog = record { name = given.name.now; bytes = bytes } in
    let same : listed name l.sorting source (wanted_of l n) ≡ list_of l n log = listed-is l n log source name opened named in (
      log,
      (refl, read),
      ends ∙ end-is l n log source opened,
      subst (λ (x : LogList). CountsLog old new x) same counts,
      (text, subst (λ (x : LogList). IsLogText form zone gtids (length heading) x text) same is, appended),
    )

pub one-begun : {R A : Type 0} (known : R → Option (List ℕ)) (form : Form) (zone : TimeZone) (gtids : Bool) (heading : List ℕ) (l : Listing) (n : ℕ) (given : GivenLog R) (source : Source A)
    (name : Option (List ℕ)) (old new : Totals) (had has : Option (List ℕ)) (fault : RunFault) → OpensSource l.how (known (device_of given.reader)) (Ok source)
    → name ≡ name_shown l.count given.name.now → ListsSource form zone gtids heading source name l n old new had has (Err fault)
    → ListsOne known form zone gtids heading l n given old new had has (Err (Run fault))
one-begun known form zone gtids heading l n given source name old new had has fault (bytes, read, opened) named (text, is, begun) =
    let log : NamedLog = record { name = given.name.now; bytes = bytes } in
    inr (log, (refl, read), (text, subst (λ (x : LogList). IsLogBegun form zone gtids (length heading) x text) (listed-is l n log source name opened named) is, begun))

-- nothing is written of a log that can't be opened
pub one-unopened : {R : Type 0} (A : Type 0) (known : R → Option (List ℕ)) (form : Form) (zone : TimeZone) (gtids : Bool) (heading : List ℕ) (l : Listing) (n : ℕ) (given : GivenLog R) (old new : Totals)
    (had : Option (List ℕ)) (fault : ListFault) → OpensSource {A = A} l.how (known (device_of given.reader)) (Err fault)
    → ListsOne known form zone gtids heading l n given old new had had (Err fault)
one-unopened A known form zone gtids heading l n given old new had (Run (Log f)) may = inl refl
one-unopened A known form zone gtids heading l n given old new had (Run Read) may = inl refl
one-unopened A known form zone gtids heading l n given old new had (Run Write) none = absurd none
one-unopened A known form zone gtids heading l n given old new had (Unread f) (bytes, read, refused) = (refl, (record { name = given.name.now; bytes = bytes }, (refl, read), refused))
one-unopened A known form zone gtids heading l n given old new had (EndsEarly f) none = absurd none

-- the same, by the form and the zone of a style and by whether it has ids
pub of-style : {R : Type 0} (known : R → Option (List ℕ)) (form own_form : Form) (zone own_zone : TimeZone) (gtids own_gtids : Bool) (heading : List ℕ) (l : Listing) (n : ℕ) (given : GivenLog R)
    (old new : Totals) (had has : Option (List ℕ)) (result : Result (Option SumFault) ListFault) → own_form ≡ form → own_zone ≡ zone → own_gtids ≡ gtids
    → ListsOne known own_form own_zone own_gtids heading l n given old new had has result → ListsOne known form zone gtids heading l n given old new had has result
of-style known form own_form zone own_zone gtids own_gtids heading l n given old new had has result same-form same-zone same-gtids lists =
    subst (λ (f : Form). ListsOne known f zone gtids heading l n given old new had has result) same-form
    (subst (λ (z : TimeZone). ListsOne known own_form z gtids heading l n given old new had has result) same-zone
    (subst (λ (ids : Bool). ListsOne known own_form own_zone ids heading l n given old new had has result) same-gtids lists))
