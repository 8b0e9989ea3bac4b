-- What a run is asked to do, by the values of the options.
use Rattle.std.specs.Prelude.{◌≡◌, ◌⊎◌, ◌&&◌, ◌||◌, ◌≤◌, ℕ, Bool, true, false, not, if◌then◌else◌, List, [], length, drop, nat_lt, ⊤, IsSome, is_some, map, ◌∷◌, Option, Some, None, Result, Ok, Err, codes, option_map, slice_get, string_bytes, unwrap_or, String}
use Rattle.std.specs.Option.{option_map_or, option_or}
use Rattle.std.specs.List.{AllByRecursion}
use Rattle.std.specs.Str.{bytes_eq}
use Rattle.clap.specs.Words.{first_value, kind_of, matched_of, one_text, raw_values, rows_of, subcommand_name_of, subcommand_rows_of}
use Rattle.clap.specs.declared.error.Error.{Error}
use Rattle.clap.specs.declared.parser.matches.ArgMatches.{ArgMatches}
use Rattle.clap.specs.declared.parser.matches.Found.{Found}
use Rattle.std.specs.Str.Parse.{digits_value}
use Rattle.console.specs.Positions.{IsPosition, IsPositionOf, IsWrongPosition}
use Rattle.console.specs.Told.{AsksForText}
use Rattle.blog_list.specs.declared.listing.Form.{Form}
use Rattle.blog_list.specs.declared.listing.Form.TheVariants as form
use Rattle.blog_list.specs.declared.listing.Sorting.{Sorting}
use Rattle.blog_list.specs.declared.listing.Sorting.TheVariants.{Place, Rows}
use Rattle.blog_list.specs.declared.times.Side.{Side}
use Rattle.blog_list.specs.declared.times.Side.TheVariants.{Start, Stop}
use Rattle.blog_list.specs.Times.{IsRead as IsReadTime}
use Rattle.jiff.specs.Types.{TimeZone}
use Rattle.blog_choice.specs.Choice.{is_nil, read_name}
use Rattle.blog_choice.specs.code.Views.{choice_value, name_value}
use Rattle.blog_request.specs.Ids.{read_ids}
use Rattle.blog_request.specs.code.IdsView.{ids_value}
use Rattle.blog_request.specs.declared.ids.GlobalIds.{GlobalIds}
use Rattle.blog_request.specs.declared.wanted.Wanted.{Wanted}
use Rattle.blog_sql.specs.Changed.{HasShortNames, HaveShortNames, read_renamed}
use Rattle.blog_sql.specs.code.Views.{renamed_value}
use Rattle.blog_sql.specs.declared.options.Renamed.{Renamed}
use Rattle.blog_row.specs.declared.order.Order.TheVariants.{Forward, Backward}
use Rattle.blog_run.specs.Writing.{HasShortWriting}
use Rattle.blog_run.specs.declared.writing.Writing.{Writing}
use Rattle.blog_sql.specs.declared.options.SqlOptions.{SqlOptions}
use Rattle.binlog_arguments.specs.Zones.{HasName, IsZoneOf}
use Rattle.binlog_arguments.specs.declared.zones.Zone.{Zone}
use Rattle.binlog_arguments.specs.declared.zones.Zone.TheVariants.{Utc}
use Rattle.binlog_arguments.specs.declared.arguments.Asked.{Asked}
use Rattle.binlog_arguments.specs.declared.arguments.Asked.TheVariants.{Text, NewLog, List as OfList, Show, Report, Sql, Part}
use Rattle.binlog_arguments.specs.declared.list_arguments.ListTask.{ListTask}
use Rattle.binlog_arguments.specs.declared.report_arguments.ReportTask.{ReportTask}
use Rattle.binlog_arguments.specs.declared.show_arguments.ShowTask.{ShowTask}
use Rattle.binlog_arguments.specs.declared.sql_arguments.SqlTask.{SqlTask}
use Rattle.binlog_arguments.specs.declared.undo_arguments.PartTask.{PartTask}
use Rattle.binlog_arguments.specs.declared.unit_choice.UnitChoice.{UnitChoice}
use Rattle.blog_choice.specs.Choice.{Name}
use Rattle.blog_trans.specs.Selection.{Selection, selection_of}
use Rattle.blog_row.specs.declared.order.Order.{Order}
use Rattle.binlog_arguments.specs.declared.arguments.NewLogTask.{NewLogTask}
use Rattle.binlog_arguments.specs.declared.arguments.Making.{Making}
use Rattle.binlog_arguments.specs.declared.arguments.Making.TheVariants.{Plain, Changes}
use Rattle.binlog_arguments.specs.declared.arguments.ArgumentsFault.{ArgumentsFault}
use Rattle.binlog_arguments.specs.declared.arguments.ArgumentsFault.TheVariants.{Wrong, NotText, OutOfMemory}

-- a flag is among the arguments
abbrev pub is_given : Found → List ℕ → Bool
is_given found flag = option_map_or (λ text. bytes_eq text (codes "true")) (one_text found flag) false

-- each part of the task is the value of its option
pub record IsNewLogTask (found : Found) (task : NewLogTask) : Type 0 where
  pub log : task.log.now ≡ unwrap_or (first_value found (codes "LOG")) []
  pub result_file : option_map (λ path. path.now) task.result_file ≡ first_value found (codes "result-file")
  pub force : task.force ≡ is_given found (codes "force")

-- how many bytes a statement may have: decimal digits and nothing else, at least 1,024 and below 2^32
abbrev pub IsSize : List ℕ → Type 0
IsSize value = IsPosition value × (1024 ≤ digits_value 10 value)

-- the number of bytes that an option's value means, and 8,000,000 where it has no value
abbrev pub IsSizeOf : Option (List ℕ) → ℕ → Type 0
IsSizeOf None size = size ≡ 8000000
IsSizeOf (Some value) size = IsSize value × (size ≡ digits_value 10 value)

-- an option's value means no such number
abbrev pub IsWrongSize : Option (List ℕ) → Type 0
IsWrongSize None = ⊥
IsWrongSize (Some value) = ¬ (IsSize value)

-- of the values behind this command, which the parser found
abbrev pub IsBehind : List ℕ → ArgMatches → (Found → Type 0) → Type 0
IsBehind name matches P = (subcommand_name_of matches ≡ Some name)
    × ((found : Found) × (option_map (λ part. part.1) (subcommand_rows_of matches) ≡ Some (rows_of found)) × P found)

-- a plain log, by the values behind the command `plain`
abbrev pub IsPlainTask : NewLogTask → Found → Type 0
IsPlainTask task found = IsNewLogTask found task × (task.making ≡ Plain)

-- changes as they are in a log, as a log of statements of at most so many bytes
abbrev pub as_log : ℕ → Writing
as_log size = record { order = Forward; limit = size; sql = None }

-- a log with its statements cut, by the values behind the command `split`
abbrev pub IsSplitTask : NewLogTask → Found → Type 0
IsSplitTask task found = IsNewLogTask found task × ((size : ℕ) × IsSizeOf (first_value found (codes "size")) size × (task.making ≡ Changes (as_log size)))

-- the new log is that of the command `plain` or `split`, whichever the parser found, by the values behind it
abbrev pub IsNewLogOf : ArgMatches → NewLogTask → Type 0
IsNewLogOf matches task = IsBehind (codes "plain") matches (IsPlainTask task) ⊎ IsBehind (codes "split") matches (IsSplitTask task)

-- the time that an option's value means in a zone, and none where it has no value
abbrev pub IsTimeOf : TimeZone → Side → Option (List ℕ) → Option ℕ → Type 0
IsTimeOf zone side None time = time ≡ None
IsTimeOf zone side (Some value) time = (seconds : ℕ) × (time ≡ Some seconds) × IsReadTime zone side value (Ok seconds)

-- UTC where `--utc` is given, and else the zone that has the name, where one is given
abbrev pub IsZoneNamed : Bool → Option (List ℕ) → Zone → Type 0
IsZoneNamed true name zone = zone ≡ Utc
IsZoneNamed false (Some name) zone = HasName name zone
IsZoneNamed false None zone = ⊤

abbrev pub IsZoneAsked : Found → Zone → Type 0
IsZoneAsked found zone = IsZoneNamed (is_given found (codes "utc")) (first_value found (codes "time-zone")) zone

-- the range of times that is asked for, in a zone
abbrev pub AreTimes : Found → Option ℕ → Option ℕ → TimeZone → Type 0
AreTimes found from to zone = IsTimeOf zone Start (first_value found (codes "start-datetime")) from
    × IsTimeOf zone Stop (first_value found (codes "stop-datetime")) to

abbrev pub form_of : Bool → Form
form_of true = form.Json
form_of false = form.Text

-- by rows where that is the value of an option, and else in the order of the log
abbrev pub sorting_of : Option (List ℕ) → Sorting
sorting_of None = Place
sorting_of (Some order) = if bytes_eq order (codes "rows") then Rows else Place

-- the values of an option, in order
abbrev pub all_values : Found → List ℕ → List (List ℕ)
all_values found name = option_map_or raw_values (matched_of found name) []

-- the numbers that values mean, each of which means one
abbrev pub AreNumbers : List (List ℕ) → List ℕ → Type 0
AreNumbers values numbers = AllByRecursion IsPosition values × (numbers ≡ map (digits_value 10) values)

-- the global transaction ids that values mean, each of which means some
abbrev pub AreIds : List (List ℕ) → List GlobalIds → Type 0
AreIds values gtids = map (λ ids. Some (ids_value ids)) gtids ≡ map read_ids values

-- each part of the list is the value of its option, or are its values
pub record IsListTask {A : Type 0} (found : Found) (task : ListTask A) : Type 0 where
  pub logs : map (λ path. path.now) task.logs.items ≡ all_values found (codes "LOG")
  pub form : task.form ≡ form_of (is_given found (codes "json"))
  pub show_gtids : task.show_gtids ≡ is_given found (codes "show-gtid")
  pub sorting : task.sorting ≡ sorting_of (first_value found (codes "sort"))
  pub reading : task.reading ≡ record { stop = None; skip_damaged = is_given found (codes "skip-damaged") }
  pub start : IsPositionOf (first_value found (codes "start-position")) task.start
  pub stop : IsPositionOf (first_value found (codes "stop-position")) task.stop
  pub zone : IsZoneAsked found task.zone
  pub times : (zone : TimeZone) × IsZoneOf task.zone zone × AreTimes found task.from_time task.to_time zone
  pub threads : AreNumbers (all_values found (codes "thread")) task.threads.items
  pub gtids : AreIds (all_values found (codes "gtid")) task.gtids.items
  pub database : option_map (λ name. name.now) task.database ≡ first_value found (codes "database")
  pub tables : map name_value task.tables.items ≡ map read_name (all_values found (codes "table"))
  pub excluded : map name_value task.excluded.items ≡ map read_name (all_values found (codes "exclude-table"))

-- which units a task wants
pub record HasTask {A : Type 0} (task : ListTask A) (wanted : Wanted) : Type 0 where
  pub start : wanted.start ≡ task.start
  pub stop : wanted.stop ≡ task.stop
  pub from_time : wanted.from_time ≡ task.from_time
  pub to_time : wanted.to_time ≡ task.to_time
  pub threads : wanted.threads.now ≡ task.threads.items
  pub gtids : wanted.gtids.now ≡ task.gtids.items
  pub database : (choice_value wanted.choice).database ≡ option_map (λ name. name.now) task.database
  pub tables : (choice_value wanted.choice).tables ≡ map name_value task.tables.items
  pub excluded : (choice_value wanted.choice).excluded ≡ map name_value task.excluded.items

-- the rows of units that are listed so: each part is the value of its option, or are its values
pub record IsShowTask {A : Type 0} (found : Found) (task : ShowTask A) : Type 0 where
  pub units : IsListTask found task.units
  pub at : AreNumbers (all_values found (codes "at")) task.at.items
  pub all_columns : task.all_columns ≡ is_given found (codes "all-columns")
  pub width : (width : Option ℕ) × IsPositionOf (first_value found (codes "width")) width × (task.width ≡ unwrap_or width 60)
  pub as_csv : task.as_csv ≡ is_given found (codes "csv")

-- a report of units that are listed so
pub record IsReportTask {A : Type 0} (found : Found) (task : ReportTask A) : Type 0 where
  pub units : IsListTask found task.units
  pub interval : IsPositionOf (first_value found (codes "interval")) task.interval
  pub as_text : task.as_text ≡ is_given found (codes "text")
  pub result_file : option_map (λ path. path.now) task.result_file ≡ first_value found (codes "result-file")
  pub force : task.force ≡ is_given found (codes "force")

-- ---- SQL

-- the schemas, each with another name, that values mean, each of which means one
abbrev pub AreSchemas : List (List ℕ) → List Renamed → Type 0
AreSchemas values schemas = map (λ pair. Some (renamed_value pair)) schemas ≡ map read_renamed values

-- each part of the SQL is the value of its option, or are its values
pub record IsSqlTask {A : Type 0} (found : Found) (task : SqlTask A) : Type 0 where
  pub log : task.log.now ≡ unwrap_or (first_value found (codes "LOG")) []
  pub result_file : option_map (λ path. path.now) task.result_file ≡ first_value found (codes "result-file")
  pub force : task.force ≡ is_given found (codes "force")
  pub size : IsSizeOf (first_value found (codes "size")) task.size
  pub each_transaction : task.each_transaction ≡ is_given found (codes "each-transaction")
  pub keep_times : task.keep_times ≡ is_given found (codes "keep-times")
  pub schemas : AreSchemas (all_values found (codes "rewrite-db")) task.schemas.items

-- how a task's log is printed at this time
pub record HasSqlOptions {A : Type 0} (task : SqlTask A) (now : ℕ) (how : SqlOptions) : Type 0 where
  pub each_transaction : how.each_transaction ≡ task.each_transaction
  pub time : how.time ≡ (if task.keep_times then None else Some now)
  pub schemas : how.schemas.now ≡ task.schemas.items

-- ---- a part of a log

-- the part from a start, 4 where none is given, to a stop, of all tables in a schema, or of the table of a name: in its schema, if it has
-- one, else in that one
abbrev pub part_of_name : ℕ → Option ℕ → Option (List ℕ) → Option Name → Selection
part_of_name start stop database None = record { start = start; stop = stop; database = database; table = None }
part_of_name start stop database (Some name) = record { start = start; stop = stop; database = option_or name.schema database; table = Some name.table }

abbrev pub IsPart : Found → Option ℕ → Option ℕ → Selection → Type 0
IsPart found start stop part =
    part ≡ part_of_name (unwrap_or start 4) stop (first_value found (codes "database")) (option_map read_name (first_value found (codes "table")))

-- what came later is looked at: by `undo`, unless it is told not to
abbrev pub looks_later : Found → Order → Bool
looks_later found Forward = false
looks_later found Backward = not (is_given found (codes "anyway"))

-- whether rows that were changed since are left as they are
abbrev pub leaves_rows : Found → Order → Bool
leaves_rows found Forward = false
leaves_rows found Backward = is_given found (codes "leave")

-- whether they are merged
abbrev pub merges_rows : Found → Order → Bool
merges_rows found Forward = false
merges_rows found Backward = is_given found (codes "merge")

-- the later logs, which `undo` alone has
abbrev pub later_paths : Found → Order → List (List ℕ)
later_paths found Forward = []
later_paths found Backward = all_values found (codes "later")

-- the positions, times, threads and global transaction ids of chosen transactions are the values of their options, times in a zone
pub record IsUnitChoice {A : Type 0} (found : Found) (zone : TimeZone) (choice : UnitChoice A) : Type 0 where
  pub at : AreNumbers (all_values found (codes "at")) choice.at.items
  pub times : AreTimes found choice.from_time choice.to_time zone
  pub threads : AreNumbers (all_values found (codes "thread")) choice.threads.items
  pub gtids : AreIds (all_values found (codes "gtid")) choice.gtids.items
  pub gtid_texts : map (λ text. text.now) choice.gtid_texts.items ≡ all_values found (codes "gtid")

-- one of them is given
abbrev pub chooses_units : {A : Type 0} → UnitChoice A → Bool
chooses_units choice = (((not (is_nil choice.at.items) || is_some choice.from_time) || is_some choice.to_time) || not (is_nil choice.threads.items)) || not (is_nil choice.gtids.items)

-- the chosen ones: those of these times, threads and ids, wherever they start and whichever tables they change
pub record HasChosen {A : Type 0} (choice : UnitChoice A) (wanted : Wanted) : Type 0 where
  pub start : wanted.start ≡ None
  pub stop : wanted.stop ≡ None
  pub from_time : wanted.from_time ≡ choice.from_time
  pub to_time : wanted.to_time ≡ choice.to_time
  pub threads : wanted.threads.now ≡ choice.threads.items
  pub gtids : wanted.gtids.now ≡ choice.gtids.items
  pub tables : choice_value wanted.choice ≡ record { database = None; tables = []; excluded = [] }

-- Which ones are chosen, each by itself; None where all of them are, and that isn't asked for.
abbrev pub HasUnits : {A : Type 0} → Bool → UnitChoice A → Option Wanted → Type 0
HasUnits each choice None = (each || chooses_units choice) ≡ false
HasUnits each choice (Some wanted) = ((each || chooses_units choice) ≡ true) × HasChosen choice wanted

-- several logs are given, and a place of one
abbrev pub has_place_of_several : Found → Bool
has_place_of_several found = not (is_nil (all_values found (codes "at"))) && nat_lt 1 (length (all_values found (codes "LOG")))

abbrev pub HasLogs : Found → Type 0
HasLogs found = has_place_of_several found ≡ false

-- each part of the task is the value of its option, or are its values; the further logs are all but the first
pub record IsPartTask {A : Type 0} (found : Found) (direction : Order) (task : PartTask A) : Type 0 where
  pub sql : IsSqlTask found task.sql
  pub further : map (λ path. path.now) task.further.items ≡ drop 1 (all_values found (codes "LOG"))
  pub logs : HasLogs found
  pub part : (start stop : Option ℕ) × IsPositionOf (first_value found (codes "start-position")) start
      × IsPositionOf (first_value found (codes "stop-position")) stop × IsPart found start stop (selection_of task.part)
  pub order : task.order ≡ direction
  pub as_log : task.as_log ≡ is_given found (codes "binlog")
  pub dry_run : task.dry_run ≡ (is_given found (codes "dry-run") || is_given found (codes "show"))
  pub shows_rows : task.shows_rows ≡ is_given found (codes "show")
  pub looks : task.looks ≡ looks_later found direction
  pub leaves : task.leaves ≡ leaves_rows found direction
  pub merges : task.merges ≡ merges_rows found direction
  pub later : map (λ path. path.now) task.later.items ≡ later_paths found direction
  pub zone : IsZoneAsked found task.zone
  pub units : (zone : TimeZone) × IsZoneOf task.zone zone × IsUnitChoice found zone task.units

-- its changes are written as a log, or printed as SQL at this time
abbrev pub HasForm : {A : Type 0} → PartTask A → ℕ → Option SqlOptions → Type 0
HasForm task now None = task.as_log ≡ true
HasForm task now (Some how) = (task.as_log ≡ false) × HasSqlOptions task.sql now how

-- how they are written
abbrev pub HasPartWriting : {A : Type 0} → PartTask A → ℕ → Writing → Type 0
HasPartWriting task now w = (w.order ≡ task.order) × (w.limit ≡ task.sql.size) × HasForm task now w.sql

-- ---- refusals

-- why an option has no position: its value means none, or memory was refused
abbrev pub RefusesPosition : {A : Type 0} → Option (List ℕ) → ArgumentsFault A → Type 0
RefusesPosition value (Wrong text) = IsWrongPosition value
RefusesPosition value NotText = ⊥
RefusesPosition value OutOfMemory = ⊤

-- why an option has no number of bytes: its value means none, or memory was refused
abbrev pub RefusesSize : {A : Type 0} → Option (List ℕ) → ArgumentsFault A → Type 0
RefusesSize value (Wrong text) = IsWrongSize value
RefusesSize value NotText = ⊥
RefusesSize value OutOfMemory = ⊤

-- one of these values means no number
abbrev pub HasWrongNumber : List (List ℕ) → Type 0
HasWrongNumber values = (n : ℕ) × (value : List ℕ) × (slice_get values n ≡ Some value) × IsWrongPosition (Some value)

-- the arguments are wrong
abbrev pub IsWrong : {A : Type 0} → ArgumentsFault A → Type 0
IsWrong (Wrong text) = ⊤
IsWrong NotText = ⊥
IsWrong OutOfMemory = ⊥

-- why an option has no numbers: one of its values means none, or memory was refused
abbrev pub RefusesNumbers : {A : Type 0} → List (List ℕ) → ArgumentsFault A → Type 0
RefusesNumbers values (Wrong text) = HasWrongNumber values
RefusesNumbers values NotText = ⊥
RefusesNumbers values OutOfMemory = ⊤

-- one of these values means no two schemas
abbrev pub HasWrongSchemas : List (List ℕ) → Type 0
HasWrongSchemas values = (n : ℕ) × (value : List ℕ) × (slice_get values n ≡ Some value) × (read_renamed value ≡ None)

-- why an option has no schemas: one of its values means none, or memory was refused
abbrev pub RefusesSchemas : {A : Type 0} → List (List ℕ) → ArgumentsFault A → Type 0
RefusesSchemas values (Wrong text) = HasWrongSchemas values
RefusesSchemas values NotText = ⊥
RefusesSchemas values OutOfMemory = ⊤

-- one of these values means no global transaction ids
abbrev pub HasWrongIds : List (List ℕ) → Type 0
HasWrongIds values = (n : ℕ) × (value : List ℕ) × (slice_get values n ≡ Some value) × (read_ids value ≡ None)

-- why an option has no global transaction ids: one of its values means none, or memory was refused
abbrev pub RefusesIds : {A : Type 0} → List (List ℕ) → ArgumentsFault A → Type 0
RefusesIds values (Wrong text) = HasWrongIds values
RefusesIds values NotText = ⊥
RefusesIds values OutOfMemory = ⊤

-- the same of a time, or of the name of a zone
abbrev pub RefusesTime : {A : Type 0} → Option (List ℕ) → ArgumentsFault A → Type 0
RefusesTime value (Wrong text) = IsSome value
RefusesTime value NotText = ⊥
RefusesTime value OutOfMemory = ⊤

-- why a start and a stop aren't asked for, by position and by time
abbrev pub RefusesRange : {A : Type 0} → Found → ArgumentsFault A → Type 0
RefusesRange found fault = RefusesPosition (first_value found (codes "start-position")) fault ⊎ RefusesPosition (first_value found (codes "stop-position")) fault

abbrev pub RefusesTimes : {A : Type 0} → Found → ArgumentsFault A → Type 0
RefusesTimes found fault = RefusesTime (first_value found (codes "start-datetime")) fault ⊎ RefusesTime (first_value found (codes "stop-datetime")) fault

-- why no list is asked for: a position, a thread or a global transaction id is wrong, or a time or the name of a zone may be, or memory was
-- refused
abbrev pub RefusesList : {A : Type 0} → Found → ArgumentsFault A → Type 0
RefusesList found fault = RefusesTime (first_value found (codes "time-zone")) fault ⊎ RefusesRange found fault ⊎ RefusesTimes found fault
    ⊎ RefusesNumbers (all_values found (codes "thread")) fault ⊎ RefusesIds (all_values found (codes "gtid")) fault

-- why no rows are asked for: for such a reason, or a position or the width is wrong
abbrev pub RefusesShow : {A : Type 0} → Found → ArgumentsFault A → Type 0
RefusesShow found fault = RefusesList found fault ⊎ RefusesNumbers (all_values found (codes "at")) fault ⊎ RefusesPosition (first_value found (codes "width")) fault

-- why no report is asked for: for a reason for which no list is, or the interval is wrong
abbrev pub RefusesReport : {A : Type 0} → Found → ArgumentsFault A → Type 0
RefusesReport found fault = RefusesList found fault ⊎ RefusesPosition (first_value found (codes "interval")) fault

-- changes as they are in a log, as SQL
abbrev pub as_sql : ℕ → SqlOptions → Writing
as_sql size how = record { order = Forward; limit = size; sql = Some how }

-- why no log with its statements cut is asked for: the number of bytes behind the command `split` is wrong, or memory was refused
abbrev pub RefusesSplit : {A : Type 0} → ArgMatches → ArgumentsFault A → Type 0
RefusesSplit matches fault = IsBehind (codes "split") matches (λ found. RefusesSize (first_value found (codes "size")) fault)

-- why no SQL is asked for: the number of bytes or a pair of schemas is wrong, or memory was refused
abbrev pub RefusesSql : {A : Type 0} → Found → ArgumentsFault A → Type 0
RefusesSql found fault = RefusesSize (first_value found (codes "size")) fault ⊎ RefusesSchemas (all_values found (codes "rewrite-db")) fault

-- why no transactions are chosen: a position, a thread or a global transaction id is wrong, or a time may be, or memory was refused
abbrev pub RefusesUnits : {A : Type 0} → Found → ArgumentsFault A → Type 0
RefusesUnits found fault = RefusesNumbers (all_values found (codes "at")) fault ⊎ RefusesTimes found fault
    ⊎ RefusesNumbers (all_values found (codes "thread")) fault ⊎ RefusesIds (all_values found (codes "gtid")) fault

-- why no logs are asked for: there are several, and a place of one, or memory was refused
abbrev pub RefusesLogs : {A : Type 0} → Found → ArgumentsFault A → Type 0
RefusesLogs found (Wrong text) = has_place_of_several found ≡ true
RefusesLogs found NotText = ⊥
RefusesLogs found OutOfMemory = ⊤

-- why no part of a log is asked for: a position, the number of bytes or a pair of schemas is wrong, the name of a zone may be, no transactions
-- are chosen for such a reason, a place is given with several logs, or memory was refused
abbrev pub RefusesPart : {A : Type 0} → Found → ArgumentsFault A → Type 0
RefusesPart found fault = RefusesRange found fault ⊎ RefusesSql found fault
    ⊎ RefusesTime (first_value found (codes "time-zone")) fault ⊎ RefusesUnits found fault ⊎ RefusesLogs found fault

-- the parser found the command of this name
abbrev pub names : ArgMatches → List ℕ → Bool
names matches name = option_map_or (λ text. bytes_eq text name) (subcommand_name_of matches) false

-- it found no command, or another than these; and `list`, `show` and `report` count only if a list may be asked for, and `undo` and `redo` if a part
-- may
abbrev pub NamesNone : Bool → Bool → ArgMatches → Type 0
NamesNone lists parts matches = (names matches (codes "plain") ≡ false) × (names matches (codes "split") ≡ false) × (names matches (codes "sql") ≡ false)
    × ((names matches (codes "list") && lists) ≡ false) × ((names matches (codes "show") && lists) ≡ false)
    × ((names matches (codes "undo") && parts) ≡ false) × ((names matches (codes "redo") && parts) ≡ false) × ((names matches (codes "report") && lists) ≡ false)

-- why nothing is asked for without a command: that it is wrong, or memory was refused
abbrev pub RefusesCommand : {A : Type 0} → Bool → Bool → ArgMatches → ArgumentsFault A → Type 0
RefusesCommand lists parts matches (Wrong text) = NamesNone lists parts matches
RefusesCommand lists parts matches NotText = ⊥
RefusesCommand lists parts matches OutOfMemory = ⊤

-- the argument after the program's name is `list`, `show` or `report`
abbrev pub asks_for_list : {A : Type 0} → List (String A) → Bool
asks_for_list arguments =
    option_map_or (λ argument. (bytes_eq (string_bytes argument) (codes "list") || bytes_eq (string_bytes argument) (codes "show")) || bytes_eq (string_bytes argument) (codes "report")) (slice_get arguments 1) false

-- it is `undo` or `redo`
abbrev pub asks_for_part : {A : Type 0} → List (String A) → Bool
asks_for_part arguments =
    option_map_or (λ argument. bytes_eq (string_bytes argument) (codes "undo") || bytes_eq (string_bytes argument) (codes "redo")) (slice_get arguments 1) false

abbrev pub is_list : {A : Type 0} → Asked A → Bool
is_list (Text text) = false
is_list (NewLog task) = false
is_list (OfList task) = true
is_list (Show task) = true
is_list (Report task) = true
is_list (Sql task) = false
is_list (Part task) = false

abbrev pub is_part : {A : Type 0} → Asked A → Bool
is_part (Part task) = true
is_part _ = false

-- the new names of schemas are as short as names can be: those with which changes are written
abbrev pub HasShortMaking : Making → Type 0
HasShortMaking Plain = ⊤
HasShortMaking (Changes writing) = HasShortWriting writing

-- and those that are asked for
abbrev pub HasShortSchemas : {A : Type 0} → Asked A → Type 0
HasShortSchemas (NewLog task) = HasShortMaking task.making
HasShortSchemas (Sql task) = HaveShortNames task.schemas.items
HasShortSchemas (Part task) = HaveShortNames task.sql.schemas.items
HasShortSchemas asked = ⊤

-- what is asked for by the parser's answer: a task by what it found; a text where that is its answer; and else the arguments
-- are wrong or memory was refused
abbrev pub IsRead : {A : Type 0} → Bool → Bool → Result ArgMatches Error → Result (Asked A) (ArgumentsFault A) → Type 0
IsRead lists parts (Ok matches) (Ok (NewLog task)) = IsNewLogOf matches task
IsRead lists parts (Ok matches) (Ok (OfList task)) = IsBehind (codes "list") matches (λ found. IsListTask found task)
IsRead lists parts (Ok matches) (Ok (Show task)) = IsBehind (codes "show") matches (λ found. IsShowTask found task)
IsRead lists parts (Ok matches) (Ok (Report task)) = IsBehind (codes "report") matches (λ found. IsReportTask found task)
IsRead lists parts (Ok matches) (Ok (Sql task)) = IsBehind (codes "sql") matches (λ found. IsSqlTask found task)
IsRead lists parts (Ok matches) (Ok (Part task)) = IsBehind (codes "undo") matches (λ found. IsPartTask found Backward task)
    ⊎ IsBehind (codes "redo") matches (λ found. IsPartTask found Forward task)
IsRead lists parts (Ok matches) (Ok (Text text)) = ⊥
IsRead lists parts (Ok matches) (Err fault) = IsBehind (codes "list") matches (λ found. RefusesList found fault) ⊎ RefusesSplit matches fault
    ⊎ IsBehind (codes "sql") matches (λ found. RefusesSql found fault) ⊎ RefusesCommand lists parts matches fault ⊎ IsBehind (codes "undo") matches (λ found. RefusesPart found fault)
    ⊎ IsBehind (codes "redo") matches (λ found. RefusesPart found fault) ⊎ IsBehind (codes "show") matches (λ found. RefusesShow found fault)
    ⊎ IsBehind (codes "report") matches (λ found. RefusesReport found fault)
IsRead lists parts (Err error) (Ok (Text text)) = AsksForText (kind_of error)
IsRead lists parts (Err error) (Ok (NewLog task)) = ⊥
IsRead lists parts (Err error) (Ok (OfList task)) = ⊥
IsRead lists parts (Err error) (Ok (Show task)) = ⊥
IsRead lists parts (Err error) (Ok (Report task)) = ⊥
IsRead lists parts (Err error) (Ok (Sql task)) = ⊥
IsRead lists parts (Err error) (Ok (Part task)) = ⊥
IsRead lists parts (Err error) (Err (Wrong text)) = ¬ (AsksForText (kind_of error))
IsRead lists parts (Err error) (Err NotText) = ⊥
IsRead lists parts (Err error) (Err OutOfMemory) = ⊤
