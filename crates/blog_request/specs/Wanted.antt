-- Which units of a log are wanted.
use Rattle.std.specs.Prelude.{ℕ, ◌==◌, ◌&&◌, ◌||◌, Bool, true, false, map, nat_le, nat_lt, if◌then◌else◌, List, Option, Result, Ok, Err}
use Rattle.std.specs.Option.{option_map_or}
use Rattle.std.specs.List.{list_any}
use Rattle.blog_event.specs.declared.fault.Fault.{Fault}
use Rattle.blog_event.specs.declared.fault.Fault.TheVariants.{Statement}
use Rattle.blog_trans.specs.declared.groups.Index.{Index}
use Rattle.blog_trans.specs.Changes.{TableCount, counts_of}
use Rattle.blog_trans.specs.Groups.{groups}
use Rattle.blog_trans.specs.code.IndexView.{index_bytes, index_selection}
use Rattle.blog_units.specs.Units.{Facts}
use Rattle.blog_choice.specs.Choice.{Choice, chooses, chooses_all, is_nil}
use Rattle.blog_choice.specs.code.Views.{choice_value}
use Rattle.blog_request.specs.Ids.{is_of_ids}
use Rattle.blog_request.specs.code.IdsView.{ids_value}
use Rattle.blog_request.specs.Passing.{is_passed_over, unit_events}
use Rattle.blog_request.specs.declared.wanted.Concern.{Concern}
use Rattle.blog_request.specs.declared.wanted.Concern.TheVariants.{Wanted as IsWanted, PassedOver, Other}
use Rattle.blog_request.specs.declared.wanted.Wanted.{Wanted}

-- a number isn't below the least one, where there is one
abbrev pub is_from : ℕ → Option ℕ → Bool
is_from n least = option_map_or (λ least. nat_le least n) least true

-- a number is below the first one that is too great, where there is one
abbrev pub is_before : ℕ → Option ℕ → Bool
is_before n bound = option_map_or (λ bound. nat_lt n bound) bound true

-- a thread is one of those that are asked for, or none is
abbrev pub is_of_threads : List ℕ → Option ℕ → Bool
is_of_threads threads thread = is_nil threads || option_map_or (λ thread. list_any (λ n. n == thread) threads) thread false

-- the rows that a unit changes, by table, or why it is refused
abbrev pub changes_told : {A : Type 0} → Result (Index A) Fault → Result (List TableCount) Fault
changes_told (Ok index) = Ok (counts_of (groups (index_bytes index) (index_selection index)))
changes_told (Err fault) = Err fault

-- a chosen table is among those that have changed rows
abbrev pub has_chosen : Choice → List TableCount → Bool
has_chosen choice counts = list_any (λ c. chooses choice c.table.schema c.table.name) counts

-- a unit with these facts starts within the wanted positions, and is of the wanted times, threads and ids
abbrev pub is_in_range : Wanted → Facts → Bool
is_in_range w u =
    ((((is_from u.start w.start && is_before u.start w.stop) && is_from u.time w.from_time) && is_before u.time w.to_time) && is_of_threads w.threads.now u.thread)
    && is_of_ids (map ids_value w.gtids.now) u.id

-- by its tables: it changes a chosen one; it is refused for a statement, and passed over; or it is refused, and may change one
abbrev pub by_tables : Choice → List ℕ → Facts → Result (List TableCount) Fault → Concern
by_tables choice log u (Ok counts) = if has_chosen choice counts then IsWanted else Other
by_tables choice log u (Err (Statement pos)) = if is_passed_over choice (unit_events log u.start u.stop) then PassedOver else IsWanted
by_tables choice log u (Err fault) = IsWanted

-- whether a unit of a log with these facts and changes is wanted
abbrev pub concern_of : Wanted → List ℕ → Facts → Result (List TableCount) Fault → Concern
concern_of w log u changes =
    if is_in_range w u then (if chooses_all (choice_value w.choice) then IsWanted else by_tables (choice_value w.choice) log u changes) else Other

abbrev pub is_wanted : Concern → Bool
is_wanted IsWanted = true
is_wanted PassedOver = false
is_wanted Other = false

abbrev pub is_wanted_unit : Wanted → List ℕ → Facts → Result (List TableCount) Fault → Bool
is_wanted_unit w log u changes = is_wanted (concern_of w log u changes)
