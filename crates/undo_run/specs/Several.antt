-- Several logs of one server, each begun where the one before ended, read as one. A place in a further log is counted from the start of the
-- first, as if the server had written one file.
use Rattle.std.specs.Prelude.{◌≡◌, ◌⊎◌, ⊤, ℕ, ◌+◌, ◌-◌, nat_le, nat_lt, Bool, true, false, if◌then◌else◌, List, [], ◌∷◌, ◌++◌, length, min, Option, None, option_map}
use Rattle.blog_device.specs.Devices.{ReadsLog}
use Rattle.blog_source.specs.Appended.{appended, are_of_one_server, format_time, is_older}
use Rattle.blog_source.specs.Found.{found_of, source_refusal}
use Rattle.blog_source.specs.Handed.{handed_log}
use Rattle.blog_source.specs.declared.reading.Reading.{Reading}
use Rattle.blog_sum.specs.declared.fault.SumFault.{SumFault}
use Rattle.blog_trans.specs.Selection.{Selection}
use Rattle.list_run.specs.Listed.{AreRead, IsRead, NamedLog}
use Rattle.list_run.specs.declared.given.GivenLog.{GivenLog}

-- ---- their names

-- a further log: its number, from 1 on, the place at which it begins, and its name
pub record Begun : Type 0 where
  pub number : ℕ
  pub start : ℕ
  pub name : List ℕ

-- the name of the first, the further ones, and the place at which the last of all begins
pub record Names : Type 0 where
  pub first : List ℕ
  pub more : List Begun
  pub last : ℕ

abbrev pub one_name : List ℕ → Names
one_name name = record { first = name; more = []; last = 0 }

-- with that of one more, which begins at a place
abbrev pub with_name : Names → ℕ → List ℕ → Names
with_name names start name = record { first = names.first; more = names.more ++ record { number = length names.more + 1; start = start; name = name } ∷ []; last = start }

-- a place by the log in which it is: the number of this, from 0 on, its name, and the place from its own start
pub record Located : Type 0 where
  pub number : ℕ
  pub name : List ℕ
  pub at : ℕ

-- The log of a place is the last that begins at it or before it.
abbrev pub located_by : Located → Begun → ℕ → Located
located_by so_far b place = if nat_le b.start place then record { number = b.number; name = b.name; at = place - b.start } else so_far

abbrev pub located_among : Located → List Begun → ℕ → Located
located_among so_far [] place = so_far
located_among so_far (b ∷ bs) place = located_among (located_by so_far b place) bs place

abbrev pub located : Names → ℕ → Located
located names place = located_among (record { number = 0; name = names.first; at = place }) names.more place

-- ---- the logs as one

-- the names of logs; what is handed out for them; where they end; why the reading of the last ended, by its own places, if it ended too early;
-- and the time of the format description of the last
pub record Joined : Type 0 where
  pub names : Names
  pub handed : List ℕ
  pub end : ℕ
  pub fault : Option SumFault
  pub time : ℕ

-- a log is read up to a stop, or to its end
abbrev pub reading_to : Option ℕ → Reading
reading_to stop = record { stop = stop; skip_damaged = false }

abbrev pub alone : Option ℕ → NamedLog → Joined
alone stop log = record {
  names = one_name log.name;
  handed = handed_log (reading_to stop) log.bytes;
  end = (found_of (reading_to stop) log.bytes).end;
  fault = (found_of (reading_to stop) log.bytes).fault;
  time = format_time (handed_log (reading_to stop) log.bytes);
}

-- with one more
abbrev pub join : Option ℕ → Joined → NamedLog → Joined
join stop j log = record {
  names = with_name j.names j.end log.name;
  handed = appended j.handed j.end (handed_log (reading_to stop) log.bytes);
  end = j.end + (found_of (reading_to stop) log.bytes).end;
  fault = (found_of (reading_to stop) log.bytes).fault;
  time = format_time (handed_log (reading_to stop) log.bytes);
}

-- it can be read, those before it were read to their end, it is of the same server, and it isn't older than the one before it
pub record CanJoin (stop : Option ℕ) (j : Joined) (log : NamedLog) : Type 0 where
  pub opened : source_refusal log.bytes ≡ None
  pub whole : j.fault ≡ None
  pub alike : are_of_one_server j.handed (handed_log (reading_to stop) log.bytes) ≡ true
  pub ordered : is_older (handed_log (reading_to stop) log.bytes) j.time ≡ false

-- with more, each read to its end
abbrev pub joined_on : Joined → List NamedLog → Joined
joined_on j [] = j
joined_on j (log ∷ logs) = joined_on (join None j log) logs

abbrev pub CanJoinAll : Joined → List NamedLog → Type 0
CanJoinAll j [] = ⊤
CanJoinAll j (log ∷ logs) = CanJoin None j log × CanJoinAll (join None j log) logs

-- This holds of logs that were read: of a first one, and of further ones that are given. All but the last are read to their end, and the last up
-- to a stop.
abbrev pub OfFurther : {R : Type 0} → (R → Option (List ℕ)) → Option ℕ → NamedLog → List (GivenLog R) → (Joined → Type 0) → Type 0
OfFurther known stop log givens P = ((givens ≡ []) × P (alone stop log))
    ⊎ ((middle : List (GivenLog _)) × (last : GivenLog _) × (givens ≡ middle ++ last ∷ []) × (logs : List NamedLog) × AreRead known middle logs × (end : NamedLog) × IsRead known last end
    × CanJoinAll (alone None log) logs × CanJoin stop (joined_on (alone None log) logs) end × P (join stop (joined_on (alone None log) logs) end))

abbrev pub OfLogs : {R : Type 0} → (R → Option (List ℕ)) → Option ℕ → List ℕ → List (GivenLog R) → Option (List ℕ) → Option (List ℕ) → (Joined → Type 0) → Type 0
OfLogs known stop name givens old new P = (bytes : List ℕ) × ReadsLog old new bytes × (source_refusal bytes ≡ None) × OfFurther known stop (record { name = name; bytes = bytes }) givens P

-- ---- a part of them

-- The start of a part is one of the first log. A stop is one of the last: places there are counted from the start of the first here.
abbrev pub starts_in_first : List Begun → ℕ → Bool
starts_in_first [] place = true
starts_in_first (b ∷ bs) place = nat_lt place b.start

abbrev pub stop_behind : ℕ → Option ℕ → Option ℕ
stop_behind start stop = option_map (λ stop. min (start + stop) 4294967295) stop

abbrev pub part_behind : List Begun → ℕ → Selection → Selection
part_behind [] last part = part
part_behind (b ∷ bs) last part = record part { stop = stop_behind last part.stop }

abbrev pub part_among : Names → Selection → Selection
part_among names part = part_behind names.more names.last part
