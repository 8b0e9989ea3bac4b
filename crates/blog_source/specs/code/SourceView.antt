-- What a contract sees of a source.
use Rattle.std.specs.Prelude.{ℕ, List, Option}
use Rattle.blog_sum.specs.declared.fault.SumFault.{SumFault}
use Rattle.blog_source.specs.declared.source.Source.{Source}

-- the bytes of the log without checksums
abbrev pub log_of : {A : Type 0} → Source A → List ℕ
log_of source = source.bytes.items

-- why the reading ended, where it ended too early
abbrev pub fault_of : {A : Type 0} → Source A → Option SumFault
fault_of source = source.fault

-- where the reading ended
abbrev pub end_of : {A : Type 0} → Source A → ℕ
end_of source = source.end

-- the time of the format description of the last log that was read into it
abbrev pub time_of : {A : Type 0} → Source A → ℕ
time_of source = source.time

-- how many events were passed over
abbrev pub damaged_of : {A : Type 0} → Source A → ℕ
damaged_of source = source.damaged
