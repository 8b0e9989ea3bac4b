-- What comes of writing the selected changes of a log, or what undoes them. Of a device that does not tell its bytes these words say
-- that there are such bytes.
use Rattle.std.specs.Prelude.{◌≡◌, ℕ, ◌<◌, ◌≤◌, ⊤, Bool, true, false, List, length, Option, None, Some, Result, Ok, Err}
use Rattle.std.specs.Io.KnownBytes.{Appends}
use Rattle.blog_device.specs.Devices.{AppendsBeginning}
use Rattle.blog_event.specs.declared.fault.Fault.TheVariants.{OutOfMemory}
use Rattle.blog_row.specs.declared.order.Order.{Order}
use Rattle.blog_trans.specs.Acceptance.{IsAccepted, IsRefusal, fault}
use Rattle.blog_trans.specs.Groups.{Transaction, groups}
use Rattle.blog_trans.specs.Selection.{Selection}
use Rattle.blog_split.specs.code.Greedy.{cut_text}
use Rattle.blog_sql.specs.Changed.{HasShortNames, without_schema}
use Rattle.blog_sql.specs.OfIndex.{printed, printed_end}
use Rattle.blog_sql.specs.declared.options.SqlOptions.{SqlOptions}
use Rattle.blog_run.specs.declared.writing.Writing.{Writing}
use Rattle.blog_run.specs.declared.fault.WritingFault.{WritingFault}
use Rattle.blog_run.specs.declared.fault.WritingFault.TheVariants.{Log, TooLong, NoSchema, Write}

-- ---- what is written, as a log or as SQL, in an order, in statements of at most so many bytes

-- the text
abbrev pub text_of : Option SqlOptions → Order → ℕ → List ℕ → Selection → List ℕ
text_of None order limit bytes sel = cut_text order limit bytes sel
text_of (Some how) order limit bytes sel = printed how order limit bytes sel

-- where the last event ends of the log that it is, or that it has
abbrev pub end_of_text : Option SqlOptions → Order → ℕ → List ℕ → Selection → ℕ
end_of_text None order limit bytes sel = length (cut_text order limit bytes sel)
end_of_text (Some how) order limit bytes sel = printed_end how order limit bytes sel

-- the first schema that is to have another name, and of which the groups have no table, by its number from 0
abbrev pub lacks : Option SqlOptions → List Transaction → Option ℕ
lacks None ts = None
lacks (Some how) ts = without_schema ts how.schemas.now

-- it can be written: there is such a table, and no position is too large
pub record CanBeWritten (sql : Option SqlOptions) (order : Order) (limit : ℕ) (bytes : List ℕ) (sel : Selection) : Type 0 where
  pub schemas : lacks sql (groups bytes sel) ≡ None
  pub short : end_of_text sql order limit bytes sel ≤ 4294967295

-- new names of schemas are as long as names can be
abbrev pub HaveShortNamesIn : Option SqlOptions → Type 0
HaveShortNamesIn None = ⊤
HaveShortNamesIn (Some how) = HasShortNames how

abbrev pub HasShortWriting : Writing → Type 0
HasShortWriting writing = HaveShortNamesIn writing.sql

-- ---- what comes of it

-- of the groups of an accepted log: the text is written, or a beginning of it where a write failed; or memory was refused, or a
-- position would be too large, or there is no such table
abbrev pub WritesGroups : Option SqlOptions → Order → ℕ → List ℕ → Selection → Option (List ℕ) → Option (List ℕ) → Result Unit WritingFault → Type 0
WritesGroups sql order limit bytes sel had has (Ok done) = CanBeWritten sql order limit bytes sel × Appends had has (text_of sql order limit bytes sel)
WritesGroups sql order limit bytes sel had has (Err (Log f)) = f ≡ OutOfMemory
WritesGroups sql order limit bytes sel had has (Err TooLong) = (lacks sql (groups bytes sel) ≡ None) × (4294967295 < end_of_text sql order limit bytes sel)
WritesGroups sql order limit bytes sel had has (Err (NoSchema n)) = lacks sql (groups bytes sel) ≡ Some n
WritesGroups sql order limit bytes sel had has (Err Write) = CanBeWritten sql order limit bytes sel × AppendsBeginning had has (text_of sql order limit bytes sel)

-- of a log: the same, or it is refused
abbrev pub WritesChanges : Writing → List ℕ → Selection → Option (List ℕ) → Option (List ℕ) → Result Unit WritingFault → Type 0
WritesChanges w bytes sel had has (Err (Log f)) = IsRefusal (fault bytes sel) f
WritesChanges w bytes sel had has (Ok done) = IsAccepted bytes sel × WritesGroups w.sql w.order w.limit bytes sel had has (Ok done)
WritesChanges w bytes sel had has (Err TooLong) = IsAccepted bytes sel × WritesGroups w.sql w.order w.limit bytes sel had has (Err TooLong)
WritesChanges w bytes sel had has (Err (NoSchema n)) = IsAccepted bytes sel × WritesGroups w.sql w.order w.limit bytes sel had has (Err (NoSchema n))
WritesChanges w bytes sel had has (Err Write) = IsAccepted bytes sel × WritesGroups w.sql w.order w.limit bytes sel had has (Err Write)

-- the answer comes before the first write
abbrev pub is_before_writing : Result Unit WritingFault → Bool
is_before_writing (Ok done) = false
is_before_writing (Err (Log f)) = true
is_before_writing (Err TooLong) = true
is_before_writing (Err (NoSchema n)) = true
is_before_writing (Err Write) = false

-- the answer is that a write failed
abbrev pub is_failed_writing : Result Unit WritingFault → Bool
is_failed_writing (Ok done) = false
is_failed_writing (Err (Log f)) = false
is_failed_writing (Err TooLong) = false
is_failed_writing (Err (NoSchema n)) = false
is_failed_writing (Err Write) = true
