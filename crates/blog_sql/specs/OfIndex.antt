-- What comes of printing the groups of a log as SQL.
use Rattle.std.specs.Prelude.{ℕ, ◌<◌, ◌≤◌, List, [], length, map, Option, Result, Ok, Err}
use Rattle.std.specs.Io.KnownBytes.{Appends}
use Rattle.blog_event.specs.File.{end_of, read}
use Rattle.blog_device.specs.Devices.{AppendsBeginning}
use Rattle.blog_row.specs.declared.order.Order.{Order}
use Rattle.blog_trans.specs.Groups.{Transaction, groups}
use Rattle.blog_trans.specs.Selection.{Selection}
use Rattle.blog_flash.specs.Texts.{group_events, laid_out_after}
use Rattle.blog_flash.specs.Written.{event_written, groups_written}
use Rattle.blog_flash.specs.code.LaidOut.{groups_in}
use Rattle.blog_flash.specs.code.Measured.{HasSizes}
use Rattle.blog_flash.specs.declared.log_sizes.LogSizes.{LogSizes}
use Rattle.blog_split.specs.Putting.{Refuses}
use Rattle.blog_split.specs.code.Greedy.{cut_groups}
use Rattle.blog_split.specs.declared.fault.SplitFault.{SplitFault}
use Rattle.blog_split.specs.declared.fault.SplitRunFault.{SplitRunFault}
use Rattle.blog_split.specs.declared.fault.SplitRunFault.TheVariants.{Split, Write}
use Rattle.blog_sql.specs.Changed.{changed, changed_groups}
use Rattle.blog_sql.specs.Sql.{sql_text}
use Rattle.blog_sql.specs.declared.options.SqlOptions.{SqlOptions}

-- a log without its groups
abbrev pub front_of : List ℕ → Selection → List ℕ
front_of bytes sel = laid_out_after (read bytes sel.stop) []

-- its groups, or what undoes them, their statements cut
abbrev pub cut_of : Order → ℕ → List ℕ → Selection → List Transaction
cut_of order limit bytes sel = cut_groups limit (groups_in order (groups bytes sel))

-- the text that is printed, and the position at which its events end
abbrev pub printed : SqlOptions → Order → ℕ → List ℕ → Selection → List ℕ
printed how order limit bytes sel = sql_text how (front_of bytes sel) (cut_of order limit bytes sel)

abbrev pub printed_end : SqlOptions → Order → ℕ → List ℕ → Selection → ℕ
printed_end how order limit bytes sel = end_of (length (front_of bytes sel)) (group_events (changed_groups how (cut_of order limit bytes sel)))

-- a text is written whose events end there, or a beginning of it where a write failed; or memory was refused, or a position would
-- be too large
abbrev pub IsPrinted : List ℕ → ℕ → Option (List ℕ) → Option (List ℕ) → Result Unit SplitRunFault → Type 0
IsPrinted text end had has (Ok done) = Appends had has text × (end ≤ 4294967295)
IsPrinted text end had has (Err (Split e)) = Refuses end e
IsPrinted text end had has (Err Write) = AppendsBeginning had has text × (end ≤ 4294967295)

-- the sizes of the log that the changed events of groups would make, or why there are none
abbrev pub AreSqlSizes : SqlOptions → ℕ → List Transaction → Result LogSizes SplitFault → Type 0
AreSqlSizes how pos ts (Ok sizes) = HasSizes pos (map event_written (map (changed how) (groups_written ts))) sizes × (sizes.largest ≤ 4294967295)
AreSqlSizes how pos ts (Err e) = Refuses (end_of pos (map event_written (map (changed how) (groups_written ts)))) e
