-- How many maps and rows events a statement of a log has at most, and how long the cut log is.
use Rattle.std.specs.Prelude.{ℕ, ◌≤◌, List, length, Result, Ok, Err}
use Rattle.blog_event.specs.Event.{Event, event_size}
use Rattle.blog_event.specs.File.{end_of}
use Rattle.blog_trans.specs.Groups.{PlacedStatement, groups}
use Rattle.blog_split.specs.declared.fault.SplitFault.{SplitFault}
use Rattle.blog_split.specs.Putting.{Refuses}
use Rattle.blog_split.specs.declared.most.Most.{Most}
use Rattle.std.specs.List.{AllByRecursion}
use Rattle.blog_row.specs.declared.order.Order.{Order}
use Rattle.blog_trans.specs.Selection.{Selection}
use Rattle.blog_flash.specs.Texts.{group_events}
use Rattle.blog_flash.specs.code.LaidOut.{groups_in}
use Rattle.blog_flash.specs.code.Measured.{AreWithin}
use Rattle.blog_split.specs.code.Greedy.{cut_groups, cut_text}
use Rattle.blog_flash.specs.declared.log_sizes.LogSizes.{LogSizes}

-- it has no more maps and rows events than these
pub record IsAmongMost (most : Most) (y : PlacedStatement) : Type 0 where
  pub maps : length y.maps ≤ most.maps
  pub rows : length y.rows ≤ most.rows

-- a log of so many bytes, with these events behind it, has no more than these sizes; or it would be too long, or memory was refused
abbrev pub IsMeasured : ℕ → List Event → Result LogSizes SplitFault → Type 0
IsMeasured pos es (Ok sizes) = AreWithin pos es sizes
IsMeasured pos es (Err e) = Refuses (end_of pos es) e

-- the groups of a log in an order, their statements cut, are laid out as a log that is short enough, and none of its events is larger
pub record CutFits (bytes : List ℕ) (sel : Selection) (sizes : LogSizes) (order : Order) (limit : ℕ) : Type 0 where
  pub short : length (cut_text order limit bytes sel) ≤ 4294967295
  pub each : AllByRecursion (λ e. event_size e ≤ sizes.largest) (group_events (cut_groups limit (groups_in order (groups bytes sel))))

-- that holds in either order and of each limit
abbrev pub IsBound : List ℕ → Selection → LogSizes → Type 0
IsBound bytes sel sizes = (order : Order) (limit : ℕ) → CutFits bytes sel sizes order limit
