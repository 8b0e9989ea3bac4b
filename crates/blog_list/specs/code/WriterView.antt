-- What a contract sees of a writer of lists.
use Rattle.std.specs.Prelude.{ℕ, Bool, List, length, string_bytes}
use Rattle.jiff.specs.Types.{TimeZone}
use Rattle.jiff.specs.Words.{plain_zone}
use Rattle.blog_list.specs.declared.list_writer.ListWriter.{ListWriter}
use Rattle.blog_list.specs.declared.listing.Form.{Form}
use Rattle.blog_list.specs.declared.listing.Sorting.{Sorting}
use Rattle.blog_list.specs.code.Held.{Sheet}

-- the form of its lists
abbrev pub form_of : {A : Type 0} → ListWriter A → Form
form_of list = list.style.form

-- whether they have global transaction ids
abbrev pub gtids_of : {A : Type 0} → ListWriter A → Bool
gtids_of list = list.style.gtids

-- how units are sorted in them
abbrev pub sorting_of : {A : Type 0} → ListWriter A → Sorting
sorting_of list = list.style.sorting

-- the time zone of their times
abbrev pub zone_of : {A : Type 0} → ListWriter A → TimeZone
zone_of list = plain_zone list.times.zone

-- the heading of these
abbrev pub heading_of : {A : Type 0} → ListWriter A → List ℕ
heading_of list = list.times.heading.items

-- how it writes lines behind what was held before
abbrev pub sheet_of : {A : Type 0} → ListWriter A → List ℕ → Sheet
sheet_of list before = record { form = form_of list; zone = zone_of list; gtids = gtids_of list; width = length (heading_of list); before = before }
