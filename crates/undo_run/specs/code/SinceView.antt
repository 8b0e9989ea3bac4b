-- What a contract sees of what was seen of what came later.
use Rattle.std.specs.Prelude.{◌≡◌, ℕ, List, filter, length, option_map, slice_get, None, []}
use Rattle.blog_choice.specs.Choice.{Choice}
use Rattle.blog_later.specs.Later.{is_accepted, is_apart, may_concern}
use Rattle.blog_later.specs.code.Counted.{at_most, starts}
use Rattle.blog_later.specs.declared.looked.Looked.{Looked}
use Rattle.blog_source.specs.code.SourceView.{end_of, fault_of, log_of}
use Rattle.blog_source.specs.declared.source.Source.{Source}
use Rattle.blog_units.specs.Units.{Facts}
use Rattle.undo_run.specs.After.{Later, Place, accepted_units, is_damaged, last_end, last_next, places_apart, unknown_units}
use Rattle.undo_run.specs.Reports.{Since}
use Rattle.undo_run.specs.Several.{Names}
use Rattle.undo_run.specs.declared.since.Place as told_place
use Rattle.undo_run.specs.declared.since.Since as told

abbrev pub place_seen : told_place.Place → Place
place_seen place = record { name = place.name.now; at = place.at }

abbrev pub since_seen : {A : Type 0} → told.Since A → Since
since_seen since = record { units = since.units; end = option_map place_seen since.end; next = since.next.items; apart = since.apart; first = option_map place_seen since.first }

-- the log of a source, of which these units are looked at
abbrev pub later_of : {A : Type 0} → Names → Source A → List Facts → Later
later_of names source us = record { names = names; handed = log_of source; units = us; end = end_of source; fault = fault_of source }

-- what is seen of one log, whose changes take so many rows that were left, of chosen tables
pub record IsLooked {A : Type 0} (n : ℕ) (choice : Choice) (l : Later) (looked : Looked A) : Type 0 where
  pub units : looked.units ≡ at_most (length (filter (is_accepted l.handed) l.units))
  pub touched : looked.touched ≡ at_most n
  pub unknown : looked.unknown.items ≡ starts (filter (may_concern choice l.handed) l.units)
  pub apart : looked.apart.items ≡ starts (filter (is_apart choice l.handed) l.units)

-- what is seen of several
pub record AreSeen {A : Type 0} (n : ℕ) (choice : Choice) (ls : List Later) (since : told.Since A) : Type 0 where
  pub units : since.units ≡ at_most (length (accepted_units ls))
  pub touched : since.touched ≡ at_most n
  pub unknown : since.unknown ≡ at_most (length (unknown_units choice ls))
  pub apart : since.apart ≡ at_most (length (places_apart choice ls))
  pub first : option_map place_seen since.first ≡ slice_get (places_apart choice ls) 0
  pub end : option_map place_seen since.end ≡ last_end None ls
  pub next : since.next.items ≡ last_next [] ls
  pub damaged : since.is_damaged ≡ is_damaged ls
