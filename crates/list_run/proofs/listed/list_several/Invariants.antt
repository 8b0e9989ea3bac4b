use Rattle.std.proofs.Common.{◌≡◌, ◌++◌, length}
use Rattle.std.specs.Vec.Iter.{into_iter_items, into_iter_len}
use Rattle.jiff.specs.Words.{plain_zone}
use Rattle.blog_device.specs.Watched.{device_of, has_failed}
use Rattle.blog_list.specs.code.WriterView.{heading_of}
use Rattle.list_run.specs.code.Turns.{listing_of}
use Rattle.list_run.proofs.Going.{IsGoing}
use Rattle.list_run.proofs.listed.list_several.Given as goal

-- no write has failed; the logs so far are listed and counted; and these are they
abbrev pub invariant-logs : goal.invariant-logs
invariant-logs g l = record {
  mark : has_failed l.writer ≡ has_failed l.fn.writer;
  number : l.turn.n ≡ length l.yielded;
  rest : l.yielded ++ into_iter_items l.given-iterator ≡ l.fn.logs.items;
  left : length (into_iter_items l.given-iterator) ≡ into_iter_len l.given-iterator;
  listing : listing_of l.turn ≡ listing_of l.initial.turn;
  first : l.turn.n ≡ 0 → l.writer ≡ l.fn.writer;
  going : IsGoing g.R.Read.remaining l.fn.style.form (plain_zone l.fn.style.zone) l.fn.style.gtids (heading_of l.list) (listing_of l.turn) l.yielded l.turn.n
      l.end l.totals (g.W.Write.contents (device_of l.fn.writer)) (g.W.Write.contents (device_of l.writer));
}
