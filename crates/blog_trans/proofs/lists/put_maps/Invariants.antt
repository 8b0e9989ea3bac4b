use Rattle.std.proofs.Common.{◌≡◌, ◌+◌, ◌≤◌, ◌++◌, map, length, vec_len, vec_capacity}
use Rattle.blog_trans.specs.code.StatementMaps.{used_maps}
use Rattle.blog_trans.specs.code.Entries.{map_entries}
use Rattle.blog_trans.proofs.lists.put_maps.Given as goal

abbrev pub invariant-loop-map : goal.invariant-loop-map
invariant-loop-map g l = record {
  items_are : l.entries.items ≡ l.fn.entries.items ++ map_entries (used_maps (map (λ m. m.now) l.yielded));
  at_least : vec_len l.fn.entries ≤ vec_len l.entries;
  at_most : vec_len l.entries ≤ vec_len l.fn.entries + length l.yielded;
  capacity : vec_capacity l.fn.entries ≤ vec_capacity l.entries;
}
