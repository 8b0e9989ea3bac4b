-- The header with which bytes begin, as the program holds it.
use Rattle.std.specs.Prelude.{ℕ, List, drop, slice_index}
use Rattle.byteorder.specs.Endian.{little_number}
use Rattle.blog_event.specs.declared.event.Header.{Header}

unfoldable pub header_of : List ℕ → Header
header_of bytes = record {
  timestamp = little_number 4 bytes;
  kind = slice_index bytes 4;
  server_id = little_number 4 (drop 5 bytes);
  size = little_number 4 (drop 9 bytes);
  log_pos = little_number 4 (drop 13 bytes);
  flags = little_number 2 (drop 17 bytes);
}
