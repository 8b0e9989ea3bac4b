-- A hasher that begins with a seed.
use Rattle.std.specs.Hash.{le_bytes}
use Rattle.std.specs.Hash.DefaultHasher.{initial, write}
use Rattle.std.specs.declared.hash.DefaultHasher.{DefaultHasher}
use Rattle.blog_report.specs.declared.seeded.SeededState.{SeededState}

abbrev pub seeded : SeededState → DefaultHasher
seeded state = write initial (le_bytes 8 state.seed)
