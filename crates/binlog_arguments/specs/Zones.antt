-- The time zone of a list.
use Rattle.std.specs.Prelude.{◌≡◌, ℕ, List, Some, codes}
use Rattle.jiff.specs.Types.{TimeZone, UTC, Posix, Tzif}
use Rattle.jiff_tz.specs.Tzif.{tzif_name}
use Rattle.binlog_arguments.specs.declared.zones.Zone.{Zone}
use Rattle.binlog_arguments.specs.declared.zones.Zone.TheVariants.{Utc, Rule, Table}

-- the zone of jiff that this is
abbrev pub IsZoneOf : Zone → TimeZone → Type 0
IsZoneOf Utc zone = zone ≡ UTC
IsZoneOf (Rule rule) zone = zone ≡ Posix rule
IsZoneOf (Table table) (Tzif lent) = lent.now ≡ table
IsZoneOf (Table table) zone = ⊥

-- a zone with this name in the IANA time zone database
abbrev pub HasName : List ℕ → Zone → Type 0
HasName name Utc = name ≡ codes "UTC"
HasName name (Rule rule) = ⊥
HasName name (Table table) = tzif_name table ≡ Some name
