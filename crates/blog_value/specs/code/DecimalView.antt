-- A decimal as a value.
use Rattle.blog_value.specs.Decimals.{DecimalValue}
use Rattle.blog_value.specs.declared.decimals.Decimal.{Decimal}

abbrev pub decimal_value : Decimal → DecimalValue
decimal_value d = record { precision = d.precision; scale = d.scale; bytes = d.bytes.now }
