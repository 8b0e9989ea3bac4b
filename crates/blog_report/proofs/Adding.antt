-- Numbers of rows that are added.
use Rattle.std.specs.Prelude.{min}
use Rattle.std.proofs.Common.{◌≡◌, ℕ, ◌+◌, ◌-◌, ◌^◌, arith}
use Rattle.blog_report.specs.declared.sums.RowSums.{RowSums}
use Rattle.blog_report.specs.Sums.{none, plus}

any-order : (a b m : ℕ) → min (a + b) m ≡ min (b + a) m
any-order a b m = omega arith

in-parts : (a b c m : ℕ) → min (min (a + b) m + c) m ≡ min (a + min (b + c) m) m
in-parts a b c m = omega arith

no-more : (a b m : ℕ) → min (min (a + b) m + 0) m ≡ min (a + b) m
no-more a b m = omega arith

pub plus_comm : (a b : RowSums) → plus a b ≡ plus b a
plus_comm a b = λ j. record {
  inserts = any-order a.inserts b.inserts (2 ^ 64 - 1) j;
  updates = any-order a.updates b.updates (2 ^ 64 - 1) j;
  deletes = any-order a.deletes b.deletes (2 ^ 64 - 1) j;
}

pub plus_assoc : (a b c : RowSums) → plus (plus a b) c ≡ plus a (plus b c)
plus_assoc a b c = λ j. record {
  inserts = in-parts a.inserts b.inserts c.inserts (2 ^ 64 - 1) j;
  updates = in-parts a.updates b.updates c.updates (2 ^ 64 - 1) j;
  deletes = in-parts a.deletes b.deletes c.deletes (2 ^ 64 - 1) j;
}

pub plus_none : (a b : RowSums) → plus (plus a b) none ≡ plus a b
plus_none a b = λ j. record {
  inserts = no-more a.inserts b.inserts (2 ^ 64 - 1) j;
  updates = no-more a.updates b.updates (2 ^ 64 - 1) j;
  deletes = no-more a.deletes b.deletes (2 ^ 64 - 1) j;
}
