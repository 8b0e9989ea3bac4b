-- Groups of accepted ranges are well-formed together, but that their maps may not agree.
use Rattle.std.proofs.Common.{◌≡◌, ℕ, ◌^◌, ◌<◌, ◌≤◌, List, [], ◌∷◌, ◌++◌, length, refl, sym, ap, ap₂, subst, ◌∙◌, arith}
use Rattle.std.specs.Prelude.{⊤}
use Rattle.std.specs.List.{AllByRecursion, flat_map}
use Rattle.std.proofs.lemmas.List.Concat.{flat_map-append}
use Rattle.blog_event.specs.Event.{Event, IsEvent}
use Rattle.blog_event.specs.File.{read}
use Rattle.blog_event.proofs.Framing.{read-events}
use Rattle.blog_row.proofs.ReversedRows.{all-append}
use Rattle.blog_trans.specs.Changes.{changes, changes_of, changes_of_transaction}
use Rattle.blog_trans.specs.Groups.{Statement, Transaction, groups}
use Rattle.blog_trans.specs.Selection.{all}
use Rattle.blog_trans.proofs.PlacedParts.{all-by}
use Rattle.blog_flash.specs.Texts.{laid_out, laid_out_after}
use Rattle.blog_flash.proofs.Agreeing.{Chosen}
use Rattle.blog_flash.proofs.Formed.{AreGroups, IsMapEvent, IsStatement, IsTransaction}
use Rattle.blog_flash.proofs.Source.{source-format, source-groups}
use Rattle.blog_flash.proofs.Written.{laid-groups}
use Rattle.blog_gathered.specs.Gathered.{IsSoundRange, Range, gathered_text, groups_of, range_changes, range_groups}

-- ---- of one range

-- nothing is asked of all maps together
abbrev Any : Event → Type 0
Any m = ⊤

map-any : (Known : Event → Type 0) (m : Event) → IsMapEvent Known m → IsMapEvent Any m
map-any Known m h = record { kind = h.kind; names = h.names; layout = h.layout; known = tt; unplaced = h.unplaced; fits = h.fits }

statement-any : (Known : Event → Type 0) (s : Statement) → IsStatement Known s → IsStatement Any s
statement-any Known s h = record {
  maps_formed = all-by (IsMapEvent Known) (IsMapEvent Any) (map-any Known) s.maps h.maps_formed;
  distinct = h.distinct;
  used = h.used;
  rows_formed = h.rows_formed;
  some = h.some;
}

transaction-any : (Known : Event → Type 0) (t : Transaction) → IsTransaction Known t → IsTransaction Any t
transaction-any Known t h = record {
  begin_kind = h.begin_kind;
  begin_unplaced = h.begin_unplaced;
  begin_fits = h.begin_fits;
  end_is = h.end_is;
  end_unplaced = h.end_unplaced;
  end_fits = h.end_fits;
  statements_formed = all-by (IsStatement Known) (IsStatement Any) (statement-any Known) t.statements h.statements_formed;
  some = h.some;
}

range-formed : (r : Range) → IsSoundRange r → AreGroups Any (range_groups r)
range-formed r (are, accepted) =
    all-by (IsTransaction (Chosen r.bytes r.sel)) (IsTransaction Any) (transaction-any (Chosen r.bytes r.sel)) (range_groups r) (source-groups r.bytes r.sel are accepted)

-- ---- of several

ranges-formed : (rs : List Range) → AllByRecursion IsSoundRange rs → AreGroups Any (groups_of rs)
ranges-formed [] sound = tt
ranges-formed (r ∷ rs) sound = all-append (IsTransaction Any) (range_groups r) (groups_of rs) (range-formed r sound.0) (ranges-formed rs sound.1)

-- laid out, they are read again
pub gathered-groups : (first : Range) (rs : List Range) → IsSoundRange first → AllByRecursion IsSoundRange rs → length (gathered_text first rs) ≤ 4294967295
    → groups (gathered_text first rs) all ≡ groups_of rs
unfolding gathered_text
gathered-groups first rs (are, accepted) sound short =
    let (format, rest, is, served) = source-format first.bytes first.sel accepted in
    let event : IsEvent format = (subst (λ (es : List Event). AllByRecursion IsEvent es) is (read-events first.bytes first.sel.stop are)).0 in
    let text : gathered_text first rs ≡ laid_out format (groups_of rs) = ap (λ es. laid_out_after es (groups_of rs)) is in
    let long = ap length text in
    ap (λ written. groups written all) text
    ∙ laid-groups Any format (groups_of rs) (record { are_groups = ranges-formed rs sound; event = event; short = omega (arith, short, long) })

-- their changes
pub changes-of-ranges : (rs : List Range) → changes_of (groups_of rs) ≡ flat_map range_changes rs
changes-of-ranges [] = refl
changes-of-ranges (r ∷ rs) = flat_map-append changes_of_transaction (range_groups r) (groups_of rs) ∙ ap (λ cs. range_changes r ++ cs) (changes-of-ranges rs)
