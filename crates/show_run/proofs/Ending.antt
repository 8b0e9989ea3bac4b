-- How the units of a log end, by those that are left.
use Rattle.std.proofs.Common.{◌≡◌, ◌||◌, Bool, true, false, List, [], ◌∷◌, ℕ, Option, Some, None, map, refl, sym, ap, ◌∙◌}
use Rattle.std.specs.Prelude.{if◌then◌else◌, not, option_map}
use Rattle.std.specs.List.{list_any}
use Rattle.blog_list.specs.Lists.{list_end}
use Rattle.blog_list.specs.Shown.{is_open, last_whole}
use Rattle.blog_list.specs.code.Told.{end_listed, inside}
use Rattle.blog_request.specs.Wanted.{is_before}
use Rattle.blog_request.specs.declared.wanted.Wanted.{Wanted}
use Rattle.blog_source.specs.Found.{found_of}
use Rattle.blog_source.specs.Places.{position_of}
use Rattle.blog_source.specs.code.SourceView.{end_of as read_end, fault_of, log_of}
use Rattle.blog_source.specs.declared.source.Source.{Source}
use Rattle.blog_sum.specs.declared.fault.SumFault.{SumFault}
use Rattle.blog_units.specs.Units.{Facts, facts_of, units}
use Rattle.list_run.specs.Listed.{Listing, NamedLog, end_of, wanted_of}
use Rattle.list_run.specs.code.Turns.{IsOpened}

-- the last of these units is whole, or, if there is none, this
abbrev whole-behind : Bool → List Facts → Bool
whole-behind whole [] = whole
whole-behind whole (u ∷ us) = whole-behind u.whole us

twice : (b : Bool) → not (not b) ≡ b
twice true = refl
twice false = refl

open-more : (u : Facts) (us : List Facts) → not (is_open (u ∷ us)) ≡ whole-behind u.whole us
open-more u [] = twice u.whole
open-more u (v ∷ us) = open-more v us

open-is : (us : List Facts) → whole-behind true us ≡ not (is_open us)
open-is [] = refl
open-is (u ∷ us) = sym (open-more u us)

-- whether the last unit is whole, of those that are left behind one that is whole or isn't; None if one starts at the stop or behind it
abbrev pub ending : Bool → Option ℕ → List Facts → Option Bool
ending whole stop us = if list_any (λ u. not (is_before u.start stop)) us then None else Some (whole-behind whole us)

pub ending-all : (stop : Option ℕ) (us left : List Facts) → left ≡ us → ending true stop left ≡ last_whole stop us
ending-all stop us left same =
    ap (ending true stop) same ∙ ap (λ (b : Bool). if list_any (λ u. not (is_before u.start stop)) us then None else Some b) (open-is us)

-- one is gone through
pub ending-more : (whole : Bool) (stop : Option ℕ) (u : Facts) (us left : List Facts) → left ≡ u ∷ us → is_before u.start stop ≡ true → ending whole stop left ≡ ending u.whole stop us
ending-more whole stop u us left first before =
    ap (ending whole stop) first
    ∙ ap (λ (b : Bool). if not b || list_any (λ u. not (is_before u.start stop)) us then None else Some (whole-behind u.whole us)) before

-- one starts at the stop or behind it
pub ending-stopped : (whole : Bool) (stop : Option ℕ) (u : Facts) (us left : List Facts) → left ≡ u ∷ us → is_before u.start stop ≡ false → ending whole stop left ≡ None
ending-stopped whole stop u us left first behind =
    ap (ending whole stop) first
    ∙ ap (λ (b : Bool). if not b || list_any (λ u. not (is_before u.start stop)) us then None else Some (whole-behind u.whole us)) behind

-- why a source ends early, by its log and by what is wanted inside of that
pub source-end : {A : Type 0} (source : Source A) (w v : Wanted) (log : List ℕ) (whole : Option Bool) (end : Option SumFault) → log ≡ log_of source → v ≡ inside (log_of source) w
    → whole ≡ last_whole v.stop (map facts_of (units log)) → end ≡ list_end (fault_of source) (read_end source) w.stop whole → end ≡ end_listed source w
source-end source w v log whole end bytes within told is =
    is
    ∙ ap (list_end (fault_of source) (read_end source) w.stop)
    (told ∙ ap (λ (v : Wanted). last_whole v.stop (map facts_of (units log))) within
    ∙ ap (λ (b : List ℕ). last_whole (option_map (position_of (log_of source)) w.stop) (map facts_of (units b))) bytes)

-- a log that was opened as a source ends as it does in a list
pub log-ends : {A : Type 0} (l : Listing) (n : ℕ) (log : NamedLog) (source : Source A) (w : Wanted) (end : Option SumFault) → IsOpened l.how log.bytes source → w ≡ wanted_of l n
    → end ≡ end_listed source w → end ≡ end_of l n log
log-ends l n log source w end o wanted is =
    is ∙ ap (end_listed source) wanted
    ∙ ap (λ (fault : Option SumFault). list_end fault (read_end source) (wanted_of l n).stop
    (last_whole (option_map (position_of (log_of source)) (wanted_of l n).stop) (map facts_of (units (log_of source))))) o.fault
    ∙ ap (λ (at : ℕ). list_end (found_of l.how log.bytes).fault at (wanted_of l n).stop
    (last_whole (option_map (position_of (log_of source)) (wanted_of l n).stop) (map facts_of (units (log_of source))))) o.end
    ∙ ap (λ (handed : List ℕ). list_end (found_of l.how log.bytes).fault (found_of l.how log.bytes).end (wanted_of l n).stop
    (last_whole (option_map (position_of handed) (wanted_of l n).stop) (map facts_of (units handed)))) o.log
