-- The list of a log alone.
use Rattle.std.proofs.Common.{◌≡◌, ℕ, Bool, List, [], ◌∷◌, ◌++◌, length, length-append, Option, Some, None, Ok, Err, refl, sym, ap, subst, ◌∙◌, arith}
use Rattle.jiff.specs.Types.{TimeZone}
use Rattle.blog_device.specs.Watched.{device_of}
use Rattle.blog_device.specs.declared.fault.RunFault.TheVariants.{Log, Read, Write}
use Rattle.blog_list.specs.Lines.{LogList}
use Rattle.blog_list.specs.Texts.{AppendsList, AppendsListBeginning}
use Rattle.blog_list.specs.declared.listing.Form.{Form}
use Rattle.blog_list.specs.code.Told.{end_listed, listed}
use Rattle.blog_request.specs.declared.wanted.Wanted.{Wanted}
use Rattle.blog_source.specs.declared.reading.Reading.{Reading}
use Rattle.blog_source.specs.declared.source.Source.{Source}
use Rattle.blog_sum.specs.declared.fault.SumFault.{SumFault}
use Rattle.list_run.specs.Listed.{HasBegun, HasListed, Listing, ListsLogs, NamedLog, or_later}
use Rattle.list_run.specs.code.Turns.{OpensSource}
use Rattle.list_run.specs.declared.fault.ListFault.{ListFault}
use Rattle.list_run.specs.declared.fault.ListFault.TheVariants.{Run, Unread, EndsEarly}
use Rattle.list_run.specs.declared.given.GivenLog.{GivenLog}
use Rattle.blog_list.specs.declared.listing.Sorting.{Sorting}
use Rattle.list_run.proofs.Going.{none-begun}
use Rattle.list_run.proofs.One.{end-is, listed-is}

-- how it is listed
abbrev pub alone : Reading → Wanted → Sorting → Listing
alone how w sorting = record { how = how; wanted = w; sorting = sorting; count = 1 }

pub alone-listed : {R A : Type 0} (known : R → Option (List ℕ)) (form : Form) (zone : TimeZone) (gtids : Bool) (how : Reading) (w : Wanted) (sorting : Sorting) (given : GivenLog R) (source : Source A)
    (end : Option SumFault) (had has : Option (List ℕ)) → OpensSource how (known (device_of given.reader)) (Ok source) → AppendsList form zone gtids (listed None sorting source w ∷ []) had has
    → end ≡ end_listed source w → HasListed known form zone gtids (alone how w sorting) (given ∷ []) (or_later 0 end None) had has
alone-listed known form zone gtids how w sorting given source end had has (bytes, read, opened) list ends =
    let log : NamedLog = record { name = given.name.now; bytes = bytes } in (
      log ∷ [],
      ((refl, read), tt),
      ap (λ (e : Option SumFault). or_later 0 e None) (sym (ends ∙ end-is (alone how w sorting) 0 log source opened)),
      subst (λ (l : LogList). AppendsList form zone gtids (l ∷ []) had has) (listed-is (alone how w sorting) 0 log source None opened refl) list,
    )

pub alone-begun : {R A : Type 0} (known : R → Option (List ℕ)) (form : Form) (zone : TimeZone) (gtids : Bool) (how : Reading) (w : Wanted) (sorting : Sorting) (given : GivenLog R) (source : Source A)
    (had has : Option (List ℕ)) → OpensSource how (known (device_of given.reader)) (Ok source) → AppendsListBeginning form zone gtids (listed None sorting source w ∷ []) had has
    → HasBegun known form zone gtids (alone how w sorting) (given ∷ []) had has
alone-begun known form zone gtids how w sorting given source had has (bytes, read, opened) begun =
    let log : NamedLog = record { name = given.name.now; bytes = bytes } in (
      log ∷ [],
      ((refl, read), tt),
      subst (λ (l : LogList). AppendsListBeginning form zone gtids (l ∷ []) had has) (listed-is (alone how w sorting) 0 log source None opened refl) begun,
    )

pub alone-unopened : {R : Type 0} (A : Type 0) (known : R → Option (List ℕ)) (form : Form) (zone : TimeZone) (gtids : Bool) (how : Reading) (w : Wanted) (sorting : Sorting) (given : GivenLog R)
    (had : Option (List ℕ)) (fault : ListFault) → OpensSource {A = A} how (known (device_of given.reader)) (Err fault)
    → ListsLogs known form zone gtids (alone how w sorting) (given ∷ []) had had (Err (0, fault))
alone-unopened A known form zone gtids how w sorting given had (Run f) may = none-begun known form zone gtids (alone how w sorting) (given ∷ []) had
alone-unopened A known form zone gtids how w sorting given had (Unread f) (bytes, read, refused) = (
  ([], [], given, record { name = given.name.now; bytes = bytes }, refl, refl, (refl, read), refused),
  none-begun known form zone gtids (alone how w sorting) (given ∷ []) had,
)
alone-unopened A known form zone gtids how w sorting given had (EndsEarly f) none = absurd none

-- the last of one is the one
pub one-taken : {X : Type 0} (xs ys : List X) (x : X) → ys ≡ xs ++ x ∷ [] → length ys ≡ 1 → ys ≡ x ∷ []
one-taken [] ys x split one = split
one-taken (y ∷ xs) ys x split one = absurd (omega (arith, one, ap length split, length-append xs (x ∷ [])))
