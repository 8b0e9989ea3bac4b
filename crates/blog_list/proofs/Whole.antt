-- What was written of a log, and of a list of one log, by what was held of it and written.
use Rattle.std.proofs.Common.{◌≡◌, ℕ, Bool, List, [], ◌∷◌, ◌++◌, length, Option, refl, sym, ap, ap₂, subst, ◌∙◌, append_assoc, append-nil, inl, inr, arith}
use Rattle.std.specs.Io.KnownBytes.{Appends}
use Rattle.std.proofs.KnownBytes.{Appends-nil, Appends-trans}
use Rattle.jiff.specs.Types.{TimeZone}
use Rattle.blog_device.specs.Devices.{AppendsBeginning}
use Rattle.blog_list.specs.declared.listing.Form.{Form}
use Rattle.blog_list.specs.Columns.{IsHeading}
use Rattle.blog_list.specs.Lines.{LogList}
use Rattle.blog_list.specs.Texts.{AppendsList, AppendsListBeginning, AppendsLog, AppendsLogBeginning, IsListText, IsLogText, IsUpTo, header_of, totals_of}
use Rattle.blog_list.specs.declared.totals.Totals.{Totals}
use Rattle.blog_list.specs.code.Held.{HasBegun, HasListed}
use Rattle.blog_list.specs.code.Totals.{CountsLog, totals_put}
use Rattle.blog_list.proofs.OnTheWay.{totals-are}

-- ---- one log

pub log-whole : (form : Form) (zone : TimeZone) (gtids : Bool) (width : ℕ) (l : LogList) (had has now : Option (List ℕ)) (before after last : List ℕ) → before ≡ [] → last ≡ after
    → HasListed form zone gtids width l had has before after → Appends has now last → AppendsLog form zone gtids width l had now
log-whole form zone gtids width l had has now before after last none same (text, is, (part, appended, split)) end =
    let whole : part ++ last ≡ text = ap (λ (bytes : List ℕ). part ++ bytes) same ∙ split ∙ ap (λ (front : List ℕ). front ++ text) none in
    (text, is, subst (λ (bytes : List ℕ). Appends had now bytes) whole (Appends-trans had has now part last appended end))

pub log-begun : (form : Form) (zone : TimeZone) (gtids : Bool) (width : ℕ) (l : LogList) (had now : Option (List ℕ)) (before : List ℕ) → before ≡ []
    → HasBegun form zone gtids width l had now before → AppendsLogBeginning form zone gtids width l had now
log-begun form zone gtids width l had now before none (text, is, begun) = (text, is, subst (λ (front : List ℕ). AppendsBeginning had now (front ++ text)) none begun)

pub log-broken : (form : Form) (zone : TimeZone) (gtids : Bool) (width : ℕ) (l : LogList) (had has now : Option (List ℕ)) (before after last : List ℕ) → before ≡ [] → last ≡ after
    → HasListed form zone gtids width l had has before after → AppendsBeginning has now last → AppendsLogBeginning form zone gtids width l had now
log-broken form zone gtids width l had has now before after last none same (text, is, (part, appended, split)) (front, rest, cut, end) =
    let whole : part ++ last ≡ text = ap (λ (bytes : List ℕ). part ++ bytes) same ∙ split ∙ ap (λ (front : List ℕ). front ++ text) none in (
      text,
      inr (l, inl refl, is),
      (part ++ front, rest, sym whole ∙ ap (λ (bytes : List ℕ). part ++ bytes) cut ∙ sym (append_assoc part front rest), Appends-trans had has now part front appended end),
    )

-- ---- a list of one log

-- a writer of lists in this form and zone, with ids or without, holds the header
pub record IsHeaded (form own_form : Form) (zone own_zone : TimeZone) (gtids own_gtids : Bool) (heading : List ℕ) (held : List ℕ) : Type 0 where
  pub form_is : own_form ≡ form
  pub zone_is : own_zone ≡ zone
  pub gtids_is : own_gtids ≡ gtids
  pub heading_is : IsHeading zone heading
  pub held_is : held ≡ header_of form gtids heading

pub headed : (form own_form : Form) (zone own_zone : TimeZone) (gtids own_gtids : Bool) (heading empty held : List ℕ) → own_form ≡ form → own_zone ≡ zone → own_gtids ≡ gtids → IsHeading zone heading → empty ≡ []
    → held ≡ empty ++ header_of own_form own_gtids heading → IsHeaded form own_form zone own_zone gtids own_gtids heading held
headed form own_form zone own_zone gtids own_gtids heading empty held of_form of_zone of_gtids is none grown = record {
  form_is = of_form;
  zone_is = of_zone;
  gtids_is = of_gtids;
  heading_is = is;
  held_is = grown ∙ ap (λ (front : List ℕ). front ++ header_of own_form own_gtids heading) none ∙ ap₂ (λ (f : Form) (ids : Bool). header_of f ids heading) of_form of_gtids;
}

-- what is listed of a log, by the form, the zone and the ids of the list
own-text : (form own_form : Form) (zone own_zone : TimeZone) (gtids own_gtids : Bool) (heading held : List ℕ) (l : LogList) (text : List ℕ) → IsHeaded form own_form zone own_zone gtids own_gtids heading held
    → IsLogText own_form own_zone own_gtids (length heading) l text → IsLogText form zone gtids (length heading) l text
own-text form own_form zone own_zone gtids own_gtids heading held l text front is =
    subst (λ (f : Form). IsLogText f zone gtids (length heading) l text) front.form_is
    (subst (λ (z : TimeZone). IsLogText own_form z gtids (length heading) l text) front.zone_is (subst (λ (ids : Bool). IsLogText own_form own_zone ids (length heading) l text) front.gtids_is is))

up-to-one : (form own_form : Form) (zone own_zone : TimeZone) (gtids own_gtids : Bool) (heading held : List ℕ) (l : LogList) (text : List ℕ) → IsHeaded form own_form zone own_zone gtids own_gtids heading held
    → IsLogText own_form own_zone own_gtids (length heading) l text → IsUpTo form zone gtids (l ∷ []) (held ++ text)
up-to-one form own_form zone own_zone gtids own_gtids heading held l text front is = (
  heading,
  text ++ [],
  front.heading_is,
  (text, [], own-text form own_form zone own_zone gtids own_gtids heading held l text front is, refl, refl),
  ap (λ (bytes : List ℕ). bytes ++ text) front.held_is ∙ ap (λ (bytes : List ℕ). header_of form gtids heading ++ bytes) (sym (append-nil text)),
)

up-to-none : (form own_form : Form) (zone own_zone : TimeZone) (gtids own_gtids : Bool) (heading held text : List ℕ) → IsHeaded form own_form zone own_zone gtids own_gtids heading held → text ≡ []
    → IsUpTo form zone gtids [] (held ++ text)
up-to-none form own_form zone own_zone gtids own_gtids heading held text front none =
    (heading, [], front.heading_is, refl, ap (λ (bytes : List ℕ). held ++ bytes) none ∙ ap (λ (bytes : List ℕ). bytes ++ []) front.held_is)

pub list-unbegun : (form : Form) (zone : TimeZone) (gtids : Bool) (ls : List LogList) (had : Option (List ℕ)) → AppendsListBeginning form zone gtids ls had had
list-unbegun form zone gtids ls had = ([], inl refl, ([], [], refl, Appends-nil had))

-- a writer's list of the log is sorted as the list is
pub sorted-begun : (form : Form) (zone : TimeZone) (gtids : Bool) (width : ℕ) (own l : LogList) (had now : Option (List ℕ)) (before : List ℕ) → own ≡ l
    → HasBegun form zone gtids width own had now before → HasBegun form zone gtids width l had now before
sorted-begun form zone gtids width own l had now before same begun = subst (λ (x : LogList). HasBegun form zone gtids width x had now before) same begun

pub sorted-listed : (form : Form) (zone : TimeZone) (gtids : Bool) (width : ℕ) (own l : LogList) (had has : Option (List ℕ)) (before after : List ℕ) → own ≡ l
    → HasListed form zone gtids width own had has before after → HasListed form zone gtids width l had has before after
sorted-listed form zone gtids width own l had has before after same listed = subst (λ (x : LogList). HasListed form zone gtids width x had has before after) same listed

pub sorted-counts : (old new : Totals) (own l : LogList) → own ≡ l → CountsLog old new own → CountsLog old new l
sorted-counts old new own l same counts = subst (λ (x : LogList). CountsLog old new x) same counts

-- a beginning of what is listed of the log is written
pub list-begun : (form own_form : Form) (zone own_zone : TimeZone) (gtids own_gtids : Bool) (heading held : List ℕ) (l : LogList) (had now : Option (List ℕ)) → IsHeaded form own_form zone own_zone gtids own_gtids heading held
    → HasBegun own_form own_zone own_gtids (length heading) l had now held → AppendsListBeginning form zone gtids (l ∷ []) had now
list-begun form own_form zone own_zone gtids own_gtids heading held l had now front (text, inl none, begun) =
    (held ++ text, inr (inr ([], tt, up-to-none form own_form zone own_zone gtids own_gtids heading held text front none)), begun)
list-begun form own_form zone own_zone gtids own_gtids heading held l had now front (text, inr (part, of, is), begun) =
    (held ++ text, inr (inr (part ∷ [], of, up-to-one form own_form zone own_zone gtids own_gtids heading held part text front is)), begun)

-- no totals are written
pub list-left : (form own_form : Form) (zone own_zone : TimeZone) (gtids own_gtids : Bool) (heading held after : List ℕ) (l : LogList) (had has : Option (List ℕ)) → IsHeaded form own_form zone own_zone gtids own_gtids heading held
    → HasListed own_form own_zone own_gtids (length heading) l had has held after → AppendsListBeginning form zone gtids (l ∷ []) had has
list-left form own_form zone own_zone gtids own_gtids heading held after l had has front (text, is, (part, appended, split)) = (
  held ++ text,
  inr (inr (l ∷ [], inl refl, up-to-one form own_form zone own_zone gtids own_gtids heading held l text front is)),
  (part, after, sym split, appended),
)

-- the numbers of the log
pub totals-of-one : (form own_form : Form) (old new : Totals) (l : LogList) → own_form ≡ form → old.units ≡ 0 → old.refused ≡ 0 → old.rows ≡ 0 → old.passed_over ≡ 0 → old.damaged ≡ 0 → CountsLog old new l
    → totals_put own_form new ≡ totals_of form (l ∷ [])
totals-of-one form own_form old new l of_form units refused rows passed_over damaged counts =
    totals-are own_form new (l ∷ []) (counts [] (record {
      units_are = omega (arith, units);
      refused_are = omega (arith, refused);
      rows_are = omega (arith, rows);
      passed_over_are = omega (arith, passed_over);
      damaged_are = omega (arith, damaged);
    })) ∙ ap (λ (f : Form). totals_of f (l ∷ [])) of_form

-- the totals are held
whole-text : (form own_form : Form) (zone own_zone : TimeZone) (gtids own_gtids : Bool) (heading held after last totals : List ℕ) (l : LogList) (part text : List ℕ) → IsHeaded form own_form zone own_zone gtids own_gtids heading held
    → IsLogText own_form own_zone own_gtids (length heading) l text → part ++ after ≡ held ++ text → last ≡ after ++ totals → totals ≡ totals_of form (l ∷ []) → IsListText form zone gtids (l ∷ []) (part ++ last)
whole-text form own_form zone own_zone gtids own_gtids heading held after last totals l part text front is split grown counted = (
  held ++ text,
  up-to-one form own_form zone own_zone gtids own_gtids heading held l text front is,
  ap (λ (bytes : List ℕ). part ++ bytes) grown ∙ sym (append_assoc part after totals) ∙ ap (λ (bytes : List ℕ). bytes ++ totals) split ∙ ap (λ (bytes : List ℕ). (held ++ text) ++ bytes) counted,
)

pub list-whole : (form own_form : Form) (zone own_zone : TimeZone) (gtids own_gtids : Bool) (heading held after last totals : List ℕ) (l : LogList) (had has now : Option (List ℕ)) → IsHeaded form own_form zone own_zone gtids own_gtids heading held
    → HasListed own_form own_zone own_gtids (length heading) l had has held after → last ≡ after ++ totals → totals ≡ totals_of form (l ∷ []) → Appends has now last
    → AppendsList form zone gtids (l ∷ []) had now
list-whole form own_form zone own_zone gtids own_gtids heading held after last totals l had has now front (text, is, (part, appended, split)) grown counted end =
    (part ++ last, whole-text form own_form zone own_zone gtids own_gtids heading held after last totals l part text front is split grown counted, Appends-trans had has now part last appended end)

pub list-broken : (form own_form : Form) (zone own_zone : TimeZone) (gtids own_gtids : Bool) (heading held after last totals : List ℕ) (l : LogList) (had has now : Option (List ℕ)) → IsHeaded form own_form zone own_zone gtids own_gtids heading held
    → HasListed own_form own_zone own_gtids (length heading) l had has held after → last ≡ after ++ totals → totals ≡ totals_of form (l ∷ []) → AppendsBeginning has now last
    → AppendsListBeginning form zone gtids (l ∷ []) had now
list-broken form own_form zone own_zone gtids own_gtids heading held after last totals l had has now front (text, is, (part, appended, split)) grown counted (first, rest, cut, end) = (
  part ++ last,
  inr (inl (whole-text form own_form zone own_zone gtids own_gtids heading held after last totals l part text front is split grown counted)),
  (part ++ first, rest, ap (λ (bytes : List ℕ). part ++ bytes) cut ∙ sym (append_assoc part first rest), Appends-trans had has now part first appended end),
)
