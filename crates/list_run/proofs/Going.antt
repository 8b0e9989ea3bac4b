-- The list of the logs so far, and what a log more makes of it.
use Rattle.std.proofs.Common.{◌≡◌, ◌≢◌, ◌==◌, ℕ, Bool, true, false, List, [], ◌∷◌, ◌++◌, ◌+◌, ◌<◌, ◌⊎◌, length, length-append, take, zero, suc, Option, Some, None, Ok, Err, refl, sym, ap, subst, ◌∙◌, append_assoc, append-nil, inl, inr, arith}
use Rattle.std.specs.Io.KnownBytes.{Appends}
use Rattle.std.proofs.lemmas.Bool.{cond-true, cond-false, eq-eqb, ne_eqb}
use Rattle.std.proofs.KnownBytes.{Appends-nil, Appends-trans}
use Rattle.std.proofs.Math.Seq.{take-append_seam}
use Rattle.jiff.specs.Types.{TimeZone}
use Rattle.blog_device.specs.Devices.{AppendsBeginning}
use Rattle.blog_list.specs.Columns.{IsHeading}
use Rattle.blog_list.specs.declared.listing.Form.{Form}
use Rattle.blog_list.specs.Lines.{LogList}
use Rattle.blog_list.specs.Texts.{AppendsList, AppendsListBeginning, AreFirst, AreLogTexts, IsLogBegun, IsLogText, IsPartOf, header_of, totals_of}
use Rattle.blog_list.specs.declared.totals.Totals.{Totals}
use Rattle.blog_list.specs.code.Totals.{AreTotals, CountsLog}
use Rattle.blog_sum.specs.declared.fault.SumFault.{SumFault}
use Rattle.list_run.specs.Listed.{AreRead, HasBegun, HasListed, IsRead, Listing, ListsLogs, NamedLog, end_of, first_end_from, list_of, lists_from, or_later}
use Rattle.list_run.specs.code.Turns.{ListsOne, above, earlier}
use Rattle.list_run.specs.declared.fault.ListFault.{ListFault}
use Rattle.list_run.specs.declared.fault.ListFault.TheVariants.{Run, Unread, EndsEarly}
use Rattle.list_run.specs.declared.given.GivenLog.{GivenLog}

-- what is written of the list of logs, without totals: nothing where there are none
abbrev pub IsWritten : Form → TimeZone → Bool → List ℕ → List LogList → Option (List ℕ) → Option (List ℕ) → Type 0
IsWritten form zone gtids heading [] had has = has ≡ had
IsWritten form zone gtids heading (x ∷ xs) had has =
    (text : List ℕ) × AreLogTexts form zone gtids (length heading) (x ∷ xs) text × Appends had has (header_of form gtids heading ++ text)

-- the logs that were given so far are read, counted and listed
pub record IsGoing {R : Type 0} (known : R → Option (List ℕ)) (form : Form) (zone : TimeZone) (gtids : Bool) (heading : List ℕ) (l : Listing) (givens : List (GivenLog R)) (n : ℕ)
    (end : Option (ℕ × SumFault)) (totals : Totals) (had has : Option (List ℕ)) : Type 0 where
  pub logs : List NamedLog
  pub read : AreRead known givens logs
  pub number : length logs ≡ n
  pub ends : end ≡ first_end_from l 0 logs
  pub counted : AreTotals totals (lists_from l 0 logs)
  pub written : IsWritten form zone gtids heading (lists_from l 0 logs) had has

-- ---- a log more

pub read-more : {R : Type 0} (known : R → Option (List ℕ)) (givens : List (GivenLog R)) (logs : List NamedLog) (given : GivenLog R) (log : NamedLog)
    → AreRead known givens logs → IsRead known given log → AreRead known (givens ++ given ∷ []) (logs ++ log ∷ [])
read-more known [] [] given log are is = (is, tt)
read-more known [] (log' ∷ logs) given log are is = absurd are
read-more known (given' ∷ givens) [] given log are is = absurd are
read-more known (given' ∷ givens) (log' ∷ logs) given log (first, rest) is = (first, read-more known givens logs given log rest is)

pub lists-more : (l : Listing) (n : ℕ) (logs : List NamedLog) (log : NamedLog) → lists_from l n (logs ++ log ∷ []) ≡ lists_from l n logs ++ list_of l (n + length logs) log ∷ []
lists-more l n [] log = ap (λ (m : ℕ). list_of l m log ∷ []) (omega (arith))
lists-more l n (log' ∷ logs) log =
    ap (λ (ls : List LogList). list_of l n log' ∷ ls)
    (lists-more l (1 + n) logs log ∙ ap (λ (m : ℕ). lists_from l (1 + n) logs ++ list_of l m log ∷ []) (omega (arith)))

earlier-later : (n m : ℕ) (fault : Option SumFault) (end : Option (ℕ × SumFault)) (last : Option SumFault) → or_later n fault (earlier end m last) ≡ earlier (or_later n fault end) m last
earlier-later n m (Some fault) end last = refl
earlier-later n m None end last = refl

pub end-more : (l : Listing) (n : ℕ) (logs : List NamedLog) (log : NamedLog)
    → first_end_from l n (logs ++ log ∷ []) ≡ earlier (first_end_from l n logs) (n + length logs) (end_of l (n + length logs) log)
end-more l n [] log = ap (λ (m : ℕ). or_later m (end_of l m log) None) (omega (arith))
end-more l n (log' ∷ logs) log =
    ap (λ (later : Option (ℕ × SumFault)). or_later n (end_of l n log') later)
    (end-more l (1 + n) logs log ∙ ap (λ (m : ℕ). earlier (first_end_from l (1 + n) logs) m (end_of l m log)) (omega (arith)))
    ∙ earlier-later n (n + length (log' ∷ logs)) (end_of l n log') (first_end_from l (1 + n) logs) (end_of l (n + length (log' ∷ logs)) log)

pub as-many : (l : Listing) (n : ℕ) (logs : List NamedLog) → length (lists_from l n logs) ≡ length logs
as-many l n [] = refl
as-many l n (log ∷ logs) = omega (arith, as-many l (1 + n) logs)

-- ---- its text

pub above-first : (form : Form) (n : ℕ) (gtids : Bool) (heading : List ℕ) → n ≡ 0 → above form n gtids heading ≡ header_of form gtids heading
above-first form n gtids heading first = cond-true (n == 0) (header_of form gtids heading) [] (eq-eqb n 0 first)

pub above-later : (form : Form) (n : ℕ) (gtids : Bool) (heading : List ℕ) → n ≢ 0 → above form n gtids heading ≡ []
above-later form n gtids heading later = cond-false (n == 0) (header_of form gtids heading) [] (ne_eqb n 0 later)

texts-more : (form : Form) (zone : TimeZone) (gtids : Bool) (width : ℕ) (ls : List LogList) (x : LogList) (texts text : List ℕ) → AreLogTexts form zone gtids width ls texts → IsLogText form zone gtids width x text
    → AreLogTexts form zone gtids width (ls ++ x ∷ []) (texts ++ text)
texts-more form zone gtids width [] x texts text none is = (text, [], is, refl, ap (λ (bytes : List ℕ). bytes ++ text) none ∙ sym (append-nil text))
texts-more form zone gtids width (y ∷ ys) x texts text (first, rest, one, others, split) is =
    (first, rest ++ text, one, texts-more form zone gtids width ys x rest text others is, ap (λ (bytes : List ℕ). bytes ++ text) split ∙ append_assoc first rest text)

-- the text of a log more stands behind what is written
pub grown : (form : Form) (zone : TimeZone) (gtids : Bool) (heading : List ℕ) (ls : List LogList) (x : LogList) (n : ℕ) (had mid has : Option (List ℕ)) (text : List ℕ) → length ls ≡ n
    → IsWritten form zone gtids heading ls had mid → IsLogText form zone gtids (length heading) x text → Appends mid has (above form n gtids heading ++ text)
    → (texts : List ℕ) × AreLogTexts form zone gtids (length heading) (ls ++ x ∷ []) texts × Appends had has (header_of form gtids heading ++ texts)
grown form zone gtids heading [] x n had mid has text number written is appended = (
  text ++ [],
  (text, [], is, refl, refl),
  subst (λ (old : Option (List ℕ)). Appends old has (header_of form gtids heading ++ (text ++ []))) written
      (subst (λ (bytes : List ℕ). Appends mid has bytes)
      (ap (λ (front : List ℕ). front ++ text) (above-first form n gtids heading (sym number)) ∙ ap (λ (bytes : List ℕ). header_of form gtids heading ++ bytes) (sym (append-nil text))) appended),
)
grown form zone gtids heading (y ∷ ys) x n had mid has text number (texts, are, before) is appended = (
  texts ++ text,
  texts-more form zone gtids (length heading) (y ∷ ys) x texts text are is,
  subst (λ (bytes : List ℕ). Appends had has bytes) (append_assoc (header_of form gtids heading) texts text)
      (Appends-trans had mid has (header_of form gtids heading ++ texts) text before
      (subst (λ (front : List ℕ). Appends mid has (front ++ text)) (above-later form n gtids heading (λ zero. omega (arith, number, zero))) appended)),
)

written-more : (form : Form) (zone : TimeZone) (gtids : Bool) (heading : List ℕ) (ls : List LogList) (x : LogList) (had has : Option (List ℕ))
    → ((texts : List ℕ) × AreLogTexts form zone gtids (length heading) (ls ++ x ∷ []) texts × Appends had has (header_of form gtids heading ++ texts))
    → IsWritten form zone gtids heading (ls ++ x ∷ []) had has
written-more form zone gtids heading [] x had has is = is
written-more form zone gtids heading (y ∷ ys) x had has is = is

-- no log, and nothing
pub none-gone : {R : Type 0} (known : R → Option (List ℕ)) (form : Form) (zone : TimeZone) (gtids : Bool) (heading : List ℕ) (l : Listing) (givens : List (GivenLog R)) (n : ℕ) (end : Option (ℕ × SumFault))
    (totals : Totals) (had has : Option (List ℕ)) → givens ≡ [] → n ≡ 0 → end ≡ None → AreTotals totals [] → has ≡ had → IsGoing known form zone gtids heading l givens n end totals had has
none-gone known form zone gtids heading l givens n end totals had has none number ends counted same = record {
  logs = [];
  read = subst (λ (gs : List (GivenLog _)). AreRead known gs []) (sym none) tt;
  number = sym number;
  ends = ends;
  counted = counted;
  written = same;
}

-- a log more is listed
pub goes-on : {R : Type 0} (known : R → Option (List ℕ)) (form : Form) (zone : TimeZone) (gtids : Bool) (heading : List ℕ) (l : Listing) (givens : List (GivenLog R)) (given : GivenLog R) (n : ℕ)
    (end next : Option (ℕ × SumFault)) (old new : Totals) (had mid has : Option (List ℕ)) (last : Option SumFault) → next ≡ earlier end n last
    → IsGoing known form zone gtids heading l givens n end old had mid → ListsOne known form zone gtids heading l n given old new mid has (Ok last)
    → IsGoing known form zone gtids heading l (givens ++ given ∷ []) (n + 1) next new had has
goes-on known form zone gtids heading l givens given n end next old new had mid has last is-next g (log, is, ends, counts, (text, of_log, appended)) =
    let at : n ≡ 0 + length g.logs = omega (arith, g.number) in
    let more : lists_from l 0 (g.logs ++ log ∷ []) ≡ lists_from l 0 g.logs ++ list_of l n log ∷ [] =
    lists-more l 0 g.logs log ∙ ap (λ (m : ℕ). lists_from l 0 g.logs ++ list_of l m log ∷ []) (sym at) in record {
      logs = g.logs ++ log ∷ [];
      read = read-more known givens g.logs given log g.read is;
      number = omega (arith, length-append g.logs (log ∷ []), g.number);
      ends = is-next ∙ ap (λ (e : Option (ℕ × SumFault)). earlier e n last) g.ends ∙ ap (λ (f : Option SumFault). earlier (first_end_from l 0 g.logs) n f) ends
          ∙ ap (λ (m : ℕ). earlier (first_end_from l 0 g.logs) m (end_of l m log)) at ∙ sym (end-more l 0 g.logs log);
      counted = subst (λ (ls : List LogList). AreTotals new ls) (sym more) (counts (lists_from l 0 g.logs) g.counted);
      written = subst (λ (ls : List LogList). IsWritten form zone gtids heading ls had has) (sym more)
          (written-more form zone gtids heading (lists_from l 0 g.logs) (list_of l n log) had has
          (grown form zone gtids heading (lists_from l 0 g.logs) (list_of l n log) n had mid has text (as-many l 0 g.logs ∙ g.number) g.written of_log appended));
    }

-- ---- the end

listed-whole : (form : Form) (zone : TimeZone) (gtids : Bool) (heading : List ℕ) (ls : List LogList) (had mid has : Option (List ℕ)) → IsHeading zone heading → length ls ≢ 0
    → IsWritten form zone gtids heading ls had mid → Appends mid has (totals_of form ls) → AppendsList form zone gtids ls had has
listed-whole form zone gtids heading [] had mid has is some w last = absurd (some refl)
listed-whole form zone gtids heading (y ∷ ys) had mid has is some (texts, are, before) last = (
  (header_of form gtids heading ++ texts) ++ totals_of form (y ∷ ys),
  (header_of form gtids heading ++ texts, (heading, texts, is, are, refl), refl),
  Appends-trans had mid has (header_of form gtids heading ++ texts) (totals_of form (y ∷ ys)) before last,
)

-- the totals are written too
pub whole : {R : Type 0} (known : R → Option (List ℕ)) (form : Form) (zone : TimeZone) (gtids : Bool) (heading : List ℕ) (l : Listing) (givens all : List (GivenLog R)) (n : ℕ)
    (end told : Option (ℕ × SumFault)) (totals : Totals) (had mid has : Option (List ℕ)) → IsHeading zone heading → givens ≡ all → end ≡ told → n ≢ 0
    → IsGoing known form zone gtids heading l givens n end totals had mid → ((ls : List LogList) → AreTotals totals ls → Appends mid has (totals_of form ls)) → HasListed known form zone gtids l all told had has
whole known form zone gtids heading l givens all n end told totals had mid has is same is-told some g last = (
  g.logs,
  subst (λ (gs : List (GivenLog _)). AreRead known gs g.logs) same g.read,
  sym g.ends ∙ is-told,
  listed-whole form zone gtids heading (lists_from l 0 g.logs) had mid has is (λ zero. some (omega (arith, as-many l 0 g.logs, g.number, zero))) g.written
      (last (lists_from l 0 g.logs) g.counted),
)

-- ---- a beginning

first-self : (ls : List LogList) → AreFirst ls ls
first-self [] = tt
first-self (x ∷ []) = inl refl
first-self (x ∷ y ∷ ys) = (refl, first-self (y ∷ ys))

first-front : (ls : List LogList) (last : LogList) → AreFirst ls (ls ++ last ∷ [])
first-front [] last = tt
first-front (x ∷ []) last = inl refl
first-front (x ∷ y ∷ ys) last = (refl, first-front (y ∷ ys) last)

first-more : (ls : List LogList) (part last : LogList) → IsPartOf part last → AreFirst (ls ++ part ∷ []) (ls ++ last ∷ [])
first-more [] part last is = is
first-more (x ∷ []) part last is = (refl, is)
first-more (x ∷ y ∷ ys) part last is = (refl, first-more (y ∷ ys) part last is)

-- a beginning behind what is written whole
pub behind : (had mid has : Option (List ℕ)) (front bytes : List ℕ) → Appends had mid front → AppendsBeginning mid has bytes → AppendsBeginning had has (front ++ bytes)
behind had mid has front bytes before (written, rest, cut, appended) =
    (front ++ written, rest, ap (λ (bs : List ℕ). front ++ bs) cut ∙ sym (append_assoc front written rest), Appends-trans had mid has front written before appended)

pub no-more : (had has : Option (List ℕ)) (bytes : List ℕ) → Appends had has bytes → AppendsBeginning had has bytes
no-more had has bytes appended = (bytes, [], sym (append-nil bytes), appended)

begun-before : (form : Form) (zone : TimeZone) (gtids : Bool) (heading : List ℕ) (ls : List LogList) (had has : Option (List ℕ)) → IsHeading zone heading → IsWritten form zone gtids heading ls had has
    → AppendsListBeginning form zone gtids ls had has
begun-before form zone gtids heading [] had has is same = ([], inl refl, subst (λ (new : Option (List ℕ)). AppendsBeginning had new []) (sym same) (no-more had had [] (Appends-nil had)))
begun-before form zone gtids heading (y ∷ ys) had has is (texts, are, before) = (
  header_of form gtids heading ++ texts,
  inr (inr (y ∷ ys, first-self (y ∷ ys), (heading, texts, is, are, refl))),
  no-more had has (header_of form gtids heading ++ texts) before,
)

begun-in : (form : Form) (zone : TimeZone) (gtids : Bool) (heading : List ℕ) (ls : List LogList) (x : LogList) (n : ℕ) (had mid has : Option (List ℕ)) (text : List ℕ) → IsHeading zone heading → length ls ≡ n
    → IsWritten form zone gtids heading ls had mid → IsLogBegun form zone gtids (length heading) x text → AppendsBeginning mid has (above form n gtids heading ++ text)
    → AppendsListBeginning form zone gtids (ls ++ x ∷ []) had has
begun-in form zone gtids heading [] x n had mid has text is number same (inl none) begun =
    let all : above form n gtids heading ++ text ≡ header_of form gtids heading ++ [] =
    ap (λ (front : List ℕ). front ++ text) (above-first form n gtids heading (sym number)) ∙ ap (λ (bytes : List ℕ). header_of form gtids heading ++ bytes) none in (
      header_of form gtids heading ++ [],
      inr (inr ([], tt, (heading, [], is, refl, refl))),
      subst (λ (bytes : List ℕ). AppendsBeginning had has bytes) all (subst (λ (old : Option (List ℕ)). AppendsBeginning old has (above form n gtids heading ++ text)) same begun),
    )
begun-in form zone gtids heading [] x n had mid has text is number same (inr (part, of, whole)) begun =
    let all : above form n gtids heading ++ text ≡ header_of form gtids heading ++ (text ++ []) =
    ap (λ (front : List ℕ). front ++ text) (above-first form n gtids heading (sym number)) ∙ ap (λ (bytes : List ℕ). header_of form gtids heading ++ bytes) (sym (append-nil text)) in (
      header_of form gtids heading ++ (text ++ []),
      inr (inr (part ∷ [], of, (heading, text ++ [], is, (text, [], whole, refl, refl), refl))),
      subst (λ (bytes : List ℕ). AppendsBeginning had has bytes) all (subst (λ (old : Option (List ℕ)). AppendsBeginning old has (above form n gtids heading ++ text)) same begun),
    )
begun-in form zone gtids heading (y ∷ ys) x n had mid has text is number (texts, are, before) (inl none) begun =
    let after : AppendsBeginning mid has [] =
    subst (λ (bytes : List ℕ). AppendsBeginning mid has bytes)
    (ap (λ (front : List ℕ). front ++ text) (above-later form n gtids heading (λ zero. omega (arith, number, zero))) ∙ none) begun in (
      header_of form gtids heading ++ texts,
      inr (inr (y ∷ ys, first-front (y ∷ ys) x, (heading, texts, is, are, refl))),
      subst (λ (bytes : List ℕ). AppendsBeginning had has bytes) (append-nil (header_of form gtids heading ++ texts))
          (behind had mid has (header_of form gtids heading ++ texts) [] before after),
    )
begun-in form zone gtids heading (y ∷ ys) x n had mid has text is number (texts, are, before) (inr (part, of, whole)) begun =
    let after : AppendsBeginning mid has text =
    subst (λ (front : List ℕ). AppendsBeginning mid has (front ++ text)) (above-later form n gtids heading (λ zero. omega (arith, number, zero))) begun in (
      header_of form gtids heading ++ (texts ++ text),
      inr (inr (y ∷ (ys ++ part ∷ []), first-more (y ∷ ys) part x of, (heading, texts ++ text, is, texts-more form zone gtids (length heading) (y ∷ ys) part texts text are whole, refl))),
      subst (λ (bytes : List ℕ). AppendsBeginning had has bytes) (append_assoc (header_of form gtids heading) texts text)
          (behind had mid has (header_of form gtids heading ++ texts) text before after),
    )

totals-begun : (form : Form) (zone : TimeZone) (gtids : Bool) (heading : List ℕ) (ls : List LogList) (had mid has : Option (List ℕ)) → IsHeading zone heading → length ls ≢ 0
    → IsWritten form zone gtids heading ls had mid → AppendsBeginning mid has (totals_of form ls) → AppendsListBeginning form zone gtids ls had has
totals-begun form zone gtids heading [] had mid has is some w last = absurd (some refl)
totals-begun form zone gtids heading (y ∷ ys) had mid has is some (texts, are, before) last = (
  (header_of form gtids heading ++ texts) ++ totals_of form (y ∷ ys),
  inr (inl (header_of form gtids heading ++ texts, (heading, texts, is, are, refl), refl)),
  behind had mid has (header_of form gtids heading ++ texts) (totals_of form (y ∷ ys)) before last,
)

read-as-many : {R : Type 0} (known : R → Option (List ℕ)) (givens : List (GivenLog R)) (logs : List NamedLog) → AreRead known givens logs → length givens ≡ length logs
read-as-many known [] [] are = refl
read-as-many known [] (log ∷ logs) are = absurd are
read-as-many known (given ∷ givens) [] are = absurd are
read-as-many known (given ∷ givens) (log ∷ logs) (is, are) = omega (arith, read-as-many known givens logs are)

-- those that were read are the first of those that are given
front-read : {R : Type 0} (known : R → Option (List ℕ)) (givens later all : List (GivenLog R)) (logs : List NamedLog) → givens ++ later ≡ all → AreRead known givens logs
    → AreRead known (take (length logs) all) logs
front-read known givens later all logs split are =
    subst (λ (front : List (GivenLog _)). AreRead known front logs)
    (sym (take-append_seam givens later) ∙ ap (λ (n : ℕ). take n (givens ++ later)) (read-as-many known givens logs are) ∙ ap (λ (gs : List (GivenLog _)). take (length logs) gs) split) are

pub stopped-before : {R : Type 0} (known : R → Option (List ℕ)) (form : Form) (zone : TimeZone) (gtids : Bool) (heading : List ℕ) (l : Listing) (givens later all : List (GivenLog R)) (n : ℕ)
    (end : Option (ℕ × SumFault)) (totals : Totals) (had has : Option (List ℕ)) → IsHeading zone heading → givens ++ later ≡ all
    → IsGoing known form zone gtids heading l givens n end totals had has → HasBegun known form zone gtids l all had has
stopped-before known form zone gtids heading l givens later all n end totals had has is split g =
    (g.logs, front-read known givens later all g.logs split g.read, begun-before form zone gtids heading (lists_from l 0 g.logs) had has is g.written)

pub stopped-in : {R : Type 0} (known : R → Option (List ℕ)) (form : Form) (zone : TimeZone) (gtids : Bool) (heading : List ℕ) (l : Listing) (givens : List (GivenLog R)) (given : GivenLog R)
    (later all : List (GivenLog R)) (n : ℕ) (end : Option (ℕ × SumFault)) (totals : Totals) (had mid has : Option (List ℕ)) (log : NamedLog) (text : List ℕ) → IsHeading zone heading
    → givens ++ given ∷ later ≡ all → IsGoing known form zone gtids heading l givens n end totals had mid → IsRead known given log → IsLogBegun form zone gtids (length heading) (list_of l n log) text
    → AppendsBeginning mid has (above form n gtids heading ++ text) → HasBegun known form zone gtids l all had has
stopped-in known form zone gtids heading l givens given later all n end totals had mid has log text is split g read of begun =
    let more : lists_from l 0 (g.logs ++ log ∷ []) ≡ lists_from l 0 g.logs ++ list_of l n log ∷ [] =
    lists-more l 0 g.logs log ∙ ap (λ (m : ℕ). lists_from l 0 g.logs ++ list_of l m log ∷ []) (omega (arith, g.number)) in (
      g.logs ++ log ∷ [],
      front-read known (givens ++ given ∷ []) later all (g.logs ++ log ∷ []) (append_assoc givens (given ∷ []) later ∙ split) (read-more known givens g.logs given log g.read read),
      subst (λ (ls : List LogList). AppendsListBeginning form zone gtids ls had has) (sym more)
          (begun-in form zone gtids heading (lists_from l 0 g.logs) (list_of l n log) n had mid has text is (as-many l 0 g.logs ∙ g.number) g.written of begun),
    )

-- nothing is read, and nothing written
pub none-begun : {R : Type 0} (known : R → Option (List ℕ)) (form : Form) (zone : TimeZone) (gtids : Bool) (l : Listing) (all : List (GivenLog R)) (had : Option (List ℕ))
    → HasBegun known form zone gtids l all had had
none-begun known form zone gtids l all had = ([], front-read known [] all all [] refl tt, ([], inl refl, no-more had had [] (Appends-nil had)))

-- a log can't be listed
pub stopped : {R : Type 0} (known : R → Option (List ℕ)) (form : Form) (zone : TimeZone) (gtids : Bool) (heading : List ℕ) (l : Listing) (givens : List (GivenLog R)) (given : GivenLog R)
    (later all : List (GivenLog R)) (n : ℕ) (end : Option (ℕ × SumFault)) (old new : Totals) (had mid has : Option (List ℕ)) (fault : ListFault) → IsHeading zone heading
    → givens ++ given ∷ later ≡ all → n ≡ length givens → IsGoing known form zone gtids heading l givens n end old had mid → ListsOne known form zone gtids heading l n given old new mid has (Err fault)
    → ListsLogs known form zone gtids l all had has (Err (n, fault))
stopped known form zone gtids heading l givens given later all n end old new had mid has (Run f) is split number g (inl same) =
    stopped-before known form zone gtids heading l givens (given ∷ later) all n end old had has is split
    (subst (λ (now : Option (List ℕ)). IsGoing known form zone gtids heading l givens n end old had now) (sym same) g)
stopped known form zone gtids heading l givens given later all n end old new had mid has (Run f) is split number g (inr (log, read, (text, of, begun))) =
    stopped-in known form zone gtids heading l givens given later all n end old had mid has log text is split g read of begun
stopped known form zone gtids heading l givens given later all n end old new had mid has (Unread f) is split number g (same, (log, read, refused)) = (
  (givens, later, given, log, split, sym number, read, refused),
  stopped-before known form zone gtids heading l givens (given ∷ later) all n end old had has is split
      (subst (λ (now : Option (List ℕ)). IsGoing known form zone gtids heading l givens n end old had now) (sym same) g),
)
stopped known form zone gtids heading l givens given later all n end old new had mid has (EndsEarly f) is split number g none = absurd none

-- the totals can't be written
pub stopped-after : {R : Type 0} (known : R → Option (List ℕ)) (form : Form) (zone : TimeZone) (gtids : Bool) (heading : List ℕ) (l : Listing) (givens all : List (GivenLog R)) (n : ℕ)
    (end : Option (ℕ × SumFault)) (totals : Totals) (had mid has : Option (List ℕ)) → IsHeading zone heading → givens ≡ all → n ≢ 0
    → IsGoing known form zone gtids heading l givens n end totals had mid → ((ls : List LogList) → AreTotals totals ls → AppendsBeginning mid has (totals_of form ls))
    → HasBegun known form zone gtids l all had has
stopped-after known form zone gtids heading l givens all n end totals had mid has is same some g last = (
  g.logs,
  front-read known givens [] all g.logs (append-nil givens ∙ same) g.read,
  totals-begun form zone gtids heading (lists_from l 0 g.logs) had mid has is (λ zero. some (omega (arith, as-many l 0 g.logs, g.number, zero))) g.written
      (last (lists_from l 0 g.logs) g.counted),
)

-- those that were taken are all, if none is left
pub all-taken : {X : Type 0} (xs ys zs : List X) → xs ++ ys ≡ zs → length ys ≡ 0 → xs ≡ zs
all-taken xs [] zs split none = sym (append-nil xs) ∙ split
all-taken xs (y ∷ ys) zs split none = absurd (omega (arith, none))

-- a fault of the first log, or of a later one
pub first-or-later : {X F : Type 0} (a b c : X) (n count : ℕ) → n < count → (n ≡ 0 → b ≡ c) → (a ≡ b) ⊎ F → ((0 < n) × (1 < count)) ⊎ (a ≡ c) ⊎ F
first-or-later a b c zero count within same (inl is) = inr (inl (is ∙ same refl))
first-or-later a b c zero count within same (inr may) = inr (inr may)
first-or-later a b c (suc n) count within same may = inl (omega (arith), omega (arith, within))
