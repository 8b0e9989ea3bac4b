-- Events that are appended to a log one after the other.
use Rattle.std.proofs.Common.{◌≡◌, ℕ, ◌+◌, ◌<◌, ◌≤◌, List, [], ◌∷◌, ◌++◌, length, Result, Ok, Err, refl, sym, ap, ap₂, subst, ◌∙◌, add-one, append-nil, append_assoc, drop, drop-cons, get_or, arith}
use Rattle.std.specs.Prelude.{⊤}
use Rattle.std.specs.List.{flat_map}
use Rattle.blog_event.specs.Event.{Event, event_size, event_text}
use Rattle.blog_event.specs.File.{end_of}
use Rattle.blog_flash.specs.code.LaidOut.{text_from}
use Rattle.blog_flash.proofs.Lengths.{end-total, text-end}
use Rattle.blog_net.specs.Net.{update_events}
use Rattle.blog_net.specs.declared.fault.NetFault.{NetFault}
use Rattle.blog_net.specs.declared.fault.NetFault.TheVariants.{OutOfMemory, TooLong, Unfit}
use Rattle.blog_net.specs.declared.update.NetUpdate.{NetUpdate}
use Rattle.blog_net.specs.code.PutView.{IsPut, Puts, Refuses}

-- ---- texts

texts-append : (n : ℕ) (es fs : List Event) → text_from n (es ++ fs) ≡ text_from n es ++ text_from (end_of n es) fs
texts-append n [] fs = refl
texts-append n (e ∷ es) fs =
    let text = event_text (record e { log_pos = n + event_size e }) in
    ap (λ (ts : List ℕ). text ++ ts) (texts-append (n + event_size e) es fs) ∙ sym (append_assoc text (text_from (n + event_size e) es) (text_from (end_of (n + event_size e) es) fs))

end-append : (n : ℕ) (es fs : List Event) → end_of n (es ++ fs) ≡ end_of (end_of n es) fs
end-append n [] fs = refl
end-append n (e ∷ es) fs = end-append (n + event_size e) es fs

-- ---- what is put

put-end : (old new : List ℕ) (es : List Event) → IsPut old es new → length new ≡ end_of (length old) es
put-end old new es put = ap length put.0 ∙ text-end old es

pub put_none : (old : List ℕ) → length old ≤ 4294967295 → IsPut old [] old
put_none old short = (sym (append-nil old), short)

pub put-more : (a b c : List ℕ) (es fs : List Event) → IsPut a es b → IsPut b fs c → IsPut a (es ++ fs) c
put-more a b c es fs one other = (
  other.0
      ∙ ap₂ (λ (front : List ℕ) (n : ℕ). front ++ text_from n fs) one.0 (put-end a b es one)
      ∙ append_assoc a (text_from (length a) es) (text_from (end_of (length a) es) fs)
      ∙ ap (λ (text : List ℕ). a ++ text) (sym (texts-append (length a) es fs)),
  other.1,
)

-- ---- what isn't

long-more : (n : ℕ) (es fs : List Event) → 4294967295 < end_of n es → 4294967295 < end_of n (es ++ fs)
long-more n es fs long = let both = end-append n es fs in let more = end-total (end_of n es) fs in omega (arith, long, both, more)

pub refuses-more : (a : List ℕ) (es fs : List Event) (fault : NetFault) → Refuses a es fault → Refuses a (es ++ fs) fault
refuses-more a es fs OutOfMemory refused = tt
refuses-more a es fs TooLong refused = long-more (length a) es fs refused
refuses-more a es fs Unfit refused = refused

pub refuses-behind : (a b : List ℕ) (es fs : List Event) (fault : NetFault) → IsPut a es b → Refuses b fs fault → Refuses a (es ++ fs) fault
refuses-behind a b es fs OutOfMemory put refused = tt
refuses-behind a b es fs TooLong put refused = subst (λ (n : ℕ). 4294967295 < n) (ap (λ (n : ℕ). end_of n fs) (put-end a b es put) ∙ sym (end-append (length a) es fs)) refused
refuses-behind a b es fs Unfit put refused = refused

-- behind what is put, others are put or refused
pub puts-behind : (a b c : List ℕ) (es fs : List Event) (result : Result ⊤ NetFault) → IsPut a es b → Puts b fs c result → Puts a (es ++ fs) c result
puts-behind a b c es fs (Ok done) one other = put-more a b c es fs one other
puts-behind a b c es fs (Err fault) one refused = refuses-behind a b es fs fault one refused

-- ---- what is left

-- so much is written of all, and these are left
pub record IsLeft (old : List ℕ) (whole : List Event) (new : List ℕ) (rest : List Event) : Type 0 where
  pub text : new ++ text_from (length new) rest ≡ old ++ text_from (length old) whole
  pub short : length new ≤ 4294967295

pub left-more : (old a b : List ℕ) (whole es rest left : List Event) → left ≡ es ++ rest → IsPut a es b → IsLeft old whole a left → IsLeft old whole b rest
left-more old a b whole es rest left is put h = record {
  text = ap₂ (λ (front : List ℕ) (n : ℕ). front ++ text_from n rest) put.0 (put-end a b es put)
      ∙ append_assoc a (text_from (length a) es) (text_from (end_of (length a) es) rest)
      ∙ ap (λ (text : List ℕ). a ++ text) (sym (texts-append (length a) es rest))
      ∙ ap (λ fs. a ++ text_from (length a) fs) (sym is)
      ∙ h.text;
  short = put.1;
}

pub left-refused : (old a : List ℕ) (whole es rest left : List Event) (fault : NetFault) → left ≡ es ++ rest → Refuses a es fault → IsLeft old whole a left → Refuses old whole fault
left-refused old a whole es rest left OutOfMemory is refused h = tt
left-refused old a whole es rest left TooLong is refused h =
    let same = sym (text-end a left) ∙ ap length h.text ∙ text-end old whole in
    let long = long-more (length a) es rest refused in
    subst (λ (n : ℕ). 4294967295 < n) (ap (end_of (length a)) (sym is) ∙ same) long
left-refused old a whole es rest left Unfit is refused h = refused

-- ---- updates from a number on

first-update : (us : List NetUpdate) (i : ℕ) (d : NetUpdate) → i < length us → flat_map update_events (drop i us) ≡ update_events (get_or us i d) ++ flat_map update_events (drop (i + 1) us)
first-update us i d within = ap (flat_map update_events) (drop-cons us i d within ∙ ap (λ (n : ℕ). get_or us i d ∷ drop n us) (sym (add-one i)))

-- one of them is put
pub left-update : (old a b : List ℕ) (us : List NetUpdate) (i : ℕ) (d : NetUpdate) → i < length us → IsPut a (update_events (get_or us i d)) b
    → IsLeft old (flat_map update_events us) a (flat_map update_events (drop i us)) → IsLeft old (flat_map update_events us) b (flat_map update_events (drop (i + 1) us))
left-update old a b us i d within put h =
    left-more old a b (flat_map update_events us) (update_events (get_or us i d)) (flat_map update_events (drop (i + 1) us)) (flat_map update_events (drop i us)) (first-update us i d within) put h

-- or refused
pub update-refused : (old a : List ℕ) (us : List NetUpdate) (i : ℕ) (d : NetUpdate) (fault : NetFault) → i < length us → Refuses a (update_events (get_or us i d)) fault
    → IsLeft old (flat_map update_events us) a (flat_map update_events (drop i us)) → Refuses old (flat_map update_events us) fault
update-refused old a us i d fault within refused h =
    left-refused old a (flat_map update_events us) (update_events (get_or us i d)) (flat_map update_events (drop (i + 1) us)) (flat_map update_events (drop i us)) fault (first-update us i d within) refused h
