-- Printing texts one after another through a buffer.
use Rattle.std.proofs.Common.{◌≡◌, ℕ, ◌+◌, ◌<◌, ◌≤◌, Bool, true, false}
use Rattle.std.proofs.Common.{List, [], ◌∷◌, ◌++◌, length, get_or, take, drop, flat_map, refl, sym, ap, ◌∙◌, subst, append_assoc, append-nil, take-append-drop, Option}
use Rattle.std.proofs.lemmas.Bool.{false≢true}
use Rattle.std.proofs.lemmas.List.{take_all, take_more, flat_map_more}
use lib.Seq.{take-append_seam}
use Rattle.std.proofs.KnownBytes.{Appends-nil, Appends-trans}
use Rattle.std.specs.Io.KnownBytes.{Appends}
use Rattle.ppserve.specs.code.Printing.{Puts}
use Rattle.ppserve.proofs.KnownStreamBytes.{appends_as}

-- Text that fits into the buffer is put there, and nothing is written.
pub puts_here : {V : Type 0} {written : V → Option (List ℕ)} {has_failed : V → Bool} {w : V} {p q text : List ℕ} → q ≡ p ++ text → Puts written has_failed w w p q text
puts_here {written = written} {w = w} {p = p} {q = q} {text = text} e = record {
  prefix = [];
  rest = p ++ text;
  parts = refl;
  appends = Appends-nil (written w);
  unwritten = λ _. sym e;
  stays_failed = λ f. (refl, f);
}

pub puts_none : {V : Type 0} {written : V → Option (List ℕ)} {has_failed : V → Bool} {w : V} {p : List ℕ} → Puts written has_failed w w p p []
puts_none {p = p} = puts_here (sym (append-nil p))

pub puts_as : {V : Type 0} {written : V → Option (List ℕ)} {has_failed : V → Bool} {w v : V} {p q s t : List ℕ} → s ≡ t → Puts written has_failed w v p q s → Puts written has_failed w v p q t
puts_as {written = written} {has_failed = has_failed} {w = w} {v = v} {p = p} {q = q} e h = let P : List ℕ → Type 0 = λ s. Puts written has_failed w v p q s in subst P e h

-- Printing one text and then another prints their concatenation.
pub puts_then : {V : Type 0} {written : V → Option (List ℕ)} {has_failed : V → Bool} {w v u : V} {p q r s t : List ℕ}
    → Puts written has_failed w v p q s → Puts written has_failed v u q r t → Puts written has_failed w u p r (s ++ t)
puts_then {written = written} {has_failed = has_failed} {w = w} {v = v} {u = u} {p = p} {q = q} {r = r} {s = s} {t = t} a b = by_case (has_failed v) refl
  where
    first : p ++ (s ++ t) ≡ a.prefix ++ (a.rest ++ t)
    first = sym (append_assoc p s t) ∙ (ap (λ l. l ++ t) a.parts ∙ append_assoc a.prefix a.rest t)

    by_case : (f : Bool) → has_failed v ≡ f → Puts written has_failed w u p r (s ++ t)
    by_case false e =
        let unwritten = a.unwritten e in
        record {
          prefix = a.prefix ++ b.prefix;
          rest = b.rest;
          parts = first ∙ (ap (λ l. a.prefix ++ l) (ap (λ l. l ++ t) unwritten ∙ b.parts) ∙ sym (append_assoc a.prefix b.prefix b.rest));
          appends = Appends-trans _ _ _ _ _ a.appends b.appends;
          unwritten = b.unwritten;
          stays_failed = λ f. absurd (false≢true (sym e ∙ (a.stays_failed f).1));
        }
    by_case true e =
        let none = (b.stays_failed e).0 in
        record {
          prefix = a.prefix ++ b.prefix;
          rest = a.rest ++ t;
          parts = first ∙ ap (λ l. l ++ (a.rest ++ t)) (sym (ap (λ l. a.prefix ++ l) none ∙ append-nil a.prefix));
          appends = Appends-trans _ _ _ _ _ a.appends b.appends;
          unwritten = λ f. absurd (false≢true (sym f ∙ (b.stays_failed e).1));
          stays_failed = λ f. (rw ((a.stays_failed f).0, none) refl, (b.stays_failed e).1);
        }

-- After a failed write, printing writes nothing.
pub puts_failed : {V : Type 0} {written : V → Option (List ℕ)} {has_failed : V → Bool} {w : V} {p text : List ℕ} → has_failed w ≡ true → Puts written has_failed w w p p text
puts_failed {written = written} {w = w} {p = p} {text = text} failed = record {
  prefix = [];
  rest = p ++ text;
  parts = refl;
  appends = Appends-nil (written w);
  unwritten = λ f. absurd (false≢true (sym f ∙ failed));
  stays_failed = λ _. (refl, failed);
}

-- Putting a text into an empty buffer and then flushing the buffer prints the text.
pub puts_flushed : {V : Type 0} {written : V → Option (List ℕ)} {has_failed : V → Bool} {w v u x : V} {p q r s text : List ℕ}
    → p ≡ [] → Puts written has_failed w v p q text → u ≡ v → r ≡ q → Puts written has_failed u x r s [] → s ≡ []
    → Puts written has_failed w x [] [] text
puts_flushed {written = written} {has_failed = has_failed} {w = w} {x = x} {p = p} {s = s} {text = text} none_before a same_writer same_buffer b none_after =
    let flushed = rw (same_writer, same_buffer) at b in
    let both : Puts written has_failed w x p s text = puts_as (append-nil text) (puts_then a flushed) in
    rw (none_before, none_after) at both

-- `flat_map` of a list with one element appended
pub more_of : {A B : Type 0} (f : A → List B) (xs : List A) (x : A) → flat_map f (xs ++ x ∷ []) ≡ flat_map f xs ++ f x
more_of f xs x = sym (flat_map_more f [] xs x)

-- If a loop has printed the first `i` elements and prints element `i`, it has printed `i + 1`.
pub puts_turn : {V A : Type 0} {written : V → Option (List ℕ)} {has_failed : V → Bool} {w v u : V} {p q r t : List ℕ}
    → (whole : List A → List ℕ) (xs : List A) (i : ℕ) (d x : A) → i < length xs → x ≡ get_or xs i d
    → ((before : List A) → whole (before ++ x ∷ []) ≡ whole before ++ t)
    → Puts written has_failed w v p q (whole (take i xs)) → Puts written has_failed v u q r t
    → Puts written has_failed w u p r (whole (take (i + 1) xs))
puts_turn {t = t} whole xs i d x h is more a b =
    let prefix : take (i + 1) xs ≡ take i xs ++ x ∷ [] = take_more xs i d h ∙ ap (λ y. take i xs ++ y ∷ []) (sym is) in
    puts_as (sym (ap whole prefix ∙ more (take i xs))) (puts_then a b)

-- At the end of a printing loop, all elements are printed.
pub puts_all : {V A : Type 0} {written : V → Option (List ℕ)} {has_failed : V → Bool} {w v : V} {p q : List ℕ}
    → (whole : List A → List ℕ) (xs : List A) (i : ℕ) → length xs ≤ i
    → Puts written has_failed w v p q (whole (take i xs))
    → Puts written has_failed w v p q (whole xs)
puts_all whole xs i h a = puts_as (ap whole (take_all i xs h)) a

-- If the buffer is empty at the start and the end, and no write failed, the whole text was written.
pub printed_all : {V : Type 0} {written : V → Option (List ℕ)} {has_failed : V → Bool} {w v : V} {p q text : List ℕ}
    → p ≡ [] → q ≡ [] → has_failed v ≡ false → Puts written has_failed w v p q text → Appends (written w) (written v) text
printed_all {written = written} {w = w} {v = v} {p = p} {q = q} {text = text} none empty e a =
    let whole : text ≡ a.prefix ++ a.rest = ap (λ bs. bs ++ text) (sym none) ∙ a.parts in
    let all : a.prefix ≡ text = sym (whole ∙ ap (λ bs. a.prefix ++ bs) (a.unwritten e ∙ empty) ∙ append-nil a.prefix) in
    appends_as _ _ _ _ all a.appends

-- If the buffer was empty at the start, a prefix of the text was written.
pub printed_front : {V : Type 0} {written : V → Option (List ℕ)} {has_failed : V → Bool} {w v : V} {p q text : List ℕ}
    → p ≡ [] → Puts written has_failed w v p q text → (n : ℕ) × Appends (written w) (written v) (take n text)
printed_front {written = written} {w = w} {v = v} {p = p} {q = q} {text = text} none a =
    let whole : text ≡ a.prefix ++ a.rest = ap (λ bs. bs ++ text) (sym none) ∙ a.parts in
    let prefix : a.prefix ≡ take (length a.prefix) text = sym (ap (take (length a.prefix)) whole ∙ take-append_seam a.prefix a.rest) in
    (length a.prefix, appends_as _ _ _ _ prefix a.appends)

-- `Puts` from a buffer that is empty to one that is empty.
pub puts_whole : {V : Type 0} {written : V → Option (List ℕ)} {has_failed : V → Bool} {w v : V} {p q text : List ℕ}
    → p ≡ [] → q ≡ [] → Puts written has_failed w v p q text → Puts written has_failed w v [] [] text
puts_whole {written = written} {has_failed = has_failed} {w = w} {v = v} {q = q} {text = text} none empty a =
    let P : List ℕ → Type 0 = λ p. Puts written has_failed w v p q text in
    let Q : List ℕ → Type 0 = λ q. Puts written has_failed w v [] q text in
    subst Q empty (subst P none a)

-- `Puts` from empty buffer to empty buffer, restated for a `p` that is empty
pub puts_onto : {V : Type 0} {written : V → Option (List ℕ)} {has_failed : V → Bool} {w v : V} {p text : List ℕ}
    → p ≡ [] → Puts written has_failed w v [] [] text → Puts written has_failed w v p p text
puts_onto {written = written} {has_failed = has_failed} {w = w} {v = v} {text = text} e h = let P : List ℕ → Type 0 = λ p. Puts written has_failed w v p p text in subst P (sym e) h

-- If a write fails after `n` bytes, `Puts` holds: a prefix of the text was written.
pub puts_broken : {V : Type 0} {written : V → Option (List ℕ)} {has_failed : V → Bool} {w v : V} {bytes : List ℕ} (n : ℕ)
    → has_failed w ≡ false → has_failed v ≡ true → Appends (written w) (written v) (take n bytes) → Puts written has_failed w v [] [] bytes
puts_broken {bytes = bytes} n was now appends = record {
  prefix = take n bytes;
  rest = drop n bytes;
  parts = sym (take-append-drop n bytes);
  appends = appends;
  unwritten = λ f. absurd (false≢true (sym f ∙ now));
  stays_failed = λ f. absurd (false≢true (sym was ∙ f));
}

-- A line of four parts that fits into the buffer is put there.
pub puts_joined : {V : Type 0} {written : V → Option (List ℕ)} {has_failed : V → Bool} {w : V} {q : List ℕ} (p word prefix spelling end : List ℕ)
    → q ≡ p ++ word ++ prefix ++ spelling ++ end → Puts written has_failed w w p q (word ++ prefix ++ spelling ++ end)
puts_joined p word prefix spelling end e =
    let front_too = append_assoc p word prefix in
    let spelling_too = append_assoc p (word ++ prefix) spelling in
    let end_too = append_assoc p (word ++ prefix ++ spelling) end in
    puts_here (e ∙ (ap (λ l. l ++ spelling ++ end) front_too ∙ (ap (λ l. l ++ end) spelling_too ∙ end_too)))
