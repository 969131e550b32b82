-- What is left of a text when items are printed, with tokens that are held.
use Rattle.std.proofs.Common.{◌≡◌, ℕ, ◌+◌, ◌≤◌, Bool, true, false, not, ◌&&◌, List, [], ◌∷◌, ◌++◌, length, map, codes, refl, sym, ap, ◌∙◌, subst, arith, append_assoc, append-nil, Option, Some, None, if◌then◌else◌}
use Rattle.std.specs.Prelude.{IfSome, is_some, slice_get}
use Rattle.std.specs.Option.{option_map}
use Rattle.std.proofs.lemmas.Bool.{false≢true, true≢false}
use Rattle.std.proofs.lemmas.List.{map-append}
use Rattle.pptext.specs.declared.tokens.Token.{Token}
use Rattle.ppunit.specs.declared.units.Item.{Item}
use Rattle.ppunit.specs.declared.units.Item.TheVariants as item
use Rattle.ppprint.specs.Located.{Numbering, located, pragma_token}
use Rattle.ppprint.specs.Operators.{are_own, destringized, is_own, left_to_compilers, tokens_after, with_operators}
use Rattle.ppprint.specs.Shown.{Location, PragmaToken, Shown, ShowsToken, ShowsPragma, ShowsMark}
use Rattle.ppprint.specs.Text.{Line, empty_line, line_after}
use Rattle.ppprint.specs.code.Held.{are_parts, held_tokens, is_empty, is_part, with_part}
use Rattle.ppprint.specs.code.Progress.{Progress}
use Rattle.ppprint.specs.code.Steps.{IsPragmaStep, step_line, token_step}
use Rattle.ppprint.specs.declared.operators.HeldTokens.{HeldTokens}
use Rattle.ppprint.specs.declared.operators.HeldTokens.TheVariants as held
use Rattle.ppprint.specs.declared.printer.PragmaStep.{PragmaStep}
use Rattle.ppprint.specs.declared.printer.TokenStep.{TokenStep}
use Rattle.ppprint.proofs.HeldOperators as held_operators
use Rattle.ppserve.specs.code.TextPieces.{barred_way, items_left, line_place, own_marker, place_in, pragma_bytes, shown_tokens, text_left, token_bytes, PutsItems, PutsShown}
use Rattle.ppserve.proofs.BarredLines.{pragma_left, placed_way, token_left}
use Rattle.ppserve.proofs.BufferedPrinting.{puts_none, puts_then}

-- ---- one after another

module _ {V : Type 0} {written : V → Option (List ℕ)} {has_failed : V → Bool} where
  pub shown_none : {w : V} {p : List ℕ} {l : Line} → PutsShown written has_failed w w p p l [] l
  shown_none = record { bytes = []; out = puts_none; left = λ rest. refl }

  pub shown_as : {w v : V} {p q : List ℕ} {l m : Line} {xs ys : List Shown} → xs ≡ ys → PutsShown written has_failed w v p q l xs m → PutsShown written has_failed w v p q l ys m
  shown_as {w = w} {v = v} {p = p} {q = q} {l = l} {m = m} e a = let P : List Shown → Type 0 = λ zs. PutsShown written has_failed w v p q l zs m in subst P e a

  pub shown_then : {w v u : V} {p q r : List ℕ} {l m n : Line} {xs ys : List Shown}
      → PutsShown written has_failed w v p q l xs m → PutsShown written has_failed v u q r m ys n → PutsShown written has_failed w u p r l (xs ++ ys) n
  shown_then {l = l} {n = n} {xs = xs} {ys = ys} a b = record {
    bytes = a.bytes ++ b.bytes;
    out = puts_then a.out b.out;
    left = λ rest. ap (text_left l) (append_assoc xs ys rest) ∙ a.left (ys ++ rest) ∙ ap (λ z. a.bytes ++ z) (b.left rest) ∙ sym (append_assoc a.bytes b.bytes (text_left n rest));
  }

  pub items_none : {w : V} {p : List ℕ} {s : Progress} {h : List Token} → PutsItems written has_failed w w p p s h [] s h
  items_none = record { bytes = []; out = puts_none; left = λ rest. refl }

  pub items_then : {w v u : V} {p q r : List ℕ} {s t o : Progress} {g h k : List Token} {xs ys : List Item}
      → PutsItems written has_failed w v p q s g xs t h → PutsItems written has_failed v u q r t h ys o k → PutsItems written has_failed w u p r s g (xs ++ ys) o k
  items_then {s = s} {o = o} {g = g} {k = k} {xs = xs} {ys = ys} a b = record {
    bytes = a.bytes ++ b.bytes;
    out = puts_then a.out b.out;
    left = λ rest. ap (λ z. text_left s.line (items_left s.numbering g z)) (append_assoc xs ys rest) ∙ a.left (ys ++ rest) ∙ ap (λ z. a.bytes ++ z) (b.left rest)
        ∙ sym (append_assoc a.bytes b.bytes (text_left o.line (items_left o.numbering k rest)));
  }

  pub items_as : {w v : V} {p q : List ℕ} {s t : Progress} {g h i k : List Token} {xs ys : List Item} → g ≡ i → h ≡ k → xs ≡ ys
      → PutsItems written has_failed w v p q s g xs t h → PutsItems written has_failed w v p q s i ys t k
  items_as {w = w} {v = v} {p = p} {q = q} {s = s} {t = t} {g = g} {h = h} {i = i} {k = k} {xs = xs} {ys = ys} before after items a =
      let P : List Token → Type 0 = λ z. PutsItems written has_failed w v p q s z xs t h in
      let Q : List Token → Type 0 = λ z. PutsItems written has_failed w v p q s i xs t z in
      let R : List Item → Type 0 = λ z. PutsItems written has_failed w v p q s i z t k in
      subst R items (subst Q after (subst P before a))

  -- printing what is shown of items, where these tokens are held before and after
  pub items_shown : {w v : V} {p q : List ℕ} {s t : Progress} {g h : List Token} {xs : List Item} (shown : List Shown)
      → t.numbering ≡ s.numbering → ((rest : List Item) → items_left s.numbering g (xs ++ rest) ≡ shown ++ items_left s.numbering h rest)
      → PutsShown written has_failed w v p q s.line shown t.line → PutsItems written has_failed w v p q s g xs t h
  items_shown {s = s} {t = t} {h = h} shown same split a = record {
    bytes = a.bytes;
    out = a.out;
    left = λ rest. ap (text_left s.line) (split rest) ∙ a.left (items_left s.numbering h rest) ∙ ap (λ n. a.bytes ++ text_left t.line (items_left n h rest)) (sym same);
  }

  -- printing what is held, and then items
  pub items_behind : {w v u : V} {p q r : List ℕ} {s t o : Progress} {g k : List Token} {xs : List Item} (shown : List Shown)
      → t.numbering ≡ s.numbering → ((rest : List Item) → items_left s.numbering g (xs ++ rest) ≡ shown ++ items_left s.numbering [] (xs ++ rest))
      → PutsShown written has_failed w v p q s.line shown t.line → PutsItems written has_failed v u q r t [] xs o k → PutsItems written has_failed w u p r s g xs o k
  items_behind {s = s} {t = t} {o = o} {k = k} {xs = xs} shown same split a b = record {
    bytes = a.bytes ++ b.bytes;
    out = puts_then a.out b.out;
    left = λ rest. ap (text_left s.line) (split rest) ∙ a.left (items_left s.numbering [] (xs ++ rest)) ∙ ap (λ n. a.bytes ++ text_left t.line (items_left n [] (xs ++ rest))) (sym same)
        ∙ ap (λ z. a.bytes ++ z) (b.left rest) ∙ sym (append_assoc a.bytes b.bytes (text_left o.line (items_left o.numbering k rest)));
  }

-- ---- one token or pragma

pub token_puts : (l : Line) (n : Numbering) (t : Token) (s : TokenStep) (p : Progress) (rest : List Shown)
    → s ≡ token_step l (place_in n t) t → p.line ≡ line_after (step_line l (place_in n t)) t → p.numbering ≡ n
    → text_left l (ShowsToken (place_in n t) t ∷ rest) ≡ barred_way s.way (line_place p) ++ token_bytes s.is_first s.spaces t.text ++ text_left p.line rest
token_puts l n t s p rest step line numbering =
    let at = place_in n t in
    let m = line_after (step_line l at) t in
    let way = (token_step l at t).way in
    let bytes = token_bytes (token_step l at t).is_first (token_step l at t).spaces t.text in
    token_left l at t rest
    ∙ ap (λ z. z ++ bytes ++ text_left m rest) (sym (placed_way l at t))
    ∙ ap (λ (o : Numbering). barred_way way (record { name = o.name; line = m.number; system = m.system }) ++ bytes ++ text_left m rest) (sym numbering)
    ∙ ap (λ (x : Line). barred_way way (record { name = p.numbering.name; line = x.number; system = x.system }) ++ bytes ++ text_left x rest) (sym line)
    ∙ ap (λ (x : TokenStep). barred_way x.way (line_place p) ++ token_bytes x.is_first x.spaces t.text ++ text_left p.line rest) (sym step)

pub pragma_puts : (l : Line) (at : Location) (ts : List PragmaToken) (s : PragmaStep) (m : Line) (rest : List Shown)
    → IsPragmaStep l at s → m ≡ empty_line (at.line + 1) at.system
    → text_left l (ShowsPragma at ts ∷ rest) ≡ barred_way s.way at ++ own_marker s.has_own_marker at ++ codes "|#pragma" ++ pragma_bytes None ts ++ text_left m rest
pragma_puts l at ts s m rest step line =
    let own = is_some (step_line l at).last in
    let tokens = pragma_bytes None ts in
    pragma_left l at ts rest
    ∙ ap (λ x. barred_way x at ++ own_marker own at ++ codes "|#pragma" ++ tokens ++ text_left (empty_line (at.line + 1) at.system) rest) (sym step.way)
    ∙ ap (λ x. barred_way s.way at ++ own_marker x at ++ codes "|#pragma" ++ tokens ++ text_left (empty_line (at.line + 1) at.system) rest) (sym step.has_own_marker)
    ∙ ap (λ x. barred_way s.way at ++ own_marker s.has_own_marker at ++ codes "|#pragma" ++ tokens ++ text_left x rest) (sym line)

-- ---- the preprocessor's own pragmas

pragma_append : (at : Location) (ts : List PragmaToken) (xs ys zs : List Shown) (b : Bool) → zs ≡ xs ++ ys
    → (if b then ShowsPragma at ts ∷ zs else zs) ≡ (if b then ShowsPragma at ts ∷ xs else xs) ++ ys
pragma_append at ts xs ys zs true e = ap (λ z. ShowsPragma at ts ∷ z) e
pragma_append at ts xs ys zs false e = e

pub left_append : (xs ys : List Shown) → left_to_compilers (xs ++ ys) ≡ left_to_compilers xs ++ left_to_compilers ys
left_append [] ys = refl
left_append (ShowsToken at t ∷ xs) ys = ap (λ z. ShowsToken at t ∷ z) (left_append xs ys)
left_append (ShowsMark at turn ∷ xs) ys = ap (λ z. ShowsMark at turn ∷ z) (left_append xs ys)
left_append (ShowsPragma at ts ∷ xs) ys = pragma_append at ts (left_to_compilers xs) (left_to_compilers ys) (left_to_compilers (xs ++ ys)) (not (is_own ts)) (left_append xs ys)

pub left_tokens : (n : Numbering) (ts : List Token) → left_to_compilers (shown_tokens n ts) ≡ shown_tokens n ts
left_tokens n [] = refl
left_tokens n (t ∷ ts) = ap (λ z. ShowsToken (place_in n t) t ∷ z) (left_tokens n ts)

pub is_owned : (at : Location) (ts : List PragmaToken) → is_own ts ≡ true → left_to_compilers (ShowsPragma at ts ∷ []) ≡ []
is_owned at ts e = rw e refl

pub is_left : (at : Location) (ts : List PragmaToken) → is_own ts ≡ false → left_to_compilers (ShowsPragma at ts ∷ []) ≡ ShowsPragma at ts ∷ []
is_left at ts e = rw e refl

pub own_is : (ts : List Token) → are_own (option_map (λ t. t.text) (slice_get ts 0)) (option_map (λ t. t.text) (slice_get ts 1)) ≡ is_own (map pragma_token ts)
own_is [] = refl
own_is (t ∷ []) = refl
own_is (t ∷ u ∷ ts) = refl

-- ---- tokens that are held

pub held_few : (h : HeldTokens) → length (held_tokens h) ≤ 3
held_few held.Nothing = omega arith
held_few (held.Name a) = omega arith
held_few (held.Open a b) = omega arith
held_few (held.Literal a b c) = omega arith

-- none is held, and a token begins no operator
pub passes_is : (h : List Token) (begins : Bool) → true ≡ (is_empty h && not begins) → (h ≡ []) × (begins ≡ false)
passes_is [] true e = absurd (true≢false e)
passes_is [] false e = (refl, refl)
passes_is (t ∷ ts) begins e = absurd (true≢false e)

-- a token that is held, too
pub held_split : (n : Numbering) (ts : List Token) (t : Token) (rest : List Item) → items_left n ts (item.Token t ∷ rest) ≡ items_left n (ts ++ t ∷ []) rest
held_split n ts t rest =
    let shows : Token → Shown = λ u. ShowsToken (place_in n u) u in
    ap (λ z. left_to_compilers (with_operators 0 z)) (sym (ap (λ z. z ++ located n rest) (map-append shows ts (t ∷ [])) ∙ append_assoc (shown_tokens n ts) (shown_tokens n (t ∷ [])) (located n rest)))

-- a token that begins no operator
pub token_split : (n : Numbering) (t : Token) (rest : List Item) → is_part 0 t ≡ false → items_left n [] (item.Token t ∷ rest) ≡ shown_tokens n (t ∷ []) ++ items_left n [] rest
token_split n t rest e = ap left_to_compilers (held_operators.token_passes (place_in n t) t (located n rest) e)

-- a token that breaks what is held
pub broken_split : (n : Numbering) (ts : List Token) (t : Token) (rest : List Item) → length ts ≤ 3 → are_parts 0 ts ≡ true → is_part (length ts) t ≡ false
    → items_left n ts (item.Token t ∷ rest) ≡ shown_tokens n ts ++ items_left n [] (item.Token t ∷ rest)
broken_split n ts t rest few parts e =
    let more = with_operators 0 (ShowsToken (place_in n t) t ∷ located n rest) in
    ap left_to_compilers (held_operators.broken (place_in n) ts t (located n rest) few parts e)
    ∙ left_append (shown_tokens n ts) more
    ∙ ap (λ z. z ++ left_to_compilers more) (left_tokens n ts)

-- a pragma behind what is held
pub pragma_split : (n : Numbering) (ts : List Token) (i : Shown) (at : Location) (us : List PragmaToken) (items : List Shown) → i ≡ ShowsPragma at us → length ts ≤ 3
    → left_to_compilers (with_operators 0 (shown_tokens n ts ++ i ∷ items)) ≡ (shown_tokens n ts ++ left_to_compilers (i ∷ [])) ++ left_to_compilers (with_operators 0 items)
pragma_split n ts i at us items is few =
    let more = with_operators 0 items in
    rw is (ap left_to_compilers (held_operators.before_pragma (place_in n) ts at us items few)
    ∙ left_append (shown_tokens n ts) (ShowsPragma at us ∷ more)
    ∙ ap (λ z. z ++ left_to_compilers (ShowsPragma at us ∷ more)) (left_tokens n ts)
    ∙ ap (λ z. shown_tokens n ts ++ z) (left_append (ShowsPragma at us ∷ []) more)
    ∙ sym (append_assoc (shown_tokens n ts) (left_to_compilers (ShowsPragma at us ∷ [])) (left_to_compilers more)))

-- the end behind what is held
pub end_split : (n : Numbering) (ts : List Token) → length ts ≤ 3 → items_left n ts [] ≡ shown_tokens n ts
end_split n ts few =
    ap (λ z. left_to_compilers (with_operators 0 z)) (append-nil (shown_tokens n ts)) ∙ ap left_to_compilers (held_operators.at_end (place_in n) ts few) ∙ left_tokens n ts

pub shown_joined : (n : Numbering) (xs ys zs ts : List Token) → xs ++ (ys ++ zs) ≡ ts → shown_tokens n xs ++ (shown_tokens n ys ++ shown_tokens n zs) ≡ shown_tokens n ts
shown_joined n xs ys zs ts e =
    let shows : Token → Shown = λ u. ShowsToken (place_in n u) u in
    ap (λ z. shown_tokens n xs ++ z) (sym (map-append shows ys zs)) ∙ sym (map-append shows xs (ys ++ zs)) ∙ ap (shown_tokens n) e

-- ---- what a token makes of those that are held

part_of : (b : Bool) (ts us : List Token) → Some us ≡ (if b then Some ts else None) → (b ≡ true) × (us ≡ ts)
part_of true ts us e = (refl, Some_is e)
  where
    Some_is : Some us ≡ Some ts → us ≡ ts
    Some_is f = ap (λ (o : Option (List Token)). elim o [ Some vs ↦ vs | None ↦ us ]) f
part_of false ts us e = absurd (true≢false (ap is_some e))

-- the tokens that it is held with, or that it forms an operator with
pub next_part : (ts us : List Token) (t : Token) → Some us ≡ with_part ts t → are_parts 0 ts ≡ true → (us ≡ ts ++ t ∷ []) × (are_parts 0 us ≡ true)
next_part ts us t e parts =
    let both = part_of (is_part (length ts) t) (ts ++ t ∷ []) us e in
    let same : 0 + length ts ≡ length ts = omega arith in
    (both.1, ap (are_parts 0) both.1 ∙ held_operators.parts_more 0 ts t parts (ap (λ n. is_part n t) same ∙ both.0))

pub no_part : (ts : List Token) (t : Token) → None ≡ with_part ts t → is_part (length ts) t ≡ false
no_part ts t e = by_part (is_part (length ts) t) e
  where
    by_part : (b : Bool) → None ≡ (if b then Some (ts ++ t ∷ []) else None) → b ≡ false
    by_part true f = absurd (false≢true (ap is_some f))
    by_part false f = refl

-- ---- the four tokens of an operator

pub operator_split : (n : Numbering) (a b c d : Token) (items : List Shown) → are_parts 0 (a ∷ b ∷ c ∷ d ∷ []) ≡ true
    → with_operators 0 (shown_tokens n (a ∷ b ∷ c ∷ d ∷ []) ++ items) ≡ with_operators 0 (shown_tokens n (a ∷ b ∷ c ∷ d ∷ [])) ++ with_operators 0 items
operator_split n a b c d items parts = by_text (tokens_after 0 true (destringized c.text)) refl
  where
    by_text : (r : Option (List PragmaToken)) → tokens_after 0 true (destringized c.text) ≡ r
        → with_operators 0 (shown_tokens n (a ∷ b ∷ c ∷ d ∷ []) ++ items) ≡ with_operators 0 (shown_tokens n (a ∷ b ∷ c ∷ d ∷ [])) ++ with_operators 0 items
    by_text (Some us) e = held_operators.operator_makes (place_in n) a b c d items parts us e ∙ sym (ap (λ z. z ++ with_operators 0 items) (held_operators.operator_makes (place_in n) a b c d [] parts us e))
    by_text None e = held_operators.operator_stays (place_in n) a b c d items parts e ∙ sym (ap (λ z. z ++ with_operators 0 items) (held_operators.operator_stays (place_in n) a b c d [] parts e))

-- ---- the tokens of an operator's text

module _ {A : Type 0} where
  pub if_some : (r : Option A) (P : A → Type 0) → ((x : A) → r ≡ Some x → P x) → IfSome r P
  if_some (Some x) P f = f x refl
  if_some None P f = tt

  pub some_at : (r : Option A) (P : A → Type 0) (x : A) → r ≡ Some x → IfSome r P → P x
  some_at r P x e h = subst (λ o. IfSome o P) e h

  pub some_of : (r : Option A) → is_some r ≡ true → (x : A) × (r ≡ Some x)
  some_of (Some x) e = (x, refl)
  some_of None e = absurd (false≢true e)

  pub none_of : (r : Option A) → is_some r ≡ false → r ≡ None
  none_of (Some x) e = absurd (true≢false e)
  none_of None e = refl

  Some_inside : (x y : A) → Some x ≡ Some y → x ≡ y
  Some_inside x y e = ap (λ (o : Option A). elim o [ Some z ↦ z | None ↦ x ]) e

pub left_more : {A : Type 0} (r : Option (List A)) (x : A) (us : List A) → Some us ≡ option_map (λ vs. x ∷ vs) r → (vs : List A) × ((r ≡ Some vs) × (us ≡ x ∷ vs))
left_more (Some vs) x us e = (vs, (refl, Some_inside us (x ∷ vs) e))
left_more None x us e = absurd (true≢false (ap is_some e))

pub left_none : {A : Type 0} (b : Bool) (us : List A) → Some us ≡ (if b then None else Some []) → us ≡ []
left_none true us e = absurd (true≢false (ap is_some e))
left_none false us e = Some_inside us [] e

-- the tokens of an operator behind its first three
pub whole_split : (n : Numbering) (ts : List Token) (t a b c d : Token) (rest : List Item) → (a ∷ b ∷ c ∷ d ∷ []) ≡ ts ++ t ∷ [] → are_parts 0 (a ∷ b ∷ c ∷ d ∷ []) ≡ true
    → items_left n ts (item.Token t ∷ rest) ≡ left_to_compilers (with_operators 0 (shown_tokens n (a ∷ b ∷ c ∷ d ∷ []))) ++ items_left n [] rest
whole_split n ts t a b c d rest e parts =
    held_split n ts t rest
    ∙ ap (λ z. items_left n z rest) (sym e)
    ∙ ap left_to_compilers (operator_split n a b c d (located n rest) parts)
    ∙ left_append (with_operators 0 (shown_tokens n (a ∷ b ∷ c ∷ d ∷ []))) (with_operators 0 (located n rest))
