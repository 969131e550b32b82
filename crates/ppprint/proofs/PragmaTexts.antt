-- The lexeme that begins a text, and the tokens of a pragma with this text.
use Rattle.std.proofs.Common.{◌≡◌, ℕ, zero, suc, ◌+◌, ◌-◌, ◌<◌, ◌≤◌, Bool, true, false, not, ◌||◌, ◌&&◌, ◌==◌, List, [], ◌∷◌, length, take, drop}
use Rattle.std.proofs.Common.{refl, sym, ap, ◌∙◌, subst, inl, inr, ◌⊎◌, arith, if◌then◌else◌, Option, Some, None}
use Rattle.std.specs.Prelude.{unwrap_or, codes, slice_index}
use Rattle.std.specs.List.{prefix_len}
use Rattle.std.specs.Option.{option_map}
use Rattle.std.specs.Str.{bytes_eq}
use Rattle.std.proofs.lemmas.Bool.{false≢true, cases_Bool, cases_eq, and_parts}
use Rattle.std.proofs.lemmas.Bool.Decides.{nat_tests}
use Rattle.std.proofs.lemmas.Slice.Eq.{bytes_eq-Decides}
use Rattle.memchr.specs.Find.{OccursAt, IsFirstByte, is_byte}
use Rattle.pptext.specs.declared.sources.Profile.TheVariants.{C11}
use Rattle.pptext.specs.declared.tokens.Kind.{Kind}
use Rattle.pptext.specs.Spellings.{is_blank, IsSpelling, Spells}
use Rattle.pptext.specs.Kinds.{spelled_kind, unmatched_quote_test}
use Rattle.pptext.specs.Lexemes.{NewLine, Blank, Comment, Spelled, CommentAt, PlainTokenAt, BeginsWith, OpensBlock, ClosesAt}
use Rattle.pptext.specs.code.FoundLexemes.{AreBlanks, FindsLexeme}
use Rattle.pptext.proofs.KindUniqueness.{begins, is_visible, one_kind, spelling_visible}
use Rattle.pptext.proofs.TextKinds.{HasKind, spelled_kind_is}
use Rattle.ppprint.specs.Operators.{Beginning, Blanks, Begins, Breaks, beginning, comment_beginning, longest_token, pragma_token_of, through_close, token_beginning, tokens_after}
use Rattle.ppprint.specs.Shown.{PragmaToken}
use Rattle.ppprint.specs.code.PragmaText.{HasFront, with_first}
use Rattle.ppprint.specs.declared.pragma_tokens.Front.TheVariants as front

-- ---- the longest token

no_kind : (s : List ℕ) → ((k : Kind) → Spells k s → ⊥) → spelled_kind s ≡ None
no_kind s none = go (spelled_kind s) (spelled_kind_is s)
  where
    go : (o : Option Kind) → HasKind s o → o ≡ None
    go None has = refl
    go (Some k) has = absurd (none k has)

the_kind : (s : List ℕ) (k : Kind) → Spells k s → spelled_kind s ≡ Some k
the_kind s k h = go (spelled_kind s) (spelled_kind_is s)
  where
    go : (o : Option Kind) → HasKind s o → o ≡ Some k
    go None has = absurd (has k h)
    go (Some l) has = ap Some (one_kind s l k has h)

longest_is : (text : List ℕ) (n : ℕ) (k : Kind) → 0 < n → Spells k (take n text) → (m : ℕ) → n ≤ m → ((j : ℕ) → n < j → j ≤ m → IsSpelling (take j text) → ⊥) → longest_token m text ≡ Some (k, n)
longest_is text n k some h zero le none = absurd (omega arith)
longest_is text n k some h (suc m) le none =
    go (cases_eq n (suc m)) (λ fits. longest_is text n k some h m fits (λ j lt below s. none j lt (omega arith) s))
  where
    choose : Option Kind → Option (Kind × ℕ)
    choose o = elim o [ Some l ↦ Some (l, suc m) | None ↦ longest_token m text ]

    go : (n ≡ suc m) ⊎ (n ≡ suc m → ⊥) → (n ≤ m → longest_token m text ≡ Some (k, n)) → longest_token (suc m) text ≡ Some (k, n)
    go (inl e) shorter = ap choose (the_kind (take (suc m) text) k (subst (λ z. Spells k (take z text)) e h)) ∙ ap (λ z. Some (k, z)) (sym e)
    go (inr other) shorter = ap choose (no_kind (take (suc m) text) (λ l s. none (suc m) (omega arith) (omega arith) (l, s))) ∙ shorter (omega arith)

-- ---- the first `*/`

abbrev is_close : ℕ → ℕ → Bool
is_close c d = c == 42 && d == 47

equal : (a b : ℕ) → (a == b) ≡ true → a ≡ b
equal a b e = grind (arith, nat_tests)

occurs_here : (c d : ℕ) (cs : List ℕ) → is_close c d ≡ true → OccursAt (c ∷ d ∷ cs) (codes "*/") 0
occurs_here c d cs e = record { fits = omega arith; reads = reads }
  where
    parts : (c == 42 ≡ true) × (d == 47 ≡ true)
    parts = and_parts (c == 42) (d == 47) e

    reads : (j : ℕ) → j < 2 → slice_index (c ∷ d ∷ cs) (0 + j) ≡ slice_index (codes "*/") j
    reads zero lt = equal c 42 parts.0
    reads (suc zero) lt = equal d 47 parts.1
    reads (suc (suc j)) lt = absurd (omega arith)

is_here : (c d : ℕ) (cs : List ℕ) → OccursAt (c ∷ d ∷ cs) (codes "*/") 0 → is_close c d ≡ true
is_here c d cs at =
    let first : c ≡ 42 = at.reads 0 (omega arith) in
    let second : d ≡ 47 = at.reads 1 (omega arith) in
    rw (first, second) refl

occurs_later : (c : ℕ) (cs : List ℕ) (k : ℕ) → OccursAt cs (codes "*/") k → OccursAt (c ∷ cs) (codes "*/") (suc k)
occurs_later c cs k at = record {
  fits = let h : k + 2 ≤ length cs = at.fits in omega arith;
  reads = λ j lt. let e : suc k + j ≡ suc (k + j) = omega arith in ap (slice_index (c ∷ cs)) e ∙ at.reads j lt;
}

occurs_before : (c : ℕ) (cs : List ℕ) (k : ℕ) → OccursAt (c ∷ cs) (codes "*/") (suc k) → OccursAt cs (codes "*/") k
occurs_before c cs k at = record {
  fits = let h : suc k + 2 ≤ suc (length cs) = at.fits in omega arith;
  reads = λ j lt. let e : suc (k + j) ≡ suc k + j = omega arith in ap (slice_index (c ∷ cs)) e ∙ at.reads j lt;
}

abbrev one_more : Option ℕ → Option ℕ
one_more r = option_map (λ n. n + 1) r

choose_later : (c d : ℕ) (cs : List ℕ) → is_close c d ≡ false → through_close (c ∷ d ∷ cs) ≡ one_more (through_close (d ∷ cs))
choose_later c d cs e = ap (λ (b : Bool). if b then Some 2 else one_more (through_close (d ∷ cs))) e

no_close : (cs : List ℕ) → ((k : ℕ) → OccursAt cs (codes "*/") k → ⊥) → through_close cs ≡ None
no_close [] none = refl
no_close (c ∷ []) none = refl
no_close (c ∷ d ∷ cs) none = here (cases_Bool (is_close c d)) (no_close (d ∷ cs) (λ k at. none (suc k) (occurs_later c (d ∷ cs) k at)))
  where
    here : (is_close c d ≡ true) ⊎ (is_close c d ≡ false) → through_close (d ∷ cs) ≡ None → through_close (c ∷ d ∷ cs) ≡ None
    here (inl e) later = absurd (none 0 (occurs_here c d cs e))
    here (inr e) later = choose_later c d cs e ∙ ap one_more later

first_close : (cs : List ℕ) (k : ℕ) → OccursAt cs (codes "*/") k → ((j : ℕ) → j < k → OccursAt cs (codes "*/") j → ⊥) → through_close cs ≡ Some (k + 2)
first_close [] k at before = absurd (let h : k + 2 ≤ 0 = at.fits in omega arith)
first_close (c ∷ []) k at before = absurd (let h : k + 2 ≤ 1 = at.fits in omega arith)
first_close (c ∷ d ∷ cs) zero at before =
    ap (λ (b : Bool). if b then Some 2 else one_more (through_close (d ∷ cs))) (is_here c d cs at)
first_close (c ∷ d ∷ cs) (suc k) at before =
    here (cases_Bool (is_close c d)) (first_close (d ∷ cs) k (occurs_before c (d ∷ cs) k at) (λ j lt o. before (suc j) (omega arith) (occurs_later c (d ∷ cs) j o)))
  where
    here : (is_close c d ≡ true) ⊎ (is_close c d ≡ false) → through_close (d ∷ cs) ≡ Some (k + 2) → through_close (c ∷ d ∷ cs) ≡ Some (suc k + 2)
    here (inl e) later = absurd (before 0 (omega arith) (occurs_here c d cs e))
    here (inr e) later = choose_later c d cs e ∙ (ap one_more later ∙ ap Some (omega arith))

-- ---- the characters before a new-line

abbrev stays_on_line : ℕ → Bool
stays_on_line d = not (d == 10)

line_length : (text : List ℕ) (r : Option ℕ) → IsFirstByte (is_byte 10) text r → prefix_len stays_on_line text ≡ unwrap_or r (length text)
line_length [] None h = refl
line_length [] (Some k) h = absurd (let low : k < 0 = h.0.high in omega arith)
line_length (c ∷ cs) r h = here (cases_Bool (c == 10)) r h (λ q found. line_length cs q found)
  where
    ends : (r : Option ℕ) → c == 10 ≡ true → IsFirstByte (is_byte 10) (c ∷ cs) r → 0 ≡ unwrap_or r (length (c ∷ cs))
    ends None e h = absurd (h 0 (omega arith) (omega arith) e)
    ends (Some zero) e h = refl
    ends (Some (suc k)) e h = absurd (h.0.before 0 (omega arith) (omega arith) e)

    goes : (r : Option ℕ) → c == 10 ≡ false → IsFirstByte (is_byte 10) (c ∷ cs) r → ((q : Option ℕ) → IsFirstByte (is_byte 10) cs q → prefix_len stays_on_line cs ≡ unwrap_or q (length cs))
        → 1 + prefix_len stays_on_line cs ≡ unwrap_or r (length (c ∷ cs))
    goes None e h shorter =
        let later : prefix_len stays_on_line cs ≡ length cs = shorter None (λ k low high p. h (suc k) (omega arith) (omega arith) p) in
        omega arith
    goes (Some zero) e h shorter = absurd (false≢true (let p : c == 10 ≡ true = h.1 in sym e ∙ p))
    goes (Some (suc k)) e h shorter =
        let high : suc k < suc (length cs) = h.0.high in
        let later : prefix_len stays_on_line cs ≡ k =
        shorter (Some k) (record { low = omega arith; high = omega arith; before = λ j low less p. h.0.before (suc j) (omega arith) (omega arith) p }, h.1) in
        omega arith

    here : (c == 10 ≡ true) ⊎ (c == 10 ≡ false) → (r : Option ℕ) → IsFirstByte (is_byte 10) (c ∷ cs) r
        → ((q : Option ℕ) → IsFirstByte (is_byte 10) cs q → prefix_len stays_on_line cs ≡ unwrap_or q (length cs)) → prefix_len stays_on_line (c ∷ cs) ≡ unwrap_or r (length (c ∷ cs))
    here (inl e) r h shorter = ap (λ b. if not b then 1 + prefix_len stays_on_line cs else 0) e ∙ ends r e h
    here (inr e) r h shorter = ap (λ b. if not b then 1 + prefix_len stays_on_line cs else 0) e ∙ goes r e h shorter

-- ---- what begins a text

newline_breaks : (text : List ℕ) → BeginsWith text (10 ∷ []) → beginning text ≡ Breaks
newline_breaks [] e = refl
newline_breaks (c ∷ cs) e = let first : c ≡ 10 = cc in subst (λ z. beginning (z ∷ cs) ≡ Breaks) (sym first) refl

second : (x y : Bool) (a b c : Beginning) → x ≡ false → y ≡ true → (if x then a else (if y then b else c)) ≡ b
second x y a b c e f = rw (e, f) refl

fifth : (x y z w : Bool) (a b c d e : Beginning) → x ≡ false → y ≡ false → z ≡ false → w ≡ false → (if x then a else (if y then b else (if z then c else (if w then d else e)))) ≡ e
fifth x y z w a b c d e p q r s = rw (p, q, r, s) refl

blank_begins : (c : ℕ) (cs : List ℕ) → is_blank c ≡ true → beginning (c ∷ cs) ≡ Blanks 1
blank_begins c cs b = second (c == 10) (is_blank c) Breaks (Blanks 1) _ (grind (arith, nat_tests)) b

begins_two : (a b : ℕ) (text : List ℕ) → BeginsWith text (a ∷ b ∷ []) → (cs : List ℕ) × (text ≡ a ∷ b ∷ cs)
begins_two a b [] e = absurd (cc)
begins_two a b (c ∷ []) e = absurd (cc)
begins_two a b (c ∷ d ∷ cs) e = (cs, cc)

comment_begins : (text : List ℕ) (n : ℕ) → CommentAt text n → beginning text ≡ Blanks n
comment_begins text n (inl (opens, k, found, e)) =
    let front = begins_two 47 42 text opens in
    let found_there : ClosesAt (47 ∷ 42 ∷ front.0) (Some k) = subst (λ z. ClosesAt z (Some k)) front.1 found in
    let closes : through_close front.0 ≡ Some (k + 2) = first_close front.0 k found_there.1 (λ j lt at. found_there.0.before j (omega arith) lt at) in
    ap beginning front.1 ∙ (ap comment_beginning closes ∙ ap Blanks (omega arith))
comment_begins text n (inr (opens, r, found, e)) =
    let front = begins_two 47 47 text opens in
    ap beginning front.1 ∙ (ap (λ z. Blanks (prefix_len stays_on_line z)) (sym front.1) ∙ ap Blanks (line_length text r found ∙ sym e))

open_breaks : (text : List ℕ) → OpensBlock text → ClosesAt text None → beginning text ≡ Breaks
open_breaks text opens never =
    let front = begins_two 47 42 text opens in
    let never_there : ClosesAt (47 ∷ 42 ∷ front.0) None = subst (λ z. ClosesAt z None) front.1 never in
    ap beginning front.1 ∙ ap comment_beginning (no_close front.0 (λ k at. let fits : k + 2 ≤ length front.0 = at.fits in never_there k (omega arith) (omega arith) at))

differs : (s t : List ℕ) → (s ≡ t → ⊥) → bytes_eq s t ≡ false
differs s t other = go (cases_Bool (bytes_eq s t))
  where
    go : (bytes_eq s t ≡ true) ⊎ (bytes_eq s t ≡ false) → bytes_eq s t ≡ false
    go (inl e) = absurd (other ((bytes_eq-Decides s t).0 e))
    go (inr e) = e

visible_parts : (c : ℕ) → is_visible c ≡ true → (c == 10 ≡ false) × (is_blank c ≡ false)
visible_parts c e = (grind (arith, nat_tests), grind (arith, nat_tests))

token_begins : (text : List ℕ) (n : ℕ) (k : Kind) → 0 < n → PlainTokenAt C11 [] text n k → beginning text ≡ token_beginning text (Some (k, n))
token_begins [] n k some p = absurd (let fits : n ≤ 0 = p.longest.fits in omega arith)
token_begins (c ∷ cs) zero k some p = absurd (omega arith)
token_begins (c ∷ cs) (suc n) k some p =
    let seen : is_visible c ≡ true = spelling_visible (take (suc n) (c ∷ cs)) k p.spelled in
    let parts = visible_parts c seen in
    let block : bytes_eq (take 2 (c ∷ cs)) (codes "/*") ≡ false = differs _ _ (λ e. p.no_comment (inl e)) in
    let line : bytes_eq (take 2 (c ∷ cs)) (codes "//") ≡ false = differs _ _ (λ e. p.no_comment (inr e)) in
    fifth (c == 10) (is_blank c) _ _ _ _ _ _ _ parts.0 parts.1 block line
    ∙ ap (token_beginning (c ∷ cs)) (longest_is (c ∷ cs) (suc n) k some p.spelled (length (c ∷ cs)) p.longest.fits p.longest.longest)

-- ---- the tokens after it

skips : (n : ℕ) (space : Bool) (cs : List ℕ) → tokens_after n space cs ≡ tokens_after 0 space (drop n cs)
skips zero space cs = refl
skips (suc n) space [] = refl
skips (suc n) space (c ∷ cs) = skips n space cs

abbrev tokens_by : List ℕ → Bool → Beginning → Option (List PragmaToken)
tokens_by text space (Blanks n) = tokens_after (n - 1) true (drop 1 text)
tokens_by text space (Begins k n) = option_map (λ ts. pragma_token_of k space (take n text) ∷ ts) (tokens_after (n - 1) false (drop 1 text))
tokens_by text space Breaks = None

tokens_step : (c : ℕ) (cs : List ℕ) (space : Bool) → tokens_after 0 space (c ∷ cs) ≡ tokens_by (c ∷ cs) space (beginning (c ∷ cs))
tokens_step c cs space = go (beginning (c ∷ cs))
  where
    go : (b : Beginning) → (elim b [
      | Blanks n ↦ tokens_after (n - 1) true cs
      | Begins k n ↦ option_map (λ ts. pragma_token_of k space (take n (c ∷ cs)) ∷ ts) (tokens_after (n - 1) false cs)
      | Breaks ↦ None
    ]) ≡ tokens_by (c ∷ cs) space b
    go (Blanks n) = refl
    go (Begins k n) = refl
    go Breaks = refl

skips_one : (n : ℕ) (space : Bool) (c : ℕ) (cs : List ℕ) → 0 < n → tokens_after (n - 1) space cs ≡ tokens_after 0 space (drop n (c ∷ cs))
skips_one zero space c cs some = absurd (omega arith)
skips_one (suc n) space c cs some = let e : suc n - 1 ≡ n = omega arith in ap (λ z. tokens_after z space cs) e ∙ skips n space cs

after_blanks : (text : List ℕ) (n : ℕ) (space : Bool) → 0 < n → 0 < length text → beginning text ≡ Blanks n → tokens_after 0 space text ≡ tokens_after 0 true (drop n text)
after_blanks [] n space some long e = absurd (omega arith)
after_blanks (c ∷ cs) n space some long e = tokens_step c cs space ∙ (ap (tokens_by (c ∷ cs) space) e ∙ skips_one n true c cs some)

after_token : (text : List ℕ) (n : ℕ) (k : Kind) (space : Bool) → 0 < n → 0 < length text → beginning text ≡ Begins k n → tokens_after 0 space text ≡ with_first k n space text
after_token [] n k space some long e = absurd (omega arith)
after_token (c ∷ cs) n k space some long e =
    tokens_step c cs space ∙ (ap (tokens_by (c ∷ cs) space) e ∙ ap (option_map (λ ts. pragma_token_of k space (take n (c ∷ cs)) ∷ ts)) (skips_one n false c cs some))

after_break : (text : List ℕ) (space : Bool) → 0 < length text → beginning text ≡ Breaks → tokens_after 0 space text ≡ None
after_break [] space long e = absurd (omega arith)
after_break (c ∷ cs) space long e = tokens_step c cs space ∙ ap (tokens_by (c ∷ cs) space) e

-- consecutive blanks
over_blanks : (n : ℕ) (text : List ℕ) (space : Bool) → 0 < n → n ≤ length text → AreBlanks n text → tokens_after 0 space text ≡ tokens_after 0 true (drop n text)
over_blanks zero text space some fits blanks = absurd (omega arith)
over_blanks (suc n) [] space some fits blanks = absurd (omega arith)
over_blanks (suc zero) (c ∷ cs) space some fits blanks = after_blanks (c ∷ cs) 1 space (omega arith) (omega arith) (blank_begins c cs (blanks 0 (omega arith)))
over_blanks (suc (suc n)) (c ∷ cs) space some fits blanks =
    after_blanks (c ∷ cs) 1 space (omega arith) (omega arith) (blank_begins c cs (blanks 0 (omega arith)))
    ∙ over_blanks (suc n) cs true (omega arith) (omega arith) (λ k lt. blanks (suc k) (omega arith))

-- ---- the front of a text

module _ (text : List ℕ) where
  pub newline_front : 0 < length text → FindsLexeme C11 [] text (Some (NewLine, 1)) → HasFront text front.Break
  newline_front long found space = after_break text space long (newline_breaks text found.2.1)

  pub blank_front : (n : ℕ) → FindsLexeme C11 [] text (Some (Blank, n)) → HasFront text (front.Blank n)
  blank_front n found = (found.1, found.0, λ space. over_blanks n text space found.1 found.0 found.2)

  pub comment_front : (n : ℕ) → FindsLexeme C11 [] text (Some (Comment, n)) → HasFront text (front.Blank n)
  comment_front n found = (found.1, found.0, λ space. after_blanks text n space found.1 (omega arith) (comment_begins text n found.2))

  pub open_front : 0 < length text → FindsLexeme C11 [] text None → HasFront text front.Break
  open_front long found space = after_break text space long (open_breaks text found.0 found.1)

  plain : (n : ℕ) (k : Kind) → FindsLexeme C11 [] text (Some (Spelled k, n)) → beginning text ≡ token_beginning text (Some (k, n))
  plain n k (fits, some, inl (header, e)) = absurd header.awaited
  plain n k (fits, some, inr p) = token_begins text n k some p

  pub quote_front : (n : ℕ) (k : Kind) → FindsLexeme C11 [] text (Some (Spelled k, n)) → unmatched_quote_test (take n text) ≡ true → HasFront text front.Break
  quote_front n k found quote space =
      after_break text space (let fits : n ≤ length text = found.0 in let some : 0 < n = found.1 in omega arith) (plain n k found ∙ ap (λ b. if b then Breaks else Begins k n) quote)

  pub token_front : (n : ℕ) (k : Kind) → FindsLexeme C11 [] text (Some (Spelled k, n)) → unmatched_quote_test (take n text) ≡ false → HasFront text (front.Token k n)
  token_front n k found quote =
      let fits : n ≤ length text = found.0 in
      let some : 0 < n = found.1 in
      (some, fits, λ space. after_token text n k space some (omega arith) (plain n k found ∙ ap (λ b. if b then Breaks else Begins k n) quote))
