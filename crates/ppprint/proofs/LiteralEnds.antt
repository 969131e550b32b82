-- Literals end at their quote: none is a longer text than another that begins it. How literals begin.
use Rattle.std.proofs.Common.{◌≡◌, ℕ, ◌<◌, Bool, true, false, not, ◌||◌, ◌&&◌, ◌==◌, List, [], ◌∷◌, ◌++◌, length, flat_map, refl, sym, ap, ◌∙◌, subst, inl, inr, arith, append_assoc, if◌then◌else◌}
use Rattle.std.specs.List.{list_all, AllByRecursion}
use Rattle.std.proofs.lemmas.Bool.{false≢true}
use Rattle.std.proofs.lemmas.Bool.Decides.{nat_tests}
use Rattle.pptext.specs.Languages.{Exactly, Then, Repeated}
use Rattle.pptext.specs.Spellings.{is_nondigit, is_digit, IsElement, IsCharConst, IsStr, char_prefixes, str_prefixes}
use Rattle.pptext.proofs.CharacterTests.{contains_passes}

abbrev pub is_quote : ℕ → Bool
is_quote c = c == 39 || c == 34

-- a character of an identifier
abbrev pub is_ident_byte : ℕ → Bool
is_ident_byte c = is_nondigit c || (is_digit c || c == 92)

abbrev pub is_nil : List ℕ → Bool
is_nil [] = true
is_nil (c ∷ cs) = false

-- The text after the first quote of a literal is all of the rest of it. `escaped` says whether a `\` is before the text.
abbrev pub closes : ℕ → Bool → List ℕ → Bool
closes q escaped [] = false
closes q true (c ∷ cs) = closes q false cs
closes q false (c ∷ cs) = if c == q then is_nil cs else closes q (c == 92) cs

-- the text is a literal after its prefix
abbrev pub is_literal : List ℕ → Bool
is_literal [] = false
is_literal (c ∷ cs) = if is_quote c then closes c false cs else is_literal cs

-- ---- each literal passes

at_quote : (q : ℕ) (x y : Bool) → (if q == q then x else y) ≡ x
at_quote q x y = grind (arith, nat_tests)

past_plain : (q c : ℕ) (cs : List ℕ) → not (c == q || (c == 92 || c == 10)) ≡ true → closes q false (c ∷ cs) ≡ closes q false cs
past_plain q c cs e = go (c == q) (c == 92) refl refl e
  where
    go : (x y : Bool) → c == q ≡ x → c == 92 ≡ y → not (x || (y || c == 10)) ≡ true → (if x then is_nil cs else closes q y cs) ≡ closes q false cs
    go true y f g e = absurd (false≢true e)
    go false true f g e = absurd (false≢true e)
    go false false f g e = refl

past_escape : (q d : ℕ) (cs : List ℕ) → 92 == q ≡ false → closes q false (92 ∷ d ∷ cs) ≡ closes q false cs
past_escape q d cs e = ap (λ (x : Bool). if x then is_nil (d ∷ cs) else closes q true (d ∷ cs)) e

element_passes : (q : ℕ) (s rest : List ℕ) → 92 == q ≡ false → IsElement q s → closes q false (s ++ rest) ≡ closes q false rest
element_passes q s rest other (inl (c, e, t)) = subst (λ z. closes q false (z ++ rest) ≡ closes q false rest) (sym e) (past_plain q c rest t)
element_passes q s rest other (inr (a, b, e, f, (d, g, t))) =
    subst (λ z. closes q false (z ++ rest) ≡ closes q false rest) (sym (e ∙ (ap (λ z. z ++ b) f ∙ ap (λ z. 92 ∷ z) g))) (past_escape q d rest other)

elements_pass : (q : ℕ) (parts : List (List ℕ)) (rest : List ℕ) → 92 == q ≡ false → AllByRecursion (IsElement q) parts → closes q false (flat_map (λ p. p) parts ++ rest) ≡ closes q false rest
elements_pass q [] rest other all = refl
elements_pass q (p ∷ parts) rest other all =
    ap (closes q false) (append_assoc p (flat_map (λ r. r) parts) rest)
    ∙ (element_passes q p (flat_map (λ r. r) parts ++ rest) other all.0 ∙ elements_pass q parts rest other all.1)

last_quote : (q : ℕ) → closes q false (q ∷ []) ≡ true
last_quote q = at_quote q true (closes q (q == 92) [])

-- elements and a quote after the first quote
body_closes : (q : ℕ) (s : List ℕ) → 92 == q ≡ false → Then (Repeated (IsElement q)) (Exactly (q ∷ [])) s → closes q false s ≡ true
body_closes q s other (a, b, e, (parts, all, f), g) =
    ap (closes q false) (e ∙ (ap (λ z. z ++ b) f ∙ ap (λ z. flat_map (λ p. p) parts ++ z) g)) ∙ (elements_pass q parts (q ∷ []) other all ∙ last_quote q)

first_element : (q : ℕ) (s : List ℕ) → 92 == q ≡ false → Then (IsElement q) (Then (Repeated (IsElement q)) (Exactly (q ∷ []))) s → closes q false s ≡ true
first_element q s other (a, b, e, x, more) = ap (closes q false) e ∙ (element_passes q a b other x ∙ body_closes q b other more)

abbrev pub no_quote : List ℕ → Bool
no_quote s = list_all (λ c. not (is_quote c)) s

past_prefix : (p rest : List ℕ) → no_quote p ≡ true → is_literal (p ++ rest) ≡ is_literal rest
past_prefix [] rest e = refl
past_prefix (c ∷ p) rest e = go (is_quote c) e (past_prefix p rest)
  where
    go : (x : Bool) → (not x && no_quote p) ≡ true → (no_quote p ≡ true → is_literal (p ++ rest) ≡ is_literal rest) → (if x then closes c false (p ++ rest) else is_literal (p ++ rest)) ≡ is_literal rest
    go true e later = absurd (false≢true e)
    go false e later = later e

pub char_literal : (s : List ℕ) → IsCharConst s → is_literal s ≡ true
char_literal s (p, b, e, prefix, (x, y, f, g, more)) =
    ap is_literal (e ∙ ap (λ z. p ++ z) (f ∙ ap (λ z. z ++ y) g)) ∙ (past_prefix p (39 ∷ y) (contains_passes no_quote char_prefixes refl p prefix) ∙ first_element 39 y refl more)

pub str_literal : (s : List ℕ) → IsStr s → is_literal s ≡ true
str_literal s (p, b, e, prefix, (x, y, f, g, more)) =
    ap is_literal (e ∙ ap (λ z. p ++ z) (f ∙ ap (λ z. z ++ y) g)) ∙ (past_prefix p (34 ∷ y) (contains_passes no_quote str_prefixes refl p prefix) ∙ body_closes 34 y refl more)

-- ---- nothing passes after it

closed_end : (q : ℕ) (x : Bool) (a r : List ℕ) (c : ℕ) → closes q x a ≡ true → closes q x (a ++ c ∷ r) ≡ true → ⊥
closed_end q x [] r c e f = false≢true e
closed_end q true (d ∷ a) r c e f = closed_end q false a r c e f
closed_end q false (d ∷ a) r c e f = go (d == q) e f (closed_end q (d == 92) a r c)
  where
    nil : (z : List ℕ) → is_nil (z ++ c ∷ r) ≡ true → ⊥
    nil [] h = false≢true h
    nil (w ∷ z) h = false≢true h

    go : (y : Bool)
        → (if y then is_nil a else closes q (d == 92) a) ≡ true
        → (if y then is_nil (a ++ c ∷ r) else closes q (d == 92) (a ++ c ∷ r)) ≡ true
        → (closes q (d == 92) a ≡ true → closes q (d == 92) (a ++ c ∷ r) ≡ true → ⊥)
        → ⊥
    go true e f later = nil a f
    go false e f later = later e f

pub literal_end : (a r : List ℕ) (c : ℕ) → is_literal a ≡ true → is_literal (a ++ c ∷ r) ≡ true → ⊥
literal_end [] r c e f = false≢true e
literal_end (d ∷ a) r c e f = go (is_quote d) e f (literal_end a r c)
  where
    go : (y : Bool)
        → (if y then closes d false a else is_literal a) ≡ true
        → (if y then closes d false (a ++ c ∷ r) else is_literal (a ++ c ∷ r)) ≡ true
        → (is_literal a ≡ true → is_literal (a ++ c ∷ r) ≡ true → ⊥)
        → ⊥
    go true e f later = closed_end d false a r c e f
    go false e f later = later e f

-- ---- how literals begin

-- a quote is the first or the second character, or the third after `8`
abbrev pub opens_literal : List ℕ → Bool
opens_literal [] = false
opens_literal (c ∷ []) = is_quote c
opens_literal (c ∷ d ∷ []) = is_quote c || is_quote d
opens_literal (c ∷ d ∷ e ∷ cs) = is_quote c || (is_quote d || (d == 56 && is_quote e))

-- the first character of a literal
abbrev pub is_literal_head : ℕ → Bool
is_literal_head c = is_quote c || (c == 117 || (c == 85 || c == 76))

abbrev opens_or_short : List ℕ → Bool
opens_or_short [] = true
opens_or_short (c ∷ []) = not (is_quote c)
opens_or_short (c ∷ d ∷ []) = d == 56
opens_or_short (c ∷ d ∷ e ∷ cs) = false

prefix_opens : (p y : List ℕ) (q : ℕ) → is_quote q ≡ true → opens_or_short p ≡ true → opens_literal (p ++ q ∷ y) ≡ true
prefix_opens [] [] q e f = e
prefix_opens [] (d ∷ []) q e f = grind (arith, nat_tests)
prefix_opens [] (d ∷ x ∷ y) q e f = grind (arith, nat_tests)
prefix_opens (c ∷ []) [] q e f = grind (arith, nat_tests)
prefix_opens (c ∷ []) (d ∷ y) q e f = grind (arith, nat_tests)
prefix_opens (c ∷ d ∷ []) y q e f = grind (arith, nat_tests)
prefix_opens (c ∷ d ∷ x ∷ p) y q e f = absurd (false≢true f)

pub char_opens : (s : List ℕ) → IsCharConst s → opens_literal s ≡ true
char_opens s (p, b, e, prefix, (x, y, f, g, more)) =
    ap opens_literal (e ∙ ap (λ z. p ++ z) (f ∙ ap (λ z. z ++ y) g)) ∙ prefix_opens p y 39 refl (contains_passes opens_or_short char_prefixes refl p prefix)

pub str_opens : (s : List ℕ) → IsStr s → opens_literal s ≡ true
str_opens s (p, b, e, prefix, (x, y, f, g, more)) =
    ap opens_literal (e ∙ ap (λ z. p ++ z) (f ∙ ap (λ z. z ++ y) g)) ∙ prefix_opens p y 34 refl (contains_passes opens_or_short str_prefixes refl p prefix)

abbrev headed_or_nil : List ℕ → Bool
headed_or_nil [] = true
headed_or_nil (c ∷ cs) = is_literal_head c

abbrev pub begins_literal : List ℕ → Bool
begins_literal [] = false
begins_literal (c ∷ cs) = is_literal_head c

prefix_headed : (p y : List ℕ) (q : ℕ) → is_literal_head q ≡ true → headed_or_nil p ≡ true → begins_literal (p ++ q ∷ y) ≡ true
prefix_headed [] y q e f = e
prefix_headed (c ∷ p) y q e f = f

pub char_headed : (s : List ℕ) → IsCharConst s → begins_literal s ≡ true
char_headed s (p, b, e, prefix, (x, y, f, g, more)) =
    ap begins_literal (e ∙ ap (λ z. p ++ z) (f ∙ ap (λ z. z ++ y) g)) ∙ prefix_headed p y 39 refl (contains_passes headed_or_nil char_prefixes refl p prefix)

pub str_headed : (s : List ℕ) → IsStr s → begins_literal s ≡ true
str_headed s (p, b, e, prefix, (x, y, f, g, more)) =
    ap begins_literal (e ∙ ap (λ z. p ++ z) (f ∙ ap (λ z. z ++ y) g)) ∙ prefix_headed p y 34 refl (contains_passes headed_or_nil str_prefixes refl p prefix)

-- No literal begins with a text without quotes and a character that is neither a quote nor one of an identifier.
pub no_opening : (a r : List ℕ) (c : ℕ) → 0 < length a → no_quote a ≡ true → is_ident_byte c || is_quote c ≡ false → opens_literal (a ++ c ∷ r) ≡ true → ⊥
no_opening [] r c some e f g = absurd (omega arith)
no_opening (x ∷ []) [] c some e f g = grind (arith, nat_tests)
no_opening (x ∷ []) (y ∷ r) c some e f g = grind (arith, nat_tests)
no_opening (x ∷ y ∷ []) r c some e f g = grind (arith, nat_tests)
no_opening (x ∷ y ∷ z ∷ a) r c some e f g = grind (arith, nat_tests)
