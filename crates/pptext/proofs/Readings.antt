-- Reading a file has exactly one result. Each text has a tokenization or an unclosed comment.
use Rattle.std.proofs.Common.{◌≡◌, ℕ, List, [], sym, ap, ◌∙◌, subst, None, Some, Ok, Err, ◌↔◌, zero, suc, ◌+◌, ◌-◌, ◌<◌, ◌≤◌, Bool, true, false, not, ◌&&◌, ◌||◌, ◌==◌, ◌∷◌, ◌++◌, length, take}
use Rattle.std.proofs.Common.{drop, get_or, refl, inl, inr, ◌⊎◌, arith, append_assoc, length-drop}
use Rattle.std.specs.Prelude.{Option, Result, Decides, codes}
use Rattle.std.proofs.lemmas.Bool.{cases_eq, cases_lt}
use Rattle.std.proofs.lemmas.Bool.Decides.{nat_tests, not_from_Decides}
use Rattle.std.proofs.lemmas.List.{take-append-drop, length-take-le, length-map}
use Rattle.std.proofs.lemmas.Slice.Eq.{bytes_eq-Decides}
use Rattle.std.specs.Str.{bytes_eq}
use Rattle.memchr.specs.Find.{IsFirst, OccursAt, Passes, is_byte}
use Rattle.pptext.specs.declared.tokens.Place.{Place}
use Rattle.pptext.specs.declared.tokens.Fault.{Fault}
use Rattle.pptext.specs.declared.characters.Char.{Char}
use Rattle.pptext.specs.declared.sources.Profile.{Profile}
use Rattle.pptext.specs.Clean.{cleaned, codes_of}
use Rattle.pptext.specs.Lexemes.{Lexeme, Tokenizes, Unclosed, LexemeKind, NewLine, Blank, Comment, Spelled, characters_of, with_lexeme, takes_header, AwaitsHeader, OpensBlock, OpensLine, ClosesAt}
use Rattle.pptext.specs.Lexemes.{HeaderAt, IsLexemeAt, AreLexemes, TokenizesPrefix, head_place}
use Rattle.pptext.specs.Lines.{LogicalLine, lines_of}
use Rattle.pptext.specs.Tree.{group_fault}
use Rattle.pptext.specs.Sources.{IsSource, IsFaultOf, spliced_end, open_comment, bad_groups, Reads, file_fault}
use Rattle.pptext.proofs.TokenizationUniqueness.{one_tokenization, cut_closed, one_unclosed, some_piece}
use Rattle.pptext.specs.declared.tokens.Kind.{Kind}
use Rattle.pptext.specs.declared.tokens.Kind.TheVariants.{Ident, Number, Punct, Header, Other}
use Rattle.pptext.specs.Languages.{Longest}
use Rattle.pptext.specs.code.Scanning.{NoPrefix}
use Rattle.pptext.specs.Kinds.{spelled_kind}
use Rattle.pptext.specs.Spellings.{is_blank, IsBetween, IsHeader, IsSpelling}
use Rattle.pptext.proofs.TextKinds.{HasKind, exactly, one, followed, repeated, spelled_kind_is}

-- ---- reading a file has at most one result

module _ (profile : Profile) (file : ℕ) (bytes : List ℕ) where
  one_text : (c d : List Char) → cleaned profile file bytes ≡ Ok c → cleaned profile file bytes ≡ Ok d → c ≡ d
  one_text c d e f = let both : ◌≡◌ {A = Result (List Char) Place} (Ok c) (Ok d) = sym e ∙ f in cc

  no_both : (c : List Char) (p : Place) → cleaned profile file bytes ≡ Ok c → cleaned profile file bytes ≡ Err p → ⊥
  no_both c p e f = let both : ◌≡◌ {A = Result (List Char) Place} (Ok c) (Err p) = sym e ∙ f in cc

  -- The lexemes of the text are unique.
  one_lines : (c d : List Char) (ps qs : List Lexeme) → cleaned profile file bytes ≡ Ok c → cleaned profile file bytes ≡ Ok d → Tokenizes profile c ps → Tokenizes profile d qs → ps ≡ qs
  one_lines c d ps qs e f a b = one_tokenization profile c ps qs a (subst (λ (z : List Char). Tokenizes profile z qs) (sym (one_text c d e f)) b)

  closed : (c d : List Char) (ps : List Lexeme) (p : Place) → cleaned profile file bytes ≡ Ok c → cleaned profile file bytes ≡ Ok d → Tokenizes profile c ps → Unclosed profile d p → ⊥
  closed c d ps p e f a u = cut_closed profile c ps p a (subst (λ (z : List Char). Unclosed profile z p) (sym (one_text c d e f)) u)

  no_fault : (lines : List LogicalLine) (f : Fault) → IsSource profile file bytes lines → IsFaultOf profile file bytes f → ⊥
  no_fault lines f s (spliced_end e) = no_both s.chars _ s.cleaned e
  no_fault lines f s (open_comment e u) = closed s.chars _ s.lexemes _ s.cleaned e s.tokenized u
  no_fault lines f s (bad_groups {lexemes = ps} e tokenized g) =
      let same : s.lexemes ≡ ps = one_lines s.chars _ s.lexemes ps s.cleaned e s.tokenized tokenized in
      let both : ◌≡◌ {A = Option Fault} None (Some f) = sym s.grouped ∙ ap (λ (z : List Lexeme). group_fault [] (lines_of profile z)) same ∙ g in
      cc

  one_source : (a b : List LogicalLine) → IsSource profile file bytes a → IsSource profile file bytes b → a ≡ b
  one_source a b s t =
      s.lines_are ∙ ap (lines_of profile) (one_lines s.chars t.chars s.lexemes t.lexemes s.cleaned t.cleaned s.tokenized t.tokenized) ∙ sym t.lines_are

  one_fault : (f g : Fault) → IsFaultOf profile file bytes f → IsFaultOf profile file bytes g → f ≡ g
  one_fault f g (spliced_end {p = p} e) (spliced_end {p = q} h) =
      let both : ◌≡◌ {A = Result (List Char) Place} (Err p) (Err q) = sym e ∙ h in
      let same : p ≡ q = cc in
      ap (file_fault 2) same
  one_fault f g (spliced_end e) (open_comment h u) = absurd (no_both _ _ h e)
  one_fault f g (spliced_end e) (bad_groups h tokenized are) = absurd (no_both _ _ h e)
  one_fault f g (open_comment h u) (spliced_end e) = absurd (no_both _ _ h e)
  one_fault f g (bad_groups h tokenized are) (spliced_end e) = absurd (no_both _ _ h e)
  one_fault f g (open_comment {chars = c} {p = p} e u) (open_comment {chars = d} {p = q} h v) =
      ap (file_fault 1) (one_unclosed profile c p q u (subst (λ (z : List Char). Unclosed profile z q) (sym (one_text c d e h)) v))
  one_fault f g (open_comment e u) (bad_groups h tokenized are) = absurd (closed _ _ _ _ h e tokenized u)
  one_fault f g (bad_groups h tokenized are) (open_comment e u) = absurd (closed _ _ _ _ h e tokenized u)
  one_fault f g (bad_groups {chars = c} {lexemes = ps} e tokenized is) (bad_groups {chars = d} {lexemes = qs} h other are) =
      let same : ps ≡ qs = one_lines c d ps qs e h tokenized other in
      let both : ◌≡◌ {A = Option Fault} (Some f) (Some g) = sym is ∙ ap (λ (z : List Lexeme). group_fault [] (lines_of profile z)) same ∙ are in
      cc

  pub one_reading : (a b : Result (List LogicalLine) Fault) → Reads profile file bytes a → Reads profile file bytes b → a ≡ b
  one_reading (Ok a) (Ok b) s t = ap (λ (z : List LogicalLine). Ok z) (one_source a b s t)
  one_reading (Ok a) (Err g) s t = absurd (no_fault a g s t)
  one_reading (Err f) (Ok b) s t = absurd (no_fault b f t s)
  one_reading (Err f) (Err g) s t = ap (λ (z : Fault). Err z) (one_fault f g s t)

-- ---- each text has a tokenization or an unclosed comment, so each file has a reading

-- P holds or does not hold
abbrev Told : Type 0 → Type 0
Told P = P ⊎ (¬ P)

told : {P : Type 0} (b : Bool) → Decides b P → Told P
told true d = inl (d.0 refl)
told false d = inr (not_from_Decides false d refl)

told_either : {P Q : Type 0} → Told P → Told Q → Told (P ⊎ Q)
told_either (inl p) q = inl (inl p)
told_either (inr n) (inl q) = inl (inr q)
told_either (inr n) (inr m) = inr (λ h. elim h [ inl p ↦ n p | inr q ↦ m q ])

-- ---- the first position

first_or : (P : ℕ → Type 0) (i j : ℕ) (r : Option ℕ) → (¬ P i) → IsFirst P (i + 1) j r → IsFirst P i j r
first_or P i j None n h = λ k low high p. cases k low high p (cases_lt i k)
  where
    cases : (k : ℕ) → i ≤ k → k < j → P k → (i < k) ⊎ (k ≤ i) → ⊥
    cases k low high p (inl lt) = h k (omega arith) high p
    cases k low high p (inr le) = let e : k ≡ i = omega arith in n (subst P e p)
first_or P i j (Some m) n h =
    let low : i + 1 ≤ m = h.0.low in
    (record { low = omega arith; high = h.0.high; before = λ k below lt p. cases k below lt p (cases_lt i k) }, h.1)
  where
    cases : (k : ℕ) → i ≤ k → k < m → P k → (i < k) ⊎ (k ≤ i) → ⊥
    cases k below lt p (inl more) = h.0.before k (omega arith) lt p
    cases k below lt p (inr le) = let e : k ≡ i = omega arith in n (subst P e p)

first_from : (P : ℕ → Type 0) → ((k : ℕ) → Told (P k)) → (n i j : ℕ) → i + n ≡ j → (r : Option ℕ) × IsFirst P i j r
first_from P tell zero i j e = (None, λ k low high p. absurd (omega arith))
first_from P tell (suc n) i j e = cases (tell i) (first_from P tell n (i + 1) j (omega arith))
  where
    cases : Told (P i) → (r : Option ℕ) × IsFirst P (i + 1) j r → (r : Option ℕ) × IsFirst P i j r
    cases (inl p) later = (Some i, (record { low = omega arith; high = omega arith; before = λ k low high q. absurd (omega arith) }, p))
    cases (inr n) later = (later.0, first_or P i j later.0 n later.1)

-- ---- the longest prefix

abbrev LongestOrNo : (List ℕ → Type 0) → List ℕ → Type 0
LongestOrNo P text = ((n : ℕ) × Longest P text n) ⊎ NoPrefix P text

longest_below : (P : List ℕ → Type 0) → ((s : List ℕ) → Told (P s)) → (text : List ℕ) (n : ℕ) → n ≤ length text → ((m : ℕ) → n < m → m ≤ length text → P (take m text) → ⊥) → LongestOrNo P text
longest_below P tell text zero fits none = cases (tell (take 0 text))
  where
    cases : Told (P (take 0 text)) → LongestOrNo P text
    cases (inl p) = inl (0, record { fits = fits; prefix = p; longest = none })
    cases (inr n) = inr (λ m within p. here m within p (cases_lt 0 m))
      where
        here : (m : ℕ) → m ≤ length text → P (take m text) → (0 < m) ⊎ (m ≤ 0) → ⊥
        here m within p (inl lt) = none m lt within p
        here m within p (inr le) = let e : m ≡ 0 = omega arith in n (subst (λ z. P (take z text)) e p)
longest_below P tell text (suc n) fits none = cases (tell (take (suc n) text)) (longest_below P tell text n (omega arith))
  where
    here : (¬ P (take (suc n) text)) → (m : ℕ) → n < m → m ≤ length text → P (take m text) → (suc n < m) ⊎ (m ≤ suc n) → ⊥
    here lacks m lt within p (inl more) = none m more within p
    here lacks m lt within p (inr le) = let e : m ≡ suc n = omega arith in lacks (subst (λ z. P (take z text)) e p)

    cases : Told (P (take (suc n) text)) → (((m : ℕ) → n < m → m ≤ length text → P (take m text) → ⊥) → LongestOrNo P text) → LongestOrNo P text
    cases (inl p) below = inl (suc n, record { fits = fits; prefix = p; longest = none })
    cases (inr lacks) below = below (λ m lt within p. here lacks m lt within p (cases_lt (suc n) m))

longest_front : (P : List ℕ → Type 0) → ((s : List ℕ) → Told (P s)) → (text : List ℕ) → LongestOrNo P text
longest_front P tell text = longest_below P tell text (length text) (omega arith) (λ m lt within p. absurd (omega arith))

-- ---- decidable properties of a text

kind_told : (s : List ℕ) (o : Option Kind) → HasKind s o → Told (IsSpelling s)
kind_told s None h = inr (λ q. h q.0 q.1)
kind_told s (Some k) h = inl (k, h)

spelling_told : (s : List ℕ) → Told (IsSpelling s)
spelling_told s = kind_told s (spelled_kind s) (spelled_kind_is s)

between : (open_code close_code : ℕ) (s : List ℕ) → Told (IsBetween open_code close_code s)
between open_code close_code s =
    let inner = one (λ c. not (c == close_code || c == 10)) in
    told _ ((followed (exactly (open_code ∷ [])) (followed inner (followed (repeated inner) (exactly (close_code ∷ []))))).at s)

header_told : (s : List ℕ) → Told (IsHeader s)
header_told s = told_either (between 60 62 s) (between 34 34 s)

begins_told : (text prefix : List ℕ) → Told (take (length prefix) text ≡ prefix)
begins_told text prefix = told (bytes_eq (take (length prefix) text) prefix) (bytes_eq-Decides (take (length prefix) text) prefix)

passes_told : (b : Bool) → Told (b ≡ true)
passes_told true = inl refl
passes_told false = inr (λ e. cc)

awaits_told : (profile : Profile) (line : List (List ℕ)) → Told (AwaitsHeader profile line)
awaits_told profile [] = inr (λ e. e)
awaits_told profile (a ∷ []) = inr (λ e. e)
awaits_told profile (a ∷ b ∷ c ∷ more) = inr (λ e. e)
awaits_told profile (a ∷ b ∷ []) = passes_told ((bytes_eq a (codes "#") || bytes_eq a (codes "%:")) && takes_header profile b)

-- Whether `*/` occurs at index k can be decided.
closes_told : (hay : List ℕ) (k : ℕ) → Told (OccursAt hay (codes "*/") k)
closes_told hay k = cases (cases_lt (length hay) (k + 2)) (cases_eq (get_or hay k 0) 42) (cases_eq (get_or hay (k + 1) 0) 47)
  where
    reads : get_or hay k 0 ≡ 42 → get_or hay (k + 1) 0 ≡ 47 → (j : ℕ) → j < 2 → get_or hay (k + j) 0 ≡ get_or (42 ∷ 47 ∷ []) j 0
    reads e f zero lt = let h : k + 0 ≡ k = omega arith in ap (λ z. get_or hay z 0) h ∙ e
    reads e f (suc zero) lt = f
    reads e f (suc (suc j)) lt = absurd (omega arith)

    cases : (length hay < k + 2) ⊎ (k + 2 ≤ length hay) → (get_or hay k 0 ≡ 42) ⊎ (get_or hay k 0 ≡ 42 → ⊥) → (get_or hay (k + 1) 0 ≡ 47) ⊎ (get_or hay (k + 1) 0 ≡ 47 → ⊥) → Told (OccursAt hay (codes "*/") k)
    cases (inl short) a b = inr (λ h. let f = h.fits in omega arith)
    cases (inr fits) (inl e) (inl f) = inl (record { fits = fits; reads = reads e f })
    cases (inr fits) (inr n) b = inr (λ h. let z : k + 0 ≡ k = omega arith in n (ap (λ z. get_or hay z 0) (sym z) ∙ h.reads 0 (omega arith)))
    cases (inr fits) (inl e) (inr n) = inr (λ h. n (h.reads 1 (omega arith)))

-- ---- the lexeme at a position

-- a lexeme begins the text, or an unclosed comment opens there
abbrev Found : Profile → List (List ℕ) → List ℕ → Type 0
Found profile line text = ((n : ℕ) × (s : LexemeKind) × (n ≤ length text) × IsLexemeAt profile line text n s) ⊎ (OpensBlock text × ClosesAt text None)

block_found : (profile : Profile) (line : List (List ℕ)) (text : List ℕ) → OpensBlock text → (r : Option ℕ) × ClosesAt text r → Found profile line text
block_found profile line text opens (None, never) = inr (opens, never)
block_found profile line text opens (Some k, closes) =
    let fits : k + 2 ≤ length (drop 2 text) = closes.1.fits in
    let d = length-drop 2 text in
    inl (k + 4, Comment, omega arith, inl (opens, k, closes, refl))

line_found : (profile : Profile) (line : List (List ℕ)) (text : List ℕ) → OpensLine text → (r : Option ℕ) × IsFirst (Passes (is_byte 10) text) 0 (length text) r → Found profile line text
line_found profile line text opens (None, none) = inl (length text, Comment, omega arith, inr (opens, None, none, refl))
line_found profile line text opens (Some k, first) =
    let lt : k < length text = first.0.high in
    inl (k, Comment, omega arith, inr (opens, Some k, first, refl))

visible : (c : ℕ) → (c ≡ 10 → ⊥) → (is_blank c ≡ true → ⊥) → not (is_blank c || c == 10) ≡ true
visible c e f = grind (arith, nat_tests)

-- each visible character is some kind's spelling
one_spelled : (c : ℕ) → not (is_blank c || c == 10) ≡ true → (o : Option Kind) → HasKind (c ∷ []) o → IsSpelling (c ∷ [])
one_spelled c v (Some k) h = (k, h)
one_spelled c v None h = absurd (h Other ((c, refl, v), h Ident, h Number, h Punct))

plain_found : (profile : Profile) (line : List (List ℕ)) (c : ℕ) (cs : List ℕ)
    → (¬ (OpensBlock (c ∷ cs) ⊎ OpensLine (c ∷ cs)))
    → ((m : ℕ) → ¬ HeaderAt profile line (c ∷ cs) m)
    → not (is_blank c || c == 10) ≡ true
    → LongestOrNo IsSpelling (c ∷ cs)
    → Found profile line (c ∷ cs)
plain_found profile line c cs no_comment no_header v (inl (n, l)) = inl (n, Spelled l.prefix.0, l.fits, inr (record { no_comment = no_comment; no_header = no_header; longest = l; spelled = l.prefix.1 }))
plain_found profile line c cs no_comment no_header v (inr none) = absurd (none 1 (omega arith) (one_spelled c v (spelled_kind (c ∷ [])) (spelled_kind_is (c ∷ []))))

token_found : (profile : Profile) (line : List (List ℕ)) (c : ℕ) (cs : List ℕ)
    → (¬ (OpensBlock (c ∷ cs) ⊎ OpensLine (c ∷ cs)))
    → not (is_blank c || c == 10) ≡ true
    → Told (AwaitsHeader profile line)
    → LongestOrNo IsHeader (c ∷ cs)
    → Found profile line (c ∷ cs)
token_found profile line c cs no_comment v (inl awaits) (inl (n, l)) = inl (n, Spelled Header, l.fits, inl (record { awaited = awaits; fits = l.fits; spelled = l.prefix }, refl))
token_found profile line c cs no_comment v (inl awaits) (inr none) = plain_found profile line c cs no_comment (λ m h. none m h.fits h.spelled) v (longest_front IsSpelling spelling_told (c ∷ cs))
token_found profile line c cs no_comment v (inr lacks) l = plain_found profile line c cs no_comment (λ m h. lacks h.awaited) v (longest_front IsSpelling spelling_told (c ∷ cs))

pub some_found : (profile : Profile) (line : List (List ℕ)) (c : ℕ) (cs : List ℕ) → Found profile line (c ∷ cs)
some_found profile line c cs = cases (begins_told (c ∷ cs) (codes "/*")) (begins_told (c ∷ cs) (codes "//")) (cases_eq c 10) (passes_told (is_blank c))
  where
    cases : Told (OpensBlock (c ∷ cs)) → Told (OpensLine (c ∷ cs)) → (c ≡ 10) ⊎ (c ≡ 10 → ⊥) → Told (is_blank c ≡ true) → Found profile line (c ∷ cs)
    cases (inl opens) b n w = block_found profile line (c ∷ cs) opens (first_from (OccursAt (drop 2 (c ∷ cs)) (codes "*/")) (closes_told (drop 2 (c ∷ cs))) (length (drop 2 (c ∷ cs)) + 1) 0 (length (drop 2 (c ∷ cs)) + 1) (omega arith))
    cases (inr lacks) (inl opens) n w = line_found profile line (c ∷ cs) opens (first_from (Passes (is_byte 10) (c ∷ cs)) (λ k. passes_told (is_byte 10 (get_or (c ∷ cs) k 0))) (length (c ∷ cs)) 0 (length (c ∷ cs)) (omega arith))
    cases (inr lacks) (inr lacks_line) (inl e) w = inl (1, NewLine, omega arith, (refl, ap (λ z. z ∷ []) e))
    cases (inr lacks) (inr lacks_line) (inr n) (inl blank) = inl (1, Blank, omega arith, (refl, c, refl, blank))
    cases (inr lacks) (inr lacks_line) (inr n) (inr w) =
        token_found profile line c cs (λ h. elim h [ inl a ↦ lacks a | inr b ↦ lacks_line b ]) (visible c n w) (awaits_told profile line) (longest_front IsHeader header_told (c ∷ cs))

-- ---- the lexemes of a text

-- the lexemes of a text up to its end, or up to an unclosed comment
record Ended (profile : Profile) (line : List (List ℕ)) (cs : List Char) : Type 0 where
  lexemes : List Lexeme
  rest : List Char
  whole : characters_of lexemes ++ rest ≡ cs
  each : AreLexemes profile line lexemes rest
  stops : (rest ≡ []) ⊎ (OpensBlock (codes_of rest) × ClosesAt (codes_of rest) None)

grow : (profile : Profile) (line : List (List ℕ)) (cs : List Char) (m : ℕ) (s : LexemeKind)
    → m ≤ length cs
    → IsLexemeAt profile line (codes_of cs) m s
    → Ended profile (with_lexeme line (record { kind = s; chars = take m cs }) s) (drop m cs)
    → Ended profile line cs
grow profile line cs m s fits is_lexeme more =
    let p : Lexeme = record { kind = s; chars = take m cs } in
    let whole : take m cs ++ (characters_of more.lexemes ++ more.rest) ≡ cs = ap (λ z. take m cs ++ z) more.whole ∙ take-append-drop m cs in
    let len : length (take m cs) ≡ m = length-take-le m cs fits in
    let here : IsLexemeAt profile line (codes_of (take m cs ++ (characters_of more.lexemes ++ more.rest))) (length (take m cs)) s = rw (whole, len) is_lexeme in
    record {
      lexemes = p ∷ more.lexemes;
      rest = more.rest;
      whole = append_assoc (take m cs) (characters_of more.lexemes) more.rest ∙ whole;
      each = (here, more.each);
      stops = more.stops;
    }

ended : (profile : Profile) (n : ℕ) (line : List (List ℕ)) (cs : List Char) → length cs ≤ n → Ended profile line cs
ended profile n line [] le = record { lexemes = []; rest = []; whole = refl; each = tt; stops = inl refl }
ended profile zero line (c ∷ cs) le = absurd (omega arith)
ended profile (suc n) line (c ∷ cs) le = cases (ended profile n) (some_found profile line c.code (codes_of cs))
  where
    cases : ((l : List (List ℕ)) (ds : List Char) → length ds ≤ n → Ended profile l ds) → Found profile line (codes_of (c ∷ cs)) → Ended profile line (c ∷ cs)
    cases later (inl (m, s, fits, is_lexeme)) =
        let some : 0 < m = some_piece profile line (codes_of (c ∷ cs)) m s is_lexeme in
        let codes_length : length (codes_of (c ∷ cs)) ≡ length (c ∷ cs) = length-map (c ∷ cs) (λ (z : Char). z.code) in
        let d : length (drop m (c ∷ cs)) ≡ length (c ∷ cs) - m = length-drop m (c ∷ cs) in
        grow profile line (c ∷ cs) m s (omega arith) is_lexeme (later (with_lexeme line (record { kind = s; chars = take m (c ∷ cs) }) s) (drop m (c ∷ cs)) (omega arith))
    cases later (inr opens) = record { lexemes = []; rest = c ∷ cs; whole = refl; each = tt; stops = inr opens }

-- A text has a tokenization or an unclosed comment.
pub some_cut : (profile : Profile) (cs : List Char) → ((ps : List Lexeme) × Tokenizes profile cs ps) ⊎ ((p : Place) × Unclosed profile cs p)
some_cut profile cs = cases (ended profile (length cs) [] cs (omega arith))
  where
    cases : Ended profile [] cs → ((ps : List Lexeme) × Tokenizes profile cs ps) ⊎ ((p : Place) × Unclosed profile cs p)
    cases e = stop e.stops
      where
        stop : (e.rest ≡ []) ⊎ (OpensBlock (codes_of e.rest) × ClosesAt (codes_of e.rest) None) → ((ps : List Lexeme) × Tokenizes profile cs ps) ⊎ ((p : Place) × Unclosed profile cs p)
        stop (inl none) = inl (e.lexemes, subst (λ (z : List Char). TokenizesPrefix profile cs e.lexemes z) none (record { whole = e.whole; each = e.each }))
        stop (inr opens) = inr (head_place e.rest, record { lexemes = e.lexemes; rest = e.rest; tokenized = record { whole = e.whole; each = e.each }; opens = opens.0; not_closed = opens.1; at_is = refl })

-- A text has a tokenization exactly if it has no unclosed comment.
pub tokenizes_unless_unclosed : (profile : Profile) (chars : List Char) → ((lexemes : List Lexeme) × Tokenizes profile chars lexemes) ↔ ((at : Place) → ¬ Unclosed profile chars at)
tokenizes_unless_unclosed profile chars = (λ h at u. cut_closed profile chars h.0 at h.1 u, λ closed. told_of closed (some_cut profile chars))
  where
    told_of : ((at : Place) → ¬ Unclosed profile chars at) → ((ps : List Lexeme) × Tokenizes profile chars ps) ⊎ ((p : Place) × Unclosed profile chars p) → (lexemes : List Lexeme) × Tokenizes profile chars lexemes
    told_of closed (inl tokenized) = tokenized
    told_of closed (inr (p, u)) = absurd (closed p u)

-- Each file has a reading: its lines or a fault.
module _ (profile : Profile) (file : ℕ) (bytes : List ℕ) where
  abbrev SomeReading : Type 0
  SomeReading = (r : Result (List LogicalLine) Fault) × Reads profile file bytes r

  of_groups : (chars : List Char) (ps : List Lexeme) → cleaned profile file bytes ≡ Ok chars → Tokenizes profile chars ps → (o : Option Fault) → group_fault [] (lines_of profile ps) ≡ o → SomeReading
  of_groups chars ps e tokenized None g = (Ok (lines_of profile ps), record { chars = chars; lexemes = ps; cleaned = e; tokenized = tokenized; grouped = g; lines_are = refl })
  of_groups chars ps e tokenized (Some f) g = (Err f, bad_groups e tokenized g)

  of_cut : (chars : List Char) → cleaned profile file bytes ≡ Ok chars → ((ps : List Lexeme) × Tokenizes profile chars ps) ⊎ ((p : Place) × Unclosed profile chars p) → SomeReading
  of_cut chars e (inl (ps, tokenized)) = of_groups chars ps e tokenized (group_fault [] (lines_of profile ps)) refl
  of_cut chars e (inr (p, open_here)) = (Err (file_fault 1 p), open_comment e open_here)

  of_cleaned : (r : Result (List Char) Place) → cleaned profile file bytes ≡ r → SomeReading
  of_cleaned (Ok chars) e = of_cut chars e (some_cut profile chars)
  of_cleaned (Err p) e = (Err (file_fault 2 p), spliced_end e)

  pub some_reading : (r : Result (List LogicalLine) Fault) × Reads profile file bytes r
  some_reading = of_cleaned (cleaned profile file bytes) refl
