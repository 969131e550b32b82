-- At most one lexeme begins a text, so a text has at most one tokenization, and at most one location of an unclosed comment.
use Rattle.std.proofs.Common.{◌≡◌, ℕ, zero, suc, ◌+◌, ◌<◌, ◌≤◌, Bool, true, false, not, ◌||◌, ◌==◌, List, [], ◌∷◌, ◌++◌, length, take, drop, refl, sym, ap, ◌∙◌, subst, inl, inr, ◌⊎◌, arith, append_assoc, length-append, IsTrue, None, Some}
use Rattle.std.specs.Prelude.{Option, codes, unwrap_or}
use Rattle.std.specs.List.{list_all}
use Rattle.std.proofs.lemmas.Bool.{false≢true, and_parts, and_from, cases_lt}
use Rattle.std.proofs.lemmas.Bool.Decides.{nat_tests}
use Rattle.std.proofs.lemmas.List.{take-append-drop, length-take-le, take_at, drop_at}
use Rattle.memchr.specs.Find.{IsFirst, OccursAt, Passes, is_byte}
use Rattle.pptext.specs.declared.sources.Profile.{Profile}
use Rattle.pptext.specs.declared.tokens.Kind.{Kind}
use Rattle.pptext.specs.declared.tokens.Kind.TheVariants.{Header}
use Rattle.pptext.specs.Languages.{One, Repeated, Longest}
use Rattle.pptext.specs.Spellings.{is_blank, IsBetween, IsHeader, Spells, IsSpelling}
use Rattle.pptext.specs.Lexemes.{LexemeKind, NewLine, Blank, Comment, Spelled, IsLexemeAt, CommentAt, HeaderAt, PlainTokenAt, BeginsWith, OpensBlock, OpensLine, ClosesAt, Lexeme, characters_of}
use Rattle.pptext.specs.Lexemes.{with_lexeme, AreLexemes, Tokenizes, Unclosed, head_place}
use Rattle.pptext.proofs.CharacterTests.{Throughout, one_passes, repeated_passes}
use Rattle.pptext.proofs.KindUniqueness.{begins, begins_apart, is_visible, one_kind, spelling_visible}
use Rattle.pptext.specs.declared.tokens.Place.{Place}
use Rattle.pptext.specs.declared.characters.Char.{Char}
use Rattle.pptext.specs.Clean.{codes_of}

-- ---- at most one lexeme begins a text, and it is not empty; none begins at an unclosed comment

-- The longest prefix is unique.
longest_one : (P : List ℕ → Type 0) (text : List ℕ) (m n : ℕ) → Longest P text m → Longest P text n → m ≡ n
longest_one P text m n a b = cases (cases_lt m n) (cases_lt n m)
  where
    cases : (m < n) ⊎ (n ≤ m) → (n < m) ⊎ (m ≤ n) → m ≡ n
    cases (inl l) r = absurd (a.longest n l b.fits b.prefix)
    cases (inr l) (inl r) = absurd (b.longest m r a.fits a.prefix)
    cases (inr l) (inr r) = omega arith

-- The first position is unique.
first_one : (P : ℕ → Type 0) (i j : ℕ) (a b : Option ℕ) → IsFirst P i j a → IsFirst P i j b → a ≡ b
first_one P i j None None a b = refl
first_one P i j None (Some l) a b = absurd (a l b.0.low b.0.high b.1)
first_one P i j (Some k) None a b = absurd (b k a.0.low a.0.high a.1)
first_one P i j (Some k) (Some l) a b = cases (cases_lt k l) (cases_lt l k)
  where
    cases : (k < l) ⊎ (l ≤ k) → (l < k) ⊎ (k ≤ l) → Some k ≡ Some l
    cases (inl lt) r = absurd (b.0.before k a.0.low lt a.1)
    cases (inr le) (inl lt) = absurd (a.0.before l b.0.low lt b.1)
    cases (inr le) (inr ge) = let e : k ≡ l = omega arith in ap (λ z. Some z) e

one_opening : (text : List ℕ) → OpensBlock text → OpensLine text → ⊥
one_opening text a b =
    let both : ◌≡◌ {A = List ℕ} (47 ∷ 42 ∷ []) (47 ∷ 47 ∷ []) = sym a ∙ b in
    let star : ◌≡◌ {A = ℕ} 42 47 = cc in
    absurd (omega arith)

-- The length of a comment is unique.
one_comment : (text : List ℕ) (m n : ℕ) → CommentAt text m → CommentAt text n → m ≡ n
one_comment text m n (inl (o, k, f, e)) (inl (p, l, g, h)) =
    let same : Some k ≡ Some l = first_one (OccursAt (drop 2 text) (codes "*/")) 0 (length (drop 2 text) + 1) (Some k) (Some l) f g in
    let kl : k ≡ l = cc in
    omega arith
one_comment text m n (inl (o, k, f, e)) (inr (p, r, g, h)) = absurd (one_opening text o p)
one_comment text m n (inr (o, r, f, e)) (inl (p, l, g, h)) = absurd (one_opening text p o)
one_comment text m n (inr (o, r, f, e)) (inr (p, q, g, h)) =
    let same : r ≡ q = first_one (Passes (is_byte 10) text) 0 (length text) r q f g in
    e ∙ ap (λ z. unwrap_or z (length text)) same ∙ sym h

-- Two prefixes up to the first closing character have equal lengths.
one_end : (inner : ℕ → Bool) (stop : ℕ) → inner stop ≡ false → (a b r s : List ℕ) → list_all inner a ≡ true → list_all inner b ≡ true → a ++ stop ∷ r ≡ b ++ stop ∷ s → length a ≡ length b
one_end inner stop none [] [] r s p q e = refl
one_end inner stop none [] (y ∷ b) r s p q e =
    let h : stop ≡ y = cc in
    absurd (false≢true (sym none ∙ ap inner h ∙ (and_parts (inner y) (list_all inner b) q).0))
one_end inner stop none (x ∷ a) [] r s p q e =
    let h : stop ≡ x = cc in
    absurd (false≢true (sym none ∙ ap inner h ∙ (and_parts (inner x) (list_all inner a) p).0))
one_end inner stop none (x ∷ a) (y ∷ b) r s p q e =
    let t : a ++ stop ∷ r ≡ b ++ stop ∷ s = cc in
    let l = one_end inner stop none a b r s (and_parts (inner x) (list_all inner a) p).1 (and_parts (inner y) (list_all inner b) q).1 t in
    omega arith

characters_pass : (test : ℕ → Bool) → Throughout test (Repeated (One test))
characters_pass test = repeated_passes (one_passes (λ c passes. passes))

-- an opening character, a body and a closing character
pub record Between (open_code close_code : ℕ) (inner : ℕ → Bool) (s : List ℕ) : Type 0 where
  pub body : List ℕ
  pub passes : list_all inner body ≡ true
  pub is : s ≡ open_code ∷ (body ++ close_code ∷ [])

pub between : (open_code close_code : ℕ) (s : List ℕ) → IsBetween open_code close_code s → Between open_code close_code (λ c. not (c == close_code || c == 10)) s
between open_code close_code s (a, b, e, p, (c, d, f, (x, g, t), (j, k, l, (parts, all, h), m))) = record {
  body = x ∷ j;
  passes = and_from (not (x == close_code || x == 10)) (list_all (λ z. not (z == close_code || z == 10)) j) t
      ((characters_pass (λ z. not (z == close_code || z == 10))).at j (parts, all, h));
  is = e ∙ ap (λ z. z ++ b) p ∙ ap (λ z. open_code ∷ z) (f ∙ ap (λ z. z ++ d) g ∙ ap (λ z. x ∷ z) (l ∙ ap (λ z. j ++ z) m));
}

one_between : (open_code close_code : ℕ)
    → not (close_code == close_code || close_code == 10) ≡ false
    → (text : List ℕ) (m n : ℕ)
    → m ≤ length text
    → n ≤ length text
    → IsBetween open_code close_code (take m text)
    → IsBetween open_code close_code (take n text)
    → m ≡ n
one_between open_code close_code none text m n fm fn a b =
    let p = between open_code close_code (take m text) a in
    let q = between open_code close_code (take n text) b in
    let whole_m : open_code ∷ (p.body ++ close_code ∷ drop m text) ≡ text =
    ap (λ z. open_code ∷ z) (sym (append_assoc p.body (close_code ∷ []) (drop m text))) ∙ ap (λ z. z ++ drop m text) (sym p.is) ∙ take-append-drop m text in
    let whole_n : open_code ∷ (q.body ++ close_code ∷ drop n text) ≡ text =
    ap (λ z. open_code ∷ z) (sym (append_assoc q.body (close_code ∷ []) (drop n text))) ∙ ap (λ z. z ++ drop n text) (sym q.is) ∙ take-append-drop n text in
    let same : p.body ++ close_code ∷ drop m text ≡ q.body ++ close_code ∷ drop n text = cc in
    let l : length p.body ≡ length q.body = one_end (λ c. not (c == close_code || c == 10)) close_code none p.body q.body (drop m text) (drop n text) p.passes q.passes same in
    let lm : length (take m text) ≡ m = length-take-le m text fm in
    let ln : length (take n text) ≡ n = length-take-le n text fn in
    let hm = ap length p.is in
    let hn = ap length q.is in
    let am = length-append p.body (close_code ∷ []) in
    let an = length-append q.body (close_code ∷ []) in
    omega arith

-- If a prefix begins with a character that passes the test, so does the text.
begins_front : (test : ℕ → Bool) (n : ℕ) (text : List ℕ) → begins test (take n text) ≡ true → begins test text ≡ true
begins_front test zero text e = absurd (false≢true e)
begins_front test (suc n) [] e = absurd (false≢true e)
begins_front test (suc n) (c ∷ cs) e = e

begins_with : (test : ℕ → Bool) (text prefix : List ℕ) → BeginsWith text prefix → begins test prefix ≡ true → begins test text ≡ true
begins_with test text prefix b e = begins_front test (length prefix) text (subst (λ z. begins test z ≡ true) (sym b) e)

between_begins : (test : ℕ → Bool) (open_code close_code n : ℕ) (text : List ℕ) → IsBetween open_code close_code (take n text) → test open_code ≡ true → begins test text ≡ true
between_begins test open_code close_code n text b t =
    begins_front test n text (subst (λ z. begins test z ≡ true) (sym (between open_code close_code (take n text) b).is) t)

pub header_begins : (test : ℕ → Bool) → test 60 ≡ true → test 34 ≡ true → (text : List ℕ) (n : ℕ) → IsHeader (take n text) → begins test text ≡ true
header_begins test p q text n (inl a) = between_begins test 60 62 n text a p
header_begins test p q text n (inr b) = between_begins test 34 34 n text b q

apart : (a b : ℕ) → ((a == b) ≡ false) → (c : ℕ) → (c == a) ≡ true → (c == b) ≡ true → ⊥
apart a b n c e f = grind (arith, nat_tests)

one_header : (text : List ℕ) (m n : ℕ) → m ≤ length text → n ≤ length text → IsHeader (take m text) → IsHeader (take n text) → m ≡ n
one_header text m n p q (inl a) (inl b) = one_between 60 62 refl text m n p q a b
one_header text m n p q (inr a) (inr b) = one_between 34 34 refl text m n p q a b
one_header text m n p q (inl a) (inr b) =
    absurd (begins_apart (λ c. c == 60) (λ c. c == 34) (apart 60 34 refl) text (between_begins (λ c. c == 60) 60 62 m text a refl) (between_begins (λ c. c == 34) 34 34 n text b refl))
one_header text m n p q (inr a) (inl b) =
    absurd (begins_apart (λ c. c == 34) (λ c. c == 60) (apart 34 60 refl) text (between_begins (λ c. c == 34) 34 34 m text a refl) (between_begins (λ c. c == 60) 60 62 n text b refl))

pub opening_begins : (test : ℕ → Bool) → test 47 ≡ true → (text : List ℕ) → OpensBlock text ⊎ OpensLine text → begins test text ≡ true
opening_begins test t text (inl a) = begins_with test text (47 ∷ 42 ∷ []) a t
opening_begins test t text (inr b) = begins_with test text (47 ∷ 47 ∷ []) b t

comment_opens : (text : List ℕ) (n : ℕ) → CommentAt text n → OpensBlock text ⊎ OpensLine text
comment_opens text n (inl a) = inl a.0
comment_opens text n (inr b) = inr b.0

comment_visible : (text : List ℕ) (n : ℕ) → CommentAt text n → begins is_visible text ≡ true
comment_visible text n a = opening_begins is_visible refl text (comment_opens text n a)

abbrev TokenAt : Profile → List (List ℕ) → List ℕ → ℕ → Kind → Type 0
TokenAt profile line text n k = (HeaderAt profile line text n × (k ≡ Header)) ⊎ PlainTokenAt profile line text n k

token_visible : (profile : Profile) (line : List (List ℕ)) (text : List ℕ) (n : ℕ) (k : Kind) → TokenAt profile line text n k → begins is_visible text ≡ true
token_visible profile line text n k (inl (h, e)) = header_begins is_visible refl refl text n h.spelled
token_visible profile line text n k (inr p) = begins_front is_visible n text (spelling_visible (take n text) k p.spelled)

abbrev is_newline : ℕ → Bool
is_newline c = c == 10

newline_begins : (text : List ℕ) → BeginsWith text (10 ∷ []) → begins is_newline text ≡ true
newline_begins text b = begins_with is_newline text (10 ∷ []) b refl

blank_begins : (text : List ℕ) (n : ℕ) → (n ≡ 1) × (c : ℕ) × BeginsWith text (c ∷ []) × IsTrue (is_blank c) → begins is_blank text ≡ true
blank_begins text n (e, c, b, t) = begins_with is_blank text (c ∷ []) b t

newline_blank : (c : ℕ) → is_newline c ≡ true → is_blank c ≡ true → ⊥
newline_blank c e f = grind (arith, nat_tests)

newline_visible : (c : ℕ) → is_newline c ≡ true → is_visible c ≡ true → ⊥
newline_visible c e f = grind (arith, nat_tests)

blank_visible : (c : ℕ) → is_blank c ≡ true → is_visible c ≡ true → ⊥
blank_visible c e f = grind (arith, nat_tests)

-- A text that opens a comment begins no token.
opening_no_token : (profile : Profile) (line : List (List ℕ)) (text : List ℕ) (n : ℕ) (k : Kind) → OpensBlock text ⊎ OpensLine text → TokenAt profile line text n k → ⊥
opening_no_token profile line text n k a (inl (h, e)) =
    begins_apart (λ c. c == 47) (λ c. c == 60 || c == 34) slash text (opening_begins (λ c. c == 47) refl text a) (header_begins (λ c. c == 60 || c == 34) refl refl text n h.spelled)
  where
    slash : (c : ℕ) → (c == 47) ≡ true → (c == 60 || c == 34) ≡ true → ⊥
    slash c e f = grind (arith, nat_tests)
opening_no_token profile line text n k a (inr p) = p.no_comment a

one_token : (profile : Profile) (line : List (List ℕ)) (text : List ℕ) (m n : ℕ) (k l : Kind) → TokenAt profile line text m k → TokenAt profile line text n l → (m ≡ n) × (k ≡ l)
one_token profile line text m n k l (inl (g, e)) (inl (h, f)) = (one_header text m n g.fits h.fits g.spelled h.spelled, e ∙ sym f)
one_token profile line text m n k l (inl (g, e)) (inr p) = absurd (p.no_header m g)
one_token profile line text m n k l (inr p) (inl (h, f)) = absurd (p.no_header n h)
one_token profile line text m n k l (inr p) (inr q) =
    let same : m ≡ n = longest_one IsSpelling text m n p.longest q.longest in
    (same, one_kind (take n text) k l (subst (λ z. Spells k (take z text)) same p.spelled) q.spelled)

-- At most one lexeme begins a text.
pub one_piece : (profile : Profile) (line : List (List ℕ)) (text : List ℕ) (m n : ℕ) (s t : LexemeKind) → IsLexemeAt profile line text m s → IsLexemeAt profile line text n t → (m ≡ n) × (s ≡ t)
one_piece profile line text m n NewLine NewLine a b = (a.0 ∙ sym b.0, refl)
one_piece profile line text m n NewLine Blank a b = absurd (begins_apart is_newline is_blank newline_blank text (newline_begins text a.1) (blank_begins text n b))
one_piece profile line text m n NewLine Comment a b = absurd (begins_apart is_newline is_visible newline_visible text (newline_begins text a.1) (comment_visible text n b))
one_piece profile line text m n NewLine (Spelled l) a b = absurd (begins_apart is_newline is_visible newline_visible text (newline_begins text a.1) (token_visible profile line text n l b))
one_piece profile line text m n Blank NewLine a b = absurd (begins_apart is_newline is_blank newline_blank text (newline_begins text b.1) (blank_begins text m a))
one_piece profile line text m n Blank Blank a b = (a.0 ∙ sym b.0, refl)
one_piece profile line text m n Blank Comment a b = absurd (begins_apart is_blank is_visible blank_visible text (blank_begins text m a) (comment_visible text n b))
one_piece profile line text m n Blank (Spelled l) a b = absurd (begins_apart is_blank is_visible blank_visible text (blank_begins text m a) (token_visible profile line text n l b))
one_piece profile line text m n Comment NewLine a b = absurd (begins_apart is_newline is_visible newline_visible text (newline_begins text b.1) (comment_visible text m a))
one_piece profile line text m n Comment Blank a b = absurd (begins_apart is_blank is_visible blank_visible text (blank_begins text n b) (comment_visible text m a))
one_piece profile line text m n Comment Comment a b = (one_comment text m n a b, refl)
one_piece profile line text m n Comment (Spelled l) a b = absurd (opening_no_token profile line text n l (comment_opens text m a) b)
one_piece profile line text m n (Spelled k) NewLine a b = absurd (begins_apart is_newline is_visible newline_visible text (newline_begins text b.1) (token_visible profile line text m k a))
one_piece profile line text m n (Spelled k) Blank a b = absurd (begins_apart is_blank is_visible blank_visible text (blank_begins text n b) (token_visible profile line text m k a))
one_piece profile line text m n (Spelled k) Comment a b = absurd (opening_no_token profile line text m k (comment_opens text n b) a)
one_piece profile line text m n (Spelled k) (Spelled l) a b =
    let both = one_token profile line text m n k l a b in
    (both.0, ap (λ (z : Kind). Spelled z) both.1)

not_empty : (test : ℕ → Bool) (n : ℕ) (text : List ℕ) → begins test (take n text) ≡ true → 0 < n
not_empty test zero text e = absurd (false≢true e)
not_empty test (suc n) text e = omega arith

comment_some : (text : List ℕ) (n : ℕ) → CommentAt text n → 0 < n
comment_some text n (inl (o, k, f, e)) = omega arith
comment_some [] n (inr (o, r, f, e)) = cc
comment_some (c ∷ cs) n (inr (o, None, f, e)) = omega arith
comment_some (c ∷ cs) n (inr (o, Some zero, f, e)) =
    let slash : c ≡ 47 = cc in
    absurd (false≢true (ap (λ z. z == 10) (sym slash) ∙ f.1))
comment_some (c ∷ cs) n (inr (o, Some (suc k), f, e)) = omega arith

-- A lexeme is not empty.
pub some_piece : (profile : Profile) (line : List (List ℕ)) (text : List ℕ) (n : ℕ) (s : LexemeKind) → IsLexemeAt profile line text n s → 0 < n
some_piece profile line text n NewLine a = omega arith
some_piece profile line text n Blank a = omega arith
some_piece profile line text n Comment a = comment_some text n a
some_piece profile line text n (Spelled k) (inl (h, e)) = header_some h.spelled
  where
    header_some : IsHeader (take n text) → 0 < n
    header_some (inl a) = not_empty (λ c. c == 60) n text (subst (λ z. begins (λ c. c == 60) z ≡ true) (sym (between 60 62 (take n text) a).is) refl)
    header_some (inr a) = not_empty (λ c. c == 34) n text (subst (λ z. begins (λ c. c == 34) z ≡ true) (sym (between 34 34 (take n text) a).is) refl)
some_piece profile line text n (Spelled k) (inr p) = not_empty is_visible n text (spelling_visible (take n text) k p.spelled)

-- No lexeme begins where an unclosed comment opens.
pub no_piece_open : (profile : Profile) (line : List (List ℕ)) (text : List ℕ) (n : ℕ) (s : LexemeKind) → OpensBlock text → ClosesAt text None → IsLexemeAt profile line text n s → ⊥
no_piece_open profile line text n NewLine o never a =
    begins_apart is_newline is_visible newline_visible text (newline_begins text a.1) (opening_begins is_visible refl text (inl o))
no_piece_open profile line text n Blank o never a =
    begins_apart is_blank is_visible blank_visible text (blank_begins text n a) (opening_begins is_visible refl text (inl o))
no_piece_open profile line text n Comment o never (inl (p, k, f, e)) = never k f.0.low f.0.high f.1
no_piece_open profile line text n Comment o never (inr (p, r, f, e)) = one_opening text o p
no_piece_open profile line text n (Spelled k) o never a = opening_no_token profile line text n k (inl o) a

-- ---- a text has at most one tokenization, and at most one location of an unclosed comment

-- no lexeme begins this rest
Halts : Profile → List Char → Type 0
Halts profile rest = (line : List (List ℕ)) (n : ℕ) (s : LexemeKind) → n ≤ length rest → IsLexemeAt profile line (codes_of rest) n s → ⊥

halts_here : (profile : Profile) (line : List (List ℕ)) (p : Lexeme) (ps : List Lexeme) (rest here : List Char)
    → Halts profile here
    → here ≡ characters_of (p ∷ ps) ++ rest
    → IsLexemeAt profile line (codes_of (p.chars ++ (characters_of ps ++ rest))) (length p.chars) p.kind
    → ⊥
unfolding Halts
halts_here profile line p ps rest here halts e is_lexeme =
    let whole : here ≡ p.chars ++ (characters_of ps ++ rest) = e ∙ append_assoc p.chars (characters_of ps) rest in
    let l = length-append p.chars (characters_of ps ++ rest) in
    let h = ap length whole in
    halts line (length p.chars) p.kind (omega arith) (subst (λ z. IsLexemeAt profile line (codes_of z) (length p.chars) p.kind) (sym whole) is_lexeme)

same_piece : (p q : Lexeme) → p.chars ≡ q.chars → p.kind ≡ q.kind → p ≡ q
same_piece p q chars kind = ap (λ (z : List Char). record { kind = p.kind; chars = z }) chars ∙ ap (λ (z : LexemeKind). record { kind = z; chars = q.chars }) kind

-- Two tokenizations of prefixes of a text are equal if no lexeme begins their rests.
one_each : (profile : Profile) (line : List (List ℕ)) (ps qs : List Lexeme) (r s : List Char)
    → AreLexemes profile line ps r
    → AreLexemes profile line qs s
    → Halts profile r
    → Halts profile s
    → characters_of ps ++ r ≡ characters_of qs ++ s
    → (ps ≡ qs) × (r ≡ s)
one_each profile line [] [] r s a b x y e = (refl, e)
one_each profile line [] (q ∷ qs) r s a b x y e = absurd (halts_here profile line q qs s r x e b.0)
one_each profile line (p ∷ ps) [] r s a b x y e = absurd (halts_here profile line p ps r s y (sym e) a.0)
one_each profile line (p ∷ ps) (q ∷ qs) r s a b x y e =
    let whole : p.chars ++ (characters_of ps ++ r) ≡ q.chars ++ (characters_of qs ++ s) = sym (append_assoc p.chars (characters_of ps) r) ∙ e ∙ append_assoc q.chars (characters_of qs) s in
    let same : (length p.chars ≡ length q.chars) × (p.kind ≡ q.kind) =
    one_piece profile line (codes_of (p.chars ++ (characters_of ps ++ r))) (length p.chars) (length q.chars) p.kind q.kind a.0
    (subst (λ z. IsLexemeAt profile line (codes_of z) (length q.chars) q.kind) (sym whole) b.0) in
    let chars : p.chars ≡ q.chars = sym (take_at p.chars (characters_of ps ++ r) (length q.chars) same.0) ∙ ap (take (length q.chars)) whole ∙ take_at q.chars (characters_of qs ++ s) (length q.chars) refl in
    let behind : characters_of ps ++ r ≡ characters_of qs ++ s = sym (drop_at p.chars (characters_of ps ++ r) (length q.chars) same.0) ∙ ap (drop (length q.chars)) whole ∙ drop_at q.chars (characters_of qs ++ s) (length q.chars) refl in
    let lexeme : p ≡ q = same_piece p q chars same.1 in
    let rest = one_each profile (with_lexeme line p p.kind) ps qs r s a.1 (subst (λ (z : Lexeme). AreLexemes profile (with_lexeme line z z.kind) qs s) (sym lexeme) b.1) x y behind in
    (ap (λ (z : Lexeme). z ∷ ps) lexeme ∙ ap (λ (z : List Lexeme). q ∷ z) rest.0, rest.1)

end_halts : (profile : Profile) → Halts profile []
unfolding Halts
end_halts profile line n s le is_lexeme = let some = some_piece profile line [] n s is_lexeme in omega arith

open_halts : (profile : Profile) (rest : List Char) → OpensBlock (codes_of rest) → ClosesAt (codes_of rest) None → Halts profile rest
unfolding Halts
open_halts profile rest opens never line n s le is_lexeme = no_piece_open profile line (codes_of rest) n s opens never is_lexeme

pub one_tokenization : (profile : Profile) (chars : List Char) (a b : List Lexeme) → Tokenizes profile chars a → Tokenizes profile chars b → a ≡ b
one_tokenization profile chars a b x y = (one_each profile [] a b [] [] x.each y.each (end_halts profile) (end_halts profile) (x.whole ∙ sym y.whole)).0

-- A text that has a tokenization has no unclosed comment.
pub cut_closed : (profile : Profile) (chars : List Char) (ps : List Lexeme) (p : Place) → Tokenizes profile chars ps → Unclosed profile chars p → ⊥
cut_closed profile chars ps p x u =
    let same : u.rest ≡ [] = (one_each profile [] u.lexemes ps u.rest [] u.tokenized.each x.each (open_halts profile u.rest u.opens u.not_closed) (end_halts profile) (u.tokenized.whole ∙ sym x.whole)).1 in
    let opens : OpensBlock [] = subst (λ z. OpensBlock (codes_of z)) same u.opens in
    cc

-- The location of an unclosed comment is unique.
pub one_unclosed : (profile : Profile) (chars : List Char) (p q : Place) → Unclosed profile chars p → Unclosed profile chars q → p ≡ q
one_unclosed profile chars p q u v =
    let first_halts : Halts profile u.rest = open_halts profile u.rest u.opens u.not_closed in
    let second_halts : Halts profile v.rest = open_halts profile v.rest v.opens v.not_closed in
    let whole : characters_of u.lexemes ++ u.rest ≡ characters_of v.lexemes ++ v.rest = u.tokenized.whole ∙ sym v.tokenized.whole in
    let same : u.rest ≡ v.rest = (one_each profile [] u.lexemes v.lexemes u.rest v.rest u.tokenized.each v.tokenized.each first_halts second_halts whole).1 in
    u.at_is ∙ ap head_place same ∙ sym v.at_is
