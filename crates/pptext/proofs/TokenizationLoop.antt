-- The loop that tokenizes a text: a tokenization grows by one lexeme, and its lines with it.
use Rattle.std.proofs.Common.{◌≡◌, ℕ, Bool, true, List, [], ◌∷◌, ◌++◌, length, refl, sym, ap, ◌∙◌, subst, append_assoc, zero, suc, ◌+◌, ◌-◌, ◌<◌, ◌≤◌, false, take, drop, arith, length-drop, get_or, None, Ok, IsTrue, add-zero}
use Rattle.std.proofs.lemmas.List.{append-nil, length-map, take-append-drop, drop-drop, length-take-le, take-append-le, drop-append-le, drop_all, length_push, take-map, drop-map, drop_more, take_all}
use Rattle.std.specs.List.{AllByRecursion}
use Rattle.pptext.specs.declared.tokens.Token.{Token}
use Rattle.pptext.specs.declared.characters.Char.{Char}
use Rattle.pptext.specs.declared.sources.Profile.{Profile}
use Rattle.pptext.specs.Clean.{codes_of}
use Rattle.pptext.specs.Lexemes.{Lexeme, characters_of, with_lexeme, IsLexemeAt, AreLexemes, TokenizesPrefix, LexemeKind, NewLine, Blank, Comment, Spelled, head_place, Unclosed, OpensBlock, ClosesAt, BeginsWith}
use Rattle.pptext.specs.Lines.{LogicalLine, lines_after, lines_ended, leaves_space, tokens_after, line_of, token_of, IsDirected}
use Rattle.pptext.specs.declared.tokens.Place.{Place}
use Rattle.pptext.specs.declared.tokens.Kind.{Kind}
use Rattle.pptext.specs.declared.sources.Line.{Line}
use Rattle.pptext.specs.code.FoundLexemes.{spellings, TokenizesInto}
use Rattle.pptext.specs.Spellings.{is_blank}
use Rattle.pptext.specs.Sources.{line_tokens}
use Rattle.pptext.specs.code.Grouping.{line_span, line_spans}
use Rattle.pptext.proofs.Spans.{drafts_are, line_spans-append, line_tokens-append}
use Rattle.pptext.proofs.DirectiveLines.{pieces_are_directed}

-- ---- a tokenization grows by one lexeme; the lines of its lexemes grow with it

-- the token spellings of the current line after the lexemes
abbrev pub line_after : List (List ℕ) → List Lexeme → List (List ℕ)
line_after line [] = line
line_after line (p ∷ ps) = line_after (with_lexeme line p p.kind) ps

characters_of-append : (ps qs : List Lexeme) → characters_of (ps ++ qs) ≡ characters_of ps ++ characters_of qs
characters_of-append [] qs = refl
characters_of-append (p ∷ ps) qs = ap (λ z. p.chars ++ z) (characters_of-append ps qs) ∙ sym (append_assoc p.chars (characters_of ps) (characters_of qs))

laid_one : (p : Lexeme) (ps : List Lexeme) (rest : List Char) → characters_of (ps ++ p ∷ []) ++ rest ≡ characters_of ps ++ (p.chars ++ rest)
laid_one p ps rest =
    ap (λ z. z ++ rest) (characters_of-append ps (p ∷ []) ∙ ap (λ z. characters_of ps ++ z) (append-nil p.chars)) ∙ append_assoc (characters_of ps) p.chars rest

each_more : (profile : Profile) (line : List (List ℕ)) (ps : List Lexeme) (p : Lexeme) (rest : List Char)
    → AreLexemes profile line ps (p.chars ++ rest)
    → IsLexemeAt profile (line_after line ps) (codes_of (p.chars ++ rest)) (length p.chars) p.kind
    → AreLexemes profile line (ps ++ p ∷ []) rest
each_more profile line [] p rest each here = (here, tt)
each_more profile line (q ∷ qs) p rest each here =
    (subst (λ z. IsLexemeAt profile line (codes_of (q.chars ++ z)) (length q.chars) q.kind) (sym (laid_one p qs rest)) each.0, each_more profile (with_lexeme line q q.kind) qs p rest each.1 here)

-- One more lexeme extends the tokenization of a prefix.
pub cut_more : (profile : Profile) (chars : List Char) (ps : List Lexeme) (p : Lexeme) (rest : List Char)
    → TokenizesPrefix profile chars ps (p.chars ++ rest)
    → IsLexemeAt profile (line_after [] ps) (codes_of (p.chars ++ rest)) (length p.chars) p.kind
    → TokenizesPrefix profile chars (ps ++ p ∷ []) rest
cut_more profile chars ps p rest tokenized here = record {
  whole = laid_one p ps rest ∙ tokenized.whole;
  each = each_more profile [] ps p rest tokenized.each here;
}

pub no_piece : (profile : Profile) (chars : List Char) → TokenizesPrefix profile chars [] chars
no_piece profile chars = record { whole = refl; each = tt }

pub line_after-append : (line : List (List ℕ)) (ps : List Lexeme) (p : Lexeme) → line_after line (ps ++ p ∷ []) ≡ with_lexeme (line_after line ps) p p.kind
line_after-append line [] p = refl
line_after-append line (q ∷ qs) p = line_after-append (with_lexeme line q q.kind) qs p

-- The lines of any list that begins with these lexemes: `done`, and then the lines of the later lexemes.
pub LinesSoFar : Profile → List Lexeme → List LogicalLine → Bool → List Token → Type 0
LinesSoFar profile ps done space open_tokens =
    (more : List Lexeme) → lines_after profile true [] (ps ++ more) ≡ done ++ lines_after profile space open_tokens more

pub lines_start : (profile : Profile) → LinesSoFar profile [] [] true []
unfolding LinesSoFar
lines_start profile more = refl

pub lines_more : (profile : Profile) (ps : List Lexeme) (done : List LogicalLine) (space : Bool) (ts : List Token) (p : Lexeme)
    → LinesSoFar profile ps done space ts
    → LinesSoFar profile (ps ++ p ∷ []) (done ++ lines_ended profile ts p.chars p.kind) (leaves_space p.kind) (tokens_after space ts p.chars p.kind)
unfolding LinesSoFar
lines_more profile ps done space ts p sofar more =
    ap (lines_after profile true []) (append_assoc ps (p ∷ []) more)
    ∙ sofar (p ∷ more)
    ∙ sym
    (append_assoc done (lines_ended profile ts p.chars p.kind) (lines_after profile (leaves_space p.kind) (tokens_after space ts p.chars p.kind) more))

pub lines_all : (profile : Profile) (ps : List Lexeme) (done : List LogicalLine) (space : Bool) (ts : List Token) → LinesSoFar profile ps done space ts → lines_after profile true [] ps ≡ done
unfolding LinesSoFar
lines_all profile ps done space ts sofar = ap (lines_after profile true []) (sym (append-nil ps)) ∙ sofar [] ∙ append-nil done

-- ---- the loop that tokenizes a text: its invariant, and each kind of iteration

spellings-append : (ts : List Token) (t : Token) → spellings (ts ++ t ∷ []) ≡ spellings ts ++ t.text ∷ []
spellings-append [] t = refl
spellings-append (u ∷ ts) t = ap (λ z. u.text ∷ z) (spellings-append ts t)

-- the invariant of the loop
pub record State (profile : Profile) (chars : List Char) (at start : ℕ) (space : Bool) (ts : List Token) (ls : List Line) : Type 0 where
  pub within : at ≤ length chars
  pub started : start ≤ length ts
  pub few : length ls ≤ at
  pub lexemes : List Lexeme
  pub tokenized : TokenizesPrefix profile chars lexemes (drop at chars)
  pub lines : List LogicalLine
  pub tokens : line_tokens lines ≡ take start ts
  pub spans : ls ≡ line_spans 0 lines
  pub sofar : LinesSoFar profile lexemes lines space (drop start ts)
  pub line : line_after [] lexemes ≡ spellings (drop start ts)

pub state_start : (profile : Profile) (chars : List Char) → State profile chars 0 0 true [] []
state_start profile chars = record { within = omega arith; started = omega arith; few = omega arith; lexemes = []; tokenized = no_piece profile chars; lines = []; tokens = refl; spans = refl; sofar = lines_start profile; line = refl }

abbrev pub lexeme_at : List Char → ℕ → ℕ → LexemeKind → Lexeme
lexeme_at chars at n s = record { kind = s; chars = take n (drop at chars) }

-- the parts of the invariant after one more lexeme of any kind
pub record Grown (profile : Profile) (chars : List Char) (at n : ℕ) (s : LexemeKind) (space : Bool) (done : List LogicalLine) (open_tokens : List Token) (lexemes : List Lexeme) : Type 0 where
  pub in_bounds : at + n ≤ length chars
  pub tokenized : TokenizesPrefix profile chars (lexemes ++ lexeme_at chars at n s ∷ []) (drop (at + n) chars)
  pub sofar : LinesSoFar profile (lexemes ++ lexeme_at chars at n s ∷ []) (done ++ lines_ended profile open_tokens (take n (drop at chars)) s) (leaves_space s) (tokens_after space open_tokens (take n (drop at chars)) s)
  pub line : line_after [] (lexemes ++ lexeme_at chars at n s ∷ []) ≡ with_lexeme (spellings open_tokens) (lexeme_at chars at n s) s

pub head_of_drop : (chars : List Char) (at : ℕ) (d : Char) → at < length chars → (get_or chars at d).at ≡ head_place (drop at chars)
head_of_drop chars at d lt = rw (drop_more chars at d lt) refl

pub head_of_take : (chars : List Char) (at n : ℕ) (d : Char) → at < length chars → 0 < n → (get_or chars at d).at ≡ head_place (take n (drop at chars))
head_of_take chars at zero d lt some = absurd (omega arith)
head_of_take chars at (suc n) d lt some = rw (drop_more chars at d lt) refl

pub token_is : (chars : List Char) (at n : ℕ) (d : Char) (k : Kind) (space : Bool) (text : List ℕ) (p : Place) → at < length chars → 0 < n → text ≡ take n (drop at (codes_of chars)) → p ≡ (get_or chars at d).at
    → record { kind = k; text = text; space = space; at = p; used = p } ≡ token_of k space (take n (drop at chars))
token_is chars at n d k space text p lt some is there =
    let spelling : text ≡ codes_of (take n (drop at chars)) = is ∙ ap (take n) (drop-map (λ (c : Char). c.code) at chars) ∙ take-map (λ (c : Char). c.code) n (drop at chars) in
    rw (spelling, there, head_of_take chars at n d lt some) refl

codes_from : (chars : List Char) (at : ℕ) → codes_of (drop at chars) ≡ drop at (codes_of chars)
codes_from chars at = sym (drop-map (λ (c : Char). c.code) at chars)

pub codes_length : (chars : List Char) → length (codes_of chars) ≡ length chars
codes_length chars = length-map chars (λ (c : Char). c.code)

module _ (profile : Profile) (chars : List Char) where
  pub grown : (at start n : ℕ) (space : Bool) (ts : List Token) (ls : List Line) (s : LexemeKind) (st : State profile chars at start space ts ls)
      → n ≤ length (drop at (codes_of chars))
      → IsLexemeAt profile (spellings (drop start ts)) (drop at (codes_of chars)) n s
      → Grown profile chars at n s space st.lines (drop start ts) st.lexemes
  grown at start n space ts ls s st fits here =
      let p = lexeme_at chars at n s in
      let l = codes_length chars in
      let dc : length (drop at (codes_of chars)) ≡ length (codes_of chars) - at = length-drop at (codes_of chars) in
      let dd : length (drop at chars) ≡ length chars - at = length-drop at chars in
      let split : take n (drop at chars) ++ drop (at + n) chars ≡ drop at chars = ap (λ z. take n (drop at chars) ++ z) (sym (drop-drop n at chars)) ∙ take-append-drop n (drop at chars) in
      let len : length (take n (drop at chars)) ≡ n = length-take-le n (drop at chars) (omega (arith, st.within)) in
      let standing : IsLexemeAt profile (line_after [] st.lexemes) (codes_of (take n (drop at chars) ++ drop (at + n) chars)) (length (take n (drop at chars))) s = rw (split, codes_from chars at, len, st.line) here in
      record {
        in_bounds = omega (arith, st.within);
        tokenized = cut_more profile chars st.lexemes p (drop (at + n) chars) (subst (TokenizesPrefix profile chars st.lexemes) (sym split) st.tokenized) standing;
        sofar = lines_more profile st.lexemes st.lines space (drop start ts) p st.sofar;
        line = line_after-append [] st.lexemes p ∙ ap (λ z. with_lexeme z p s) st.line;
      }

  -- one blank
  skip_blank : (at start : ℕ) (space : Bool) (ts : List Token) (ls : List Line)
      → State profile chars at start space ts ls
      → at < length chars
      → IsTrue (is_blank (get_or (codes_of chars) at 0))
      → State profile chars (at + 1) start true ts ls
  skip_blank at start space ts ls st lt here =
      let l = codes_length chars in
      let d = length-drop at (codes_of chars) in
      let begins : BeginsWith (drop at (codes_of chars)) (get_or (codes_of chars) at 0 ∷ []) = rw (drop_more (codes_of chars) at 0 (omega arith)) refl in
      let g = grown at start 1 space ts ls Blank st (omega arith) (refl, get_or (codes_of chars) at 0, begins, here) in
      record {
        within = g.in_bounds;
        started = st.started;
        few = omega (arith, st.few);
        lexemes = st.lexemes ++ lexeme_at chars at 1 Blank ∷ [];
        tokenized = g.tokenized;
        lines = st.lines;
        tokens = st.tokens;
        spans = st.spans;
        sofar = subst (λ (z : List LogicalLine). LinesSoFar profile (st.lexemes ++ lexeme_at chars at 1 Blank ∷ []) z true (drop start ts))
            (append-nil st.lines) g.sofar;
        line = g.line;
      }

  -- blanks
  pub skip_blanks : (n at start : ℕ) (space : Bool) (ts : List Token) (ls : List Line)
      → State profile chars at start space ts ls
      → 0 < n
      → at + n ≤ length chars
      → ((k : ℕ) → k < n → IsTrue (is_blank (get_or (codes_of chars) (at + k) 0)))
      → State profile chars (at + n) start true ts ls
  skip_blanks zero at start space ts ls st some fits blank = absurd (omega arith)
  skip_blanks (suc zero) at start space ts ls st some fits blank =
      skip_blank at start space ts ls st (omega arith) (rw add-zero at (blank 0 (omega arith)))
  skip_blanks (suc (suc n)) at start space ts ls st some fits blank =
      let one = skip_blank at start space ts ls st (omega arith) (rw add-zero at (blank 0 (omega arith))) in
      subst (λ z. State profile chars z start true ts ls) (omega arith)
      (skip_blanks (suc n) (at + 1) start true ts ls one (omega arith) (omega arith)
      (λ k lt. subst (λ z. IsTrue (is_blank (get_or (codes_of chars) z 0))) (omega arith) (blank (k + 1) (omega arith))))

  -- a comment
  pub skip_comment : (at start n : ℕ) (space : Bool) (ts : List Token) (ls : List Line)
      → State profile chars at start space ts ls
      → n ≤ length (drop at (codes_of chars))
      → IsLexemeAt profile (spellings (drop start ts)) (drop at (codes_of chars)) n Comment
      → State profile chars (at + n) start true ts ls
  skip_comment at start n space ts ls st fits here =
      let g = grown at start n space ts ls Comment st fits here in
      record {
        within = g.in_bounds;
        started = st.started;
        few = omega (arith, st.few);
        lexemes = st.lexemes ++ lexeme_at chars at n Comment ∷ [];
        tokenized = g.tokenized;
        lines = st.lines;
        tokens = st.tokens;
        spans = st.spans;
        sofar = subst (λ (z : List LogicalLine). LinesSoFar profile (st.lexemes ++ lexeme_at chars at n Comment ∷ []) z true (drop start ts))
            (append-nil st.lines) g.sofar;
        line = g.line;
      }

  -- a new-line
  pub end_line : (at start stop : ℕ) (space : Bool) (ts : List Token) (ls : List Line) (number : ℕ)
      → State profile chars at start space ts ls
      → stop ≡ length ts
      → number ≡ (head_place (take 1 (drop at chars))).line
      → 1 ≤ length (drop at (codes_of chars))
      → IsLexemeAt profile (spellings (drop start ts)) (drop at (codes_of chars)) 1 NewLine
      → State profile chars (at + 1) stop true ts (ls ++ line_span start (line_of profile (drop start ts) number) ∷ [])
  end_line at start stop space ts ls number st stop_is number_is fits here =
      let g = grown at start 1 space ts ls NewLine st fits here in
      let line : LogicalLine = line_of profile (drop start ts) number in
      let none : drop stop ts ≡ [] = drop_all stop ts (omega arith) in
      let before : 0 + length (line_tokens st.lines) ≡ start = omega (arith, ap length st.tokens, length-take-le start ts st.started) in
      let done : st.lines ++ lines_ended profile (drop start ts) (take 1 (drop at chars)) NewLine ≡ st.lines ++ line ∷ [] = ap (λ (z : ℕ). st.lines ++ line_of profile (drop start ts) z ∷ []) (sym number_is) in
      record {
        within = g.in_bounds;
        started = omega arith;
        few = omega (arith, st.few, length_push ls (line_span start (line_of profile (drop start ts) number)));
        lexemes = st.lexemes ++ lexeme_at chars at 1 NewLine ∷ [];
        tokenized = g.tokenized;
        lines = st.lines ++ line ∷ [];
        tokens = line_tokens-append st.lines line ∙ ap (λ (z : List Token). z ++ drop start ts) st.tokens ∙ take-append-drop start ts ∙ sym (take_all stop ts (omega arith));
        spans = ap (λ (z : List Line). z ++ line_span start (line_of profile (drop start ts) number) ∷ []) st.spans ∙ ap (λ (n : ℕ). line_spans 0 st.lines ++ line_span n line ∷ []) (sym before) ∙ sym (line_spans-append 0 st.lines line);
        sofar = rw (none, sym done) g.sofar;
        line = rw none g.line;
      }

  -- a token
  pub add_token : (at start n : ℕ) (space : Bool) (ts : List Token) (ls : List Line) (k : Kind) (t : Token)
      → State profile chars at start space ts ls
      → t ≡ token_of k space (take n (drop at chars))
      → n ≤ length (drop at (codes_of chars))
      → IsLexemeAt profile (spellings (drop start ts)) (drop at (codes_of chars)) n (Spelled k)
      → State profile chars (at + n) start false (ts ++ t ∷ []) ls
  add_token at start n space ts ls k t st is fits here =
      let g = grown at start n space ts ls (Spelled k) st fits here in
      let wider : length (ts ++ t ∷ []) ≡ length ts + 1 = length_push ts t in
      let more : drop start (ts ++ t ∷ []) ≡ drop start ts ++ t ∷ [] = drop-append-le start ts (t ∷ []) st.started in
      let after_line : tokens_after space (drop start ts) (take n (drop at chars)) (Spelled k) ≡ drop start ts ++ t ∷ [] = ap (λ (z : Token). drop start ts ++ z ∷ []) (sym is) in
      record {
        within = g.in_bounds;
        started = omega (arith, st.started);
        few = omega (arith, st.few);
        lexemes = st.lexemes ++ lexeme_at chars at n (Spelled k) ∷ [];
        tokenized = g.tokenized;
        lines = st.lines;
        tokens = st.tokens ∙ sym (take-append-le start ts (t ∷ []) st.started);
        spans = st.spans;
        sofar = subst (λ (z : List Token). LinesSoFar profile (st.lexemes ++ lexeme_at chars at n (Spelled k) ∷ []) st.lines false z) (after_line ∙ sym more)
            (subst (λ (z : List LogicalLine). LinesSoFar profile (st.lexemes ++ lexeme_at chars at n (Spelled k) ∷ []) z false
            (tokens_after space (drop start ts) (take n (drop at chars)) (Spelled k))) (append-nil st.lines) g.sofar);
        line = g.line ∙ ap (λ (z : List ℕ). spellings (drop start ts) ++ z ∷ []) (sym (ap (λ (u : Token). u.text) is)) ∙ sym (ap spellings more ∙ spellings-append (drop start ts) t);
      }

  -- At the end of the text, the tokens after the last new-line are dropped.
  pub cut_all : (at start : ℕ) (space : Bool) (ts : List Token) (ls : List Line) → State profile chars at start space ts ls → length (codes_of chars) ≤ at → TokenizesInto profile chars (take start ts) ls (Ok tt)
  cut_all at start space ts ls st past =
      let l = codes_length chars in
      let none : drop at chars ≡ [] = drop_all at chars (omega arith) in
      let all = lines_all profile st.lexemes st.lines space (drop start ts) st.sofar in
      let are = drafts_are (take start ts) ls st.lines st.tokens st.spans (profile, subst (AllByRecursion (IsDirected profile)) all (pieces_are_directed profile st.lexemes)) in
      (st.lexemes, subst (TokenizesPrefix profile chars st.lexemes) none st.tokenized, all ∙ sym are.0, are.1, omega (arith, st.few, st.within))

  pub left_unclosed : (at start : ℕ) (space : Bool) (ts : List Token) (ls : List Line) (p : Place)
      → State profile chars at start space ts ls
      → p ≡ head_place (drop at chars)
      → OpensBlock (drop at (codes_of chars)) × ClosesAt (drop at (codes_of chars)) None
      → Unclosed profile chars p
  left_unclosed at start space ts ls p st is open_block = record {
    lexemes = st.lexemes;
    rest = drop at chars;
    tokenized = st.tokenized;
    opens = rw (codes_from chars at) open_block.0;
    not_closed = rw (codes_from chars at) open_block.1;
    at_is = is;
  }
