-- Texts with a `|` before each line, piece by piece.
use Rattle.std.proofs.Common.{◌≡◌, ℕ, zero, suc, ◌+◌, ◌-◌, ◌/◌, ◌%◌, ◌≤◌, ◌<◌, ◌==◌, Bool, true, false, List, [], ◌∷◌, ◌++◌, length, take, drop}
use Rattle.std.proofs.Common.{replicate, codes, decimal, refl, sym, ap, ◌∙◌, arith, append_assoc, append-nil, Option, Some, None, if◌then◌else◌}
use Rattle.std.specs.Prelude.{is_some, is_none, slice_index}
use Rattle.std.specs.Fmt.{digit_glyph, digits, digits_onto}
use Rattle.std.proofs.lemmas.Bool.{false≢true, ne_eqb}
use Rattle.std.proofs.lemmas.Bool.Decides.{nat_tests}
use Rattle.std.proofs.lemmas.Grind.{flat_map-append}
use Rattle.std.proofs.lemmas.List.{replicate-append-replicate}
use Rattle.pptext.specs.declared.tokens.Token.{Token}
use Rattle.ppprint.specs.Apart.{Written}
use Rattle.ppprint.specs.Shown.{Location, PragmaToken, Turn, Enters, Leaves, Renumbers, Shown, ShowsToken, ShowsPragma, ShowsMark}
use Rattle.ppprint.specs.Text.{Line, Way, Stay, Down, Jump, empty_line, line_after, line_end, marker, last_space, own_line, pragma_space, pragma_text, pragma_tokens_text, pragma_written}
use Rattle.ppprint.specs.Text.{spaces, spaces_before, space_after, system_flag, text_after, token_text, turn_flag, way_line, way_text, way_to, written}
use Rattle.ppprint.specs.code.Steps.{step_line, step_way, token_step, way_from}
use Rattle.ppserve.specs.Output.{barred, prints_as_is}
use Rattle.ppserve.specs.code.LinePrefix.{PrintsAsIsBetween}
use Rattle.ppserve.specs.code.TextPieces.{barred_byte, barred_way, with_bars, bar, ended, empty_lines, lines_down, marker_bytes, own_marker, pragma_bytes, text_left, token_bytes}

-- ---- texts within a line

abbrev pub starts : List ℕ → Bool
starts [] = false
starts (c ∷ cs) = true

-- text follows
abbrev pub Follows : List ℕ → Type 0
Follows rest = starts rest ≡ true

-- a line begins before text that follows
pub barred_first : (begins : Bool) (rest : List ℕ) → Follows rest → barred begins rest ≡ bar begins ++ barred false rest
barred_first begins [] e = absurd (false≢true e)
barred_first true (c ∷ cs) e = refl
barred_first false (c ∷ cs) e = refl

pub follows_more : (xs rest : List ℕ) → Follows rest → Follows (xs ++ rest)
follows_more [] rest e = e
follows_more (x ∷ xs) rest e = refl

within_step : (c : ℕ) (more bars rest : List ℕ) (b : Bool) → barred false more ≡ bars ++ rest → Follows more
    → c ∷ barred b more ≡ (if b then c ∷ 124 ∷ [] else c ∷ []) ++ bars ++ rest
within_step c more bars rest true e f = ap (λ z. c ∷ z) (barred_first true more f ∙ ap (λ z. 124 ∷ z) e)
within_step c more bars rest false e f = ap (λ z. c ∷ z) e

-- a piece of text within a line that goes on
pub barred_within : (xs rest : List ℕ) → Follows rest → barred false (xs ++ rest) ≡ with_bars xs ++ barred false rest
barred_within [] rest e = refl
barred_within (c ∷ xs) rest e = within_step c (xs ++ rest) (with_bars xs) (barred false rest) (c == 10) (barred_within xs rest e) (follows_more xs rest e)

-- what does not pass a test
pub fails : (b : Bool) → (b ≡ true → ⊥) → b ≡ false
fails b never = by b refl
  where
    by : (a : Bool) → b ≡ a → b ≡ false
    by true e = absurd (never e)
    by false e = e

-- text without a new-line
pub free_bars : (text : List ℕ) → ((k : ℕ) → k < length text → (slice_index text k == 10) ≡ false) → with_bars text ≡ text
free_bars [] free = refl
free_bars (c ∷ cs) free = rw (free 0 (omega arith)) (ap (λ z. c ∷ z) (free_bars cs (λ k lt. free (suc k) (omega (arith, lt)))))

is_end : (c : ℕ) → (c == 10) ≡ true → c ≡ 10
is_end c e = grind (arith, nat_tests)

-- text through its first new-line
pub line_bars : (text : List ℕ) (k : ℕ) → k < length text → ((j : ℕ) → j < k → (slice_index text j == 10) ≡ false) → (slice_index text k == 10) ≡ true
    → with_bars text ≡ take k text ++ 10 ∷ 124 ∷ with_bars (drop 1 (drop k text))
line_bars [] k lt free e = absurd (omega (arith, lt))
line_bars (c ∷ cs) zero lt free e = rw e (ap (λ z. z ∷ 124 ∷ with_bars cs) (is_end c e))
line_bars (c ∷ cs) (suc k) lt free e =
    rw (free 0 (omega arith)) (ap (λ z. c ∷ z) (line_bars cs k (omega (arith, lt)) (λ j before. free (suc j) (omega (arith, before))) e))

-- text that does not begin with a backslash
pub unslashed : (text : List ℕ) (n : ℕ) → (slice_index text 0 ≡ 92 → ⊥) → space_after (take n text) ≡ 0
unslashed [] zero e = refl
unslashed [] (suc n) e = refl
unslashed (c ∷ cs) zero e = refl
unslashed (c ∷ cs) (suc n) e = let differs : (c == 92) ≡ false = ne_eqb c 92 e in rw differs refl

as_is_no_end : (c : ℕ) → prints_as_is c ≡ true → (c == 10) ≡ false
as_is_no_end c e = grind (arith, nat_tests)

-- text that is printed as it is
pub plain_bars : (text : List ℕ) (n : ℕ) → n ≤ length text → PrintsAsIsBetween text 0 n → with_bars (take n text) ≡ take n text
plain_bars text zero within plain = refl
plain_bars [] (suc n) within plain = absurd (omega (arith, within))
plain_bars (c ∷ cs) (suc n) within plain =
    rw (as_is_no_end c (plain 0 (omega arith) (omega arith))) (ap (λ z. c ∷ z) (plain_bars cs n (omega (arith, within)) (λ k from to. plain (suc k) (omega arith) (omega (arith, to)))))

pub bars_append : (xs ys : List ℕ) → with_bars (xs ++ ys) ≡ with_bars xs ++ with_bars ys
bars_append xs ys = flat_map-append barred_byte xs ys

pub spaces_bars : (n : ℕ) → with_bars (spaces n) ≡ spaces n
spaces_bars zero = refl
spaces_bars (suc n) = ap (λ z. 32 ∷ z) (spaces_bars n)

glyph_no_end : (d : ℕ) → (digit_glyph false d == 10) ≡ false
glyph_no_end d = grind (arith, nat_tests)

digits_step : (b : Bool) (xs ys : List ℕ) → with_bars xs ≡ xs → with_bars ys ≡ ys → with_bars (if b then xs else ys) ≡ (if b then xs else ys)
digits_step true xs ys e f = e
digits_step false xs ys e f = f

digits_bars : (k n : ℕ) (acc : List ℕ) → with_bars acc ≡ acc → with_bars (digits_onto k 10 false n acc) ≡ digits_onto k 10 false n acc
digits_bars zero n acc e = e
digits_bars (suc k) n acc e =
    let last = digit_glyph false (n % 10) in
    let one : with_bars (last ∷ acc) ≡ last ∷ acc = rw (glyph_no_end (n % 10)) (ap (λ z. last ∷ z) e) in
    digits_step (n / 10 == 0) (last ∷ acc) (digits_onto k 10 false (n / 10) (last ∷ acc)) one (digits_bars k (n / 10) (last ∷ acc) one)

pub decimal_bars : (n : ℕ) → with_bars (decimal n) ≡ decimal n
unfolding digits
decimal_bars n = digits_bars 64 n [] refl

flag_bars : (turn : Turn) → with_bars (turn_flag turn) ≡ turn_flag turn
flag_bars Enters = refl
flag_bars Leaves = refl
flag_bars Renumbers = refl

system_bars : (system : Bool) → with_bars (system_flag system) ≡ system_flag system
system_bars true = refl
system_bars false = refl

-- a short token behind the bytes of a buffer
pub short_joined : (old begun blank text : List ℕ) → with_bars text ≡ text → space_after text ≡ 0 → (old ++ begun ++ blank) ++ text ≡ old ++ (begun ++ blank ++ with_bars text ++ spaces (space_after text))
short_joined old begun blank text plain none =
    append_assoc (old ++ begun) blank text
    ∙ append_assoc old begun (blank ++ text)
    ∙ ap (λ z. old ++ z) (sym (append_assoc begun blank text) ∙ sym (append-nil (begun ++ blank ++ text)))
    ∙ ap (λ z. old ++ (begun ++ blank ++ z ++ [])) (sym plain)
    ∙ ap (λ n. old ++ (begun ++ blank ++ with_bars text ++ spaces n)) (sym none)

-- ---- pieces of several equal parts

pub more_spaces : (n m : ℕ) → spaces n ++ spaces m ≡ spaces (n + m)
more_spaces n m = replicate-append-replicate n m 32

pub more_empty : (n : ℕ) → empty_lines n ++ (124 ∷ 10 ∷ []) ≡ empty_lines (suc n)
more_empty zero = refl
more_empty (suc n) = ap (λ z. 124 ∷ 10 ∷ z) (more_empty n)

pub ended_down : (ends : Bool) (n : ℕ) → ends ≡ true → (n ≡ 0 → ⊥) → 10 ∷ empty_lines (n - 1) ≡ lines_down ends n
ended_down ends zero e some = absurd (some refl)
ended_down ends (suc n) e some = let one : suc n - 1 ≡ n = omega arith in rw e (ap (λ m. 10 ∷ empty_lines m) one)

pub begun_down : (ends : Bool) (n : ℕ) → ends ≡ false → empty_lines n ≡ lines_down ends n
begun_down ends zero e = refl
begun_down ends (suc n) e = rw e refl

-- ---- ways and markers

down_left : (n : ℕ) (rest : List ℕ) → barred true (replicate n 10 ++ rest) ≡ empty_lines n ++ barred true rest
down_left zero rest = refl
down_left (suc n) rest = ap (λ z. 124 ∷ 10 ∷ z) (down_left n rest)

parts_bars : (a b c d e f : List ℕ) → with_bars (a ++ b ++ c ++ d ++ e ++ f) ≡ with_bars a ++ with_bars b ++ with_bars c ++ with_bars d ++ with_bars e ++ with_bars f
parts_bars a b c d e f =
    bars_append (a ++ b ++ c ++ d ++ e) f
    ∙ ap (λ z. z ++ with_bars f) (bars_append (a ++ b ++ c ++ d) e
    ∙ ap (λ z. z ++ with_bars e) (bars_append (a ++ b ++ c) d
    ∙ ap (λ z. z ++ with_bars d) (bars_append (a ++ b) c
    ∙ ap (λ z. z ++ with_bars c) (bars_append a b))))

marker_body : (turn : Turn) (at : Location) → with_bars (codes "# " ++ decimal at.line ++ codes " " ++ at.name ++ turn_flag turn ++ system_flag at.system)
    ≡ codes "# " ++ decimal at.line ++ codes " " ++ with_bars at.name ++ turn_flag turn ++ system_flag at.system
marker_body turn at =
    let name = with_bars at.name in
    parts_bars (codes "# ") (decimal at.line) (codes " ") at.name (turn_flag turn) (system_flag at.system)
    ∙ ap (λ z. codes "# " ++ z ++ codes " " ++ name ++ with_bars (turn_flag turn) ++ with_bars (system_flag at.system)) (decimal_bars at.line)
    ∙ ap (λ z. codes "# " ++ decimal at.line ++ codes " " ++ name ++ z ++ with_bars (system_flag at.system)) (flag_bars turn)
    ∙ ap (λ z. codes "# " ++ decimal at.line ++ codes " " ++ name ++ turn_flag turn ++ z) (system_bars at.system)

marker_left : (turn : Turn) (at : Location) (rest : List ℕ) → barred true (marker turn at ++ rest) ≡ marker_bytes false turn at ++ barred true rest
marker_left turn at rest =
    let body = codes "# " ++ decimal at.line ++ codes " " ++ at.name ++ turn_flag turn ++ system_flag at.system in
    let barred_body = codes "# " ++ decimal at.line ++ codes " " ++ with_bars at.name ++ turn_flag turn ++ system_flag at.system in
    ap (barred true) (append_assoc body (10 ∷ []) rest)
    ∙ barred_first true (body ++ 10 ∷ rest) (follows_more body (10 ∷ rest) refl)
    ∙ ap (λ z. 124 ∷ z) (barred_within body (10 ∷ rest) refl ∙ ap (λ z. z ++ 10 ∷ barred true rest) (marker_body turn at))
    ∙ sym (append_assoc (124 ∷ barred_body) (10 ∷ []) (barred true rest))

-- a line marker after the end of a line, if it has a token
pub marked_left : (l : Line) (turn : Turn) (at : Location) (rest : List ℕ)
    → barred (is_none l.last) (line_end l ++ marker turn at ++ rest) ≡ marker_bytes (is_some l.last) turn at ++ barred true rest
marked_left l turn at rest = by_last l.last
  where
    by_last : (o : Option Written) → barred (is_none o) ((if is_some o then 10 ∷ [] else []) ++ marker turn at ++ rest) ≡ marker_bytes (is_some o) turn at ++ barred true rest
    by_last None = marker_left turn at rest
    by_last (Some w) = ap (λ z. 10 ∷ z) (marker_left turn at rest)

-- a way down is one of some lines
down_some : (l : Line) (at : Location) (n : ℕ) → way_to l at ≡ Down n → 0 < n
down_some l at n e = grind (arith, nat_tests)

way_left : (l : Line) (at : Location) (w : Way) (rest : List ℕ) → way_to l at ≡ w
    → barred (is_none l.last) (way_text l at w ++ rest) ≡ barred_way (way_from (is_some l.last) w) at ++ barred (is_none (way_line l at w).last) rest
way_left l at Stay rest e = refl
way_left l at (Down zero) rest e = absurd (omega (arith, down_some l at zero e))
way_left l at (Down (suc n)) rest e = by_last l.last
  where
    by_last : (o : Option Written) → barred (is_none o) (10 ∷ (replicate n 10 ++ rest)) ≡ lines_down (is_some o) (suc n) ++ barred true rest
    by_last None = ap (λ z. 124 ∷ 10 ∷ z) (down_left n rest)
    by_last (Some w) = ap (λ z. 10 ∷ z) (down_left n rest)
way_left l at Jump rest e = marked_left l Renumbers at rest

-- the way to a location, and what follows it
pub stepped_left : (l : Line) (at : Location) (rest : List ℕ)
    → barred (is_none l.last) (way_text l at (way_to l at) ++ rest) ≡ barred_way (step_way l at) at ++ barred (is_none (step_line l at).last) rest
stepped_left l at rest = way_left l at (way_to l at) rest refl

-- ---- items

follows_before : (xs rest : List ℕ) → Follows xs → Follows (xs ++ rest)
follows_before [] rest e = absurd (false≢true e)
follows_before (x ∷ xs) rest e = refl

-- after a token there is at least the end of its line
text_follows : (l : Line) (w : Written) (items : List Shown) → l.last ≡ Some w → Follows (text_after l items)
text_follows l w [] e = rw e refl
text_follows l w (ShowsToken at t ∷ items) e =
    let m = step_line l at in
    follows_more (way_text l at (way_to l at) ++ token_text m t) (text_after (line_after m t) items) (text_follows (line_after m t) (written t) items refl)
text_follows l w (ShowsPragma at ts ∷ items) e =
    let m = step_line l at in
    follows_before (way_text l at (way_to l at) ++ own_line m at ++ pragma_text ts) (text_after (empty_line (at.line + 1) at.system) items)
    (follows_more (way_text l at (way_to l at) ++ own_line m at) (pragma_text ts) refl)
text_follows l w (ShowsMark at turn ∷ items) e =
    follows_before (line_end l ++ marker turn at) (text_after (empty_line at.line at.system) items) (follows_more (line_end l) (marker turn at) refl)

pub token_left : (l : Line) (at : Location) (t : Token) (rest : List Shown)
    → text_left l (ShowsToken at t ∷ rest)
    ≡ barred_way (step_way l at) at ++ token_bytes (token_step l at t).is_first (token_step l at t).spaces t.text ++ text_left (line_after (step_line l at) t) rest
token_left l at t rest =
    let m = step_line l at in
    let way = way_text l at (way_to l at) in
    let before = spaces (spaces_before m t) in
    let after = spaces (space_after t.text) in
    let more = text_after (line_after m t) rest in
    let follows = text_follows (line_after m t) (written t) rest refl in
    let bars : with_bars (token_text m t) ≡ before ++ with_bars t.text ++ after =
    rw (bars_append (before ++ t.text) after, bars_append before t.text, spaces_bars (spaces_before m t), spaces_bars (space_after t.text)) refl in
    let begun = bar (is_none m.last) in
    let token = barred_first (is_none m.last) (token_text m t ++ more) (follows_more (token_text m t) more follows)
    ∙ ap (λ z. begun ++ z) (barred_within (token_text m t) more follows ∙ ap (λ z. z ++ barred false more) bars) in
    let joined : begun ++ (before ++ with_bars t.text ++ after ++ barred false more) ≡ begun ++ before ++ with_bars t.text ++ after ++ barred false more =
    sym (append_assoc begun (before ++ with_bars t.text ++ after) (barred false more))
    ∙ ap (λ z. z ++ barred false more) (sym (append_assoc begun (before ++ with_bars t.text) after) ∙ ap (λ z. z ++ after) (sym (append_assoc begun before (with_bars t.text)))) in
    let way_bytes = barred_way (step_way l at) at in
    ap (barred (is_none l.last)) (append_assoc way (token_text m t) more)
    ∙ stepped_left l at (token_text m t ++ more)
    ∙ ap (λ z. way_bytes ++ z) (token ∙ joined)
    ∙ sym (append_assoc way_bytes (begun ++ before ++ with_bars t.text ++ after) (barred false more))

own_left : (m : Line) (at : Location) (rest : List ℕ) → barred (is_none m.last) (own_line m at ++ rest) ≡ own_marker (is_some m.last) at ++ barred true rest
own_left m at rest = by_last m.last
  where
    by_last : (o : Option Written) → barred (is_none o) ((if is_some o then (if is_some o then 10 ∷ [] else []) ++ marker Renumbers at else []) ++ rest) ≡ own_marker (is_some o) at ++ barred true rest
    by_last None = refl
    by_last (Some w) = ap (λ z. 10 ∷ z) (marker_left Renumbers at rest)

directive_left : (ts : List PragmaToken) (rest : List ℕ) → barred true (pragma_text ts ++ rest) ≡ codes "|#pragma" ++ pragma_bytes None ts ++ barred true rest
directive_left ts rest =
    let tokens = pragma_tokens_text None ts in
    let body = codes "#pragma" ++ tokens in
    let named = codes "|#pragma" in
    ap (barred true) (append_assoc body (10 ∷ []) rest)
    ∙ barred_first true (body ++ 10 ∷ rest) refl
    ∙ ap (λ z. 124 ∷ z) (barred_within body (10 ∷ rest) refl ∙ ap (λ z. z ++ 10 ∷ barred true rest) (bars_append (codes "#pragma") tokens))
    ∙ sym (append_assoc (named ++ with_bars tokens) (10 ∷ []) (barred true rest))
    ∙ ap (λ z. z ++ barred true rest) (append_assoc named (with_bars tokens) (10 ∷ []))

pub pragma_left : (l : Line) (at : Location) (ts : List PragmaToken) (rest : List Shown)
    → text_left l (ShowsPragma at ts ∷ rest)
    ≡ barred_way (step_way l at) at ++ own_marker (is_some (step_line l at).last) at ++ codes "|#pragma" ++ pragma_bytes None ts ++ text_left (empty_line (at.line + 1) at.system) rest
pragma_left l at ts rest =
    let m = step_line l at in
    let way = way_text l at (way_to l at) in
    let own = own_line m at in
    let more = text_after (empty_line (at.line + 1) at.system) rest in
    let way_bytes = barred_way (step_way l at) at in
    let own_bytes = own_marker (is_some m.last) at in
    let named = codes "|#pragma" in
    let tokens = pragma_bytes None ts in
    ap (barred (is_none l.last)) (append_assoc (way ++ own) (pragma_text ts) more ∙ append_assoc way own (pragma_text ts ++ more))
    ∙ stepped_left l at (own ++ (pragma_text ts ++ more))
    ∙ ap (λ z. way_bytes ++ z) (own_left m at (pragma_text ts ++ more) ∙ ap (λ z. own_bytes ++ z) (directive_left ts more))
    ∙ sym (append_assoc way_bytes own_bytes (named ++ tokens ++ barred true more))
    ∙ sym (append_assoc (way_bytes ++ own_bytes) (named ++ tokens) (barred true more))
    ∙ ap (λ z. z ++ barred true more) (sym (append_assoc (way_bytes ++ own_bytes) named tokens))

pub mark_left : (l : Line) (at : Location) (turn : Turn) (rest : List Shown)
    → text_left l (ShowsMark at turn ∷ rest) ≡ marker_bytes (is_some l.last) turn at ++ text_left (empty_line at.line at.system) rest
mark_left l at turn rest = marked_left l turn at (text_after (empty_line at.line at.system) rest)

pub end_left : (l : Line) → text_left l [] ≡ ended (is_some l.last)
end_left l = by_last l.last
  where
    by_last : (o : Option Written) → barred (is_none o) (if is_some o then 10 ∷ [] else []) ≡ ended (is_some o)
    by_last None = refl
    by_last (Some w) = refl

-- the line of a token has the location that it was reached at
pub placed_way : (l : Line) (at : Location) (t : Token) → let m = line_after (step_line l at) t in
    barred_way (step_way l at) (record { name = at.name; line = m.number; system = m.system }) ≡ barred_way (step_way l at) at
placed_way l at t = by_way (way_to l at)
  where
    by_way : (w : Way) → barred_way (way_from (is_some l.last) w) (record { name = at.name; line = (way_line l at w).number; system = (way_line l at w).system }) ≡ barred_way (way_from (is_some l.last) w) at
    by_way Stay = refl
    by_way (Down n) = refl
    by_way Jump = refl

-- ---- the tokens of a pragma, one by one

token_bars : (last : Option Written) (t : PragmaToken) (ts : List PragmaToken)
    → with_bars (pragma_tokens_text last (t ∷ ts)) ≡ spaces (pragma_space last t) ++ with_bars t.text ++ with_bars (pragma_tokens_text (Some (pragma_written t)) ts)
token_bars last t ts =
    let before = spaces (pragma_space last t) in
    let more = pragma_tokens_text (Some (pragma_written t)) ts in
    bars_append (before ++ t.text) more
    ∙ ap (λ z. z ++ with_bars more) (bars_append before t.text ∙ ap (λ z. z ++ with_bars t.text) (spaces_bars (pragma_space last t)))

pub token_done : (done whole : List ℕ) (last next : Option Written) (t : PragmaToken) (ts : List PragmaToken) → next ≡ Some (pragma_written t)
    → done ++ with_bars (pragma_tokens_text last (t ∷ ts)) ≡ whole
    → (done ++ (spaces (pragma_space last t) ++ with_bars t.text)) ++ with_bars (pragma_tokens_text next ts) ≡ whole
token_done done whole last next t ts is e =
    let one = spaces (pragma_space last t) ++ with_bars t.text in
    ap (λ n. (done ++ one) ++ with_bars (pragma_tokens_text n ts)) is
    ∙ append_assoc done one (with_bars (pragma_tokens_text (Some (pragma_written t)) ts))
    ∙ ap (λ z. done ++ z) (sym (token_bars last t ts))
    ∙ e

pub tokens_done : (done whole : List ℕ) (last : Option Written) → done ++ with_bars (pragma_tokens_text last []) ≡ whole → done ++ (spaces (last_space last) ++ 10 ∷ []) ≡ whole ++ 10 ∷ []
tokens_done done whole last e =
    sym (append_assoc done (spaces (last_space last)) (10 ∷ [])) ∙ ap (λ z. z ++ 10 ∷ []) (ap (λ z. done ++ z) (sym (spaces_bars (last_space last))) ∙ e)
