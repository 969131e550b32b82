-- The lines of a file by index, and their tokens.
use Rattle.std.proofs.Common.{◌≡◌, ℕ, zero, suc, ◌+◌, ◌-◌, ◌<◌, ◌≤◌, List, [], ◌∷◌, ◌++◌, length, take, drop, get_or, refl, sym, ap, ◌∙◌, subst, arith, append_assoc, Option, None}
use Rattle.std.proofs.lemmas.List.{drop_more, drop-drop, drop_at, take_at, take_more, take-take, drop-take, take-append-drop, append-nil, length-append}
use Rattle.pptext.specs.declared.tokens.Token.{Token}
use Rattle.pptext.specs.declared.sources.Line.{Line}
use Rattle.pptext.specs.declared.sources.Directive.{Directive}
use Rattle.pptext.specs.declared.sources.Profile.{Profile}
use Rattle.pptext.specs.Lines.{LogicalLine, directive_of, AreDirected}
use Rattle.pptext.specs.Sources.{spans, line_tokens}
use Rattle.pptext.proofs.Spans.{span, span_at, each_directed}
use Rattle.pptext.specs.IndexedLines.{no_line, line_at, IsTextLine}

-- ---- lines by index

pub spans_length : (k start : ℕ) (lines : List LogicalLine) → length (spans k start lines) ≡ length lines
spans_length k start [] = refl
spans_length k start (r ∷ lines) = ap suc (spans_length (k + 1) (start + length r.tokens) lines)

pub line_is : (lines : List LogicalLine) (index : ℕ) (d : Line) → index < length lines → get_or (spans 0 0 lines) index d ≡ span index (length (line_tokens (take index lines))) (line_at lines index) (drop (suc index) lines)
line_is lines index d l =
    span_at 0 0 lines index d no_line l
    ∙ ap (λ (z : ℕ). span z (0 + length (line_tokens (take index lines))) (line_at lines index) (drop (suc index) lines)) (omega arith)
    ∙ ap (λ (z : ℕ). span index z (line_at lines index) (drop (suc index) lines)) (omega arith)

hash_of : (profile : Profile) (directive : Option Directive) (tokens : List Token) → directive ≡ directive_of profile tokens → ¬ (directive ≡ None) → 0 < length tokens
hash_of profile directive [] is asked = absurd (asked is)
hash_of profile directive (t ∷ ts) is asked = omega arith

-- a directive line has a token, its `#`
pub has_hash : (lines : List LogicalLine) (index : ℕ) → AreDirected lines → index < length lines → ¬ IsTextLine (line_at lines index) → 0 < length (line_at lines index).tokens
has_hash lines index directed within asked =
    let line = line_at lines index in
    hash_of directed.0 line.directive line.tokens (each_directed directed.0 lines index no_line directed.1 within) asked

-- the line at an index, and the lines after it
pub record At (lines : List LogicalLine) (index : ℕ) (r : LogicalLine) (rest : List LogicalLine) : Type 0 where
  pub within : index < length lines
  pub here : line_at lines index ≡ r
  pub following : drop (suc index) lines ≡ rest

pub at_index : (lines : List LogicalLine) (index : ℕ) (r : LogicalLine) (rest : List LogicalLine) → drop index lines ≡ r ∷ rest → At lines index r rest
at_index [] zero r rest e = absurd (cc)
at_index [] (suc index) r rest e = absurd (cc)
at_index (x ∷ lines) zero r rest e = record { within = omega arith; here = cc; following = cc }
at_index (x ∷ lines) (suc index) r rest e = let h = at_index lines index r rest e in record { within = omega (arith, h.within); here = h.here; following = h.following }

pub from_index : (lines : List LogicalLine) (index : ℕ) → index < length lines → drop index lines ≡ line_at lines index ∷ drop (suc index) lines
from_index lines index l =
    let more : index + 1 ≡ suc index = omega arith in
    drop_more lines index no_line l ∙ ap (λ (z : ℕ). line_at lines index ∷ drop z lines) more

pub drop_further : (lines front rest : List LogicalLine) (index : ℕ) → drop index lines ≡ front ++ rest → drop (index + length front) lines ≡ rest
drop_further lines front rest index e = sym (drop-drop (length front) index lines) ∙ ap (drop (length front)) e ∙ drop_at front rest (length front) refl

-- ---- tokens of lines

tokens_split : (a b : List LogicalLine) → line_tokens (a ++ b) ≡ line_tokens a ++ line_tokens b
tokens_split [] b = refl
tokens_split (r ∷ a) b = ap (λ (z : List Token). r.tokens ++ z) (tokens_split a b) ∙ sym (append_assoc r.tokens (line_tokens a) (line_tokens b))

take_parted : (lines : List LogicalLine) (i j : ℕ) → i ≤ j → take j lines ≡ take i lines ++ take (j - i) (drop i lines)
take_parted lines i j l =
    let sum : j ≡ i + (j - i) = omega arith in
    sym (take-append-drop i (take j lines)) ∙ ap (λ (z : List LogicalLine). z ++ drop i (take j lines)) (take-take i j lines l)
    ∙ ap (λ (z : ℕ). take i lines ++ drop i (take z lines)) sum ∙ ap (λ (z : List LogicalLine). take i lines ++ z) (drop-take i (j - i) lines)

-- the tokens of the lines from i up to j are the tokens of the file from p up to q
pub record Between (lines : List LogicalLine) (i j p q : ℕ) : Type 0 where
  pub begins : p ≤ q
  pub ends : q ≤ length (line_tokens lines)
  pub tokens : take (q - p) (drop p (line_tokens lines)) ≡ line_tokens (take (j - i) (drop i lines))

pub tokens_between : (lines : List LogicalLine) (i j : ℕ) → i ≤ j → Between lines i j (length (line_tokens (take i lines))) (length (line_tokens (take j lines)))
tokens_between lines i j l =
    let a = line_tokens (take i lines) in
    let b = line_tokens (take (j - i) (drop i lines)) in
    let c = line_tokens (drop j lines) in
    let q = length (line_tokens (take j lines)) in
    let front : line_tokens (take j lines) ≡ a ++ b = ap line_tokens (take_parted lines i j l) ∙ tokens_split (take i lines) (take (j - i) (drop i lines)) in
    let whole : line_tokens lines ≡ a ++ (b ++ c) = ap line_tokens (sym (take-append-drop j lines)) ∙ tokens_split (take j lines) (drop j lines) ∙ ap (λ (z : List Token). z ++ c) front ∙ append_assoc a b c in
    let sum : q ≡ length a + length b = ap length front ∙ length-append a b in
    let all : length (line_tokens lines) ≡ length a + (length b + length c) = ap length whole ∙ length-append a (b ++ c) ∙ ap (λ (z : ℕ). length a + z) (length-append b c) in
    let count : length b ≡ q - length a = omega arith in
    record {
      begins = omega arith;
      ends = omega arith;
      tokens = ap (λ (z : List Token). take (q - length a) (drop (length a) z)) whole ∙ ap (take (q - length a)) (drop_at a (b ++ c) (length a) refl) ∙ take_at b c (q - length a) count;
    }

pub line_end : (lines : List LogicalLine) (index : ℕ) → index < length lines → length (line_tokens (take (index + 1) lines)) ≡ length (line_tokens (take index lines)) + length (line_at lines index).tokens
line_end lines index l =
    let r = line_at lines index in
    ap (λ (z : List LogicalLine). length (line_tokens z)) (take_more lines index no_line l) ∙ ap length (tokens_split (take index lines) (r ∷ []))
    ∙ length-append (line_tokens (take index lines)) (r.tokens ++ [])
    ∙ ap (λ (z : List Token). length (line_tokens (take index lines)) + length z) (append-nil r.tokens)

pub between_line : (lines : List LogicalLine) (i start end : ℕ) → i < length lines → start ≡ length (line_tokens (take i lines)) → end ≡ start + length (line_at lines i).tokens → Between lines i (i + 1) start end
between_line lines i start end l from to =
    let b = tokens_between lines i (i + 1) (omega arith) in
    let over : length (line_tokens (take (i + 1) lines)) ≡ end = omega (arith, line_end lines i l) in
    let begin : length (line_tokens (take i lines)) ≡ start = sym from in
    subst (λ (z : ℕ). Between lines i (i + 1) z end) begin (subst (λ (z : ℕ). Between lines i (i + 1) (length (line_tokens (take i lines))) z) over b)

pub between_lines : (lines : List LogicalLine) (i j start last end : ℕ)
    → i < j
    → j ≤ length lines
    → start ≡ length (line_tokens (take i lines))
    → last ≡ length (line_tokens (take (j - 1) lines))
    → end ≡ last + length (line_at lines (j - 1)).tokens
    → Between lines i j start end
between_lines lines i j start last end some within from before to =
    let b = tokens_between lines i j (omega arith) in
    let one : j - 1 + 1 ≡ j = omega arith in
    let over : length (line_tokens (take j lines)) ≡ end =
    ap (λ (z : ℕ). length (line_tokens (take z lines))) (sym one) ∙ line_end lines (j - 1) (omega arith)
    ∙ ap (λ (z : ℕ). z + length (line_at lines (j - 1)).tokens) (sym before) ∙ sym to in
    let begin : length (line_tokens (take i lines)) ≡ start = sym from in
    subst (λ (z : ℕ). Between lines i j z end) begin (subst (λ (z : ℕ). Between lines i j (length (line_tokens (take i lines))) z) over b)

pub one_line : (lines : List LogicalLine) (index : ℕ) → index < length lines → line_tokens (take (index + 1 - index) (drop index lines)) ≡ (line_at lines index).tokens
one_line lines index l =
    let one : index + 1 - index ≡ 1 = omega arith in
    ap (λ (z : ℕ). line_tokens (take z (drop index lines))) one ∙ ap (λ (z : List LogicalLine). line_tokens (take 1 z)) (from_index lines index l) ∙ append-nil (line_at lines index).tokens
