-- Lines as spans of tokens: the span at each index, and the lines into which spans divide the tokens.
use Rattle.std.proofs.Common.{◌≡◌, ℕ, zero, suc, ◌+◌, ◌-◌, ◌<◌, ◌≤◌, List, [], ◌∷◌, ◌++◌, length, take, drop, get_or, refl, sym, ap, ◌∙◌, arith, add-zero, zero-add, append_assoc, subst, None}
use Rattle.std.specs.List.{AllByRecursion}
use Rattle.std.proofs.lemmas.List.{append-nil, length-append, length-map}
use Rattle.std.proofs.Math.Seq.{drop-append_seam, take-append_seam}
use Rattle.pptext.specs.declared.tokens.Token.{Token}
use Rattle.pptext.specs.declared.sources.Line.{Line}
use Rattle.pptext.specs.declared.sources.Profile.{Profile}
use Rattle.pptext.specs.Lines.{LogicalLine, IsDirected, AreDirected}
use Rattle.pptext.specs.Tree.{role}
use Rattle.pptext.specs.Sources.{next_branch, spans, line_tokens, lines_from}
use Rattle.pptext.specs.code.Grouping.{line_span, line_spans, AreLineSpans, AreLines}

abbrev pub no_line : Line
no_line = record { start = 0; end = 0; number = 0; directive = None; next_branch = None }

-- the span of the line with index k, whose tokens begin at `start`; `rest` is the later lines
abbrev pub span : ℕ → ℕ → LogicalLine → List LogicalLine → Line
span k start r rest =
    record { start = start; end = start + length r.tokens; number = r.number; directive = r.directive; next_branch = next_branch k (role r) rest }

-- the line of a span
abbrev pub line_from : List Token → Line → LogicalLine
line_from ts l = record { tokens = take (l.end - l.start) (drop l.start ts); number = l.number; directive = l.directive }

pub span_at : (k start : ℕ) (rs : List LogicalLine) (i : ℕ) (d : Line) (r : LogicalLine) → i < length rs → get_or (spans k start rs) i d ≡ span (k + i) (start + length (line_tokens (take i rs))) (get_or rs i r) (drop (suc i) rs)
span_at k start [] i d r l = absurd (omega arith)
span_at k start (r ∷ rs) zero d e l =
    ap (λ (z : ℕ). span z start r rs) (sym (add-zero k)) ∙ ap (λ (z : ℕ). span (k + 0) z r rs) (sym (add-zero start))
span_at k start (r ∷ rs) (suc i) d e l =
    let n : k + 1 + i ≡ k + suc i = omega arith in
    let m : start + length r.tokens + length (line_tokens (take i rs)) ≡ start + length (r.tokens ++ line_tokens (take i rs)) = omega (arith, length-append r.tokens (line_tokens (take i rs))) in
    span_at (k + 1) (start + length r.tokens) rs i d e (omega arith)
    ∙ ap (λ (z : ℕ). span z (start + length r.tokens + length (line_tokens (take i rs))) (get_or rs i e) (drop (suc i) rs)) n
    ∙ ap (λ (z : ℕ). span (k + suc i) z (get_or rs i e) (drop (suc i) rs)) m

-- The numbers of tokens before, on and after a line add up to the number of all tokens.
pub tokens_parted : (rs : List LogicalLine) (i : ℕ) (r : LogicalLine) → i < length rs → length (line_tokens (take i rs)) + length (get_or rs i r).tokens + length (line_tokens (drop (suc i) rs)) ≡ length (line_tokens rs)
tokens_parted [] i r l = absurd (omega arith)
tokens_parted (r ∷ rs) zero e l = omega (arith, length-append r.tokens (line_tokens rs))
tokens_parted (r ∷ rs) (suc i) e l =
    omega (arith, length-append r.tokens (line_tokens rs), length-append r.tokens (line_tokens (take i rs)), tokens_parted rs i e (omega arith))

pub each_directed : (profile : Profile) (rs : List LogicalLine) (i : ℕ) (r : LogicalLine) → AllByRecursion (IsDirected profile) rs → i < length rs → IsDirected profile (get_or rs i r)
each_directed profile [] i r all l = absurd (omega arith)
each_directed profile (q ∷ rs) zero r all l = all.0
each_directed profile (q ∷ rs) (suc i) r all l = each_directed profile rs i r all.1 (omega arith)

-- the properties of the line at an index
pub record LineAt (ts : List Token) (ls : List Line) (i : ℕ) (l : Line) : Type 0 where
  pub begins : l.start ≤ l.end
  pub behind : l.end + length (line_tokens (drop (suc i) (lines_from ts ls))) ≡ length ts
  pub line : (r : LogicalLine) → get_or (lines_from ts ls) i r ≡ line_from ts l
  pub directed : (profile : Profile) × IsDirected profile (line_from ts l)
  pub next : l.next_branch ≡ next_branch i (role (line_from ts l)) (drop (suc i) (lines_from ts ls))
  pub tokens : length (line_from ts l).tokens ≡ l.end - l.start

lines_at : (ts : List Token) (ls : List Line) (i : ℕ) (d : Line) (r : LogicalLine) → i < length ls → get_or (lines_from ts ls) i r ≡ line_from ts (get_or ls i d)
lines_at ts [] i d r l = absurd (omega arith)
lines_at ts (x ∷ ls) zero d r l = refl
lines_at ts (x ∷ ls) (suc i) d r l = lines_at ts ls i d r (omega arith)

pub line_at : (ts : List Token) (ls : List Line) (i : ℕ) (d : Line) → AreLines ts ls → i < length ls → LineAt ts ls i (get_or ls i d)
line_at ts ls i d lines l =
    let rs = lines_from ts ls in
    let x = get_or ls i d in
    let r = line_from ts x in
    let m : i < length rs = omega (arith, length-map ls (line_from ts)) in
    let same : get_or rs i r ≡ r = lines_at ts ls i d r l in
    let is : x ≡ span i (length (line_tokens (take i rs))) r (drop (suc i) rs) =
    ap (λ (z : List Line). get_or z i d) (sym lines.1)
    ∙ span_at 0 0 rs i d r m
    ∙ ap (λ (z : ℕ). span z (0 + length (line_tokens (take i rs))) (get_or rs i r) (drop (suc i) rs)) (zero-add i)
    ∙ ap (λ (z : ℕ). span i z (get_or rs i r) (drop (suc i) rs)) (zero-add (length (line_tokens (take i rs))))
    ∙ ap (λ (z : LogicalLine). span i (length (line_tokens (take i rs))) z (drop (suc i) rs)) same in
    let start : x.start ≡ length (line_tokens (take i rs)) = ap (λ (z : Line). z.start) is in
    let end : x.end ≡ length (line_tokens (take i rs)) + length r.tokens = ap (λ (z : Line). z.end) is in
    let whole : length (line_tokens rs) ≡ length ts = ap length lines.0 in
    let parted : length (line_tokens (take i rs)) + length r.tokens + length (line_tokens (drop (suc i) rs)) ≡ length (line_tokens rs) =
    ap (λ (z : LogicalLine). length (line_tokens (take i rs)) + length z.tokens + length (line_tokens (drop (suc i) rs))) (sym same) ∙ tokens_parted rs i r m in
    record {
      begins = omega arith;
      behind = omega arith;
      line = λ e. lines_at ts ls i d e l;
      directed = (lines.2.0, subst (IsDirected lines.2.0) same (each_directed lines.2.0 rs i r lines.2.1 m));
      next = ap (λ (z : Line). z.next_branch) is;
      tokens = omega arith;
    }

-- Spans without next branch lines represent the lines from which they were made.

pub lines_of_drafts : (before : List Token) (rs : List LogicalLine) → lines_from (before ++ line_tokens rs) (line_spans (length before) rs) ≡ rs
lines_of_drafts before [] = refl
lines_of_drafts before (r ∷ rs) =
    let wider : length (before ++ r.tokens) ≡ length before + length r.tokens = length-append before r.tokens in
    let here : take (length before + length r.tokens - length before) (drop (length before) (before ++ (r.tokens ++ line_tokens rs))) ≡ r.tokens =
    ap (take (length before + length r.tokens - length before)) (drop-append_seam before (r.tokens ++ line_tokens rs))
    ∙ ap (λ (n : ℕ). take n (r.tokens ++ line_tokens rs)) (omega arith)
    ∙ take-append_seam r.tokens (line_tokens rs) in
    let rest : lines_from (before ++ (r.tokens ++ line_tokens rs)) (line_spans (length before + length r.tokens) rs) ≡ rs =
    ap (λ (z : List Token). lines_from z (line_spans (length before + length r.tokens) rs)) (sym (append_assoc before r.tokens (line_tokens rs)))
    ∙ ap (λ (n : ℕ). lines_from ((before ++ r.tokens) ++ line_tokens rs) (line_spans n rs)) (sym wider)
    ∙ lines_of_drafts (before ++ r.tokens) rs in
    ap (λ (z : List Token). record { tokens = z; number = r.number; directive = r.directive }
    ∷ lines_from (before ++ (r.tokens ++ line_tokens rs)) (line_spans (length before + length r.tokens) rs)) here
    ∙ ap (λ (z : List LogicalLine). r ∷ z) rest

-- If the spans are the `line_spans` of some lines, they divide the tokens into these lines.
pub drafts_are : (ts : List Token) (ls : List Line) (rs : List LogicalLine) → line_tokens rs ≡ ts → ls ≡ line_spans 0 rs → AreDirected rs → (lines_from ts ls ≡ rs) × AreLineSpans ts ls
drafts_are ts ls rs tokens lines directed =
    let same : lines_from ts ls ≡ rs = ap (lines_from ts) lines ∙ ap (λ (z : List Token). lines_from z (line_spans 0 rs)) (sym tokens) ∙ lines_of_drafts [] rs in
    (same, (ap line_tokens same ∙ tokens, ap (line_spans 0) same ∙ sym lines, subst AreDirected (sym same) directed))

pub line_spans-append : (start : ℕ) (rs : List LogicalLine) (r : LogicalLine) → line_spans start (rs ++ r ∷ []) ≡ line_spans start rs ++ line_span (start + length (line_tokens rs)) r ∷ []
line_spans-append start [] r = ap (λ (n : ℕ). line_span n r ∷ []) (sym (add-zero start))
line_spans-append start (q ∷ rs) r =
    let n : start + length q.tokens + length (line_tokens rs) ≡ start + length (q.tokens ++ line_tokens rs) = omega (arith, length-append q.tokens (line_tokens rs)) in
    ap (λ (z : List Line). line_span start q ∷ z) (line_spans-append (start + length q.tokens) rs r ∙ ap (λ (k : ℕ). line_spans (start + length q.tokens) rs ++ line_span k r ∷ []) n)

pub line_tokens-append : (rs : List LogicalLine) (r : LogicalLine) → line_tokens (rs ++ r ∷ []) ≡ line_tokens rs ++ r.tokens
line_tokens-append [] r = append-nil r.tokens
line_tokens-append (q ∷ rs) r = ap (λ (z : List Token). q.tokens ++ z) (line_tokens-append rs r) ∙ sym (append_assoc q.tokens (line_tokens rs) r.tokens)

-- Equal tokens and spans represent equal lines.
pub same_lines : (ts ts' : List Token) (ls ls' : List Line) → ts' ≡ ts → ls' ≡ ls → lines_from ts' ls' ≡ lines_from ts ls
same_lines ts ts' ls ls' st sl = ap (λ (z : List Token). lines_from z ls') st ∙ ap (lines_from ts) sl
