use Rattle.std.proofs.Common.{◌+◌, List, [], ◌∷◌, ◌++◌, length, drop, take, get_or, ◌∙◌, ap, refl, arith}
use Rattle.std.proofs.lemmas.List.{take_rest, length-drop, get_or-drop}
use Rattle.pptext.specs.declared.characters.Char.{Char}
use Rattle.pptext.specs.declared.tokens.Place.{Place}
use Rattle.pptext.specs.declared.tokens.Token.{Token}
use Rattle.pptext.specs.declared.lexer.LeadingLexeme.TheVariants as variant
use Rattle.pptext.specs.Clean.{place, codes_of}
use Rattle.pptext.specs.code.Scanning.{KnowsUnmatched}
use Rattle.pptext.proofs.Literals.{knows_later, knows_nothing}
use Rattle.pptext.proofs.TokenizationLoop.{state_start, skip_blanks, skip_comment, end_line, add_token, cut_all, left_unclosed, codes_length, head_of_drop, head_of_take, token_is}
use Rattle.pptext.proofs.LexemeMeanings.{found_here}
use Rattle.pptext.proofs.NewLineFreeTokens.{line_start, line_over_blanks, line_over_token}
use Rattle.pptext.specs.code.FoundLexemes.{spellings}
use Rattle.pptext.specs.Lines.{token_of}
use Rattle.pptext.specs.code.CleanedText.{Reading}
use Rattle.pptext.proofs.lexer.tokenize_lines.Goals as goal

first : Char
first = record { code = 0; at = place 0 0 0 }

pub loop-at-init : goal.loop-at-init
loop-at-init c = record {
  same = ap (λ (r : Reading). r.chars) c.places-places.ensures;
  consumed = omega (arith, ap (λ (r : Reading). r.consumed) c.places-places.ensures);
  in_line = line_start (codes_of c.args.text.now) 0;
  state = rw (c.requires.no_tokens, c.requires.no_lines) (state_start c.args.profile c.args.text.now);
  unmatched = rw c.unknown-unmatched.ensures (knows_nothing (codes_of c.args.text.now) (length c.codes-codes.result.now) (ap length c.codes-codes.ensures));
}

pub loop-at-preserved-in-NewLine : goal.loop-at-preserved-in-NewLine
loop-at-preserved-in-NewLine c =
    let chars = c.args.text.now in
    let l = codes_length chars in
    let d = length-drop c.loop-at.at (codes_of chars) in
    let same = c.codes-codes.ensures in
    let found = simp (take_rest, same) at (found_here _ _ _ c.found.inside.prefix variant.NewLine _ c.found.view_is c.in-NewLine.is c.lexeme_at-found.ensures.finds) in
    let first_length = ap length c.codes-codes.ensures in
    let number = ap (λ (p : Place). p.line)
    (c.place-number.ensures.place first
    ∙ ap (λ (z : List Char). (get_or z c.loop-at.at first).at) c.loop-at.invariant.same
    ∙ head_of_take chars c.loop-at.at 1 first (omega arith) (omega arith)) in
    let known : KnowsUnmatched (drop c.loop-at.at (codes_of chars)) c.lexeme_at-found.new.unmatched.single c.lexeme_at-found.new.unmatched.double = simp (take_rest, same) at c.lexeme_at-found.ensures.unmatched in
    record {
      same = ap (λ (r : Reading). r.chars) c.place-number.ensures.after ∙ c.loop-at.invariant.same;
      consumed = omega (arith, ap (λ (r : Reading). r.consumed) c.place-number.ensures.after);
      in_line = line_start (codes_of chars) (c.loop-at.at + 1);
      state = rw (c.in_ok-push-in-NewLine.ensures.items, c.unlinked_line.ensures, c.deref-in-NewLine.ensures.value)
          (end_line c.args.profile chars c.loop-at.at c.loop-at.start c.len-start.result c.loop-at.space c.loop-at.tokens.items c.loop-at.lines.items
          c.place-number.result.line c.loop-at.invariant.state (c.len-start.ensures ∙ c.loop-at.tokens.ok.0) number (omega arith) found.2);
      unmatched = knows_later (codes_of chars) c.loop-at.at 1 c.lexeme_at-found.new.unmatched.single c.lexeme_at-found.new.unmatched.double known;
    }

pub loop-at-preserved-in-Blank : goal.loop-at-preserved-in-Blank
loop-at-preserved-in-Blank c =
    let chars = c.args.text.now in
    let l = codes_length chars in
    let d = length-drop c.loop-at.at (codes_of chars) in
    let same = c.codes-codes.ensures in
    let found = simp (take_rest, same) at (found_here _ _ _ c.found.inside.prefix (variant.Blank c.in-Blank.n) _ c.found.view_is c.in-Blank.is c.lexeme_at-found.ensures.finds) in
    let known : KnowsUnmatched (drop c.loop-at.at (codes_of chars)) c.lexeme_at-found.new.unmatched.single c.lexeme_at-found.new.unmatched.double = simp (take_rest, same) at c.lexeme_at-found.ensures.unmatched in
    record {
      same = c.loop-at.invariant.same;
      consumed = omega (arith, c.loop-at.invariant.consumed);
      in_line = line_over_blanks (codes_of chars) c.loop-at.line c.loop-at.at c.in-Blank.n c.loop-at.invariant.in_line found.2;
      state = skip_blanks c.args.profile chars c.in-Blank.n c.loop-at.at c.loop-at.start c.loop-at.space c.loop-at.tokens.items c.loop-at.lines.items
          c.loop-at.invariant.state found.1 (omega (arith, found.0, c.loop-at.invariant.state.within)) (λ k lt. simp get_or-drop at (found.2 k lt));
      unmatched = knows_later (codes_of chars) c.loop-at.at c.in-Blank.n c.lexeme_at-found.new.unmatched.single c.lexeme_at-found.new.unmatched.double known;
    }

pub loop-at-preserved-in-Comment : goal.loop-at-preserved-in-Comment
loop-at-preserved-in-Comment c =
    let chars = c.args.text.now in
    let same = c.codes-codes.ensures in
    let found = simp (take_rest, same) at (found_here _ _ _ c.found.inside.prefix (variant.Comment c.in-Comment.n) _ c.found.view_is c.in-Comment.is c.lexeme_at-found.ensures.finds) in
    let known : KnowsUnmatched (drop c.loop-at.at (codes_of chars)) c.lexeme_at-found.new.unmatched.single c.lexeme_at-found.new.unmatched.double = simp (take_rest, same) at c.lexeme_at-found.ensures.unmatched in
    record {
      same = c.loop-at.invariant.same;
      consumed = omega (arith, c.loop-at.invariant.consumed);
      in_line = line_start (codes_of chars) (c.loop-at.at + c.in-Comment.n);
      state = skip_comment c.args.profile chars c.loop-at.at c.loop-at.start c.in-Comment.n c.loop-at.space c.loop-at.tokens.items c.loop-at.lines.items c.loop-at.invariant.state found.0 found.2;
      unmatched = knows_later (codes_of chars) c.loop-at.at c.in-Comment.n c.lexeme_at-found.new.unmatched.single c.lexeme_at-found.new.unmatched.double known;
    }

pub loop-at-preserved : goal.loop-at-preserved
loop-at-preserved c =
    let chars = c.args.text.now in
    let same = c.codes-codes.ensures in
    let found = simp (take_rest, c.deref.ensures.value, same) at (found_here _ _ _ c.found.inside.prefix (variant.Token c.in-Token.kind c.in-Token.n) _ c.found.view_is c.in-Token.is c.lexeme_at-found.ensures.finds) in
    let known : KnowsUnmatched (drop c.loop-at.at (codes_of chars)) c.lexeme_at-found.new.unmatched.single c.lexeme_at-found.new.unmatched.double = simp (take_rest, same) at c.lexeme_at-found.ensures.unmatched in
    let there = c.place-place.ensures.place first ∙ ap (λ (z : List Char). (get_or z c.loop-at.at first).at) c.loop-at.invariant.same in
    let l = codes_length chars in
    let first_length = ap length c.codes-codes.ensures in
    let pushed = simp (take_rest, same) at c.in_ok-push_token-in-Token.ensures in
    let is = token_is chars c.loop-at.at c.in-Token.n first c.in-Token.kind c.loop-at.space (take c.in-Token.n (drop c.loop-at.at (codes_of chars))) c.place-place.result (omega arith) found.1 refl there in
    let tokens = pushed ∙ ap (λ (t : Token). c.loop-at.tokens.items ++ t ∷ []) is in
    record {
      same = ap (λ (r : Reading). r.chars) c.place-place.ensures.after ∙ c.loop-at.invariant.same;
      consumed = omega (arith, ap (λ (r : Reading). r.consumed) c.place-place.ensures.after);
      in_line = line_over_token (codes_of chars) c.args.profile (spellings (drop c.loop-at.start c.loop-at.tokens.items)) c.loop-at.line c.loop-at.at c.in-Token.n c.in-Token.kind c.loop-at.invariant.in_line found.0 found.2;
      state = rw tokens
          (add_token c.args.profile chars c.loop-at.at c.loop-at.start c.in-Token.n c.loop-at.space c.loop-at.tokens.items c.loop-at.lines.items c.in-Token.kind
          (token_of c.in-Token.kind c.loop-at.space (take c.in-Token.n (drop c.loop-at.at chars))) c.loop-at.invariant.state refl found.0 found.2);
      unmatched = knows_later (codes_of chars) c.loop-at.at c.in-Token.n c.lexeme_at-found.new.unmatched.single c.lexeme_at-found.new.unmatched.double known;
    }

pub returns-in-Unclosed : goal.returns-in-Unclosed
returns-in-Unclosed c =
    let chars = c.args.text.now in
    let l = codes_length chars in
    let same = c.codes-codes.ensures in
    let found = simp (take_rest, same) at (found_here _ _ _ c.found.inside.prefix variant.Unclosed _ c.found.view_is c.in-Unclosed.is c.lexeme_at-found.ensures.finds) in
    let first_length = ap length c.codes-codes.ensures in
    let here = c.place.ensures.place first ∙ ap (λ (z : List Char). (get_or z c.loop-at.at first).at) c.loop-at.invariant.same ∙ head_of_drop chars c.loop-at.at first (omega arith) in
    left_unclosed c.args.profile chars c.loop-at.at c.loop-at.start c.loop-at.space c.loop-at.tokens.items c.loop-at.lines.items c.place.result c.loop-at.invariant.state here found

pub returns : goal.returns
returns c =
    let chars = c.args.text.now in
    let first_length = ap length c.codes-codes.ensures in
    rw c.truncate.ensures.items (cut_all c.args.profile chars c.loop-at.at c.loop-at.start c.loop-at.space c.loop-at.tokens.items c.loop-at.lines.items c.loop-at.invariant.state (omega arith))
