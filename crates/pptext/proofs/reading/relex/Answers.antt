use Rattle.std.proofs.Common.{◌≡◌, [], length, subst, sym, ◌∙◌}
use Rattle.std.proofs.lemmas.Bool.{false≢true}
use Rattle.pptext.specs.declared.lexer.LeadingLexeme.TheVariants as variant
use Rattle.pptext.specs.declared.sources.Profile.TheVariants.{C11}
use Rattle.pptext.specs.Lexemes.{Spelled, IsLexemeAt}
use Rattle.pptext.proofs.SingleTokens.{finds_token, stands_one_token}
use Rattle.pptext.proofs.LexemeMeanings.{found_here, token_meant}
use Rattle.pptext.proofs.reading.relex.Goals as goal

pub returns-in_default : goal.returns-in_default
returns-in_default c = record {
  none = λ k one. absurd (c.in_default.not-Token k (length c.args.text.now)
      (token_meant c.found.inside.prefix k (length c.args.text.now) (c.found.view_is ∙ finds_token c.args.text.now c.next_lexeme-found.result k c.next_lexeme-found.ensures one)));
  some = tt;
}

pub returns-then-n-text-clause-none : goal.returns-then-n-text-clause-none
returns-then-n-text-clause-none c k one =
    let same : variant.Token c.in-Token.kind c.in-Token.n ≡ variant.Token k (length c.args.text.now) =
    sym c.in-Token.is ∙ token_meant c.found.inside.prefix k (length c.args.text.now) (c.found.view_is ∙ finds_token c.args.text.now c.next_lexeme-found.result k c.next_lexeme-found.ensures one) in
    let n : c.in-Token.n ≡ length c.args.text.now = cc in
    absurd (c.if-n-text.true n)

pub returns-clause-some : goal.returns-clause-some
returns-clause-some c =
    let text = c.args.text.now in
    let kind = c.in-Token.kind in
    let here = found_here C11 [] text c.found.inside.prefix (variant.Token kind c.in-Token.n) c.next_lexeme-found.result c.found.view_is c.in-Token.is c.next_lexeme-found.ensures in (
      stands_one_token text kind (subst (λ n. IsLexemeAt C11 [] text n (Spelled kind)) c.if-n-text.false here.2),
      λ unmatched. false≢true (sym c.if-is_unmatched_quote.false ∙ c.is_unmatched_quote.ensures.1 unmatched),
    )
