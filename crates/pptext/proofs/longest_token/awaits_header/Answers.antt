use Rattle.std.proofs.Common.{◌≡◌, List, [], ◌∷◌, length, refl}
use Rattle.std.proofs.lemmas.Bool.{false≢true}
use Rattle.pptext.specs.declared.sources.Profile.{Profile}
use Rattle.pptext.specs.declared.tokens.Token.{Token}
use Rattle.pptext.specs.Lexemes.{AwaitsHeader}
use Rattle.pptext.specs.code.FoundLexemes.{spellings}
use Rattle.pptext.proofs.longest_token.awaits_header.Goals as goal

-- a line that awaits a header name has two tokens
awaits_two : (profile : Profile) (line : List Token) → AwaitsHeader profile (spellings line) → length line ≡ 2
awaits_two profile [] h = absurd h
awaits_two profile (x ∷ []) h = absurd h
awaits_two profile (x ∷ y ∷ []) h = refl
awaits_two profile (x ∷ y ∷ z ∷ line) h = absurd h

pub returns-then-line-ne2 : goal.returns-then-line-ne2
returns-then-line-ne2 c = (λ t. absurd (false≢true t), λ a. absurd (c.if-line-ne2.true (awaits_two c.args.profile c.args.line.now a)))
