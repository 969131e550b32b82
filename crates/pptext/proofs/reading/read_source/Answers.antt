use Rattle.std.proofs.Common.{◌≡◌, ℕ, List, [], sym, ap, ◌∙◌, subst, arith, Result, Ok, Err}
use Rattle.pptext.specs.declared.characters.Char.{Char}
use Rattle.pptext.specs.declared.sources.Profile.{Profile}
use Rattle.pptext.specs.declared.sources.Source.{Source}
use Rattle.pptext.specs.declared.error.Error.{Error}
use Rattle.pptext.specs.declared.error.Error.TheVariants.{Fault as Faulted, Memory as OutOfMemory}
use Rattle.pptext.specs.Errors.{UnlessOutOfMemory}
use Rattle.pptext.specs.Clean.{cleaned}
use Rattle.pptext.specs.Lexemes.{Lexeme, Tokenizes}
use Rattle.pptext.specs.Lines.{LogicalLine, lines_of}
use Rattle.pptext.specs.Tree.{group_fault}
use Rattle.pptext.specs.Sources.{lines_from, Reads, spliced_end, open_comment, bad_groups}
use Rattle.pptext.specs.code.FoundLexemes.{TokenizesInto}
use Rattle.pptext.specs.code.CleanedText.{Cleans}
use Rattle.pptext.specs.code.Grouping.{GroupsInto}
use Rattle.pptext.proofs.ErrorReturns.{raised}
use Rattle.pptext.proofs.Spans.{same_lines}
use Rattle.pptext.proofs.Locations.{cleaned_length}
use Rattle.pptext.proofs.reading.read_source.Goals as goal

-- The result of grouping is the result of reading.
grouped : (profile : Profile) (file : ℕ) (bytes : List ℕ) (chars : List Char) (lexemes : List Lexeme) (lines : List LogicalLine) (r : Result Source Error)
    → cleaned profile file bytes ≡ Ok chars
    → Tokenizes profile chars lexemes
    → lines_of profile lexemes ≡ lines
    → UnlessOutOfMemory r (GroupsInto lines)
    → UnlessOutOfMemory r (Reads profile file bytes)
grouped profile file bytes chars lexemes lines (Ok s) clean tokenized are groups =
    record { chars = chars; lexemes = lexemes; cleaned = clean; tokenized = tokenized; grouped = ap (group_fault []) are ∙ groups.1; lines_are = groups.0 ∙ sym are }
grouped profile file bytes chars lexemes lines (Err (Faulted f)) clean tokenized are groups = bad_groups clean tokenized (ap (group_fault []) are ∙ groups)
grouped profile file bytes chars lexemes lines (Err OutOfMemory) clean tokenized are groups = tt

pub group_lines-requires-clause-few : goal.group_lines-requires-clause-few
group_lines-requires-clause-few c =
    let text = subst (Cleans c.args.profile c.args.file c.args.bytes.now) c.in-Ok.is c.in_ok-text.ensures in
    let tokenized = subst (TokenizesInto c.args.profile c.in-Ok.text c.tokenize_lines.new.tokens.items c.tokenize_lines.new.lines.items) c.in_default.is c.in_ok-place.ensures in
    omega (arith, tokenized.4, cleaned_length c.args.profile c.args.file c.args.bytes.now c.in-Ok.text text, c.requires)

pub returns-in-Err : goal.returns-in-Err
returns-in-Err c =
    let text = subst (Cleans c.args.profile c.args.file c.args.bytes.now) c.in-Err.is c.in_ok-text.ensures in
    raised c.bare.result _ (Reads c.args.profile c.args.file c.args.bytes.now) c.bare.ensures (spliced_end text)

pub returns-in-Err-2 : goal.returns-in-Err-2
returns-in-Err-2 c =
    let text = subst (Cleans c.args.profile c.args.file c.args.bytes.now) c.in-Ok.is c.in_ok-text.ensures in
    let unclosed = subst (TokenizesInto c.args.profile c.in-Ok.text c.tokenize_lines.new.tokens.items c.tokenize_lines.new.lines.items) c.in-Err-2.is c.in_ok-place.ensures in
    raised c.bare-in-Err-2.result _ (Reads c.args.profile c.args.file c.args.bytes.now) c.bare-in-Err-2.ensures (open_comment text unclosed)

pub returns : goal.returns
returns c =
    let text = subst (Cleans c.args.profile c.args.file c.args.bytes.now) c.in-Ok.is c.in_ok-text.ensures in
    let same = same_lines c.tokenize_lines.new.tokens.items c.shrink_to_fit.new.self.items c.tokenize_lines.new.lines.items c.shrink_to_fit-2.new.self.items c.shrink_to_fit.ensures.items c.shrink_to_fit-2.ensures.items in
    let tokenized = subst (TokenizesInto c.args.profile c.in-Ok.text c.tokenize_lines.new.tokens.items c.tokenize_lines.new.lines.items) c.in_default.is c.in_ok-place.ensures in
    grouped c.args.profile c.args.file c.args.bytes.now c.in-Ok.text tokenized.0 (lines_from c.shrink_to_fit.new.self.items c.shrink_to_fit-2.new.self.items) c.group_lines.result text tokenized.1 (tokenized.2 ∙ sym same) c.group_lines.ensures
