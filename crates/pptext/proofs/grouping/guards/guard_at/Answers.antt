use Rattle.std.proofs.Common.{◌≡◌, ◌∙◌, ℕ, List, None, Some, true, sym, arith, drop, get_or, length, ◌<◌}
use Rattle.pptext.specs.declared.tokens.Token.{Token}
use Rattle.pptext.specs.Tree.{Opens}
use Rattle.pptext.specs.Sources.{lines_from}
use Rattle.pptext.specs.Guard.{guard_name}
use Rattle.pptext.specs.code.Grouping.{line_role, FlatGuard}
use Rattle.pptext.proofs.Spans.{no_line, line_at, line_from}
use Rattle.pptext.proofs.DirectiveLines.{opens_meant}
use Rattle.pptext.proofs.Guards.{flat_here, only_here, if_none, if_some}
use Rattle.pptext.proofs.grouping.guards.guard_at.Goals as goal

pub returns-in_default : goal.returns-in_default
returns-in_default c = record {
  none = λ x flat. c.in_default.not-Opens (opens_meant c.role_of.result (c.role_of.ensures ∙ (only_here c.args.tokens.now c.args.lines.now c.requires.are_lines c.args.at no_line x c.requires.within (c.requires.some no_line) flat).0));
  some = tt;
}

pub returns-then-not-closes_file-clause-none : goal.returns-then-not-closes_file-clause-none
returns-then-not-closes_file-clause-none c x flat =
    let only = only_here c.args.tokens.now c.args.lines.now c.requires.are_lines c.args.at no_line x c.requires.within (c.requires.some no_line) flat in
    let closes : c.closes_file.result ≡ true = c.closes_file.ensures.1 only.2 in
    let open_ended = c.if-not-closes_file.true in
    cc

pub guard_index-requires-clause-within : goal.guard_index-requires-clause-within
guard_index-requires-clause-within c = omega (arith, (line_at c.args.tokens.now c.args.lines.now c.args.at no_line c.requires.are_lines c.requires.within).behind)

pub returns-clause-none : goal.returns-clause-none
returns-clause-none c =
    if_none c.guard_index.result (guard_name (line_from c.args.tokens.now (get_or c.args.lines.now c.args.at no_line)).tokens ≡ None)
    ((x : List ℕ) → ¬ FlatGuard c.args.at (drop c.args.at (lines_from c.args.tokens.now c.args.lines.now)) x)
    (λ e x flat.
    let name = (only_here c.args.tokens.now c.args.lines.now c.requires.are_lines c.args.at no_line x c.requires.within (c.requires.some no_line) flat).1 in
    cc) c.guard_index.ensures.none

pub returns-clause-some : goal.returns-clause-some
returns-clause-some c =
    let opens : line_role (get_or c.args.lines.now c.args.at no_line) ≡ Opens = sym c.in-Opens.ensures in
    let closed = c.closes_file.ensures.0 c.if-not-closes_file.false in
    let name = guard_name (line_from c.args.tokens.now (get_or c.args.lines.now c.args.at no_line)).tokens in
    if_some c.guard_index.result (λ i. (i < length c.args.tokens.now) × ((d : Token) → name ≡ Some (get_or c.args.tokens.now i d).text))
    (λ i. (i < length c.args.tokens.now)
    × ((d : Token) → FlatGuard c.args.at (drop c.args.at (lines_from c.args.tokens.now c.args.lines.now)) (get_or c.args.tokens.now i d).text))
    (λ i found. (
      found.0,
      λ d. flat_here c.args.tokens.now c.args.lines.now c.requires.are_lines c.args.at no_line (get_or c.args.tokens.now i d).text c.requires.within opens
          (found.1 d) closed,
    )) c.guard_index.ensures.some
