use Rattle.std.proofs.Common.{◌≡◌, true, false}
use Rattle.pptext.proofs.Spans.{no_line}
use Rattle.pptext.proofs.Guards.{branch_in, never_closed, closed_if, closed_only_if}
use Rattle.pptext.proofs.grouping.guards.closes_file.Goals as goal

pub ends_file-requires : goal.ends_file-requires
ends_file-requires c = (branch_in c.args.tokens.now c.args.lines.now c.requires.are_lines c.args.at c.in-Some.last no_line c.requires.within (c.requires.opens no_line) c.in-Some.is).1

pub returns-in-Some : goal.returns-in-Some
returns-in-Some c =
    let ends = c.ends_file.ensures no_line in (
      λ t. let e = ends.0 t in closed_if c.args.tokens.now c.args.lines.now c.requires.are_lines c.args.at c.in-Some.last no_line no_line c.requires.within (c.requires.opens no_line) c.in-Some.is e.0 e.1,
      λ closed. ends.1 (closed_only_if c.args.tokens.now c.args.lines.now c.requires.are_lines c.args.at c.in-Some.last no_line no_line c.requires.within (c.requires.opens no_line) c.in-Some.is closed),
    )

pub returns-in-None : goal.returns-in-None
returns-in-None c =
    (λ t. let e : false ≡ true = t in absurd (cc), λ closed. absurd (never_closed c.args.tokens.now c.args.lines.now c.requires.are_lines c.args.at no_line c.requires.within (c.requires.opens no_line) c.in-None.is closed))
