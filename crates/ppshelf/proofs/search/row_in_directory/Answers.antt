use Rattle.std.proofs.Common.{sym, ◌∙◌}
use Rattle.ppshelf.proofs.DotFreePaths.{row_joined}
use Rattle.ppshelf.proofs.search.row_in_directory.Goals as goal

pub returns-then-has_no_dot_segments : goal.returns-then-has_no_dot_segments
returns-then-has_no_dot_segments g c =
    row_joined _ c.args.directory.now c.args.name.now c.as_slice.result.now c.row_of.result
    (sym c.has_no_dot_segments.ensures ∙ c.if-has_no_dot_segments.true)
    (sym c.requires ∙ c.if-dotless.true)
    (c.as_slice.ensures.value ∙ c.in_ok-join_path.ensures)
    c.row_of.ensures.row
